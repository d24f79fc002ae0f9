use Rattle.std.proofs.Common.{◌≡◌, true, Some, rules, ap, ◌∙◌, slice_index, take}
use Rattle.bc_key.specs.KeyData.{key_size}
use Rattle.bc_modes.specs.Entries.{is_enabled, capability_of, served_unit, parts_in}
use Rattle.bc_modes.proofs.EntryLaws.{read_ok, key_within, enabled_by}
use Rattle.bc_modes.proofs.entry.cipher_of_bytes.Goals as goal

pub returns : goal.returns
returns c =
    let bytes = c.args.bytes.now in
    let capability = c.in-Some.capability in
    let unit = c.in-Some-served_unit.unit in
    let enabled : is_enabled bytes ≡ true = enabled_by bytes (search rules) c.if-bytes-eq0.false in
    let named : capability_of bytes c.args.caps.now ≡ Some capability = search rules in
    let served : served_unit capability (slice_index bytes 64) ≡ Some unit = search rules in
    let raw : c.of_parts.result.raw ≡ (parts_in bytes capability unit).raw =
    c.of_parts.ensures.raw ∙ ap (λ xs. take (key_size capability.mode) xs) c.copy_from_slice.ensures.after ∙ key_within bytes capability.mode in
    read_ok bytes c.args.caps.now capability unit c.of_parts.result enabled named served (search rules)
