use Rattle.std.proofs.Common.{map, take, sym, ap, ◌∙◌}
use Rattle.bc_modes.specs.UnitCipher.{parts_of}
use Rattle.bc_script.specs.declared.named_key.NamedKey.{NamedKey}
use Rattle.bc_serial.proofs.ciphers.Ciphers.of_keys.Goals as goal
use Rattle.bc_base.proofs.Members.{map-map}

pub invariant_of-result : goal.invariant_of-result
invariant_of-result c =
    c.loop-one.invariant.ciphers
    ∙ sym (map-map (λ (named : NamedKey). named.key) parts_of (take c.loop-one.one-index c.args.named.now))
    ∙ ap (map parts_of) (sym c.loop-one.invariant.keys)
