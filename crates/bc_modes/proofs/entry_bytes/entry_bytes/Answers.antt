use Rattle.std.proofs.Common.{ℕ, List, ◌++◌, length, drop, replicate, refl, ap, ap₂, ◌∙◌, arith}
use borrow.Rule.Slice.PartMut.{put_mid}
use Rattle.bc_key.specs.declared.config.Config.{Config}
use Rattle.bc_modes.specs.Entries.{key_bytes, settings}
use Rattle.bc_modes.proofs.EntryLaws.{entry_written, short}
use Rattle.bc_modes.proofs.entry_bytes.entry_bytes.Goals as goal

pub returns : goal.returns
returns c =
    let key = c.args.key.now in
    let raw = c.raw-raw.result.now in
    let written : List ℕ = settings key.config.unit c.args.index in
    ap₂ (λ (xs ys : List ℕ). put_mid 64 8 (xs ++ drop (length raw) (replicate 72 0)) ys) c.copy_from_slice.ensures.after
    (c.copy_from_slice-2.ensures.after ∙ c.settings.ensures ∙ ap (λ (config : Config). settings config.unit c.args.index) c.config.ensures.config)
    ∙ entry_written raw written (omega (arith, short key c.raw-raw.ensures.valid, ap length c.raw-raw.ensures.raw)) refl
    ∙ ap (λ (raw : List ℕ). key_bytes raw ++ written) c.raw-raw.ensures.raw
