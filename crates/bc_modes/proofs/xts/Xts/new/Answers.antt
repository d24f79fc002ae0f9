use Rattle.std.proofs.Common.{◌∙◌, ◌++◌, ap₂, List, ℕ, drop, arith}
use Rattle.std.proofs.lemmas.List.{take-append-drop, take_all, length-drop}
use Rattle.bc_modes.proofs.xts.Xts.new.Goals as goal

pub returns : goal.returns
returns c =
    let raw = c.args.raw.now in
    ap₂ (λ (xs ys : List ℕ). xs ++ ys)
    (c.new.ensures.expands ∙ c.copy_from_slice.ensures.after)
    (c.new-2.ensures.expands ∙ c.copy_from_slice-2.ensures.after ∙ take_all 32 (drop 32 raw) (omega (arith, length-drop 32 raw)))
    ∙ take-append-drop 32 raw
