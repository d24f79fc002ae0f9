use Rattle.std.proofs.Common.{◌≡◌, ℕ, List, [], ◌∷◌, ◌++◌, length, take, map, ◌∙◌, sym, ap, ap₂, arith, zero-add}
use Rattle.std.specs.List.{range_with_len}
use Rattle.std.proofs.lemmas.List.{take_more_set, take_all}
use Rattle.std.proofs.lemmas.List.FromFn.{map-range_with_len_more}
use Rattle.bc_speed.specs.Units.{text_byte, texts_of}
use Rattle.bc_speed.proofs.units.fill.Goals as goal

pub loop-i-preserved : goal.loop-i-preserved
loop-i-preserved c =
    let i : ℕ = c.loop-i.i in
    take_more_set c.loop-i.texts i _ (omega arith)
    ∙ ap₂ (λ (xs : List ℕ) (b : ℕ). xs ++ b ∷ []) c.loop-i.invariant c.text_byte.ensures
    ∙ sym (map-range_with_len_more text_byte 0 i i (zero-add i))

pub returns : goal.returns
returns c =
    let all : c.loop-i.i ≡ length c.args.texts.now = omega arith in
    sym (take_all c.loop-i.i c.loop-i.texts (omega arith)) ∙ c.loop-i.invariant ∙ ap texts_of all
