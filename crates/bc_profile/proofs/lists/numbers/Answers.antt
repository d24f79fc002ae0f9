use Rattle.std.proofs.Common.{◌∙◌, ◌++◌, ◌∷◌, [], length, sym, ap, arith}
use Rattle.std.specs.List.{range_with_len}
use Rattle.std.proofs.lemmas.List.FromFn.{length-range_with_len}
use Rattle.bc_profile.proofs.OpeningLemmas.{range_push}
use Rattle.bc_profile.proofs.lists.numbers.Goals as goal

pub push_reserved-requires : goal.push_reserved-requires
push_reserved-requires c =
    let many = c.loop-number.numbers.ok.0 ∙ ap length c.loop-number.invariant.numbers ∙ length-range_with_len 0 c.loop-number.number in
    omega (arith, many, c.loop-number-test.true, c.loop-number.invariant.room)

pub loop-number-preserved : goal.loop-number-preserved
loop-number-preserved c = record {
  numbers = c.push_reserved.ensures.items ∙ ap (λ l. l ++ c.from-in-loop-number.result ∷ []) c.loop-number.invariant.numbers ∙ ap (λ n. range_with_len 0 c.loop-number.number ++ n ∷ []) c.from-in-loop-number.ensures ∙ sym (range_push c.loop-number.number);
  room = let r = c.loop-number.invariant.room in omega (arith, r, c.push_reserved.ensures.capacity);
}
