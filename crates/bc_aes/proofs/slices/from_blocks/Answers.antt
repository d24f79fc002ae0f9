use Rattle.std.proofs.Common.{◌∙◌, ◌≡◌, ◌+◌, ◌*◌, ◌-◌, ◌≤◌, List, ℕ, ap, arith, length, take, drop, length-take-le}
use Rattle.std.proofs.lemmas.List.{length-drop}
use Rattle.bc_aes.specs.Slices.{slices_of, by_rows}
use Rattle.bc_aes.specs.Blocks.{block}
use Rattle.bc_aes.proofs.TransposeLemmas.{loaded, block_of-vector, by_rows-twice}
use Rattle.bc_aes.proofs.slices.from_blocks.Goals as goal

length-block : (text : List ℕ) (k : ℕ) → 16 * k + 16 ≤ length text → length (block text k) ≡ 16
length-block text k h =
    let size : (16 * k + 16) - 16 * k ≡ 16 = omega arith in
    ap (λ n. length (take n (drop (16 * k) text))) size ∙ length-take-le 16 (drop (16 * k) text) (omega (arith, length-drop (16 * k) text))

pub returns : goal.returns
returns c = record {
  takes = λ k lt. block_of-vector (slices_of c.transposed.result) k ∙ ap by_rows (c.transposed.ensures.into_slices k lt
      ∙ loaded (record {
        s0 = c.vector_at.result;
        s1 = c.vector_at-2.result;
        s2 = c.vector_at-3.result;
        s3 = c.vector_at-4.result;
        s4 = c.vector_at-5.result;
        s5 = c.vector_at-6.result;
        s6 = c.vector_at-7.result;
        s7 = c.vector_at-8.result;
      }) c.args.piece.now c.vector_at.ensures.holds c.vector_at-2.ensures.holds c.vector_at-3.ensures.holds c.vector_at-4.ensures.holds
      c.vector_at-5.ensures.holds c.vector_at-6.ensures.holds c.vector_at-7.ensures.holds c.vector_at-8.ensures.holds k lt)
      ∙ by_rows-twice (block c.args.piece.now k) (length-block c.args.piece.now k (omega (arith, lt)));
}
