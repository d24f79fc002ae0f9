use Rattle.std.proofs.Common.{◌≡◌, List, ℕ, ap, ap₂, ◌∙◌}
use Rattle.bc_aes.specs.State.{add_round_key}
use Rattle.bc_aes.specs.Slices.{slices_of, sliced_block}
use Rattle.bc_aes.specs.SlicedRounds.{turned, doubled}
use Rattle.bc_aes.proofs.SliceLemmas.{small-block_of}
use Rattle.bc_aes.proofs.MixLemmas.{mix_columns-by_doubling}
use Rattle.bc_aes.proofs.layers.mix_columns.Goals as goal

pub returns : goal.returns
returns c = record {
  mixes = record {
    each = λ k h.
        let s : List ℕ = sliced_block (slices_of c.args.q) k in
        let next : sliced_block (slices_of c.turned-next.result) k ≡ turned 1 s = c.turned-next.ensures.turns.each k h in
        let sums : sliced_block (slices_of c.add-sums.result) k ≡ add_round_key s (turned 1 s) =
        c.add-sums.ensures.adds.each k h ∙ ap (add_round_key s) next in
        let first : sliced_block (slices_of c.add.result) k ≡ add_round_key (doubled (add_round_key s (turned 1 s))) (turned 1 s) =
        c.add.ensures.adds.each k h ∙ ap₂ (λ (x y : List ℕ). add_round_key x y) (c.doubled.ensures.doubles.each k h ∙ ap doubled sums) next in
        c.add-2.ensures.adds.each k h
        ∙ ap₂ (λ (x y : List ℕ). add_round_key x y) first (c.turned_twice.ensures.turns.each k h ∙ ap (turned 2) sums)
        ∙ mix_columns-by_doubling s (small-block_of (slices_of c.args.q) k);
  };
}
