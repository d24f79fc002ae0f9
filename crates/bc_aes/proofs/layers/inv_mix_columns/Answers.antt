use Rattle.std.proofs.Common.{◌≡◌, List, ℕ, ap, ◌∙◌}
use Rattle.bc_aes.specs.State.{mix_columns, add_round_key}
use Rattle.bc_aes.specs.Slices.{slices_of, sliced_block}
use Rattle.bc_aes.specs.SlicedRounds.{turned, doubled}
use Rattle.bc_aes.proofs.SliceLemmas.{small-block_of}
use Rattle.bc_aes.proofs.MixLemmas.{inv_mix_columns-by_lifting}
use Rattle.bc_aes.proofs.layers.inv_mix_columns.Goals as goal

pub returns : goal.returns
returns c = record {
  unmixes = record {
    each = λ k h.
        let s : List ℕ = sliced_block (slices_of c.args.q) k in
        let sums : sliced_block (slices_of c.add.result) k ≡ add_round_key s (turned 2 s) =
        c.add.ensures.adds.each k h ∙ ap (add_round_key s) (c.turned_twice.ensures.turns.each k h) in
        let four_times : sliced_block (slices_of c.doubled-2.result) k ≡ doubled (doubled (add_round_key s (turned 2 s))) =
        c.doubled-2.ensures.doubles.each k h ∙ ap doubled (c.doubled.ensures.doubles.each k h ∙ ap doubled sums) in
        c.mix_columns.ensures.mixes.each k h
        ∙ ap (λ (x : List ℕ). mix_columns x) (c.add-2.ensures.adds.each k h ∙ ap (add_round_key s) four_times)
        ∙ inv_mix_columns-by_lifting s (small-block_of (slices_of c.args.q) k);
  };
}
