use Rattle.std.proofs.Common.{List, ℕ, ap, ◌∙◌}
use Rattle.bc_aes.specs.State.{mix_columns, add_round_key}
use Rattle.bc_aes.specs.Slices.{slices_of, sliced_block}
use Rattle.bc_aes.specs.SlicedRounds.{bare_sub_bytes}
use Rattle.bc_aes.proofs.FoldLemmas.{round-raised}
use Rattle.bc_aes.proofs.eight.round.Goals as goal

pub returns : goal.returns
returns c = record {
  goes_on = record {
    each = λ k h. c.add.ensures.adds.each k h
        ∙ ap (λ (s : List ℕ). add_round_key s (sliced_block (slices_of c.args.key) k))
        (c.mix_columns.ensures.mixes.each k h
        ∙ ap (λ (s : List ℕ). mix_columns s) (c.sub_bytes.ensures.substitutes.each k h ∙ ap bare_sub_bytes (c.shift_rows.ensures.shifts.each k h)))
        ∙ round-raised (slices_of c.args.q) k (sliced_block (slices_of c.args.key) k);
  };
}
