use Rattle.std.proofs.Common.{List, ℕ, ap, ◌∙◌}
use Rattle.bc_aes.specs.State.{add_round_key}
use Rattle.bc_aes.specs.Slices.{slices_of, sliced_block}
use Rattle.bc_aes.specs.SlicedRounds.{bare_inv_sub_bytes}
use Rattle.bc_aes.proofs.FoldLemmas.{inv_last_round-raised}
use Rattle.bc_aes.proofs.eight.inv_last_round.Goals as goal

pub returns : goal.returns
returns c = record {
  ends = record {
    each = λ k h. c.add.ensures.adds.each k h
        ∙ ap (λ (s : List ℕ). add_round_key s (sliced_block (slices_of c.args.key) k))
        (c.inv_sub_bytes.ensures.substitutes.each k h ∙ ap bare_inv_sub_bytes (c.inv_shift_rows.ensures.shifts_back.each k h))
        ∙ inv_last_round-raised (slices_of c.args.q) k (sliced_block (slices_of c.args.key) k);
  };
}
