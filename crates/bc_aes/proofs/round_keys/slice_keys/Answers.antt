use Rattle.std.proofs.Common.{arith, ◌∙◌, ap}
use Rattle.bc_aes.specs.Slices.{slices_of, by_rows}
use Rattle.bc_aes.proofs.TransposeLemmas.{block_of-vector, by_rows-twice}
use Rattle.bc_aes.specs.Columns.{schedule_bytes}
use Rattle.bc_aes.proofs.RoundKeyLemmas.{round_keys-more}
use Rattle.bc_aes.proofs.round_keys.slice_keys.Goals as goal

pub loop-round-preserved : goal.loop-round-preserved
loop-round-preserved c =
    round_keys-more (schedule_bytes c.args.schedule.now) c.loop-round.keys c.loop-round.round c.in_all_blocks.result (omega arith) c.loop-round.invariant
    (λ k h. block_of-vector (slices_of c.in_all_blocks.result) k ∙ ap by_rows (c.in_all_blocks.ensures.holds k h ∙ c.by_rows.ensures)
    ∙ by_rows-twice c.store-block.result (omega arith) ∙ c.store-block.ensures.holds ∙ c.key_with_constant.ensures.holds)

pub returns : goal.returns
returns c = record {
  slices = record { each = λ round k d lt h. c.loop-round.invariant round (omega arith) k d h };
}
