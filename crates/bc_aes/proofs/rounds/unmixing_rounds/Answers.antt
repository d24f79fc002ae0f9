use Rattle.std.proofs.Common.{List, ℕ, ◌+◌, ◌-◌, ◌/◌, length, ap₂, sym, ◌∙◌, arith}
use Rattle.bc_aes.specs.State.{add_round_key, inv_mix_columns, inv_sub_bytes, inv_shift_rows}
use Rattle.bc_aes.specs.Columns.{schedule_bytes}
use Rattle.bc_aes.proofs.RoundLemmas.{after_inv_round-none, after_inv_round-more, round_key-unmixed}
use Rattle.bc_aes.proofs.rounds.unmixing_rounds.Goals as goal

pub loop-before-init : goal.loop-before-init
loop-before-init c =
    c.added-state.ensures.adds ∙ ap₂ (λ (s k : List ℕ). add_round_key s k) c.load.ensures.holds c.key_of_round.ensures.holds
    ∙ sym (after_inv_round-none (length c.args.schedule.now / 4 - 1) (schedule_bytes c.args.schedule.now) c.args.block.now)

pub loop-before-preserved : goal.loop-before-preserved
loop-before-preserved c =
    let words : List ℕ = c.args.schedule.now in
    let last : ℕ = length words / 4 - 1 in
    let key : ℕ = last - (c.loop-before.before + 1) in
    c.equivalent_inv_round-next.ensures.goes_on
    ∙ ap₂ (λ (s k : List ℕ). add_round_key (inv_mix_columns (inv_sub_bytes (inv_shift_rows s))) k)
    c.loop-before.invariant
    (c.key_of_round-key.ensures.holds ∙ round_key-unmixed words c.args.unmixed_schedule.now key c.requires.unmixed (omega arith) (omega arith))
    ∙ sym (after_inv_round-more last (schedule_bytes words) c.args.block.now c.loop-before.before)
