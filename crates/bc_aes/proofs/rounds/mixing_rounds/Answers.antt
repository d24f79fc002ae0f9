use Rattle.std.proofs.Common.{List, ℕ, ap₂, sym, ◌∙◌}
use Rattle.bc_aes.specs.State.{add_round_key}
use Rattle.bc_aes.specs.Cipher.{round}
use Rattle.bc_aes.specs.Columns.{schedule_bytes}
use Rattle.bc_aes.proofs.RoundLemmas.{after_round-none, after_round-more}
use Rattle.bc_aes.proofs.rounds.mixing_rounds.Goals as goal

pub loop-before-init : goal.loop-before-init
loop-before-init c =
    c.added-state.ensures.adds ∙ ap₂ (λ (s k : List ℕ). add_round_key s k) c.load.ensures.holds c.key_of_round.ensures.holds
    ∙ sym (after_round-none (schedule_bytes c.args.schedule.now) c.args.block.now)

pub loop-before-preserved : goal.loop-before-preserved
loop-before-preserved c =
    c.round-next.ensures.goes_on ∙ ap₂ (λ (s k : List ℕ). round s k) c.loop-before.invariant c.key_of_round-key.ensures.holds
    ∙ sym (after_round-more (schedule_bytes c.args.schedule.now) c.args.block.now c.loop-before.before)
