use Rattle.std.proofs.Common.{ap, ◌∙◌, List, ℕ}
use Rattle.bc_aes.specs.State.{add_round_key}
use Rattle.bc_aes.specs.Cipher.{round}
use Rattle.bc_aes.specs.Columns.{state_bytes}
use Rattle.bc_aes.proofs.RoundLemmas.{state_bytes-mixed}
use Rattle.bc_aes.proofs.rounds.round.Goals as goal

pub returns : goal.returns
unfolding round
returns c = record {
  goes_on = c.added.ensures.adds
      ∙ ap (λ (s : List ℕ). add_round_key s (state_bytes c.args.key))
      (state_bytes-mixed c.args.state _ _ _ _ c.mixed.ensures.mixes c.mixed-2.ensures.mixes c.mixed-3.ensures.mixes c.mixed-4.ensures.mixes);
}
