use Rattle.std.proofs.Common.{ap, ◌∙◌, List, ℕ}
use Rattle.bc_aes.specs.State.{add_round_key}
use Rattle.bc_aes.specs.Cipher.{last_round}
use Rattle.bc_aes.specs.Columns.{state_bytes}
use Rattle.bc_aes.proofs.RoundLemmas.{state_bytes-substituted}
use Rattle.bc_aes.proofs.rounds.last_round.Goals as goal

pub returns : goal.returns
unfolding last_round
returns c = record {
  ends = c.added.ensures.adds
      ∙ ap (λ (s : List ℕ). add_round_key s (state_bytes c.args.key))
      (state_bytes-substituted c.args.state _ _ _ _ c.substituted.ensures.substitutes c.substituted-2.ensures.substitutes c.substituted-3.ensures.substitutes c.substituted-4.ensures.substitutes);
}
