use Rattle.std.proofs.Common.{ap, ◌∙◌, List, ℕ}
use Rattle.bc_aes.specs.State.{add_round_key}
use Rattle.bc_aes.specs.Cipher.{inv_last_round}
use Rattle.bc_aes.specs.Columns.{state_bytes}
use Rattle.bc_aes.proofs.RoundLemmas.{state_bytes-unsubstituted}
use Rattle.bc_aes.proofs.rounds.inv_last_round.Goals as goal

pub returns : goal.returns
unfolding inv_last_round
returns c = record {
  ends = c.added.ensures.adds
      ∙ ap (λ (s : List ℕ). add_round_key s (state_bytes c.args.key))
      (state_bytes-unsubstituted c.args.state _ _ _ _ c.unsubstituted.ensures.substitutes c.unsubstituted-2.ensures.substitutes c.unsubstituted-3.ensures.substitutes c.unsubstituted-4.ensures.substitutes);
}
