use Rattle.std.proofs.Common.{ap, ◌∙◌, List, ℕ}
use Rattle.bc_aes.specs.State.{add_round_key}
use Rattle.bc_aes.specs.Columns.{state_bytes}
use Rattle.bc_aes.proofs.RoundLemmas.{state_bytes-unmixed}
use Rattle.bc_aes.proofs.rounds.equivalent_inv_round.Goals as goal

pub returns : goal.returns
returns c = record {
  goes_on = c.added.ensures.adds
      ∙ ap (λ (s : List ℕ). add_round_key s (state_bytes c.args.key))
      (state_bytes-unmixed c.args.state _ _ _ _ c.unmixed.ensures.unmixes c.unmixed-2.ensures.unmixes c.unmixed-3.ensures.unmixes c.unmixed-4.ensures.unmixes);
}
