use Rattle.bc_aes.proofs.RoundLemmas.{state_bytes-xor}
use Rattle.bc_aes.proofs.rounds.added.Goals as goal

pub returns : goal.returns
returns c = record { adds = state_bytes-xor c.args.state c.args.key }
