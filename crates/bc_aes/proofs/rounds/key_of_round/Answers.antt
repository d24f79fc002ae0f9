use Rattle.bc_aes.proofs.RoundLemmas.{round_key-schedule}
use Rattle.bc_aes.proofs.rounds.key_of_round.Goals as goal

pub returns : goal.returns
returns c = record { holds = round_key-schedule c.args.schedule.now c.args.round c.requires }
