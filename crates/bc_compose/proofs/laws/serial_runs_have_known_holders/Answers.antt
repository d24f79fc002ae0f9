use Rattle.bc_compose.proofs.Holders.{known_holders}
use Rattle.bc_compose.proofs.laws.serial_runs_have_known_holders.Goals as goal

pub returns : goal.returns
returns c = known_holders
