use Rattle.bc_compose.proofs.OneReport as law
use Rattle.bc_compose.proofs.laws.serial_runs_agree.Goals as goal

pub returns : goal.returns
returns c = law.serial_runs_agree
