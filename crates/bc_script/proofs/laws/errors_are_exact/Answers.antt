use Rattle.bc_script.proofs.Whole.{errors_exact}
use Rattle.bc_script.proofs.laws.errors_are_exact.Goals as goal

pub returns : goal.returns
returns c = errors_exact
