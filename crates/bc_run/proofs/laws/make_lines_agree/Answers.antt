use Rattle.bc_run.proofs.MakeLines as law
use Rattle.bc_run.proofs.laws.make_lines_agree.Goals as goal

pub returns : goal.returns
returns c = law.made_lines_agree
