use Rattle.bc_run.proofs.MakeEnds.{no_fault}
use Rattle.bc_run.proofs.make.make.Goals as goal

pub returns-in-Ok-clause-cause : goal.returns-in-Ok-clause-cause
returns-in-Ok-clause-cause g c = no_fault _ _ _ c.write_line.ensures.cause
