use Rattle.bc_run.proofs.Texts.{written_texts_agree}
use Rattle.bc_run.proofs.laws.serial_runs_agree.Goals as goal

pub returns-clause-texts : goal.returns-clause-texts
returns-clause-texts c = written_texts_agree c.serial_runs_agree.ensures c.no_proper_prefix.ensures
