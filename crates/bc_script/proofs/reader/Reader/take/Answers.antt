use Rattle.bc_script.proofs.Readings.{took}
use Rattle.bc_script.proofs.reader.Reader.take.Goals as goal

pub returns-in-Ok-add-clause-ok : goal.returns-in-Ok-add-clause-ok
returns-in-Ok-add-clause-ok c = took c.args.self.now c.args.line c.in-Ok.statement c.add.new.self c.in-Ok.ensures.ok c.in-Ok-add.ensures.ok
