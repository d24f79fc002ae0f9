use Rattle.bc_script.proofs.Fields.{said_byte}
use Rattle.bc_script.proofs.field.fill_byte.Goals as goal

pub returns : goal.returns
returns c = said_byte c.args.field.now c.byte.result c.byte.ensures
