use Rattle.std.proofs.Common.{arith}
use Rattle.bc_script.proofs.Fields.{said_number}
use Rattle.bc_script.proofs.field.decimal_number.Goals as goal

pub returns : goal.returns
returns c = said_number c.args.least c.args.most c.args.field.now c.number.result (omega arith) c.number.ensures
