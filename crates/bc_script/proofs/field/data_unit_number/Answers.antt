use Rattle.bc_script.proofs.Fields.{said_data_unit_number}
use Rattle.bc_script.proofs.field.data_unit_number.Goals as goal

pub returns : goal.returns
returns c = said_data_unit_number c.args.field.now c.from_hex.result c.from_hex.ensures.reads
