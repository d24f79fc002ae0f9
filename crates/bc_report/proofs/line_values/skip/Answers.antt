use Rattle.bc_report.proofs.NoValue.{skip_read}
use Rattle.bc_report.proofs.line_values.skip.Goals as goal

pub returns : goal.returns
returns c = skip_read c.args.field.now c.halves.result (rw c.new.ensures at c.halves.ensures)
