use Rattle.bc_report.proofs.NoValue.{no_inline}
use Rattle.bc_report.proofs.line_values.inline.Goals as goal

pub returns-in_err-device : goal.returns-in_err-device
returns-in_err-device c = rw c.from_residual.ensures (no_inline c.args.fields c.in_err-device.ensures)
