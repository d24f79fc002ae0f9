use Rattle.bc_report.proofs.NoValue.{no_busy}
use Rattle.bc_report.proofs.line_values.busy.Goals as goal

pub returns-in_err-device : goal.returns-in_err-device
returns-in_err-device c = rw c.from_residual.ensures (no_busy c.args.fields c.in_err-device.ensures)
