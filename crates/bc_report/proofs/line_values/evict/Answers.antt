use Rattle.bc_report.proofs.NoValue.{no_evict}
use Rattle.bc_report.proofs.line_values.evict.Goals as goal

pub returns-in_err-slot : goal.returns-in_err-slot
returns-in_err-slot c = rw c.from_residual.ensures (no_evict c.args.fields c.in_err-slot.ensures)
