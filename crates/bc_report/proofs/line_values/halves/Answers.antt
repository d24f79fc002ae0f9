use Rattle.std.proofs.Common.{arith}
use Rattle.bc_report.proofs.line_values.halves.Goals as goal

pub returns-in_err-slot : goal.returns-in_err-slot
returns-in_err-slot c = rw c.from_residual.ensures (λ skip valid e. c.in_err-slot.ensures (skip.slot, skip.refs) (omega arith, omega arith) e)
