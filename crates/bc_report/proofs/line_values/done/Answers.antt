use Rattle.bc_report.proofs.NoValue.{no_fill}
use Rattle.bc_report.proofs.line_values.done.Goals as goal

pub returns-in_err-byte : goal.returns-in_err-byte
returns-in_err-byte c =
    rw c.from_residual-in_err-byte.ensures
    (no_fill c.args.fields c.in_ok-form.form.now c.in_ok-form.digits.now c.in_ok-form.ensures (c.is.ensures.0 c.if-is.true) c.in_err-byte.ensures)
