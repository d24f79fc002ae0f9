use Rattle.std.proofs.Common.{sym, ◌∙◌}
use Rattle.std.proofs.lemmas.Bool.{eqb-true}
use Rattle.bc_report.proofs.NoValue.{too_many_skips, no_such_skip}
use Rattle.bc_report.proofs.line_values.skips.Goals as goal

pub returns-then-is_full : goal.returns-then-is_full
returns-then-is_full c = too_many_skips c.args.fields c.loop-field.skips c.loop-field.fields c.next.new.self c.in-Some.field.now c.loop-field.invariant c.in-Some.ensures (eqb-true _ _ (sym c.is_full.ensures.full ∙ c.if-is_full.true))

pub returns-in_err-skip : goal.returns-in_err-skip
returns-in_err-skip c =
    rw c.from_residual-in_err-skip.ensures
    (no_such_skip c.args.fields c.loop-field.skips c.loop-field.fields c.next.new.self c.in-Some.field.now c.loop-field.invariant c.in-Some.ensures c.in_err-skip.ensures)
