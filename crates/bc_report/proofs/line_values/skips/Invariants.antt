use Rattle.std.proofs.Common.{length}
use Rattle.bc_report.proofs.NoValue.{SkipsSoFar}
use Rattle.bc_report.proofs.line_values.skips.Given as goal

abbrev pub invariant-loop-field : goal.invariant-loop-field
invariant-loop-field l = SkipsSoFar l.fn.fields l.skips l.fields

abbrev pub decreases-loop-field : goal.decreases-loop-field
decreases-loop-field l = length l.fields
