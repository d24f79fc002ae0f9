use Rattle.std.proofs.Common.{◌∷◌, length}
use Rattle.bc_report.proofs.Parsed.{Underway}
use Rattle.bc_report.proofs.parser.parse.Given as goal

abbrev pub invariant-loop-next : goal.invariant-loop-next
invariant-loop-next l = Underway l.text l.reader (l.line ∷ l.lines) l.number

abbrev pub decreases-loop-next : goal.decreases-loop-next
decreases-loop-next l = length l.lines
