use Rattle.std.proofs.Common.{◌≡◌, ◌++◌, take, map}
use Rattle.bc_report.specs.ReportText.{skip_field}
use Rattle.bc_report.specs.SpacedFields.{spaced}
use Rattle.bc_report.proofs.printing.put_skips.Given as goal

abbrev pub invariant-loop-skip : goal.invariant-loop-skip
invariant-loop-skip l = l.text.items ≡ l.initial.text.items ++ spaced (map skip_field (take l.skip-index l.skipped))
