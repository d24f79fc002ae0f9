use Rattle.std.proofs.Common.{◌≡◌, ◌++◌, take, map}
use Rattle.bc_text.specs.Lines.{lines_text}
use Rattle.bc_report.specs.ReportText.{event_line}
use Rattle.bc_report.proofs.printing.put_device.Given as goal

abbrev pub invariant-loop-event : goal.invariant-loop-event
invariant-loop-event l = l.text.items ≡ l.initial.text.items ++ lines_text (map event_line (take l.event-index l.events))
