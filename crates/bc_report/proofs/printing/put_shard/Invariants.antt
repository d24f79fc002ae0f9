use Rattle.std.proofs.Common.{◌≡◌, ◌++◌, take, map}
use Rattle.bc_text.specs.Lines.{lines_text}
use Rattle.bc_report.specs.ReportText.{entry_line}
use Rattle.bc_report.proofs.printing.put_shard.Given as goal

abbrev pub invariant-loop-entry : goal.invariant-loop-entry
invariant-loop-entry l = l.text.items ≡ l.initial.text.items ++ lines_text (map entry_line (take l.entry-index l.entries))
