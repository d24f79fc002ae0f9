use Rattle.std.proofs.Common.{◌≡◌, ◌++◌, take}
use Rattle.std.specs.List.{flat_map, enumerate_from}
use Rattle.bc_text.specs.Lines.{lines_text}
use Rattle.bc_report.specs.ReportText.{thread_lines}
use Rattle.bc_report.proofs.printing.put_threads.Given as goal

abbrev pub invariant-loop-number : goal.invariant-loop-number
invariant-loop-number l = l.text.items ≡ l.initial.text.items ++ lines_text (flat_map thread_lines (enumerate_from 0 (take l.number l.threads)))
