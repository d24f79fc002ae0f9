use Rattle.std.proofs.Common.{◌≡◌, ◌++◌, take, map}
use Rattle.bc_text.specs.Lines.{lines_text}
use Rattle.bc_report.specs.ReportText.{answer_line}
use Rattle.bc_report.proofs.printing.put_thread.Given as goal

abbrev pub invariant-loop-answer : goal.invariant-loop-answer
invariant-loop-answer l = l.text.items ≡ l.initial.text.items ++ lines_text (map answer_line (take l.answer-index l.answers))
