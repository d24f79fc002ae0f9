use Rattle.std.proofs.Common.{sym, ◌∙◌}
use Rattle.bc_report.proofs.Same.{one_report}
use Rattle.bc_report.proofs.laws.one_report_for_each_text.Goals as goal

pub returns : goal.returns
returns c = λ a b text p q. one_report a b p.valid q.valid (sym p.text_is ∙ q.text_is)
