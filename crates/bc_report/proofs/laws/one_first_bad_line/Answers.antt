use Rattle.bc_report.proofs.Same.{one_first_bad}
use Rattle.bc_report.proofs.laws.one_first_bad_line.Goals as goal

pub returns : goal.returns
returns c = record { one = one_first_bad; no_report = λ text line report bad says. bad.no_report report says.valid says.text_is }
