use Rattle.std.proofs.Common.{refl}
use Rattle.bc_report.proofs.laws.one_text_for_each_report.Goals as goal

pub returns : goal.returns
returns c = record { has_text = λ report valid. record { valid = valid; text_is = refl }; no_other = λ report text says. says.text_is }
