use Rattle.bc_report.proofs.Same.{no_text_begins_another}
use Rattle.bc_report.proofs.laws.no_proper_prefix.Goals as goal

pub returns : goal.returns
returns c = no_text_begins_another
