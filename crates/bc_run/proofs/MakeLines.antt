-- The first number of `make` decides its line.
use Rattle.std.proofs.Common.{◌∙◌, sym, ap}
use Rattle.bc_run.specs.Making.{made_line}
use Rattle.bc_run.specs.Laws.{MadeLinesAgree}

pub made_lines_agree : MadeLinesAgree
made_lines_agree options other_options one other same p q = sym p.done ∙ ap made_line same ∙ q.done
