use Rattle.std.proofs.Common.{◌∙◌}
use Rattle.bc_section.proofs.Equal.{shifted}
use Rattle.bc_section.proofs.read_answer.are_equal.Goals as goal

pub returns : goal.returns
returns c = λ first others is. c.eq.ensures ∙ shifted c.args.bytes.now first others is
