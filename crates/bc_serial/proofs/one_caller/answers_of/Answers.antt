use Rattle.std.proofs.Common.{◌≡◌, ◌<◌, List, length, get_or, subst, None, Option}
use Rattle.bc_report.specs.declared.answer.Answer.{Answer}
use Rattle.bc_serial.proofs.Windowing.{none_noted}
use Rattle.bc_serial.proofs.one_caller.answers_of.Goals as goal

pub unreachable-requires : goal.unreachable-requires
unreachable-requires c =
    none_noted c.requires.all.0 c.loop-answer.answer-index
    (subst (λ (l : List (Option Answer)). c.loop-answer.answer-index < length l) c.requires.all.1 c.loop-answer-test.true)
    (subst (λ (l : List (Option Answer)). get_or l c.loop-answer.answer-index None ≡ None) c.requires.all.1 c.in_default.is)
