use Rattle.std.proofs.Common.{◌≡◌, map, take, Some}
use Rattle.bc_serial.proofs.one_caller.answers_of.Given as goal

abbrev pub invariant-loop-answer : goal.invariant-loop-answer
invariant-loop-answer l = record {
  answers : map (λ a. Some a) l.answers.items ≡ take l.answer-index l.noted;
}
