use Rattle.std.proofs.Common.{◌≡◌, map, take}
use Rattle.bc_threads.specs.Outcomes.{answer_in}
use Rattle.bc_threads.proofs.outcome.answers_of.Given as goal

abbrev pub invariant-loop-outcome : goal.invariant-loop-outcome
invariant-loop-outcome l = record { answers : l.answers.items ≡ map answer_in (take l.outcome-index l.outcomes) }
