use Rattle.std.proofs.Common.{◌≡◌, map}
use Rattle.std.specs.Option.{option_map}
use Rattle.bc_threads.specs.Runs.{answers_in}
use Rattle.bc_threads.proofs.many_callers.taken_apart.Given as goal

abbrev pub invariant-loop-job : goal.invariant-loop-job
invariant-loop-job l = record {
  passes : l.passes.items ≡ map (λ job. job.pass) l.yielded;
  answers : l.answers.items ≡ map (λ job. answers_in (option_map (λ outcomes. outcomes.items) job.outcomes)) l.yielded;
}
