use Rattle.std.proofs.Common.{map}
use Rattle.bc_threads.specs.Runs.{AreJobs}
use Rattle.bc_threads.proofs.many_callers.jobs_of.Given as goal

abbrev pub invariant-loop-pass : goal.invariant-loop-pass
invariant-loop-pass l = record {
  jobs : AreJobs l.script l.yielded (map (λ job. (job.pass, job.section)) l.jobs.items);
}
