use Rattle.std.proofs.Common.{◌∙◌, refl}
use Rattle.bc_threads.proofs.Apart.{next_jobs}
use Rattle.bc_threads.proofs.many_callers.jobs_of.Goals as goal

pub loop-pass-preserved : goal.loop-pass-preserved
loop-pass-preserved c = record {
  jobs = next_jobs (λ job. (job.pass, job.section)) c.args.script.now c.loop-pass.yielded _ c.loop-pass.jobs.items c.push.new.self.items _ c.len-thread.result c.in_ok-section.section (c.len-thread.ensures ∙ c.loop-pass.jobs.ok.0) c.in_ok-section.ensures refl c.in_ok-push.ensures.items c.loop-pass.invariant.jobs;
}
