use Rattle.std.proofs.Common.{◌≡◌, ◌∙◌, ◌++◌, Global, Vec, length, map, take, drop, sym, ap, subst}
use Rattle.std.specs.Option.{option_map}
use Rattle.bc_base.specs.Lists.{Each}
use Rattle.bc_threads.specs.declared.outcome.Outcome.{Outcome}
use Rattle.bc_threads.specs.Jobs.{IsReadyJob}
use Rattle.bc_threads.specs.Runs.{AreCarriedOut, AreJobs, contents_told}
use Rattle.bc_threads.proofs.Apart.{are_carried_as, are_ready, caller_each, if_ok, pass_each, taken}
use Rattle.bc_threads.proofs.many_callers.carry_out_some.Goals as goal

pub jobs_of-requires : goal.jobs_of-requires
jobs_of-requires g c = record {
  passes = pass_each c.args.script.now c.requires.opened.0 c.requires.opened.1 c.args.disk.now c.args.passes.items c.requires.opened.2 c.requires.some;
}

pub sections-requires-clause-ready : goal.sections-requires-clause-ready
sections-requires-clause-ready g c lifetimes bounds =
    subst (Each (λ job. IsReadyJob contents_told c.args.disk.now job.pass job.section)) (sym c.as_mut_slice.ensures.value)
    (are_ready (λ job. job.pass) (λ job. job.section) c.args.script.now c.requires.opened.0 c.requires.opened.1 c.args.disk.now c.args.passes.items c.in_ok-jobs.jobs.items c.requires.opened.2
    (pass_each c.args.script.now c.requires.opened.0 c.requires.opened.1 c.args.disk.now c.args.passes.items c.requires.opened.2 c.requires.some) c.in_ok-jobs.ensures)

pub returns : goal.returns
returns g c =
    let count : c.in_ok-jobs.jobs.len ≡ length c.sections.new.jobs = c.in_ok-jobs.jobs.ok.0 ∙ sym (c.sections.ensures.length ∙ ap length c.as_mut_slice.ensures.value) in
    let all = are_carried_as (λ job. job.pass) (λ job. job.section) (λ job. option_map (λ (o : Vec Outcome Global). o.items) job.outcomes) c.args.script.now c.args.disk.now c.args.passes.items c.as_mut_slice.result.now c.sections.new.jobs
    (caller_each c.args.script.now c.requires.opened.0 c.requires.opened.1 c.args.disk.now c.args.passes.items c.requires.opened.2)
    (pass_each c.args.script.now c.requires.opened.0 c.requires.opened.1 c.args.disk.now c.args.passes.items c.requires.opened.2 c.requires.some) c.requires.some
    (subst (λ jobs. AreJobs c.args.script.now c.args.passes.items (map (λ job. (job.pass, job.section)) jobs)) (sym c.as_mut_slice.ensures.value) c.in_ok-jobs.ensures)
    c.sections.ensures.done in
    if_ok c.taken_apart.result _ _ (λ done. AreCarriedOut c.args.script.now c.args.disk.now c.args.passes.items done.0.items done.1)
    (λ parts passes_are answers_are. all (take c.in_ok-jobs.jobs.len (c.sections.new.jobs ++ drop (length c.sections.new.jobs) c.in_ok-jobs.jobs.items)) (taken c.sections.new.jobs (drop (length c.sections.new.jobs) c.in_ok-jobs.jobs.items) c.in_ok-jobs.jobs.len count)
    parts.0.items parts.1 passes_are answers_are)
    c.taken_apart.ensures.passes c.taken_apart.ensures.answers
