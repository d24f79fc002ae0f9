use Rattle.std.proofs.Common.{Global, Vec, get_or, rules}
use Rattle.std.specs.Option.{option_map}
use Rattle.bc_threads.specs.declared.jobs.Job.{Job}
use Rattle.bc_threads.specs.declared.outcome.Outcome.{Outcome}
use Rattle.bc_threads.specs.Jobs.{IsDone}
use Rattle.bc_threads.proofs.AtOnce.{moved, zip_from_places}
use Rattle.bc_threads.proofs.jobs.sections.Goals as goal

pub returns-clause-done : goal.returns-clause-done
returns-clause-done g c =
    let Done : Job g.row.S.Denot → Job g.row.S.Denot → Type 0 =
    λ old new. IsDone g.S.Store.contents c.args.disk.now old.pass new.pass old.section new.section (option_map (λ (o : Vec Outcome Global). o.items) new.outcomes) in
    zip_from_places Done c.args.jobs.now c.for_each_mut.new.s (search rules) (λ i d lt.
    let at = (c.for_each_mut.ensures i d lt).1 in
    moved Done at.argument.now (get_or c.args.jobs.now i d) at.after_call.now (get_or c.for_each_mut.new.s i d) at.argument_is at.left at.call)
