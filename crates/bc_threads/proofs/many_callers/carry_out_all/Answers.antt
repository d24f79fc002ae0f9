use Rattle.std.proofs.Common.{◌≡◌, length, rules, subst, sym}
use Rattle.bc_threads.specs.Runs.{AreCarriedOut}
use Rattle.bc_threads.proofs.Apart.{none_carried}
use Rattle.bc_threads.proofs.many_callers.carry_out_all.Goals as goal

pub returns-then-is_empty : goal.returns-then-is_empty
returns-then-is_empty g c =
    let none : length c.args.script.now.threads ≡ 0 = search rules in
    subst (AreCarriedOut c.args.script.now c.args.disk.now c.args.passes.items c.args.passes.items) (sym c.new.ensures) (none_carried c.args.script.now c.args.disk.now c.args.passes.items none)
