use Rattle.std.proofs.Common.{◌∙◌, ℕ, List, ap, subst, sym}
use Rattle.std.specs.Prelude.{vec_capacity}
use Rattle.std.specs.List.{enumerate_from}
use Rattle.bc_disk.specs.Disks.{DiskData}
use Rattle.bc_script.specs.declared.op.Op.{Op}
use Rattle.bc_script.specs.Script.{Script}
use Rattle.bc_threads.specs.SharedDevice.{CanCarryOut}
use Rattle.bc_threads.proofs.Worked.{has_worked, read_at}
use Rattle.bc_threads.proofs.working.carry_out_on.Goals as goal

pub carry_out-requires-clause-afforded : goal.carry_out-requires-clause-afforded
carry_out-requires-clause-afforded g c =
    let d = c.args.device.now in
    subst (λ (l : List Op). CanCarryOut g.S.Store.contents d.script.now d.thread d.disk.now d.pass.now d.bios.now.items d.plug.now d.replies.now.items (vec_capacity d.replies.now) (enumerate_from 0 l))
    (sym (c.as_slice-operations.ensures ∙ read_at d.script.now.threads c.threads.result.now d.thread c.from.result c.index-threads-from.result c.requires.within c.threads.ensures.value c.from.ensures c.index-threads-from.is))
    c.requires.afforded

pub returns : goal.returns
returns g c =
    let d = c.args.device.now in let n = c.carry_out.new.device in let done = c.in-Ok.ensures.done in
    let lent = c.in-Ok.ensures.lent in
    record {
      same_reference = ap (λ (l : DiskData g.row.S.Denot × Script × ℕ × ((ℕ × ℕ) × ℕ)). l.3.1) lent;
      worked = (
        done.0,
        done.1,
        has_worked g.S.Store.contents d.script.now d.thread d.disk.now d.pass.now c.requires.may c.as_slice-operations.result.now
            (c.as_slice-operations.ensures ∙ read_at d.script.now.threads c.threads.result.now d.thread c.from.result c.index-threads-from.result c.requires.within c.threads.ensures.value c.from.ensures c.index-threads-from.is)
            n.script.now n.thread n.disk.now n.pass.now _ _ n.bios.now.items n.plug.now n.replies.now.items _ done.0 lent c.in-Ok.ensures.afforded done.2,
      );
    }
