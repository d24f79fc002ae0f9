use Rattle.bc_threads.proofs.Evicted.{was_reset}
use Rattle.bc_threads.proofs.sharing.SharingDeviceOutcomeInfallible.reset.Goals as goal

pub returns-clause-done : goal.returns-clause-done
returns-clause-done g c =
    let d = c.args.self.now in
    was_reset g.S.Store.contents d.script.now d.thread d.disk.now d.pass.now c.reset.new.pass d.bios.now.items d.plug.now d.replies.now.items _ _ c.requires.afforded.1 c.args.op c.args.device c.reset.ensures.resets
