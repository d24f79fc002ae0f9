use Rattle.std.proofs.Common.{refl, sym, ap, Some, None}
use Rattle.std.proofs.lemmas.Bool.{true≢false}
use Rattle.bc_threads.specs.Outcomes.{answer_in}
use Rattle.bc_threads.proofs.Evicted.{evicted, evict_room}
use Rattle.bc_threads.proofs.sharing.SharingDeviceOutcomeInfallible.evict.Goals as goal
use Rattle.bc_threads.proofs.sharing.SharingDeviceOutcomeInfallible.evict.Goals.{in-Ok, in-Err}

pub returns-clause-done : goal.returns-clause-done
returns-clause-done g c =
    let d = c.args.self.now in let can = c.requires.afforded in
    elim c.match-evict.branch [
      | in-Ok w ↦ evicted g.S.Store.contents d.script.now d.thread d.disk.now d.pass.now c.evict.new.pass d.bios.now.items d.plug.now d.replies.now.items _ _ can.1 c.args.op c.args.key None
          w.in-Ok.ensures.inline (λ soft. (refl, (w.in-Ok.ensures.others soft).1)) (answer_in c.match-evict.outcome) (ap answer_in w.outcome-is)
      | in-Err w ↦ evicted g.S.Store.contents d.script.now d.thread d.disk.now d.pass.now c.evict.new.pass d.bios.now.items d.plug.now d.replies.now.items _ _ can.1 c.args.op c.args.key (Some w.in-Err.busy)
          w.in-Err.ensures.inline (λ soft. absurd (true≢false (sym (w.in-Err.ensures.others soft).0))) (answer_in c.match-evict.outcome) (ap answer_in w.outcome-is)
    ]

pub returns-clause-room : goal.returns-clause-room
returns-clause-room g c =
    let d = c.args.self.now in let can = c.requires.afforded in
    elim c.match-evict.branch [
      | in-Ok w ↦ evict_room g.S.Store.contents d.script.now d.thread d.disk.now d.pass.now c.evict.new.pass d.bios.now.items d.plug.now d.replies.now.items _ _ can.1 c.args.op c.args.key None
          w.in-Ok.ensures.inline (λ soft. (refl, (w.in-Ok.ensures.others soft).1)) c.evict.ensures.pass c.evict.ensures.events
      | in-Err w ↦ evict_room g.S.Store.contents d.script.now d.thread d.disk.now d.pass.now c.evict.new.pass d.bios.now.items d.plug.now d.replies.now.items _ _ can.1 c.args.op c.args.key (Some w.in-Err.busy)
          w.in-Err.ensures.inline (λ soft. absurd (true≢false (sym (w.in-Err.ensures.others soft).0))) c.evict.ensures.pass c.evict.ensures.events
    ]
