use Rattle.std.proofs.Common.{ap, subst, arith}
use Rattle.bc_queue.specs.Queues.{Dispatches, IsPass}
use Rattle.bc_pieces.specs.ManyCallers.{HaveControllers}
use Rattle.bc_pieces.proofs.ManyCallers.{can_go, ready_after, carries_piece}
use Rattle.bc_disk.proofs.InlineRoom.{first_entries, first_events, room_left}
use Rattle.bc_disk.proofs.inline_way.InlineAccessDeviceAccessQueuePass.carry_out.Goals as goal

pub dispatch-requires-clause-units : goal.dispatch-requires-clause-units
dispatch-requires-clause-units g c =
    can_go c.args.self.now c.args.device g.S.Store.owns c.self.inside.queue.now c.args._keys.now.keys c.args.request.now c.args.first c.args.count (ap (λ d. d.queue) c.self.view_is) c.requires.keys c.requires.units

pub dispatch-requires-clause-events : goal.dispatch-requires-clause-events
dispatch-requires-clause-events g c =
    first_events c.args.self.now c.args.device c.args._keys.now.keys c.args.request.now c.args.first c.args.count c.requires.keys c.requires.some c.requires.within (c.requires.on_device c.args.first (omega arith) (omega (arith, c.requires.some)))
    c.self.inside.queue.now c.args.pass.now.slots.items c.args.pass.now.units c.requires.room.0 (ap (λ d. d.queue) c.self.view_is) c.requires.room.1

pub dispatch-requires-clause-spare : goal.dispatch-requires-clause-spare
dispatch-requires-clause-spare g c =
    first_entries c.args.self.now c.args.device c.args._keys.now.keys c.args.request.now c.args.first c.args.count c.requires.keys c.requires.some c.requires.within (c.requires.on_device c.args.first (omega arith) (omega (arith, c.requires.some)))
    c.self.inside.queue.now c.args.pass.now.slots.items c.args.pass.now.units c.requires.room.0 (ap (λ d. d.queue) c.self.view_is) c.requires.room.1

pub returns-clause-ready : goal.returns-clause-ready
returns-clause-ready g c =
    let queue = ap (λ d. d.queue) c.self.view_is in
    let controllers : HaveControllers c.args.self.now.queue c.args.self.now.targets = subst (λ d. HaveControllers d.queue d.targets) c.self.view_is c.self.invariant in
    ready_after c.args.self.now c.args.device g.S.Store.contents c.args.pass.now.slots.items c.dispatch.new.pass.slots.items c.args.pass.now.units c.dispatch.new.pass.units c.args.request.now c.dispatch.new.request c.args.first c.args.count
    (omega (arith, c.requires.device, controllers))
    (subst (λ q. Dispatches g.S.Store.contents q c.args.pass.now.slots.items c.dispatch.new.pass.slots.items c.args.pass.now.units c.dispatch.new.pass.units c.args.request.now c.dispatch.new.request c.args.device c.args.first c.args.count) queue c.dispatch.ensures.dispatches)
    c.args.pass.now.caller c.dispatch.new.pass.caller c.dispatch.ensures.caller c.requires.ready (subst (λ q. IsPass q c.dispatch.new.pass.caller c.dispatch.new.pass.slots.items c.dispatch.new.pass.units) queue c.dispatch.ensures.pass) c.dispatch.ensures.free

pub returns-clause-carries : goal.returns-clause-carries
returns-clause-carries g c =
    let queue = ap (λ d. d.queue) c.self.view_is in
    let controllers : HaveControllers c.args.self.now.queue c.args.self.now.targets = subst (λ d. HaveControllers d.queue d.targets) c.self.view_is c.self.invariant in
    carries_piece c.args.self.now c.args.device g.S.Store.contents c.args.pass.now.slots.items c.dispatch.new.pass.slots.items c.args.pass.now.units c.dispatch.new.pass.units c.args.request.now c.dispatch.new.request c.args.first c.args.count
    (omega (arith, c.requires.device, controllers))
    (subst (λ q. Dispatches g.S.Store.contents q c.args.pass.now.slots.items c.dispatch.new.pass.slots.items c.args.pass.now.units c.dispatch.new.pass.units c.args.request.now c.dispatch.new.request c.args.device c.args.first c.args.count) queue c.dispatch.ensures.dispatches)
    c.args.pass.now.caller c.requires.ready

pub returns-clause-room : goal.returns-clause-room
returns-clause-room g c =
    room_left c.args.self.now c.args.device c.args._keys.now.keys c.args.request.now c.args.first c.args.count c.requires.keys c.requires.some c.requires.within (c.requires.on_device c.args.first (omega arith) (omega (arith, c.requires.some)))
    g.S.Store.contents c.args.pass.now.caller c.dispatch.new.pass.caller c.args.pass.now.slots.items c.dispatch.new.pass.slots.items c.args.pass.now.units c.dispatch.new.pass.units c.dispatch.new.request
    c.requires.ready (returns-clause-ready g c) (returns-clause-carries g c)
