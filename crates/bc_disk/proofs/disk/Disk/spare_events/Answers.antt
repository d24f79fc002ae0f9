use Rattle.std.proofs.Common.{arith}
use Rattle.bc_disk.proofs.Spares.{left_is, number_within, slot_is_of}
use Rattle.bc_disk.proofs.disk.Disk.spare_events.Goals as goal

pub index-requires : goal.index-requires
index-requires g c =
    let within = number_within _ c.args.self.now _ c.args.pass.now c.from-number.result c.args.device c.self.view_is c.pass.view_is c.requires.pass c.self.invariant.0.count c.from-number.ensures c.requires.device in
    omega (arith, within, c.pass.inside.queue.slots.ok.0)

pub spare-requires : goal.spare-requires
spare-requires g c =
    slot_is_of _ c.args.self.now _ c.args.pass.now c.from-number.result c.args.device c.self.view_is c.pass.view_is c.requires.pass c.self.invariant.0.count c.from-number.ensures c.requires.device
    c.controllers.result.now c.index-controllers-number.result c.profile.result.now c.index.result.now c.controllers.ensures c.index-controllers-number.is c.index.ensures c.profile.ensures

pub returns : goal.returns
returns g c =
    left_is _ c.args.self.now _ c.args.pass.now c.from-number.result c.args.device c.self.view_is c.pass.view_is c.requires.pass c.self.invariant.0.count c.from-number.ensures c.requires.device
    c.controllers.result.now c.index-controllers-number.result c.profile.result.now c.index.result.now c.controllers.ensures c.index-controllers-number.is c.index.ensures c.profile.ensures
    c.spare.result c.spare.ensures
