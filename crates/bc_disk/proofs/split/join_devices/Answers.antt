use Rattle.std.proofs.Common.{[], ◌∷◌, length, ap, ◌∙◌, arith, length-append}
use Rattle.bc_disk.proofs.Joins.{moved_back, devices_last}
use Rattle.bc_disk.proofs.split.join_devices.Goals as goal

pub loop-controller-preserved : goal.loop-controller-preserved
loop-controller-preserved c =
    let i = c.loop-controller.invariant in
    let pop = c.in-Some.ensures.items in let pop2 = c.in-Some-pop.ensures.items in
    let a = ap length pop ∙ length-append c.pop.new.self.items (c.in-Some.controller ∷ []) in let b = ap length pop2 ∙ length-append c.pop-in-Some.new.self.items (c.in-Some-pop.passes ∷ []) in
    let long = i.long in let room = i.room in let len = c.push_reserved.ensures.len in let cap = c.push_reserved.ensures.capacity in
    record {
      joined = moved_back _ _ c.loop-controller.devices.items c.push_reserved.new.self.items _ _ (devices_last (λ list. list.items) c.loop-controller.controllers.items c.pop.new.self.items c.loop-controller.slots.items c.pop-in-Some.new.self.items c.in-Some.controller c.in-Some-pop.passes c.into_profile-profile.result pop pop2 long c.into_profile-profile.ensures) c.push_reserved.ensures.items i.joined;
      long = omega arith;
      room = omega arith;
      capacity = cap ∙ i.capacity;
    }
