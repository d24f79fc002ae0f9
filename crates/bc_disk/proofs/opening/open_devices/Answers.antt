use Rattle.std.proofs.Common.{rules, ◌≡◌, ◌+◌, ◌-◌, ◌<◌, ◌≤◌, [], ◌∷◌, length, map, ap, ap₂, sym, ◌∙◌, subst, arith, vec_capacity, vec_len, length-append}
use Rattle.std.specs.List.{range_with_len}
use Rattle.std.proofs.lemmas.List.{length-map}
use Rattle.std.proofs.lemmas.List.FromFn.{length-map-range_with_len}
use Rattle.std.proofs.lemmas.Option.{none-some}
use Rattle.bc_base.specs.Lists.{At, AllAt}
use Rattle.bc_profile.specs.Passes.{new_pass}
use Rattle.bc_ufs.specs.Controllers.{ControllerData}
use Rattle.bc_disk.specs.Dealing.{dealt, new_slots}
use Rattle.bc_disk.specs.Openings.{AreNewDevices, IsNewDevice}
use Rattle.bc_disk.proofs.Joins.{all_push, new_slots_push}
use Rattle.bc_disk.proofs.Known.{device_known, no_slots}
use Rattle.bc_disk.proofs.opening.open_devices.Goals as goal
use Rattle.bc_medium.proofs.Openings.{each_weaken}

pub loop-device-init : goal.loop-device-init
loop-device-init c =
    let none = c.in_ok-controllers.ensures.items in let n = c.from-2.ensures in let m = c.children-devices.ensures.count in
    let e : vec_len c.args.events.now ≡ length c.args.events.now.items = search rules in
    record {
      count = ap length none;
      devices = λ device x at target there. absurd (none-some x (subst (λ l. At l device x) none at));
      slots = c.in_ok-slots.ensures.empty ∙ no_slots c.in_ok-controllers.controllers.items 0 c.len.result (length c.args.events.now.items) none (c.len.ensures ∙ e);
      room = each_weaken (λ list. vec_len list + c.from-2.result ≤ vec_capacity list) (λ list. vec_len list + length c.args.stack.now.targets ≤ vec_capacity list + 0) c.in_ok-slots.slots.items (λ list l. omega (arith, l, n, m)) c.in_ok-slots.ensures.room;
    }

pub open_device-requires-clause-rows : goal.open_device-requires-clause-rows
open_device-requires-clause-rows c =
    let lt = c.loop-device-test.true in let m = c.children-devices.ensures.count in
    each_weaken (λ row. length row.items ≡ length c.args.stack.now.targets) (λ row. c.loop-device.device < length row.items) c.args.events.now.items (λ row e. omega (arith, e, lt, m)) c.requires.rows

pub deal-requires-clause-one_for_each : goal.deal-requires-clause-one_for_each
deal-requires-clause-one_for_each c =
    ap length c.in_ok-controller.ensures.passes ∙ length-map-range_with_len (new_pass c.in_ok-controller.controller.profile) 0 (length c.args.events.now.items)
    ∙ sym (length-map-range_with_len (new_slots c.loop-device.controllers.items) 0 (length c.args.events.now.items))
    ∙ sym (ap length c.loop-device.invariant.slots)
    ∙ length-map c.loop-device.slots.items (λ row. row.items)

pub deal-requires-clause-room : goal.deal-requires-clause-room
deal-requires-clause-room c =
    let lt = c.loop-device-test.true in let m = c.children-devices.ensures.count in
    each_weaken (λ list. vec_len list + length c.args.stack.now.targets ≤ vec_capacity list + c.loop-device.device) (λ list. vec_len list < vec_capacity list) c.loop-device.slots.items (λ list l. omega (arith, l, lt, m)) c.loop-device.invariant.room

pub loop-device-preserved : goal.loop-device-preserved
loop-device-preserved c =
    let i = c.loop-device.invariant in let count = i.count in
    let lt = c.loop-device-test.true in let m = c.children-devices.ensures.count in
    let push = c.in_ok-push.ensures.items in
    let more = length c.args.stack.now.targets - (c.loop-device.device + 1) in
    record {
      count = (let e = ap length push ∙ length-append c.loop-device.controllers.items (c.in_ok-controller.controller ∷ []) in omega (arith, e, count));
      devices = subst (AreNewDevices c.args.keys.now.keys (map (λ row. row.items) c.args.events.now.items) c.args.stack.now.targets) (sym push)
          (all_push (λ k (controller : ControllerData). AllAt c.args.stack.now.targets k (λ target. IsNewDevice c.args.keys.now.keys (map (λ row. row.items) c.args.events.now.items) k target controller)) c.loop-device.controllers.items c.in_ok-controller.controller i.devices
          (device_known c.args.keys.now.keys (map (λ row. row.items) c.args.events.now.items) c.args.stack.now.targets c.loop-device.device (length c.loop-device.controllers.items) c.target.result.now c.in_ok-controller.controller count c.target.ensures.target c.in_ok-controller.ensures.device));
      slots = c.deal.ensures.dealt ∙ ap₂ dealt i.slots c.in_ok-controller.ensures.passes
          ∙ new_slots_push c.loop-device.controllers.items c.in_ok-controller.controller 0 (length c.args.events.now.items)
          ∙ ap (λ l. map (new_slots l) (range_with_len 0 (length c.args.events.now.items))) (sym push);
      room = each_weaken (λ list. vec_len list + more ≤ vec_capacity list) (λ list. vec_len list + length c.args.stack.now.targets ≤ vec_capacity list + (c.loop-device.device + 1)) _ (λ list l. omega (arith, l, lt, m))
          (c.deal.ensures.room more (each_weaken (λ list. vec_len list + length c.args.stack.now.targets ≤ vec_capacity list + c.loop-device.device) (λ list. vec_len list + 1 + more ≤ vec_capacity list) c.loop-device.slots.items (λ list l. omega (arith, l, lt, m)) i.room));
    }
