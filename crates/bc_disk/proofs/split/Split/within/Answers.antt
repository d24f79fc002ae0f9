use Rattle.std.proofs.Common.{rules, ◌≡◌, [], length, map, replicate, ap, sym, ◌∙◌, subst, arith, vec_len}
use Rattle.std.proofs.lemmas.List.{length-map}
use Rattle.std.proofs.lemmas.List.FromFn.{length-map-range_with_len}
use Rattle.std.specs.List.{range_with_len}
use Rattle.bc_disk.specs.Disks.{IsDisk}
use Rattle.bc_disk.specs.Closings.{passes_on}
use Rattle.bc_disk.proofs.Splits.{as_many, rooms_count, devices_count, taken_apart}
use Rattle.bc_disk.proofs.split.Split.within.Goals as goal
use Rattle.bc_medium.proofs.Openings.{each_weaken}

pub split_passes-requires-clause-one_for_each : goal.split_passes-requires-clause-one_for_each
split_passes-requires-clause-one_for_each g c =
    let n = rooms_count (λ list. list.items) c.args.rooms.slots.items (length c.args.disk.queue.controllers) c.requires.rooms.lists in
    each_weaken (λ pass. length pass.slots ≡ length c.args.disk.queue.controllers) (λ pass. length pass.slots ≡ length c.args.rooms.slots.items) c.args.passes.items (λ pass e. e ∙ sym n) (as_many c.args.disk c.args.passes.items c.requires.all.are_of)

pub split_passes-requires-clause-no_slots : goal.split_passes-requires-clause-no_slots
split_passes-requires-clause-no_slots g c =
    let n = rooms_count (λ list. list.items) c.args.rooms.slots.items (length c.args.disk.queue.controllers) c.requires.rooms.lists in
    c.requires.rooms.lists ∙ ap (λ k. replicate k []) (sym n)

pub join_devices-requires-clause-one_for_each : goal.join_devices-requires-clause-one_for_each
join_devices-requires-clause-one_for_each g c =
    let n = rooms_count (λ list. list.items) c.args.rooms.slots.items (length c.args.disk.queue.controllers) c.requires.rooms.lists in
    sym (length-map c.split_passes.new.slots.items (λ list. list.items)) ∙ ap length c.split_passes.ensures.slots ∙ length-map-range_with_len (passes_on c.args.passes.items) 0 (length c.args.rooms.slots.items) ∙ n
    ∙ sym (ap (λ d. length d.queue.controllers) c.disk.view_is) ∙ sym (ap length c.into_parts-controllers.ensures.controllers)

pub invariant_of-result : goal.invariant_of-result
invariant_of-result g c =
    let n = rooms_count (λ list. list.items) c.args.rooms.slots.items (length c.args.disk.queue.controllers) c.requires.rooms.lists in
    let same = c.into_parts-controllers.ensures.controllers ∙ ap (λ d. d.queue.controllers) c.disk.view_is in
    let rows = c.split_passes.ensures.slots ∙ ap (λ k. map (passes_on c.args.passes.items) (range_with_len 0 k)) n in
    let long = ap length rows ∙ length-map-range_with_len (passes_on c.args.passes.items) 0 (length c.args.disk.queue.controllers) ∙ sym (ap length same) in
    let count = devices_count c.join_devices.new.devices.items c.into_parts-controllers.result.0.items (map (λ list. list.items) c.split_passes.new.slots.items) c.join_devices.ensures.devices long ∙ ap length same in
    let none : vec_len c.args.rooms.journals ≡ length c.args.rooms.journals.items = search rules in let zero = ap length c.requires.rooms.no_journals in
    let all : vec_len c.join_devices.new.devices ≡ length c.join_devices.new.devices.items = search rules in
    let cap = c.join_devices.ensures.capacity in let room = c.requires.rooms.devices_room in let room2 = c.requires.rooms.journals_room in
    (omega (arith, none, zero, all, count, room2), omega (arith, none, zero, all, count, cap, room))

pub returns : goal.returns
returns g c =
    let n = rooms_count (λ list. list.items) c.args.rooms.slots.items (length c.args.disk.queue.controllers) c.requires.rooms.lists in
    let same = c.into_parts-controllers.ensures.controllers ∙ ap (λ d. d.queue.controllers) c.disk.view_is in
    let rows = c.split_passes.ensures.slots ∙ ap (λ k. map (passes_on c.args.passes.items) (range_with_len 0 k)) n in
    let long = ap length rows ∙ length-map-range_with_len (passes_on c.args.passes.items) 0 (length c.args.disk.queue.controllers) ∙ sym (ap length same) in
    let count = devices_count c.join_devices.new.devices.items c.into_parts-controllers.result.0.items (map (λ list. list.items) c.split_passes.new.slots.items) c.join_devices.ensures.devices long ∙ ap length same in
    taken_apart g.S.Store.owns c.args.disk c.args.passes.items c.into_parts-controllers.result.0.items _ (map (λ list. list.items) c.split_passes.new.slots.items)
    (subst (IsDisk g.S.Store.owns) c.disk.view_is c.disk.invariant.0) c.requires.all same rows c.join_devices.ensures.devices
    (c.into_parts-controllers.ensures.medium ∙ ap (λ d. d.queue.medium) c.disk.view_is) c.split_passes.ensures.units (ap (map (λ journal. journal.items)) c.requires.rooms.no_journals) count
