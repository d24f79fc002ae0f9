use Rattle.std.proofs.Common.{rules, ◌≡◌, length, map, ap, sym, ◌∙◌, subst, refl, vec_len}
use Rattle.std.specs.List.{range_with_len}
use Rattle.std.proofs.lemmas.List.{length-map}
use Rattle.std.proofs.lemmas.List.FromFn.{length-map-range_with_len}
use Rattle.bc_turn.specs.PassParts.{new_pass}
use Rattle.bc_medium.specs.Medium.{shards_of}
use Rattle.bc_queue.specs.Queues.{AreControllers, QueueData}
use Rattle.bc_disk.specs.Dealing.{new_slots}
use Rattle.bc_disk.specs.Disks.{HasCiphers, IsDisk}
use Rattle.bc_disk.specs.Openings.{IsOpened}
use Rattle.bc_disk.proofs.Known.{from_map}
use Rattle.bc_disk.proofs.Opens.{are_controllers, disk_kept, many_shards, opened}
use Rattle.bc_disk.proofs.disk.Disk.open.Goals as goal

pub open_devices-requires-clause-rows : goal.open_devices-requires-clause-rows
open_devices-requires-clause-rows g c = from_map (λ row. row.items) (λ row. length row ≡ length c.args.stack.targets) c.args.quota.events.items c.requires.may.event_rows

pub open-requires-clause-rows : goal.open-requires-clause-rows
open-requires-clause-rows g c = from_map (λ row. row.items) (λ row. length row ≡ length c.args.stores.items) c.args.quota.units.items c.requires.may.unit_rows

pub passes_of-requires : goal.passes_of-requires
passes_of-requires g c =
    sym (length-map c.in_ok-controllers.slots.items (λ row. row.items)) ∙ ap length c.in_ok-controllers.ensures.slots ∙ length-map-range_with_len (new_slots c.in_ok-controllers.controllers.items) 0 (length c.args.quota.events.items)
    ∙ sym (length-map c.args.quota.events.items (λ row. row.items)) ∙ c.requires.may.same_callers ∙ length-map c.args.quota.units.items (λ row. row.items)
    ∙ sym (length-map-range_with_len (new_pass c.in_ok-medium.medium.turns.cells) 0 (length c.args.quota.units.items)) ∙ sym (ap length c.in_ok-medium.ensures.passes)

pub new-requires : goal.new-requires
new-requires g c =
    subst (λ k. AreControllers k.keys c.in_ok-controllers.controllers.items) (sym c.in_ok-medium.ensures.keys)
    (are_controllers c.args.keys.keys (map (λ row. row.items) c.args.quota.events.items) c.args.stack.targets c.in_ok-controllers.controllers.items c.in_ok-controllers.ensures.count c.in_ok-controllers.ensures.devices)

pub invariant_of-disk : goal.invariant_of-disk
invariant_of-disk g c =
    let queue : QueueData g.row.S.Denot = record { controllers = c.in_ok-controllers.controllers.items; medium = c.in_ok-medium.medium } in
    let e : vec_len c.args.stores ≡ length c.args.stores.items = search rules in (
      subst (λ q. IsDisk g.S.Store.owns record { queue = q; targets = c.args.stack.targets; fallback = c.args.fallback; blocks = c.args.blocks }) (sym c.new.ensures)
          (disk_kept g.S.Store.owns record { queue = queue; targets = c.args.stack.targets; fallback = c.args.fallback; blocks = c.args.blocks } c.args.keys.keys (map (λ row. row.items) c.args.quota.units.items) (map (λ row. row.items) c.args.quota.events.items) c.args.stores.items
          (ap (λ k. k.keys) c.in_ok-medium.ensures.keys) c.requires.may.small c.in_ok-medium.ensures.openings c.in_ok-controllers.ensures.count c.in_ok-controllers.ensures.devices (c.requires.may.same_callers ∙ length-map c.args.quota.units.items (λ row. row.items) ∙ sym c.in_ok-medium.ensures.callers) c.requires.may.owned),
      c.requires.may.stack_blocks,
      c.len-shards.ensures ∙ e ∙ many_shards c.args.keys.keys (map (λ row. row.items) c.args.quota.units.items) c.args.stores.items c.in_ok-medium.medium c.in_ok-medium.ensures.openings ∙ ap (λ q. shards_of q.medium) (sym c.new.ensures),
      subst (λ q. HasCiphers c.args.stack.targets q.medium.keys.keys c.in_ok-ciphers.ciphers.items) (sym c.new.ensures)
          (subst (λ k. HasCiphers c.args.stack.targets k.keys c.in_ok-ciphers.ciphers.items) (sym c.in_ok-medium.ensures.keys) c.in_ok-ciphers.ensures),
    )

pub returns : goal.returns
returns g c =
    let queue : QueueData g.row.S.Denot = record { controllers = c.in_ok-controllers.controllers.items; medium = c.in_ok-medium.medium } in
    let units = map (λ row. row.items) c.args.quota.units.items in let events = map (λ row. row.items) c.args.quota.events.items in
    let n_units = sym (length-map c.args.quota.units.items (λ row. row.items)) in
    let n_events = n_units ∙ sym c.requires.may.same_callers in
    let same = sym (length-map c.args.quota.events.items (λ row. row.items)) ∙ sym n_events in
    record {
      opened = subst (λ q. IsOpened g.S.Store.contents c.args.keys.keys c.args.stack c.args.fallback c.args.blocks c.args.stores.items units events record { queue = q; targets = c.args.stack.targets; fallback = c.args.fallback; blocks = c.args.blocks } c.in_ok-passes.passes.items) (sym c.new.ensures)
          (opened g.S.Store.contents c.args.keys.keys c.args.stack c.args.fallback c.args.blocks c.args.stores.items units events record { queue = queue; targets = c.args.stack.targets; fallback = c.args.fallback; blocks = c.args.blocks } (map (λ row. row.items) c.in_ok-controllers.slots.items) c.in_ok-medium.seats.items c.in_ok-passes.passes.items (length c.args.quota.units.items)
          (ap (λ k. k.keys) c.in_ok-medium.ensures.keys) refl refl refl c.in_ok-medium.ensures.openings c.in_ok-medium.ensures.callers
          (c.in_ok-controllers.ensures.slots ∙ ap (λ k. map (new_slots c.in_ok-controllers.controllers.items) (range_with_len 0 k)) same) c.in_ok-medium.ensures.passes c.in_ok-medium.ensures.belong c.in_ok-passes.ensures
          c.in_ok-controllers.ensures.count c.in_ok-controllers.ensures.devices n_events n_units);
    }
