use Rattle.std.proofs.Common.{◌≡◌, ◌+◌, ◌≤◌, map, length, vec_len, vec_capacity}
use Rattle.std.specs.List.{range_with_len}
use Rattle.bc_base.specs.Lists.{Each}
use Rattle.bc_disk.specs.Dealing.{new_slots}
use Rattle.bc_disk.specs.Openings.{AreNewDevices}
use Rattle.bc_disk.proofs.opening.open_devices.Given as goal

abbrev pub invariant-loop-device : goal.invariant-loop-device
invariant-loop-device l = record {
  count : length l.controllers.items ≡ l.device;
  devices : AreNewDevices l.keys.keys (map (λ row. row.items) l.events.items) l.stack.targets l.controllers.items;
  slots : map (λ row. row.items) l.slots.items ≡ map (new_slots l.controllers.items) (range_with_len 0 (length l.events.items));
  room : Each (λ list. vec_len list + length l.stack.targets ≤ vec_capacity list + l.device) l.slots.items;
}
