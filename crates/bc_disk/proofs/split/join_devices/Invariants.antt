use Rattle.std.proofs.Common.{◌≡◌, ◌+◌, ◌≤◌, ◌++◌, map, length, vec_len, vec_capacity}
use mathlib.Core.List.{reverse}
use Rattle.bc_disk.specs.Closings.{devices_with}
use Rattle.bc_disk.proofs.split.join_devices.Given as goal

abbrev pub invariant-loop-controller : goal.invariant-loop-controller
invariant-loop-controller l = record {
  joined : devices_with l.controllers.items (map (λ list. list.items) l.slots.items) ++ reverse l.devices.items ≡ devices_with l.fn.controllers.items (map (λ list. list.items) l.fn.slots.items);
  long : length l.slots.items ≡ length l.controllers.items;
  room : vec_len l.devices + length l.controllers.items ≤ vec_capacity l.devices;
  capacity : vec_capacity l.devices ≡ vec_capacity l.fn.devices;
}

abbrev pub decreases-loop-controller : goal.decreases-loop-controller
decreases-loop-controller l = length l.controllers.items
