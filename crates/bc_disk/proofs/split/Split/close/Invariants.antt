use Rattle.std.proofs.Common.{◌≡◌, ◌+◌, ◌≤◌, map, length, vec_len, vec_capacity}
use mathlib.Core.List.{reverse}
use Rattle.bc_base.specs.Lists.{EachFrom}
use Rattle.bc_disk.specs.Closings.{IsJournalOf, IsOpenDevice}
use Rattle.bc_disk.proofs.split.Split.close.Given as goal

abbrev pub invariant-loop-device : goal.invariant-loop-device
invariant-loop-device g l = record {
  count : length l.journals.items + length l.devices.items ≡ length l.disk.value.queue.controllers;
  journals : EachFrom (IsJournalOf l.disk.value l.passes.value.items) 0 (map (λ journal. journal.items) l.journals.items);
  devices : EachFrom (IsOpenDevice l.disk.value l.passes.value.items) (length l.journals.items) (reverse l.devices.items);
  journals_room : vec_len l.journals + vec_len l.devices ≤ vec_capacity l.journals;
  devices_room : vec_len l.journals + vec_len l.devices ≤ vec_capacity l.devices;
}

abbrev pub decreases-loop-device : goal.decreases-loop-device
decreases-loop-device g l = length l.devices.items
