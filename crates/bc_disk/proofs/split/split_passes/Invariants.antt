use Rattle.std.proofs.Common.{◌≡◌, ◌+◌, ◌≤◌, ◌++◌, map, length, vec_len, vec_capacity}
use Rattle.std.specs.List.{fold}
use mathlib.Core.List.{reverse}
use Rattle.bc_base.specs.Lists.{Each}
use Rattle.bc_disk.specs.Dealing.{dealt}
use Rattle.bc_disk.proofs.split.split_passes.Given as goal

abbrev pub invariant-loop-pass : goal.invariant-loop-pass
invariant-loop-pass g l = record {
  slots : fold dealt (map (λ list. list.items) l.slots.items) (map (λ pass. pass.slots) (reverse l.passes.items)) ≡ fold dealt (map (λ list. list.items) l.fn.slots.items) (map (λ pass. pass.slots) l.fn.passes.items);
  units : l.units.items ++ map (λ pass. pass.units) (reverse l.passes.items) ≡ map (λ pass. pass.units) l.fn.passes.items;
  one_for_each : Each (λ pass. length pass.slots ≡ length l.fn.slots.items) l.passes.items;
  long : length l.slots.items ≡ length l.fn.slots.items;
  slots_room : Each (λ list. vec_len list + length l.passes.items ≤ vec_capacity list) l.slots.items;
  units_room : vec_len l.units + length l.passes.items ≤ vec_capacity l.units;
}

abbrev pub decreases-loop-pass : goal.decreases-loop-pass
decreases-loop-pass g l = length l.passes.items
