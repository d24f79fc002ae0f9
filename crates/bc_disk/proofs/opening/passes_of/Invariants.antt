use Rattle.std.proofs.Common.{◌≡◌, ◌++◌, map, length}
use mathlib.Core.List.{reverse}
use Rattle.bc_disk.specs.Dealing.{passes_with}
use Rattle.bc_disk.proofs.opening.passes_of.Given as goal

abbrev pub invariant-loop-units : goal.invariant-loop-units
invariant-loop-units g l = record {
  joined : passes_with (map (λ row. row.items) l.slots.items) l.seats.items ++ reverse l.passes.items ≡ passes_with (map (λ row. row.items) l.fn.slots.items) l.fn.seats.items;
  long : length l.slots.items ≡ length l.seats.items;
}

abbrev pub decreases-loop-units : goal.decreases-loop-units
decreases-loop-units g l = length l.seats.items
