use Rattle.std.proofs.Common.{◌≡◌}
use Rattle.std.specs.List.{range_with_len}
use Rattle.bc_profile.proofs.table.SlotTable.open.Given as goal

abbrev pub invariant-loop-slot : goal.invariant-loop-slot
invariant-loop-slot l = record { listed : l.list.items ≡ range_with_len 0 l.slot }
