use Rattle.std.proofs.Common.{◌≡◌, map, take}
use Rattle.std.specs.List.{AllByRecursion}
use Rattle.bc_profile.specs.SlotTable.{WasFound}
use Rattle.bc_profile.proofs.search.first_free.Given as goal

abbrev pub invariant-loop-slot : goal.invariant-loop-slot
invariant-loop-slot l = record {
  before : map (λ skip. skip.slot) l.skipped ≡ take l.slot-index l.fn.list;
  found : AllByRecursion (WasFound l.fn.refs) l.skipped;
}
