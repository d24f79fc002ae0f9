use Rattle.std.proofs.Common.{◌≡◌, ℕ, ◌<◌, take, Some}
use Rattle.std.specs.Prelude.{flat_map, slice_get}
use Rattle.bc_threads.specs.Outcomes.{bytes_of_unit}
use Rattle.bc_threads.proofs.sharing.units_law.Given as goal

abbrev pub invariant-loop-unit : goal.invariant-loop-unit
invariant-loop-unit l = record { first : (byte : ℕ) → slice_get (flat_map bytes_of_unit (take l.unit-index l.units)) 0 ≡ Some byte → byte < 256 }
