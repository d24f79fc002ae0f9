use Rattle.std.proofs.Common.{◌≡◌, take}
use Rattle.std.specs.Prelude.{flat_map}
use Rattle.bc_threads.specs.Outcomes.{bytes_of_unit}
use Rattle.bc_threads.proofs.outcome.bring_together.Given as goal

abbrev pub invariant-loop-unit : goal.invariant-loop-unit
invariant-loop-unit l = record { bytes : l.room.items ≡ flat_map bytes_of_unit (take l.unit-index l.units) }
