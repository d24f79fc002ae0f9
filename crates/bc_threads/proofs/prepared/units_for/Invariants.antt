use Rattle.std.proofs.Common.{◌≡◌}
use Rattle.bc_threads.proofs.Preparing.{units_with}
use Rattle.bc_threads.proofs.prepared.units_for.Given as goal

abbrev pub invariant-loop-unit : goal.invariant-loop-unit
invariant-loop-unit l = record { units : l.units.items ≡ units_with l.text l.size l.unit }
