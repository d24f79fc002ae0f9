use Rattle.bc_speed.specs.Units.{cipher_of_unit}
use Rattle.bc_speed.proofs.Loops.{AfterUnits}
use Rattle.bc_speed.proofs.units.carry_units.Given as goal

abbrev pub invariant-loop-unit : goal.invariant-loop-unit
invariant-loop-unit l = AfterUnits (cipher_of_unit l.way l.cipher) l.size l.unit l.initial.texts l.texts
