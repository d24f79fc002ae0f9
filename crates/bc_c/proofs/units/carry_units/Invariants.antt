use Rattle.std.proofs.Common.{◌+◌}
use Rattle.bc_c.specs.Units.{converted_unit}
use Rattle.bc_c.proofs.Loops.{AfterUnits}
use Rattle.bc_c.proofs.units.carry_units.Given as goal

abbrev pub invariant-loop-i : goal.invariant-loop-i
invariant-loop-i l = AfterUnits (λ i. converted_unit l.way l.cipher.mode l.cipher.raw (l.first + i)) l.size l.i l.initial.texts l.texts
