use Rattle.std.proofs.Common.{◌≡◌}
use Rattle.bc_aes.specs.KeyExpansion.{power_of_x}
use Rattle.bc_aes.proofs.plain.power_of_x.Given as goal

abbrev pub invariant-loop-i : goal.invariant-loop-i
invariant-loop-i l = l.power ≡ power_of_x l._i
