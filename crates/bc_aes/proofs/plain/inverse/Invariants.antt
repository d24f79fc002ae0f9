use Rattle.std.proofs.Common.{◌≡◌}
use Rattle.bc_aes.proofs.PlainLemmas.{first_from}
use Rattle.bc_aes.proofs.plain.inverse.Given as goal

abbrev pub invariant-loop-b : goal.invariant-loop-b
invariant-loop-b l = first_from l.a l.b ≡ first_from l.a 0
