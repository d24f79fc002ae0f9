use Rattle.std.proofs.Common.{arith}
use Rattle.bc_profile.proofs.RowLemmas.{all_clear}
use Rattle.bc_profile.proofs.registers.clear.Goals as goal

pub returns : goal.returns
returns c = all_clear c.loop-row.registers (λ k inside. c.loop-row.invariant k (omega (arith, inside, c.loop-row-test.false, c.loop-row.auto.registers)))
