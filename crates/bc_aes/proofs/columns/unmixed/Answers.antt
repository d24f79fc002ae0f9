use Rattle.std.proofs.Common.{arith}
use Rattle.bc_aes.specs.State.{inv_mixing_row}
use Rattle.bc_aes.proofs.WordLemmas.{column-parts}
use Rattle.bc_aes.proofs.columns.unmixed.Goals as goal

pub returns : goal.returns
returns c =
    rw (c.unmixed_row_0.ensures.adds, c.unmixed_row_1.ensures.adds, c.unmixed_row_2.ensures.adds, c.unmixed_row_3.ensures.adds)
    (record { unmixes = column-parts inv_mixing_row _ _ _ _ (omega arith) (omega arith) (omega arith) (omega arith) })
