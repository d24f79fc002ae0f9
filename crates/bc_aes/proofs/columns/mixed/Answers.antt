use Rattle.std.proofs.Common.{arith}
use Rattle.bc_aes.specs.State.{mixing_row}
use Rattle.bc_aes.proofs.WordLemmas.{column-parts}
use Rattle.bc_aes.proofs.columns.mixed.Goals as goal

pub returns : goal.returns
returns c =
    rw (c.mixed_row_0.ensures.adds, c.mixed_row_1.ensures.adds, c.mixed_row_2.ensures.adds, c.mixed_row_3.ensures.adds)
    (record { mixes = column-parts mixing_row _ _ _ _ (omega arith) (omega arith) (omega arith) (omega arith) })
