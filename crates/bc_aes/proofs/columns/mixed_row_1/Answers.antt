use Rattle.std.proofs.Common.{rules}
use Rattle.bc_aes.proofs.TableLemmas.{mixed_row_1_at}
use Rattle.bc_aes.proofs.columns.mixed_row_1.Goals as goal

pub returns : goal.returns
returns c = rw c.byte.ensures.value (record { adds = mixed_row_1_at _ (search rules) })
