use Rattle.std.proofs.Common.{rules}
use Rattle.bc_aes.proofs.TableLemmas.{mixed_row_3_at}
use Rattle.bc_aes.proofs.columns.mixed_row_3.Goals as goal

pub returns : goal.returns
returns c = rw c.byte.ensures.value (record { adds = mixed_row_3_at _ (search rules) })
