use Rattle.std.proofs.Common.{rules}
use Rattle.bc_aes.proofs.TableLemmas.{sbox_at}
use Rattle.bc_aes.proofs.columns.substituted_byte.Goals as goal

pub returns : goal.returns
returns c = rw c.byte.ensures.value (record { substitutes = sbox_at _ (search rules) })
