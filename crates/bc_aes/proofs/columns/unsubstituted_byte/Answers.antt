use Rattle.std.proofs.Common.{rules}
use Rattle.bc_aes.proofs.TableLemmas.{inv_sbox_at}
use Rattle.bc_aes.proofs.columns.unsubstituted_byte.Goals as goal

pub returns : goal.returns
returns c = rw c.byte.ensures.value (record { substitutes = inv_sbox_at _ (search rules) })
