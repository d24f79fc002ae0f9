use Rattle.bc_modes.specs.Xts.{xts_decipher}
use Rattle.bc_modes.proofs.xts.Xts.decrypt.Goals as goal

pub returns : goal.returns
unfolding xts_decipher
returns c = c.cipher_text.ensures
