use Rattle.bc_modes.specs.Xts.{xts_encipher}
use Rattle.bc_modes.proofs.xts.Xts.encrypt.Goals as goal

pub returns : goal.returns
unfolding xts_encipher
returns c = c.cipher_text.ensures
