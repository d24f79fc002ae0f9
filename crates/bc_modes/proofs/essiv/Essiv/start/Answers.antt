use Rattle.std.proofs.Common.{◌∙◌, ap, ap₂, List, ℕ}
use Rattle.sha2.specs.Sha256.{sha256}
use Rattle.bc_aes.specs.Cipher.{encipher}
use Rattle.bc_modes.specs.CbcEssiv.{essiv}
use Rattle.bc_modes.proofs.essiv.Essiv.start.Goals as goal

pub returns : goal.returns
unfolding essiv
returns c =
    let key = c.self.invariant ∙ ap sha256 c.self.view_is in
    c.encrypt_block.ensures.enciphers ∙ ap₂ (λ (key block : List ℕ). encipher 8 key block) key c.iv-block.ensures
