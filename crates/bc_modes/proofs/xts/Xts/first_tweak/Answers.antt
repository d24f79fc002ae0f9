use Rattle.std.proofs.Common.{◌∙◌, sym, ap, ap₂, List, ℕ, drop}
use Rattle.std.specs.Int.{w128, from_le_bytes}
use Rattle.std.proofs.lemmas.List.{drop_at}
use Rattle.bc_aes.specs.Cipher.{encipher}
use Rattle.bc_modes.specs.Xts.{first_tweak}
use Rattle.bc_modes.proofs.xts.Xts.first_tweak.Goals as goal

pub returns : goal.returns
unfolding first_tweak
returns c =
    let keys = c.self.inside in
    let second = sym (drop_at keys.data_key keys.tweak_key 32 c.self.invariant) ∙ ap (drop 32) c.self.view_is in
    let enciphered = c.encrypt_block.ensures.enciphers ∙ ap₂ (λ (key block : List ℕ). encipher 8 key block) second c.iv-block.ensures in
    c.from_le_bytes.ensures ∙ ap (from_le_bytes w128) enciphered
