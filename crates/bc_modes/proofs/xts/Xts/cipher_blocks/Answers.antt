use Rattle.std.proofs.Common.{List, ℕ, take, sym, ap, ◌∙◌, subst}
use Rattle.std.proofs.lemmas.List.{take_at}
use Rattle.bc_aes.specs.Blocks.{EachBlock}
use Rattle.bc_aes.specs.Cipher.{encipher, decipher}
use Rattle.bc_modes.specs.declared.xts.Way.{Way}
use Rattle.bc_modes.specs.Schedules.{block_cipher}
use Rattle.bc_modes.proofs.xts.Xts.cipher_blocks.Goals as goal

pub returns-in-Encipher : goal.returns-in-Encipher
returns-in-Encipher c =
    let keys = c.self.inside in
    let old = c.args.piece.now in
    let new = c.encrypt_pieces.new.text in
    let first = sym (take_at keys.data_key keys.tweak_key 32 c.self.invariant) ∙ ap (take 32) c.self.view_is in
    record {
      ciphers = subst (λ (way : Way). EachBlock (block_cipher way (take 32 c.args.self.now)) old new) (sym c.in-Encipher.is)
          (subst (λ (key : List ℕ). EachBlock (encipher 8 key) old new) first c.encrypt_pieces.ensures.enciphers);
    }

pub returns-in-Decipher : goal.returns-in-Decipher
returns-in-Decipher c =
    let keys = c.self.inside in
    let old = c.args.piece.now in
    let new = c.decrypt_pieces.new.text in
    let first = sym (take_at keys.data_key keys.tweak_key 32 c.self.invariant) ∙ ap (take 32) c.self.view_is in
    record {
      ciphers = subst (λ (way : Way). EachBlock (block_cipher way (take 32 c.args.self.now)) old new) (sym c.in-Decipher.is)
          (subst (λ (key : List ℕ). EachBlock (decipher 8 key) old new) first c.decrypt_pieces.ensures.deciphers);
    }
