use Rattle.std.proofs.Common.{List, ℕ, ◌<◌, ◌-◌, length, ap, ◌∙◌, arith}
use Rattle.bc_aes.specs.Cipher.{decipher_by}
use Rattle.bc_aes.proofs.eight.decrypt_eight.Goals as goal

pub returns : goal.returns
returns c = record {
  deciphers = λ schedule keys. record {
    same_length = omega arith;
    ciphered = λ i lt.
        let h : i < 8 = omega arith in
        c.to_blocks.ensures.gives i h ∙ (c.deciphered-state.ensures.deciphers schedule keys).each i h
        ∙ ap (λ (block : List ℕ). decipher_by (length c.args.keys.now - 1) schedule block) (c.from_blocks.ensures.takes i h);
  };
}
