use Rattle.std.proofs.Common.{List, ℕ, ◌<◌, ◌-◌, length, ap, ◌∙◌, arith}
use Rattle.bc_aes.specs.Cipher.{encipher_by}
use Rattle.bc_aes.proofs.eight.encrypt_eight.Goals as goal

pub returns : goal.returns
returns c = record {
  enciphers = λ schedule keys. record {
    same_length = omega arith;
    ciphered = λ i lt.
        let h : i < 8 = omega arith in
        c.to_blocks.ensures.gives i h ∙ (c.enciphered-state.ensures.enciphers schedule keys).each i h
        ∙ ap (λ (block : List ℕ). encipher_by (length c.args.keys.now - 1) schedule block) (c.from_blocks.ensures.takes i h);
  };
}
