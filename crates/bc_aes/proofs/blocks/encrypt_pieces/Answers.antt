use Rattle.std.proofs.Common.{ℕ, ◌+◌, ◌-◌, ◌*◌, length, arith}
use Rattle.bc_aes.specs.Cipher.{encipher_by}
use Rattle.bc_aes.proofs.BlockLemmas.{ciphered-none, ciphered-part, ciphered-all}
use Rattle.bc_aes.proofs.blocks.encrypt_pieces.Goals as goal

pub loop-i-init : goal.loop-i-init
loop-i-init c = λ schedule keys. ciphered-none (encipher_by (length c.args.keys.now - 1) schedule) (128 * 0) c.args.text.now (omega arith)

pub loop-i-preserved : goal.loop-i-preserved
loop-i-preserved c = λ schedule keys.
    let i : ℕ = c.loop-i.i in
    ciphered-part (encipher_by (length c.args.keys.now - 1) schedule) (128 * i) 128 (128 * (i + 1)) c.args.text.now c.loop-i.text c.encrypt_eight.new.piece
    (omega arith) (omega arith) (omega arith) (omega arith) (c.loop-i.invariant schedule keys) (c.encrypt_eight.ensures.enciphers schedule keys)

pub returns : goal.returns
returns c = record {
  enciphers = λ schedule keys.
      ciphered-all (encipher_by (length c.args.keys.now - 1) schedule) (128 * c.loop-i.i) c.args.text.now c.loop-i.text (omega arith) (omega arith)
      (c.loop-i.invariant schedule keys);
}
