use Rattle.std.proofs.Common.{ℕ, ◌+◌, ◌-◌, ◌*◌, length, arith}
use Rattle.bc_aes.specs.Cipher.{decipher_by}
use Rattle.bc_aes.proofs.BlockLemmas.{ciphered-none, ciphered-part, ciphered-all}
use Rattle.bc_aes.proofs.blocks.decrypt_pieces.Goals as goal

pub loop-i-init : goal.loop-i-init
loop-i-init c = λ schedule keys. ciphered-none (decipher_by (length c.args.keys.now - 1) schedule) (128 * 0) c.args.raw.now (omega arith)

pub loop-i-preserved : goal.loop-i-preserved
loop-i-preserved c = λ schedule keys.
    let i : ℕ = c.loop-i.i in
    ciphered-part (decipher_by (length c.args.keys.now - 1) schedule) (128 * i) 128 (128 * (i + 1)) c.args.raw.now c.loop-i.raw c.decrypt_eight.new.piece
    (omega arith) (omega arith) (omega arith) (omega arith) (c.loop-i.invariant schedule keys) (c.decrypt_eight.ensures.deciphers schedule keys)

pub returns : goal.returns
returns c = record {
  deciphers = λ schedule keys.
      ciphered-all (decipher_by (length c.args.keys.now - 1) schedule) (128 * c.loop-i.i) c.args.raw.now c.loop-i.raw (omega arith) (omega arith)
      (c.loop-i.invariant schedule keys);
}
