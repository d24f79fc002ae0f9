use Rattle.std.proofs.Common.{List, ℕ, ◌+◌, ◌-◌, ◌*◌, ◌/◌, length, arith}
use Rattle.bc_aes.specs.Cipher.{encipher_by}
use Rattle.bc_aes.specs.Columns.{schedule_bytes}
use Rattle.bc_aes.proofs.BlockLemmas.{ciphered-none, ciphered-put, ciphered-all, one_block}
use Rattle.bc_aes.proofs.blocks.encrypt_singly.Goals as goal

pub loop-i-init : goal.loop-i-init
loop-i-init c = ciphered-none (encipher_by (length c.args.schedule.now / 4 - 1) (schedule_bytes c.args.schedule.now)) (16 * 0) c.args.text.now (omega arith)

pub loop-i-preserved : goal.loop-i-preserved
loop-i-preserved c =
    let cipher : List ℕ → List ℕ = encipher_by (length c.args.schedule.now / 4 - 1) (schedule_bytes c.args.schedule.now) in
    let i : ℕ = c.loop-i.i in
    ciphered-put cipher (16 * i) 16 (16 * (i + 1)) c.args.text.now c.loop-i.text c.put_bytes.new.text c.bytes_at-block.result c.encrypt.new.block
    (omega arith) (omega arith) (omega arith) (omega arith) c.loop-i.invariant c.bytes_at-block.ensures.holds (omega arith)
    (one_block cipher c.bytes_at-block.result c.encrypt.new.block (omega arith) (omega arith) c.encrypt.ensures.enciphers)
    c.put_bytes.ensures.before c.put_bytes.ensures.here c.put_bytes.ensures.after

pub returns : goal.returns
returns c = record {
  enciphers = ciphered-all (encipher_by (length c.args.schedule.now / 4 - 1) (schedule_bytes c.args.schedule.now)) (16 * c.loop-i.i) c.args.text.now c.loop-i.text
      (omega arith) (omega arith) c.loop-i.invariant;
}
