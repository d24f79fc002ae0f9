use Rattle.std.proofs.Common.{◌-◌, ◌*◌, ◌/◌, length}
use Rattle.bc_aes.specs.Cipher.{decipher_by}
use Rattle.bc_aes.specs.Columns.{schedule_bytes}
use Rattle.bc_aes.proofs.BlockLemmas.{Ciphered}
use Rattle.bc_aes.proofs.blocks.decrypt_singly.Given as goal

abbrev pub invariant-loop-i : goal.invariant-loop-i
invariant-loop-i l = Ciphered (decipher_by (length l.schedule / 4 - 1) (schedule_bytes l.schedule)) (16 * l.i) l.fn.raw l.raw
