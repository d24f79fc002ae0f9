use Rattle.std.proofs.Common.{List, ℕ, ◌-◌, ◌*◌, length}
use Rattle.bc_aes.specs.Cipher.{decipher_by}
use Rattle.bc_aes.specs.SlicedRounds.{AreRoundKeys}
use Rattle.bc_aes.proofs.BlockLemmas.{Ciphered}
use Rattle.bc_aes.proofs.blocks.decrypt_pieces.Given as goal

abbrev pub invariant-loop-i : goal.invariant-loop-i
invariant-loop-i l = (schedule : List ℕ) → AreRoundKeys schedule l.keys → Ciphered (decipher_by (length l.keys - 1) schedule) (128 * l.i) l.fn.raw l.raw
