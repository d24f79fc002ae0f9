use Rattle.std.proofs.Common.{◌≡◌, ◌-◌, ◌/◌, length}
use Rattle.bc_aes.specs.Cipher.{after_inv_round}
use Rattle.bc_aes.proofs.plain.deciphered.Given as goal

abbrev pub invariant-loop-before : goal.invariant-loop-before
invariant-loop-before l = l.state ≡ after_inv_round (length l.schedule / 16 - 1) l.schedule l.block l.before
