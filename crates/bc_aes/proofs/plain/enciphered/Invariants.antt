use Rattle.std.proofs.Common.{◌≡◌}
use Rattle.bc_aes.specs.Cipher.{after_round}
use Rattle.bc_aes.proofs.plain.enciphered.Given as goal

abbrev pub invariant-loop-before : goal.invariant-loop-before
invariant-loop-before l = l.state ≡ after_round l.schedule l.block l.before
