use Rattle.std.proofs.Common.{List, ℕ, ◌≡◌, ◌-◌, ◌<◌, length}
use Rattle.bc_aes.specs.Cipher.{after_inv_round}
use Rattle.bc_aes.specs.Slices.{slices_of, sliced_block}
use Rattle.bc_aes.specs.SlicedRounds.{raised, AreRoundKeys}
use Rattle.bc_aes.proofs.eight.deciphered.Given as goal

-- the state has the constant
abbrev pub invariant-loop-before : goal.invariant-loop-before
invariant-loop-before l =
    (schedule : List ℕ) → AreRoundKeys schedule l.keys → (k : ℕ) → k < 8
    → raised (sliced_block (slices_of l.state) k) ≡ after_inv_round (length l.keys - 1) schedule (sliced_block (slices_of l.fn.q) k) l.before
