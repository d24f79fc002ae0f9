use Rattle.std.proofs.Common.{◌≡◌, ℕ, ◌<◌, ◌≤◌, bit_xor, get_or}
use Rattle.bc_modes.proofs.piece.add_blocks.Given as goal

abbrev pub invariant-loop-i : goal.invariant-loop-i
invariant-loop-i l =
    ((k : ℕ) → k < l.i → get_or l.piece k 0 ≡ bit_xor (get_or l.initial.piece k 0) (get_or l.blocks k 0))
    × ((k : ℕ) → l.i ≤ k → get_or l.piece k 0 ≡ get_or l.initial.piece k 0)
