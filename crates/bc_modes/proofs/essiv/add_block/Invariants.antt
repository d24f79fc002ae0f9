use Rattle.std.proofs.Common.{◌≡◌, ℕ, ◌<◌, ◌≤◌, bit_xor, get_or, length}
use Rattle.bc_modes.proofs.essiv.add_block.Given as goal

abbrev pub invariant-loop-i : goal.invariant-loop-i
invariant-loop-i l = record {
  size : length l.block ≡ 16;
  added : (k : ℕ) → k < l.i → get_or l.block k 0 ≡ bit_xor (get_or l.initial.block k 0) (get_or l.other k 0);
  left : (k : ℕ) → l.i ≤ k → get_or l.block k 0 ≡ get_or l.initial.block k 0;
}
