use Rattle.std.proofs.Common.{◌≡◌, ℕ, ◌<◌, ◌≤◌, get_or, None}
use Rattle.bc_profile.specs.Rows.{cleared, row_of}
use Rattle.bc_profile.proofs.registers.program_again.Given as goal

abbrev pub invariant-loop-slot : goal.invariant-loop-slot
invariant-loop-slot l = record {
  done : (k : ℕ) → k < l.slot → get_or l.registers k cleared ≡ row_of l.rows (get_or l.keys k None);
  left : (k : ℕ) → l.slot ≤ k → get_or l.registers k cleared ≡ cleared;
}
