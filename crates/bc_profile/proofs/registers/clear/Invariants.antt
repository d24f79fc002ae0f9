use Rattle.std.proofs.Common.{◌≡◌, ℕ, ◌<◌, get_or}
use Rattle.bc_profile.specs.Rows.{cleared}
use Rattle.bc_profile.proofs.registers.clear.Given as goal

abbrev pub invariant-loop-row : goal.invariant-loop-row
invariant-loop-row l = (k : ℕ) → k < l.row-index → get_or l.registers k cleared ≡ cleared
