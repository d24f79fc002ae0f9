use Rattle.std.proofs.Common.{◌≡◌, ℕ, ◌<◌, get_or}
use Rattle.bc_aes.specs.Columns.{column, unmixed_column}
use Rattle.bc_aes.proofs.schedule.unmix.Given as goal

abbrev pub invariant-loop-i : goal.invariant-loop-i
invariant-loop-i l = (k : ℕ) → k < l.i → column (get_or l.unmixed_schedule k 0) ≡ unmixed_column (column (get_or l.schedule k 0))
