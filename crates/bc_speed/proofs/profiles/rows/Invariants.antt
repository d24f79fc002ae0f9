use Rattle.std.proofs.Common.{◌≡◌, length}
use Rattle.bc_speed.proofs.profiles.rows.Given as goal

abbrev pub invariant-loop-key : goal.invariant-loop-key
invariant-loop-key l = length l.rows.items ≡ l.key
