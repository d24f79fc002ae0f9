use Rattle.std.proofs.Common.{ℕ, ◌<◌, ◌≤◌, length, get_or}
use Rattle.bc_profile.proofs.search.least.Given as goal

abbrev pub invariant-loop-place : goal.invariant-loop-place
invariant-loop-place l = record {
  inside : l.least < length l.stamps;
  least : (k : ℕ) → k < l.place → get_or l.stamps l.least 0 ≤ get_or l.stamps k 0;
}
