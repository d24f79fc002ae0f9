use Rattle.std.proofs.Common.{◌≡◌, ◌<◌, length, None}
use Rattle.bc_profile.proofs.tests.holds_name_their_programming.Given as goal

abbrev pub invariant-loop-key : goal.invariant-loop-key
invariant-loop-key g l = record { free : l.solo.held ≡ None; rows : length l.solo.rows ≡ 3; slots : l.solo.count ≡ 2 }
