use Rattle.std.proofs.Common.{◌≡◌, length, None}
use Rattle.bc_profile.proofs.tests.many_uses_are_the_fold.Given as goal

abbrev pub invariant-loop : goal.invariant-loop
invariant-loop g l = record { free : l.solo.held ≡ None; rows : length l.solo.rows ≡ 3 }
