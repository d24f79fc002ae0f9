use Rattle.std.proofs.Common.{◌≡◌, length, None}
use Rattle.bc_speed.proofs.keyslots.hold_keys.Given as goal

abbrev pub invariant-loop : goal.invariant-loop
invariant-loop l = record { free : l.solo.held ≡ None; keys : length l.solo.rows ≡ 4096 }
