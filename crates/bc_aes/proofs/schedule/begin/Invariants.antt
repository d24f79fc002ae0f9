use Rattle.std.proofs.Common.{◌≡◌, ◌*◌, take}
use Rattle.bc_aes.specs.Columns.{schedule_bytes}
use Rattle.bc_aes.proofs.schedule.begin.Given as goal

abbrev pub invariant-loop-i : goal.invariant-loop-i
invariant-loop-i l = schedule_bytes (take l.i l.schedule) ≡ take (4 * l.i) l.key
