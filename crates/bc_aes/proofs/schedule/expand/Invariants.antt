use Rattle.std.proofs.Common.{◌≡◌, ◌-◌, take}
use Rattle.bc_aes.specs.KeyExpansion.{expanded}
use Rattle.bc_aes.specs.Columns.{schedule_bytes}
use Rattle.bc_aes.proofs.schedule.expand.Given as goal

abbrev pub invariant-loop-i : goal.invariant-loop-i
invariant-loop-i l = schedule_bytes (take l.i l.schedule) ≡ expanded l.nk l.key (l.i - l.nk)
