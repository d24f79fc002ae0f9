use Rattle.std.proofs.Common.{◌≡◌, ◌-◌, ◌*◌, take}
use Rattle.bc_aes.specs.KeyExpansion.{expanded}
use Rattle.bc_aes.proofs.plain.expand.Given as goal

abbrev pub invariant-loop-i : goal.invariant-loop-i
invariant-loop-i l = take (4 * l.i) l.schedule ≡ expanded l.nk l.key (l.i - l.nk)
