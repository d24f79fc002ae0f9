use Rattle.std.proofs.Common.{◌≡◌, map, take}
use Rattle.bc_ufs.specs.Controllers.{row_for}
use Rattle.bc_disk.proofs.opening.rows_of.Given as goal

abbrev pub invariant-loop-number : goal.invariant-loop-number
invariant-loop-number l = l.rows.items ≡ map (row_for l.caps) (take l.number l.keys.keys)
