use Rattle.std.proofs.Common.{◌≡◌, map, take}
use Rattle.std.specs.Prelude.{slice_index_or}
use Rattle.bc_disk.proofs.opening.column_of.Given as goal

abbrev pub invariant-loop-k : goal.invariant-loop-k
invariant-loop-k l = l.column.items ≡ map (λ row. slice_index_or row.items l.place 0) (take l.k l.rows.items)
