use Rattle.std.proofs.Common.{◌≡◌, map, take}
use Rattle.bc_threads.specs.Quotas.{unit_row}
use Rattle.bc_threads.proofs.quotas.units_of_callers.Given as goal

abbrev pub invariant-loop-section : goal.invariant-loop-section
invariant-loop-section l = record { rows : map (λ row. row.items) l.rows.items ≡ map (unit_row l.script l.shards) (take l.section-index l.script.threads) }
