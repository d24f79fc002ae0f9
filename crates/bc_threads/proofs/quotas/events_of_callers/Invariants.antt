use Rattle.std.proofs.Common.{◌≡◌, map, take}
use Rattle.bc_threads.specs.Quotas.{event_row}
use Rattle.bc_threads.proofs.quotas.events_of_callers.Given as goal

abbrev pub invariant-loop-section : goal.invariant-loop-section
invariant-loop-section l = record { rows : map (λ row. row.items) l.rows.items ≡ map (event_row l.script) (take l.section-index l.script.threads) }
