use Rattle.std.proofs.Common.{◌≡◌, length, replicate}
use Rattle.bc_base.specs.Lists.{Each}
use Rattle.uses.proofs.disk.even_quotas.Given as goal

abbrev pub invariant-loop-caller : goal.invariant-loop-caller
invariant-loop-caller l = (length l.rows.items ≡ l.caller) × Each (λ row. row.items ≡ replicate l.shards l.quota) l.rows.items
