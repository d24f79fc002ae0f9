use Rattle.std.proofs.Common.{◌≡◌, take}
use Rattle.bc_threads.specs.Quotas.{unit_quota}
use Rattle.bc_threads.proofs.quotas.units_at.Given as goal

abbrev pub invariant-loop-operation : goal.invariant-loop-operation
invariant-loop-operation l = record { count : l.count ≡ unit_quota l.script l.shards l.shard (take l.operation-index l.section) }
