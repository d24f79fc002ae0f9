use Rattle.std.proofs.Common.{◌≡◌, map}
use Rattle.std.specs.List.{range_with_len}
use Rattle.bc_threads.specs.Quotas.{unit_quota}
use Rattle.bc_threads.proofs.quotas.units_of_section.Given as goal

abbrev pub invariant-loop-shard : goal.invariant-loop-shard
invariant-loop-shard l = record { row : l.row.items ≡ map (λ shard. unit_quota l.script l.shards shard l.section) (range_with_len 0 l.shard) }
