use Rattle.std.proofs.Common.{◌≡◌, ◌≤◌}
use Rattle.bc_threads.specs.Quotas.{units_from}
use Rattle.bc_threads.proofs.quotas.units_from.Given as goal

abbrev pub invariant-loop-unit : goal.invariant-loop-unit
invariant-loop-unit l = record {
  count : l.count ≡ units_from l.shards l.shard l.sector l.sectors l.unit;
  below : l.count ≤ l.unit;
}
