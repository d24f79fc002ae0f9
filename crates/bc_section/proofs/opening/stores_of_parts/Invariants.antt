use Rattle.std.proofs.Common.{◌≡◌, ℕ, length}
use Rattle.bc_base.specs.Lists.{AllAt}
use Rattle.bc_section.specs.Openings.{IsOpening}
use Rattle.bc_section.proofs.opening.stores_of_parts.Given as goal

abbrev pub invariant-loop-shard : goal.invariant-loop-shard
invariant-loop-shard l = record {
  count : length l.stores.items ≡ l.shard;
  each : (k : ℕ) → AllAt l.stores.items k (IsOpening l.script l.image l.shards k);
}
