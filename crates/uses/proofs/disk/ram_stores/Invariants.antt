use Rattle.std.proofs.Common.{◌≡◌, length}
use Rattle.bc_base.specs.Lists.{EachFrom}
use Rattle.uses.specs.Disks.{IsFreshShard}
use Rattle.uses.proofs.disk.ram_stores.Given as goal

abbrev pub invariant-loop-shard : goal.invariant-loop-shard
invariant-loop-shard l = (length l.stores.items ≡ l.shard) × EachFrom (IsFreshShard l.image l.shards) 0 l.stores.items
