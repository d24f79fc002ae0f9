use Rattle.std.proofs.Common.{◌≡◌, ◌+◌, ◌≤◌, ◌++◌, List, map}
use Rattle.std.specs.Prelude.{vec_len, vec_capacity}
use mathlib.Core.List.{reverse}
use Rattle.bc_base.specs.Lists.{Each}
use Rattle.bc_medium.specs.ShardOrder.{ShardData, IsOrder}
use Rattle.bc_medium.proofs.shards.Shards.close.Given as goal

abbrev pub invariant-loop-shard : goal.invariant-loop-shard
invariant-loop-shard g l =
    ((done : List (ShardData g.row.S.Denot)) × (done ++ reverse l.shards.items ≡ l.fn.self) × (l.stores.items ≡ map (λ s. s.store) done) × (map (λ order. order.items) l.orders.items ≡ map (λ s. s.entries) done)
    × Each (λ s. IsOrder g.S.Store.owns g.S.Store.contents g.S.Store.calls g.S.Store.faults s.start s.keys s.store s.entries) done)
    × (vec_len l.stores + vec_len l.shards ≤ vec_capacity l.stores) × (vec_len l.orders + vec_len l.shards ≤ vec_capacity l.orders)

abbrev pub decreases-loop-shard : goal.decreases-loop-shard
decreases-loop-shard g l = goal.left-loop-shard g l
