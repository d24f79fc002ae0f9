use Rattle.std.proofs.Common.{◌≡◌, ◌+◌, ◌≤◌, ◌++◌, length, drop}
use Rattle.std.specs.Prelude.{vec_len, vec_capacity, IfSome}
use mathlib.Core.List.{reverse}
use Rattle.bc_base.specs.Lists.{Each}
use Rattle.bc_medium.specs.Shards.{opened_with}
use Rattle.bc_medium.proofs.shards.Shards.open.Given as goal

abbrev pub invariant-loop-store : goal.invariant-loop-store
invariant-loop-store g l =
    (l.shards.items ++ opened_with (reverse l.stores.items) (drop (length l.shards.items) l.fn.quotas.items) ≡ opened_with l.fn.stores.items l.fn.quotas.items)
    × Each (λ s. IfSome (g.S.Store.calls s) (λ told. told.calls ≡ 0)) l.stores.items
    × (vec_len l.shards + vec_len l.stores ≡ vec_len l.fn.stores)
    × (vec_len l.fn.stores ≤ vec_capacity l.shards)

abbrev pub decreases-loop-store : goal.decreases-loop-store
decreases-loop-store g l = length l.stores.items
