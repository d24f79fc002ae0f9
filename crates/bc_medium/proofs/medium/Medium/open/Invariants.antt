use Rattle.std.proofs.Common.{◌≡◌, ◌+◌, ◌≤◌, ◌++◌, [], map, length}
use Rattle.std.specs.Prelude.{vec_len, vec_capacity, IfSome}
use mathlib.Core.List.{reverse}
use Rattle.bc_base.specs.Lists.{Each}
use Rattle.bc_medium.specs.Medium.{openings, Keeps}
use Rattle.bc_medium.proofs.medium.Medium.open.Given as goal

abbrev pub invariant-loop-store : goal.invariant-loop-store
invariant-loop-store g l =
    (map (λ v. v.1) l.values.items ++ openings l.fn.keys.keys (map (λ row. row.items) l.fn.quotas.items) (length l.values.items) (reverse l.stores.items) ≡ openings l.fn.keys.keys (map (λ row. row.items) l.fn.quotas.items) 0 l.fn.stores.items)
    × Each (λ v. (v.0.entries ≡ []) × Keeps g.S.Store.owns g.S.Store.contents g.S.Store.calls g.S.Store.faults v.1 v.0) l.values.items
    × Each (λ s. IfSome (g.S.Store.calls s) (λ told. told.calls ≡ 0)) l.stores.items
    × (vec_len l.values + vec_len l.stores ≡ vec_len l.fn.stores)
    × (vec_len l.fn.stores ≤ vec_capacity l.values)

abbrev pub decreases-loop-store : goal.decreases-loop-store
decreases-loop-store g l = length l.stores.items
