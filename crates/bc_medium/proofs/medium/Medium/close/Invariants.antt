use Rattle.std.proofs.Common.{◌≡◌, ◌+◌, ◌≤◌, length}
use Rattle.std.specs.Prelude.{vec_len, vec_capacity}
use mathlib.Core.List.{reverse}
use Rattle.bc_base.specs.Lists.{EachFrom}
use Rattle.bc_turn.specs.PassParts.{IsClosed}
use Rattle.bc_medium.specs.Entries.{caller_of}
use Rattle.bc_medium.specs.Medium.{EachTwoFrom, IsEnd, Keeps}
use Rattle.bc_medium.proofs.medium.Medium.close.Given as goal

abbrev pub invariant-loop-value : goal.invariant-loop-value
invariant-loop-value g l =
    EachTwoFrom (λ k store order. IsEnd g.S.Store.owns g.S.Store.contents g.S.Store.calls g.S.Store.faults l.fn.self l.fn.passes.items k store order.items) 0 l.stores.items l.orders.items
    × EachFrom (IsClosed (λ s. s.entries) (Keeps g.S.Store.owns g.S.Store.contents g.S.Store.calls g.S.Store.faults) caller_of l.fn.self.turns l.fn.passes.items) (length l.stores.items) (reverse l.values.items)
    × (length l.stores.items + length l.values.items ≡ length l.fn.self.turns.cells)
    × (vec_len l.stores + vec_len l.values ≤ vec_capacity l.stores) × (vec_len l.orders + vec_len l.values ≤ vec_capacity l.orders)

abbrev pub decreases-loop-value : goal.decreases-loop-value
decreases-loop-value g l = length l.values.items
