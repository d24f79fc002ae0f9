use Rattle.std.proofs.Common.{◌≡◌, ◌+◌, ◌≤◌, map, length, take}
use Rattle.std.specs.Prelude.{vec_len, vec_capacity}
use mathlib.Core.List.{reverse}
use Rattle.bc_base.specs.Lists.{Each}
use Rattle.bc_base.specs.Lists.{EachFrom}
use Rattle.bc_turn.specs.PassParts.{IsClosed, cut_to}
use Rattle.bc_turn.proofs.turns.Turns.close.Given as goal

abbrev pub invariant-loop-cell : goal.invariant-loop-cell
invariant-loop-cell g l =
    (l.passes.items ≡ map (cut_to (length l.cells.items)) l.fn.passes.items)
    × (map (λ c. record { id = c.table.shared.table_id; base = c.table.shared.key.base }) l.cells.items ≡ take (length l.cells.items) l.fn.self.cells)
    × Each (λ c. c.table.shared.key.callers ≡ l.fn.self.callers) l.cells.items
    × EachFrom (IsClosed g.V.Story.entries_of g.V.Story.keeps g.V.Story.by l.fn.self l.fn.passes.items) (length l.cells.items) (reverse l.ended.items)
    × (length l.ended.items + length l.cells.items ≡ length l.fn.self.cells)
    × (vec_len l.ended + vec_len l.cells ≤ vec_capacity l.ended)

abbrev pub decreases-loop-cell : goal.decreases-loop-cell
decreases-loop-cell g l = goal.left-loop-cell g l
