use Rattle.std.proofs.Common.{◌≡◌, ◌++◌, [], map, length}
use Rattle.std.specs.List.{range_with_len}
use mathlib.Core.List.{reverse}
use Rattle.bc_base.specs.Lists.{Each}
use Rattle.bc_turn.specs.PassParts.{new_pass}
use Rattle.bc_turn.proofs.turns.Turns.open.Given as goal

abbrev pub invariant-loop-value : goal.invariant-loop-value
invariant-loop-value g l =
    Each (λ v. (g.V.Story.entries_of v.0 ≡ []) × g.V.Story.keeps v.1 v.0) l.values.items
    × Each (λ c. c.table.shared.key.callers ≡ l.callers) l.cells.items
    × (map (λ c. c.table.shared.key.base) l.cells.items ++ map (λ v. v.1) (reverse l.values.items) ≡ map (λ v. v.1) l.fn.values.items)
    × (l.passes.items ≡ map (new_pass (map (λ c. record { id = c.table.shared.table_id; base = c.table.shared.key.base }) l.cells.items)) (range_with_len 0 l.callers))

abbrev pub decreases-loop-value : goal.decreases-loop-value
decreases-loop-value g l = length l.values.items
