use Rattle.std.proofs.Common.{rules, ◌≡◌, ◌++◌, ◌∷◌, [], Some, ap, ap₂, sym, ◌∙◌, subst, length, map, append-nil}
use Rattle.std.specs.List.{range_with_len}
use Rattle.std.proofs.lemmas.List.{reverse-reverse, map-append}
use Rattle.std.proofs.lemmas.List.FromFn.{length-map-range_with_len}
use mathlib.Core.List.{reverse}
use Rattle.bc_base.specs.Lists.{Each}
use Rattle.bc_turn.specs.Turning.{newcomers, view_of}
use Rattle.bc_turn.specs.PassParts.{CellData, new_pass, with_cell}
use Rattle.bc_turn.proofs.Rounds.{all_bases, more_cells, numbers_new, map-map'}
use Rattle.bc_base.proofs.Lists.{each_back, each_front, each_append, each_reverse}
use Rattle.bc_turn.proofs.turns.Turns.open.Goals as goal

pub loop-value-init : goal.loop-value-init
loop-value-init g c =
    let r = c.turn_round.ensures.items in let none = c.new-cells.ensures.items in (
      subst (Each (λ v. (g.V.Story.entries_of v.0 ≡ []) × g.V.Story.keeps v.1 v.0)) (sym r) (each_reverse (λ v. (g.V.Story.entries_of v.0 ≡ []) × g.V.Story.keeps v.1 v.0) c.args.values.items c.requires.empty),
      subst (Each (λ c'. c'.table.shared.key.callers ≡ c.args.callers)) (sym none) tt,
      ap₂ (λ cells values. map (λ c'. c'.table.shared.key.base) cells ++ map (λ v. v.1) (reverse values)) none r ∙ ap (map (λ v. v.1)) (reverse-reverse c.args.values.items),
      c.in_ok-passes.ensures ∙ ap (λ cells. map (new_pass (map (λ c'. record { id = c'.table.shared.table_id; base = c'.table.shared.key.base }) cells)) (range_with_len 0 c.args.callers)) (sym none),
    )

pub open-requires-clause-empty : goal.open-requires-clause-empty
open-requires-clause-empty g c = (each_back (λ v. (g.V.Story.entries_of v.0 ≡ []) × g.V.Story.keeps v.1 v.0) c.pop.new.self.items (c.in-Some.value ∷ []) (subst (Each (λ v. (g.V.Story.entries_of v.0 ≡ []) × g.V.Story.keeps v.1 v.0)) c.in-Some.ensures.items c.loop-value.invariant.0)).0.0

pub open-requires-clause-keeps : goal.open-requires-clause-keeps
open-requires-clause-keeps g c = (each_back (λ v. (g.V.Story.entries_of v.0 ≡ []) × g.V.Story.keeps v.1 v.0) c.pop.new.self.items (c.in-Some.value ∷ []) (subst (Each (λ v. (g.V.Story.entries_of v.0 ≡ []) × g.V.Story.keeps v.1 v.0)) c.in-Some.ensures.items c.loop-value.invariant.0)).0.1

pub seat_callers-requires-clause-rest : goal.seat_callers-requires-clause-rest
seat_callers-requires-clause-rest g c =
    let n = ap length c.loop-value.invariant.3 ∙ length-map-range_with_len (new_pass _) 0 c.args.callers in let e = c.in_ok-cell.ensures in
    e.3 ∙ ap₂ (λ b n. (view_of (Some b) (newcomers n), [])) (sym e.2) (sym n)

pub seat_callers-requires-clause-numbers : goal.seat_callers-requires-clause-numbers
seat_callers-requires-clause-numbers g c =
    let n = ap length c.loop-value.invariant.3 ∙ length-map-range_with_len (new_pass _) 0 c.args.callers in
    ap (map (λ p. p.caller)) c.loop-value.invariant.3 ∙ numbers_new g.row.V-Item.Denot _ (range_with_len 0 c.args.callers) ∙ ap (range_with_len 0) (sym n)

pub loop-value-preserved : goal.loop-value-preserved
loop-value-preserved g c =
    let i = c.loop-value.invariant in let pop = c.in-Some.ensures.items in let push = c.in_ok-push.ensures.items in let e = c.in_ok-cell.ensures in
    let d : CellData g.row.V-Base.Denot = record { id = c.in_ok-cell.cell.table.shared.table_id; base = c.in_ok-cell.cell.table.shared.key.base } in (
      each_front (λ v. (g.V.Story.entries_of v.0 ≡ []) × g.V.Story.keeps v.1 v.0) c.pop.new.self.items (c.in-Some.value ∷ []) (subst (Each (λ v. (g.V.Story.entries_of v.0 ≡ []) × g.V.Story.keeps v.1 v.0)) pop i.0),
      subst (Each (λ c'. c'.table.shared.key.callers ≡ c.args.callers)) (sym push) (each_append (λ c'. c'.table.shared.key.callers ≡ c.args.callers) c.loop-value.cells.items (c.in_ok-cell.cell ∷ []) i.1 (e.1, tt)),
      ap (λ cells. map (λ c'. c'.table.shared.key.base) cells ++ map (λ v. v.1) (reverse c.pop.new.self.items)) push
          ∙ all_bases (λ v. v.1) (λ c'. c'.table.shared.key.base) c.loop-value.cells.items c.in_ok-cell.cell c.loop-value.values.items c.pop.new.self.items c.in-Some.value _ pop e.2 i.2,
      c.in_ok-seat_callers.ensures ∙ ap (map (with_cell d)) i.3 ∙ more_cells _ d (range_with_len 0 c.args.callers)
          ∙ ap (λ cells. map (new_pass cells) (range_with_len 0 c.args.callers)) (sym (map-append (λ c'. record { id = c'.table.shared.table_id; base = c'.table.shared.key.base }) c.loop-value.cells.items (c.in_ok-cell.cell ∷ [])) ∙ ap (map (λ c'. record { id = c'.table.shared.table_id; base = c'.table.shared.key.base })) (sym push)),
    )

pub returns-clause-bases : goal.returns-clause-bases
returns-clause-bases g c =
    let none : c.loop-value.values.items ≡ [] = search rules in
    map-map' (λ c'. c'.base) (λ c'. record { id = c'.table.shared.table_id; base = c'.table.shared.key.base }) c.loop-value.cells.items
    ∙ sym (append-nil _) ∙ ap (λ l. map (λ c'. c'.table.shared.key.base) c.loop-value.cells.items ++ map (λ v. v.1) (reverse l)) (sym none) ∙ c.loop-value.invariant.2
