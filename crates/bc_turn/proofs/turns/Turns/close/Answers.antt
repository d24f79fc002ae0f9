use Rattle.std.proofs.Common.{rules, ◌≡◌, ℕ, ◌+◌, ◌<◌, ◌≤◌, ◌++◌, ◌∷◌, [], ap, ap₂, sym, ◌∙◌, subst, arith, length, map, take, refl, length-append}
use Rattle.std.specs.Prelude.{flat_map}
use Rattle.std.proofs.lemmas.List.{length-map, take_all}
use mathlib.Core.List.{reverse}
use Rattle.bc_base.specs.Lists.{Each}
use Rattle.bc_turn.specs.Turning.{sum_of, names, has}
use Rattle.bc_base.specs.Lists.{EachFrom}
use Rattle.bc_turn.specs.PassParts.{CellData, IsClosed, cut_to, accounts_from}
use Rattle.bc_base.proofs.Lists.{each_back, each_front}
use Rattle.bc_turn.proofs.Rounds.{round, has_some, cut_parts, cut_cells, named_all, none_holds, cut_again, cut_none, closes_one, more_closed}
use Rattle.bc_turn.proofs.turns.Turns.close.Goals as goal

pub loop-cell-init : goal.loop-cell-init
loop-cell-init g c =
    let cells = ap (λ t. t.cells) c.self.view_is in
    let long : length c.self.inside.cells.items ≡ length c.args.self.cells = sym (length-map c.self.inside.cells.items (λ c'. record { id = c'.table.shared.table_id; base = c'.table.shared.key.base })) ∙ ap length cells in
    let none : c.in-Ok.ended.items ≡ [] = c.in-Ok.ensures.items in (
      cut_none c.args.self _ c.args.passes.items long c.requires.passes,
      cells ∙ sym (take_all _ c.args.self.cells (omega arith)),
      subst (λ n. Each (λ c'. c'.table.shared.key.callers ≡ n) c.self.inside.cells.items) (ap (λ t. t.callers) c.self.view_is) c.self.invariant.1,
      subst (λ l. EachFrom (IsClosed g.V.Story.entries_of g.V.Story.keeps g.V.Story.by c.args.self c.args.passes.items) (length c.self.inside.cells.items) (reverse l)) (sym none) tt,
      let l = ap length none in omega arith,
      search rules,
    )

pub gather-joint-requires-clause-some : goal.gather-joint-requires-clause-some
gather-joint-requires-clause-some g c =
    let one : 0 < c.args.self.callers = let i = c.self.invariant.0 in let v = ap (λ t. t.callers) c.self.view_is in omega arith in
    let some = has_some 0 c.args.passes.items (c.requires.all 0 one) in
    let l = ap length c.loop-cell.invariant.0 ∙ length-map c.args.passes.items (cut_to (length c.loop-cell.cells.items)) in omega arith

pub gather-joint-requires-clause-parts : goal.gather-joint-requires-clause-parts
gather-joint-requires-clause-parts g c =
    let i = c.loop-cell.invariant in let k : c.len-in-Some.result ≡ length c.pop.new.self.items = search rules in
    let r = round (λ c'. record { id = c'.table.shared.table_id; base = c'.table.shared.key.base }) c.args.self _ _ c.in-Some.cell _ c.args.passes.items c.len-in-Some.result _ c.in-Some.ensures.items k i.1 i.0 i.4 in
    subst (Each (λ p. length p.parts ≡ c.len-in-Some.result + 1)) (sym r.0) (cut_parts c.args.self c.len-in-Some.result c.args.passes.items r.2 c.requires.passes)

pub gather-joint-requires-clause-cell : goal.gather-joint-requires-clause-cell
gather-joint-requires-clause-cell g c =
    let i = c.loop-cell.invariant in let k : c.len-in-Some.result ≡ length c.pop.new.self.items = search rules in
    let r = round (λ c'. record { id = c'.table.shared.table_id; base = c'.table.shared.key.base }) c.args.self _ _ c.in-Some.cell _ c.args.passes.items c.len-in-Some.result _ c.in-Some.ensures.items k i.1 i.0 i.4 in
    subst (Each (λ p. Rattle.bc_base.specs.Lists.AllAt p.parts c.len-in-Some.result (λ q. (q.cell ≡ c.in-Some.cell.table.shared.table_id) × (q.holds ≡ Rattle.std.proofs.Common.false)))) (sym r.0) (cut_cells c.args.self c.len-in-Some.result _ c.args.passes.items r.1 c.requires.passes c.requires.free)

pub close-requires-clause-here : goal.close-requires-clause-here
close-requires-clause-here g c =
    let i = c.loop-cell.invariant in let k : c.len-in-Some.result ≡ length c.pop.new.self.items = search rules in
    let r = round (λ c'. record { id = c'.table.shared.table_id; base = c'.table.shared.key.base }) c.args.self _ _ c.in-Some.cell _ c.args.passes.items c.len-in-Some.result _ c.in-Some.ensures.items k i.1 i.0 i.4 in
    let acc = c.gather-joint.ensures.joint.0 ∙ ap (flat_map (accounts_from c.len-in-Some.result)) r.0 in
    let n = (each_back (λ c'. c'.table.shared.key.callers ≡ c.args.self.callers) c.pop.new.self.items (c.in-Some.cell ∷ []) (subst (Each (λ c'. c'.table.shared.key.callers ≡ c.args.self.callers)) c.in-Some.ensures.items i.2)).0 in
    λ m l. subst (λ z. 0 < z) (sym (ap (sum_of (names m)) acc ∙ named_all c.args.self c.len-in-Some.result _ m c.args.passes.items r.1 r.2 c.requires.passes c.requires.free)) (c.requires.all m (subst (λ z. m < z) n l))

pub close-requires-clause-free : goal.close-requires-clause-free
close-requires-clause-free g c =
    let i = c.loop-cell.invariant in let k : c.len-in-Some.result ≡ length c.pop.new.self.items = search rules in
    let r = round (λ c'. record { id = c'.table.shared.table_id; base = c'.table.shared.key.base }) c.args.self _ _ c.in-Some.cell _ c.args.passes.items c.len-in-Some.result _ c.in-Some.ensures.items k i.1 i.0 i.4 in
    ap (sum_of has) (c.gather-joint.ensures.joint.0 ∙ ap (flat_map (accounts_from c.len-in-Some.result)) r.0) ∙ none_holds c.args.self c.len-in-Some.result _ c.args.passes.items r.1 r.2 c.requires.passes c.requires.free

pub loop-cell-preserved : goal.loop-cell-preserved
loop-cell-preserved g c =
    let i = c.loop-cell.invariant in let k : c.len-in-Some.result ≡ length c.pop.new.self.items = search rules in
    let pop = c.in-Some.ensures.items in
    let r = round (λ c'. record { id = c'.table.shared.table_id; base = c'.table.shared.key.base }) c.args.self _ _ c.in-Some.cell _ c.args.passes.items c.len-in-Some.result _ pop k i.1 i.0 i.4 in
    let acc = c.gather-joint.ensures.joint.0 ∙ ap (flat_map (accounts_from c.len-in-Some.result)) r.0 in
    let callers = subst (Each (λ c'. c'.table.shared.key.callers ≡ c.args.self.callers)) pop i.2 in
    let n = (each_back (λ c'. c'.table.shared.key.callers ≡ c.args.self.callers) c.pop.new.self.items (c.in-Some.cell ∷ []) callers).0 in
    let e = c.close.ensures in let push = c.push_reserved.ensures.items in
    let P = IsClosed g.V.Story.entries_of g.V.Story.keeps g.V.Story.by c.args.self c.args.passes.items in
    let one = closes_one g.V.Story.entries_of g.V.Story.keeps g.V.Story.by c.args.self c.len-in-Some.result _ c.close.result c.in-Some.cell.table.shared.key.callers c.args.passes.items c.gather-joint.result.me.0.accounts r.1 r.2 c.requires.passes c.requires.free acc n e.base e.fits e.strangers in
    let long : length c.loop-cell.cells.items ≡ length c.pop.new.self.items + 1 = ap length pop ∙ length-append c.pop.new.self.items (c.in-Some.cell ∷ []) in (
      c.gather-joint.ensures.passes ∙ ap (map (cut_to c.len-in-Some.result)) r.0 ∙ cut_again c.len-in-Some.result c.args.passes.items ∙ ap (λ m. map (cut_to m) c.args.passes.items) k,
      r.3 ∙ ap (λ m. take m c.args.self.cells) k,
      each_front (λ c'. c'.table.shared.key.callers ≡ c.args.self.callers) c.pop.new.self.items (c.in-Some.cell ∷ []) callers,
      subst (λ m. EachFrom P m (reverse c.push_reserved.new.self.items)) k (more_closed P c.len-in-Some.result c.loop-cell.ended.items c.push_reserved.new.self.items c.close.result push one (subst (λ m. EachFrom P m (reverse c.loop-cell.ended.items)) (long ∙ ap (λ m. m + 1) (sym k)) i.3)),
      let l = ap length push ∙ length-append c.loop-cell.ended.items (c.close.result ∷ []) in let a = i.4 in omega arith,
      search rules,
    )
