use Rattle.std.proofs.Common.{rules, ◌≡◌, ◌+◌, ◌<◌, ◌∷◌, [], length, ap, sym, ◌∙◌, subst, arith, length-append}
use mathlib.Core.List.{reverse}
use Rattle.bc_base.specs.Lists.{Each, EachFrom}
use Rattle.bc_turn.specs.PassParts.{IsClosed}
use Rattle.bc_medium.specs.Entries.{caller_of}
use Rattle.bc_medium.specs.Medium.{IsEnd, Keeps}
use Rattle.bc_medium.proofs.Ends.{two_pushed, ends_one, first_of_rest}
use Rattle.bc_medium.proofs.medium.Medium.close.Goals as goal

pub loop-value-preserved : goal.loop-value-preserved
loop-value-preserved g c =
    let i = c.loop-value.invariant in let e = c.close-store.ensures in let pop = c.in-Some.ensures.items in
    let f = first_of_rest (IsClosed (λ s. s.entries) (Keeps g.S.Store.owns g.S.Store.contents g.S.Store.calls g.S.Store.faults) caller_of c.args.self.turns c.args.passes.items) (length c.loop-value.stores.items) c.loop-value.values.items c.pop.new.self.items c.in-Some.value pop i.1 in
    let stores = c.push_reserved.ensures.items in let orders = c.push_reserved-in-Some.ensures.items in
    let same = subst (λ m. Each (λ d. d.base.keys ≡ m.keys.keys) m.turns.cells) c.self.view_is c.self.invariant.same_keys in
    let fewer = ap length pop ∙ length-append c.pop.new.self.items (c.in-Some.value ∷ []) in
    let inside : length c.loop-value.stores.items < length c.args.self.turns.cells = let a = i.2 in omega arith in
    let one = ends_one g.S.Store.owns g.S.Store.contents g.S.Store.calls g.S.Store.faults c.args.self c.args.passes.items (length c.loop-value.stores.items) c.in-Some.value c.close-store.result.0 c.close-store.result.1.items inside c.requires.passes same f.0 e.0 e.1 in
    let grown : length c.push_reserved.new.self.items ≡ length c.loop-value.stores.items + 1 = ap length stores ∙ length-append c.loop-value.stores.items (c.close-store.result.0 ∷ []) in (
      two_pushed (λ k store order. IsEnd g.S.Store.owns g.S.Store.contents g.S.Store.calls g.S.Store.faults c.args.self c.args.passes.items k store order.items) _ _ _ _ _ _ stores orders i.0 one,
      subst (λ n. EachFrom (IsClosed (λ s. s.entries) (Keeps g.S.Store.owns g.S.Store.contents g.S.Store.calls g.S.Store.faults) caller_of c.args.self.turns c.args.passes.items) n (reverse c.pop.new.self.items)) (sym grown) f.1,
      (let a = i.2 in omega arith),
      search rules,
      search rules,
    )
