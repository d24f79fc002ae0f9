use Rattle.std.proofs.Common.{rules, ◌≡◌, ◌++◌, ◌∷◌, [], List, map, ap, ap₂, sym, ◌∙◌, subst, append-nil}
use mathlib.Core.List.{reverse}
use Rattle.bc_base.specs.Lists.{Each}
use Rattle.std.proofs.lemmas.List.{map-append}
use Rattle.bc_base.proofs.Lists.{each_append}
use Rattle.bc_medium.specs.ShardOrder.{ShardData, IsOrder}
use Rattle.bc_medium.proofs.Chosen.{more_done}
use Rattle.bc_medium.proofs.Told.{all_left}
use Rattle.bc_medium.proofs.shards.Shards.close.Goals as goal

pub loop-shard-preserved : goal.loop-shard-preserved
loop-shard-preserved g c =
    let i = c.loop-shard.invariant.0 in let done : List (ShardData g.row.S.Denot) = i.0 in let s = c.in-Some.shard in let e = c.close-store.ensures in (
      (
        done ++ s ∷ [],
        more_done done c.pop.new.self.items c.loop-shard.shards.items c.args.self s i.1 c.in-Some.ensures.items,
        c.push_reserved.ensures.items ∙ ap₂ (λ l x. l ++ x ∷ []) i.2 e.parts.0 ∙ sym (map-append (λ z. z.store) done (s ∷ [])),
        ap (map (λ o. o.items)) c.push_reserved-in-Some.ensures.items ∙ map-append (λ o. o.items) c.loop-shard.orders.items _ ∙ ap₂ (λ l x. l ++ x ∷ []) i.3 e.parts.1 ∙ sym (map-append (λ z. z.entries) done (s ∷ [])),
        each_append (λ z. IsOrder g.S.Store.owns g.S.Store.contents g.S.Store.calls g.S.Store.faults z.start z.keys z.store z.entries) done (s ∷ []) i.4 (e.order, tt),
      ),
      search rules,
      search rules,
    )

pub returns-clause-left : goal.returns-clause-left
returns-clause-left g c =
    let i = c.loop-shard.invariant.0 in let empty : c.loop-shard.shards.items ≡ [] = search rules in
    let whole : i.0 ≡ c.args.self = sym (append-nil i.0) ∙ ap (λ l. i.0 ++ reverse l) (sym empty) ∙ i.1 in
    all_left g.S.Store.contents g.S.Store.owns g.S.Store.calls g.S.Store.faults c.args.self
    (subst (Each (λ z. IsOrder g.S.Store.owns g.S.Store.contents g.S.Store.calls g.S.Store.faults z.start z.keys z.store z.entries)) whole i.4)
