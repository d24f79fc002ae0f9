use Rattle.std.proofs.Common.{rules, ◌≡◌, ◌<◌, ◌++◌, ◌∷◌, [], map, length, ap, ap₂, sym, ◌∙◌, subst, arith, append-nil, Some, refl}
use Rattle.std.specs.Prelude.{IfSome, sum}
use Rattle.std.proofs.lemmas.List.{reverse-reverse, length-map}
use mathlib.Core.List.{reverse}
use Rattle.bc_base.specs.Lists.{Each}
use Rattle.bc_base.proofs.Lists.{each_back, each_front, each_append, each_reverse}
use Rattle.bc_medium.specs.Medium.{openings, quotas_of_shard, Belongs, Keeps}
use Rattle.bc_medium.proofs.Orders.{order_new}
use Rattle.bc_medium.proofs.Quotas.{keeps_new}
use Rattle.bc_medium.proofs.Openings.{each_weaken, each_of_mapped, more_openings, opened_medium, all_belong}
use Rattle.bc_medium.proofs.medium.Medium.open.Goals as goal

pub loop-store-init : goal.loop-store-init
loop-store-init g c =
    let none : c.in_ok-values.values.items ≡ [] = c.in_ok-values.ensures.items in let r = c.turn_round.ensures.items in (
      ap₂ (λ l ss. map (λ v. v.1) l ++ openings c.args.keys.keys (map (λ row. row.items) c.args.quotas.items) (length l) (reverse ss)) none r ∙ ap (openings c.args.keys.keys (map (λ row. row.items) c.args.quotas.items) 0) (reverse-reverse c.args.stores.items),
      subst (Each (λ v. (v.0.entries ≡ []) × Keeps g.S.Store.owns g.S.Store.contents g.S.Store.calls g.S.Store.faults v.1 v.0)) (sym none) tt,
      subst (Each (λ s. IfSome (g.S.Store.calls s) (λ told. told.calls ≡ 0))) (sym r) (each_reverse (λ s. IfSome (g.S.Store.calls s) (λ told. told.calls ≡ 0)) c.args.stores.items c.requires.calls),
      search rules,
      search rules,
    )

pub shard_quotas-requires-clause-rows : goal.shard_quotas-requires-clause-rows
shard_quotas-requires-clause-rows g c =
    let inside : c.len-in-Some.result < length c.args.stores.items = search rules in
    each_weaken (λ row. length row.items ≡ length c.args.stores.items) (λ row. c.len-in-Some.result < length row.items) c.args.quotas.items (λ row e. omega arith) c.requires.rows

pub shard_quotas-requires-clause-fits : goal.shard_quotas-requires-clause-fits
shard_quotas-requires-clause-fits g c =
    let inside : c.len-in-Some.result < length c.args.stores.items = search rules in c.requires.fits c.len-in-Some.result inside

pub loop-store-preserved : goal.loop-store-preserved
loop-store-preserved g c =
    let i = c.loop-store.invariant in let n : c.len-in-Some.result ≡ length c.loop-store.values.items = search rules in
    let push = c.push_reserved.ensures.items in let pop = c.in-Some.ensures.items in let v = c.in_ok-value.ensures in
    let calls = (each_back (λ s. IfSome (g.S.Store.calls s) (λ told. told.calls ≡ 0)) c.pop.new.self.items (c.in-Some.store ∷ []) (subst (Each (λ s. IfSome (g.S.Store.calls s) (λ told. told.calls ≡ 0))) pop i.2)).0 in
    let quotas = c.in_ok-column.ensures.column ∙ ap (λ k. quotas_of_shard k (map (λ row. row.items) c.args.quotas.items)) n in
    let is = c.of-base.ensures ∙ ap (λ q. record { store = c.in-Some.store; keys = c.args.keys.keys; quotas = q }) quotas in
    let keeps : Keeps g.S.Store.owns g.S.Store.contents g.S.Store.calls g.S.Store.faults c.of-base.result c.in_ok-value.value =
    subst (λ b. Keeps g.S.Store.owns g.S.Store.contents g.S.Store.calls g.S.Store.faults b c.in_ok-value.value) (sym c.of-base.ensures) (subst (λ s. Keeps g.S.Store.owns g.S.Store.contents g.S.Store.calls g.S.Store.faults record { store = c.in-Some.store; keys = c.args.keys.keys; quotas = c.in_ok-column.column.items } s) (sym v)
    (keeps_new g.S.Store.owns g.S.Store.contents g.S.Store.calls g.S.Store.faults _ _ (order_new g.S.Store.owns g.S.Store.contents g.S.Store.calls g.S.Store.faults c.in-Some.store (Some c.args.keys.keys) calls) refl (let s = c.in_ok-column.ensures.room in let z = ap sum c.in_ok-column.ensures.column in omega arith))) in (
      ap (λ l. map (λ v. v.1) l ++ openings c.args.keys.keys (map (λ row. row.items) c.args.quotas.items) (length l) (reverse c.pop.new.self.items)) push
          ∙ more_openings c.args.keys.keys (map (λ row. row.items) c.args.quotas.items) c.loop-store.values.items (c.in_ok-value.value, c.of-base.result) c.pop.new.self.items c.loop-store.stores.items c.in-Some.store _ i.0 pop is,
      subst (Each (λ z. (z.0.entries ≡ []) × Keeps g.S.Store.owns g.S.Store.contents g.S.Store.calls g.S.Store.faults z.1 z.0)) (sym push) (each_append (λ z. (z.0.entries ≡ []) × Keeps g.S.Store.owns g.S.Store.contents g.S.Store.calls g.S.Store.faults z.1 z.0) c.loop-store.values.items ((c.in_ok-value.value, c.of-base.result) ∷ []) i.1 ((ap (λ s. s.entries) v, keeps), tt)),
      each_front (λ s. IfSome (g.S.Store.calls s) (λ told. told.calls ≡ 0)) c.pop.new.self.items (c.in-Some.store ∷ []) (subst (Each (λ s. IfSome (g.S.Store.calls s) (λ told. told.calls ≡ 0))) pop i.2),
      search rules,
      search rules,
    )

pub open-requires-2-clause-values : goal.open-requires-2-clause-values
open-requires-2-clause-values g c = let r = c.requires.stores in let l : length c.loop-store.values.items ≡ length c.args.stores.items = search rules in (omega arith, omega arith)

pub open-requires-2-clause-empty : goal.open-requires-2-clause-empty
open-requires-2-clause-empty g c = c.loop-store.invariant.1

pub invariant_of-medium : goal.invariant_of-medium
invariant_of-medium g c =
    let none : c.loop-store.stores.items ≡ [] = search rules in
    let bases = c.in_ok-turns.ensures.bases ∙ sym (append-nil (map (λ v. v.1) c.loop-store.values.items)) ∙ ap (λ ss. map (λ v. v.1) c.loop-store.values.items ++ openings c.args.keys.keys (map (λ row. row.items) c.args.quotas.items) (length c.loop-store.values.items) (reverse ss)) (sym none) ∙ c.loop-store.invariant.0 in
    let n : c.len-shards.result ≡ length c.args.stores.items = search rules in let m : c.len-callers.result ≡ length c.args.quotas.items = search rules in
    opened_medium c.args.keys.keys (map (λ row. row.items) c.args.quotas.items) c.len-shards.result c.in_ok-turns.turns c.args.stores.items bases n c.requires.stores.0 (length-map c.args.quotas.items (λ row. row.items) ∙ sym m ∙ sym c.in_ok-turns.ensures.callers)
    (each_of_mapped (λ row. row.items) (λ r. length r ≡ length c.args.stores.items) c.args.quotas.items c.requires.rows) c.requires.fits

pub returns-clause-openings : goal.returns-clause-openings
returns-clause-openings g c =
    let none : c.loop-store.stores.items ≡ [] = search rules in
    let bases = c.in_ok-turns.ensures.bases ∙ sym (append-nil (map (λ v. v.1) c.loop-store.values.items)) ∙ ap (λ ss. map (λ v. v.1) c.loop-store.values.items ++ openings c.args.keys.keys (map (λ row. row.items) c.args.quotas.items) (length c.loop-store.values.items) (reverse ss)) (sym none) ∙ c.loop-store.invariant.0 in
    bases

pub returns-clause-belong : goal.returns-clause-belong
returns-clause-belong g c =
    let callers = c.in_ok-turns.ensures.callers in
    subst (Each (Belongs record { keys = c.args.keys; turns = c.in_ok-turns.turns })) (sym c.in_ok-turns.ensures.passes) (all_belong record { keys = c.args.keys; turns = c.in_ok-turns.turns } 0 c.len-callers.result (omega arith))
