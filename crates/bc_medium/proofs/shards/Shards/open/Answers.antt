use Rattle.std.proofs.Common.{rules, ◌≡◌, ◌<◌, ◌++◌, ◌∷◌, [], length, map, drop, ap, ap₂, sym, ◌∙◌, subst, arith, refl}
use Rattle.std.specs.Prelude.{IfSome}
use Rattle.std.proofs.lemmas.List.{reverse-reverse}
use mathlib.Core.List.{reverse}
use Rattle.bc_base.specs.Lists.{Each}
use Rattle.bc_base.proofs.Lists.{each_back, each_front}
use Rattle.bc_base.proofs.Lists.{each_reverse}
use Rattle.bc_medium.specs.Shards.{opened_with}
use Rattle.bc_medium.proofs.Chosen.{more_opened}
use Rattle.bc_medium.proofs.shards.Shards.open.Goals as goal

pub loop-store-init : goal.loop-store-init
loop-store-init g c =
    let none : c.in_ok-shards.shards.items ≡ [] = c.in_ok-shards.ensures.items in let r = c.turn_round.ensures.items in (
      ap₂ (λ l ss. l ++ opened_with (reverse ss) (drop (length l) c.args.quotas.items)) none r ∙ ap (λ ss. opened_with ss c.args.quotas.items) (reverse-reverse c.args.stores.items),
      subst (Each (λ s. IfSome (g.S.Store.calls s) (λ told. told.calls ≡ 0))) (sym r) (each_reverse (λ s. IfSome (g.S.Store.calls s) (λ told. told.calls ≡ 0)) c.args.stores.items c.requires.calls),
      search rules,
      search rules,
    )

pub open-requires : goal.open-requires
open-requires g c = record { calls = (each_back (λ s. IfSome (g.S.Store.calls s) (λ told. told.calls ≡ 0)) c.pop.new.self.items (c.in-Some.store ∷ []) (subst (Each (λ s. IfSome (g.S.Store.calls s) (λ told. told.calls ≡ 0))) c.in-Some.ensures.items c.loop-store.invariant.1)).0 }

pub loop-store-preserved : goal.loop-store-preserved
loop-store-preserved g c =
    let i = c.loop-store.invariant in let n : c.len-in-Some.result ≡ length c.loop-store.shards.items = search rules in
    let push = c.push_reserved.ensures.items ∙ ap (λ x. c.loop-store.shards.items ++ x ∷ []) c.in_ok-open.ensures in
    let pop = c.in-Some.ensures.items in
    let inside : length c.loop-store.shards.items < length c.args.quotas.items = search rules in (
      ap (λ l. l ++ opened_with (reverse c.pop.new.self.items) (drop (length l) c.args.quotas.items)) push
          ∙ more_opened c.loop-store.shards.items c.pop.new.self.items c.loop-store.stores.items c.args.quotas.items c.in-Some.store c.index-quota.result.now _ i.0 pop inside (subst (λ m. c.index-quota.result.now ≡ Rattle.std.proofs.Common.get_or c.args.quotas.items m c.index-quota.result.now) n c.index-quota.ensures),
      each_front (λ s. IfSome (g.S.Store.calls s) (λ told. told.calls ≡ 0)) c.pop.new.self.items (c.in-Some.store ∷ []) (subst (Each (λ s. IfSome (g.S.Store.calls s) (λ told. told.calls ≡ 0))) pop i.1),
      search rules,
      search rules,
    )
