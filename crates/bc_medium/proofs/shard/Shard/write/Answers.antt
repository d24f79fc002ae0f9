use Rattle.std.proofs.Common.{◌≡◌, ◌<◌, ◌^◌, ◌++◌, ◌∷◌, [], length, sym, ap, ◌∙◌, subst, arith, true, false, true≢false, refl}
use Rattle.bc_medium.specs.Entries.{written_entry}
use Rattle.bc_medium.specs.ShardOrder.{IsOrder}
use Rattle.bc_medium.proofs.Orders.{order_wrote, order_failed}
use Rattle.bc_medium.proofs.shard.Shard.write.Goals as goal

pub returns-in-Ok-clause-order : goal.returns-in-Ok-clause-order
returns-in-Ok-clause-order g c = λ keys is start given same order.
    let i = c.self.invariant in let e = c.in-Ok.ensures in
    let small : length c.self.inside.entries.items < 2 ^ 32 = let a = i.0 in let b = i.1 in omega arith in
    order_wrote g.S.Store.owns g.S.Store.contents g.S.Store.calls g.S.Store.faults start given keys c.self.inside.store c.write.new.self c.self.inside.entries.items _ c.args.at c.args.via c.args.plain.items c.args.cipher.now (false ≡ true)
    (subst (λ s. IsOrder g.S.Store.owns g.S.Store.contents g.S.Store.calls g.S.Store.faults start given s.store s.entries) (sym c.self.view_is) order) small same is
    (c.push_reserved.ensures.items ∙ ap (λ p. c.self.inside.entries.items ++ written_entry c.args.at c.args.via p ∷ []) c.from_vec.ensures) e.owns e.sets (λ f. true≢false (sym f)) e.calls e.cause

pub returns-in-Err-clause-order : goal.returns-in-Err-clause-order
returns-in-Err-clause-order g c = λ keys is start given same order.
    let i = c.self.invariant in let e = c.in-Err.ensures in
    let small : length c.self.inside.entries.items < 2 ^ 32 = let a = i.0 in let b = i.1 in omega arith in
    order_failed g.S.Store.owns g.S.Store.contents g.S.Store.calls g.S.Store.faults start given keys c.self.inside.store c.write.new.self c.self.inside.entries.items _ c.args.at c.args.via (true ≡ true)
    (subst (λ s. IsOrder g.S.Store.owns g.S.Store.contents g.S.Store.calls g.S.Store.faults start given s.store s.entries) (sym c.self.view_is) order) small same
    c.push_reserved-in-Err.ensures.items e.owns e.same refl e.calls e.cause
