use Rattle.std.proofs.Common.{rules, ◌<◌, ◌^◌, length, sym, subst, arith}
use Rattle.std.specs.Prelude.{IsErr, OnOk}
use Rattle.bc_medium.specs.Entries.{Stand}
use Rattle.bc_medium.specs.ShardOrder.{IsOrder, StandsInOrder}
use Rattle.bc_medium.proofs.shard.Shard.read.Goals.{then-failed, else-failed}
use Rattle.bc_medium.proofs.Orders.{order_read, on_ok, stands_in_order}
use Rattle.bc_medium.proofs.shard.Shard.read.Goals as goal

pub returns-clause-order : goal.returns-clause-order
returns-clause-order g c = λ start given order.
    let i = c.self.invariant in let e = c.read.ensures in
    let small : length c.self.inside.entries.items < 2 ^ 32 = let a = i.0 in let b = i.1 in omega arith in
    order_read g.S.Store.owns g.S.Store.contents g.S.Store.calls g.S.Store.faults start given c.self.inside.store c.read.new.self c.self.inside.entries.items _ c.args.at c.args.via c.is_err-failed.result (IsErr c.read.result)
    (subst (λ s. IsOrder g.S.Store.owns g.S.Store.contents g.S.Store.calls g.S.Store.faults start given s.store s.entries) (sym c.self.view_is) order) small c.push_reserved.ensures.items e.owns e.same
    (search rules) (search rules) e.calls e.cause

pub returns-clause-stands : goal.returns-clause-stands
returns-clause-stands g c =
    let all : OnOk c.read.result (StandsInOrder g.S.Store.owns g.S.Store.contents g.S.Store.calls g.S.Store.faults c.args.self.now c.args.at.sector c.read.new.into) =
    on_ok c.read.result _ _ (λ reads start given keys same order.
    let here = subst (λ s. IsOrder g.S.Store.owns g.S.Store.contents g.S.Store.calls g.S.Store.faults start given s.store s.entries) (sym c.self.view_is) order in
    subst (λ s. Stand keys (g.S.Store.contents start) s.entries c.args.at.sector c.read.new.into) c.self.view_is
    (stands_in_order g.S.Store.owns g.S.Store.contents g.S.Store.calls g.S.Store.faults c.self.inside.store c.self.inside.entries.items c.args.at.sector c.read.new.into reads start given keys same here)) c.read.ensures.reads in
    elim c.if-failed.branch [ then-failed w ↦ search rules | else-failed w ↦ search rules ]
