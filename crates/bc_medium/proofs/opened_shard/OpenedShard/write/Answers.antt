use Rattle.std.proofs.Common.{◌≡◌, Some, sym, ap, subst}
use Rattle.std.specs.Prelude.{IfSome, option_map}
use Rattle.bc_medium.specs.ShardOrder.{IsOrder}
use Rattle.bc_medium.proofs.opened_shard.OpenedShard.write.Goals as goal

pub invariant_of-self : goal.invariant_of-self
invariant_of-self g c =
    subst (λ k. IsOrder g.S.Store.owns g.S.Store.contents g.S.Store.calls g.S.Store.faults c.self.inside.start.value (Some k) c.write.new.self.store c.write.new.self.entries) (sym (ap (λ k. k.keys) c.of.ensures))
    (c.write.ensures.order c.args.keys.now.keys c.requires.cipher c.self.inside.start.value (option_map (λ k. k.value.keys) c.self.inside.keys)
    (subst (λ s. IfSome s.keys (λ k. k ≡ c.args.keys.now.keys)) (sym c.self.view_is) c.requires.keys) c.self.invariant)
