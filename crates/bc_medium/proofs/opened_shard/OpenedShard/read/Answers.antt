use Rattle.std.proofs.Common.{subst}
use Rattle.std.specs.Prelude.{option_map}
use Rattle.bc_medium.specs.ShardOrder.{StandsNow, keys_or_none}
use Rattle.bc_medium.proofs.Orders.{on_ok, any_keys}
use Rattle.bc_medium.proofs.opened_shard.OpenedShard.read.Goals as goal

pub returns-clause-stands : goal.returns-clause-stands
returns-clause-stands g c =
    let given = option_map (λ k. k.value.keys) c.self.inside.keys in
    on_ok c.read.result _ _ (λ all. subst (λ s. StandsNow g.S.Store.contents s c.args.at.sector c.read.new.raw) c.self.view_is
    (all c.self.inside.start.value given (keys_or_none given) (any_keys g.S.Store.owns g.S.Store.contents g.S.Store.calls g.S.Store.faults given) c.self.invariant)) c.read.ensures.stands
