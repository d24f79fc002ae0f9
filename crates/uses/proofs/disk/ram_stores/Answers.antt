use Rattle.std.proofs.Common.{◌∷◌, [], length, ap, sym, ◌∙◌, subst, arith, length-append}
use Rattle.bc_base.specs.Lists.{EachFrom}
use Rattle.uses.specs.Disks.{IsFreshShard}
use Rattle.uses.proofs.Disks.{fresh_pushed}
use Rattle.uses.proofs.disk.ram_stores.Goals as goal

pub loop-shard-preserved : goal.loop-shard-preserved
loop-shard-preserved c =
    let i = c.loop-shard.invariant in let push = c.in_ok-push.ensures.items in
    let long = ap length push ∙ length-append c.loop-shard.stores.items (c.in_ok-of_image.field-0 ∷ []) in
    let fresh : IsFreshShard c.args.image.now c.args.shards c.loop-shard.shard c.in_ok-of_image.field-0 = (c.in_ok-of_image.ensures.shard, ap (λ z. z.calls) c.in_ok-of_image.ensures.calls) in (
      (let n = i.0 in omega arith),
      subst (EachFrom (IsFreshShard c.args.image.now c.args.shards) 0) (sym push) (fresh_pushed c.args.image.now c.args.shards 0 c.loop-shard.shard c.loop-shard.stores.items c.in_ok-of_image.field-0 i.1 (let n = i.0 in omega arith) fresh),
    )
