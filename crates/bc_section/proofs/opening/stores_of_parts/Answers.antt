use Rattle.std.proofs.Common.{ap, arith, rules, length}
use Rattle.bc_section.specs.Openings.{IsOpening}
use Rattle.bc_section.proofs.Openings.{places_none, places_more}
use Rattle.bc_section.proofs.opening.stores_of_parts.Goals as goal

pub loop-shard-init : goal.loop-shard-init
loop-shard-init c = record {
  count = ap length c.in_ok-stores.ensures.items;
  each = places_none (IsOpening c.args.script.now c.args.image.now c.args.shards) c.in_ok-stores.stores.items c.in_ok-stores.ensures.items;
}

pub loop-shard-preserved : goal.loop-shard-preserved
loop-shard-preserved c = record {
  count = search rules;
  each = places_more (IsOpening c.args.script.now c.args.image.now c.args.shards) c.loop-shard.stores.items c.push.new.self.items c.in_ok-store_of.field-0 c.loop-shard.shard
      c.in_ok-push.ensures.items c.loop-shard.invariant.count c.loop-shard.invariant.each c.in_ok-store_of.ensures;
}

pub returns : goal.returns
returns c = record {
  count = omega (arith, c.loop-shard.invariant.count, c.loop-shard-test.false, c.loop-shard.auto.shard-end);
  each = c.loop-shard.invariant.each;
}
