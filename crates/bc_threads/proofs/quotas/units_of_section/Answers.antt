use Rattle.bc_threads.proofs.Counting.{row_more}
use Rattle.bc_threads.proofs.quotas.units_of_section.Goals as goal

pub loop-shard-preserved : goal.loop-shard-preserved
loop-shard-preserved c = record {
  row = row_more c.args.script.now c.args.shards c.loop-shard.shard c.args.section.now c.loop-shard.row.items c.push.new.self.items c.units_at.result
      c.loop-shard.invariant.row c.units_at.ensures c.in_ok-push.ensures.items;
}
