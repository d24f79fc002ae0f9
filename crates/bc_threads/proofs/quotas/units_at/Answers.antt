use Rattle.std.proofs.Common.{arith}
use Rattle.bc_threads.proofs.Counting.{count_fits}
use Rattle.bc_threads.proofs.quotas.units_at.Goals as goal

pub overflow_add-count : goal.overflow_add-count
overflow_add-count c =
    let fits = count_fits c.args.script.now c.args.shards c.args.shard c.args.section.now c.loop-operation.operation-index c.loop-operation.count c.units_on-count.result c.operation-item.result
    c.loop-operation-test.true c.operation-item.is c.loop-operation.invariant.count c.units_on-count.ensures in
    let few = c.requires.few in
    omega arith
