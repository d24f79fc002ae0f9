use Rattle.std.proofs.Common.{◌∙◌, ℕ, ap, arith, cond}
use Rattle.std.specs.Prelude.{◌==◌}
use Rattle.bc_medium.specs.Layout.{shard_of}
use Rattle.bc_threads.proofs.Counting.{counted_more, place_is}
use Rattle.bc_threads.proofs.quotas.units_from.Goals as goal

pub loop-unit-preserved : goal.loop-unit-preserved
loop-unit-preserved c =
    let place = place_is c.from.result c.from-in-loop-unit.result c.from-in-loop-unit-2.result c.args.sector c.loop-unit.unit c.args.sectors c.from.ensures c.from-in-loop-unit.ensures c.from-in-loop-unit-2.ensures in
    record {
      count = counted_more c.args.shards c.args.shard c.args.sector c.args.sectors c.loop-unit.unit c.loop-unit.count c.counted-count.result c.loop-unit.invariant.count
          (c.counted-count.ensures.counted ∙ ap (λ (s : ℕ). cond {A = ℕ} (shard_of c.args.shards s == c.args.shard) 1 0) place);
      below = omega (arith, c.loop-unit.invariant.below, c.counted-count.ensures.most);
    }
