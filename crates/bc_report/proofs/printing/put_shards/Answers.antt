use Rattle.bc_report.specs.ReportText.{shard_lines}
use Rattle.bc_report.proofs.Printed.{parts_step}
use Rattle.bc_report.proofs.printing.put_shards.Goals as goal

pub loop-number-preserved : goal.loop-number-preserved
loop-number-preserved c =
    parts_step shard_lines c.args.shards.now c.loop-number.number c.index-shards-number.result c.as_slice.result.now c.args.text.now.items c.loop-number.text.items c.put_shard.new.text.items
    c.loop-number-test.true c.index-shards-number.is c.as_slice.ensures c.loop-number.invariant c.in_ok-put_shard.ensures
