use Rattle.std.proofs.Common.{◌∙◌}
use Rattle.bc_threads.proofs.Preparing.{units_more}
use Rattle.bc_threads.proofs.prepared.units_for.Goals as goal

pub loop-unit-preserved : goal.loop-unit-preserved
loop-unit-preserved c = record {
  units = units_more c.args.text.now c.args.size c.loop-unit.unit c.loop-unit.units.items c.push.new.self.items c.from_vec.result c.loop-unit.invariant.units
      (c.from_vec.ensures ∙ c.in_ok-bytes.ensures) c.in_ok-push.ensures.items;
}
