use Rattle.bc_threads.proofs.Digests.{first_of_next}
use Rattle.bc_threads.proofs.sharing.units_law.Goals as goal

pub loop-unit-preserved : goal.loop-unit-preserved
loop-unit-preserved c = record { first = first_of_next c.args.units.now c.loop-unit.unit-index c.unit-item.result c.loop-unit-test.true c.unit-item.is c.loop-unit.invariant.first c.unit_law.ensures }
