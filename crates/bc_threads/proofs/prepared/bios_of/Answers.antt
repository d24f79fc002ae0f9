use Rattle.std.proofs.Common.{arith}
use Rattle.bc_threads.proofs.Preparing.{prepared_all}
use Rattle.bc_threads.proofs.prepared.bios_of.Goals as goal

pub returns : goal.returns
returns c = prepared_all c.args.script.now c.args.section.now c.loop-op.bios.items (omega (arith, c.loop-op.invariant.count, c.loop-op-test.false)) c.loop-op.invariant.each
