use Rattle.std.proofs.Common.{arith}
use Rattle.bc_script.specs.declared.op.Op.TheVariants as ops
use Rattle.bc_serial.proofs.Affording.{next_fits}
use Rattle.bc_serial.proofs.direct.DirectDeviceUnitAnswerAllocError.unplug.Goals as goal

pub returns-clause-room : goal.returns-clause-room
returns-clause-room c = λ after fits. next_fits (c.args._op, ops.Unplug) after c.args.self.now.left c.args.self.now.left (omega arith) fits
