use Rattle.bc_serial.proofs.Affording.{others_fit}
use Rattle.bc_serial.proofs.direct.DirectDeviceUnitAnswerAllocError.refuse.Goals as goal

pub returns-clause-room : goal.returns-clause-room
returns-clause-room c = λ before after fits. others_fit before after (c.args._op, c.args._operation.now) c.args.self.now.left fits
