use Rattle.std.proofs.Common.{◌≡◌, length, arith}
use Rattle.bc_report.proofs.Stuck.{stuck_device, stuck_other_device}
use Rattle.bc_report.proofs.reader.Reader.device.Goals as goal

pub returns-in_default-clause-bad : goal.returns-in_default-clause-bad
returns-in_default-clause-bad c = stuck_device c.args.self.now c.args.line c.requires.part c.requires.sort c.in_default.ensures

pub returns-then-number-len-clause-bad : goal.returns-then-number-len-clause-bad
returns-then-number-len-clause-bad c =
    stuck_other_device c.args.self.now c.args.line c.in-Some.number c.in-Some.count c.requires.part c.requires.sort c.in-Some.ensures.0.0 c.in-Some.ensures.1
    (λ (e : c.in-Some.number ≡ length c.args.self.now.devices). let f = rw (← c.self.view_is) at e in c.if-number-len.true (omega arith))
