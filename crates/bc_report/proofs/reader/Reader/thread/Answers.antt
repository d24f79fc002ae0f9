use Rattle.std.proofs.Common.{◌≡◌, length, arith}
use Rattle.bc_report.proofs.Stuck.{stuck_other_thread}
use Rattle.bc_report.proofs.reader.Reader.thread.Goals as goal

pub returns-then-number-len-clause-bad : goal.returns-then-number-len-clause-bad
returns-then-number-len-clause-bad c =
    stuck_other_thread c.args.self.now c.args.line c.in-Some.number c.requires.part c.requires.sort c.in-Some.ensures.0 c.in-Some.ensures.1
    (λ (e : c.in-Some.number ≡ length c.args.self.now.threads). let f = rw (← c.self.view_is) at e in c.if-number-len.true (omega arith))
