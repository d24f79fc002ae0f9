use Rattle.bc_report.specs.ReportText.{thread_lines}
use Rattle.bc_report.proofs.Printed.{parts_step}
use Rattle.bc_report.proofs.printing.put_threads.Goals as goal

pub loop-number-preserved : goal.loop-number-preserved
loop-number-preserved c =
    parts_step thread_lines c.args.threads.now c.loop-number.number c.index-threads-number.result c.as_slice.result.now c.args.text.now.items c.loop-number.text.items c.put_thread.new.text.items
    c.loop-number-test.true c.index-threads-number.is c.as_slice.ensures c.loop-number.invariant c.in_ok-put_thread.ensures
