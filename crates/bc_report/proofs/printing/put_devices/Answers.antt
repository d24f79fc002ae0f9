use Rattle.bc_report.specs.ReportText.{device_lines}
use Rattle.bc_report.proofs.Printed.{parts_step}
use Rattle.bc_report.proofs.printing.put_devices.Goals as goal

pub loop-number-preserved : goal.loop-number-preserved
loop-number-preserved c =
    parts_step device_lines c.args.devices.now c.loop-number.number c.index-devices-number.result c.as_slice.result.now c.args.text.now.items c.loop-number.text.items c.put_device.new.text.items
    c.loop-number-test.true c.index-devices-number.is c.as_slice.ensures c.loop-number.invariant c.in_ok-put_device.ensures
