use Rattle.std.proofs.Common.{None, length, ◌∙◌, ap}
use Rattle.std.specs.Prelude.{count_by, nat_eq, nat_lt}
use Rattle.std.proofs.lemmas.Result.{err_from_is_err_and}
use Rattle.bc_script.specs.declared.script_error.ScriptWhy.TheVariants as why
use Rattle.bc_script.specs.Script.{max_devices}
use Rattle.bc_script.specs.ScriptErrors.{first_why, is_device, device_blocks_above, number_in}
use Rattle.bc_script.specs.Lent.{device_lent}
use Rattle.bc_script.specs.Progress.{Progress, forms_read}
use Rattle.bc_script.proofs.Refusals.{device_elsewhere, too_many_devices}
use Rattle.bc_script.proofs.reader.Reader.device.Goals as goal

pub returns-in_err-device : goal.returns-in_err-device
returns-in_err-device c =
    let p = err_from_is_err_and c.from_residual.result c.from_residual.ensures.1 in
    let above = forms_read c.args.self.now in
    let form = device_lent c.args.form in
    rw (p.1, p.2) (c.in_err-device.ensures (first_why (nat_eq (number_in form.first) (device_blocks_above above)) why.Device (first_why (nat_lt (count_by is_device above) max_devices) why.Limit None)))

pub returns-then-device-end_of_devices : goal.returns-then-device-end_of_devices
returns-then-device-end_of_devices c =
    device_elsewhere c.args.self.now (device_lent c.args.form) c.in_ok-device.device c.end_of_devices.result c.end_of_devices.ensures.rules c.in_ok-device.ensures c.end_of_devices.ensures.end c.if-device-end_of_devices.true

pub returns-then-len-ge-MAX_DEVICES : goal.returns-then-len-ge-MAX_DEVICES
returns-then-len-ge-MAX_DEVICES c =
    too_many_devices c.args.self.now (device_lent c.args.form) c.in_ok-device.device c.end_of_devices.result c.end_of_devices.ensures.rules c.in_ok-device.ensures c.end_of_devices.ensures.end
    c.len.result c.if-device-end_of_devices.false (c.len.ensures ∙ c.self.inside.targets.ok.0 ∙ ap (λ (p : Progress). length p.targets) c.self.view_is) c.if-len-ge-MAX_DEVICES.true
