use Rattle.std.proofs.Common.{◌≡◌, ◌++◌, take, map}
use Rattle.bc_text.specs.Lines.{lines_text}
use Rattle.bc_script.specs.ScriptText.{device_line}
use Rattle.bc_script.proofs.printing.put_devices.Given as goal

abbrev pub invariant-loop-device : goal.invariant-loop-device
invariant-loop-device l = l.text.items ≡ l.initial.text.items ++ lines_text (map device_line (take l.device-index l.devices))
