-- What the fields of a device's line say. The contracts of private functions speak of this; no
-- public one does.
use Rattle.std.specs.Prelude.{◌≡◌}
use Rattle.std.specs.Fmt.{decimal}
use Rattle.bc_stack.specs.declared.target.Target.{Target}
use Rattle.bc_script.specs.declared.statement.Unread.{Unread}
use Rattle.bc_script.specs.Script.{IsDevice}
use Rattle.bc_script.specs.Forms.{DeviceForm}
use Rattle.bc_script.specs.ScriptErrors.{Why, device_fields, number_in}
use Rattle.bc_script.specs.Statements.{Reports}

-- the fields of a device that its line has
abbrev pub device_form : Target → DeviceForm
device_form device = record {
  first = decimal device.first;
  blocks = decimal device.blocks;
  slots = decimal device.slots;
  xts = decimal device.caps.xts;
  essiv = decimal device.caps.essiv;
  dun_bytes = decimal device.caps.max_dun_bytes;
}

-- the fields of a device pass their tests, and say this device
pub record SaysDevice (form : DeviceForm) (device : Target) : Type 0 where
  pub passes : (next : Why) → device_fields form next ≡ next
  pub form_is : form ≡ device_form device
  pub first_is : device.first ≡ number_in form.first
  pub valid : IsDevice device

-- the fields of a device fail this test, whatever stands after them, or are not read since there
-- was no memory
abbrev pub RefusesDevice : DeviceForm → Unread → Type 0
RefusesDevice form e = (next : Why) → Reports (device_fields form next) e
