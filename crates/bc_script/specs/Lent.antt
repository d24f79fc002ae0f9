-- The form of a line whose fields are lent: the same form with the fields themselves. The contracts
-- of private functions speak of these; no public one does.
use Rattle.bc_script.specs.Forms.{Form, Version, Disk, Fallback, Device, Key, Fault, Thread, Write, Read, Evict, Reset, Plug, Unplug, End, DeviceForm, KeyForm, FaultForm, BioForm, TextForm, Fill, Hex}
use Rattle.bc_script.specs.declared.form.DeviceForm as device_forms
use Rattle.bc_script.specs.declared.form.KeyForm as key_forms
use Rattle.bc_script.specs.declared.form.FaultForm as fault_forms
use Rattle.bc_script.specs.declared.form.BioForm as bio_forms
use Rattle.bc_script.specs.declared.form.TextForm as text_forms
use Rattle.bc_script.specs.declared.form.TextForm.TheVariants as lent_texts
use Rattle.bc_script.specs.declared.form.Form as lent_forms
use Rattle.bc_script.specs.declared.form.Form.TheVariants as lent

-- of a device's line
abbrev pub device_lent : device_forms.DeviceForm → DeviceForm
device_lent device = record {
  first = device.first.now;
  blocks = device.blocks.now;
  slots = device.slots.now;
  xts = device.xts.now;
  essiv = device.essiv.now;
  dun_bytes = device.dun_bytes.now;
}

-- of a key's line
abbrev pub key_lent : key_forms.KeyForm → KeyForm
key_lent key = record {
  name = key.name.now;
  mode = key.mode;
  unit = key.unit.now;
  dun_bytes = key.dun_bytes.now;
  digits = key.digits.now;
}

-- of a planned fault's line
abbrev pub fault_lent : fault_forms.FaultForm → FaultForm
fault_lent fault = record { shard = fault.shard.now; access = fault.access.now }

-- of a bio
abbrev pub bio_lent : bio_forms.BioForm → BioForm
bio_lent bio = record { key = bio.key.now; sector = bio.sector.now; units = bio.units.now; number = bio.number.now }

-- of what a write writes
abbrev pub text_lent : text_forms.TextForm → TextForm
text_lent (lent_texts.Fill digits) = Fill digits.now
text_lent (lent_texts.Hex digits) = Hex digits.now

-- of any line
abbrev pub form_lent : lent_forms.Form → Form
form_lent lent.Version = Version
form_lent (lent.Disk blocks) = Disk blocks.now
form_lent (lent.Fallback on) = Fallback on
form_lent (lent.Device device) = Device (device_lent device)
form_lent (lent.Key key) = Key (key_lent key)
form_lent (lent.Fault fault) = Fault (fault_lent fault)
form_lent lent.Thread = Thread
form_lent (lent.Write bio text) = Write (bio_lent bio) (text_lent text)
form_lent (lent.Read bio) = Read (bio_lent bio)
form_lent (lent.Evict key) = Evict key.now
form_lent (lent.Reset device) = Reset device.now
form_lent lent.Plug = Plug
form_lent lent.Unplug = Unplug
form_lent lent.End = End
