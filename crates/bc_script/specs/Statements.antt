-- What one line states: the line that states it, whether it fits after the lines that have been
-- read, and what is read with it. The contracts of private functions speak of this; no public one
-- does.
use Rattle.std.specs.Prelude.{◌≡◌, ℕ, ◌+◌, ◌-◌, ◌<◌, ◌≤◌, Bool, true, false, List, [], ◌∷◌, ◌++◌, codes, length, slice_get, sum_by, Some, IsSome, Result, MatchResult, ⊤}
use Rattle.std.specs.Option.{option_map_or}
use Rattle.bc_text.specs.Lines.{TextLine}
use Rattle.bc_stack.specs.declared.target.Target.{Target}
use Rattle.bc_stack.specs.Targets.{CoverAll}
use Rattle.bc_script.specs.declared.op.Op.{Op}
use Rattle.bc_script.specs.declared.sort.Sort.{Sort}
use Rattle.bc_script.specs.declared.sort.Sort.TheVariants as sorts
use Rattle.bc_script.specs.declared.script_error.ScriptWhy.{ScriptWhy}
use Rattle.bc_script.specs.declared.statement.Statement.{Statement}
use Rattle.bc_script.specs.declared.statement.Statement.TheVariants as statements
use Rattle.bc_script.specs.declared.statement.Unread.{Unread}
use Rattle.bc_script.specs.declared.statement.Unread.TheVariants as unread
use Rattle.bc_script.specs.declared.named_key.NamedKey.{NamedKey}
use Rattle.bc_script.specs.Script.{IsDiskSize, IsDevice, IsNamedKey, IsFault, IsOp, is_before, bare_keys, open_after, unit_count, unit_count_of_section, max_devices, max_keys, max_faults, max_threads, max_ops, max_units}
use Rattle.bc_script.specs.ScriptText.{version_line, disk_line, on_off, fallback_line, device_line, key_line, fault_line, thread_line, op_line, end_line, mode_text}
use Rattle.bc_script.specs.Forms.{Form, Version, Disk, Fallback, Device, Key, Fault, Thread, Write, Read, Evict, Reset, Plug, Unplug, End, TextForm, Fill, Hex, sort_of, dashes_agree}
use Rattle.bc_script.specs.Order.{may_follow}
use Rattle.bc_script.specs.ScriptErrors.{Why, tests_of}
use Rattle.bc_script.specs.NamedKeys.{IsNoName}
use Rattle.bc_script.specs.Progress.{Progress, IsProgress, blocks_of, forms_read, sections_read}

-- ---- lines by their forms

-- the last two fields of a write's line
abbrev pub text_line : TextForm → TextLine
text_line (Fill digits) = codes "fill" ∷ digits ∷ []
text_line (Hex digits) = codes "hex" ∷ digits ∷ []

-- the one line that has this form
abbrev pub form_line : Form → TextLine
form_line Version = codes "blkcrypt" ∷ codes "1" ∷ []
form_line (Disk blocks) = codes "disk" ∷ blocks ∷ []
form_line (Fallback on) = codes "fallback" ∷ on_off on ∷ []
form_line (Device device) =
    codes "device" ∷ device.first ∷ device.blocks ∷ device.slots ∷ device.xts ∷ device.essiv ∷ device.dun_bytes ∷ []
form_line (Key key) = codes "key" ∷ key.name ∷ mode_text key.mode ∷ key.unit ∷ key.dun_bytes ∷ key.digits ∷ []
form_line (Fault fault) = codes "fault" ∷ fault.shard ∷ fault.access ∷ []
form_line Thread = codes "thread" ∷ []
form_line (Write bio text) = codes "write" ∷ bio.key ∷ bio.sector ∷ bio.units ∷ bio.number ∷ text_line text
form_line (Read bio) = codes "read" ∷ bio.key ∷ bio.sector ∷ bio.units ∷ bio.number ∷ []
form_line (Evict key) = codes "evict" ∷ key ∷ []
form_line (Reset device) = codes "reset" ∷ device ∷ []
form_line Plug = codes "plug" ∷ []
form_line Unplug = codes "unplug" ∷ []
form_line End = codes "end" ∷ []

-- ---- items

-- the line that states it
abbrev pub statement_line : List NamedKey → Statement → TextLine
statement_line keys statements.Version = version_line
statement_line keys (statements.Disk blocks) = disk_line blocks
statement_line keys (statements.Fallback on) = fallback_line on
statement_line keys (statements.Device device) = device_line device
statement_line keys (statements.Key named) = key_line named
statement_line keys (statements.Fault fault) = fault_line fault
statement_line keys statements.Thread = thread_line
statement_line keys (statements.Operation op) = op_line keys op
statement_line keys statements.End = end_line

-- what its line is for
abbrev pub sort_of_statement : Statement → Sort
sort_of_statement statements.Version = sorts.Version
sort_of_statement (statements.Disk blocks) = sorts.Disk
sort_of_statement (statements.Fallback on) = sorts.Fallback
sort_of_statement (statements.Device device) = sorts.Device
sort_of_statement (statements.Key named) = sorts.Key
sort_of_statement (statements.Fault fault) = sorts.Fault
sort_of_statement statements.Thread = sorts.Thread
sort_of_statement (statements.Operation op) = sorts.Operation
sort_of_statement statements.End = sorts.End

-- a valid device after the blocks of those that have been read, and for which there is room
pub record FitsDevice (p : Progress) (device : Target) : Type 0 where
  pub valid : IsDevice device
  pub first : device.first ≡ blocks_of p.targets
  pub room : length p.targets < max_devices

-- the devices that have been read, if there are any, cover the disk
abbrev pub CoverDisk : Progress → Type 0
CoverDisk p = CoverAll p.blocks p.targets

-- a valid key with a new name, of which there is room for one more
pub record FitsKey (p : Progress) (named : NamedKey) : Type 0 where
  pub whole : CoverDisk p
  pub valid : IsNamedKey named
  pub fresh : IsNoName p.keys named.name
  pub room : length p.keys < max_keys

-- whether a fault comes after the last of these, if there is one
abbrev pub follows_faults : List (ℕ × ℕ) → ℕ × ℕ → Bool
follows_faults faults fault =
    option_map_or (λ (last : ℕ × ℕ). is_before last fault) (slice_get faults (length faults - 1)) true

-- a valid fault, which comes after those that have been read, and for which there is room
pub record FitsFault (p : Progress) (fault : ℕ × ℕ) : Type 0 where
  pub whole : CoverDisk p
  pub valid : IsFault fault
  pub ascends : follows_faults p.faults fault ≡ true
  pub room : length p.faults < max_faults

-- a valid operation, which opens no plug twice and closes none that isn't open, and for which there
-- is room
pub record FitsOp (p : Progress) (op : Op) : Type 0 where
  pub valid : IsOp (length p.targets) (bare_keys p.keys) op
  pub plugs : IsSome (open_after false (p.section ++ op ∷ []))
  pub room : sum_by length (sections_read p) < max_ops
  pub units : sum_by unit_count_of_section (sections_read p) + unit_count op ≤ max_units

-- each plug of the section that is being read is closed
abbrev pub PlugsAreClosed : Progress → Type 0
PlugsAreClosed p = open_after false p.section ≡ Some false

-- a line of this sort ends the section above it
abbrev pub EndsSection : Sort → Type 0
EndsSection sorts.Thread = ⊤
EndsSection sorts.End = ⊤
EndsSection _ = ⊥

-- there is room for one more section, where one begins
abbrev pub HasRoomFor : Progress → Sort → Type 0
HasRoomFor p sorts.Thread = length (sections_read p) < max_threads
HasRoomFor p _ = ⊤

-- it fits after what has been read
abbrev pub Fits : Progress → Statement → Type 0
Fits p statements.Version = ⊤
Fits p (statements.Disk blocks) = IsDiskSize blocks
Fits p (statements.Fallback on) = ⊤
Fits p (statements.Device device) = FitsDevice p device
Fits p (statements.Key named) = FitsKey p named
Fits p (statements.Fault fault) = FitsFault p fault
Fits p statements.Thread = PlugsAreClosed p × (length (sections_read p) < max_threads) × CoverDisk p
Fits p (statements.Operation op) = FitsOp p op
Fits p statements.End = PlugsAreClosed p × CoverDisk p

-- the section that is being read has ended, with a line of this sort
abbrev pub with_section_ended : Progress → Sort → Progress
with_section_ended p sort = record {
  last = Some sort;
  blocks = p.blocks;
  fallback = p.fallback;
  targets = p.targets;
  keys = p.keys;
  faults = p.faults;
  threads = sections_read p;
  section = [];
}

-- what has been read with the statement
abbrev pub with_statement : Progress → Statement → Progress
with_statement p statements.Version = record p { last = Some sorts.Version }
with_statement p (statements.Disk blocks) = record p { last = Some sorts.Disk; blocks = blocks }
with_statement p (statements.Fallback on) = record p { last = Some sorts.Fallback; fallback = on }
with_statement p (statements.Device device) =
    record p { last = Some sorts.Device; targets = p.targets ++ device ∷ [] }
with_statement p (statements.Key named) = record p { last = Some sorts.Key; keys = p.keys ++ named ∷ [] }
with_statement p (statements.Fault fault) = record p { last = Some sorts.Fault; faults = p.faults ++ fault ∷ [] }
with_statement p statements.Thread = with_section_ended p sorts.Thread
with_statement p (statements.Operation op) = record p { last = Some sorts.Operation; section = p.section ++ op ∷ [] }
with_statement p statements.End = with_section_ended p sorts.End

-- a line of this form makes the statement, which fits after what has been read
pub record IsStatementOf (p : Progress) (form : Form) (statement : Statement) : Type 0 where
  pub line_is : form_line form ≡ statement_line p.keys statement
  pub sort_is : sort_of form ≡ sort_of_statement statement
  pub fits : Fits p statement

-- the line makes the statement, which may stand after what has been read and fits
pub record IsNextStatement (p : Progress) (line : TextLine) (statement : Statement) : Type 0 where
  pub rules : IsProgress p
  pub line_is : line ≡ statement_line p.keys statement
  pub follows : may_follow p.last (sort_of_statement statement) ≡ true
  pub fits : Fits p statement

-- `-` stands for the key exactly where it stands for the number
abbrev pub DashesAgree : Form → Type 0
DashesAgree (Write bio text) = dashes_agree bio ≡ true
DashesAgree (Read bio) = dashes_agree bio ≡ true
DashesAgree _ = ⊤

-- ---- refusals

-- a line is not read since it fails this test, or since there was no memory
abbrev pub Reports : Why → Unread → Type 0
Reports why (unread.Bad kind) = why ≡ Some kind
Reports why unread.Memory = ⊤

-- the same of one test alone
abbrev pub RefusesTest : Bool → ScriptWhy → Unread → Type 0
RefusesTest passed kind (unread.Bad why) = (passed ≡ false) × (why ≡ kind)
RefusesTest passed kind unread.Memory = ⊤

-- a line of this form is read as the statement that it makes, or refused by the first test that it
-- fails
abbrev pub ReadsForm : Progress → Form → Result Statement Unread → Type 0
ReadsForm p form r = MatchResult r (IsStatementOf p form) (Reports (tests_of (forms_read p) form))
