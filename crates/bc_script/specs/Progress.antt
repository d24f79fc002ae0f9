-- A script that is being read: what the lines say that have been read so far. The contracts of
-- private functions speak of this; no public one does.
use Rattle.std.specs.Prelude.{◌≡◌, ℕ, ◌≤◌, ◌||◌, nat_eq, Bool, true, false, List, [], ◌∷◌, ◌++◌, length, map, flat_map, sum_by, Option, Some, None, IsSome}
use Rattle.std.specs.List.{AllByRecursion}
use Rattle.bc_text.specs.Lines.{TextLine}
use Rattle.bc_stack.specs.declared.target.Target.{Target}
use Rattle.bc_stack.specs.Targets.{LieBetween, CoverAll}
use Rattle.bc_script.specs.declared.named_key.NamedKey.{NamedKey}
use Rattle.bc_script.specs.declared.op.Op.{Op}
use Rattle.bc_script.specs.declared.sort.Sort.{Sort}
use Rattle.bc_script.specs.declared.sort.Sort.TheVariants as sorts
use Rattle.bc_script.specs.Script.{IsDiskSize, IsDevice, AreKeys, AreFaults, IsOp, IsSection, bare_keys, open_after, unit_count_of_section, max_devices, max_threads, max_ops, max_units}
use Rattle.bc_script.specs.ScriptText.{version_line, disk_line, fallback_line, device_line, key_line, fault_line, section_lines, end_line}
use Rattle.bc_script.specs.Forms.{Form, form_of}
use Rattle.bc_script.specs.ScriptErrors.{with_form}

-- the sort of the nearest line, the disk's blocks, whether software does what no device can, the
-- devices, the keys, the planned faults, the sections that have ended, and the operations of the
-- section that is being read
pub record Progress : Type 0 where
  pub last : Option Sort
  pub blocks : ℕ
  pub fallback : Bool
  pub targets : List Target
  pub keys : List NamedKey
  pub faults : List (ℕ × ℕ)
  pub threads : List (List Op)
  pub section : List Op

-- ---- the lines that have been read

-- as many of the first three as there are
abbrev pub first_read : Option Sort → ℕ → Bool → List TextLine
first_read None blocks fallback = []
first_read (Some sorts.Version) blocks fallback = version_line ∷ []
first_read (Some sorts.Disk) blocks fallback = version_line ∷ disk_line blocks ∷ []
first_read (Some _) blocks fallback = version_line ∷ disk_line blocks ∷ fallback_line fallback ∷ []

-- these, and the lines of the devices
abbrev pub head_read : Progress → List TextLine
head_read p = first_read p.last p.blocks p.fallback ++ map device_line p.targets

-- whether a section is being read
abbrev pub is_in_section : Option Sort → Bool
is_in_section (Some sorts.Thread) = true
is_in_section (Some sorts.Operation) = true
is_in_section _ = false

-- the section that is being read, where one is
abbrev pub with_section : Bool → List Op → List (List Op)
with_section false section = []
with_section true section = section ∷ []

-- the sections, with the one that is being read
abbrev pub sections_read : Progress → List (List Op)
sections_read p = p.threads ++ with_section (is_in_section p.last) p.section

-- the last line, where it has been read
abbrev pub end_read : Option Sort → List TextLine
end_read (Some sorts.End) = end_line ∷ []
end_read _ = []

-- all lines that have been read
abbrev pub lines_read : Progress → List TextLine
lines_read p =
    head_read p
    ++ (map key_line p.keys
    ++ (map fault_line p.faults ++ (flat_map (section_lines p.keys) (sections_read p) ++ end_read p.last)))

-- the forms of lines below those above, the nearest first
abbrev pub forms_below : List Form → List TextLine → List Form
forms_below above [] = above
forms_below above (line ∷ lines) = forms_below (with_form (form_of line) above) lines

-- the forms of the lines that have been read, the nearest first
abbrev pub forms_read : Progress → List Form
forms_read p = forms_below [] (lines_read p)

-- ---- what holds of them

-- nothing is read yet of what stands below the nearest line, and the devices, if they are above it,
-- cover the disk
abbrev pub IsAt : Option Sort → Progress → Type 0
IsAt None p = (p.keys ≡ []) × (p.faults ≡ []) × (p.threads ≡ []) × (p.section ≡ []) × (p.targets ≡ [])
IsAt (Some sorts.Version) p =
    (p.keys ≡ []) × (p.faults ≡ []) × (p.threads ≡ []) × (p.section ≡ []) × (p.targets ≡ [])
IsAt (Some sorts.Disk) p = IsDiskSize p.blocks × (p.keys ≡ []) × (p.faults ≡ []) × (p.threads ≡ []) × (p.section ≡ [])
    × (p.targets ≡ [])
IsAt (Some sorts.Fallback) p = IsDiskSize p.blocks × (p.keys ≡ []) × (p.faults ≡ []) × (p.threads ≡ [])
    × (p.section ≡ []) × (p.targets ≡ [])
IsAt (Some sorts.Device) p = IsDiskSize p.blocks × (p.keys ≡ []) × (p.faults ≡ []) × (p.threads ≡ [])
    × (p.section ≡ []) × (1 ≤ length p.targets)
IsAt (Some sorts.Key) p = IsDiskSize p.blocks × (1 ≤ length p.keys) × (p.faults ≡ []) × (p.threads ≡ [])
    × (p.section ≡ []) × CoverAll p.blocks p.targets
IsAt (Some sorts.Fault) p = IsDiskSize p.blocks × (1 ≤ length p.faults) × (p.threads ≡ []) × (p.section ≡ [])
    × CoverAll p.blocks p.targets
IsAt (Some sorts.Thread) p = IsDiskSize p.blocks × (p.section ≡ []) × CoverAll p.blocks p.targets
IsAt (Some sorts.Operation) p = IsDiskSize p.blocks × (1 ≤ length p.section) × CoverAll p.blocks p.targets
IsAt (Some sorts.End) p = IsDiskSize p.blocks × (p.section ≡ []) × CoverAll p.blocks p.targets

-- how many blocks devices have together
abbrev pub blocks_of : List Target → ℕ
blocks_of devices = sum_by (λ (device : Target). device.blocks) devices

-- there are no devices, or they have as many blocks together as the disk
abbrev pub is_whole : Progress → Bool
is_whole p = nat_eq (length p.targets) 0 || nat_eq (blocks_of p.targets) p.blocks

-- few enough devices, one after the other from the first block on
pub record DevicesFollow (devices : List Target) : Type 0 where
  pub count : length devices ≤ max_devices
  pub lie : LieBetween 0 (blocks_of devices) devices
  pub each : AllByRecursion IsDevice devices

-- the rules of a script, as far as it has been read
pub record IsProgress (p : Progress) : Type 0 where
  pub at : IsAt p.last p
  pub devices : DevicesFollow p.targets
  pub keys : AreKeys p.keys
  pub faults : AreFaults p.faults
  pub threads : AllByRecursion (IsSection (length p.targets) (bare_keys p.keys)) p.threads
  pub section : AllByRecursion (IsOp (length p.targets) (bare_keys p.keys)) p.section
  pub plugs : IsSome (open_after false p.section)
  pub few_threads : length (sections_read p) ≤ max_threads
  pub few_ops : sum_by length (sections_read p) ≤ max_ops
  pub few_units : sum_by unit_count_of_section (sections_read p) ≤ max_units
