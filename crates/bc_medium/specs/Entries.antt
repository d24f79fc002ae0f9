-- What the entries of a shard's order leave on its disk, and what each of them was answered.
-- The fault plan of an order is given by its entries: it has the places of those that failed.
use Rattle.std.specs.Prelude.{◌≡◌, ℕ, ◌/◌, true, false, length, List, [], ◌∷◌, Option, Some, None, IfSome, slice_get, if◌then◌else◌}
use Rattle.std.specs.Option.{unwrap_or}
use Rattle.bc_key.specs.KeyData.{KeyData}
use Rattle.bc_bio.specs.declared.access.Access.{Access}
use Rattle.bc_bio.specs.declared.access.Access.TheVariants.{Read, Write}
use Rattle.bc_bio.specs.PlannedUnit.{PlannedUnit}
use Rattle.bc_medium.specs.declared.via.Via.{Via}
use Rattle.bc_medium.specs.declared.unit_at.UnitAt.{UnitAt}
use Rattle.bc_medium.specs.declared.entry.Entry.{Entry}
use Rattle.bc_medium.specs.declared.unit_name.UnitName.{UnitName}
use Rattle.bc_medium.specs.KeyedDisk.{Sectors, UnitAnswer, Faulted, Performed, bytes_at, accessed}

-- who made an entry
abbrev pub caller_of : Entry → ℕ
caller_of e = e.at.caller

-- the name of a caller's unit
abbrev pub unit_name : UnitAt → UnitName
unit_name at = record { thread = at.caller; op = at.tag; unit = at.unit }

-- the name of the unit of an entry
abbrev pub name_of_entry : Entry → UnitName
name_of_entry e = unit_name e.at

-- the entry of a write
abbrev pub written_entry : UnitAt → Via → List ℕ → Entry
written_entry at via plain = record { at = at; access = Write; via = via; plain = Some plain; failed = false }

-- the entry of a read
abbrev pub read_entry : UnitAt → Via → Entry
read_entry at via = record { at = at; access = Read; via = via; plain = None; failed = false }

-- the entry of an access that failed
abbrev pub failed_entry : Access → UnitAt → Via → Entry
failed_entry access at via = record { at = at; access = access; via = via; plain = None; failed = true }

-- the unit that an entry performs
abbrev pub entry_unit : Entry → PlannedUnit
entry_unit e = record {
  tag = e.at.tag;
  unit = e.at.unit;
  access = e.access;
  context = e.at.context;
  sector = e.at.sector;
  bytes = unwrap_or e.plain [];
}

-- one entry on the keyed disk: one that failed leaves the disk as it was
abbrev pub performed_by : List KeyData → Sectors → Entry → Performed
performed_by keys disk e =
    if e.failed then record { disk = disk; answer = Faulted } else accessed e.access keys disk (entry_unit e)

-- the disk after entries
abbrev pub left_by : List KeyData → Sectors → List Entry → Sectors
left_by keys disk [] = disk
left_by keys disk (e ∷ es) = left_by keys (performed_by keys disk e).disk es

-- what each of them was answered, by place
abbrev pub told_by : List KeyData → Sectors → List Entry → List (UnitName × UnitAnswer)
told_by keys disk [] = []
told_by keys disk (e ∷ es) =
    let now = performed_by keys disk e in (name_of_entry e, now.answer) ∷ told_by keys now.disk es

-- somewhere among these answers the unit was answered so: this stays true when entries follow
abbrev pub HasAnswer : List (UnitName × UnitAnswer) → UnitName → UnitAnswer → Type 0
HasAnswer told name answer = (place : ℕ) × (slice_get told place ≡ Some (name, answer))

-- from these contents the keyed disk answers the unit so at this place of the order
abbrev pub IsToldAt : List KeyData → Option Sectors → List Entry → ℕ → UnitName → UnitAnswer → Type 0
IsToldAt keys contents order place name answer =
    IfSome contents (λ disk. slice_get (told_by keys disk order) place ≡ Some (name, answer))

-- the raw bytes that stand from this sector on after these entries
abbrev pub Stand : List KeyData → Option Sectors → List Entry → ℕ → List ℕ → Type 0
Stand keys contents before first raw =
    IfSome contents (λ disk. raw ≡ bytes_at (left_by keys disk before) first (length raw / 512))
