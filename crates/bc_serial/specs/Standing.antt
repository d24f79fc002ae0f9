-- What holds of the shards of a run by one caller, and what one attempt of a data unit does to
-- them. The contracts of private functions speak of this; no public one does.
use Rattle.std.specs.Prelude.{◌≡◌, ℕ, ◌+◌, ◌*◌, ◌<◌, ◌≤◌, Bool, true, false, List, [], ◌∷◌, ◌++◌, length, map}
use Rattle.std.specs.Prelude.{slice_get, Option, None}
use Rattle.std.specs.List.{range_with_len}
use Rattle.std.specs.Option.{option_map_or}
use Rattle.bc_base.specs.declared.place.Place.{Place}
use Rattle.bc_base.specs.Lists.{Each, AllAt, ChangesAt, list_at}
use Rattle.bc_base.specs.Memory.{no_calls}
use Rattle.bc_base.specs.RamStores.{RamData, owns, contents}
use Rattle.bc_base.specs.Story.{StartsWith}
use Rattle.bc_key.specs.declared.keys.KeyNo.{KeyNo}
use Rattle.bc_key.specs.KeyData.{KeyData}
use Rattle.bc_bio.specs.declared.access.Access.TheVariants.{Read, Write}
use Rattle.bc_bio.specs.declared.extent.Extent.{Extent}
use Rattle.bc_bio.specs.Extent.{unit_sectors, context_after}
use Rattle.bc_bio.specs.Conditions.{IsAccepted}
use Rattle.bc_bio.specs.BioUnits.{context_wrapped}
use Rattle.bc_bio.specs.PlannedUnit.{PlannedUnit}
use Rattle.bc_medium.specs.declared.entry.Entry.{Entry}
use Rattle.bc_medium.specs.declared.unit_at.UnitAt.{UnitAt}
use Rattle.bc_medium.specs.declared.via.Via.{Via}
use Rattle.bc_medium.specs.Layout.{shard_of}
use Rattle.bc_medium.specs.KeyedDisk.{Text as Answered, Sectors, image_sectors, UnitAnswer, Faulted, Written}
use Rattle.bc_medium.specs.Entries.{name_of_entry, told_by, HasAnswer, written_entry, read_entry, failed_entry}
use Rattle.bc_medium.specs.Growth.{IsEntryOf, Knows}
use Rattle.bc_medium.specs.Outcome.{is_fault}
use Rattle.bc_medium.specs.ShardOrder.{ShardData, HasKeys}
use Rattle.bc_medium.specs.Shards.{orders_of, Adds}
use Rattle.bc_profile.specs.declared.event.Event.{Event}
use Rattle.bc_profile.specs.declared.uses.Use.TheVariants as uses
use Rattle.bc_script.specs.declared.op.Op.{Op}
use Rattle.bc_script.specs.Script.{Script, IsScript, keys_of, sectors_in, max_ops, max_units, max_bio_units}
use Rattle.bc_script.specs.Script.{max_bio_sectors}
use Rattle.bc_script.specs.Bios.{is_inline, refusal_of}
use Rattle.bc_script.specs.Plan.{unit_at}
use Rattle.bc_compose.specs.SectionDone.{SaysItsWay}
use Rattle.bc_section.specs.Openings.{planned_on}
use Rattle.bc_section.specs.Sections.{DeviceData, GoOnBy}
use Rattle.bc_serial.specs.declared.open_hold.OpenHold.{OpenHold}
use Rattle.bc_serial.specs.Keyslots.{KeyslotsData, HaveNotKey, max_events, stories_of, used_at, used_each}

-- ---- shards

-- a shard of the script's disk: writes had the script's keys, the sectors of its blocks are its
-- own, it fails as planned, and it has room for so many entries more
pub record ShardStands (script : Script) (shards left shard : ℕ) (s : ShardData RamData) : Type 0 where
  pub keys : HasKeys (keys_of script) s
  pub owned : (sector : ℕ) → sector < sectors_in script → shard_of shards sector ≡ shard → owns s.start sector ≡ true
  pub blocks : s.start.blocks ≡ script.blocks
  pub planned : s.start.calls ≡ no_calls (planned_on script.faults shard)
  pub spare : left ≤ s.spare
  pub few : length s.entries + s.spare ≤ max_units + max_ops

-- each shard is such
abbrev pub AllStand : Script → ℕ → List (ShardData RamData) → Type 0
AllStand script left shards = (shard : ℕ) → AllAt shards shard (ShardStands script (length shards) left shard)

-- each device may still record two events for each of so many data units, evictions and resets
abbrev pub HaveRoom : ℕ → List (List Event) → Type 0
HaveRoom left journals = Each (λ journal. length journal + 2 * left ≤ max_events) journals

-- a script is being carried out: with its keys' ciphers, over shards of its disk, each with room
-- for so many entries more, and over its devices, each with room for as many holds
pub record IsCourse (script : Script) (keys : List KeyData) (shards : List (ShardData RamData))
    (keyslots : KeyslotsData) (left : ℕ) : Type 0 where
  pub rules : IsScript script
  pub keys_are : keys ≡ keys_of script
  pub some : 1 ≤ length shards
  pub stand : AllStand script left shards
  pub same_script : keyslots.script ≡ script
  pub room : HaveRoom left keyslots.journals

-- the sectors of each shard at the opening
abbrev pub sectors_at : List (ShardData RamData) → ℕ → Sectors
sectors_at shards shard = option_map_or (λ s. contents s.start) (slice_get shards shard) (λ sector. [])

-- a script that is being carried out by one caller: over which shards, whose section it is, how
-- many data units, evictions and resets more fit, the journals of the devices and what they were
-- when the section began, and the hold that is open
pub record CourseData : Type 0 where
  pub script : Script
  pub shards : List (ShardData RamData)
  pub thread : ℕ
  pub left : ℕ
  pub journals : List (List Event)
  pub begun : List (List Event)
  pub opened : Option OpenHold

-- the same as the device of the thread whose section it is
abbrev pub own_device : CourseData → DeviceData
own_device course = record {
  script = course.script;
  shards = length course.shards;
  base = sectors_at course.shards;
  thread = course.thread;
  seen = orders_of course.shards;
  noted = stories_of course.thread course.begun course.journals;
  begun = course.begun;
  alone = true;
  spare = course.left;
}

-- ---- data units

-- a bio can be performed: it isn't refused, has no more data units and sectors than a script's may
-- have, and none of its numbers wraps
pub record IsPerformableBio (script : Script) (bio : Extent) : Type 0 where
  pub unrefused : refusal_of script bio ≡ None
  pub accepted : IsAccepted (keys_of script) (sectors_in script) bio
  pub few_units : bio.units ≤ max_bio_units
  pub few_sectors : bio.units * unit_sectors (keys_of script) bio.context ≤ max_bio_sectors
  pub no_wrap : (i : ℕ) → i ≤ bio.units → context_wrapped i bio.context ≡ context_after i bio.context

-- the first n units of a bio
abbrev pub first_units : List KeyData → ℕ → Op → Extent → ℕ → List PlannedUnit
first_units keys op operation bio n = map (unit_at keys op operation bio) (range_with_len 0 n)

-- a thread's unit, where it lies
abbrev pub unit_place_of : ℕ → PlannedUnit → UnitAt
unit_place_of thread u = record { caller = thread; tag = u.tag; unit = u.unit; sector = u.sector; context = u.context }

-- the entry of a write that went so, with no fault or with one
abbrev pub entry_of_write : UnitAt → Via → List ℕ → Bool → Entry
entry_of_write at via plain true = written_entry at via plain
entry_of_write at via plain false = failed_entry Write at via

-- what it is answered
abbrev pub answer_of_write : Bool → UnitAnswer
answer_of_write true = Written
answer_of_write false = Faulted

-- the entry of a read that went so, with no fault or with one
abbrev pub entry_of_read : UnitAt → Via → Bool → Entry
entry_of_read at via true = read_entry at via
entry_of_read at via false = failed_entry Read at via

-- what it is answered
abbrev pub answer_of_read : List ℕ → Bool → UnitAnswer
answer_of_read text true = Answered text
answer_of_read text false = Faulted

-- a shard goes on by an entry, under these keys if it is a write
pub record GoesOnByEntry (keys : List KeyData) (e : Entry) (s s' : ShardData RamData) : Type 0 where
  pub start : s'.start ≡ s.start
  pub keys_are : HasKeys keys s'
  pub entries : s'.entries ≡ s.entries ++ e ∷ []
  pub spare : s'.spare + 1 ≡ s.spare

-- one access of the shards: its entry, and what it is answered
pub record Attempted (keys : List KeyData) (old new : List (ShardData RamData)) (e : Entry) (answer : UnitAnswer)
    : Type 0 where
  pub place : Place
  pub adds : Adds old new e place
  pub goes_on : ChangesAt old new place.shard (GoesOnByEntry keys e)
  pub told : AllAt new place.shard
      (λ s. HasAnswer (told_by keys (contents s.start) s.entries) (name_of_entry e) answer)

-- each shard has room for one entry more than what fits
abbrev pub HasEntries : CourseData → Type 0
HasEntries course = AllStand course.script (course.left + 1) course.shards

-- each journal begins as it did when the section began
pub record HasBegun (begun journals : List (List Event)) : Type 0 where
  pub count : length begun ≡ length journals
  pub each : (device : ℕ) → StartsWith (list_at journals device) (list_at begun device)

-- ---- evictions and resets

-- a key was taken out of the keyslots of all devices, where it goes inline, and another key out of
-- none
pub record EvictsKey (old new : CourseData) (key : KeyNo) : Type 0 where
  pub left : old.left ≡ new.left + 1
  pub same : new ≡ record old { left = new.left; journals = new.journals; opened = new.opened }
  pub inline : is_inline old.script key ≡ true
      → new.journals ≡ used_each old.script (uses.Evict key) old.journals
  pub soft : is_inline old.script key ≡ false → new.journals ≡ old.journals
  pub gone : is_inline old.script key ≡ true → HaveNotKey old.script new.journals key.0

-- a device programmed its keyslots again
pub record ResetsDevice (old new : CourseData) (device : ℕ) : Type 0 where
  pub left : old.left ≡ new.left + 1
  pub same : new ≡ record old { left = new.left; journals = new.journals; opened = new.opened }
  pub reset : new.journals ≡ used_at old.script device uses.Reset old.journals

-- ---- attempts

-- one data unit was attempted, and its thread knows what it was answered
pub record AttemptsUnit (old new : DeviceData) (u : PlannedUnit) (answer : UnitAnswer) : Type 0 where
  pub entry : Entry
  pub same : new ≡ record old { seen = new.seen; spare = new.spare }
  pub spare : old.spare ≤ new.spare + 1
  pub grows : GoOnBy old.shards old.seen new.seen (entry ∷ [])
  pub is_its : IsEntryOf old.thread u entry
  pub way : SaysItsWay old.script entry
  pub failed : entry.failed ≡ is_fault answer
  pub known : Knows (keys_of old.script) old.shards old.base old.thread new.seen u answer

-- ---- the whole run

-- a run begins: nothing was attempted or recorded yet, and each shard has its own sectors of the
-- image
pub record IsBegun (script : Script) (image : List ℕ) (shards : ℕ) (course : CourseData) : Type 0 where
  pub script_is : course.script ≡ script
  pub shards_are : length course.shards ≡ shards
  pub untouched : (shard : ℕ) → list_at (orders_of course.shards) shard ≡ []
  pub opening : (s : ℕ) → sectors_at course.shards (shard_of shards s) s ≡ image_sectors image s
  pub unused : course.journals ≡ map (λ target. []) script.targets
  pub closed : course.opened ≡ None
  pub left : course.left ≡ max_units + max_ops
