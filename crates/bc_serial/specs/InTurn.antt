-- Inside a window: the bios of it that were begun, what was attempted of them, and the hold that is
-- open. A bio of which only the first n data units were gone over counts as a bio of n units.
use Rattle.std.specs.Prelude.{◌≡◌, ◌==◌, Bool, ℕ, ◌+◌, ◌<◌, ◌≤◌, true, false, List, [], ◌∷◌, ◌++◌, length, take}
use Rattle.std.specs.Prelude.{filter_map, slice_get, Option, Some, None, IfSome, IsSomeAnd, option_map, option_and_then}
use Rattle.std.specs.Prelude.{if◌then◌else◌, ⊤}
use Rattle.std.specs.List.{list_any, last_or}
use Rattle.std.specs.Option.{option_map_or, unwrap_or}
use Rattle.bc_base.specs.Lists.{Each, list_at}
use Rattle.bc_bio.specs.declared.context.Context.{Context}
use Rattle.bc_bio.specs.declared.extent.Extent.{Extent}
use Rattle.bc_bio.specs.Extent.{sector_at}
use Rattle.bc_bio.specs.BackRuns.{back_runs_on}
use Rattle.bc_bio.specs.Chunks.{joins_last}
use Rattle.bc_bio.specs.Conditions.{IsPlaced}
use Rattle.bc_bio.specs.PlannedUnit.{PlannedUnit}
use Rattle.bc_bio.specs.Windows.{TaggedBio, NamedUnit, joins, requests_of, units_of_request}
use Rattle.bc_key.specs.declared.keys.KeyNo.{KeyNo}
use Rattle.bc_medium.specs.declared.entry.Entry.{Entry}
use Rattle.bc_medium.specs.declared.via.Via.{Via}
use Rattle.bc_medium.specs.declared.via.Via.TheVariants as vias
use Rattle.bc_medium.specs.KeyedDisk.{UnitAnswer}
use Rattle.bc_profile.specs.declared.event.Event.{Event}
use Rattle.bc_profile.specs.Programmings.{Holds, last_programming}
use Rattle.bc_profile.specs.declared.uses.Use.TheVariants as uses
use Rattle.bc_stack.specs.Devices.{device_at}
use Rattle.bc_stack.specs.Pieces.{device_of}
use Rattle.bc_script.specs.declared.op.Op.{Op}
use Rattle.bc_script.specs.Script.{Script, IsScript, keys_of}
use Rattle.bc_script.specs.Bios.{bio_of, is_inline}
use Rattle.bc_script.specs.Windows as turns
use Rattle.bc_report.specs.declared.answer.Answer.{Answer}
use Rattle.bc_report.specs.SerialRun.{inline_key, uses_of_turn}
use Rattle.bc_compose.specs.SectionDone.{inline_of}
use Rattle.bc_compose.specs.OrderedHolds.{Pairs, Rises, slot_count_of}
use Rattle.bc_section.specs.Sections.{Carries, CarriesOne}
use Rattle.bc_section.specs.SectionProgress.{numbered, Settled}
use Rattle.bc_serial.specs.declared.open_hold.OpenHold.{OpenHold}
use Rattle.bc_serial.specs.Keyslots.{IsOpenFor, is_open_for, used_at, via_under}
use Rattle.bc_serial.specs.Standing.{CourseData, AttemptsUnit}
use Rattle.bc_serial.specs.Standing as standing
use Rattle.bc_section.specs.Uses.{MakesUses, op_bios}

-- the last request of a window
abbrev pub last_request : Script → List TaggedBio → List TaggedBio
last_request script bios = unwrap_or (last_or None (requests_of (keys_of script) bios)) []

-- the last of these units
abbrev pub last_unit : List NamedUnit → Option NamedUnit
last_unit units = last_or None units

-- the device and the key of the hold that is open after these bios: the device of the last unit of
-- the last request, if that goes inline and has a unit
abbrev pub hold_open_after : Script → List TaggedBio → Option (ℕ × ℕ)
hold_open_after script bios =
    let request = last_request script bios in
    option_and_then (λ key. option_map (λ u. (device_of script.targets u, key.0))
    (last_unit (units_of_request (keys_of script) request))) (inline_key script request)

-- a hold's device and key
abbrev pub under_hold : OpenHold → ℕ × ℕ
under_hold hold = (hold.device, hold.key)

-- the slot of an open hold has the key, which the event programmed there
abbrev pub StillHolds : CourseData → OpenHold → Type 0
StillHolds now hold =
    Holds (slot_count_of now.script hold.device) (list_at now.journals hold.device) hold.key hold.slot hold.event

-- the journal programs the key, at this event at the earliest
abbrev pub NoLater : List Event → ℕ → ℕ → Type 0
NoLater journal key event = (found : ℕ × ℕ) × (last_programming key journal ≡ Some found) × (event ≤ found.1)

-- These bios of a window were gone over: each inline piece of them took a hold, and each entry that
-- was made names its own; under one key on one device no entry names an earlier event than one
-- before it. The hold that is open is the last one.
pub record InTurn (start now : CourseData) (bios : List TaggedBio) (made : List Entry) : Type 0 where
  pub script_is : now.script ≡ start.script
  pub thread_is : now.thread ≡ start.thread
  pub begun_is : now.begun ≡ start.begun
  pub same_devices : length now.journals ≡ length start.journals
  pub uses : MakesUses start.script (list_at start.journals) (list_at now.journals)
      (λ device. uses_of_turn start.script device start.thread (turns.Window bios)) made
  pub rises : Pairs Rises (filter_map inline_of made)
  pub none_later : Each (λ i. NoLater (list_at now.journals i.device) i.key i.event) (filter_map inline_of made)
  pub opened : option_map under_hold now.opened ≡ hold_open_after start.script bios
  pub still : IfSome now.opened (StillHolds now)

-- the first bios of a window were performed with these answers, one after the other
pub record InWindow (start now : CourseData) (section : List Op) (window : List ℕ) (n : ℕ)
    (old answers : List (Option Answer)) : Type 0 where
  pub told : List Answer
  pub carried : Carries (standing.own_device start) (standing.own_device now) (numbered section (take n window)) told
  pub turn : InTurn start now (op_bios (numbered section (take n window))) carried.made
  pub settled : Each (Settled (standing.own_device now) section answers) (take n window)
  pub long : length answers ≡ length old
  pub others : (o : ℕ) → list_any (λ w. w == o) window ≡ false → slice_get answers o ≡ slice_get old o

-- ---- units

-- the first n units of a bio, as a bio
abbrev pub first_units_of : ℕ → Extent → ℕ → TaggedBio
first_units_of op bio n = record { tag = op; bio = record bio { units = n } }

-- unit number n of a bio goes inline: its key does, and this device has it
pub record GoesInlineAt (script : Script) (bio : Extent) (n : ℕ) (under : Context) (device : ℕ) : Type 0 where
  pub has_context : bio.context ≡ Some under
  pub inline : is_inline script under.key ≡ true
  pub within : device < length script.targets
  pub at : device_at script.targets (sector_at (keys_of script) bio n) ≡ Some device

-- no unit of a bio under this context goes inline
abbrev pub IsNotInline : Script → Option Context → Type 0
IsNotInline script None = ⊤
IsNotInline script (Some under) = is_inline script under.key ≡ false

-- a hold of the key was taken on the device, and is the one that is open
pub record RunOpensHold (old new : CourseData) (device : ℕ) (key : KeyNo) : Type 0 where
  pub slot : ℕ
  pub event : ℕ
  pub journals : new.journals ≡ used_at old.script device (uses.Hold key) old.journals
  pub opened : new.opened ≡ Some (record { device = device; key = key.0; slot = slot; event = event })
  pub holds : Holds (slot_count_of old.script device) (list_at new.journals device) key.0 slot event

-- the keyslots were left as they are
pub record LeavesHolds (old new : CourseData) : Type 0 where
  pub journals : new.journals ≡ old.journals
  pub opened : new.opened ≡ old.opened

-- unit number n of a bio was reached: where it goes inline, the hold that is open is of its key on
-- its device, and was taken where none was
pub record ReachesUnit (old new : CourseData) (bio : Extent) (n : ℕ) : Type 0 where
  pub left : old.left ≡ new.left + 1
  pub same : new ≡ record old { left = new.left; journals = new.journals; opened = new.opened }
  pub not_inline : IsNotInline old.script bio.context → LeavesHolds old new
  pub keeps : (under : Context) (device : ℕ) → GoesInlineAt old.script bio n under device
      → is_open_for old.opened device under.key.0 ≡ true → LeavesHolds old new
  pub takes : (under : Context) (device : ℕ) → GoesInlineAt old.script bio n under device
      → is_open_for old.opened device under.key.0 ≡ false → RunOpensHold old new device under.key

-- where a unit under this context goes inline, a hold of its key is open
abbrev pub HasOpen : CourseData → Option Context → Type 0
HasOpen course None = ⊤
HasOpen course (Some under) = is_inline course.script under.key ≡ true → IsOpenFor course.opened under.key.0

-- where a unit under this context goes inline, the hold that is open is of its key on the device of
-- its sector
abbrev pub HasOpenAt : CourseData → Option Context → ℕ → Type 0
HasOpenAt course None sector = ⊤
HasOpenAt course (Some under) sector =
    is_inline course.script under.key ≡ true
    → IsSomeAnd course.opened (λ hold.
    (hold.key ≡ under.key.0) × (device_at course.script.targets sector ≡ Some hold.device))

-- how a unit under this context goes
abbrev pub via_in : CourseData → Option Context → Via
via_in course None = vias.Plain
via_in course (Some under) = if is_inline course.script under.key then via_under course.opened else vias.Soft

-- one data unit was attempted, and its entry says how it went
pub record AttemptsOn (old new : CourseData) (u : PlannedUnit) (answer : UnitAnswer) : Type 0 where
  pub unit : AttemptsUnit (standing.own_device old) (standing.own_device new) u answer
  pub same : new ≡ record old { shards = new.shards }
  pub via : unit.entry.via ≡ via_in old u.context

-- Unit number n of a bio was gone over: it was reached, and then attempted where no unit before it
-- met a fault. The number of the unit that met one, if one did, was `before` and is `after`.
pub record GoesOver (old new : CourseData) (bio : Extent) (n : ℕ) (u : PlannedUnit) (answer : Bool → UnitAnswer)
    (before after : Option ℕ) : Type 0 where
  pub mid : CourseData
  pub rules : IsScript old.script
  pub reaches : ReachesUnit old mid bio n
  pub passes : (k : ℕ) → before ≡ Some k → (after ≡ Some k) × (new ≡ mid)
  pub attempts : before ≡ None
      → (went : Bool) × AttemptsOn mid new u (answer went) × (after ≡ (if went then None else Some n))

-- ---- bios

-- A bio may follow these in a window, after which a hold was open or none was: where it runs on
-- from the last one, that hold is open still, and else none is.
pub record MayFollow (script : Script) (done : List TaggedBio) (next : TaggedBio) (was opened : Option OpenHold)
    : Type 0 where
  pub goes_on : joins_last (joins (keys_of script)) (last_request script done) next ≡ true → opened ≡ was
  pub starts : joins_last (joins (keys_of script)) (last_request script done) next ≡ false → opened ≡ None

-- a bio was performed, and in a window its entries and holds come after those of the bios before it
pub record PerformsBio (old new : CourseData) (op : ℕ) (operation : Op) (bio : Extent) (answer : Answer) : Type 0 where
  pub carries : CarriesOne (standing.own_device old) (standing.own_device new) (op, operation) answer
  pub same : new ≡ record old { shards = new.shards; left = new.left; journals = new.journals; opened = new.opened }
  pub turn : (start : CourseData) (done : List TaggedBio) (was : Option OpenHold) (made : List Entry)
      → Each (λ tagged. tagged.tag < op) done
      → MayFollow start.script done (first_units_of op bio bio.units) was old.opened
      → InTurn start (record old { opened = was }) done made
      → InTurn start new (done ++ first_units_of op bio bio.units ∷ []) (made ++ carries.made)

-- an operation's bio was submitted in a window, where `last` is the bio before it
pub record SubmitsBio (old new : CourseData) (op : ℕ) (operation : Op) (last : Option Extent) (answer : Answer)
    : Type 0 where
  pub mid : CourseData
  pub bio : Extent
  pub is_bio : bio_of operation ≡ Some bio
  pub placed : IsPlaced (keys_of old.script) bio
  pub goes_on : option_map_or (λ first. back_runs_on (keys_of old.script) first bio) last false ≡ true → mid ≡ old
  pub starts : option_map_or (λ first. back_runs_on (keys_of old.script) first bio) last false ≡ false
      → mid ≡ record old { opened = None }
  pub performs : PerformsBio mid new op operation bio answer
