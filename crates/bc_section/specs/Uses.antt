-- What one caller makes of the devices of a script: the uses of each device, in order, what they
-- record in its journal, and which hold an inline entry names.
use Rattle.std.specs.Prelude.{◌≡◌, ℕ, ◌<◌, ⊤, Bool, true, false, List, [], ◌∷◌, ◌++◌, length, map, filter_map}
use Rattle.std.specs.Prelude.{Option, Some, option_map}
use Rattle.std.specs.List.{list_any}
use Rattle.bc_base.specs.Lists.{Each}
use Rattle.bc_bio.specs.declared.context.Context.{Context}
use Rattle.bc_bio.specs.Windows.{TaggedBio}
use Rattle.bc_medium.specs.declared.entry.Entry.{Entry}
use Rattle.bc_medium.specs.declared.unit_name.UnitName.{UnitName}
use Rattle.bc_medium.specs.declared.via.Via.{Via}
use Rattle.bc_medium.specs.declared.via.Via.TheVariants as vias
use Rattle.bc_medium.specs.Entries.{name_of_entry}
use Rattle.bc_medium.specs.LawfulOrders.{is_same}
use Rattle.bc_profile.specs.declared.event.Event.{Event}
use Rattle.bc_profile.specs.declared.uses.Use.TheVariants as uses
use Rattle.bc_profile.specs.SlotJournal.{slots_after}
use Rattle.bc_profile.specs.OneCaller.{journal_of}
use Rattle.bc_profile.specs.Programmings.{Holds}
use Rattle.bc_script.specs.declared.op.Op.{Op}
use Rattle.bc_script.specs.Script.{Script}
use Rattle.bc_script.specs.Bios.{bio_of}
use Rattle.bc_report.specs.SerialRun.{DeviceUse}
use Rattle.bc_compose.specs.OrderedHolds.{slot_count_of}

-- the bio of an operation, with the operation's number
abbrev pub tagged_bio : ℕ × Op → Option TaggedBio
tagged_bio (op, operation) = option_map (λ bio. record { tag = op; bio = bio }) (bio_of operation)

-- the bios of operations
abbrev pub op_bios : List (ℕ × Op) → List TaggedBio
op_bios operations = filter_map tagged_bio operations

-- the events of a device with these events, after uses of it
abbrev pub after_uses : Script → ℕ → List Event → List DeviceUse → List Event
after_uses script device journal done =
    journal ++ journal_of (slots_after (slot_count_of script device) journal) (map (λ u. u.use') done)

-- the use is a hold that is taken for this unit
abbrev pub is_for : UnitName → DeviceUse → Bool
is_for name u = list_any (is_same name) u.units

-- An inline entry names its own hold among the uses of its device: the hold is of the key of the
-- entry's unit, it is the first use that is for that unit, and as it is taken the slot has the key,
-- which the event programmed there.
pub record NamesOwnUse (script : Script) (journal : List Event) (done : List DeviceUse) (e : Entry)
    (device slot event : ℕ) : Type 0 where
  pub under : Context
  pub has_context : e.at.context ≡ Some under
  pub before : List DeviceUse
  pub units : List UnitName
  pub after : List DeviceUse
  pub among : done ≡ before ++ record { use' = uses.Hold under.key; units = units } ∷ after
  pub for_others : list_any (is_for (name_of_entry e)) before ≡ false
  pub for_it : list_any (is_same (name_of_entry e)) units ≡ true
  pub holds : Holds (slot_count_of script device)
      (after_uses script device journal (before ++ record { use' = uses.Hold under.key; units = units } ∷ []))
      under.key.0 slot event

-- the entry names its own hold, where its unit went inline
abbrev pub NamesUse : Script → (ℕ → List Event) → (ℕ → List DeviceUse) → Entry → Via → Type 0
NamesUse script journals done e (vias.Inline device slot event) =
    NamesOwnUse script (journals device) (done device) e device slot event
NamesUse script journals done e via = ⊤

-- from journals `old` to journals `new` just these uses were made of each device, and each entry
-- that was made names its own hold among them
pub record MakesUses (script : Script) (old new : ℕ → List Event) (done : ℕ → List DeviceUse) (made : List Entry)
    : Type 0 where
  pub journals : (device : ℕ) → device < length script.targets
      → new device ≡ after_uses script device (old device) (done device)
  pub holds : Each (λ e. NamesUse script old done e e.via) made
