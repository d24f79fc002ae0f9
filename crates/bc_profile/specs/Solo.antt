-- What contracts see of a keyslot manager for one caller, and the one thing that its calls do: they
-- record events.
use Rattle.std.specs.Prelude.{ℕ, ◌+◌, ◌<◌, ◌≤◌, List, [], ◌++◌, length, Option, None, ⊤}
use Rattle.bc_profile.specs.declared.event.Event.{Event}
use Rattle.bc_profile.specs.declared.uses.Use.{Use}
use Rattle.bc_profile.specs.declared.uses.Use.TheVariants as uses
use Rattle.bc_profile.specs.SlotJournal.{Slots, slots_after, key_of}
use Rattle.bc_profile.specs.Rows.{row_of}

-- how many slots there are, the register row of each key, the journal, the slot that is held, and
-- how many events fit
pub record SoloData : Type 0 where
  pub count : ℕ
  pub rows : List (List ℕ)
  pub journal : List Event
  pub held : Option ℕ
  pub quota : ℕ

-- nothing is recorded, and no slot is held
abbrev pub opened_solo : ℕ → List (List ℕ) → ℕ → SoloData
opened_solo count rows quota = record { count = count; rows = rows; journal = []; held = None; quota = quota }

-- these events are recorded, and then this slot is held, or none
abbrev pub solo_with_events : SoloData → List Event → Option ℕ → SoloData
solo_with_events solo events held = record solo { journal = solo.journal ++ events; held = held }

-- the slots as the journal leaves them
abbrev pub slots_of : SoloData → Slots
slots_of solo = slots_after solo.count solo.journal

-- the registers of a slot: the row of the key that it has
abbrev pub row_in : SoloData → ℕ → List ℕ
row_in solo slot = row_of solo.rows (key_of (slots_of solo) slot)

-- so many events more fit
abbrev pub HasSpare : SoloData → ℕ → Type 0
HasSpare solo events = length solo.journal + events ≤ solo.quota

-- the key of a use has a row
abbrev pub NamesRow : ℕ → Use → Type 0
NamesRow count (uses.Hold key) = key.0 < count
NamesRow count (uses.Evict key) = key.0 < count
NamesRow count uses.Reset = ⊤
