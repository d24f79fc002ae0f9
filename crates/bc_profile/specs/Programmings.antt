-- Where a journal programs a key: the place of an event is the number of events before it.
use Rattle.std.specs.Prelude.{◌≡◌, ℕ, ◌==◌, List, filter_map, Option, Some, None, if◌then◌else◌}
use Rattle.std.specs.List.{enumerate_from, last_or}
use Rattle.bc_profile.specs.declared.event.Event.{Event}
use Rattle.bc_profile.specs.declared.event.Event.TheVariants as events
use Rattle.bc_profile.specs.SlotJournal.{slots_after, key_of}

-- the slot and the place of an event that programs the key
abbrev pub programming_at : ℕ → ℕ × Event → Option (ℕ × ℕ)
programming_at key (place, events.Program slot other skipped) = if other == key then Some (slot, place) else None
programming_at key (place, _) = None

-- the slot and the place of each programming of the key
abbrev pub programmings : ℕ → List Event → List (ℕ × ℕ)
programmings key journal = filter_map (programming_at key) (enumerate_from 0 journal)

-- the slot and the place of the last programming of the key
abbrev pub last_programming : ℕ → List Event → Option (ℕ × ℕ)
last_programming key journal = last_or None (programmings key journal)

-- the slot has the key, which this event programmed there
pub record Holds (count : ℕ) (journal : List Event) (key slot event : ℕ) : Type 0 where
  pub last : last_programming key journal ≡ Some (slot, event)
  pub has_key : key_of (slots_after count journal) slot ≡ Some key
