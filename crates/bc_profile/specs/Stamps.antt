-- What the parts of a keyslot manager for one caller are, which its type doesn't show. No public contract
-- speaks of them.
use Rattle.std.specs.Prelude.{◌≡◌, ◌≢◌, ℕ, ◌+◌, ◌<◌, ◌≤◌, true, List, length, map, All, AllPairs, Option, Some, None, slice_index_or, slice_index}
use Rattle.bc_profile.specs.declared.event.Event.{Event}
use Rattle.bc_profile.specs.declared.limits.TheConstants.{MAX_SLOTS, MAX_EVENTS}
use Rattle.bc_profile.specs.SlotJournal.{Slots, slots_after, is_listed, IsLawful}
use Rattle.bc_profile.specs.Programmings.{last_programming}
use Rattle.bc_profile.specs.Rows.{row_of, HaveRows}

-- each key that a slot has was last programmed there, by the event that is kept for the slot
abbrev pub Named : List (Option ℕ) → List ℕ → List Event → Type 0
Named keys epochs journal = (slot key : ℕ) → slice_index_or keys slot None ≡ Some key
    → last_programming key journal ≡ Some (slot, slice_index epochs slot)

-- the keys are those that the journal leaves
pub record MatchesJournal (keys : List (Option ℕ)) (epochs : List ℕ) (journal : List Event) : Type 0 where
  pub keys_left : keys ≡ (slots_after (length keys) journal).keys
  pub lawful : IsLawful (length keys) journal
  pub as_many : length epochs ≡ length keys
  pub named : Named keys epochs journal

-- the list is the slots in the order of their stamps; all are on it, or all but the one that is
-- held
pub record AreStamped (slots : Slots) (held : Option ℕ) (stamps : List ℕ) (next : ℕ) : Type 0 where
  pub as_many : length stamps ≡ length slots.keys
  pub ascend : AllPairs (λ earlier later. slice_index stamps earlier < slice_index stamps later) slots.list
  pub passed : (slot : ℕ) → slot < length slots.keys → slice_index stamps slot < next
  pub are_slots : All (λ slot. slot < length slots.keys) slots.list
  pub listed : (slot : ℕ) → slot < length slots.keys → held ≢ Some slot → is_listed slots slot ≡ true

-- the stamp after that of the last event
abbrev pub next_stamp : ℕ → List Event → ℕ
next_stamp count journal = count + length journal

-- how many events are still to come for the slot that is held
abbrev pub owed : Option ℕ → ℕ
owed None = 0
owed (Some slot) = 1

-- the limits, and the room that was taken at opening
pub record HasReserve (count : ℕ) (journal : List Event) (held : Option ℕ) (quota capacity : ℕ) : Type 0 where
  pub some : 1 ≤ count
  pub few : count ≤ MAX_SLOTS
  pub small : quota < MAX_EVENTS
  pub within : length journal + owed held ≤ quota
  pub reserved : quota ≤ capacity

-- what the type keeps
pub record IsSolo (keys : List (Option ℕ)) (epochs stamps : List ℕ) (rows registers : List (List ℕ))
    (journal : List Event) (held : Option ℕ) (quota capacity : ℕ) : Type 0 where
  pub told : MatchesJournal keys epochs journal
  pub stamped : AreStamped (slots_after (length keys) journal) held stamps (next_stamp (length keys) journal)
  pub written : registers ≡ map (row_of rows) keys
  pub with_rows : HaveRows (length rows) keys
  pub room : HasReserve (length keys) journal held quota capacity
  pub held_is_slot : (slot : ℕ) → held ≡ Some slot → slot < length keys
