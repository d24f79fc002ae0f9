-- The journal of a device that has one caller: it takes one hold at a time and gives it back before
-- the next use, so every slot is free when one is wanted, and the first of the idle order is
-- programmed without skips.
use Rattle.std.specs.Prelude.{ℕ, ◌==◌, Bool, false, List, [], ◌∷◌, ◌++◌, position, Option, is_some, unwrap_or, slice_index_or, if◌then◌else◌}
use Rattle.std.specs.Option.{option_map_or}
use Rattle.bc_profile.specs.declared.event.Event.{Event}
use Rattle.bc_profile.specs.declared.event.Event.TheVariants as events
use Rattle.bc_profile.specs.declared.uses.Use.{Use}
use Rattle.bc_profile.specs.declared.uses.Use.TheVariants as uses
use Rattle.bc_profile.specs.SlotJournal.{Slots, idle_order, after_events}

-- this is the key
abbrev pub has_key : ℕ → Option ℕ → Bool
has_key key has = option_map_or (λ other. other == key) has false

-- the slot that has the key
abbrev pub slot_with : Slots → ℕ → Option ℕ
slot_with slots key = position (has_key key) slots.keys

-- the least recently idle slot
abbrev pub first_idle : Slots → ℕ
first_idle slots = slice_index_or (idle_order slots) 0 0

-- the slot for the key: the one that has it, or else the least recently idle one
abbrev pub slot_for : Slots → ℕ → ℕ
slot_for slots key = unwrap_or (slot_with slots key) (first_idle slots)

-- what a hold of the key records: it programs the least recently idle slot where no slot has the
-- key
abbrev pub events_of_hold : Slots → ℕ → List Event
events_of_hold slots key =
    if is_some (slot_with slots key) then [] else events.Program (first_idle slots) key [] ∷ []

-- what an eviction of the key records: it empties the slot that has the key, if one has it
abbrev pub events_of_eviction : Slots → ℕ → List Event
events_of_eviction slots key = option_map_or (λ slot. events.Evict slot key ∷ []) (slot_with slots key) []

-- what a use records
abbrev pub events_of_use : Slots → Use → List Event
events_of_use slots (uses.Hold key) = events_of_hold slots key.0 ++ events.Idle (slot_for slots key.0) ∷ []
events_of_use slots (uses.Evict key) = events_of_eviction slots key.0
events_of_use slots uses.Reset = events.Reset ∷ []

-- what uses record, one after the other
abbrev pub journal_of : Slots → List Use → List Event
journal_of slots [] = []
journal_of slots (use' ∷ rest) =
    let events = events_of_use slots use' in events ++ journal_of (after_events slots events) rest
