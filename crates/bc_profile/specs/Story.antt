-- The story of a device that has many callers: its events, each with the caller that made it.
use Rattle.std.specs.Prelude.{◌≡◌, ℕ, List, map, Some, slice_get}
use Rattle.bc_turn.specs.Note as told
use Rattle.bc_turn.specs.Note.{Note}
use Rattle.bc_profile.specs.declared.event.Event.{Event}
use Rattle.bc_profile.specs.declared.event.Event.TheVariants as events
use Rattle.bc_profile.specs.declared.noted.Noted.{Noted}
use Rattle.bc_profile.specs.declared.skips.Skip.{Skip}
use Rattle.bc_profile.specs.SlotJournal.{Slots, InNoSlot, slots_after}
use Rattle.bc_profile.specs.Programmings as journals

-- who made it
abbrev pub author_of : Noted → ℕ
author_of noted = noted.caller

-- the event of an entry
abbrev pub event_in : Noted → Event
event_in noted = noted.event

-- what an event says of a slot: that it was programmed, emptied or is idle
abbrev pub note_in : Event → Note
note_in (events.Program slot key skipped) = told.programming slot key
note_in (events.Idle slot) = told.idle slot
note_in (events.Evict slot key) = told.emptying slot
note_in (events.Busy slot key refs) = told.none
note_in events.Reset = told.none

-- what an entry says of a slot
abbrev pub note_of : Noted → Note
note_of noted = note_in noted.event

-- the caller made this event
abbrev pub note : ℕ → Event → Noted
note caller event = record { caller = caller; event = event }

-- the caller made these events
abbrev pub notes : ℕ → List Event → List Noted
notes caller events = map (note caller) events

-- the events of a story: a journal
abbrev pub events_of : List Noted → List Event
events_of story = map event_in story

-- the slots of a device that had `count` of them at the start, after a story
abbrev pub slots_told : ℕ → List Noted → Slots
slots_told count story = slots_after count (events_of story)

-- at the end of the front the slot has the key, which this event programmed there
abbrev pub Holds : ℕ → List Noted → ℕ → ℕ → ℕ → Type 0
Holds count front key slot epoch = journals.Holds count (events_of front) key slot epoch

-- at the end of the front no slot has the key
abbrev pub IsGone : ℕ → List Noted → ℕ → Type 0
IsGone count front key = InNoSlot (slots_told count front) key

-- this event of the front programs the slot with the key
abbrev pub Programs : List Noted → ℕ → ℕ → ℕ → Type 0
Programs front epoch slot key =
    (skipped : List Skip) × (slice_get (events_of front) epoch ≡ Some (events.Program slot key skipped))
