-- The book of a device that has many callers: its story, and how many references each slot has.
-- What the calls of a book do: each records the events that it names, and changes the references.
use Rattle.std.specs.Prelude.{◌≡◌, ◌⊎◌, ℕ, ◌-◌, ◌<◌, ◌≤◌, ◌==◌, List, [], ◌∷◌, ◌++◌, length, slice_set, Some, if◌then◌else◌}
use Rattle.std.specs.List.{AllByRecursion}
use Rattle.bc_profile.specs.declared.event.Event.{Event}
use Rattle.bc_profile.specs.declared.event.Event.TheVariants as events
use Rattle.bc_profile.specs.declared.limits.TheConstants.{MAX_EVENTS}
use Rattle.bc_profile.specs.declared.noted.Noted.{Noted}
use Rattle.bc_profile.specs.declared.skips.Skip.{Skip}
use Rattle.bc_profile.specs.declared.slot_word.SlotState.TheVariants as states
use Rattle.bc_profile.specs.declared.slot_word.SlotWord.{SlotWord}
use Rattle.bc_profile.specs.SlotJournal.{Slots, InNoSlot, MayProgram, key_of}
use Rattle.bc_profile.specs.SlotTable.{TableData, WasFound, refs_of, one_more}
use Rattle.bc_profile.specs.Stamps.{MatchesJournal}
use Rattle.bc_profile.specs.Story.{Holds, events_of, notes, slots_told}

-- how many slots there are, the story, the references of each slot, and how many events fit
pub record BookData : Type 0 where
  pub count : ℕ
  pub story : List Noted
  pub refs : List ℕ
  pub limit : ℕ

-- the slots as the story leaves them
abbrev pub slots_of : BookData → Slots
slots_of book = slots_told book.count book.story

-- an event more fits
abbrev pub HasRoom : BookData → Type 0
HasRoom book = length book.story < book.limit

-- these events of the caller are recorded, and the slots have these references
abbrev pub book_with_events : BookData → ℕ → List Event → List ℕ → BookData
book_with_events book caller events refs = record book { story = book.story ++ notes caller events; refs = refs }

-- the slot has the key, and gets a reference more
pub record Hits (old new : BookData) (key slot : ℕ) : Type 0 where
  pub has_key : key_of (slots_of old) slot ≡ Some key
  pub counted : new ≡ book_with_events old 0 [] (slice_set old.refs slot (one_more (refs_of old.refs slot)))

-- the slot is the first of the idle order that isn't held, and was programmed with the key, which
-- no slot had. Those before it are named with the references that they have
pub record ProgramsOne (old new : BookData) (caller key slot : ℕ) : Type 0 where
  pub skipped : List Skip
  pub may : MayProgram (slots_of old) slot key skipped
  pub found : AllByRecursion (WasFound old.refs) skipped
  pub free : refs_of old.refs slot ≡ 0
  pub made : new ≡ book_with_events old caller (events.Program slot key skipped ∷ []) (slice_set old.refs slot 1)

-- a hold of the key was taken, of this slot
abbrev pub TakesHold : BookData → BookData → ℕ → ℕ → ℕ → Type 0
TakesHold old new caller key slot = Hits old new key slot ⊎ ProgramsOne old new caller key slot

-- each slot is held
abbrev pub AllHeld : BookData → Type 0
AllHeld book = (slot : ℕ) → slot < book.count → 1 ≤ refs_of book.refs slot

-- no slot has the key, and each slot is held
abbrev pub NoneFree : BookData → ℕ → Type 0
NoneFree book key = InNoSlot (slots_of book) key × AllHeld book

-- what a slot was found to be: held, with this key by this event
pub record IsHeldBy (book : BookData) (slot : ℕ) (word : SlotWord) : Type 0 where
  pub refs : word.refs ≡ refs_of book.refs slot
  pub ready : word.state ≡ states.Ready
  pub holds : Holds book.count book.story word.key slot word.epoch

-- what giving a hold back records: that the slot is idle, where no reference is left
abbrev pub events_of_put : ℕ → ℕ → List Event
events_of_put slot left = if left == 0 then events.Idle slot ∷ [] else []

-- one reference of the slot less, by this caller
abbrev pub given_back : BookData → ℕ → ℕ → BookData
given_back book caller slot =
    let left = refs_of book.refs slot - 1 in
    book_with_events book caller (events_of_put slot left) (slice_set book.refs slot left)

-- the slot has the key and isn't held, and the key was taken out of it
pub record TakesOut (old new : BookData) (caller key slot : ℕ) : Type 0 where
  pub has_key : key_of (slots_of old) slot ≡ Some key
  pub free : refs_of old.refs slot ≡ 0
  pub made : new ≡ book_with_events old caller (events.Evict slot key ∷ []) old.refs

-- the key is in no slot now: it was in none, or was taken out of one that isn't held
abbrev pub Empties : BookData → BookData → ℕ → ℕ → Type 0
Empties old new caller key =
    (InNoSlot (slots_of old) key × (new ≡ old)) ⊎ ((slot : ℕ) × TakesOut old new caller key slot)

-- the slot has the key and is held by so many, and that is recorded
pub record IsBusy (old new : BookData) (caller key slot refs : ℕ) : Type 0 where
  pub has_key : key_of (slots_of old) slot ≡ Some key
  pub referenced : 1 ≤ refs
  pub counted : refs ≡ refs_of old.refs slot
  pub made : new ≡ book_with_events old caller (events.Busy slot key refs ∷ []) old.refs

-- what the book keeps, which its type doesn't show: slots and epochs as the story leaves them, and room for the
-- events to come
pub record IsBook (table : TableData) (epochs : List ℕ) (story : List Noted) (limit capacity : ℕ) : Type 0 where
  pub slots_left : table.slots ≡ slots_told (length table.slots.keys) story
  pub told : MatchesJournal table.slots.keys epochs (events_of story)
  pub within : length story ≤ limit
  pub small : limit < MAX_EVENTS
  pub reserved : limit ≤ capacity
