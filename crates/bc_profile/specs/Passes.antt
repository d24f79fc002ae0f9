-- What contracts see of a profile and of its callers' passes, and what its calls tell: the front of
-- the story that the call saw, and the events that it added.
use Rattle.std.specs.Prelude.{◌≡◌, ◌⊎◌, ℕ, ◌+◌, ◌<◌, ◌≤◌, ◌==◌, true, false, List, [], ◌∷◌, ◌++◌, map, length, sum, Option, Some, None, IfSome, slice_index_or}
use Rattle.atomic_table.specs.Seated.{TableId}
use Rattle.std.specs.List.{list_any}
use Rattle.bc_base.specs.Lists.{Each, EachFrom}
use Rattle.bc_base.specs.Story.{own, StartsWith, IsFront}
use Rattle.bc_turn.specs.PassParts.{Part, Pass, TurnsData, CellData, part_key, cell_key}
use Rattle.bc_profile.specs.declared.event.Event.{Event}
use Rattle.bc_profile.specs.declared.event.Event.TheVariants as events
use Rattle.bc_profile.specs.declared.limits.TheConstants.{MAX_EVENTS}
use Rattle.bc_profile.specs.declared.noted.Noted.{Noted}
use Rattle.bc_profile.specs.declared.skips.Skip.{Skip}
use Rattle.bc_profile.specs.declared.slot_word.SlotState.TheVariants as states
use Rattle.bc_profile.specs.declared.slot_word.SlotWord.{SlotWord}
use Rattle.bc_profile.specs.SlotJournal.{IsLawful, MayProgram, key_of}
use Rattle.bc_profile.specs.Rows.{cleared}
use Rattle.bc_profile.specs.Story.{Holds, IsGone, Programs, author_of, events_of, notes, slots_told}
use Rattle.bc_profile.specs.Book.{BookData}

-- what no call changes: how many slots there are, and how many events each caller may make
pub record BaseData : Type 0 where
  pub slots : ℕ
  pub quotas : List ℕ

-- how many events a caller may make
abbrev pub quota_of : BaseData → ℕ → ℕ
quota_of base caller = slice_index_or base.quotas caller 0

-- the book has these slots, and room for what each caller may make, of which none made more
pub record KeepsTo (base : BaseData) (book : BookData) : Type 0 where
  pub slots : book.count ≡ base.slots
  pub limit : book.limit ≡ sum base.quotas
  pub small : book.limit < MAX_EVENTS
  pub within : (caller : ℕ) → length (own author_of caller book.story) ≤ quota_of base caller

-- a hold: its slot and key, the place of the event that programmed the slot with it, and the key's
-- register row
pub record HoldFacts : Type 0 where
  pub slot : ℕ
  pub key : ℕ
  pub epoch : ℕ
  pub row : List ℕ

-- a pass: whose it is and of which cell, the front of the story that was seen, and the hold
pub record SlotFacts : Type 0 where
  pub caller : ℕ
  pub cell : List (TableId × Option BaseData)
  pub seen : List Noted
  pub hold : Option HoldFacts

-- a profile: the book behind its turn, and the register row of each key
pub record ProfileData : Type 0 where
  pub turns : TurnsData BaseData
  pub rows : List (List ℕ)

-- the base of the one cell
abbrev pub base_of : List (CellData BaseData) → BaseData
base_of [] = record { slots = 0; quotas = [] }
base_of (cell ∷ cells) = cell.base

-- what no call changes of a profile
abbrev pub base_in : ProfileData → BaseData
base_in profile = base_of profile.turns.cells

-- how many slots there are
abbrev pub slots_in : ProfileData → ℕ
slots_in profile = (base_in profile).slots

-- the register row of a key
abbrev pub row_at : ProfileData → ℕ → List ℕ
row_at profile key = slice_index_or profile.rows key cleared

-- what a hold means, whatever others do meanwhile: this event of the front programmed the slot with
-- the key, whose row it has
pub record IsHold (profile : ProfileData) (front : List Noted) (hold : HoldFacts) : Type 0 where
  pub is_slot : hold.slot < slots_in profile
  pub programmed : Programs front hold.epoch hold.slot hold.key
  pub row : hold.row ≡ row_at profile hold.key

-- the pass is one of this profile
pub record IsOf (profile : ProfileData) (pass : SlotFacts) : Type 0 where
  pub caller : pass.caller < profile.turns.callers
  pub cell : pass.cell ≡ map cell_key profile.turns.cells
  pub hold : IfSome pass.hold (IsHold profile pass.seen)

-- the pass is one of this profile, and has no hold
abbrev pub IsFree : ProfileData → SlotFacts → Type 0
IsFree profile pass = IsOf profile pass × (pass.hold ≡ None)

-- the events of a pass: those that its caller made
abbrev pub made_by : SlotFacts → List Noted
made_by pass = own author_of pass.caller pass.seen

-- its caller may make so many events more
abbrev pub HasSpare : ProfileData → SlotFacts → ℕ → Type 0
HasSpare profile pass events = length (made_by pass) + events ≤ quota_of (base_in profile) pass.caller

-- a call saw the story as far as this front, and added these events; the caller's own grew by just
-- these
pub record Noticed (old new : SlotFacts) (events : List Event) : Type 0 where
  pub front : List Noted
  pub begins : StartsWith front old.seen
  pub own_front : own author_of old.caller front ≡ made_by old
  pub ends : new.seen ≡ front ++ notes old.caller events
  pub own_events : made_by new ≡ made_by old ++ notes old.caller events
  pub caller : new.caller ≡ old.caller
  pub cell : new.cell ≡ old.cell

-- a call programmed the slot with the key, as the idle order of the front that it saw has it
pub record ProgramsSlot (slots : ℕ) (old new : SlotFacts) (key slot : ℕ) : Type 0 where
  pub skipped : List Skip
  pub noticed : Noticed old new (events.Program slot key skipped ∷ [])
  pub may : MayProgram (slots_told slots noticed.front) slot key skipped

-- what `get` adds: one programming of the slot with the key, or nothing
abbrev pub Gets : ℕ → SlotFacts → SlotFacts → ℕ → ℕ → Type 0
Gets slots old new key slot = Noticed old new [] ⊎ ProgramsSlot slots old new key slot

-- a slot was found held, with this key by this event of the front
pub record FoundHeld (slots : ℕ) (front : List Noted) (slot : ℕ) (word : SlotWord) : Type 0 where
  pub referenced : 1 ≤ word.refs
  pub ready : word.state ≡ states.Ready
  pub holds : Holds slots front word.key slot word.epoch

-- no slot had the key, and each was found held
pub record AllFoundHeld (slots : ℕ) (front : List Noted) (key : ℕ) (found : List SlotWord) : Type 0 where
  pub gone : IsGone slots front key
  pub count : length found ≡ slots
  pub words : EachFrom (FoundHeld slots front) 0 found

-- what `put` adds: that the slot is idle, or nothing
abbrev pub Puts : SlotFacts → SlotFacts → ℕ → Type 0
Puts old new slot = Noticed old new [] ⊎ Noticed old new (events.Idle slot ∷ [])

-- a call took the key out of the slot that had it
pub record TakesOutOf (slots : ℕ) (old new : SlotFacts) (key slot : ℕ) : Type 0 where
  pub noticed : Noticed old new (events.Evict slot key ∷ [])
  pub has_key : key_of (slots_told slots noticed.front) slot ≡ Some key

-- what an eviction adds that empties: that the key was taken out of its slot; nothing where no slot
-- has it
pub record Evicts (slots : ℕ) (old new : SlotFacts) (key : ℕ) : Type 0 where
  pub made : Noticed old new [] ⊎ ((slot : ℕ) × TakesOutOf slots old new key slot)
  pub gone : IsGone slots new.seen key

-- what an eviction adds that is refused: that the key's slot was found with so many references
pub record RefusesEviction (slots : ℕ) (old new : SlotFacts) (key slot refs : ℕ) : Type 0 where
  pub noticed : Noticed old new (events.Busy slot key refs ∷ [])
  pub has_key : key_of (slots_told slots noticed.front) slot ≡ Some key
  pub referenced : 1 ≤ refs

-- what the one seat of a pass has seen
abbrev pub seen_of : List (Part Noted BaseData) → List Noted
seen_of [] = []
seen_of (part ∷ parts) = part.seen

-- one cell, which isn't held
abbrev pub OneAtRest : ℕ → List (Part Noted BaseData) → Type 0
OneAtRest caller [] = ⊥
OneAtRest caller (part ∷ []) = (part.holds ≡ false) × (part.caller ≡ caller)
OneAtRest caller (part ∷ other ∷ parts) = ⊥

-- what contracts see of a pass
abbrev pub facts_of : Pass Noted BaseData → Option HoldFacts → SlotFacts
facts_of pass hold = record {
  caller = pass.caller;
  cell = map part_key pass.parts;
  seen = seen_of pass.parts;
  hold = hold;
}

-- the pass of turns has one cell, which it doesn't hold
abbrev pub HasOneAtRest : Pass Noted BaseData → Type 0
HasOneAtRest pass = OneAtRest pass.caller pass.parts

-- a pass without a hold
abbrev pub pass_of : Pass Noted BaseData → SlotFacts
pass_of pass = facts_of pass None

-- the pass of a caller that has seen nothing
abbrev pub new_pass : ProfileData → ℕ → SlotFacts
new_pass profile caller = record { caller = caller; cell = map cell_key profile.turns.cells; seen = []; hold = None }

-- each caller has a pass among these
abbrev pub AreAllHere : ProfileData → List SlotFacts → Type 0
AreAllHere profile passes =
    (caller : ℕ) → caller < profile.turns.callers → list_any (λ pass. pass.caller == caller) passes ≡ true

-- what a closed story is: its events are a lawful journal; each pass's seen front begins it and has all
-- entries of its caller; and nobody else made one
pub record IsClosedStory (profile : ProfileData) (passes : List SlotFacts) (story : List Noted) : Type 0 where
  pub lawful : IsLawful (slots_in profile) (events_of story)
  pub fronts : Each (λ pass. IsFront author_of pass.caller pass.seen story) passes
  pub strangers : (caller : ℕ) → profile.turns.callers ≤ caller → own author_of caller story ≡ []

-- what the parts of a profile keep: the quotas by caller are those of its one cell
pub record IsProfile (turns : TurnsData BaseData) (kept : List ℕ) : Type 0 where
  pub one : length turns.cells ≡ 1
  pub quotas : (base_of turns.cells).quotas ≡ kept
  pub callers : turns.callers ≡ length kept
  pub small : sum kept < MAX_EVENTS
