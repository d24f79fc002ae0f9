-- The slots of a device that has many callers: beside the key of each slot and the list of idle
-- slots, how many references each slot has; and what the calls of that table do. No public contract
-- speaks of the table itself.
use Rattle.std.specs.Prelude.{◌≡◌, ℕ, ◌+◌, ◌-◌, ◌<◌, ◌≤◌, ◌==◌, Bool, true, false, List, [], ◌∷◌, Some, slice_set, slice_index_or, length, map, find, take_while, replicate, IsSome, not, if◌then◌else◌, ⊤}
use Rattle.std.specs.List.{AllByRecursion, list_any}
use Rattle.bc_profile.specs.SlotJournal.{Slots, opening, InNoSlot, MayProgram, after_event, key_of, is_listed}
use Rattle.bc_profile.specs.declared.event.Event.TheVariants as events
use Rattle.bc_profile.specs.declared.limits.TheConstants.{MAX_SLOTS}
use Rattle.bc_profile.specs.declared.skips.Skip.{Skip}
use Rattle.bc_profile.specs.declared.table.Took.{Took}
use Rattle.bc_profile.specs.declared.table.Took.TheVariants as took
use Rattle.bc_profile.specs.declared.table.Emptied.{Emptied}
use Rattle.bc_profile.specs.declared.table.Emptied.TheVariants as emptied

-- the slots, and how many references each of them has
pub record TableData : Type 0 where
  pub slots : Slots
  pub refs : List ℕ

-- no slot has a key, and none is held
abbrev pub new_table : ℕ → TableData
new_table count = record { slots = opening count; refs = replicate count 0 }

-- how many references a slot has
abbrev pub refs_of : List ℕ → ℕ → ℕ
refs_of refs slot = slice_index_or refs slot 0

-- a slot is held while it has references
abbrev pub is_held : List ℕ → ℕ → Bool
is_held refs slot = not (refs_of refs slot == 0)

-- one reference more, as far as they can be counted
abbrev pub one_more : ℕ → ℕ
one_more refs = if refs == 65535 then refs else refs + 1

-- a slot was passed over: it was found with these references, at least one
pub record WasFound (refs : List ℕ) (skip : Skip) : Type 0 where
  pub referenced : 1 ≤ skip.refs
  pub counted : skip.refs ≡ refs_of refs skip.slot

-- the first slot of a list that isn't held, and those before it, as they were found
pub record IsFirstFree (refs list : List ℕ) (slot : ℕ) (skipped : List Skip) : Type 0 where
  pub free : find (λ other. not (is_held refs other)) list ≡ Some slot
  pub those_before : map (λ skip. skip.slot) skipped ≡ take_while (is_held refs) list
  pub found : AllByRecursion (WasFound refs) skipped

-- each slot is held
abbrev pub AllHeld : TableData → Type 0
AllHeld table = (slot : ℕ) → slot < length table.slots.keys → 1 ≤ refs_of table.refs slot

-- the references of one slot are now so many
abbrev pub with_refs : TableData → ℕ → ℕ → TableData
with_refs table slot refs = record table { refs = slice_set table.refs slot refs }

-- a hold was taken: of the slot that has the key, or of the first slot of the idle order that isn't
-- held
abbrev pub TakesSlot : TableData → TableData → ℕ → Took → Type 0
TakesSlot old new key (took.Found slot) =
    (key_of old.slots slot ≡ Some key) × (new ≡ with_refs old slot (one_more (refs_of old.refs slot)))
TakesSlot old new key (took.Programmed slot skipped) =
    MayProgram old.slots slot key skipped × AllByRecursion (WasFound old.refs) skipped × (refs_of old.refs slot ≡ 0)
    × (new ≡ record {
      slots = after_event old.slots (events.Program slot key skipped);
      refs = slice_set old.refs slot 1;
    })
TakesSlot old new key took.None = InNoSlot old.slots key × AllHeld old × (new ≡ old)

-- a hold was given back: where it was the last one, the slot is idle
abbrev pub GivesBack : TableData → TableData → ℕ → Bool → Type 0
GivesBack old new slot true =
    (refs_of old.refs slot - 1 ≡ 0)
    × (new ≡ record { slots = after_event old.slots (events.Idle slot); refs = slice_set old.refs slot 0 })
GivesBack old new slot false =
    (1 < refs_of old.refs slot) × (new ≡ with_refs old slot (refs_of old.refs slot - 1))

-- a key was taken out of its slot, unless that one is held
abbrev pub TableEmpties : TableData → TableData → ℕ → Emptied → Type 0
TableEmpties old new key emptied.Nowhere = InNoSlot old.slots key × (new ≡ old)
TableEmpties old new key (emptied.Held slot refs) =
    (key_of old.slots slot ≡ Some key) × (1 ≤ refs) × (refs ≡ refs_of old.refs slot) × (new ≡ old)
TableEmpties old new key (emptied.Taken slot) =
    (key_of old.slots slot ≡ Some key) × (refs_of old.refs slot ≡ 0)
    × (new ≡ record old { slots = after_event old.slots (events.Evict slot key) })

-- no number stands twice
abbrev pub Distinct : List ℕ → Type 0
Distinct [] = ⊤
Distinct (number ∷ others) = (list_any (λ other. other == number) others ≡ false) × Distinct others

-- what the table keeps: a slot that isn't on the list is held, and a slot that is held has a key
pub record IsTable (slots : Slots) (refs : List ℕ) : Type 0 where
  pub few : length slots.keys ≤ MAX_SLOTS
  pub as_many : length refs ≡ length slots.keys
  pub are_slots : AllByRecursion (λ slot. slot < length slots.keys) slots.list
  pub distinct : Distinct slots.list
  pub others_held : (slot : ℕ) → slot < length slots.keys → is_listed slots slot ≡ false → is_held refs slot ≡ true
  pub held_keyed : (slot : ℕ) → is_held refs slot ≡ true → IsSome (key_of slots slot)
