-- The journal of a device's keyslots: which events may come, and what they leave. The state is the
-- key of each slot and the list of idle slots, as in Linux's
-- Documentation/block/inline-encryption.rst: the least recently idle slot is the first to be
-- programmed with another key.
use Rattle.std.specs.Prelude.{◌≡◌, ◌≢◌, ℕ, ◌<◌, ◌≤◌, Bool, IsTrue, not, ◌==◌, List, [], ◌∷◌, ◌++◌, map, length, replicate, fold, take_while, filter, All, Option, Some, None, IsSome, slice_index_or, slice_set, ⊤}
use Rattle.std.specs.List.{range_with_len, list_any, list_all}
use Rattle.bc_profile.specs.declared.event.Event.{Event}
use Rattle.bc_profile.specs.declared.event.Event.TheVariants.{Program, Idle, Evict, Busy, Reset}
use Rattle.bc_profile.specs.declared.skips.Skip.{Skip}

-- the key of each slot, and the list of slots, the least recently idle first
pub record Slots : Type 0 where
  pub keys : List (Option ℕ)
  pub list : List ℕ

-- at the start no slot has a key, and the list has each slot
abbrev pub opening : ℕ → Slots
opening count = record { keys = replicate count None; list = range_with_len 0 count }

-- the list without a slot
abbrev pub without : ℕ → List ℕ → List ℕ
without slot list = filter (λ other. not (other == slot)) list

-- the slot is on the list
abbrev pub is_listed : Slots → ℕ → Bool
is_listed slots slot = list_any (λ other. other == slot) slots.list

-- the idle order: the list, and then the slots that aren't on it, by number
abbrev pub idle_order : Slots → List ℕ
idle_order slots = slots.list ++ filter (λ slot. not (is_listed slots slot)) (range_with_len 0 (length slots.keys))

-- the key that the slot has
abbrev pub key_of : Slots → ℕ → Option ℕ
key_of slots slot = slice_index_or slots.keys slot None

-- no slot has the key
abbrev pub InNoSlot : Slots → ℕ → Type 0
InNoSlot slots key = All (λ other. other ≢ Some key) slots.keys

-- the slot has a key and was found with references
pub record IsHeld (slots : Slots) (skip : Skip) : Type 0 where
  pub referenced : 1 ≤ skip.refs
  pub keyed : IsSome (key_of slots skip.slot)

-- when a slot may be programmed with a key: those before it in the idle order were passed over,
-- since they were held
pub record MayProgram (slots : Slots) (slot key : ℕ) (skipped : List Skip) : Type 0 where
  pub is_slot : slot < length slots.keys
  pub key_in_no_slot : InNoSlot slots key
  pub skips_those_before : map (λ skip. skip.slot) skipped ≡ take_while (λ other. not (other == slot))
      (idle_order slots)
  pub found_held : All (IsHeld slots) skipped

-- when an event may come
abbrev pub Allowed : Slots → Event → Type 0
Allowed slots (Program slot key skipped) = MayProgram slots slot key skipped
Allowed slots (Idle slot) = slot < length slots.keys
Allowed slots (Evict slot key) = key_of slots slot ≡ Some key
Allowed slots (Busy slot key refs) = (key_of slots slot ≡ Some key) × (1 ≤ refs)
Allowed slots Reset = ⊤

-- what an event leaves
abbrev pub after_event : Slots → Event → Slots
after_event slots (Program slot key skipped) =
    record { keys = slice_set slots.keys slot (Some key); list = without slot slots.list }
after_event slots (Idle slot) = record slots { list = without slot slots.list ++ slot ∷ [] }
after_event slots (Evict slot key) = record slots { keys = slice_set slots.keys slot None }
after_event slots (Busy slot key refs) = slots
after_event slots Reset = slots

-- what events leave, one after the other
abbrev pub after_events : Slots → List Event → Slots
after_events slots events = fold after_event slots events

-- P holds of each event and the slots as it found them
abbrev pub EachEvent : (Slots → Event → Type 0) → Slots → List Event → Type 0
EachEvent P slots [] = ⊤
EachEvent P slots (event ∷ events) = P slots event × EachEvent P (after_event slots event) events

-- the slots of a device that had `count` of them at the start, after a journal
abbrev pub slots_after : ℕ → List Event → Slots
slots_after count journal = after_events (opening count) journal

-- a lawful journal of so many slots: each event is allowed after those before it
abbrev pub IsLawful : ℕ → List Event → Type 0
IsLawful count journal = EachEvent Allowed (opening count) journal

-- at the end every slot stands on the list
abbrev pub AllIdle : ℕ → List Event → Type 0
AllIdle count journal = IsTrue (list_all (is_listed (slots_after count journal)) (range_with_len 0 count))
