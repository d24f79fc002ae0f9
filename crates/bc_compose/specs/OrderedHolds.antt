-- What calls tell of a thread's holds and evictions, and what the thread carries of them while it
-- works on its section, so that the point on programmings follows: over its own entries and events,
-- and the journals as far as it has seen them.
use Rattle.std.specs.Prelude.{◌≡◌, ℕ, ◌<◌, ◌≤◌, List, [], ◌∷◌, ◌++◌, length, filter_map, slice_get, IsTrue, ⊤}
use Rattle.std.specs.List.{AllByRecursion}
use Rattle.std.specs.Option.{option_map_or}
use Rattle.bc_base.specs.Lists.{Each, list_at}
use Rattle.bc_base.specs.Story.{StartsWith}
use Rattle.bc_medium.specs.declared.entry.Entry.{Entry}
use Rattle.bc_profile.specs.declared.event.Event.{Event}
use Rattle.bc_profile.specs.declared.noted.Noted.{Noted}
use Rattle.bc_profile.specs.Story.{Holds, IsGone}
use Rattle.bc_script.specs.Script.{Script}
use Rattle.bc_script.specs.Bios.{is_inline}
use Rattle.bc_report.specs.Evictions.{Eviction}
use Rattle.bc_report.specs.Programmings.{InlineEntry, passes, InOrder}
use Rattle.bc_compose.specs.SectionDone.{key_of_entry, inline_of, NamesOwn, own_events}

-- R of each two elements, the earlier one first
abbrev pub Pairs : {X : Type 0} → (X → X → Type 0) → List X → Type 0
Pairs R [] = ⊤
Pairs R (x ∷ xs) = AllByRecursion (R x) xs × Pairs R xs

-- any call: the journals go on, and of this caller by just these events on each device
pub record Notes (caller : ℕ) (old new : List (List Noted)) (events : ℕ → List Event) : Type 0 where
  pub fronts : (device : ℕ) → StartsWith (list_at new device) (list_at old device)
  pub adds : (device : ℕ) → own_events caller new device ≡ own_events caller old device ++ events device

-- how many slots a device has
abbrev pub slot_count_of : Script → ℕ → ℕ
slot_count_of script device = option_map_or (λ target. target.slots) (slice_get script.targets device) 0

-- the key with this number goes inline
abbrev pub GoesInline : Script → ℕ → Type 0
GoesInline script key = IsTrue (is_inline script (record { 0 = key }))

-- under one key on one device the later entry names no earlier event
abbrev pub Rises : InlineEntry → InlineEntry → Type 0
Rises first second = first.key ≡ second.key → first.device ≡ second.device → first.event ≤ second.event

-- the hold of an inline entry: the journal as the hold was taken stands between those before and
-- after the call, and the last programming of the key there is the entry's
pub record HasHold (script : Script) (before after : List (List Noted)) (i : InlineEntry) : Type 0 where
  pub is_inline : GoesInline script i.key
  pub front : List Noted
  pub slot : ℕ
  pub begins : StartsWith front (list_at before i.device)
  pub seen : StartsWith (list_at after i.device) front
  pub holds : Holds (slot_count_of script i.device) front i.key slot i.event

-- the key is in no slot of the device, in its journal as it stood between those before and after
-- the call
pub record IsTakenOut (script : Script) (before after : List (List Noted)) (device key : ℕ) : Type 0 where
  pub front : List Noted
  pub begins : StartsWith front (list_at before device)
  pub seen : StartsWith (list_at after device) front
  pub gone : IsGone (slot_count_of script device) front key

-- what a submission tells of its holds; it is kept by submissions one after the other
pub record Held (script : Script) (before after : List (List Noted)) (es : List Entry) : Type 0 where
  pub own_key : Each (λ e. NamesOwn after (key_of_entry e) e.via) es
  pub holds : Each (HasHold script before after) (filter_map inline_of es)
  pub rises : Pairs Rises (filter_map inline_of es)

-- an eviction left its key in no slot of a device that it passed, after all events that earlier
-- entries name
pub record Passed (script : Script) (noted : List (List Noted)) (made : List Entry) (v : Eviction) (device : ℕ)
    : Type 0 where
  pub front : List Noted
  pub seen : StartsWith (list_at noted device) front
  pub gone : IsGone (slot_count_of script device) front v.key
  pub behind : Each (λ i. i.op < v.op → i.key ≡ v.key → i.device ≡ device → i.event < length front)
      (filter_map inline_of made)

-- each inline device that the eviction passed was left so
abbrev pub IsPassed : Script → List (List Noted) → List Entry → Eviction → Type 0
IsPassed script noted made v =
    (device : ℕ) → IsTrue (passes device v.answer) → GoesInline script v.key → Passed script noted made v device

-- a thread's entries and evictions, in order; all have numbers below `next`, that of the operation
-- that comes next
pub record Ordered (script : Script) (thread next : ℕ) (made : List Entry) (evictions : List Eviction)
    (noted : List (List Noted)) : Type 0 where
  pub pairs : Pairs (InOrder evictions thread) (filter_map inline_of made)
  pub own_key : Each (λ e. NamesOwn noted (key_of_entry e) e.via) made
  pub entries_before : Each (λ i. i.op < next) (filter_map inline_of made)
  pub evictions_before : Each (λ v. v.op < next) evictions
  pub passed : Each (IsPassed script noted made) evictions
