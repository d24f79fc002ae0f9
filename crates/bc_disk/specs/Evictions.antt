-- What evictions and resets do to the devices of a disk. Neither adds an entry to a shard.
use Rattle.std.specs.Prelude.{◌≡◌, ◌≢◌, ◌⊎◌, ℕ, ◌+◌, ◌<◌, ◌≤◌, List, [], ◌∷◌, length, Option, Some, None, IfSome}
use Rattle.std.specs.Prelude.{MatchOption, ⊤, if◌then◌else◌}
use Rattle.bc_base.specs.Lists.{list_at}
use Rattle.bc_profile.specs.declared.event.Event.{Event}
use Rattle.bc_profile.specs.declared.event.Event.TheVariants as events
use Rattle.bc_profile.specs.declared.noted.Noted.{Noted}
use Rattle.bc_profile.specs.Story.{IsGone}
use Rattle.bc_pieces.specs.Pieces.{DeviceFacts, NotesOn, SameDisk, at_device}
use Rattle.bc_key.specs.declared.keys.KeyNo.{KeyNo}
use Rattle.bc_disk.specs.declared.eviction.Busy.{Busy}
use Rattle.bc_disk.specs.Disks.{DiskData, PassData, events_left, goes_inline, keys_in}

-- the caller's entries and room stay, and its events go on by just these on each device
pub record AddsEvents (old new : DeviceFacts) (made : ℕ → List Event) : Type 0 where
  pub same : SameDisk old new
  pub access : new.access ≡ old.access
  pub notes : (device : ℕ) → NotesOn old.access.caller (list_at old.noted device) (list_at new.noted device)
      (made device)

-- an eviction emptied the slot that had the key, if one had it: then none has it
pub record EmptiesSlot (slots : ℕ) (front : List Noted) (key : ℕ) (made : List Event) : Type 0 where
  pub events : (made ≡ []) ⊎ ((slot : ℕ) × (made ≡ events.Evict slot key ∷ []))
  pub gone : IsGone slots front key

-- it was refused: the key's slot was found with so many references
pub record IsRefusedBy (key slot refs : ℕ) (made : List Event) : Type 0 where
  pub event : made ≡ events.Busy slot key refs ∷ []
  pub referenced : 1 ≤ refs

-- the device comes before the one that refused first, if one did
abbrev pub IsBefore : ℕ → Option Busy → Type 0
IsBefore device None = ⊤
IsBefore device (Some busy) = device < busy.device

-- A key was asked out of each of the first so many devices, in ascending order; `refused` is the first refusal, if
-- there was one.
pub record AsksFirst (devices : ℕ) (old new : DeviceFacts) (key : ℕ) (refused : Option Busy) : Type 0 where
  pub made : ℕ → List Event
  pub adds : AddsEvents old new made
  pub each : (device : ℕ) → device < devices
      → EmptiesSlot (old.slots device) (list_at new.noted device) key (made device)
      ⊎ ((slot refs : ℕ) × IsRefusedBy key slot refs (made device))
  pub before : (device : ℕ) → device < devices → IsBefore device refused
      → EmptiesSlot (old.slots device) (list_at new.noted device) key (made device)
  pub first : IfSome refused (λ busy.
      (busy.device < devices) × IsRefusedBy key busy.slot busy.refs (made busy.device))
  pub others : (device : ℕ) → devices ≤ device → made device ≡ []

-- a key was asked out of each device
abbrev pub AsksEach : DeviceFacts → DeviceFacts → ℕ → Option Busy → Type 0
AsksEach old new key refused = AsksFirst (length old.targets) old new key refused

-- a device programmed its slots again
abbrev pub Resets : DeviceFacts → DeviceFacts → ℕ → Type 0
Resets old new device = AddsEvents old new (at_device device (events.Reset ∷ []))

-- how many events an eviction asks of each device: one of a key that goes inline, else none
abbrev pub asks : {S : Type 0} → DiskData S → KeyNo → ℕ
asks disk key = if goes_inline disk.targets (keys_in disk) key then 1 else 0

-- Private: the events of one device go on by just these, and the journals of the others stay.
pub record AddsAt (old new : DeviceFacts) (device : ℕ) (made : List Event) : Type 0 where
  pub adds : AddsEvents old new (at_device device made)
  pub others : (other : ℕ) → other ≢ device → list_at new.noted other ≡ list_at old.noted other

-- Private: a key was asked out of one device, which refused or didn't.
pub record AsksOne (old new : DeviceFacts) (device key : ℕ) (refused : Option Busy) : Type 0 where
  pub made : List Event
  pub adds : AddsAt old new device made
  pub answer : MatchOption refused (EmptiesSlot (old.slots device) (list_at new.noted device) key made)
      (λ busy. (busy.device ≡ device) × IsRefusedBy key busy.slot busy.refs made)

-- Private: the caller may still make an event on each device from this one on, and has made one at most on each so far.
pub record HasAskedFor {S : Type 0} (disk : DiskData S) (old new : PassData S) (devices : ℕ) : Type 0 where
  pub left : (device : ℕ) → devices ≤ device → events_left disk old device ≤ events_left disk new device
  pub spent : (device : ℕ) → events_left disk old device ≤ events_left disk new device + 1
