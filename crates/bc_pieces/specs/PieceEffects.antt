-- What the pieces of a request tell together: the caller's new entries, its own events on each device, and the holds.
use Rattle.std.specs.Prelude.{◌≡◌, ℕ, ◌+◌, ◌≤◌, true, List, [], ◌∷◌, flat_map, sum_by, Some, ⊤}
use Rattle.std.specs.List.{AllZip}
use Rattle.bc_base.specs.Lists.{Each, list_at}
use Rattle.bc_base.specs.Story.{StartsWith}
use Rattle.bc_bio.specs.Windows.{NamedUnit}
use Rattle.bc_medium.specs.declared.entry.Entry.{Entry}
use Rattle.bc_medium.specs.declared.via.Via.TheVariants as ways
use Rattle.bc_medium.specs.Growth.{Grows}
use Rattle.bc_profile.specs.declared.event.Event.{Event}
use Rattle.bc_profile.specs.declared.noted.Noted.{Noted}
use Rattle.bc_profile.specs.Story.{Holds}
use Rattle.bc_stack.specs.declared.target.Target.{Target}
use Rattle.bc_stack.specs.Devices.{device_at}
use Rattle.bc_queue.specs.Queues.{IsUnderKey}
use Rattle.bc_pieces.specs.Pieces.{AreOfOneHold, DeviceFacts, NotesOn, SameDisk, at_device, is_piece_on, is_piece_under}
use Rattle.bc_pieces.specs.Pieces.{named_on}

-- the hold of an entry, between two states of the journals: the entry names its device, slot and event, and is under
-- its key
pub record HasHoldBetween (slots : ℕ → ℕ) (old new : List (List Noted)) (e : Entry) : Type 0 where
  pub device : ℕ
  pub slot : ℕ
  pub epoch : ℕ
  pub key : ℕ
  pub way : e.via ≡ ways.Inline device slot epoch
  pub under : IsUnderKey key e
  pub front : List Noted
  pub begins : StartsWith front (list_at old device)
  pub seen : StartsWith (list_at new device) front
  pub holds : Holds (slots device) front key slot epoch

-- one hold: its device, key and slot, and what it added to the device's journal
pub record OneHold : Type 0 where
  pub device : ℕ
  pub key : ℕ
  pub slot : ℕ
  pub made : List Event
  pub is : AreOfOneHold key slot made

-- the hold is the one of this piece: on the piece's device, and of its key
pub record IsHoldOf (targets : List Target) (piece : List NamedUnit) (hold : OneHold) : Type 0 where
  pub on_device : is_piece_on targets hold.device piece ≡ true
  pub under : is_piece_under hold.key piece ≡ true

-- what holds, one after the other, added to the journal of a device
abbrev pub events_on : List OneHold → ℕ → List Event
events_on holds device = flat_map (λ hold. at_device hold.device hold.made device) holds

-- the entry went by the device of its sector
abbrev pub GoesByDevice : List Target → Entry → Type 0
GoesByDevice targets e =
    (device slot event : ℕ) × (e.via ≡ ways.Inline device slot event) × (device_at targets e.at.sector ≡ Some device)

-- under one key on one device the second entry names no earlier event than the first
abbrev pub NamesNoEarlier : Entry → Entry → Type 0
NamesNoEarlier first second =
    (device slot event other later key : ℕ) → first.via ≡ ways.Inline device slot event
    → second.via ≡ ways.Inline device other later → IsUnderKey key first → IsUnderKey key second → event ≤ later

-- of one key on one device no entry names an earlier event than one before it
abbrev pub Rise : List Entry → Type 0
Rise [] = ⊤
Rise (e ∷ es) = Each (NamesNoEarlier e) es × Rise es

-- The caller's entries go on by just these, each by the device of its sector; its events by those of one hold for each
-- piece, on the piece's device and of its key; and each entry has its hold. Of one key on one device no entry names an
-- earlier event than one before it. The caller may have as many entries more as before, but for one for each unit.
pub record AddsByDevice (old new : DeviceFacts) (pieces : List (List NamedUnit)) : Type 0 where
  pub same : SameDisk old new
  pub made : List Entry
  pub holds : List OneHold
  pub one_for_each : AllZip (IsHoldOf old.targets) pieces holds
  pub grows : Grows old.access.shards old.access.caller old.access.seen new.access.seen made
  pub ways : Each (GoesByDevice old.targets) made
  pub notes : (device : ℕ) → NotesOn old.access.caller (list_at old.noted device) (list_at new.noted device)
      (events_on holds device)
  pub held : Each (HasHoldBetween old.slots old.noted new.noted) made
  pub rises : Rise made
  pub spare : (shard : ℕ) → old.access.spare shard
      ≤ new.access.spare shard + sum_by (named_on old.access.shards shard) pieces
