-- What contracts see of the queue of a disk and of its callers' passes: a controller for each device over one medium,
-- and of each caller a pass of each controller's keyslots and one of the medium. And what a dispatch does.
use Rattle.std.specs.Prelude.{◌≡◌, ◌≢◌, ℕ, ◌+◌, ◌-◌, ◌<◌, ◌≤◌, true, List, map, Option, Some, None, IsSomeAnd}
use Rattle.std.specs.Prelude.{option_and_then, slice_get, slice_set}
use Rattle.std.specs.Option.{option_map_or}
use Rattle.std.specs.List.{AllZip}
use Rattle.bc_base.specs.Lists.{Each, EachFrom, At, AllAt, ChangesAt}
use Rattle.bc_base.specs.Sectors.{Sectors}
use Rattle.bc_key.specs.KeyData.{KeyData}
use Rattle.bc_key.specs.KeyList.{key_at}
use Rattle.bc_modes.specs.Capabilities.{Capabilities, is_supported}
use Rattle.bc_bio.specs.declared.context.Context.{Context}
use Rattle.bc_bio.specs.declared.marked_bio.MarkedBio.{MarkedBio}
use Rattle.bc_bio.specs.Extent.{unit_sectors}
use Rattle.bc_bio.specs.Windows.{count_units}
use Rattle.bc_bio.specs.Requests.{RequestParts, tagged_bios}
use Rattle.bc_turn.specs.PassParts.{Pass}
use Rattle.bc_medium.specs.declared.entry.Entry.{Entry}
use Rattle.bc_medium.specs.declared.via.Via.{Via}
use Rattle.bc_medium.specs.declared.via.Via.TheVariants as ways
use Rattle.bc_medium.specs.Medium.{MediumData, OpeningData, shards_of, seen_by, own_at, quota_of, Belongs, OwnsSectors}
use Rattle.bc_profile.specs.Story.{Holds}
use Rattle.bc_profile.specs.Passes.{SlotFacts, HoldFacts, ProfileData, slots_in, IsOf, HasSpare, Gets, Puts}
use Rattle.bc_ufs.specs.Controllers.{ControllerData, row_for, Serves, via_by_device}
use Rattle.bc_queue.specs.RequestUnits.{named_at, planned_part, count_units_on}
use Rattle.bc_queue.specs.Carrying.{AccessFacts, CarriesOut, ArePerformable}

-- a queue: its controllers by device, and its medium
pub record QueueData (S : Type 0) : Type 0 where
  pub controllers : List ControllerData
  pub medium : MediumData S

-- the controller has this device, and its register row of each key is the key's entry where it supports the key, else
-- zeros
pub record IsController (keys : List KeyData) (device : ℕ) (controller : ControllerData) : Type 0 where
  pub device_is : controller.device ≡ device
  pub rows : controller.profile.rows ≡ map (row_for controller.caps) keys

-- each controller is the one of the device at its place
abbrev pub AreControllers : List KeyData → List ControllerData → Type 0
AreControllers keys controllers = EachFrom (IsController keys) 0 controllers

module _ {S : Type 0} where
  -- the parts of a pass are those of this queue: one of the medium with the caller's number, and of each controller's
  -- keyslots one at the controller's place
  pub record IsPass (queue : QueueData S) (caller : ℕ) (slots : List SlotFacts) (units : Pass Entry (OpeningData S))
      : Type 0 where
    pub belongs : Belongs queue.medium units
    pub number : units.caller ≡ caller
    pub each : AllZip (λ controller pass. IsOf controller.profile pass) queue.controllers slots

  -- which sectors a shard had at opening, where its store tells them
  abbrev pub opening_of : (S → Option Sectors) → MediumData S → ℕ → Option Sectors
  opening_of contents m shard = option_and_then (λ cell. contents cell.base.store) (slice_get m.turns.cells shard)

  -- how many entries more the caller may have at a shard
  abbrev pub spare_of : MediumData S → Pass Entry (OpeningData S) → ℕ → ℕ
  spare_of m pass shard =
      option_map_or (λ cell. quota_of cell.base.quotas pass.caller - own_at pass shard)
      (slice_get m.turns.cells shard) 0

  -- a caller's way to the data units of a medium
  abbrev pub facts_by :
      (S → Option Sectors) → MediumData S → Via → Pass Entry (OpeningData S) → AccessFacts
  facts_by contents m via pass = record {
    keys = m.keys.keys;
    shards = shards_of m;
    opening = opening_of contents m;
    via = via;
    caller = pass.caller;
    seen = seen_by pass;
    spare = spare_of m pass;
  }

  -- the medium takes a unit without a context at this sector
  abbrev pub TakesPlain : (S → ℕ → Rattle.std.specs.Prelude.Bool) → MediumData S → ℕ → Option Context → Type 0
  TakesPlain owns m sector context = (context ≡ None) × OwnsSectors owns m sector 1

  -- the sectors of a unit belong to its shard's store, and the device supports the key that it has
  pub record TakesInline (owns : S → ℕ → Rattle.std.specs.Prelude.Bool) (m : MediumData S) (caps : Capabilities)
      (sector : ℕ) (context : Option Context) : Type 0 where
    pub sectors : OwnsSectors owns m sector (unit_sectors m.keys.keys context)
    pub supported : IsSomeAnd context (λ c. IsSomeAnd (key_at m.keys.keys c.key)
        (λ key. is_supported caps key.config ≡ true))

-- the pass of a device's keyslots may make so many events more
abbrev pub HasEvents : {S : Type 0} → QueueData S → List SlotFacts → ℕ → ℕ → Type 0
HasEvents queue slots device events =
    AllAt queue.controllers device (λ controller. AllAt slots device (λ pass. HasSpare controller.profile pass events))

-- so many units of a request from this number on have their bytes, lie in sectors of their shards' stores, and have a
-- key that the device supports
abbrev pub CanGo : {S : Type 0} → (S → ℕ → Rattle.std.specs.Prelude.Bool) → QueueData S → ℕ → List MarkedBio → ℕ → ℕ
    → Type 0
CanGo owns queue device bios first count =
    AllAt queue.controllers device (λ controller. ArePerformable queue.medium.keys.keys
    (TakesInline owns queue.medium controller.caps) bios first count)

-- the same of all units of a request whose bios have no context
abbrev pub CanGoPlain : {S : Type 0} → (S → ℕ → Rattle.std.specs.Prelude.Bool) → QueueData S → List MarkedBio → Type 0
CanGoPlain owns queue bios =
    ArePerformable queue.medium.keys.keys (TakesPlain owns queue.medium) bios 0 (count_units (tagged_bios bios))

-- the pass has a spare of an entry for each of so many units of a request from this number on, on the unit's shard
abbrev pub HasSpareOfUnits : {S : Type 0} → QueueData S → Pass Entry (OpeningData S) → List MarkedBio → ℕ → ℕ → Type 0
HasSpareOfUnits queue units bios first count =
    (shard : ℕ) → count_units_on (shards_of queue.medium) shard (planned_part queue.medium.keys.keys bios first count)
    ≤ spare_of queue.medium units shard

-- Private: the pass of this device's keyslots has the hold.
pub record IsHolding {S : Type 0} (queue : QueueData S) (slots : List SlotFacts) (device : ℕ) (hold : HoldFacts)
    : Type 0 where
  pub controller : ControllerData
  pub controller_at : At queue.controllers device controller
  pub pass : SlotFacts
  pub pass_at : At slots device pass
  pub is_of : IsOf controller.profile pass
  pub held : pass.hold ≡ Some hold
  pub spare : HasSpare controller.profile pass 1

-- Private: the pass of this device's keyslots took a hold of the key.
pub record HasGot {S : Type 0} (queue : QueueData S) (old new : List SlotFacts) (device key : ℕ) (hold : HoldFacts)
    : Type 0 where
  pub holding : IsHolding queue new device hold
  pub before : SlotFacts
  pub before_at : At old device before
  pub sets : new ≡ slice_set old device holding.pass
  pub key_is : hold.key ≡ key
  pub gets : Gets (slots_in holding.controller.profile) before holding.pass key hold.slot
  pub holds : Holds (slots_in holding.controller.profile) holding.pass.seen key hold.slot hold.epoch

-- Private: it gave the hold back.
pub record HasPut {S : Type 0} (queue : QueueData S) (old new : List SlotFacts) (device : ℕ) (hold : HoldFacts)
    : Type 0 where
  pub during : SlotFacts
  pub during_at : At old device during
  pub after : SlotFacts
  pub sets : new ≡ slice_set old device after
  pub is_of : AllAt queue.controllers device (λ controller. IsOf controller.profile after)
  pub free : after.hold ≡ None
  pub puts : Puts during after hold.slot

-- Private: these units are under this key.
abbrev pub AreUnderKey : List KeyData → List MarkedBio → ℕ → ℕ → ℕ → Type 0
AreUnderKey keys bios first count key =
    (n : ℕ) → first ≤ n → n < first + count → IsSomeAnd (named_at keys bios n).context (λ c. c.key.0 ≡ key)

-- Private: a way through a controller: the hold that it goes under, and the passes of the keyslots with it.
pub record InlineData (S : Type 0) : Type 0 where
  pub controller : ControllerData
  pub hold : HoldFacts
  pub medium : MediumData S
  pub slots : List SlotFacts

-- Private: the passes of the keyslots are still those, and that of the controller's device has the hold.
pub record PassHasHold {S : Type 0} (way : InlineData S) (slots : List SlotFacts) : Type 0 where
  pub same : slots ≡ way.slots
  pub pass : SlotFacts
  pub pass_at : At slots way.controller.device pass
  pub is_of : IsOf way.controller.profile pass
  pub held : pass.hold ≡ Some way.hold

-- Private: the way takes a unit at this sector under this context.
pub record TakesUnder {S : Type 0} (owns : S → ℕ → Rattle.std.specs.Prelude.Bool) (way : InlineData S) (sector : ℕ)
    (context : Option Context) : Type 0 where
  pub sectors : OwnsSectors owns way.medium sector (unit_sectors way.medium.keys.keys context)
  pub serves : Serves way.controller way.medium.keys.keys context way.hold

-- one hold of a key, taken and given back: what the pass then knows of it, and the events that were added, which are at
-- most the programming of the slot with the key and that it is idle
pub record HoldsOnce (profile : ProfileData) (old new : SlotFacts) (key slot epoch : ℕ) : Type 0 where
  pub during : SlotFacts
  pub gets : Gets (slots_in profile) old during key slot
  pub holds : Holds (slots_in profile) during.seen key slot epoch
  pub puts : Puts during new slot

-- the entry's unit is under this key
abbrev pub IsUnderKey : ℕ → Entry → Type 0
IsUnderKey key e = IsSomeAnd e.at.context (λ c. c.key.0 ≡ key)

-- So many units of a request, from this number on, were dispatched to a device: under one hold of their key they were
-- carried out, each by that device, the hold's slot and the event that programmed it; and no other device's keyslots
-- changed.
pub record Dispatches {S : Type 0} (contents : S → Option Sectors) (queue : QueueData S)
    (old_slots new_slots : List SlotFacts) (old_units new_units : Pass Entry (OpeningData S))
    (before after : RequestParts) (device first count : ℕ) : Type 0 where
  pub under : Context
  pub first_context : (named_at queue.medium.keys.keys before.bios first).context ≡ Some under
  pub slot : ℕ
  pub epoch : ℕ
  pub one_hold : AllAt queue.controllers device (λ controller. ChangesAt old_slots new_slots device
      (λ old new. HoldsOnce controller.profile old new under.key.0 slot epoch))
  pub carries : CarriesOut (facts_by contents queue.medium (ways.Inline device slot epoch) old_units)
      (facts_by contents queue.medium (ways.Inline device slot epoch) new_units) before after first count
  pub keyed : Each (IsUnderKey under.key.0) carries.made
