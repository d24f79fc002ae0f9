-- What a disk leaves when it is closed.
use Rattle.std.specs.Prelude.{◌≡◌, ℕ, ◌+◌, ◌<◌, ◌==◌, Bool, true, List, [], ◌∷◌, length, map, reverse, Option}
use Rattle.std.specs.Prelude.{filter_map, slice_get}
use Rattle.std.specs.List.{list_any}
use Rattle.bc_base.specs.Lists.{AllAt, Each, EachFrom}
use Rattle.bc_base.specs.Sectors.{Sectors}
use Rattle.bc_base.specs.Stores.{StoreCalls}
use Rattle.bc_medium.specs.declared.entry.Entry.{Entry}
use Rattle.bc_turn.specs.PassParts.{Pass, is_caller}
use Rattle.bc_turn.specs.Turning.{sum_of}
use Rattle.bc_medium.specs.Medium.{Belongs, EachTwoFrom, IsEnd, MediumData, OpeningData}
use Rattle.bc_profile.specs.declared.event.Event.{Event}
use Rattle.bc_profile.specs.declared.noted.Noted.{Noted}
use Rattle.bc_profile.specs.Story.{events_of}
use Rattle.bc_profile.specs.Passes.{AreAllHere, IsClosedStory as IsEndOfSlots, IsFree, ProfileData, SlotFacts}
use Rattle.bc_ufs.specs.Controllers.{ControllerData}
use Rattle.bc_disk.specs.Disks.{DiskData, IsPassOf, PassData}

-- a disk that is being closed, with the passes of its callers
pub record ClosingData (S : Type 0) : Type 0 where
  pub disk : DiskData S
  pub passes : List (PassData S)

module _ {S : Type 0} where
  -- each caller of a disk has a pass among these
  abbrev pub HaveAllCallers : DiskData S → List (PassData S) → Type 0
  HaveAllCallers disk passes =
      (caller : ℕ) → caller < disk.queue.medium.turns.callers → list_any (λ pass. pass.caller == caller) passes ≡ true

  -- the passes of all callers of a disk are here
  pub record AreAllPasses (disk : DiskData S) (passes : List (PassData S)) : Type 0 where
    pub are_of : Each (IsPassOf disk) passes
    pub all : HaveAllCallers disk passes

  -- the passes of a device's keyslots among these
  abbrev pub passes_on : List (PassData S) → ℕ → List SlotFacts
  passes_on passes device = filter_map (λ pass. slice_get pass.slots device) passes

  -- A disk was closed: each store is left as its shard's order leaves it, and each journal is that of a story; what
  -- each pass has seen is a prefix of these, with all that its caller made.
  pub record IsClosedDisk (owns : S → ℕ → Bool) (contents : S → Option Sectors) (told : S → Option StoreCalls)
      (faults : S → ℕ) (disk : DiskData S) (passes : List (PassData S)) (stores : List S) (orders : List (List Entry))
      (journals : List (List Event)) : Type 0 where
    pub count : length stores ≡ length disk.queue.medium.turns.cells
    pub ends : EachTwoFrom (IsEnd owns contents told faults disk.queue.medium (map (λ pass. pass.units) passes)) 0
        stores orders
    pub one_for_each : length journals ≡ length disk.queue.controllers
    pub stories : (device : ℕ) → AllAt disk.queue.controllers device (λ controller. AllAt journals device
        (λ journal. (story : List Noted) × (journal ≡ events_of story)
        × IsEndOfSlots controller.profile (passes_on passes device) story))

-- Private: the keyslots of a device that isn't closed, and the passes of them.
pub record OpenDeviceData : Type 0 where
  pub profile : ProfileData
  pub passes : List SlotFacts

-- Private: what is closed of a disk that was taken apart, and what isn't, the first device last.
pub record SplitData (S : Type 0) : Type 0 where
  pub devices : List OpenDeviceData
  pub medium : MediumData S
  pub units : List (Pass Entry (OpeningData S))
  pub journals : List (List Event)

-- Private: the keyslots of these controllers, place by place with the passes of them.
abbrev pub devices_with : List ControllerData → List (List SlotFacts) → List OpenDeviceData
devices_with [] rows = []
devices_with (controller ∷ controllers) [] = []
devices_with (controller ∷ controllers) (passes ∷ rows) =
    record { profile = controller.profile; passes = passes } ∷ devices_with controllers rows

-- Private: a device may be closed with these passes.
pub record MayClose (rest : OpenDeviceData) : Type 0 where
  pub free : Each (IsFree rest.profile) rest.passes
  pub here : AreAllHere rest.profile rest.passes

module _ {S : Type 0} where
  -- Private: these are the device's keyslots and the passes of them, which may be closed.
  pub record IsOpenDevice (disk : DiskData S) (passes : List (PassData S)) (device : ℕ) (rest : OpenDeviceData)
      : Type 0 where
    pub profile : AllAt disk.queue.controllers device (λ controller. rest.profile ≡ controller.profile)
    pub passes_are : rest.passes ≡ passes_on passes device
    pub may : MayClose rest

  -- Private: the journal is that of a story of the device.
  abbrev pub IsJournalOf : DiskData S → List (PassData S) → ℕ → List Event → Type 0
  IsJournalOf disk passes device journal = AllAt disk.queue.controllers device (λ controller.
      (story : List Noted) × (journal ≡ events_of story)
      × IsEndOfSlots controller.profile (passes_on passes device) story)

  -- Private: the parts are what is left of the disk and of the passes.
  pub record IsSplit (disk : DiskData S) (passes : List (PassData S)) (split : SplitData S) : Type 0 where
    pub medium : split.medium ≡ disk.queue.medium
    pub units : split.units ≡ map (λ pass. pass.units) passes
    pub belong : Each (Belongs disk.queue.medium) (map (λ pass. pass.units) passes)
    pub all : (caller : ℕ) → caller < disk.queue.medium.turns.callers
        → 0 < sum_of (is_caller caller) (map (λ pass. pass.units) passes)
    pub count : length split.journals + length split.devices ≡ length disk.queue.controllers
    pub journals : EachFrom (IsJournalOf disk passes) 0 split.journals
    pub devices : EachFrom (IsOpenDevice disk passes) (length split.journals) (reverse split.devices)
