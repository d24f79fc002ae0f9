-- The way of many callers to the devices of a disk: its queue, under the stack that lays its devices over the disk.
use Rattle.std.specs.Prelude.{◌≡◌, ℕ, ◌*◌, ◌≤◌, Bool, List, length, map, sum_by, Option, None, slice_get}
use Rattle.std.specs.Option.{option_map_or}
use Rattle.bc_base.specs.Lists.{AllAt, Each}
use Rattle.bc_base.specs.Sectors.{Sectors}
use Rattle.bc_bio.specs.declared.context.Context.{Context}
use Rattle.bc_bio.specs.Windows.{NamedUnit}
use Rattle.bc_turn.specs.PassParts.{Pass}
use Rattle.bc_medium.specs.declared.entry.Entry.{Entry}
use Rattle.bc_medium.specs.declared.via.Via.TheVariants as ways
use Rattle.bc_medium.specs.Medium.{OpeningData, shards_of}
use Rattle.bc_profile.specs.Passes.{SlotFacts, slots_in}
use Rattle.bc_stack.specs.declared.target.Target.{Target}
use Rattle.bc_queue.specs.Queues.{QueueData, HasEvents, IsPass, TakesInline, facts_by, spare_of}
use Rattle.bc_pieces.specs.Pieces.{DeviceFacts, named_on, pieces_on}

-- a queue, and the parts of the disk that its devices have
pub record QueueDevicesData (S : Type 0) : Type 0 where
  pub queue : QueueData S
  pub targets : List Target

-- this queue, with these parts
abbrev pub devices_of : {S : Type 0} → QueueData S → List Target → QueueDevicesData S
devices_of queue targets = record { queue = queue; targets = targets }

-- each of these devices has a controller
abbrev pub HaveControllers : {S : Type 0} → QueueData S → List Target → Type 0
HaveControllers queue targets = length targets ≤ length queue.controllers

module _ {S : Type 0} where
  -- what contracts see of this way: of each pass of keyslots, what it has seen
  abbrev pub facts_over :
      (S → Option Sectors) → QueueDevicesData S → List SlotFacts → Pass Entry (OpeningData S) → DeviceFacts
  facts_over contents devices slots units = record {
    access = facts_by contents devices.queue.medium ways.Plain units;
    targets = devices.targets;
    slots = λ device. option_map_or (λ controller. slots_in controller.profile)
        (slice_get devices.queue.controllers device) 0;
    noted = map (λ pass. pass.seen) slots;
  }

  -- the pass is one of the queue, and its passes of keyslots are free and of one caller with it
  pub record IsReady (queue : QueueData S) (caller : ℕ) (slots : List SlotFacts) (units : Pass Entry (OpeningData S))
      : Type 0 where
    pub pass : IsPass queue caller slots units
    pub free : Each (λ pass. pass.hold ≡ None) slots
    pub callers : Each (λ pass. pass.caller ≡ caller) slots

  -- the device's controller takes a unit at this sector under this context
  abbrev pub TakesOn : (S → ℕ → Bool) → QueueData S → ℕ → ℕ → Option Context → Type 0
  TakesOn owns queue device sector context =
      AllAt queue.controllers device (λ controller. TakesInline owns queue.medium controller.caps sector context)

  -- the pass has room for these pieces: an entry for each unit on its shard, and two events for each piece on its
  -- device
  pub record HasRoomFor (devices : QueueDevicesData S) (slots : List SlotFacts) (units : Pass Entry (OpeningData S))
      (pieces : List (List NamedUnit)) : Type 0 where
    pub entries : (shard : ℕ) → sum_by (named_on (shards_of devices.queue.medium) shard) pieces
        ≤ spare_of devices.queue.medium units shard
    pub events : (device : ℕ) → HasEvents devices.queue slots device (2 * pieces_on devices.targets device pieces)
