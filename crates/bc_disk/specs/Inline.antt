-- Private: the way of pieces that go inline by the devices of a disk.
use Rattle.std.specs.Prelude.{ℕ, ◌*◌, ◌≤◌, List, sum_by}
use Rattle.bc_bio.specs.Windows.{NamedUnit}
use Rattle.bc_turn.specs.PassParts.{Pass}
use Rattle.bc_medium.specs.declared.entry.Entry.{Entry}
use Rattle.bc_medium.specs.Medium.{OpeningData, shards_of}
use Rattle.bc_profile.specs.Passes.{SlotFacts}
use Rattle.bc_queue.specs.Queues.{HasEvents, spare_of}
use Rattle.bc_pieces.specs.ManyCallers.{QueueDevicesData}
use Rattle.bc_pieces.specs.Pieces.{named_on, pieces_on}

-- the pass has room for these pieces: an entry for each unit on its shard, and two events for each piece on its device;
-- of a device without pieces nothing is asked
pub record HasRoomOn {S : Type 0} (devices : QueueDevicesData S) (slots : List SlotFacts)
    (units : Pass Entry (OpeningData S)) (pieces : List (List NamedUnit)) : Type 0 where
  pub entries : (shard : ℕ) → sum_by (named_on (shards_of devices.queue.medium) shard) pieces
      ≤ spare_of devices.queue.medium units shard
  pub events : (device : ℕ) → 1 ≤ pieces_on devices.targets device pieces
      → HasEvents devices.queue slots device (2 * pieces_on devices.targets device pieces)
