-- A thread's device where many threads share a disk: the disk, and the thread's pass of it.
use Rattle.std.specs.Prelude.{◌≡◌, ℕ, ◌<◌, ◌≤◌, false, List, [], length, Option, IsSome}
use Rattle.std.specs.Option.{unwrap_or}
use Rattle.bc_base.specs.Lists.{Each, list_at}
use Rattle.bc_base.specs.Sectors.{Sectors}
use Rattle.bc_base.specs.Story.{own}
use Rattle.bc_bio.specs.declared.bio.Bio.{Bio}
use Rattle.bc_bio.specs.declared.reply.Reply.{Reply}
use Rattle.bc_medium.specs.Entries.{caller_of}
use Rattle.bc_medium.specs.Medium.{shards_of}
use Rattle.bc_profile.specs.Story.{author_of}
use Rattle.bc_queue.specs.Plugs.{PlugParts, no_bios}
use Rattle.bc_queue.specs.Queues.{opening_of}
use Rattle.bc_script.specs.declared.op.Op.{Op}
use Rattle.bc_script.specs.declared.limits.TheConstants.{MAX_PLUGGED}
use Rattle.bc_script.specs.Script.{Script, IsScript, keys_of}
use Rattle.bc_compose.specs.OrderedHolds.{Pairs, slot_count_of}
use Rattle.bc_section.specs.Sections.{DeviceData}
use Rattle.bc_disk.specs.Disks.{DiskData, IsPassOf, PassData, events_left, facts_on, keys_in}
use Rattle.bc_threads.specs.Demand.{entries_asked, events_asked}
use Rattle.bc_threads.specs.PreparedBios.{IsPrepared}

module _ {S : Type 0} (contents : S → Option Sectors) where
  -- the sectors of each shard at the opening
  abbrev pub base_on : DiskData S → ℕ → Sectors
  base_on disk shard = unwrap_or (opening_of contents disk.queue.medium shard) (λ sector. [])

  -- what contracts of the loop over a section's operations see
  abbrev pub device_on : Script → ℕ → DiskData S → PassData S → DeviceData
  device_on script thread disk pass = record {
    script = script;
    shards = shards_of disk.queue.medium;
    base = base_on disk;
    thread = thread;
    seen = (facts_on contents disk pass).access.seen;
    noted = (facts_on contents disk pass).noted;
    begun = [];
    alone = false;
    spare = 0;
  }

  -- the disk was opened for a script: with its keys, devices, fallback and blocks, over stores that
  -- tell their sectors
  pub record IsOpenFor (script : Script) (disk : DiskData S) : Type 0 where
    pub rules : IsScript script
    pub keys : keys_in disk ≡ keys_of script
    pub targets : disk.targets ≡ script.targets
    pub fallback : disk.fallback ≡ script.fallback
    pub blocks : disk.blocks ≡ script.blocks
    pub some_shards : 1 ≤ shards_of disk.queue.medium
    pub tells : (shard : ℕ) → shard < shards_of disk.queue.medium
        → IsSome (opening_of contents disk.queue.medium shard)
    pub slots : (pass : PassData S) (device : ℕ) → device < length script.targets
        → (facts_on contents disk pass).slots device ≡ slot_count_of script device

  -- the pass has room for what these operations ask
  pub record HasRoomFor (script : Script) (disk : DiskData S) (pass : PassData S) (operations : List (ℕ × Op))
      : Type 0 where
    pub entries : (shard : ℕ) → shard < shards_of disk.queue.medium
        → entries_asked script (shards_of disk.queue.medium) operations shard
        ≤ (facts_on contents disk pass).access.spare shard
    pub events : (device : ℕ) → device < length script.targets
        → events_asked script operations device ≤ events_left disk pass device

  -- The thread can carry out these operations on the disk: their bios are prepared, its pass has
  -- room for them, its plug and its list of replies are empty.
  pub record CanCarryOut (script : Script) (thread : ℕ) (disk : DiskData S) (pass : PassData S)
      (bios : List (Option Bio)) (plug : PlugParts) (replies : List Reply) (room : ℕ) (operations : List (ℕ × Op))
      : Type 0 where
    pub opened : IsOpenFor script disk
    pub pass_of : IsPassOf disk pass
    pub thread_is : pass.caller ≡ thread
    pub plug_is_empty : plug ≡ no_bios
    pub no_replies : replies ≡ []
    pub room_for_replies : MAX_PLUGGED ≤ room
    pub ascend : Pairs (λ first second. first.0 < second.0) operations
    pub prepared : Each (IsPrepared script bios) operations
    pub room_for : HasRoomFor script disk pass operations

  -- the thread has made nothing yet
  pub record IsNew (disk : DiskData S) (thread : ℕ) (pass : PassData S) : Type 0 where
    pub no_entries : (shard : ℕ) → own caller_of thread (list_at (facts_on contents disk pass).access.seen shard) ≡ []
    pub no_events : (device : ℕ) → own author_of thread (list_at (facts_on contents disk pass).noted device) ≡ []
