-- What contracts see of a disk and of its callers' passes: the queue of its devices over its medium, which part of the
-- disk each device has, and whether software enciphers what they don't.
use Rattle.std.specs.Prelude.{◌≡◌, ℕ, ◌*◌, ◌-◌, ◌^◌, ◌<◌, Bool, false, true, ◌||◌, List, length, Option, Some, None}
use Rattle.std.specs.Prelude.{slice_get, if◌then◌else◌}
use Rattle.std.specs.Option.{option_map_or}
use Rattle.bc_base.specs.declared.geometry.TheConstants.{BLOCK_SECTORS}
use Rattle.bc_base.specs.Lists.{At, AllAt, Each}
use Rattle.bc_base.specs.Sectors.{Sectors}
use Rattle.bc_key.specs.declared.keys.KeyNo.{KeyNo}
use Rattle.bc_key.specs.KeyData.{KeyData}
use Rattle.bc_key.specs.KeyList.{key_at}
use Rattle.bc_modes.specs.Capabilities.{capabilities_of}
use Rattle.bc_modes.specs.UnitCipher.{CipherParts, parts_of}
use Rattle.bc_bio.specs.declared.context.Context.{Context}
use Rattle.bc_bio.specs.declared.extent.Extent.{Extent}
use Rattle.bc_bio.specs.declared.refusal.Refusal.{Refusal}
use Rattle.bc_bio.specs.declared.refusal.Refusal.TheVariants as refusals
use Rattle.bc_bio.specs.Check.{check_of}
use Rattle.bc_turn.specs.PassParts.{Pass}
use Rattle.bc_medium.specs.declared.entry.Entry.{Entry}
use Rattle.bc_medium.specs.Medium.{OpeningData, OwnsSectors}
use Rattle.bc_profile.specs.Passes.{SlotFacts, base_in, made_by, quota_of}
use Rattle.bc_stack.specs.declared.target.Target.{Target}
use Rattle.bc_stack.specs.Devices.{all_support}
use Rattle.bc_queue.specs.Queues.{AreControllers, QueueData}
use Rattle.bc_pieces.specs.Pieces.{DeviceFacts}
use Rattle.bc_pieces.specs.ManyCallers.{IsReady, devices_of, facts_over}

-- a disk: its queue, the part of each device, whether there is a fallback, and how many blocks it has
pub record DiskData (S : Type 0) : Type 0 where
  pub queue : QueueData S
  pub targets : List Target
  pub fallback : Bool
  pub blocks : ℕ

-- a caller's pass: its number, its pass of each device's keyslots, and its pass of the medium
pub record PassData (S : Type 0) : Type 0 where
  pub caller : ℕ
  pub slots : List SlotFacts
  pub units : Pass Entry (OpeningData S)

-- a key goes inline where there are devices, and all of them support its configuration
abbrev pub goes_inline : List Target → List KeyData → KeyNo → Bool
goes_inline targets keys number = option_map_or (λ key. all_support targets key.config) (key_at keys number) false

module _ {S : Type 0} where
  -- these parts, as a pass
  abbrev pub pass_by : ℕ → List SlotFacts → Pass Entry (OpeningData S) → PassData S
  pass_by caller slots units = record { caller = caller; slots = slots; units = units }

  -- the keys of a disk
  abbrev pub keys_in : DiskData S → List KeyData
  keys_in disk = disk.queue.medium.keys.keys

  -- a bio is supported that has no context, or whose key goes inline, or goes to the fallback
  abbrev pub supports_context : DiskData S → Option Context → Bool
  supports_context disk None = true
  supports_context disk (Some context) = goes_inline disk.targets (keys_in disk) context.key || disk.fallback

  -- why a disk refuses a bio, if it does: the bio isn't well formed, and else it isn't supported
  abbrev pub refusal_on : DiskData S → Extent → Option Refusal
  refusal_on disk bio =
      option_map_or (λ error. Some (refusals.Bio error)) (check_of (keys_in disk) (BLOCK_SECTORS * disk.blocks) bio)
      (if supports_context disk bio.context then None else Some refusals.Unsupported)

  -- the pass is one of the disk, and has no hold
  abbrev pub IsPassOf : DiskData S → PassData S → Type 0
  IsPassOf disk pass = IsReady disk.queue pass.caller pass.slots pass.units

  -- what its caller has seen of the disk, and how many entries more it may have at each shard
  abbrev pub facts_on : (S → Option Sectors) → DiskData S → PassData S → DeviceFacts
  facts_on contents disk pass = facts_over contents (devices_of disk.queue disk.targets) pass.slots pass.units

  -- how many events more the caller may make on a device
  abbrev pub events_left : DiskData S → PassData S → ℕ → ℕ
  events_left disk pass device =
      option_map_or (λ controller. option_map_or (λ slots.
      quota_of (base_in controller.profile) slots.caller - length (made_by slots)) (slice_get pass.slots device) 0)
      (slice_get disk.queue.controllers device) 0

  -- What a disk keeps: each device has a controller, with a row of each key, that can do what its target says, all have
  -- the medium's callers, and the sectors of its blocks have numbers of 32 bits and belong to their shards' stores.
  pub record IsDisk (owns : S → ℕ → Bool) (disk : DiskData S) : Type 0 where
    pub count : length disk.queue.controllers ≡ length disk.targets
    pub rows : AreControllers (keys_in disk) disk.queue.controllers
    pub supports : (device : ℕ) → AllAt disk.targets device (λ target. AllAt disk.queue.controllers device
        (λ controller. controller.caps ≡ capabilities_of target.caps))
    pub callers : Each (λ controller. controller.profile.turns.callers ≡ disk.queue.medium.turns.callers)
        disk.queue.controllers
    pub small : disk.blocks < 2 ^ 29
    pub owned : (sector : ℕ) → sector < BLOCK_SECTORS * disk.blocks → OwnsSectors owns disk.queue.medium sector 1

-- Private: each key that doesn't go inline has its cipher.
pub record HasCiphers (targets : List Target) (keys : List KeyData) (ciphers : List (Option CipherParts)) : Type 0 where
  pub count : length ciphers ≡ length keys
  pub each : (number : ℕ) → AllAt keys number (λ key. all_support targets key.config ≡ false
      → At ciphers number (Some (parts_of key)))
