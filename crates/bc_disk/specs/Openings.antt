-- What a disk is opened with, and what it is then.
use Rattle.std.specs.Prelude.{◌≡◌, ℕ, ◌*◌, ◌^◌, ◌<◌, ◌≤◌, Bool, true, List, [], length, map, sum, Option, IfSome}
use Rattle.std.specs.Prelude.{slice_index_or}
use Rattle.bc_base.specs.declared.geometry.TheConstants.{BLOCK_SECTORS}
use Rattle.bc_base.specs.Lists.{AllAt, Each, list_at}
use Rattle.bc_base.specs.Sectors.{Sectors}
use Rattle.bc_base.specs.Stores.{StoreCalls}
use Rattle.bc_key.specs.KeyData.{KeyData}
use Rattle.bc_medium.specs.Medium.{quotas_of_shard, shards_of}
use Rattle.bc_medium.specs.Layout.{shard_of}
use Rattle.bc_profile.specs.declared.limits.TheConstants.{MAX_EVENTS}
use Rattle.bc_stack.specs.Targets.{StackParts}
use Rattle.bc_modes.specs.Capabilities.{capabilities_of}
use Rattle.bc_profile.specs.Passes.{base_in, slots_in}
use Rattle.bc_stack.specs.declared.target.Target.{Target}
use Rattle.bc_ufs.specs.Controllers.{ControllerData}
use Rattle.bc_queue.specs.Queues.{IsController}
use Rattle.bc_disk.specs.Disks.{DiskData, IsPassOf, PassData, events_left, facts_on, keys_in}

-- how much a caller may have of what is counted here: of rows by caller
abbrev pub quota_at : List (List ℕ) → ℕ → ℕ → ℕ
quota_at rows caller place = slice_index_or (list_at rows caller) place 0

-- A disk may be opened over these stores, which are those of all shards of a disk of so many blocks, under a stack that
-- was made for as many; `units` is how many entries each caller may have at each shard, and `events` how many events on
-- each device.
pub record MayOpen {S : Type 0} (owns : S → ℕ → Bool) (told : S → Option StoreCalls) (stack : StackParts) (blocks : ℕ)
    (stores : List S) (units events : List (List ℕ)) : Type 0 where
  pub callers : (1 ≤ length units) × (length units ≤ 65535)
  pub same_callers : length events ≡ length units
  pub shards : (1 ≤ length stores) × (length stores ≤ 65535)
  pub small : blocks < 2 ^ 29
  pub stack_blocks : stack.blocks ≡ blocks
  pub owned : (sector : ℕ) → sector < BLOCK_SECTORS * blocks
      → AllAt stores (shard_of (length stores) sector) (λ store. owns store sector ≡ true)
  pub fresh : Each (λ store. IfSome (told store) (λ calls. calls.calls ≡ 0)) stores
  pub unit_rows : Each (λ row. length row ≡ length stores) units
  pub unit_sums : (shard : ℕ) → shard < length stores → sum (quotas_of_shard shard units) < 2 ^ 32
  pub event_rows : Each (λ row. length row ≡ length stack.targets) events
  pub event_sums : (device : ℕ) → device < length stack.targets → sum (quotas_of_shard device events) < MAX_EVENTS

module _ {S : Type 0} (contents : S → Option Sectors) where
  -- the pass of a caller that has seen nothing yet, with its quotas
  pub record IsNewPass (disk : DiskData S) (units events : List (List ℕ)) (caller : ℕ) (pass : PassData S)
      : Type 0 where
    pub pass_of : IsPassOf disk pass
    pub caller_is : pass.caller ≡ caller
    pub no_entries : (shard : ℕ) → list_at (facts_on contents disk pass).access.seen shard ≡ []
    pub no_events : (device : ℕ) → list_at (facts_on contents disk pass).noted device ≡ []
    pub entries_left : (shard : ℕ) → shard < shards_of disk.queue.medium
        → (facts_on contents disk pass).access.spare shard ≡ quota_at units caller shard
    pub events_left : (device : ℕ) → device < length disk.targets
        → events_left disk pass device ≡ quota_at events caller device

  -- a disk was opened with these keys, stack, stores and quotas, and a pass for each caller
  pub record IsOpened (keys : List KeyData) (stack : StackParts) (fallback : Bool) (blocks : ℕ) (stores : List S)
      (units events : List (List ℕ)) (disk : DiskData S) (passes : List (PassData S)) : Type 0 where
    pub keys_are : keys_in disk ≡ keys
    pub targets_are : disk.targets ≡ stack.targets
    pub fallback_is : disk.fallback ≡ fallback
    pub blocks_are : disk.blocks ≡ blocks
    pub stores_are : map (λ cell. cell.base.store) disk.queue.medium.turns.cells ≡ stores
    pub callers_are : disk.queue.medium.turns.callers ≡ length units
    pub slot_callers : Each (λ controller. controller.profile.turns.callers ≡ length units) disk.queue.controllers
    pub one_for_each : length disk.queue.controllers ≡ length disk.targets
    pub slots_are : (device : ℕ) → AllAt stack.targets device (λ target. AllAt disk.queue.controllers device
        (λ controller. slots_in controller.profile ≡ target.slots))
    pub pass_for_each : length passes ≡ length units
    pub are_new : (caller : ℕ) → AllAt passes caller (IsNewPass disk units events caller)

-- Private: the controller is that of the target's device, which has no events yet, with these quotas of events by
-- caller.
pub record IsNewDevice (keys : List KeyData) (events : List (List ℕ)) (device : ℕ) (target : Target)
    (controller : ControllerData) : Type 0 where
  pub is_its : IsController keys device controller
  pub caps : controller.caps ≡ capabilities_of target.caps
  pub base : base_in controller.profile ≡ record { slots = target.slots; quotas = quotas_of_shard device events }
  pub callers : controller.profile.turns.callers ≡ length events

-- Private: the controllers are those of the first of the targets.
abbrev pub AreNewDevices : List KeyData → List (List ℕ) → List Target → List ControllerData → Type 0
AreNewDevices keys events targets controllers =
    (device : ℕ) → AllAt controllers device (λ controller. AllAt targets device
    (λ target. IsNewDevice keys events device target controller))
