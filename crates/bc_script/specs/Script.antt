-- What a script says: a disk, its devices and keys, and for each thread the section of its
-- operations; and the rules that each script keeps.
use Rattle.std.specs.Prelude.{◌≡◌, ◌≢◌, ℕ, ◌*◌, ◌^◌, ◌<◌, ◌≤◌, ◌&&◌, ◌||◌, nat_lt, nat_eq, Bool, true, false, if◌then◌else◌, IsTrue, List, [], ◌∷◌, length, map, sum_by, AllPairs, Option, Some, None, ⊤}
use Rattle.std.specs.List.{AllByRecursion}
use Rattle.hex.specs.Hex.{IsBytes}
use Rattle.bc_key.specs.KeyData.{KeyData, IsValid}
use Rattle.bc_bio.specs.declared.context.Context.{Context}
use Rattle.bc_bio.specs.Extent.{unit_sectors}
use Rattle.bc_stack.specs.declared.target.Target.{Target}
use Rattle.bc_stack.specs.Targets.{HasSlots, IsStack}
use Rattle.bc_script.specs.declared.limits.TheConstants as limits
use Rattle.bc_script.specs.declared.named_key.NamedKey.{NamedKey}
use Rattle.bc_script.specs.declared.op.Op.{Op}
use Rattle.bc_script.specs.declared.op.Op.TheVariants.{Write, Read, Evict, Reset, Plug, Unplug}
use Rattle.bc_script.specs.declared.op.Text.{Text}
use Rattle.bc_script.specs.declared.op.Text.TheVariants.{Fill, Bytes}
use Rattle.bc_script.specs.Name.{is_name}

-- A script as contracts see it: how many blocks of 4096 bytes its disk has, whether software does
-- what no device can, its devices, its keys, the faults that are planned (each by a shard and a
-- place in its order), and its sections.
pub record Script : Type 0 where
  pub blocks : ℕ
  pub fallback : Bool
  pub targets : List Target
  pub keys : List NamedKey
  pub faults : List (ℕ × ℕ)
  pub threads : List (List Op)

-- the keys without their names
abbrev pub bare_keys : List NamedKey → List KeyData
bare_keys keys = map (λ named. named.key) keys

-- the keys of a script without their names
abbrev pub keys_of : Script → List KeyData
keys_of script = bare_keys script.keys

-- how many sectors of 512 bytes the disk has
abbrev pub sectors_in : Script → ℕ
sectors_in script = 8 * script.blocks

-- the key and number of an operation's bio
abbrev pub context_of : Op → Option Context
context_of (Write context sector units text) = context
context_of (Read context sector units) = context
context_of _ = None

-- how many data units an operation's bio has
abbrev pub unit_count : Op → ℕ
unit_count (Write context sector units text) = units
unit_count (Read context sector units) = units
unit_count _ = 0

-- how many data units the bios of a section have
abbrev pub unit_count_of_section : List Op → ℕ
unit_count_of_section section = sum_by unit_count section

-- ---- limits

-- the most blocks of a disk
abbrev pub max_blocks : ℕ
max_blocks = limits.MAX_BLOCKS

-- the last block that a disk may have
abbrev pub last_block : ℕ
last_block = limits.LAST_BLOCK

-- the most devices
abbrev pub max_devices : ℕ
max_devices = limits.MAX_DEVICES

-- the most keyslots of a device
abbrev pub max_slots : ℕ
max_slots = limits.MAX_SLOTS

-- the greatest mask of data unit sizes
abbrev pub max_unit_mask : ℕ
max_unit_mask = limits.MAX_UNIT_MASK

-- the most bytes that a device takes of a data unit's number
abbrev pub max_device_dun_bytes : ℕ
max_device_dun_bytes = limits.MAX_DEVICE_DUN_BYTES

-- the most keys
abbrev pub max_keys : ℕ
max_keys = limits.MAX_KEYS

-- the most faults that are planned
abbrev pub max_faults : ℕ
max_faults = limits.MAX_FAULTS

-- the last shard that a disk may have
abbrev pub last_shard : ℕ
last_shard = limits.LAST_SHARD

-- the last place in a shard's order at which a fault may be planned
abbrev pub last_access : ℕ
last_access = limits.LAST_ACCESS

-- the most sections
abbrev pub max_threads : ℕ
max_threads = limits.MAX_THREADS

-- the most operations of all sections together
abbrev pub max_ops : ℕ
max_ops = limits.MAX_OPS

-- the most pairs of a write and a read that each thread of a generated script has
abbrev pub max_generated : ℕ
max_generated = limits.MAX_GENERATED

-- the most data units of all bios together
abbrev pub max_units : ℕ
max_units = limits.MAX_UNITS

-- the most data units of a bio
abbrev pub max_bio_units : ℕ
max_bio_units = limits.MAX_BIO_UNITS

-- the most sectors of a bio, in all its data units together
abbrev pub max_bio_sectors : ℕ
max_bio_sectors = limits.MAX_BIO_SECTORS

-- ---- the rules

-- a disk has one block at least
abbrev pub IsDiskSize : ℕ → Type 0
IsDiskSize n = (1 ≤ n) × (n ≤ max_blocks)

-- a device's first block, blocks, keyslots, mask of data unit sizes for each mode, and number bytes
-- are in their ranges
pub record IsDevice (device : Target) : Type 0 where
  pub first : device.first ≤ last_block
  pub some_blocks : 1 ≤ device.blocks
  pub few_blocks : device.blocks ≤ max_blocks
  pub slots : HasSlots device
  pub xts : device.caps.xts ≤ max_unit_mask
  pub essiv : device.caps.essiv ≤ max_unit_mask
  pub some_dun_bytes : 1 ≤ device.caps.max_dun_bytes
  pub few_dun_bytes : device.caps.max_dun_bytes ≤ max_device_dun_bytes

-- devices that make a stack over the blocks of a disk
pub record AreDevices (devices : List Target) (blocks : ℕ) : Type 0 where
  pub stack : IsStack devices blocks
  pub each : AllByRecursion IsDevice devices

-- a name, and a valid key
pub record IsNamedKey (named : NamedKey) : Type 0 where
  pub name : IsTrue (is_name named.name)
  pub valid : IsValid named.key.config named.key.raw

-- few enough keys, of which no two have one name
pub record AreKeys (keys : List NamedKey) : Type 0 where
  pub count : length keys ≤ max_keys
  pub each : AllByRecursion IsNamedKey keys
  pub names : AllPairs (λ (first second : NamedKey). first.name ≢ second.name) keys

-- a shard that a disk may have, and a place in its order
pub record IsFault (fault : ℕ × ℕ) : Type 0 where
  pub shard : fault.0 ≤ last_shard
  pub access : fault.1 ≤ last_access

-- whether the first fault comes before the second: on a lower shard, or at a lower place of the
-- same shard
abbrev pub is_before : ℕ × ℕ → ℕ × ℕ → Bool
is_before first second = nat_lt first.0 second.0 || (nat_eq first.0 second.0 && nat_lt first.1 second.1)

-- few enough faults, each after those before it
pub record AreFaults (faults : List (ℕ × ℕ)) : Type 0 where
  pub count : length faults ≤ max_faults
  pub each : AllByRecursion IsFault faults
  pub ascend : AllPairs (λ (first second : ℕ × ℕ). is_before first second ≡ true) faults

-- a key of the script and a number; or neither
abbrev pub IsContext : List KeyData → Option Context → Type 0
IsContext keys None = ⊤
IsContext keys (Some context) = (context.key.0 < length keys) × (context.dun < 2 ^ 256)

-- what a bio's line can say, wherever the bio lies: whether it is well formed is found when it is
-- carried out
pub record IsBio (keys : List KeyData) (context : Option Context) (sector units : ℕ) : Type 0 where
  pub context_is : IsContext keys context
  pub sector_is : sector < 2 ^ 32
  pub few_units : units ≤ max_bio_units
  pub few_sectors : units * unit_sectors keys context ≤ max_bio_sectors

-- a byte; or as many bytes as the bio has, which has some
abbrev pub IsText : List KeyData → Option Context → ℕ → Text → Type 0
IsText keys context units (Fill byte) = byte < 256
IsText keys context units (Bytes bytes) =
    IsBytes bytes × (1 ≤ units) × (length bytes ≡ units * (512 * unit_sectors keys context))

-- an operation whose bio, key or device a script has that has so many devices
abbrev pub IsOp : ℕ → List KeyData → Op → Type 0
IsOp devices keys (Write context sector units text) =
    IsBio keys context sector units × IsText keys context units text
IsOp devices keys (Read context sector units) = IsBio keys context sector units
IsOp devices keys (Evict key) = key.0 < length keys
IsOp devices keys (Reset device) = device < devices
IsOp devices keys Plug = ⊤
IsOp devices keys Unplug = ⊤

-- whether a plug is open after these operations; none where one is opened twice, or closed without
-- being open
abbrev pub open_after : Bool → List Op → Option Bool
open_after plugged [] = Some plugged
open_after plugged (Plug ∷ ops) = if plugged then None else open_after true ops
open_after plugged (Unplug ∷ ops) = if plugged then open_after false ops else None
open_after plugged (op ∷ ops) = open_after plugged ops

-- valid operations, of which each plug is closed again
pub record IsSection (devices : ℕ) (keys : List KeyData) (section : List Op) : Type 0 where
  pub each : AllByRecursion (IsOp devices keys) section
  pub plugs : open_after false section ≡ Some false

-- few enough sections, with few enough operations and data units together
pub record AreSections (devices : ℕ) (keys : List KeyData) (threads : List (List Op)) : Type 0 where
  pub count : length threads ≤ max_threads
  pub each : AllByRecursion (IsSection devices keys) threads
  pub few_ops : sum_by length threads ≤ max_ops
  pub few_units : sum_by unit_count_of_section threads ≤ max_units

-- how many devices a script has
abbrev pub device_count : Script → ℕ
device_count script = length script.targets

-- an operation of a script: its device and its key are there, its bio and what it writes valid
abbrev pub IsScriptOp : Script → Op → Type 0
IsScriptOp script op = IsOp (device_count script) (keys_of script) op

-- a section of a script: its operations are within the ranges of the script's devices and keys
abbrev pub IsScriptSection : Script → List Op → Type 0
IsScriptSection script section = IsSection (device_count script) (keys_of script) section

-- what holds of every script
pub record IsScript (script : Script) : Type 0 where
  pub blocks : IsDiskSize script.blocks
  pub devices : AreDevices script.targets script.blocks
  pub keys : AreKeys script.keys
  pub faults : AreFaults script.faults
  pub threads : AreSections (device_count script) (keys_of script) script.threads
