-- What contracts see of a store in memory: the sectors of one shard of an image, block after block.
use Rattle.std.specs.Prelude.{◌≡◌, ℕ, ◌+◌, ◌*◌, ◌/◌, ◌%◌, ◌<◌, ◌≤◌, Bool, true, ◌&&◌, ◌==◌, nat_lt, List, [], ◌∷◌, length, slice_range, Option, Some, None, Contains, if◌then◌else◌}
use Rattle.bc_base.specs.Memory.{Calls}
use Rattle.bc_base.specs.Lists.{AllAt}
use Rattle.bc_base.specs.Layout.{block_of, shard_of}
use Rattle.bc_base.specs.Sectors.{Sectors, image_sectors}

-- the bytes of the blocks of a shard, one after the other; which shard of how many it is; how many blocks all shards
-- have; and its calls
pub record RamData : Type 0 where
  pub bytes : List ℕ
  pub shard : ℕ
  pub shards : ℕ
  pub blocks : ℕ
  pub calls : Calls

-- the least number of the plan that is so much or more, if it has one
abbrev pub PlansNext : List ℕ → ℕ → Option ℕ → Type 0
PlansNext plan from None = (n : ℕ) → Contains plan n → n < from
PlansNext plan from (Some next) = Contains plan next × (from ≤ next) × ((n : ℕ) → Contains plan n → from ≤ n → next ≤ n)

-- the sectors of the blocks that lie in the shard
abbrev pub owns : RamData → ℕ → Bool
owns store s = (shard_of store.shards s == store.shard) && nat_lt (block_of s) store.blocks

-- where a sector stands among those of its shard
abbrev pub sector_within : ℕ → ℕ → ℕ
sector_within shards s = 8 * (block_of s / shards) + s % 8

-- the bytes of each sector of the shard; of no other sector any
abbrev pub contents : RamData → Sectors
contents store s = if owns store s then image_sectors store.bytes (sector_within store.shards s) else []

-- a block of an image
abbrev pub block_at : List ℕ → ℕ → List ℕ
block_at image block = slice_range image (4096 * block) (4096 * block + 4096)

-- the bytes have room for all blocks of the shard: every one of so many, from the shard's own number on
pub record HasAllBlocks (bytes : List ℕ) (shard shards blocks : ℕ) : Type 0 where
  pub below : shard < shards
  pub long : (i : ℕ) → shard + shards * i < blocks → 4096 * i + 4096 ≤ length bytes

-- the store is that of this shard of an image: it holds the image's bytes
pub record IsShardOf (image : List ℕ) (shard shards : ℕ) (store : RamData) : Type 0 where
  pub shard_is : store.shard ≡ shard
  pub shards_are : store.shards ≡ shards
  pub blocks_are : store.blocks ≡ length image / 4096
  pub holds : (s : ℕ) → owns store s ≡ true → contents store s ≡ image_sectors image s

-- the bytes are those of every step-th block of an image, from block first on
pub record HasBlocksOf (image : List ℕ) (first step : ℕ) (bytes : List ℕ) : Type 0 where
  pub long : (i : ℕ) → first + step * i < length image / 4096 → 4096 * i + 4096 ≤ length bytes
  pub same : (i : ℕ) → first + step * i < length image / 4096 → block_at bytes i ≡ block_at image (first + step * i)

-- the only store has the only shard, and as many bytes as an image of so many blocks
abbrev pub IsOneImage : List RamData → ℕ → Type 0
IsOneImage stores blocks =
    (store : RamData) × (stores ≡ store ∷ []) × (store.shards ≡ 1) × (length store.bytes ≡ 4096 * blocks)

-- each sector of a disk of so many blocks belongs to the store of its shard, of as many shards as there are stores
pub record HaveAllSectors (blocks : ℕ) (stores : List RamData) : Type 0 where
  pub some : 1 ≤ length stores
  pub each : (s : ℕ) → s < 8 * blocks → AllAt stores (shard_of (length stores) s) (λ store. owns store s ≡ true)
