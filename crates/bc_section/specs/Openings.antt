-- The stores of a disk's shards at the opening: what they hold, and where they fail.
use Rattle.std.specs.Prelude.{◌≡◌, ℕ, ◌==◌, List, length, map, filter}
use Rattle.bc_base.specs.Lists.{AllAt}
use Rattle.bc_base.specs.Memory.{no_calls}
use Rattle.bc_base.specs.RamStores.{RamData, IsShardOf}
use Rattle.bc_script.specs.Script.{Script}

-- the places that are planned to fail on a shard
abbrev pub planned_on : List (ℕ × ℕ) → ℕ → List ℕ
planned_on faults shard = map (λ fault. fault.1) (filter (λ fault. fault.0 == shard) faults)

-- the store is that of a shard of an image, and fails as the script plans
pub record IsOpening (script : Script) (image : List ℕ) (shards shard : ℕ) (store : RamData) : Type 0 where
  pub holds : IsShardOf image shard shards store
  pub calls : store.calls ≡ no_calls (planned_on script.faults shard)

-- there is such a store for each shard
pub record AreOpenings (script : Script) (image : List ℕ) (shards : ℕ) (stores : List RamData) : Type 0 where
  pub count : length stores ≡ shards
  pub each : (shard : ℕ) → AllAt stores shard (IsOpening script image shards shard)
