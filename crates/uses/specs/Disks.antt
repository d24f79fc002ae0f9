-- When callers may carry out steps on the shards of a disk.
use Rattle.std.specs.Prelude.{◌≡◌, ℕ, ◌<◌, Bool, List, length, slice_index_or}
use Rattle.bc_base.specs.Lists.{AllAt}
use Rattle.bc_base.specs.Layout.{shard_of}
use Rattle.bc_base.specs.Stores.{IsPiece}
use Rattle.bc_base.specs.RamStores.{RamData, IsShardOf}
use Rattle.bc_turn.specs.PassParts.{Pass}
use Rattle.bc_medium.specs.declared.entry.Entry.{Entry}
use Rattle.bc_medium.specs.Medium.{OpeningData, MediumData, OwnsSectors, Belongs}
use Rattle.uses.specs.declared.disk.Done.{Done}

-- each of the first so many sectors belongs to the store of its shard
abbrev pub StoresOwn : {S : Type 0} → (S → ℕ → Bool) → List S → ℕ → Type 0
StoresOwn owns stores sectors =
    (sector : ℕ) → sector < sectors
    → AllAt stores (shard_of (length stores) sector) (λ store. IsPiece (owns store) sector 1)

-- the same of the stores that a medium was opened with
abbrev pub HasSectors : {S : Type 0} → (S → ℕ → Bool) → MediumData S → ℕ → Type 0
HasSectors owns m sectors = (sector : ℕ) → sector < sectors → OwnsSectors owns m sector 1

-- each caller came back with its own pass, which is one of the medium
abbrev pub CameBack : {S : Type 0} → MediumData S → List (Pass Entry (OpeningData S)) → List (Done S) → Type 0
CameBack {S} m passes done =
    (k : ℕ) (pass : Pass Entry (OpeningData S)) (one : Done S) → k < length passes
    → Belongs m (slice_index_or done k one).pass
    × ((slice_index_or done k one).pass.caller ≡ (slice_index_or passes k pass).caller)

-- the store of this shard of an image, with no call yet
abbrev pub IsFreshShard : List ℕ → ℕ → ℕ → RamData → Type 0
IsFreshShard image shards shard store = IsShardOf image shard shards store × (store.calls.calls ≡ 0)
