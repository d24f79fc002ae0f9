-- What a call adds to the orders, over the lists that its caller has seen: `old` before the call
-- and `new` after it. Each word is kept by calls one after the other, and stays true when entries
-- of others follow.
use Rattle.std.specs.Prelude.{◌≡◌, ◌≢◌, ℕ, ◌<◌, ◌==◌, Bool, false, List, [], ◌∷◌, ◌++◌, length, filter, map, Some}
use Rattle.std.specs.List.{AllZip}
use Rattle.bc_base.specs.declared.place.Place.{Place}
use Rattle.bc_base.specs.Lists.{list_at}
use Rattle.bc_base.specs.Story.{own, StartsWith}
use Rattle.bc_key.specs.KeyData.{KeyData}
use Rattle.bc_bio.specs.declared.access.Access.TheVariants.{Write}
use Rattle.bc_bio.specs.PlannedUnit.{PlannedUnit}
use Rattle.bc_medium.specs.declared.entry.Entry.{Entry}
use Rattle.bc_medium.specs.declared.unit_name.UnitName.{UnitName}
use Rattle.bc_medium.specs.Layout.{shard_of}
use Rattle.bc_medium.specs.KeyedDisk.{Sectors, UnitAnswer}
use Rattle.bc_medium.specs.LawfulOrders.{unit_name_of, is_attempted}
use Rattle.bc_medium.specs.Entries.{caller_of, name_of_entry, told_by, HasAnswer}

-- one entry is appended to a shard's order: it stands after `before`, which begins with what was
-- seen and has no more of this caller
pub record Appended (caller shard : ℕ) (old new : List (List Entry)) (before : List Entry) (e : Entry) : Type 0 where
  pub begins : StartsWith before (list_at old shard)
  pub own_before : own caller_of caller before ≡ own caller_of caller (list_at old shard)
  pub ends : list_at new shard ≡ before ++ e ∷ []
  pub elsewhere : (other : ℕ) → other ≢ shard → list_at new other ≡ list_at old other

-- one access of so many shards: its entry is appended to the order of its own shard, and this is
-- its place
pub record Performs (shards : ℕ) (old new : List (List Entry)) (before : List Entry) (e : Entry) (place : Place)
    : Type 0 where
  pub shard : place.shard ≡ shard_of shards e.at.sector
  pub index : place.index ≡ length before
  pub appended : Appended (caller_of e) place.shard old new before e

-- the entry lies in this shard
abbrev pub lies_in : ℕ → ℕ → Entry → Bool
lies_in shards shard e = shard_of shards e.at.sector == shard

-- any call: the orders go on, and of this caller by just these entries, in this order
pub record Grows (shards caller : ℕ) (old new : List (List Entry)) (es : List Entry) : Type 0 where
  pub fronts : (shard : ℕ) → StartsWith (list_at new shard) (list_at old shard)
  pub own_entries : (shard : ℕ) → shard < shards
      → own caller_of caller (list_at new shard)
      ≡ own caller_of caller (list_at old shard) ++ filter (lies_in shards shard) es

-- the units of entries that failed
abbrev pub failed_names : List Entry → List UnitName
failed_names es = map name_of_entry (filter (λ e. e.failed) es)

-- the units that a thread attempts, where these have met a fault
abbrev pub attempted_by : ℕ → List UnitName → List PlannedUnit → List PlannedUnit
attempted_by thread met units = filter (λ u. is_attempted met (unit_name_of thread u)) units

-- the entry of a thread's unit; of a write that didn't fail it has the bytes
pub record IsEntryOf (thread : ℕ) (u : PlannedUnit) (e : Entry) : Type 0 where
  pub unit : e.at ≡ record { caller = thread; tag = u.tag; unit = u.unit; sector = u.sector; context = u.context }
  pub access : e.access ≡ u.access
  pub written : e.failed ≡ false → u.access ≡ Write → e.plain ≡ Some u.bytes

-- these entries are the attempted ones of these units, each once, in their order, where `met` met a
-- fault before
abbrev pub Attempts : ℕ → List UnitName → List PlannedUnit → List Entry → Type 0
Attempts thread met units es = AllZip (IsEntryOf thread) (attempted_by thread (met ++ failed_names es) units) es

-- a thread that has seen these orders knows how its unit was answered
abbrev pub Knows :
    List KeyData → ℕ → (ℕ → Sectors) → ℕ → List (List Entry) → PlannedUnit → UnitAnswer → Type 0
Knows keys shards base thread seen u answer =
    let shard = shard_of shards u.sector in
    HasAnswer (told_by keys (base shard) (list_at seen shard)) (unit_name_of thread u) answer
