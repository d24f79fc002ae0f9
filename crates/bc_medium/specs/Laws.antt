-- Laws of orders: what is reported and known of an entry stays so when entries follow.
use Rattle.std.specs.Prelude.{ℕ, List, ◌++◌, Option}
use Rattle.bc_base.specs.Lists.{list_at}
use Rattle.bc_base.specs.Story.{StartsWith}
use Rattle.bc_key.specs.KeyData.{KeyData}
use Rattle.bc_bio.specs.PlannedUnit.{PlannedUnit}
use Rattle.bc_medium.specs.declared.entry.Entry.{Entry}
use Rattle.bc_medium.specs.declared.unit_name.UnitName.{UnitName}
use Rattle.bc_medium.specs.KeyedDisk.{Sectors, UnitAnswer}
use Rattle.bc_medium.specs.Entries.{IsToldAt}
use Rattle.bc_medium.specs.Growth.{Knows}

-- an answer at a place of an order is the answer there of every longer order
abbrev pub AnswersStay : Type 0
AnswersStay =
    (keys : List KeyData) (contents : Option Sectors) (order more : List Entry) (place : ℕ) (name : UnitName)
    (answer : UnitAnswer) → IsToldAt keys contents order place name answer
    → IsToldAt keys contents (order ++ more) place name answer

-- what a caller knows of an answer it knows of every longer orders
abbrev pub KnownStays : Type 0
KnownStays =
    (keys : List KeyData) (shards : ℕ) (base : ℕ → Sectors) (thread : ℕ) (old new : List (List Entry))
    (u : PlannedUnit) (answer : UnitAnswer) → ((shard : ℕ) → StartsWith (list_at new shard) (list_at old shard))
    → Knows keys shards base thread old u answer → Knows keys shards base thread new u answer
