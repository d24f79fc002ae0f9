-- What becomes of the bios of a request that was carried out: what a reply to each is read off.
use Rattle.std.specs.Prelude.{◌≡◌, ℕ, ◌<◌, ◌≤◌, Bool, true, false, List, length, map, slice_get, Some, MatchOption, ⊤}
use Rattle.std.specs.List.{AllZip, range_with_len}
use Rattle.bc_base.specs.declared.place.Place.{Place}
use Rattle.bc_base.specs.Lists.{At, Each, list_at}
use Rattle.bc_key.specs.KeyData.{KeyData}
use Rattle.bc_bio.specs.declared.access.Access.{Access}
use Rattle.bc_bio.specs.declared.access.Access.TheVariants.{Read, Write}
use Rattle.bc_bio.specs.declared.bio.Bio.{Bio}
use Rattle.bc_bio.specs.declared.unit.Unit.TheVariants.{Full}
use Rattle.bc_bio.specs.declared.marked_bio.MarkedBio.{MarkedBio}
use Rattle.bc_bio.specs.Conditions.{IsFull}
use Rattle.bc_bio.specs.Extent.{unit_sectors}
use Rattle.bc_bio.specs.PlannedUnit.{PlannedUnit}
use Rattle.bc_bio.specs.Requests.{tagged_of}
use Rattle.bc_bio.specs.Windows.{named_unit}
use Rattle.bc_medium.specs.declared.entry.Entry.{Entry}
use Rattle.bc_medium.specs.Entries.{IsToldAt}
use Rattle.bc_medium.specs.Growth.{Knows, failed_names}
use Rattle.bc_medium.specs.KeyedDisk.{Sectors, UnitAnswer, Faulted, Written, Text}
use Rattle.bc_medium.specs.LawfulOrders.{unit_name_of}
use Rattle.bc_medium.specs.Layout.{shard_of}
use Rattle.bc_queue.specs.RequestUnits.{written_bytes}
use Rattle.bc_queue.specs.Carrying.{AccessFacts, answer_of, content_of}

-- unit number i of a bio, as a unit of a plan
abbrev pub planned_in : List KeyData → Bio → ℕ → PlannedUnit
planned_in keys bio i =
    let unit = named_unit keys (tagged_of bio) i in record {
      tag = bio.tag;
      unit = i;
      access = bio.access;
      context = unit.context;
      sector = unit.sector;
      bytes = written_bytes bio.access (slice_get bio.units i);
    }

-- Unit number i of a bio was attempted, and met a fault or none: at this place of its shard's order the keyed disk
-- answers it so, and so does what its caller knows, where the sectors at opening are reported. A read that met none has
-- then the bytes that it was answered with; of a write the bytes are in the order, or its own again after a fault.
pub record IsAnswered (facts : AccessFacts) (seen : List (List Entry)) (old new : Bio) (i : ℕ) (failed : Bool)
    : Type 0 where
  pub place : Place
  pub shard : place.shard ≡ shard_of facts.shards (planned_in facts.keys old i).sector
  pub bytes : List ℕ
  pub content : At new.units i (content_of old.access failed place bytes)
  pub full : IsFull (unit_sectors facts.keys (planned_in facts.keys old i).context) (Full bytes)
  pub written : old.access ≡ Write → At old.units i (Full bytes)
  pub told : IsToldAt facts.keys (facts.opening place.shard) (list_at seen place.shard) place.index
      (unit_name_of facts.caller (planned_in facts.keys old i)) (answer_of old.access failed bytes)
  pub known : (base : ℕ → Sectors) → facts.opening place.shard ≡ Some (base place.shard)
      → Knows facts.keys facts.shards base facts.caller seen (planned_in facts.keys old i)
      (answer_of old.access failed bytes)

-- the first of a bio's units that met a fault is this one: those before it met none, and those after it are as they
-- were
pub record IsStopped (facts : AccessFacts) (seen : List (List Entry)) (old new : Bio) (unit : ℕ) : Type 0 where
  pub within : unit < length old.units
  pub fault : IsAnswered facts seen old new unit true
  pub done : (i : ℕ) → i < unit → IsAnswered facts seen old new i false
  pub left : (i : ℕ) → unit < i → i < length old.units → slice_get new.units i ≡ slice_get old.units i

-- the units of a bio, in order
abbrev pub planned_units : List KeyData → Bio → List PlannedUnit
planned_units keys bio = map (planned_in keys bio) (range_with_len 0 (length bio.units))

-- the shard of each sector had these sectors at opening, and that is reported
abbrev pub OpensWith : AccessFacts → (ℕ → Sectors) → Type 0
OpensWith facts base =
    (sector : ℕ) → facts.opening (shard_of facts.shards sector) ≡ Some (base (shard_of facts.shards sector))

-- the caller knows how one of its units was answered
abbrev pub KnowsUnit : AccessFacts → List (List Entry) → (ℕ → Sectors) → PlannedUnit → UnitAnswer → Type 0
KnowsUnit facts seen base u answer = Knows facts.keys facts.shards base facts.caller seen u answer

-- it knows that each unit of a bio was written; or that each was read, and the bio has just these bytes
abbrev pub KnowsDone : AccessFacts → List (List Entry) → (ℕ → Sectors) → Bio → Bio → Access → Type 0
KnowsDone facts seen base old new Write =
    Each (λ u. KnowsUnit facts seen base u Written) (planned_units facts.keys old)
KnowsDone facts seen base old new Read =
    (texts : List (List ℕ))
    × AllZip (λ u text. KnowsUnit facts seen base u (Text text)) (planned_units facts.keys old) texts
    × (new.units ≡ map (λ text. Full text) texts)

-- it knows that the unit of a bio with this number met a fault
abbrev pub KnowsFault : AccessFacts → List (List Entry) → (ℕ → Sectors) → Bio → ℕ → Type 0
KnowsFault facts seen base old unit =
    At (planned_units facts.keys old) unit (planned_in facts.keys old unit)
    × KnowsUnit facts seen base (planned_in facts.keys old unit) Faulted

-- What became of a bio: with no mark, each of its units was carried out without a fault; a mark is the number of the
-- first unit that met one. Its caller knows just that, where the sectors at opening are reported.
pub record Becomes (facts : AccessFacts) (seen : List (List Entry)) (old new : MarkedBio) : Type 0 where
  pub same : tagged_of new.bio ≡ tagged_of old.bio
  pub outcome : MatchOption new.fault
      ((i : ℕ) → i < length old.bio.units → IsAnswered facts seen old.bio new.bio i false)
      (IsStopped facts seen old.bio new.bio)
  pub known : (base : ℕ → Sectors) → OpensWith facts base
      → MatchOption new.fault (KnowsDone facts seen base old.bio new.bio old.bio.access)
      (KnowsFault facts seen base old.bio)

-- A bio's mark is the number of the first of its units whose entry failed: where an entry of its tag failed it has a
-- mark, of that unit or one before, and the unit of a mark has an entry that failed.
pub record MarksFirst (caller : ℕ) (made : List Entry) (old new : MarkedBio) : Type 0 where
  pub least : Each
      (λ name. name.op ≡ old.bio.tag → (mark : ℕ) × (new.fault ≡ Some mark) × (mark ≤ name.unit)) (failed_names made)
  pub failed : MatchOption new.fault ⊤
      (λ unit. (place : ℕ)
      × At (failed_names made) place (record { thread = caller; op = old.bio.tag; unit = unit }))
