-- What carrying out the units of a request does, whatever the way to the disk: a caller's own lists, the request before
-- it and the request after it.
use Rattle.std.specs.Prelude.{◌≡◌, ◌≢◌, ◌⊎◌, ℕ, ◌+◌, ◌*◌, ◌<◌, ◌≤◌, ◌==◌, Bool, true, false, List, [], ◌∷◌, ◌++◌, map}
use Rattle.std.specs.Prelude.{Option, Some, None, IsSomeAnd, ⊤, if◌then◌else◌}
use Rattle.std.specs.List.{AllZip}
use Rattle.bc_base.specs.declared.place.Place.{Place}
use Rattle.bc_base.specs.Lists.{At, list_at}
use Rattle.bc_key.specs.KeyData.{KeyData}
use Rattle.bc_bio.specs.declared.access.Access.{Access}
use Rattle.bc_bio.specs.declared.access.Access.TheVariants.{Read, Write}
use Rattle.bc_bio.specs.declared.context.Context.{Context}
use Rattle.bc_bio.specs.declared.unit.Unit.{Unit}
use Rattle.bc_bio.specs.declared.unit.Unit.TheVariants.{Full, Stored}
use Rattle.bc_bio.specs.declared.marked_bio.MarkedBio.{MarkedBio}
use Rattle.bc_bio.specs.Extent.{unit_sectors}
use Rattle.bc_bio.specs.Conditions.{IsFull}
use Rattle.bc_bio.specs.Windows.{TaggedBio}
use Rattle.bc_bio.specs.Requests.{RequestParts, tagged_bios, is_over, unit_in, with_unit}
use Rattle.bc_medium.specs.declared.entry.Entry.{Entry}
use Rattle.bc_medium.specs.declared.unit_at.UnitAt.{UnitAt}
use Rattle.bc_medium.specs.declared.via.Via.{Via}
use Rattle.bc_medium.specs.Layout.{shard_of}
use Rattle.bc_medium.specs.KeyedDisk.{Sectors, UnitAnswer, Faulted, Written, Text}
use Rattle.bc_medium.specs.Entries.{name_of_entry, IsToldAt}
use Rattle.bc_medium.specs.Growth.{Performs, Grows, IsEntryOf}
use Rattle.bc_queue.specs.RequestUnits.{named_at, planned_at, planned_part, count_units_on, faults_of, with_fault_at}
use Rattle.bc_queue.specs.RequestUnits.{with_faults, attempted_in, failed_among}

-- a caller's way to the data units of a disk: the disk's keys, how many shards it has and which sectors each of them
-- had at opening, where that is reported; how a unit goes; whose it is, what that caller has seen of the orders, and
-- how many entries more it may have at each shard
pub record AccessFacts : Type 0 where
  pub keys : List KeyData
  pub shards : ℕ
  pub opening : ℕ → Option Sectors
  pub via : Via
  pub caller : ℕ
  pub seen : List (List Entry)
  pub spare : ℕ → ℕ

-- the same caller on the same way
abbrev pub HasSameWay : AccessFacts → AccessFacts → Type 0
HasSameWay old new = new ≡ record old { seen = new.seen; spare = new.spare }

-- one where the entry lies in the shard
abbrev pub one_on : ℕ → ℕ → ℕ → ℕ
one_on shards shard sector = if shard_of shards sector == shard then 1 else 0

-- one access: its entry is appended to the order of its own shard, and the keyed disk answers it so at its place
pub record AccessesOne (old new : AccessFacts) (e : Entry) (answer : UnitAnswer) (place : Place) : Type 0 where
  pub before : List Entry
  pub performs : Performs old.shards old.seen new.seen before e place
  pub told : IsToldAt old.keys (old.opening place.shard) (list_at new.seen place.shard) place.index (name_of_entry e)
      answer
  pub same : HasSameWay old new
  pub spare : (shard : ℕ) → old.spare shard ≤ new.spare shard + one_on old.shards shard e.at.sector

-- what the keyed disk answers a unit that has these bytes afterwards
abbrev pub answer_of : Access → Bool → List ℕ → UnitAnswer
answer_of access true bytes = Faulted
answer_of Write false bytes = Written
answer_of Read false bytes = Text bytes

-- what a unit is afterwards: the bytes of a write that met no fault are in the order
abbrev pub content_of : Access → Bool → Place → List ℕ → Unit
content_of Write false place bytes = Stored place
content_of access failed place bytes = Full bytes

-- Unit number n of a request was attempted: this is its entry, which stands at this place and goes this way, and the
-- keyed disk answers it with what became of the unit. A read has then the bytes that it was answered with; a write that
-- met a fault has its bytes back.
pub record IsCarried (facts : AccessFacts) (seen : List (List Entry)) (old new : List MarkedBio) (n : ℕ) (e : Entry)
    : Type 0 where
  pub entry : IsEntryOf facts.caller (planned_at facts.keys old n) e
  pub way : e.via ≡ facts.via
  pub place : Place
  pub shard : place.shard ≡ shard_of facts.shards e.at.sector
  pub stands : At (list_at seen place.shard) place.index e
  pub bytes : List ℕ
  pub content : unit_in new n ≡ Some (content_of e.access e.failed place bytes)
  pub full : IsFull (unit_sectors facts.keys e.at.context) (Full bytes)
  pub back : e.access ≡ Write → unit_in old n ≡ Some (Full bytes)
  pub told : IsToldAt facts.keys (facts.opening place.shard) (list_at seen place.shard) place.index (name_of_entry e)
      (answer_of e.access e.failed bytes)

-- a unit that isn't one of so many from this number on, or of whose bio an earlier unit met a fault
abbrev pub IsLeft : List MarkedBio → ℕ → ℕ → ℕ → Type 0
IsLeft bios first count n = (n < first) ⊎ ((first + count ≤ n) ⊎ (is_over bios n ≡ true))

-- So many units of a request, from this number on, were carried out in order: those that were attempted, each once, are
-- the caller's new entries. A fault marked its own bio alone, and the later units of that bio were passed over; all
-- other units are as they were.
pub record CarriesOut (old new : AccessFacts) (before after : RequestParts) (first count : ℕ) : Type 0 where
  pub made : List Entry
  pub same : HasSameWay old new
  pub grows : Grows old.shards old.caller old.seen new.seen made
  pub carried : AllZip (IsCarried old new.seen before.bios after.bios) (attempted_in after.bios first count) made
  pub faults : faults_of after.bios ≡ with_faults (tagged_bios before.bios) (faults_of before.bios)
      (failed_among (attempted_in after.bios first count) made)
  pub others : (n : ℕ) → IsLeft after.bios first count n → unit_in after.bios n ≡ unit_in before.bios n
  pub bios : tagged_bios after.bios ≡ tagged_bios before.bios
  pub room : after.spare ≡ before.spare
  pub spare : (shard : ℕ) → old.spare shard
      ≤ new.spare shard + count_units_on old.shards shard (planned_part old.keys before.bios first count)

-- Private: the faults after unit number n, which met one or not.
abbrev pub faults_then : Bool → List TaggedBio → List (Option ℕ) → ℕ → List (Option ℕ)
faults_then failed tagged faults n = if failed then with_fault_at tagged faults n else faults

-- Private: one unit was attempted.
pub record AttemptsOne (old new : AccessFacts) (before after : RequestParts) (n : ℕ) : Type 0 where
  pub e : Entry
  pub answer : UnitAnswer
  pub place : Place
  pub access : AccessesOne old new e answer place
  pub carried : IsCarried old new.seen before.bios after.bios n e
  pub faults : faults_of after.bios ≡ faults_then e.failed (tagged_bios before.bios) (faults_of before.bios) n
  pub others : (m : ℕ) → m ≢ n → unit_in after.bios m ≡ unit_in before.bios m
  pub bios : tagged_bios after.bios ≡ tagged_bios before.bios
  pub room : after.spare ≡ before.spare

-- Private: one unit was passed over.
pub record PassesOver (old new : AccessFacts) (before after : RequestParts) (n : ℕ) : Type 0 where
  pub over : is_over before.bios n ≡ true
  pub facts : new ≡ old
  pub request : after ≡ before

-- Private: one unit was attempted, unless its bio was over.
abbrev pub TriesUnit : AccessFacts → AccessFacts → RequestParts → RequestParts → ℕ → Type 0
TriesUnit old new before after n =
    PassesOver old new before after n
    ⊎ ((is_over before.bios n ≡ false) × AttemptsOne old new before after n)

-- unit number n has its bytes, and the way takes a unit at its sector under its context
pub record IsPerformableUnit (keys : List KeyData) (Takes : ℕ → Option Context → Type 0) (bios : List MarkedBio) (n : ℕ)
    : Type 0 where
  pub full : IsSomeAnd (unit_in bios n) (IsFull (unit_sectors keys (named_at keys bios n).context))
  pub taken : Takes (named_at keys bios n).sector (named_at keys bios n).context

-- so many units from this number on are such
abbrev pub ArePerformable :
    List KeyData → (ℕ → Option Context → Type 0) → List MarkedBio → ℕ → ℕ → Type 0
ArePerformable keys Takes bios first count =
    (n : ℕ) → first ≤ n → n < first + count → IsPerformableUnit keys Takes bios n

-- the caller may have an entry more for each of so many units from this number on
abbrev pub HasSpareFor : AccessFacts → List MarkedBio → ℕ → ℕ → Type 0
HasSpareFor facts bios first count =
    (shard : ℕ) → count_units_on facts.shards shard (planned_part facts.keys bios first count) ≤ facts.spare shard

-- Private: this is unit number n, as the caller's.
abbrev pub IsUnitAt : AccessFacts → List MarkedBio → ℕ → UnitAt → Type 0
IsUnitAt facts bios n at =
    let unit = named_at facts.keys bios n in
    at ≡ record {
      caller = facts.caller;
      tag = unit.tag;
      unit = unit.unit;
      sector = unit.sector;
      context = unit.context;
    }

-- Private: it is there, and has its bytes.
abbrev pub IsSomeFull : Option Unit → Type 0
IsSomeFull None = ⊥
IsSomeFull (Some (Full bytes)) = ⊤
IsSomeFull (Some unit) = ⊥

-- Private: unit number n has another content.
abbrev pub HasOther : RequestParts → RequestParts → ℕ → Type 0
HasOther before after n = (unit : Unit) × (after ≡ with_unit n before unit)
