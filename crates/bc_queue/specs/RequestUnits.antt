-- The data units of a request by their numbers, as units of a plan; and what faults of units mark in it.
use Rattle.std.specs.Prelude.{ℕ, ◌==◌, Bool, not, List, [], map, filter, fold, length, zip, Option, Some, None}
use Rattle.std.specs.Prelude.{slice_get, slice_set, slice_index_or}
use Rattle.std.specs.List.{range_with_len}
use Rattle.std.specs.Option.{option_map_or, unwrap_or}
use Rattle.bc_key.specs.KeyData.{KeyData}
use Rattle.bc_bio.specs.declared.access.Access.{Access}
use Rattle.bc_bio.specs.declared.access.Access.TheVariants.{Read, Write}
use Rattle.bc_bio.specs.declared.unit.Unit.{Unit}
use Rattle.bc_bio.specs.declared.unit.Unit.TheVariants.{Full}
use Rattle.bc_bio.specs.declared.marked_bio.MarkedBio.{MarkedBio}
use Rattle.bc_bio.specs.PlannedUnit.{PlannedUnit}
use Rattle.bc_bio.specs.Windows.{TaggedBio, NamedUnit, units_of_request}
use Rattle.bc_bio.specs.Requests.{tagged_bios, place_of, place_in, first_fault, is_over, unit_in}
use Rattle.bc_medium.specs.declared.entry.Entry.{Entry}
use Rattle.bc_medium.specs.Layout.{shard_of}

-- what stands for a unit where there is none
abbrev pub no_unit : NamedUnit
no_unit = record { tag = 0; unit = 0; sector = 0; context = None }

-- unit number n of a request: its bio's tag, its number there, and where it lies
abbrev pub named_at : List KeyData → List MarkedBio → ℕ → NamedUnit
named_at keys bios n = unwrap_or (slice_get (units_of_request keys (tagged_bios bios)) n) no_unit

-- whether it is read or written: what its bio says
abbrev pub access_at : List MarkedBio → ℕ → Access
access_at bios n = option_map_or (λ marked. marked.bio.access) (slice_get bios (place_in bios n).bio) Read

-- what a write of it writes, in the clear
abbrev pub written_bytes : Access → Option Unit → List ℕ
written_bytes Write (Some (Full bytes)) = bytes
written_bytes _ _ = []

-- unit number n of a request, as a unit of a plan
abbrev pub planned_at : List KeyData → List MarkedBio → ℕ → PlannedUnit
planned_at keys bios n =
    let unit = named_at keys bios n in record {
      tag = unit.tag;
      unit = unit.unit;
      access = access_at bios n;
      context = unit.context;
      sector = unit.sector;
      bytes = written_bytes (access_at bios n) (unit_in bios n);
    }

-- so many units of a request from this number on
abbrev pub planned_part : List KeyData → List MarkedBio → ℕ → ℕ → List PlannedUnit
planned_part keys bios first count = map (planned_at keys bios) (range_with_len first count)

-- how many of these units lie in a shard
abbrev pub count_units_on : ℕ → ℕ → List PlannedUnit → ℕ
count_units_on shards shard units = length (filter (λ u. shard_of shards u.sector == shard) units)

-- of each bio, the first of its units that met a fault
abbrev pub faults_of : List MarkedBio → List (Option ℕ)
faults_of bios = map (λ marked. marked.fault) bios

-- the same, after a fault of unit number n: it marks its own bio, and no other
abbrev pub with_fault_at : List TaggedBio → List (Option ℕ) → ℕ → List (Option ℕ)
with_fault_at tagged faults n =
    let place = place_of tagged n in
    slice_set faults place.bio (Some (first_fault place.unit (slice_index_or faults place.bio None)))

-- the same, after faults of units with these numbers
abbrev pub with_faults : List TaggedBio → List (Option ℕ) → List ℕ → List (Option ℕ)
with_faults tagged faults numbers = fold (with_fault_at tagged) faults numbers

-- of so many units from this number on, the numbers of those of whose bio no earlier unit met a fault
abbrev pub attempted_in : List MarkedBio → ℕ → ℕ → List ℕ
attempted_in bios first count = filter (λ n. not (is_over bios n)) (range_with_len first count)

-- the numbers of the units whose entries failed
abbrev pub failed_among : List ℕ → List Entry → List ℕ
failed_among numbers es = map (λ made. made.0) (filter (λ made. made.1.failed) (zip numbers es))
