-- The outcome of a run: what the keyed disk answers and leaves where the units of each shard are
-- performed in its order. Shards have no common sector, so each order is performed from the opening
-- image, without the others.
use Rattle.bc_medium.specs.declared.unit_name.UnitName.{UnitName}
use Rattle.std.specs.Prelude.{ℕ, ◌/◌, Bool, true, false, ◌&&◌, ◌==◌, List, [], length, find, filter, filter_map, flat_map, zip, slice_index_or, Option, option_map}
use Rattle.std.specs.List.{range_with_len}
use Rattle.std.specs.Option.{option_map_or}
use Rattle.bc_key.specs.KeyData.{KeyData}
use Rattle.bc_bio.specs.declared.access.Access.{Access}
use Rattle.bc_bio.specs.declared.access.Access.TheVariants.{Read, Write}
use Rattle.bc_bio.specs.PlannedUnit.{PlannedUnit}
use Rattle.bc_medium.specs.Layout.{shard_of}
use Rattle.bc_medium.specs.KeyedDisk.{Sectors, image_sectors, bytes_at, UnitAnswer, Faulted, Text, disk_along, answers_along}
use Rattle.bc_medium.specs.LawfulOrders.{unit_name_of, is_same}

-- all that an outcome depends on
pub record Run : Type 0 where
  pub image : List ℕ
  pub keys : List KeyData
  pub plan : List (List PlannedUnit)
  pub faults : List (ℕ × ℕ)
  pub orders : List (List UnitName)

-- the unit has this name, within its thread's plan
abbrev pub is_named : UnitName → PlannedUnit → Bool
is_named name u = (u.tag == name.op) && (u.unit == name.unit)

-- the unit of the plan that has this name
abbrev pub unit_named : Run → UnitName → Option PlannedUnit
unit_named run name = find (is_named name) (slice_index_or run.plan name.thread [])

-- the units of a shard's order
abbrev pub units_on : Run → ℕ → List PlannedUnit
units_on run shard = filter_map (unit_named run) (slice_index_or run.orders shard [])

-- what a shard's order leaves on the disk
abbrev pub disk_of : Run → ℕ → Sectors
disk_of run shard =
    disk_along run.keys run.faults shard 0 (image_sectors run.image) (units_on run shard)

-- what the units of a shard's order answer, each by its name
abbrev pub answers_on : Run → ℕ → List (UnitName × UnitAnswer)
answers_on run shard =
    zip (slice_index_or run.orders shard [])
    (answers_along run.keys run.faults shard 0 (image_sectors run.image) (units_on run shard))

-- the answers of all units that were attempted
abbrev pub answers_of : Run → List (UnitName × UnitAnswer)
answers_of run = flat_map (answers_on run) (range_with_len 0 (length run.orders))

-- each sector as its own shard's order leaves it
abbrev pub final_image : Run → List ℕ
final_image run =
    bytes_at (λ s. disk_of run (shard_of (length run.orders) s) s) 0 (length run.image / 512)

-- what a bio answers
pub data BioAnswer : Type 0 where
  Wrote : BioAnswer
  Bytes : List ℕ → BioAnswer
  Fault : ℕ → BioAnswer

-- a unit met a fault
abbrev pub is_fault : UnitAnswer → Bool
is_fault Faulted = true
is_fault _ = false

-- the bytes that a unit answers, and none of one that was written or met a fault
abbrev pub answer_text : UnitAnswer → List ℕ
answer_text (Text bytes) = bytes
answer_text _ = []

-- this is the answer of a unit of this thread's operation
abbrev pub is_unit_of : ℕ → ℕ → UnitName × UnitAnswer → Bool
is_unit_of thread op (name, answer) = (name.thread == thread) && (name.op == op)

-- the answer of a unit of the plan, by name
abbrev pub unit_answer : Run → UnitName → Option UnitAnswer
unit_answer run name =
    option_map (λ at. at.1) (find (λ at. is_same at.0 name) (answers_of run))

-- the units of a bio with their answers, as far as they were attempted, by unit
abbrev pub answers_of_bio : Run → ℕ → ℕ → List UnitAnswer
answers_of_bio run thread op =
    filter_map (λ u. unit_answer run (unit_name_of thread u))
    (filter (λ u. u.tag == op) (slice_index_or run.plan thread []))

-- the unit of a bio that met a fault
abbrev pub fault_of : Run → ℕ → ℕ → Option ℕ
fault_of run thread op =
    option_map (λ at. at.0.unit)
    (find (λ at. is_unit_of thread op at && is_fault at.1) (answers_of run))

-- what a bio answers whose units met no fault
abbrev pub without_fault : Access → List UnitAnswer → BioAnswer
without_fault Write answers = Wrote
without_fault Read answers = Bytes (flat_map answer_text answers)

-- the answer of an accepted bio: the unit that met a fault, or all its bytes
abbrev pub bio_answer : Run → Access → ℕ → ℕ → BioAnswer
bio_answer run access thread op =
    option_map_or (λ unit. Fault unit) (fault_of run thread op)
    (without_fault access (answers_of_bio run thread op))
