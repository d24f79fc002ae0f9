-- Lawful orders: one list for each shard, which has each thread's attempted units there, each once,
-- as the thread issued them. A unit is attempted unless an earlier unit of its bio met a fault.
use Rattle.std.specs.Prelude.{◌≡◌, ℕ, ◌<◌, Bool, not, ◌&&◌, ◌==◌, nat_lt, List, [], map, length, filter, filter_map, slice_get, slice_index_or, Option, option_and_then}
use Rattle.std.specs.List.{list_any}
use Rattle.bc_bio.specs.PlannedUnit.{PlannedUnit}
use Rattle.bc_medium.specs.declared.unit_name.UnitName.{UnitName}
use Rattle.bc_medium.specs.Layout.{shard_of}

-- a unit of a thread's plan, by name
abbrev pub unit_name_of : ℕ → PlannedUnit → UnitName
unit_name_of thread u = record { thread = thread; op = u.tag; unit = u.unit }

-- two names of one unit
abbrev pub is_same : UnitName → UnitName → Bool
is_same u v = (u.thread == v.thread) && (u.op == v.op) && (u.unit == v.unit)

-- what stands at a place of the orders
abbrev pub at_place : List (List UnitName) → ℕ × ℕ → Option UnitName
at_place orders (shard, place) =
    option_and_then (λ order. slice_get order place) (slice_get orders shard)

-- the units that stand at a place of the fault plan
abbrev pub faulted : List (ℕ × ℕ) → List (List UnitName) → List UnitName
faulted faults orders = filter_map (at_place orders) faults

-- an earlier unit of the same bio
abbrev pub is_earlier : UnitName → UnitName → Bool
is_earlier u v = (u.thread == v.thread) && (u.op == v.op) && nat_lt u.unit v.unit

-- no earlier unit of its bio met a fault
abbrev pub is_attempted : List UnitName → UnitName → Bool
is_attempted met u = not (list_any (λ fault. is_earlier fault u) met)

-- the thread's attempted units on a shard, in the order of the list that is given: what the thread
-- issued
abbrev pub attempted_on :
    ℕ → List (List PlannedUnit) → List (ℕ × ℕ) → List (List UnitName) → ℕ → ℕ → List UnitName
attempted_on shards issued faults orders shard thread =
    let on_shard =
    filter (λ u. shard_of shards u.sector == shard) (slice_index_or issued thread []) in
    filter (is_attempted (faulted faults orders)) (map (unit_name_of thread) on_shard)

-- the entries of a thread in an order
abbrev pub entries_of : ℕ → List UnitName → List UnitName
entries_of thread order = filter (λ u. u.thread == thread) order

-- in each shard's list each thread's entries are its attempted units there
pub record LawfulOrders (shards : ℕ) (issued : List (List PlannedUnit)) (faults : List (ℕ × ℕ))
    (orders : List (List UnitName)) : Type 0 where
  pub one_for_each_shard : length orders ≡ shards
  pub as_issued : (shard thread : ℕ) → shard < shards
      → entries_of thread (slice_index_or orders shard [])
      ≡ attempted_on shards issued faults orders shard thread
