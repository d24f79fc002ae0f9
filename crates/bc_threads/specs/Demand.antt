-- How much operations ask of a disk: entries of each shard, and events of each device.
use Rattle.std.specs.Prelude.{ℕ, ◌==◌, List, flat_map, sum_by, if◌then◌else◌}
use Rattle.bc_queue.specs.RequestUnits.{count_units_on}
use Rattle.bc_script.specs.declared.op.Op.{Op}
use Rattle.bc_script.specs.declared.op.Op.TheVariants as ops
use Rattle.bc_script.specs.Script.{Script}
use Rattle.bc_script.specs.Bios.{is_inline}
use Rattle.bc_script.specs.Plan.{units_of}
use Rattle.bc_report.specs.Counts.{touches_any}

-- an entry for each of their units that lies in the shard
abbrev pub entries_asked : Script → ℕ → List (ℕ × Op) → ℕ → ℕ
entries_asked script shards operations shard = count_units_on shards shard (flat_map (units_of script) operations)

-- two events for an accepted inline bio that touches the device, one for an eviction of a key that
-- goes inline, and one for a reset of the device
abbrev pub events_of_one : Script → ℕ → ℕ × Op → ℕ
events_of_one script device (op, ops.Evict key) = if is_inline script key then 1 else 0
events_of_one script device (op, ops.Reset other) = if other == device then 1 else 0
events_of_one script device operation = if touches_any script device operation then 2 else 0

-- those of all of them
abbrev pub events_asked : Script → List (ℕ × Op) → ℕ → ℕ
events_asked script operations device = sum_by (events_of_one script device) operations
