-- How much each caller of a disk may add that is opened for a script: no less than its section asks
-- for.
use Rattle.std.specs.Prelude.{ℕ, ◌+◌, ◌*◌, ◌==◌, List, [], ◌∷◌, length, map, replicate, sum_by, if◌then◌else◌}
use Rattle.std.specs.List.{range_with_len}
use Rattle.std.specs.Option.{option_map_or}
use Rattle.bc_bio.specs.Extent.{unit_sectors}
use Rattle.bc_medium.specs.Layout.{shard_of}
use Rattle.bc_script.specs.declared.op.Op.{Op}
use Rattle.bc_script.specs.Script.{Script, keys_of}
use Rattle.bc_script.specs.Bios.{bio_of}

-- of so many units of these sectors each, from a sector on, how many lie in a shard
abbrev pub units_from : ℕ → ℕ → ℕ → ℕ → ℕ → ℕ
units_from shards shard sector sectors units =
    sum_by (λ i. if shard_of shards (sector + i * sectors) == shard then 1 else 0) (range_with_len 0 units)

-- how many units of an operation's bio lie in a shard, whether the bio is refused or not
abbrev pub units_of_op_on : Script → ℕ → ℕ → Op → ℕ
units_of_op_on script shards shard operation =
    option_map_or (λ bio. units_from shards shard bio.sector (unit_sectors (keys_of script) bio.context) bio.units)
    (bio_of operation) 0

-- how many entries the thread of a section may have at a shard: as many as its bios have units
-- there
abbrev pub unit_quota : Script → ℕ → ℕ → List Op → ℕ
unit_quota script shards shard section = sum_by (units_of_op_on script shards shard) section

-- and at each shard
abbrev pub unit_row : Script → ℕ → List Op → List ℕ
unit_row script shards section = map (λ shard. unit_quota script shards shard section) (range_with_len 0 shards)

-- the sections of a disk's callers: where a script has none, a caller with nothing to do
abbrev pub sections_of : List (List Op) → List (List Op)
sections_of [] = [] ∷ []
sections_of (section ∷ sections) = section ∷ sections

-- by caller, how many entries it may have at each shard
abbrev pub unit_rows : Script → ℕ → List (List ℕ)
unit_rows script shards = map (unit_row script shards) (sections_of script.threads)

-- how many events a caller of this section may make on each device: two for each operation
abbrev pub event_row : Script → List Op → List ℕ
event_row script section = replicate (length script.targets) (2 * length section)

-- the same by caller
abbrev pub event_rows : Script → List (List ℕ)
event_rows script = map (event_row script) (sections_of script.threads)
