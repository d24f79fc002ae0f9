-- The plan of a script: for each thread the data units of its accepted bios, by operation and then
-- unit.
use Rattle.std.specs.Prelude.{ℕ, ◌+◌, ◌*◌, ◌≤◌, List, [], length, map, replicate, flat_map, slice_range, is_none, ⊤, if◌then◌else◌}
use Rattle.std.specs.List.{enumerate_from, range_with_len}
use Rattle.std.specs.Option.{option_map_or}
use Rattle.bc_key.specs.KeyData.{KeyData}
use Rattle.bc_bio.specs.declared.extent.Extent.{Extent}
use Rattle.bc_bio.specs.Extent.{unit_sectors, context_after}
use Rattle.bc_bio.specs.PlannedUnit.{PlannedUnit}
use Rattle.bc_script.specs.declared.op.Op.{Op}
use Rattle.bc_script.specs.declared.op.Op.TheVariants as ops
use Rattle.bc_script.specs.declared.op.Text.{Text}
use Rattle.bc_script.specs.declared.op.Text.TheVariants.{Fill, Bytes}
use Rattle.bc_script.specs.Script.{Script, keys_of}
use Rattle.bc_script.specs.Bios.{bio_of, refusal_of}

-- the bytes of unit i of a text, of so many bytes each
abbrev pub text_at : Text → ℕ → ℕ → List ℕ
text_at (Fill byte) size i = replicate size byte
text_at (Bytes bytes) size i = slice_range bytes (size * i) (size * i + size)

-- a text has bytes for this unit, of so many bytes each
abbrev pub HasUnit : Text → ℕ → ℕ → Type 0
HasUnit (Fill byte) size i = ⊤
HasUnit (Bytes bytes) size i = size * i + size ≤ length bytes

-- the bytes that unit i of an operation writes
abbrev pub written_at : Op → ℕ → ℕ → List ℕ
written_at (ops.Write context sector units text) size i = text_at text size i
written_at _ size i = []

-- unit i of a bio: i data units further on, with the number that is i higher
abbrev pub unit_at : List KeyData → ℕ → Op → Extent → ℕ → PlannedUnit
unit_at keys op operation bio i =
    let sectors = unit_sectors keys bio.context in record {
      tag = op;
      unit = i;
      access = bio.access;
      context = context_after i bio.context;
      sector = bio.sector + i * sectors;
      bytes = written_at operation (512 * sectors) i;
    }

-- the units of an accepted bio, and none of one that is refused
abbrev pub units_of_bio : Script → ℕ → Op → Extent → List PlannedUnit
units_of_bio script op operation bio =
    if is_none (refusal_of script bio)
    then map (unit_at (keys_of script) op operation bio) (range_with_len 0 bio.units) else []

-- the units of operation number op
abbrev pub units_of : Script → ℕ × Op → List PlannedUnit
units_of script (op, operation) = option_map_or (units_of_bio script op operation) (bio_of operation) []

-- the units of one thread
abbrev pub units_of_section : Script → List Op → List PlannedUnit
units_of_section script section = flat_map (units_of script) (enumerate_from 0 section)

-- the units of all threads, by the number of the thread
abbrev pub plan_of : Script → List (List PlannedUnit)
plan_of script = map (units_of_section script) script.threads
