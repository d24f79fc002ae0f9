-- Laws of bios: the size of a data unit, where an aligned one lies, and what is known of a bio that
-- no test refuses.
use Rattle.std.specs.Prelude.{◌≡◌, ℕ, ◌+◌, ◌/◌, ◌%◌, ◌^◌, ◌<◌, List, Option, None}
use Rattle.bc_base.specs.declared.geometry.TheConstants.{BLOCK_SECTORS}
use Rattle.bc_key.specs.KeyData.{KeyData}
use Rattle.bc_key.specs.DataUnits.{IsUnitSize}
use Rattle.bc_bio.specs.declared.context.Context.{Context}
use Rattle.bc_bio.specs.declared.extent.Extent.{Extent}
use Rattle.bc_bio.specs.Extent.{unit_sectors, sector_at}
use Rattle.bc_bio.specs.Check.{check_of}
use Rattle.bc_bio.specs.Conditions.{HasKey, IsAccepted}

-- a data unit under any key or none has 1, 2, 4 or 8 sectors
abbrev pub UnitsHaveSizes : Type 0
UnitsHaveSizes =
    (keys : List KeyData) (context : Option Context) → IsUnitSize (unit_sectors keys context)

-- each data unit of an aligned bio lies in one block, and so in one shard: all its sectors are in
-- its first one's block
abbrev pub UnitsLieInBlocks : Type 0
UnitsLieInBlocks =
    (keys : List KeyData) (bio : Extent) (i j : ℕ)
    → bio.sector % unit_sectors keys bio.context ≡ 0 → j < unit_sectors keys bio.context
    → (sector_at keys bio i + j) / BLOCK_SECTORS ≡ sector_at keys bio i / BLOCK_SECTORS

-- a bio under one of the keys that no test refuses is accepted
abbrev pub UnrefusedIsAccepted : Type 0
UnrefusedIsAccepted =
    (keys : List KeyData) (sectors : ℕ) (bio : Extent)
    → HasKey keys bio.context → sectors < 2 ^ 32 → check_of keys sectors bio ≡ None
    → IsAccepted keys sectors bio
