-- The two parts of a bio that is cut after so many of its units, and two bios joined to one.
use Rattle.std.specs.Prelude.{ℕ, ◌+◌, ◌*◌, ◌++◌, List, take, drop}
use Rattle.bc_key.specs.KeyData.{KeyData}
use Rattle.bc_bio.specs.declared.bio.Bio.{Bio}
use Rattle.bc_bio.specs.Extent.{unit_sectors}
use Rattle.bc_bio.specs.BioUnits.{context_wrapped}

-- the first units
abbrev pub first_part : ℕ → Bio → Bio
first_part count bio = record bio { units = take count bio.units }

-- the other units, from their own sector and their own number on
abbrev pub second_part : List KeyData → ℕ → Bio → Bio
second_part keys count bio = record bio {
  sector = bio.sector + count * unit_sectors keys bio.context;
  units = drop count bio.units;
  context = context_wrapped count bio.context;
}

-- one bio with the units of both, from the place of the first one on
abbrev pub joined_bio : Bio → Bio → Bio
joined_bio first second = record first { units = first.units ++ second.units }
