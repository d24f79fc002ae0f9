-- What a window of bios becomes: requests of bios that run on, and the data units of a request.
-- Bios are merged only where their data unit numbers run on, as in Linux's
-- Documentation/block/inline-encryption.rst.
use Rattle.std.specs.Prelude.{ℕ, ◌+◌, ◌*◌, Bool, List, Option, map, flat_map, sum_by}
use Rattle.std.specs.List.{range_with_len, AllByRecursion}
use Rattle.bc_key.specs.KeyData.{KeyData}
use Rattle.bc_bio.specs.declared.context.Context.{Context}
use Rattle.bc_bio.specs.declared.extent.Extent.{Extent}
use Rattle.bc_bio.specs.Extent.{unit_sectors}
use Rattle.bc_bio.specs.BioUnits.{context_wrapped}
use Rattle.bc_bio.specs.BackRuns.{back_runs_on}
use Rattle.bc_bio.specs.Chunks.{chunk_by, Linked}
use Rattle.bc_bio.specs.Conditions.{IsPlaced}

-- a bio without its bytes, and its owner's name for it
pub record TaggedBio : Type 0 where
  pub tag : ℕ
  pub bio : Extent

-- a data unit of a bio: the bio's tag, its number there, and where it lies
pub record NamedUnit : Type 0 where
  pub tag : ℕ
  pub unit : ℕ
  pub sector : ℕ
  pub context : Option Context

-- unit number i of a bio
abbrev pub named_unit : List KeyData → TaggedBio → ℕ → NamedUnit
named_unit keys tagged i = record {
  tag = tagged.tag;
  unit = i;
  sector = tagged.bio.sector + i * unit_sectors keys tagged.bio.context;
  context = context_wrapped i tagged.bio.context;
}

-- the units of a bio, in order
abbrev pub named_units : List KeyData → TaggedBio → List NamedUnit
named_units keys tagged = map (named_unit keys tagged) (range_with_len 0 tagged.bio.units)

-- the units of a request: those of its bios, in order
abbrev pub units_of_request : List KeyData → List TaggedBio → List NamedUnit
units_of_request keys bios = flat_map (named_units keys) bios

-- how many units that are
abbrev pub count_units : List TaggedBio → ℕ
count_units bios = sum_by (λ tagged. tagged.bio.units) bios

-- the second bio runs on at the back of the first
abbrev pub joins : List KeyData → TaggedBio → TaggedBio → Bool
joins keys first second = back_runs_on keys first.bio second.bio

-- the requests of a window: neighbours join where the second runs on at the back of the first
abbrev pub requests_of : List KeyData → List TaggedBio → List (List TaggedBio)
requests_of keys window = chunk_by (joins keys) window

-- the bios make a request under these keys
pub record IsRequest (keys : List KeyData) (bios : List TaggedBio) : Type 0 where
  pub placed : AllByRecursion (λ tagged. IsPlaced keys tagged.bio) bios
  pub joined : Linked (joins keys) bios
