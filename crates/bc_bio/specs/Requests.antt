-- Requests: bios, each with the first of its units that met a fault.
use Rattle.std.specs.Prelude.{ℕ, ◌+◌, ◌-◌, Bool, false, nat_lt, List, [], ◌∷◌, ◌++◌, map, min, Option, Some, None, option_and_then, slice_get, slice_set, if◌then◌else◌}
use Rattle.std.specs.Option.{option_map_or}
use Rattle.bc_key.specs.KeyData.{KeyData}
use Rattle.bc_bio.specs.declared.bio.Bio.{Bio}
use Rattle.bc_bio.specs.declared.unit.Unit.{Unit}
use Rattle.bc_bio.specs.declared.reply.Reply.{Reply}
use Rattle.bc_bio.specs.declared.reply.Reply.TheVariants as replies
use Rattle.bc_bio.specs.declared.marked_bio.MarkedBio.{MarkedBio}
use Rattle.bc_bio.specs.declared.unit_place.UnitPlace.{UnitPlace}
use Rattle.bc_bio.specs.BioUnits.{extent_of}
use Rattle.bc_bio.specs.Conditions.{IsPlaced}
use Rattle.bc_bio.specs.Windows.{TaggedBio}

-- a request: its bios, and how many more it takes without memory
pub record RequestParts : Type 0 where
  pub bios : List MarkedBio
  pub spare : ℕ

-- a bio by its tag and its extent
abbrev pub tagged_of : Bio → TaggedBio
tagged_of bio = record { tag = bio.tag; bio = extent_of bio }

-- bios by their tags and extents
abbrev pub tagged_bios : List MarkedBio → List TaggedBio
tagged_bios bios = map (λ marked. tagged_of marked.bio) bios

-- a bio that has met no fault
abbrev pub unmarked : Bio → MarkedBio
unmarked bio = record { bio = bio; fault = None }

-- a request with one more bio
abbrev pub with_bio : Bio → RequestParts → RequestParts
with_bio bio request = record { bios = request.bios ++ unmarked bio ∷ []; spare = request.spare - 1 }

-- under some keys the bio can be placed
abbrev pub CanBePlaced : Bio → Type 0
CanBePlaced bio = (keys : List KeyData) × IsPlaced keys (extent_of bio)

-- where unit number n stands: in which bio, and which of its units it is
abbrev pub place_of : List TaggedBio → ℕ → UnitPlace
place_of [] n = record { bio = 0; unit = n }
place_of (tagged ∷ bios) n =
    if nat_lt n tagged.bio.units then record { bio = 0; unit = n }
    else (let place = place_of bios (n - tagged.bio.units) in record { bio = place.bio + 1; unit = place.unit })

-- the place of a unit of these bios
abbrev pub place_in : List MarkedBio → ℕ → UnitPlace
place_in bios n = place_of (tagged_bios bios) n

-- the bio of unit number n, changed
abbrev pub with_bio_of : List MarkedBio → ℕ → (MarkedBio → MarkedBio) → List MarkedBio
with_bio_of bios n change =
    option_map_or (λ marked. slice_set bios (place_in bios n).bio (change marked))
    (slice_get bios (place_in bios n).bio) bios

-- the first of two units that met a fault
abbrev pub first_fault : ℕ → Option ℕ → ℕ
first_fault unit None = unit
first_fault unit (Some fault) = min unit fault

-- the request after a fault of unit number n
abbrev pub with_fault : ℕ → RequestParts → RequestParts
with_fault n request = record request {
  bios = with_bio_of request.bios n (λ marked. record marked {
    fault = Some (first_fault (place_in request.bios n).unit marked.fault);
  });
}

-- an earlier unit met a fault
abbrev pub is_after : ℕ → Option ℕ → Bool
is_after unit None = false
is_after unit (Some fault) = nat_lt fault unit

-- an earlier unit of the bio of unit number n met a fault
abbrev pub is_over : List MarkedBio → ℕ → Bool
is_over bios n =
    option_map_or (λ marked. is_after (place_in bios n).unit marked.fault) (slice_get bios (place_in bios n).bio) false

-- unit number n, as it is
abbrev pub unit_in : List MarkedBio → ℕ → Option Unit
unit_in bios n =
    option_and_then (λ marked. slice_get marked.bio.units (place_in bios n).unit) (slice_get bios (place_in bios n).bio)

-- the request with another content of unit number n
abbrev pub with_unit : ℕ → RequestParts → Unit → RequestParts
with_unit n request unit = record request {
  bios = with_bio_of request.bios n (λ marked. record marked {
    bio = record marked.bio { units = slice_set marked.bio.units (place_in request.bios n).unit unit };
  });
}

-- what becomes of a bio
abbrev pub reply_of : MarkedBio → Reply
reply_of marked = option_map_or (λ unit. replies.Fault unit marked.bio) marked.fault (replies.Done marked.bio)
