-- Private: how a request finds the bio of a unit.
use Rattle.std.specs.Prelude.{◌≡◌, ℕ, zero, suc, ◌+◌, ◌^◌, ◌<◌, ◌≤◌, true, false, nat_le, List, [], ◌∷◌, length, Some, slice_get, slice_index}
use Rattle.std.specs.List.Sorted.{IsPartitionPoint}
use Rattle.bc_bio.specs.declared.marked_bio.MarkedBio.{MarkedBio}
use Rattle.bc_bio.specs.declared.unit_place.UnitPlace.{UnitPlace}
use Rattle.bc_bio.specs.Windows.{TaggedBio, count_units}
use Rattle.bc_bio.specs.Requests.{place_in}

-- how many units there are up to the end of each bio, where so many come before
abbrev pub ends_after : ℕ → List TaggedBio → List ℕ
ends_after before [] = []
ends_after before (tagged ∷ bios) = (before + tagged.bio.units) ∷ ends_after (before + tagged.bio.units) bios

-- how many units come before this bio, where so many come before the first
abbrev pub begin_of : ℕ → List ℕ → ℕ → ℕ
begin_of before ends zero = before
begin_of before ends (suc bio) = slice_index ends bio

-- the bios below this one end at unit number n or before it, and the others after it
abbrev pub IsPartition : List ℕ → ℕ → ℕ → Type 0
IsPartition ends n bio = IsPartitionPoint (λ end. nat_le end n ≡ true) (λ end. nat_le end n ≡ false) ends bio

-- a request has these ends, and room for one with each bio
pub record HasEnds (bios : List TaggedBio) (room : ℕ) (ends : List ℕ) (ends_room : ℕ) : Type 0 where
  pub ends_are : ends ≡ ends_after 0 bios
  pub ends_fit : count_units bios < 2 ^ 32
  pub room_for_each : room ≤ ends_room

-- the place of unit number n was found
pub record IsFound (bios : List MarkedBio) (n : ℕ) (place : UnitPlace) : Type 0 where
  pub place_is : place ≡ place_in bios n
  pub in_request : place.bio < length bios
  pub in_bio : (marked : MarkedBio) → slice_get bios place.bio ≡ Some marked → place.unit < length marked.bio.units
