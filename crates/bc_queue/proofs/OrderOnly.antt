-- Requests of the tests' bios can be carried out on the tests' disk.
use Rattle.std.proofs.Common.{◌≡◌, ℕ, suc, ◌+◌, ◌-◌, ◌^◌, ◌<◌, ◌≤◌, Bool, true, false, cond, List, [], ◌∷◌, length, get_or, refl, sym, ap, subst, ◌∙◌, arith, Option, Some, None}
use Rattle.std.specs.Prelude.{IsSomeAnd, slice_get, nat_lt, option_and_then, filter, ◌==◌, if◌then◌else◌}
use Rattle.std.specs.Option.{unwrap_or}
use Rattle.std.specs.List.{range_with_len}
use Rattle.std.proofs.lemmas.Bool.{ltb-true, ltb-false}
use Rattle.std.proofs.lemmas.List.{length-map}
use Rattle.std.proofs.lemmas.List.Sums.{sum_by-cons}
use Rattle.std.proofs.lemmas.List.FromFn.{length-range_with_len}
use Rattle.bc_base.specs.Lists.{At}
use Rattle.bc_base.proofs.Lists.{each_at}
use Rattle.bc_bio.specs.declared.unit.Unit.{Unit}
use Rattle.bc_bio.specs.declared.unit.Unit.TheVariants.{Full}
use Rattle.std.proofs.lemmas.Option.{slice_get-get_or}
use Rattle.bc_bio.specs.declared.context.Context.{Context}
use Rattle.bc_bio.specs.declared.marked_bio.MarkedBio.{MarkedBio}
use Rattle.bc_bio.specs.declared.unit_place.UnitPlace.{UnitPlace}
use Rattle.bc_bio.specs.BioUnits.{context_wrapped}
use Rattle.bc_bio.specs.Conditions.{IsFull}
use Rattle.bc_bio.specs.Extent.{unit_sectors}
use Rattle.bc_bio.specs.PlannedUnit.{PlannedUnit}
use Rattle.bc_bio.specs.Windows.{TaggedBio, NamedUnit, count_units}
use Rattle.bc_bio.specs.Requests.{tagged_of, tagged_bios, place_of, place_in, unit_in}
use Rattle.bc_bio.proofs.RequestLaws.{unit_found}
use Rattle.bc_medium.specs.Layout.{shard_of}
use Rattle.bc_queue.specs.RequestUnits.{named_at, no_unit, planned_at, planned_part, count_units_on}
use Rattle.bc_queue.specs.Carrying.{IsPerformableUnit}
use Rattle.bc_queue.specs.OrderOnly.{IsPlainBio, ArePlain}
use Rattle.bc_queue.proofs.Lists.{get_or_map}
use Rattle.bc_queue.proofs.Names.{no_bio}

-- a unit that is within stands in a bio, among its units
pub record Stands (bios : List MarkedBio) (n : ℕ) : Type 0 where
  pub marked : MarkedBio
  pub bio_at : At bios (place_in bios n).bio marked
  pub within : (place_in bios n).unit < length marked.bio.units

abbrev place_by : MarkedBio → List MarkedBio → ℕ → Bool → UnitPlace
place_by m bios n b = cond b (record { bio = 0; unit = n }) (record { bio = (place_of (tagged_bios bios) (n - length m.bio.units)).bio + 1; unit = (place_of (tagged_bios bios) (n - length m.bio.units)).unit })

stands : (bios : List MarkedBio) (n : ℕ) → n < count_units (tagged_bios bios) → Stands bios n
stands [] n less = absurd (omega arith)
stands (m ∷ bios) n less = at (nat_lt n (length m.bio.units)) refl (stands bios (n - length m.bio.units))
  where
    of_place : (b : Bool) → nat_lt n (length m.bio.units) ≡ b → (marked : MarkedBio) → At (m ∷ bios) (place_by m bios n b).bio marked → (place_by m bios n b).unit < length marked.bio.units → Stands (m ∷ bios) n
    of_place b is marked bio_at within = record {
      marked = marked;
      bio_at = subst (λ (c : Bool). At (m ∷ bios) (place_by m bios n c).bio marked) (sym is) bio_at;
      within = subst (λ (c : Bool). (place_by m bios n c).unit < length marked.bio.units) (sym is) within;
    }

    next : (k : ℕ) (marked : MarkedBio) → At bios k marked → At (m ∷ bios) (k + 1) marked
    next k marked at = let suc_k : k + 1 ≡ suc k = omega arith in subst (λ j. At (m ∷ bios) j marked) (sym suc_k) at

    at : (b : Bool) → nat_lt n (length m.bio.units) ≡ b → (n - length m.bio.units < count_units (tagged_bios bios) → Stands bios (n - length m.bio.units)) → Stands (m ∷ bios) n
    at true is later = of_place true is m refl (ltb-true n (length m.bio.units) is)
    at false is later =
        let past : length m.bio.units ≤ n = ltb-false n (length m.bio.units) is in
        let all : count_units (tagged_bios (m ∷ bios)) ≡ length m.bio.units + count_units (tagged_bios bios) = sum_by-cons (λ (x : TaggedBio). x.bio.units) (tagged_of m.bio) (tagged_bios bios) in
        let s = later (omega (arith, past, all, less)) in
        of_place false is s.marked (next (place_in bios (n - length m.bio.units)).bio s.marked s.bio_at) s.within

pub performable : (bios : List MarkedBio) (n : ℕ) → ArePlain bios → n < count_units (tagged_bios bios) → IsPerformableUnit [] (λ sector context. context ≡ None) bios n
performable bios n are less =
    let s = stands bios n less in
    let plain : IsPlainBio s.marked.bio = each_at (λ (m : MarkedBio). IsPlainBio m.bio) bios (place_in bios n).bio s.marked are s.bio_at in
    let tagged : get_or (tagged_bios bios) (place_in bios n).bio no_bio ≡ tagged_of s.marked.bio = get_or_map (λ (m : MarkedBio). tagged_of m.bio) bios (place_in bios n).bio s.marked no_bio s.bio_at in
    let named : (named_at [] bios n).context ≡ None =
    ap (λ (o : Option NamedUnit). (unwrap_or o no_unit).context) (unit_found [] (tagged_bios bios) n no_bio less)
    ∙ ap (λ (t : TaggedBio). context_wrapped (place_in bios n).unit t.bio.context) tagged
    ∙ ap (λ (o : Option Context). context_wrapped (place_in bios n).unit o) plain.no_key in
    of_unit s plain named
  where
    of_unit : (s : Stands bios n) → IsPlainBio s.marked.bio → (named_at [] bios n).context ≡ None → IsPerformableUnit [] (λ sector context. context ≡ None) bios n
    of_unit s plain named =
        let there : slice_get s.marked.bio.units (place_in bios n).unit ≡ Some (get_or s.marked.bio.units (place_in bios n).unit (Full [])) = slice_get-get_or s.marked.bio.units (place_in bios n).unit (Full []) s.within in
        let unit : unit_in bios n ≡ Some (get_or s.marked.bio.units (place_in bios n).unit (Full [])) = ap (λ (o : Option MarkedBio). option_and_then (λ (m : MarkedBio). slice_get m.bio.units (place_in bios n).unit) o) s.bio_at ∙ there in
        let is : IsFull 1 (get_or s.marked.bio.units (place_in bios n).unit (Full [])) = each_at (IsFull 1) s.marked.bio.units (place_in bios n).unit (get_or s.marked.bio.units (place_in bios n).unit (Full [])) plain.full there in record {
          full = subst (λ (o : Option Unit). IsSomeAnd o (IsFull (unit_sectors [] (named_at [] bios n).context))) (sym unit) (subst (λ (c : Option Context). IsFull (unit_sectors [] c) (get_or s.marked.bio.units (place_in bios n).unit (Full []))) (sym named) is);
          taken = named;
        }

few : {A : Type 0} (p : A → Bool) (xs : List A) → length (filter p xs) ≤ length xs
few p [] = omega arith
few p (x ∷ xs) = of_bool (p x) (few p xs)
  where
    of_bool : (b : Bool) → length (filter p xs) ≤ length xs → length (cond b (x ∷ filter p xs) (filter p xs)) ≤ suc (length xs)
    of_bool true less = omega (arith, less)
    of_bool false less = omega (arith, less)

pub spare_for_all : (bios : List MarkedBio) (count spare shard : ℕ) → count ≤ spare → count < 2 ^ 32 → count_units_on 1 shard (planned_part [] bios 0 count) ≤ (if shard == 0 then spare else 2 ^ 32)
spare_for_all bios count spare shard less small =
    let most : count_units_on 1 shard (planned_part [] bios 0 count) ≤ length (planned_part [] bios 0 count) = few (λ (u : PlannedUnit). shard_of 1 u.sector == shard) (planned_part [] bios 0 count) in
    let many : length (planned_part [] bios 0 count) ≡ count = length-map (range_with_len 0 count) (planned_at [] bios) ∙ length-range_with_len 0 count in
    of_bool (shard == 0) (omega (arith, most, many))
  where
    of_bool : (b : Bool) → count_units_on 1 shard (planned_part [] bios 0 count) ≤ count → count_units_on 1 shard (planned_part [] bios 0 count) ≤ (if b then spare else 2 ^ 32)
    of_bool true most = omega (arith, most, less)
    of_bool false most = omega (arith, most, small)
