-- The units of a request, by its bios.
use Rattle.std.proofs.Common.{◌≡◌, ℕ, zero, suc, ◌+◌, ◌-◌, ◌<◌, Bool, false, cond, List, [], ◌∷◌, ◌++◌, length, map, refl, sym, ap, ◌∙◌, arith, Option}
use Rattle.std.specs.Prelude.{flat_map, nat_lt, slice_get, option_and_then}
use Rattle.std.specs.Option.{option_map_or, unwrap_or}
use Rattle.std.specs.List.{range_with_len}
use Rattle.std.proofs.lemmas.Bool.{ltb-true, false_from_ne_true}
use Rattle.std.proofs.lemmas.List.{map-append}
use Rattle.std.proofs.lemmas.List.FromFn.{length-map-range_with_len}
use Rattle.std.proofs.lemmas.List.Sums.{sum_by-cons}
use Rattle.bc_key.specs.KeyData.{KeyData}
use Rattle.bc_bio.specs.declared.access.Access.{Access}
use Rattle.bc_bio.specs.declared.access.Access.TheVariants.{Read}
use Rattle.bc_bio.specs.declared.unit.Unit.{Unit}
use Rattle.bc_bio.specs.declared.marked_bio.MarkedBio.{MarkedBio}
use Rattle.bc_bio.specs.declared.unit_place.UnitPlace.{UnitPlace}
use Rattle.bc_bio.specs.PlannedUnit.{PlannedUnit}
use Rattle.bc_bio.specs.Requests.{tagged_of, tagged_bios, place_of, place_in, unit_in}
use Rattle.bc_bio.specs.Windows.{NamedUnit, TaggedBio, count_units, named_unit, named_units, units_of_request}
use Rattle.bc_queue.specs.RequestUnits.{no_unit, named_at, access_at, written_bytes, planned_at, planned_part}
use Rattle.bc_queue.proofs.Lists.{range_split}
use Rattle.bc_pieces.specs.Becoming.{planned_in, planned_units}
use Rattle.bc_pieces.proofs.Becoming.{place_at, number_within, planned_is}

get_past : {X : Type 0} (xs ys : List X) (j : ℕ) → slice_get (xs ++ ys) (length xs + j) ≡ slice_get ys j
get_past [] ys j = ap (slice_get ys) (let same : 0 + j ≡ j = omega arith in same)
get_past (x ∷ xs) ys j = ap (slice_get (x ∷ xs ++ ys)) (let same : suc (length xs) + j ≡ suc (length xs + j) = omega arith in same) ∙ get_past xs ys j

map_ranges : {X : Type 0} (f g : ℕ → X) (a b count : ℕ) → ((j : ℕ) → j < count → f (a + j) ≡ g (b + j)) → map f (range_with_len a count) ≡ map g (range_with_len b count)
map_ranges f g a b zero same = refl
map_ranges f g a b (suc count) same =
    ap (λ x. x ∷ map f (range_with_len (a + 1) count)) (ap f (plus_none a) ∙ same 0 (omega arith) ∙ ap g (sym (plus_none b)))
    ∙ ap (λ l. g b ∷ l) (map_ranges f g (a + 1) (b + 1) count (λ j less. ap f (over a j) ∙ same (j + 1) (omega (arith, less)) ∙ ap g (sym (over b j))))
  where
    plus_none : (n : ℕ) → n ≡ n + 0
    plus_none n = omega arith

    over : (n j : ℕ) → n + 1 + j ≡ n + (j + 1)
    over n j = omega arith

module _ (keys : List KeyData) (marked : MarkedBio) (bios : List MarkedBio) (j : ℕ) where
  place_past : place_in (marked ∷ bios) (length marked.bio.units + j) ≡ record { bio = (place_in bios j).bio + 1; unit = (place_in bios j).unit }
  place_past =
      let u : ℕ = length marked.bio.units in
      let past : nat_lt (u + j) u ≡ false = false_from_ne_true (nat_lt (u + j) u) (λ t. let lt = ltb-true (u + j) u t in absurd (omega (arith, lt))) in
      let rest : u + j - u ≡ j = omega arith in
      ap (λ (b : Bool). let p : UnitPlace = cond b (record { bio = 0; unit = u + j }) (record { bio = (place_of (tagged_bios bios) (u + j - u)).bio + 1; unit = (place_of (tagged_bios bios) (u + j - u)).unit }) in p) past
      ∙ ap (λ (n : ℕ). let p : UnitPlace = record { bio = (place_of (tagged_bios bios) n).bio + 1; unit = (place_of (tagged_bios bios) n).unit } in p) rest

  bio_past : slice_get (marked ∷ bios) ((place_in bios j).bio + 1) ≡ slice_get bios (place_in bios j).bio
  bio_past = ap (slice_get (marked ∷ bios)) (let next : (place_in bios j).bio + 1 ≡ suc (place_in bios j).bio = omega arith in next)

  planned_past : planned_at keys (marked ∷ bios) (length marked.bio.units + j) ≡ planned_at keys bios j
  planned_past =
      let n : ℕ = length marked.bio.units + j in
      let t : TaggedBio = tagged_of marked.bio in
      let long = length-map-range_with_len (named_unit keys t) 0 (length marked.bio.units) in
      let here : n ≡ length (named_units keys t) + j = omega (arith, long) in
      let named : named_at keys (marked ∷ bios) n ≡ named_at keys bios j =
      ap (λ (k : ℕ). unwrap_or (slice_get (named_units keys t ++ units_of_request keys (tagged_bios bios)) k) no_unit) here
      ∙ ap (λ (o : Option NamedUnit). unwrap_or o no_unit) (get_past (named_units keys t) (units_of_request keys (tagged_bios bios)) j) in
      let access : access_at (marked ∷ bios) n ≡ access_at bios j =
      ap (λ (p : UnitPlace). option_map_or (λ (m : MarkedBio). m.bio.access) (slice_get (marked ∷ bios) p.bio) Read) place_past
      ∙ ap (λ (o : Option MarkedBio). option_map_or (λ (m : MarkedBio). m.bio.access) o Read) bio_past in
      let unit : unit_in (marked ∷ bios) n ≡ unit_in bios j =
      ap (λ (p : UnitPlace). option_and_then (λ (m : MarkedBio). slice_get m.bio.units p.unit) (slice_get (marked ∷ bios) p.bio)) place_past
      ∙ ap (λ (o : Option MarkedBio). option_and_then (λ (m : MarkedBio). slice_get m.bio.units (place_in bios j).unit) o) bio_past in
      ap (λ (u : NamedUnit). let p : PlannedUnit = record { tag = u.tag; unit = u.unit; access = access_at (marked ∷ bios) n; context = u.context; sector = u.sector; bytes = written_bytes (access_at (marked ∷ bios) n) (unit_in (marked ∷ bios) n) } in p) named
      ∙ ap (λ (a : Access). let p : PlannedUnit = record { tag = (named_at keys bios j).tag; unit = (named_at keys bios j).unit; access = a; context = (named_at keys bios j).context; sector = (named_at keys bios j).sector; bytes = written_bytes a (unit_in (marked ∷ bios) n) } in p) access
      ∙ ap (λ (x : Option Unit). let p : PlannedUnit = record { tag = (named_at keys bios j).tag; unit = (named_at keys bios j).unit; access = access_at bios j; context = (named_at keys bios j).context; sector = (named_at keys bios j).sector; bytes = written_bytes (access_at bios j) x } in p) unit

pub by_bios : (keys : List KeyData) (bios : List MarkedBio) → planned_part keys bios 0 (count_units (tagged_bios bios)) ≡ flat_map (λ marked. planned_units keys marked.bio) bios
by_bios keys [] = refl
by_bios keys (marked ∷ bios) =
    let t : TaggedBio = tagged_of marked.bio in
    let tagged : List TaggedBio = tagged_bios (marked ∷ bios) in
    let units : ℕ = length marked.bio.units in
    let rest : ℕ = count_units (tagged_bios bios) in
    let sum : count_units tagged ≡ units + rest = sum_by-cons (λ (x : TaggedBio). x.bio.units) t (tagged_bios bios) in
    let first : map (planned_at keys (marked ∷ bios)) (range_with_len 0 units) ≡ planned_units keys marked.bio =
    map_ranges (planned_at keys (marked ∷ bios)) (planned_in keys marked.bio) 0 0 units (λ j less.
    planned_is keys (marked ∷ bios) (0 + j) 0 j marked (place_at tagged 0 j t refl less) refl (number_within tagged 0 j t refl less)
    ∙ ap (planned_in keys marked.bio) (none j)) in
    let second : map (planned_at keys (marked ∷ bios)) (range_with_len (0 + units) rest) ≡ map (planned_at keys bios) (range_with_len 0 rest) =
    map_ranges (planned_at keys (marked ∷ bios)) (planned_at keys bios) (0 + units) 0 rest (λ j less.
    ap (planned_at keys (marked ∷ bios)) (no_more units j) ∙ planned_past keys marked bios j ∙ ap (planned_at keys bios) (none j)) in
    ap (planned_part keys (marked ∷ bios) 0) sum
    ∙ ap (map (planned_at keys (marked ∷ bios))) (range_split 0 units rest)
    ∙ map-append (planned_at keys (marked ∷ bios)) (range_with_len 0 units) (range_with_len (0 + units) rest)
    ∙ ap (λ l. l ++ map (planned_at keys (marked ∷ bios)) (range_with_len (0 + units) rest)) first
    ∙ ap (λ l. planned_units keys marked.bio ++ l) (second ∙ by_bios keys bios)
  where
    none : (n : ℕ) → n ≡ 0 + n
    none n = omega arith

    no_more : (n j : ℕ) → 0 + n + j ≡ n + j
    no_more n j = omega arith
