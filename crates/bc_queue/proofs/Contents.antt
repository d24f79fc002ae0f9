-- The units of a request: where each stands, and what putting a content into one, or marking one, does to all.
use Rattle.std.proofs.Common.{◌≡◌, ◌≢◌, ℕ, zero, suc, ◌+◌, ◌-◌, ◌<◌, ◌≤◌, ◌⊎◌, inl, inr, Bool, true, false, cond, List, [], ◌∷◌, ◌++◌, length, map, set, get_or, refl, sym, ap, subst, ◌∙◌, arith, Option, Some, None}
use Rattle.std.specs.Prelude.{slice_get, nat_lt, option_and_then}
use Rattle.std.specs.Option.{option_map, option_map_or}
use Rattle.std.proofs.Math.Logic.{⊎_elim}
use Rattle.std.proofs.lemmas.Bool.{ltb-true, ltb-false, cases_eq, cases_Bool}
use Rattle.std.proofs.lemmas.Option.{none-some, same_Some}
use Rattle.bc_base.specs.Lists.{At}
use Rattle.bc_bio.specs.declared.bio.Bio.{Bio}
use Rattle.bc_bio.specs.declared.unit.Unit.{Unit}
use Rattle.bc_bio.specs.declared.marked_bio.MarkedBio.{MarkedBio}
use Rattle.bc_bio.specs.declared.unit_place.UnitPlace.{UnitPlace}
use Rattle.bc_bio.specs.Windows.{TaggedBio}
use Rattle.bc_bio.specs.Requests.{RequestParts, tagged_of, tagged_bios, place_of, place_in, with_bio_of, with_fault, first_fault, unit_in, with_unit}
use Rattle.bc_queue.specs.RequestUnits.{faults_of, with_fault_at}
use Rattle.bc_queue.proofs.Lists.{get_set_other, map-set, map-set_same, get_map, get_or_map}
use Rattle.bc_base.proofs.Members.{at_set, length-set}

-- ---- places

-- how many units stand before this bio
abbrev pub before : List TaggedBio → ℕ → ℕ
before tagged zero = 0
before [] (suc k) = 0
before (t ∷ tagged) (suc k) = t.bio.units + before tagged k

-- a unit's number by its place
pub number_of_place : (tagged : List TaggedBio) (n : ℕ) → before tagged (place_of tagged n).bio + (place_of tagged n).unit ≡ n
number_of_place [] n = zero_plus n
  where
    zero_plus : (n : ℕ) → 0 + n ≡ n
    zero_plus n = omega arith
number_of_place (t ∷ tagged) n = at (nat_lt n t.bio.units) refl (number_of_place tagged (n - t.bio.units))
  where
    zero_plus : (n : ℕ) → 0 + n ≡ n
    zero_plus n = omega arith

    moved : (k u : ℕ) → before tagged k + u ≡ n - t.bio.units → t.bio.units ≤ n → before (t ∷ tagged) (k + 1) + u ≡ n
    moved k u is past =
        let next : k + 1 ≡ suc k = omega arith in
        ap (λ j. before (t ∷ tagged) j + u) next ∙ omega (arith, is, past)

    at : (b : Bool) → nat_lt n t.bio.units ≡ b → before tagged (place_of tagged (n - t.bio.units)).bio + (place_of tagged (n - t.bio.units)).unit ≡ n - t.bio.units →
        let p : UnitPlace = cond b (record { bio = 0; unit = n }) (record { bio = (place_of tagged (n - t.bio.units)).bio + 1; unit = (place_of tagged (n - t.bio.units)).unit }) in
        before (t ∷ tagged) p.bio + p.unit ≡ n
    at true is later = zero_plus n
    at false is later = moved (place_of tagged (n - t.bio.units)).bio (place_of tagged (n - t.bio.units)).unit later (ltb-false n t.bio.units is)

-- two units at one place are one
pub same_number : (tagged : List TaggedBio) (n m : ℕ) → (place_of tagged m).bio ≡ (place_of tagged n).bio → (place_of tagged m).unit ≡ (place_of tagged n).unit → m ≡ n
same_number tagged n m bio unit =
    sym (number_of_place tagged m) ∙ ap (λ k. before tagged k + (place_of tagged m).unit) bio ∙ ap (λ u. before tagged (place_of tagged n).bio + u) unit ∙ number_of_place tagged n

-- of two units of one bio the one with the lower number comes first
pub in_order : (tagged : List TaggedBio) (n m : ℕ) → (place_of tagged m).bio ≡ (place_of tagged n).bio → m ≤ n → (place_of tagged m).unit ≤ (place_of tagged n).unit
in_order tagged n m bio less =
    let m_is : before tagged (place_of tagged n).bio + (place_of tagged m).unit ≡ m = ap (λ k. before tagged k + (place_of tagged m).unit) (sym bio) ∙ number_of_place tagged m in
    omega (arith, m_is, number_of_place tagged n, less)

-- ---- one unit

-- a unit that is there, with its bio
pub record Found (bios : List MarkedBio) (n : ℕ) (unit : Unit) : Type 0 where
  pub marked : MarkedBio
  pub bio_at : At bios (place_in bios n).bio marked
  pub unit_at : At marked.bio.units (place_in bios n).unit unit

pub found : (bios : List MarkedBio) (n : ℕ) (unit : Unit) → unit_in bios n ≡ Some unit → Found bios n unit
found bios n unit is = of_bio (slice_get bios (place_in bios n).bio) refl is
  where
    of_bio : (o : Option MarkedBio) → slice_get bios (place_in bios n).bio ≡ o → option_and_then (λ (marked : MarkedBio). slice_get marked.bio.units (place_in bios n).unit) o ≡ Some unit → Found bios n unit
    of_bio None at none = absurd (none-some unit none)
    of_bio (Some marked) at here = record { marked = marked; bio_at = at; unit_at = here }

-- a changed bio stands in the place of the old one
changed : (bios : List MarkedBio) (n : ℕ) (change : MarkedBio → MarkedBio) (marked : MarkedBio) → At bios (place_in bios n).bio marked → with_bio_of bios n change ≡ set bios (place_in bios n).bio (change marked)
changed bios n change marked at = ap (λ (o : Option MarkedBio). option_map_or (λ m. set bios (place_in bios n).bio (change m)) o bios) at

-- the units of a bio at a place
abbrev unit_from : List Bio → UnitPlace → Option Unit
unit_from bios place = option_and_then (λ (bio : Bio). slice_get bio.units place.unit) (slice_get bios place.bio)

unit_from_bios : (bios : List MarkedBio) (n : ℕ) → unit_in bios n ≡ unit_from (map (λ (m : MarkedBio). m.bio) bios) (place_in bios n)
unit_from_bios bios n =
    of_option (slice_get bios (place_in bios n).bio)
    ∙ ap (λ (o : Option Bio). option_and_then (λ (bio : Bio). slice_get bio.units (place_in bios n).unit) o) (sym (get_map (λ (m : MarkedBio). m.bio) bios (place_in bios n).bio))
  where
    of_option : (o : Option MarkedBio) → option_and_then (λ (m : MarkedBio). slice_get m.bio.units (place_in bios n).unit) o ≡ option_and_then (λ (bio : Bio). slice_get bio.units (place_in bios n).unit) (option_map (λ (m : MarkedBio). m.bio) o)
    of_option None = refl
    of_option (Some m) = refl

-- ---- another content of a unit

pub record WithContent (old new : RequestParts) (n : ℕ) (unit : Unit) : Type 0 where
  pub here : unit_in new.bios n ≡ Some unit
  pub others : (m : ℕ) → m ≢ n → unit_in new.bios m ≡ unit_in old.bios m
  pub bios : tagged_bios new.bios ≡ tagged_bios old.bios
  pub faults : faults_of new.bios ≡ faults_of old.bios
  pub room : new.spare ≡ old.spare

abbrev with_units : MarkedBio → List Unit → MarkedBio
with_units marked units = record marked { bio = record marked.bio { units = units } }

pub with_content : (old : RequestParts) (n : ℕ) (was unit : Unit) → unit_in old.bios n ≡ Some was → WithContent old (with_unit n old unit) n unit
with_content old n was unit is =
    let f = found old.bios n was is in
    let place : UnitPlace = place_in old.bios n in
    let units : List Unit = set f.marked.bio.units place.unit unit in
    let marked : MarkedBio = with_units f.marked units in
    let sets : (with_unit n old unit).bios ≡ set old.bios place.bio marked = changed old.bios n (λ m. with_units m (set m.bio.units place.unit unit)) f.marked f.bio_at in
    let tags : tagged_bios (set old.bios place.bio marked) ≡ tagged_bios old.bios =
    map-set_same (λ (m : MarkedBio). tagged_of m.bio) old.bios place.bio f.marked marked f.bio_at
    (ap (λ (k : ℕ). let t : TaggedBio = record { tag = f.marked.bio.tag; bio = record { access = f.marked.bio.access; context = f.marked.bio.context; sector = f.marked.bio.sector; units = k } } in t) (length-set f.marked.bio.units place.unit unit)) in
    let places : (m : ℕ) → place_in (set old.bios place.bio marked) m ≡ place_in old.bios m = λ m. ap (λ t. place_of t m) tags in
    subst (λ (bs : List MarkedBio). WithContent old (record { bios = bs; spare = old.spare }) n unit) (sym sets) (record {
      here =
          ap (λ (p : UnitPlace). option_and_then (λ (m : MarkedBio). slice_get m.bio.units p.unit) (slice_get (set old.bios place.bio marked) p.bio)) (places n)
          ∙ ap (λ (o : Option MarkedBio). option_and_then (λ (m : MarkedBio). slice_get m.bio.units place.unit) o) (at_set old.bios place.bio f.marked marked f.bio_at)
          ∙ at_set f.marked.bio.units place.unit was unit f.unit_at;
      others = λ m other.
          ap (λ (p : UnitPlace). option_and_then (λ (x : MarkedBio). slice_get x.bio.units p.unit) (slice_get (set old.bios place.bio marked) p.bio)) (places m)
          ∙ ⊎_elim
          (λ (same : (place_in old.bios m).bio ≡ place.bio).
          ap (λ (k : ℕ). option_and_then (λ (x : MarkedBio). slice_get x.bio.units (place_in old.bios m).unit) (slice_get (set old.bios place.bio marked) k)) same
          ∙ ap (λ (o : Option MarkedBio). option_and_then (λ (x : MarkedBio). slice_get x.bio.units (place_in old.bios m).unit) o) (at_set old.bios place.bio f.marked marked f.bio_at)
          ∙ get_set_other f.marked.bio.units place.unit (place_in old.bios m).unit unit (λ same_unit. other (same_number (tagged_bios old.bios) n m same same_unit))
          ∙ sym (ap (λ (o : Option MarkedBio). option_and_then (λ (x : MarkedBio). slice_get x.bio.units (place_in old.bios m).unit) o) (ap (slice_get old.bios) same ∙ f.bio_at)))
          (λ (apart : (place_in old.bios m).bio ≢ place.bio). ap (λ (o : Option MarkedBio). option_and_then (λ (x : MarkedBio). slice_get x.bio.units (place_in old.bios m).unit) o) (get_set_other old.bios place.bio (place_in old.bios m).bio marked apart))
          (cases_eq (place_in old.bios m).bio place.bio);
      bios = tags;
      faults = map-set_same (λ (m : MarkedBio). m.fault) old.bios place.bio f.marked marked f.bio_at refl;
      room = refl;
    })

pub content_then : (old mid new : RequestParts) (n : ℕ) (was unit : Unit) → WithContent old mid n was → WithContent mid new n unit → WithContent old new n unit
content_then old mid new n was unit p q = record {
  here = q.here;
  others = λ m other. q.others m other ∙ p.others m other;
  bios = q.bios ∙ p.bios;
  faults = q.faults ∙ p.faults;
  room = q.room ∙ p.room;
}

-- ---- a fault of a unit

pub record WithFault (old new : RequestParts) (n : ℕ) : Type 0 where
  pub units : (m : ℕ) → unit_in new.bios m ≡ unit_in old.bios m
  pub bios : tagged_bios new.bios ≡ tagged_bios old.bios
  pub faults : faults_of new.bios ≡ with_fault_at (tagged_bios old.bios) (faults_of old.bios) n
  pub room : new.spare ≡ old.spare

pub faulted : (old : RequestParts) (n : ℕ) (was : Unit) → unit_in old.bios n ≡ Some was → WithFault old (with_fault n old) n
faulted old n was is =
    let f = found old.bios n was is in
    let place : UnitPlace = place_in old.bios n in
    let marked : MarkedBio = record f.marked { fault = Some (first_fault place.unit f.marked.fault) } in
    let sets : (with_fault n old).bios ≡ set old.bios place.bio marked = changed old.bios n (λ m. record m { fault = Some (first_fault place.unit m.fault) }) f.marked f.bio_at in
    let tags : tagged_bios (set old.bios place.bio marked) ≡ tagged_bios old.bios = map-set_same (λ (m : MarkedBio). tagged_of m.bio) old.bios place.bio f.marked marked f.bio_at refl in
    let same : map (λ (m : MarkedBio). m.bio) (set old.bios place.bio marked) ≡ map (λ (m : MarkedBio). m.bio) old.bios = map-set_same (λ (m : MarkedBio). m.bio) old.bios place.bio f.marked marked f.bio_at refl in
    subst (λ (bs : List MarkedBio). WithFault old (record { bios = bs; spare = old.spare }) n) (sym sets) (record {
      units = λ m.
          unit_from_bios (set old.bios place.bio marked) m
          ∙ ap (λ (bs : List Bio). unit_from bs (place_in (set old.bios place.bio marked) m)) same
          ∙ ap (λ t. unit_from (map (λ (x : MarkedBio). x.bio) old.bios) (place_of t m)) tags
          ∙ sym (unit_from_bios old.bios m);
      bios = tags;
      faults =
          map-set (λ (m : MarkedBio). m.fault) old.bios place.bio marked
          ∙ ap (λ (x : Option ℕ). set (faults_of old.bios) place.bio (Some (first_fault place.unit x))) (sym (get_or_map (λ (m : MarkedBio). m.fault) old.bios place.bio f.marked None f.bio_at));
      room = refl;
    })
