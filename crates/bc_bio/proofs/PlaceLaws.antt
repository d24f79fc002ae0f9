-- Where a unit stands is found among the ends of the bios.
use Rattle.std.proofs.Common.{◌≡◌, ℕ, zero, suc, ◌+◌, ◌-◌, ◌<◌, ◌≤◌, true, false, List, [], ◌∷◌, ◌++◌, length, get_or, refl, sym, ap, subst, ◌∙◌, arith, Some, None}
use Rattle.std.specs.Prelude.{nat_le, nat_lt, slice_get, option_map}
use Rattle.std.specs.List.Sorted.{IsPartitionedBy}
use Rattle.std.proofs.lemmas.Bool.{le-leb, lt-ltb, leb-true}
use Rattle.std.proofs.lemmas.Bool.Decides.{nat_tests}
use Rattle.std.proofs.lemmas.List.{length-map}
use Rattle.std.proofs.lemmas.Option.{same_Some, slice_get-map, slice_get-get_or, slice_get_within, get_or_from_slice_get, none-some}
use Rattle.std.proofs.lemmas.List.Sums.{sum_by-cons}
use Rattle.bc_bio.specs.declared.unit_place.UnitPlace.{UnitPlace}
use Rattle.bc_bio.specs.Windows.{TaggedBio, count_units}
use Rattle.bc_bio.specs.declared.marked_bio.MarkedBio.{MarkedBio}
use Rattle.bc_bio.specs.Requests.{place_of, tagged_bios, tagged_of}
use Rattle.bc_bio.specs.Ends.{ends_after, begin_of, IsPartition, IsFound}

units_of : TaggedBio → ℕ
units_of tagged = tagged.bio.units

pub count-cons : (tagged : TaggedBio) (bios : List TaggedBio) → count_units (tagged ∷ bios) ≡ tagged.bio.units + count_units bios
count-cons tagged bios = sum_by-cons (λ (t : TaggedBio). t.bio.units) tagged bios

pub length-ends_after : (before : ℕ) (bios : List TaggedBio) → length (ends_after before bios) ≡ length bios
length-ends_after before [] = refl
length-ends_after before (tagged ∷ bios) = ap (λ n. suc n) (length-ends_after (before + tagged.bio.units) bios)

-- the last end is the number of all units
pub last_end : (before : ℕ) (bios : List TaggedBio) (k : ℕ) → k + 1 ≡ length bios → get_or (ends_after before bios) k 0 ≡ before + count_units bios
last_end before [] k last = absurd (omega arith)
last_end before (tagged ∷ []) zero last = let one = count-cons tagged [] in omega (arith, one)
last_end before (tagged ∷ []) (suc k) last = absurd (omega arith)
last_end before (tagged ∷ second ∷ bios) zero last = absurd (omega arith)
last_end before (tagged ∷ second ∷ bios) (suc k) last =
    let others = last_end (before + tagged.bio.units) (second ∷ bios) k (omega arith) in
    let all = count-cons tagged (second ∷ bios) in
    omega (arith, others, all)

pub ends_after-append : (before : ℕ) (bios : List TaggedBio) (tagged : TaggedBio) → ends_after before (bios ++ tagged ∷ []) ≡ ends_after before bios ++ (before + count_units bios + tagged.bio.units) ∷ []
ends_after-append before [] tagged = let same : before + tagged.bio.units ≡ before + count_units [] + tagged.bio.units = omega arith in ap (λ (n : ℕ). n ∷ []) same
ends_after-append before (first ∷ bios) tagged =
    let end = before + first.bio.units in
    let all = count-cons first bios in
    let same : end + count_units bios + tagged.bio.units ≡ before + count_units (first ∷ bios) + tagged.bio.units = omega (arith, all) in
    ap (λ (ends : List ℕ). end ∷ ends) (ends_after-append end bios tagged ∙ ap (λ (n : ℕ). ends_after end bios ++ n ∷ []) same)

-- ---- the ends don't fall

ends_least : (before : ℕ) (bios : List TaggedBio) (i d : ℕ) → i < length bios → before ≤ get_or (ends_after before bios) i d
ends_least before [] i d within = absurd (omega arith)
ends_least before (tagged ∷ bios) zero d within = omega arith
ends_least before (tagged ∷ bios) (suc i) d within =
    let rest = ends_least (before + tagged.bio.units) bios i d (omega arith) in
    omega (arith, rest)

ends_climb : (before : ℕ) (bios : List TaggedBio) (i j d : ℕ) → i ≤ j → j < length bios → get_or (ends_after before bios) i d ≤ get_or (ends_after before bios) j d
ends_climb before [] i j d le within = absurd (omega arith)
ends_climb before (tagged ∷ bios) zero zero d le within = omega arith
ends_climb before (tagged ∷ bios) zero (suc j) d le within = ends_least (before + tagged.bio.units) bios j d (omega arith)
ends_climb before (tagged ∷ bios) (suc i) zero d le within = absurd (omega arith)
ends_climb before (tagged ∷ bios) (suc i) (suc j) d le within = ends_climb (before + tagged.bio.units) bios i j d (omega arith) (omega arith)

pub ends_partitioned : (before : ℕ) (bios : List TaggedBio) (n : ℕ) → IsPartitionedBy (λ end. nat_le end n) (ends_after before bios)
ends_partitioned before bios n i j d le within small =
    let len = length-ends_after before bios in
    let up = ends_climb before bios i j d le (omega (arith, len)) in
    let end = leb-true (get_or (ends_after before bios) j d) n small in
    le-leb (get_or (ends_after before bios) i d) n (omega (arith, up, end))

-- ---- the place

begin_of-cons : (before end : ℕ) (ends : List ℕ) (k : ℕ) → begin_of before (end ∷ ends) (suc k) ≡ begin_of end ends k
begin_of-cons before end ends zero = refl
begin_of-cons before end ends (suc k) = refl

pub record Found (before : ℕ) (bios : List TaggedBio) (n k : ℕ) : Type 0 where
  pub within : k < length bios
  pub begins : begin_of before (ends_after before bios) k ≤ n
  pub in_bio : (tagged : TaggedBio) → slice_get bios k ≡ Some tagged → n - begin_of before (ends_after before bios) k < tagged.bio.units
  pub place_is : place_of bios (n - before) ≡ record { bio = k; unit = n - begin_of before (ends_after before bios) k }

abbrev after_first : UnitPlace → UnitPlace
after_first place = record { bio = place.bio + 1; unit = place.unit }

moved : (bios : List TaggedBio) (a b k unit : ℕ) → a ≡ b → place_of bios b ≡ record { bio = k; unit = unit } → after_first (place_of bios a) ≡ record { bio = suc k; unit = unit }
moved bios a b k unit same at =
    let next : k + 1 ≡ suc k = omega arith in
    ap (λ (i : ℕ). after_first (place_of bios i)) same
    ∙ ap after_first at
    ∙ ap (λ (i : ℕ). let place : UnitPlace = record { bio = i; unit = unit } in place) next

pub place_found : (before : ℕ) (bios : List TaggedBio) (n k : ℕ) → before ≤ n → n < before + count_units bios → IsPartition (ends_after before bios) n k → Found before bios n k
place_found before [] n k low high parts = absurd (omega arith)
place_found before (tagged ∷ bios) n zero low high parts =
    let here = parts.1 0 0 (omega arith) (omega arith) in
    let below : n < before + tagged.bio.units = grind (arith, nat_tests, here) in
    let first : nat_lt (n - before) tagged.bio.units ≡ true = lt-ltb (n - before) tagged.bio.units (omega arith) in
    record {
      within = omega arith;
      begins = low;
      in_bio = λ other at. let same = same_Some tagged other at in let here = subst (λ (t : TaggedBio). n - before < t.bio.units) same (omega arith) in here;
      place_is = rw first refl;
    }
place_found before (tagged ∷ bios) n (suc k) low high parts =
    let end = before + tagged.bio.units in
    let all = count-cons tagged bios in
    let here = parts.0 0 0 (omega arith) (omega arith) in
    let past : end ≤ n = leb-true end n here in
    let others = place_found end bios n k past (omega (arith, all)) (λ i d lo hi. parts.0 (suc i) d (omega arith) (omega arith), λ i d lo hi. parts.1 (suc i) d (omega arith) (omega arith)) in
    let not_first : nat_lt (n - before) tagged.bio.units ≡ false = grind (arith, nat_tests) in
    let begin = begin_of-cons before end (ends_after end bios) k in
    let same : n - before - tagged.bio.units ≡ n - end = omega arith in
    record {
      within = omega (arith, others.within);
      begins = omega (arith, begin, others.begins);
      in_bio = λ other at. rw begin (others.in_bio other at);
      place_is = rw not_first (moved bios (n - before - tagged.bio.units) (n - end) k (n - begin_of before (end ∷ ends_after end bios) (suc k)) same (rw begin others.place_is));
    }

-- so a search among the ends finds it
pub is_found : (bios : List MarkedBio) (ends : List ℕ) (n k : ℕ) → ends ≡ ends_after 0 (tagged_bios bios) → n < count_units (tagged_bios bios)
    → (IsPartitionedBy (λ end. nat_le end n) ends → IsPartition ends n k) → (begin_of 0 ends k ≤ n) × IsFound bios n (record { bio = k; unit = n - begin_of 0 ends k })
is_found bios ends n k are within search =
    let tagged = tagged_bios bios in
    let parts = subst (λ (es : List ℕ). IsPartition es n k) are (search (subst (λ (es : List ℕ). IsPartitionedBy (λ end. nat_le end n) es) (sym are) (ends_partitioned 0 tagged n))) in
    let found = place_found 0 tagged n k (omega arith) (omega arith) parts in
    let len = length-map bios (λ (m : MarkedBio). tagged_of m.bio) in
    let all : n - 0 ≡ n = omega arith in
    rw are (
      found.begins,
      record {
        place_is = sym (rw all at found.place_is);
        in_request = omega (arith, found.within, len);
        in_bio = λ marked at. found.in_bio (tagged_of marked.bio) (slice_get-map (λ (m : MarkedBio). tagged_of m.bio) bios k ∙ ap (option_map (λ (m : MarkedBio). tagged_of m.bio)) at);
      },
    )

-- the same, by what a request's calls tell
pub place_in_request : (inside bios : List MarkedBio) (ends seen again : List ℕ) (n k begin : ℕ) → inside ≡ bios → ends ≡ ends_after 0 (tagged_bios inside)
    → seen ≡ ends → again ≡ ends → n < count_units (tagged_bios bios) → (IsPartitionedBy (λ end. nat_le end n) seen → IsPartition seen n k)
    → begin ≡ begin_of 0 again k → (begin ≤ n) × IsFound bios n (record { bio = k; unit = n - begin })
place_in_request inside bios ends seen again n k begin same are is_seen is_again within search begins =
    let found = is_found inside seen n k (is_seen ∙ are) (subst (λ (bs : List MarkedBio). n < count_units (tagged_bios bs)) (sym same) within) search in
    let begin_is : begin ≡ begin_of 0 seen k = begins ∙ ap (λ (es : List ℕ). begin_of 0 es k) (is_again ∙ sym is_seen) in
    subst (λ (bs : List MarkedBio). (begin ≤ n) × IsFound bs n (record { bio = k; unit = n - begin })) same (rw begin_is found)

-- what the last end tells
pub last_is : (bios : List TaggedBio) (ends : List ℕ) (end : ℕ) → ends ≡ ends_after 0 bios → Some end ≡ slice_get ends (length ends - 1) → end ≡ count_units bios
last_is bios ends end are at =
    let within = slice_get_within ends (length ends - 1) end (sym at) in
    let len = ap length are ∙ length-ends_after 0 bios in
    let last = last_end 0 bios (length ends - 1) (omega (arith, len, within)) in
    let is = get_or_from_slice_get ends (length ends - 1) end 0 (sym at) in
    let there : get_or ends (length ends - 1) 0 ≡ get_or (ends_after 0 bios) (length ends - 1) 0 = ap (λ (es : List ℕ). get_or es (length ends - 1) 0) are in
    omega (arith, last, is, there)

pub none_is : (bios : List TaggedBio) (ends : List ℕ) → ends ≡ ends_after 0 bios → None ≡ slice_get ends (length ends - 1) → 0 ≡ count_units bios
none_is [] ends are at = refl
none_is (tagged ∷ bios) ends are at =
    let len = ap length are ∙ length-ends_after 0 (tagged ∷ bios) in
    let some = slice_get-get_or ends (length ends - 1) 0 (omega (arith, len)) in
    absurd (none-some (get_or ends (length ends - 1) 0) (at ∙ some))
