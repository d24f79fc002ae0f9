-- A request's bios, their numbers of units, and what a mark or another content leaves as it was.
use Rattle.std.proofs.Common.{◌≡◌, ℕ, zero, suc, ◌+◌, ◌-◌, ◌*◌, ◌^◌, ◌<◌, ◌≤◌, Bool, true, false, cond, List, [], ◌∷◌, ◌++◌, length, get_or, set, IsTrue, Option, Some, None, refl, sym, ap, subst, ◌∙◌, arith}
use Rattle.std.specs.Prelude.{◌==◌, ◌&&◌, nat_lt, slice_get, option_and_then}
use Rattle.std.specs.Option.{option_map_or}
use Rattle.std.proofs.Math.ListN.{length-set}
use Rattle.std.specs.List.{AllByRecursion}
use Rattle.std.proofs.lemmas.Bool.{and_parts, eqb-true}
use Rattle.std.proofs.lemmas.Bool.Decides.{nat_tests}
use Rattle.std.proofs.lemmas.List.{map-append, length-map}
use Rattle.std.proofs.lemmas.List.Sums.{sum_by-append}
use Rattle.std.proofs.lemmas.List.FromFn.{length-map-range_with_len, get_or-map-range_with_len}
use Rattle.std.proofs.lemmas.Option.{slice_get-get_or}
use Rattle.std.proofs.Math.Seq.{map-set_same}
use Rattle.std.proofs.Math.Nat.{mul-le-mul_left}
use Rattle.bc_key.specs.KeyData.{KeyData}
use Rattle.bc_key.specs.KeyList.{key_at}
use Rattle.bc_key.specs.DataUnits.{sectors_of}
use Rattle.bc_key.specs.declared.config.DataUnit.{DataUnit}
use Rattle.bc_key.specs.declared.config.DataUnit.TheVariants.{Bytes512, Bytes1024, Bytes2048, Bytes4096}
use Rattle.bc_bio.specs.declared.bio.Bio.{Bio}
use Rattle.bc_bio.specs.declared.unit.Unit.{Unit}
use Rattle.bc_bio.specs.declared.context.Context.{Context}
use Rattle.bc_bio.specs.declared.extent.Extent.{Extent}
use Rattle.bc_bio.specs.declared.marked_bio.MarkedBio.{MarkedBio}
use Rattle.bc_bio.specs.Extent.{unit_sectors, end_of}
use Rattle.bc_bio.specs.Conditions.{IsPlaced}
use Rattle.bc_bio.specs.BackRuns.{same_access, context_runs_on, back_runs_on}
use Rattle.bc_bio.specs.Chunks.{joins_last, Linked}
use Rattle.bc_bio.specs.Windows.{TaggedBio, NamedUnit, named_unit, named_units, units_of_request, count_units, joins, IsRequest}
use Rattle.bc_bio.specs.declared.unit_place.UnitPlace.{UnitPlace}
use Rattle.bc_bio.specs.BioUnits.{extent_of}
use Rattle.bc_bio.specs.Requests.{CanBePlaced, tagged_of, tagged_bios, place_of, place_in, unmarked, with_bio_of, unit_in, first_fault}
use Rattle.bc_bio.specs.Ends.{IsFound, HasEnds, ends_after}
use Rattle.bc_bio.proofs.PlaceLaws.{length-ends_after, ends_after-append, count-cons}

-- ---- lengths

sectors_some : (unit : DataUnit) → 1 ≤ sectors_of unit
sectors_some Bytes512 = omega arith
sectors_some Bytes1024 = omega arith
sectors_some Bytes2048 = omega arith
sectors_some Bytes4096 = omega arith

-- a data unit has a sector at least
pub unit_sectors-some : (keys : List KeyData) (context : Option Context) → 1 ≤ unit_sectors keys context
unit_sectors-some keys None = omega arith
unit_sectors-some keys (Some context) =
    elim (key_at keys context.key) as (λ (found : Option KeyData). 1 ≤ option_map_or (λ (key : KeyData). sectors_of key.config.unit) found 1) [
      | None ↦ omega arith
      | Some key ↦ sectors_some key.config.unit
    ]

-- so a bio has no more units than sectors
pub units_within : (keys : List KeyData) (bio : Extent) → bio.sector + bio.units ≤ end_of keys bio
units_within keys bio =
    let some = unit_sectors-some keys bio.context in
    let long = mul-le-mul_left bio.units some in
    omega (arith, long)

-- ---- bios that run on

runs_on_after : (keys : List KeyData) (first second : Extent) → IsTrue (back_runs_on keys first second) → second.sector ≡ end_of keys first
runs_on_after keys first second joined =
    let both = and_parts (same_access first.access second.access && (second.sector == end_of keys first)) (context_runs_on first.context first.units second.context) joined in
    let place = and_parts (same_access first.access second.access) (second.sector == end_of keys first) both.0 in
    eqb-true second.sector (end_of keys first) place.1

-- what runs on at the back of linked bios starts after all their units
pub starts_behind : (keys : List KeyData) (first : TaggedBio) (bios : List TaggedBio) (next : TaggedBio)
    → Linked (joins keys) (first ∷ bios) → IsTrue (joins_last (joins keys) (first ∷ bios) next) → first.bio.sector + count_units (first ∷ bios) ≤ next.bio.sector
starts_behind keys first [] next linked joined =
    let after = runs_on_after keys first.bio next.bio joined in
    let long = units_within keys first.bio in
    let one = count-cons first [] in
    omega (arith, after, long, one)
starts_behind keys first (second ∷ bios) next linked joined =
    let after = runs_on_after keys first.bio second.bio linked.0 in
    let long = units_within keys first.bio in
    let rest = starts_behind keys second bios next linked.1 joined in
    let all = count-cons first (second ∷ bios) in
    omega (arith, after, long, rest, all)

pub joins_last-at : {X : Type 0} (together : X → X → Bool) (xs : List X) (x d : X) (k : ℕ) → k + 1 ≡ length xs → joins_last together xs x ≡ together (get_or xs k d) x
joins_last-at together [] x d k last = absurd (omega arith)
joins_last-at together (y ∷ []) x d zero last = refl
joins_last-at together (y ∷ []) x d (suc k) last = absurd (omega arith)
joins_last-at together (y ∷ z ∷ zs) x d zero last = absurd (omega arith)
joins_last-at together (y ∷ z ∷ zs) x d (suc k) last = joins_last-at together (z ∷ zs) x d k (omega arith)

-- ---- the bios without their bytes

get_or_default : {X : Type 0} (xs : List X) (k : ℕ) (d e : X) → k < length xs → get_or xs k d ≡ get_or xs k e
get_or_default [] k d e within = absurd (omega arith)
get_or_default (x ∷ xs) zero d e within = refl
get_or_default (x ∷ xs) (suc k) d e within = get_or_default xs k d e (omega arith)

pub tagged_bios-append : (bios : List MarkedBio) (marked : MarkedBio) → tagged_bios (bios ++ marked ∷ []) ≡ tagged_bios bios ++ tagged_of marked.bio ∷ []
tagged_bios-append bios marked = map-append (λ (m : MarkedBio). tagged_of m.bio) bios (marked ∷ [])

-- a bio of the same tag and extent in another's place changes none of them
pub tagged_bios-set : (bios : List MarkedBio) (k : ℕ) (marked : MarkedBio) → tagged_of marked.bio ≡ tagged_of (get_or bios k marked).bio → tagged_bios (set bios k marked) ≡ tagged_bios bios
tagged_bios-set bios k marked same = map-set_same (λ (m : MarkedBio). tagged_of m.bio) bios k marked marked same

-- the same, where the element was read
pub tagged_bios-same : (bios : List MarkedBio) (k : ℕ) (marked marked' : MarkedBio) → marked ≡ get_or bios k marked → k < length bios → tagged_of marked'.bio ≡ tagged_of marked.bio → tagged_bios (set bios k marked') ≡ tagged_bios bios
tagged_bios-same bios k marked marked' is within same =
    tagged_bios-set bios k marked' (same ∙ ap (λ (m : MarkedBio). tagged_of m.bio) (is ∙ get_or_default bios k marked marked' within))

pub all_at : {X : Type 0} (P : X → Type 0) (xs : List X) (k : ℕ) (d : X) → AllByRecursion P xs → k < length xs → P (get_or xs k d)
all_at P [] k d all within = absurd (omega arith)
all_at P (x ∷ xs) zero d all within = all.0
all_at P (x ∷ xs) (suc k) d all within = all_at P xs k d all.1 (omega arith)

pub tagged_bios-at : (bios : List MarkedBio) (k : ℕ) (d : MarkedBio) → get_or (tagged_bios bios) k (tagged_of d.bio) ≡ tagged_of (get_or bios k d).bio
tagged_bios-at [] k d = refl
tagged_bios-at (marked ∷ bios) zero d = refl
tagged_bios-at (marked ∷ bios) (suc k) d = tagged_bios-at bios k d

-- ---- the units of a request

length-named_units : (keys : List KeyData) (tagged : TaggedBio) → length (named_units keys tagged) ≡ tagged.bio.units
length-named_units keys tagged = length-map-range_with_len (named_unit keys tagged) 0 tagged.bio.units

slice_get-append_left : {X : Type 0} (xs ys : List X) (n : ℕ) → n < length xs → slice_get (xs ++ ys) n ≡ slice_get xs n
slice_get-append_left [] ys n within = absurd (omega arith)
slice_get-append_left (x ∷ xs) ys zero within = refl
slice_get-append_left (x ∷ xs) ys (suc n) within = slice_get-append_left xs ys n (omega arith)

slice_get-append_right : {X : Type 0} (xs ys : List X) (n m : ℕ) → n ≡ length xs + m → slice_get (xs ++ ys) n ≡ slice_get ys m
slice_get-append_right [] ys n m at = ap (slice_get ys) (let same : n ≡ m = omega arith in same)
slice_get-append_right (x ∷ xs) ys zero m at = absurd (omega arith)
slice_get-append_right (x ∷ xs) ys (suc n) m at = slice_get-append_right xs ys n m (omega arith)

unit_of_bio : (keys : List KeyData) (tagged : TaggedBio) (i : ℕ) → i < tagged.bio.units → slice_get (named_units keys tagged) i ≡ Some (named_unit keys tagged i)
unit_of_bio keys tagged i within =
    let len = length-named_units keys tagged in
    let d = named_unit keys tagged i in
    slice_get-get_or (named_units keys tagged) i d (omega (arith, len))
    ∙ ap (λ (u : NamedUnit). Some u) (get_or-map-range_with_len (named_unit keys tagged) 0 tagged.bio.units i i d within (omega arith))

-- a unit after those of the first bio
unit_later : (keys : List KeyData) (tagged : TaggedBio) (bios : List TaggedBio) (n m : ℕ) (d : TaggedBio) (place : UnitPlace) → n ≡ length (named_units keys tagged) + m
    → slice_get (units_of_request keys bios) m ≡ Some (named_unit keys (get_or bios place.bio d) place.unit)
    → slice_get (named_units keys tagged ++ units_of_request keys bios) n ≡ Some (named_unit keys (get_or (tagged ∷ bios) (place.bio + 1) d) place.unit)
unit_later keys tagged bios n m d place at found =
    let next : suc place.bio ≡ place.bio + 1 = omega arith in
    slice_get-append_right (named_units keys tagged) (units_of_request keys bios) n m at
    ∙ found
    ∙ ap (λ (k : ℕ). Some (named_unit keys (get_or (tagged ∷ bios) k d) place.unit)) next

-- unit number n of a request is the unit at its place
pub unit_found : (keys : List KeyData) (bios : List TaggedBio) (n : ℕ) (d : TaggedBio) → n < count_units bios
    → slice_get (units_of_request keys bios) n ≡ Some (named_unit keys (get_or bios (place_of bios n).bio d) (place_of bios n).unit)
unit_found keys [] n d within = absurd (omega arith)
unit_found keys (tagged ∷ bios) n d within =
    let all = count-cons tagged bios in
    let len = length-named_units keys tagged in
    (elim (nat_lt n tagged.bio.units) as (λ (b : Bool). nat_lt n tagged.bio.units ≡ b → slice_get (named_units keys tagged ++ units_of_request keys bios) n
    ≡ Some (let place : UnitPlace = cond b (record { bio = 0; unit = n }) (let rest : UnitPlace = place_of bios (n - tagged.bio.units) in record { bio = rest.bio + 1; unit = rest.unit }) in named_unit keys (get_or (tagged ∷ bios) place.bio d) place.unit)) [
      | true ↦ λ is.
          let here : n < tagged.bio.units = grind (arith, nat_tests, is) in
          slice_get-append_left (named_units keys tagged) (units_of_request keys bios) n (omega (arith, len)) ∙ unit_of_bio keys tagged n here
      | false ↦ λ is.
          let past : tagged.bio.units ≤ n = grind (arith, nat_tests, is) in
          unit_later keys tagged bios n (n - tagged.bio.units) d (place_of bios (n - tagged.bio.units)) (omega (arith, len)) (unit_found keys bios (n - tagged.bio.units) d (omega (arith, all)))
    ]) refl

-- ---- what a request's calls are given

-- a bio of a request is placed
pub placed_at : (keys : List KeyData) (bios : List MarkedBio) (k : ℕ) (marked : MarkedBio) → AllByRecursion (λ tagged. IsPlaced keys tagged.bio) (tagged_bios bios)
    → k < length bios → marked ≡ get_or bios k marked → IsPlaced keys (extent_of marked.bio)
placed_at keys bios k marked all within is =
    let len = length-map bios (λ (m : MarkedBio). tagged_of m.bio) in
    let there = all_at (λ (tagged : TaggedBio). IsPlaced keys tagged.bio) (tagged_bios bios) k (tagged_of marked.bio) all (omega (arith, len)) in
    let same : get_or (tagged_bios bios) k (tagged_of marked.bio) ≡ tagged_of marked.bio = tagged_bios-at bios k marked ∙ ap (λ (m : MarkedBio). tagged_of m.bio) (sym is) in
    subst (λ (tagged : TaggedBio). IsPlaced keys tagged.bio) same there

-- the sector of a unit of a placed bio
pub unit_sector_fits : (keys : List KeyData) (bio : Extent) (i : ℕ) → IsPlaced keys bio → i < bio.units → bio.sector + i * unit_sectors keys bio.context < 2 ^ 32
unit_sector_fits keys bio i placed within =
    let size = unit_sectors keys bio.context in
    let up : i * size ≤ bio.units * size = grind arith in
    let end = placed.end in
    omega (arith, up, end)

-- unit number n by the place that was found
pub named_at : (keys : List KeyData) (bios : List MarkedBio) (n : ℕ) (place : UnitPlace) (marked : MarkedBio) → IsFound bios n place → marked ≡ get_or bios place.bio marked
    → n < count_units (tagged_bios bios) → slice_get (units_of_request keys (tagged_bios bios)) n ≡ Some (named_unit keys (tagged_of marked.bio) place.unit)
named_at keys bios n place marked found is within =
    let at = unit_found keys (tagged_bios bios) n (tagged_of marked.bio) within in
    let there = subst (λ (p : UnitPlace). slice_get (units_of_request keys (tagged_bios bios)) n ≡ Some (named_unit keys (get_or (tagged_bios bios) p.bio (tagged_of marked.bio)) p.unit)) (sym found.place_is) at in
    there ∙ ap (λ (tagged : TaggedBio). Some (named_unit keys tagged place.unit)) (tagged_bios-at bios place.bio marked ∙ ap (λ (m : MarkedBio). tagged_of m.bio) (sym is))

pub unit_within : (bios : List MarkedBio) (n : ℕ) (place : UnitPlace) (marked : MarkedBio) → IsFound bios n place → marked ≡ get_or bios place.bio marked → place.unit < length marked.bio.units
unit_within bios n place marked found is =
    found.in_bio marked (slice_get-get_or bios place.bio marked found.in_request ∙ ap (λ (m : MarkedBio). Some m) (sym is))

-- a write at the place that was found
pub changed_at : (bios : List MarkedBio) (n : ℕ) (place : UnitPlace) (marked marked' : MarkedBio) (change : MarkedBio → MarkedBio) → IsFound bios n place
    → marked ≡ get_or bios place.bio marked → marked' ≡ change marked → set bios place.bio marked' ≡ with_bio_of bios n change
changed_at bios n place marked marked' change found is changed =
    let there : slice_get bios place.bio ≡ Some marked = slice_get-get_or bios place.bio marked found.in_request ∙ ap (λ (m : MarkedBio). Some m) (sym is) in
    subst (λ (p : UnitPlace). set bios place.bio marked' ≡ option_map_or (λ m. set bios p.bio (change m)) (slice_get bios p.bio) bios) found.place_is
    (rw there (ap (λ (m : MarkedBio). set bios place.bio m) changed))

-- a mark
pub fault_at : (bios : List MarkedBio) (n : ℕ) (place : UnitPlace) (marked : MarkedBio) (fault : ℕ) → IsFound bios n place → marked ≡ get_or bios place.bio marked
    → fault ≡ first_fault place.unit marked.fault
    → set bios place.bio (record { bio = marked.bio; fault = Some fault }) ≡ with_bio_of bios n (λ m. record m { fault = Some (first_fault (place_in bios n).unit m.fault) })
fault_at bios n place marked fault found is first =
    let same : fault ≡ first_fault (place_in bios n).unit marked.fault = first ∙ ap (λ (p : UnitPlace). first_fault p.unit marked.fault) found.place_is in
    changed_at bios n place marked (record { bio = marked.bio; fault = Some fault }) (λ m. record m { fault = Some (first_fault (place_in bios n).unit m.fault) }) found is
    (ap (λ (f : ℕ). let new : MarkedBio = record { bio = marked.bio; fault = Some f } in new) same)

-- a bio with another content of a unit
abbrev pub with_content : MarkedBio → ℕ → Unit → MarkedBio
with_content marked i unit = record marked { bio = record marked.bio { units = set marked.bio.units i unit } }

pub content_at : (bios : List MarkedBio) (n : ℕ) (place : UnitPlace) (marked : MarkedBio) (unit : Unit) → IsFound bios n place → marked ≡ get_or bios place.bio marked
    → set bios place.bio (with_content marked place.unit unit) ≡ with_bio_of bios n (λ m. with_content m (place_in bios n).unit unit)
content_at bios n place marked unit found is =
    changed_at bios n place marked (with_content marked place.unit unit) (λ m. with_content m (place_in bios n).unit unit) found is
    (ap (λ (p : UnitPlace). with_content marked p.unit unit) found.place_is)

-- a unit's content, read at its place
pub content_read : (bios : List MarkedBio) (n : ℕ) (place : UnitPlace) (marked : MarkedBio) (unit : Unit) → IsFound bios n place → marked ≡ get_or bios place.bio marked
    → slice_get marked.bio.units place.unit ≡ Some unit → unit_in bios n ≡ Some unit
content_read bios n place marked unit found is read =
    let there : slice_get bios place.bio ≡ Some marked = slice_get-get_or bios place.bio marked found.in_request ∙ ap (λ (m : MarkedBio). Some m) (sym is) in
    subst (λ (p : UnitPlace). option_and_then (λ (m : MarkedBio). slice_get m.bio.units p.unit) (slice_get bios p.bio) ≡ Some unit) found.place_is (rw there read)

-- another content leaves tag and extent
pub same_tagged : (marked : MarkedBio) (i : ℕ) (unit : Unit) → tagged_of (with_content marked i unit).bio ≡ tagged_of marked.bio
same_tagged marked i unit =
    ap (λ (n : ℕ). let tagged : TaggedBio = record {
      tag = marked.bio.tag;
      bio = record { access = marked.bio.access; context = marked.bio.context; sector = marked.bio.sector; units = n };
    } in tagged) (length-set marked.bio.units i unit)

-- and so it leaves the ends
pub same_ends : (bios : List MarkedBio) (k : ℕ) (marked marked' : MarkedBio) (room : ℕ) (ends : List ℕ) (ends_room : ℕ) → marked ≡ get_or bios k marked → k < length bios
    → tagged_of marked'.bio ≡ tagged_of marked.bio → HasEnds (tagged_bios bios) room ends ends_room → HasEnds (tagged_bios (set bios k marked')) room ends ends_room
same_ends bios k marked marked' room ends ends_room is within same has =
    subst (λ (ts : List TaggedBio). HasEnds ts room ends ends_room) (sym (tagged_bios-same bios k marked marked' is within same)) has

pub length-tagged_bios : (bios : List MarkedBio) → length (tagged_bios bios) ≡ length bios
length-tagged_bios bios = length-map bios (λ (m : MarkedBio). tagged_of m.bio)

-- ---- the last bio

pub joined_at : (keys : List KeyData) (bios : List MarkedBio) (bio : Bio) (k : ℕ) (marked : MarkedBio) → k + 1 ≡ length bios → marked ≡ get_or bios k marked
    → joins_last (joins keys) (tagged_bios bios) (tagged_of bio) ≡ back_runs_on keys (extent_of marked.bio) (extent_of bio)
joined_at keys bios bio k marked last is =
    let len = length-map bios (λ (m : MarkedBio). tagged_of m.bio) in
    joins_last-at (joins keys) (tagged_bios bios) (tagged_of bio) (tagged_of marked.bio) k (omega (arith, len))
    ∙ ap (λ (tagged : TaggedBio). joins keys tagged (tagged_of bio)) (tagged_bios-at bios k marked ∙ ap (λ (m : MarkedBio). tagged_of m.bio) (sym is))

-- a bio that runs on has room for its units' numbers
pub fits_behind : (keys : List KeyData) (bios : List TaggedBio) (next : TaggedBio) → 1 ≤ length bios → Linked (joins keys) bios → IsTrue (joins_last (joins keys) bios next)
    → IsPlaced keys next.bio → count_units bios + next.bio.units < 2 ^ 32
fits_behind keys [] next some linked joined placed = absurd (omega arith)
fits_behind keys (first ∷ bios) next some linked joined placed =
    let behind = starts_behind keys first bios next linked joined in
    let within = units_within keys next.bio in
    let end = placed.end in
    omega (arith, behind, within, end)

pub fits_alone : (bios : List MarkedBio) (bio : Bio) → bios ≡ [] → CanBePlaced bio → count_units (tagged_bios bios) + length bio.units < 2 ^ 32
fits_alone bios bio none placed =
    let within = units_within placed.0 (extent_of bio) in
    let end = placed.1.end in
    subst (λ (bs : List MarkedBio). count_units (tagged_bios bs) + length bio.units < 2 ^ 32) (sym none) (omega (arith, within, end))

-- one more bio, and its end
pub ends_with : (bios bios' : List MarkedBio) (bio : Bio) (ends ends' : List ℕ) (end room ends_room : ℕ) → bios' ≡ bios ++ unmarked bio ∷ [] → ends' ≡ ends ++ end ∷ []
    → end ≡ count_units (tagged_bios bios) + length bio.units → count_units (tagged_bios bios) + length bio.units < 2 ^ 32
    → HasEnds (tagged_bios bios) room ends ends_room → HasEnds (tagged_bios bios') room ends' ends_room
ends_with bios bios' bio ends ends' end room ends_room more more_ends end_is fits has =
    let tagged = ap tagged_bios more ∙ tagged_bios-append bios (unmarked bio) in
    let all : 0 + count_units (tagged_bios bios) + length bio.units ≡ end = omega arith in
    let are = more_ends ∙ ap (λ (es : List ℕ). es ++ end ∷ []) has.ends_are in
    let appended = ends_after-append 0 (tagged_bios bios) (tagged_of bio) ∙ ap (λ (n : ℕ). ends_after 0 (tagged_bios bios) ++ n ∷ []) all in
    let sum = sum_by-append (λ (t : TaggedBio). t.bio.units) (tagged_bios bios) (tagged_of bio ∷ []) in
    let one = count-cons (tagged_of bio) [] in
    subst (λ (ts : List TaggedBio). HasEnds ts room ends' ends_room) (sym tagged) (record {
      ends_are = are ∙ sym appended;
      ends_fit = omega (arith, sum, one);
      room_for_each = has.room_for_each;
    })

-- there is room for one end more where there is room for one bio more
pub room_for_end : (bios : List MarkedBio) (ends : List ℕ) (len ends_len room ends_room spare : ℕ) → HasEnds (tagged_bios bios) room ends ends_room
    → len ≡ length bios → ends_len ≡ length ends → room - len ≡ spare → 1 ≤ spare → ends_len < ends_room
room_for_end bios ends len ends_len room ends_room spare has is ends_is left some =
    let tagged = length-map bios (λ (m : MarkedBio). tagged_of m.bio) in
    let same = ap length has.ends_are ∙ length-ends_after 0 (tagged_bios bios) in
    let more = has.room_for_each in
    omega (arith, tagged, same, more)

-- ---- a request stays one

linked_more : {X : Type 0} (together : X → X → Bool) (xs : List X) (x : X) → Linked together xs → joins_last together xs x ≡ true → Linked together (xs ++ x ∷ [])
linked_more together [] x linked joined = tt
linked_more together (y ∷ []) x linked joined = (joined, tt)
linked_more together (y ∷ z ∷ zs) x linked joined = (linked.0, linked_more together (z ∷ zs) x linked.1 joined)

all_more : {X : Type 0} (P : X → Type 0) (xs : List X) (x : X) → AllByRecursion P xs → P x → AllByRecursion P (xs ++ x ∷ [])
all_more P [] x all one = (one, tt)
all_more P (y ∷ ys) x all one = (all.0, all_more P ys x all.1 one)

pub request_with : (keys : List KeyData) (bios : List MarkedBio) (bio : Bio) → IsRequest keys (tagged_bios bios) → joins_last (joins keys) (tagged_bios bios) (tagged_of bio) ≡ true
    → IsPlaced keys (extent_of bio) → IsRequest keys (tagged_bios (bios ++ unmarked bio ∷ []))
request_with keys bios bio request joined placed =
    subst (λ (ts : List TaggedBio). IsRequest keys ts) (sym (tagged_bios-append bios (unmarked bio))) (record {
      placed = all_more (λ (t : TaggedBio). IsPlaced keys t.bio) (tagged_bios bios) (tagged_of bio) request.placed placed;
      joined = linked_more (joins keys) (tagged_bios bios) (tagged_of bio) request.joined joined;
    })
