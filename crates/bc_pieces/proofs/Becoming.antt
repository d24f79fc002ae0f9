-- What became of the bios of a request, from what became of its units by their numbers.
use Rattle.std.proofs.Common.{◌≡◌, ℕ, zero, suc, ◌+◌, ◌-◌, ◌<◌, ◌≤◌, inl, inr, Bool, true, false, cond, not, List, [], ◌∷◌, length, take, drop, map, get_or, refl, sym, ap, subst, ◌∙◌, arith, Option, Some, None}
use Rattle.std.specs.Prelude.{filter, zip, nat_lt, slice_get, option_and_then, MatchOption, ⊤}
use Rattle.std.specs.Option.{option_map, option_map_or, unwrap_or}
use Rattle.std.specs.List.{AllZip, range_with_len}
use Rattle.std.proofs.Math.Logic.{⊎_elim}
use Rattle.std.proofs.lemmas.Bool.{ltb-true, ltb-false, lt-ltb, false_from_ne_true}
use Rattle.std.proofs.lemmas.List.{length-map}
use Rattle.std.proofs.lemmas.List.Sums.{sum_by-cons}
use Rattle.std.proofs.lemmas.Option.{none-some, same_Some}
use Rattle.bc_base.specs.Lists.{At, Each, list_at}
use Rattle.bc_key.specs.KeyData.{KeyData}
use Rattle.bc_bio.specs.declared.access.Access.{Access}
use Rattle.bc_bio.specs.declared.access.Access.TheVariants.{Read, Write}
use Rattle.bc_bio.specs.declared.bio.Bio.{Bio}
use Rattle.bc_bio.specs.declared.unit.Unit.{Unit}
use Rattle.bc_bio.specs.declared.unit.Unit.TheVariants.{Full}
use Rattle.bc_bio.specs.declared.marked_bio.MarkedBio.{MarkedBio}
use Rattle.bc_bio.specs.declared.unit_place.UnitPlace.{UnitPlace}
use Rattle.bc_bio.specs.Conditions.{IsFull}
use Rattle.bc_bio.specs.Extent.{unit_sectors}
use Rattle.bc_bio.specs.PlannedUnit.{PlannedUnit}
use Rattle.bc_bio.specs.Windows.{NamedUnit, TaggedBio, count_units, named_unit}
use Rattle.bc_bio.specs.Requests.{RequestParts, tagged_of, tagged_bios, place_of, place_in, is_after, is_over, unit_in}
use Rattle.bc_bio.proofs.RequestLaws.{unit_found}
use Rattle.bc_medium.specs.declared.entry.Entry.{Entry}
use Rattle.bc_medium.specs.declared.unit_at.UnitAt.{UnitAt}
use Rattle.bc_medium.specs.declared.unit_name.UnitName.{UnitName}
use Rattle.bc_medium.specs.Entries.{name_of_entry, unit_name, IsToldAt, told_by, HasAnswer}
use Rattle.bc_medium.specs.Growth.{IsEntryOf, failed_names}
use Rattle.bc_medium.specs.KeyedDisk.{Sectors, Faulted, Written, Text}
use Rattle.bc_medium.specs.LawfulOrders.{unit_name_of}
use Rattle.bc_medium.specs.Layout.{shard_of}
use Rattle.bc_queue.specs.RequestUnits.{no_unit, named_at, access_at, written_bytes, planned_at, faults_of, with_faults, attempted_in, failed_among}
use Rattle.bc_queue.specs.Carrying.{AccessFacts, answer_of, content_of}
use Rattle.bc_queue.specs.Laws.{TagsDiffer}
use Rattle.bc_queue.proofs.Lists.{get_map, get_or_map, each_filter, each_range}
use Rattle.bc_queue.proofs.Contents.{same_number}
use Rattle.bc_queue.proofs.Marks.{over_is}
use Rattle.bc_pieces.specs.AttemptedRequest.{IsCarriedItsWay, CarriesUnits, HasNoFault}
use Rattle.bc_pieces.specs.Becoming.{MarksFirst, planned_in, IsAnswered, IsStopped, OpensWith, KnowsUnit, KnowsDone, KnowsFault, Becomes}
use Rattle.bc_pieces.proofs.Walk.{drop_all}
use Rattle.bc_pieces.proofs.Marks.{not_less, failed_within, no_fault_at, In, in_range, in_filter, member, found, failed_found, IsMarked, marked_by, Source, source}

-- ---- places of a bio's units

-- the number of the first unit of bio number k
abbrev pub first_of : List TaggedBio → ℕ → ℕ
first_of tagged k = count_units (take k tagged)

pub place_at : (tagged : List TaggedBio) (k i : ℕ) (t : TaggedBio) → At tagged k t → i < t.bio.units → place_of tagged (first_of tagged k + i) ≡ record { bio = k; unit = i }
place_at [] k i t at within = absurd (none-some t at)
place_at (u ∷ tagged) zero i t at within =
    let same : u ≡ t = same_Some u t at in
    let none : 0 + i ≡ i = omega arith in
    let units : i < u.bio.units = subst (λ (x : TaggedBio). i < x.bio.units) (sym same) within in
    ap (place_of (u ∷ tagged)) none
    ∙ ap (λ (b : Bool). let p : UnitPlace = cond b (record { bio = 0; unit = i }) (record { bio = (place_of tagged (i - u.bio.units)).bio + 1; unit = (place_of tagged (i - u.bio.units)).unit }) in p) (lt-ltb i u.bio.units units)
place_at (u ∷ tagged) (suc k) i t at within =
    let sum : count_units (u ∷ take k tagged) ≡ u.bio.units + count_units (take k tagged) = sum_by-cons (λ (x : TaggedBio). x.bio.units) u (take k tagged) in
    let n : ℕ = first_of (u ∷ tagged) (suc k) + i in
    let past : nat_lt n u.bio.units ≡ false = false_from_ne_true (nat_lt n u.bio.units) (λ t'. let lt = ltb-true n u.bio.units t' in absurd (omega (arith, lt, sum))) in
    let rest : n - u.bio.units ≡ first_of tagged k + i = omega (arith, sum) in
    let next : k + 1 ≡ suc k = omega arith in
    ap (λ (b : Bool). let p : UnitPlace = cond b (record { bio = 0; unit = n }) (record { bio = (place_of tagged (n - u.bio.units)).bio + 1; unit = (place_of tagged (n - u.bio.units)).unit }) in p) past
    ∙ ap (λ (m : ℕ). let p : UnitPlace = record { bio = (place_of tagged m).bio + 1; unit = (place_of tagged m).unit } in p) rest
    ∙ ap (λ (q : UnitPlace). let p : UnitPlace = record { bio = q.bio + 1; unit = q.unit } in p) (place_at tagged k i t at within)
    ∙ ap (λ (m : ℕ). let p : UnitPlace = record { bio = m; unit = i } in p) next

pub number_within : (tagged : List TaggedBio) (k i : ℕ) (t : TaggedBio) → At tagged k t → i < t.bio.units → first_of tagged k + i < count_units tagged
number_within [] k i t at within = absurd (none-some t at)
number_within (u ∷ tagged) zero i t at within =
    let same : u.bio.units ≡ t.bio.units = ap (λ (x : TaggedBio). x.bio.units) (same_Some u t at) in
    let sum : count_units (u ∷ tagged) ≡ u.bio.units + count_units tagged = sum_by-cons (λ (x : TaggedBio). x.bio.units) u tagged in
    omega (arith, same, sum, within)
number_within (u ∷ tagged) (suc k) i t at within =
    let sum : count_units (u ∷ tagged) ≡ u.bio.units + count_units tagged = sum_by-cons (λ (x : TaggedBio). x.bio.units) u tagged in
    let front : count_units (u ∷ take k tagged) ≡ u.bio.units + count_units (take k tagged) = sum_by-cons (λ (x : TaggedBio). x.bio.units) u (take k tagged) in
    let rest = number_within tagged k i t at within in
    omega (arith, sum, front, rest)

place_within : (tagged : List TaggedBio) (n : ℕ) (t : TaggedBio) → n < count_units tagged → At tagged (place_of tagged n).bio t → (place_of tagged n).unit < t.bio.units
place_within [] n t within at = absurd (none-some t at)
place_within (u ∷ tagged) n t within at = of_bool (nat_lt n u.bio.units) refl (place_within tagged (n - u.bio.units) t) at
  where
    later : (k : ℕ) → At (u ∷ tagged) (k + 1) t → At tagged k t
    later k at' = let next : k + 1 ≡ suc k = omega arith in ap (slice_get (u ∷ tagged)) (sym next) ∙ at'

    of_bool : (b : Bool) → nat_lt n u.bio.units ≡ b → (n - u.bio.units < count_units tagged → At tagged (place_of tagged (n - u.bio.units)).bio t → (place_of tagged (n - u.bio.units)).unit < t.bio.units) →
        let p : UnitPlace = cond b (record { bio = 0; unit = n }) (record { bio = (place_of tagged (n - u.bio.units)).bio + 1; unit = (place_of tagged (n - u.bio.units)).unit }) in
        At (u ∷ tagged) p.bio t → p.unit < t.bio.units
    of_bool true is rest at' =
        let same : u.bio.units ≡ t.bio.units = ap (λ (x : TaggedBio). x.bio.units) (same_Some u t at') in
        let less : n < u.bio.units = ltb-true n u.bio.units is in
        omega (arith, same, less)
    of_bool false is rest at' =
        let past : u.bio.units ≤ n = ltb-false n u.bio.units is in
        let sum : count_units (u ∷ tagged) ≡ u.bio.units + count_units tagged = sum_by-cons (λ (x : TaggedBio). x.bio.units) u tagged in
        rest (omega (arith, past, sum, within)) (later (place_of tagged (n - u.bio.units)).bio at')

-- ---- a unit of a bio, from a unit of a request

abbrev at_of : ℕ → PlannedUnit → UnitAt
at_of caller u = record { caller = caller; tag = u.tag; unit = u.unit; sector = u.sector; context = u.context }

-- an attempted unit of a bio, by its entry
answered : (facts : AccessFacts) (seen : List (List Entry)) (old new : Bio) (i : ℕ) (e : Entry) (failed : Bool) (before after : List MarkedBio) (n : ℕ) → planned_at facts.keys before n ≡ planned_in facts.keys old i → unit_in before n ≡ slice_get old.units i → unit_in after n ≡ slice_get new.units i
    → IsCarriedItsWay facts seen before after n e → e.failed ≡ failed → IsAnswered facts seen old new i failed
answered facts seen old new i e failed before after n planned was now c did =
    let u : PlannedUnit = planned_in facts.keys old i in
    let entry : IsEntryOf facts.caller u e = subst (λ p. IsEntryOf facts.caller p e) planned c.entry in
    let at : e.at ≡ at_of facts.caller u = entry.unit in
    let access : e.access ≡ old.access = entry.access in
    let name : name_of_entry e ≡ unit_name_of facts.caller u = ap unit_name at in
    let shard : c.place.shard ≡ shard_of facts.shards u.sector = c.shard ∙ ap (λ (a : UnitAt). shard_of facts.shards a.sector) at in
    let told : IsToldAt facts.keys (facts.opening c.place.shard) (list_at seen c.place.shard) c.place.index (unit_name_of facts.caller u) (answer_of old.access failed c.bytes) =
    subst (λ m. IsToldAt facts.keys (facts.opening c.place.shard) (list_at seen c.place.shard) c.place.index m (answer_of old.access failed c.bytes)) name
    (subst (λ a. IsToldAt facts.keys (facts.opening c.place.shard) (list_at seen c.place.shard) c.place.index (name_of_entry e) a)
    (ap (λ a. answer_of a e.failed c.bytes) access ∙ ap (λ b. answer_of old.access b c.bytes) did) c.told) in record {
      place = c.place;
      shard = shard;
      bytes = c.bytes;
      content = sym now ∙ c.content ∙ ap (λ a. Some (content_of a e.failed c.place c.bytes)) access ∙ ap (λ b. Some (content_of old.access b c.place c.bytes)) did;
      full = subst (λ (a : UnitAt). IsFull (unit_sectors facts.keys a.context) (Full c.bytes)) at c.full;
      written = λ writes. sym was ∙ c.back (access ∙ writes);
      told = told;
      known = λ base opened.
          let here : IsToldAt facts.keys (Some (base c.place.shard)) (list_at seen c.place.shard) c.place.index (unit_name_of facts.caller u) (answer_of old.access failed c.bytes) =
          subst (λ o. IsToldAt facts.keys o (list_at seen c.place.shard) c.place.index (unit_name_of facts.caller u) (answer_of old.access failed c.bytes)) opened told in
          subst (λ s. HasAnswer (told_by facts.keys (base s) (list_at seen s)) (unit_name_of facts.caller u) (answer_of old.access failed c.bytes)) shard (c.place.index, here);
    }

unit_at : (bios : List MarkedBio) (n k i : ℕ) (marked : MarkedBio) → place_in bios n ≡ record { bio = k; unit = i } → At bios k marked → unit_in bios n ≡ slice_get marked.bio.units i
unit_at bios n k i marked place at =
    ap (λ (p : UnitPlace). option_and_then (λ (m : MarkedBio). slice_get m.bio.units p.unit) (slice_get bios p.bio)) place
    ∙ ap (λ (o : Option MarkedBio). option_and_then (λ (m : MarkedBio). slice_get m.bio.units i) o) at

pub planned_is : (keys : List KeyData) (bios : List MarkedBio) (n k i : ℕ) (marked : MarkedBio) → place_in bios n ≡ record { bio = k; unit = i } → At bios k marked → n < count_units (tagged_bios bios) → planned_at keys bios n ≡ planned_in keys marked.bio i
planned_is keys bios n k i marked place at within =
    let tagged : List TaggedBio = tagged_bios bios in
    let t : TaggedBio = tagged_of marked.bio in
    let named : named_at keys bios n ≡ named_unit keys t i =
    ap (λ (o : Option NamedUnit). unwrap_or o no_unit) (unit_found keys tagged n t within)
    ∙ ap (λ (p : UnitPlace). named_unit keys (get_or tagged p.bio t) p.unit) place
    ∙ ap (λ (x : TaggedBio). named_unit keys x i) (get_or_map (λ (m : MarkedBio). tagged_of m.bio) bios k marked t at) in
    let access : access_at bios n ≡ marked.bio.access =
    ap (λ (p : UnitPlace). option_map_or (λ (m : MarkedBio). m.bio.access) (slice_get bios p.bio) Read) place
    ∙ ap (λ (o : Option MarkedBio). option_map_or (λ (m : MarkedBio). m.bio.access) o Read) at in
    let unit = unit_at bios n k i marked place at in
    ap (λ (u : NamedUnit). let p : PlannedUnit = record { tag = u.tag; unit = u.unit; access = access_at bios n; context = u.context; sector = u.sector; bytes = written_bytes (access_at bios n) (unit_in bios n) } in p) named
    ∙ ap (λ (a : Access). let p : PlannedUnit = record { tag = t.tag; unit = i; access = a; context = (named_unit keys t i).context; sector = (named_unit keys t i).sector; bytes = written_bytes a (unit_in bios n) } in p) access
    ∙ ap (λ (x : Option Unit). let p : PlannedUnit = record { tag = t.tag; unit = i; access = marked.bio.access; context = (named_unit keys t i).context; sector = (named_unit keys t i).sector; bytes = written_bytes marked.bio.access x } in p) unit

-- ---- what is known of a bio

each_map : {X Y : Type 0} (P : Y → Type 0) (f : X → Y) (xs : List X) → Each (λ x. P (f x)) xs → Each P (map f xs)
each_map P f [] each = tt
each_map P f (x ∷ xs) each = (each.0, each_map P f xs each.1)

drop_at : {X : Type 0} (xs : List X) (k : ℕ) (x : X) → At xs k x → drop k xs ≡ x ∷ drop (k + 1) xs
drop_at [] k x at = absurd (none-some x at)
drop_at (y ∷ xs) zero x at = ap (λ z. z ∷ xs) (same_Some y x at)
drop_at (y ∷ xs) (suc k) x at = drop_at xs k x at ∙ ap (λ n. x ∷ drop n (y ∷ xs)) (next k)
  where
    next : (k : ℕ) → suc (k + 1) ≡ suc k + 1
    next k = omega arith

range_at : (first count k : ℕ) → k < count → At (range_with_len first count) k (first + k)
range_at first zero k within = absurd (omega (arith, within))
range_at first (suc count) zero within = ap (λ n. Some n) (plus_none first)
  where
    plus_none : (n : ℕ) → n ≡ n + 0
    plus_none n = omega arith
range_at first (suc count) (suc k) within = range_at (first + 1) count k (omega (arith, within)) ∙ ap (λ n. Some n) (over first k)
  where
    over : (n k : ℕ) → n + 1 + k ≡ n + suc k
    over n k = omega arith

module _ (facts : AccessFacts) (seen : List (List Entry)) (base : ℕ → Sectors) (opens : OpensWith facts base) (old new : Bio) where
  known_of : (i : ℕ) (failed : Bool) (a : IsAnswered facts seen old new i failed) → KnowsUnit facts seen base (planned_in facts.keys old i) (answer_of old.access failed a.bytes)
  known_of i failed a = a.known base (subst (λ s. facts.opening s ≡ Some (base s)) (sym a.shard) (opens (planned_in facts.keys old i).sector))

  -- a unit that was read, and its bytes
  record IsRead (i : ℕ) : Type 0 where
    pub text : List ℕ
    pub known : KnowsUnit facts seen base (planned_in facts.keys old i) (Text text)
    pub at : At new.units i (Full text)

  record AreRead (first count : ℕ) : Type 0 where
    pub texts : List (List ℕ)
    pub known : AllZip (λ u text. KnowsUnit facts seen base u (Text text)) (map (planned_in facts.keys old) (range_with_len first count)) texts
    pub units : drop first new.units ≡ map (λ text. Full text) texts

  are_read : (first count : ℕ) → length new.units ≡ first + count → ((i : ℕ) → first ≤ i → i < first + count → IsRead i) → AreRead first count
  are_read first zero long reads = record { texts = []; known = tt; units = drop_all new.units first (omega (arith, long)) }
  are_read first (suc count) long reads =
      let here = reads first (omega arith) (omega arith) in
      let rest = are_read (first + 1) count (omega (arith, long)) (λ i least below. reads i (omega (arith, least)) (omega (arith, below))) in record {
        texts = here.text ∷ rest.texts;
        known = (here.known, rest.known);
        units = drop_at new.units first (Full here.text) here.at ∙ ap (λ l. Full here.text ∷ l) rest.units;
      }

  knows_done : length new.units ≡ length old.units → ((i : ℕ) → i < length old.units → IsAnswered facts seen old new i false) → KnowsDone facts seen base old new old.access
  knows_done long done = of_access old.access refl
    where
      of_access : (a : Access) → old.access ≡ a → KnowsDone facts seen base old new a
      of_access Write is =
          each_map (λ u. KnowsUnit facts seen base u Written) (planned_in facts.keys old) (range_with_len 0 (length old.units))
          (each_range (λ i. KnowsUnit facts seen base (planned_in facts.keys old i) Written) 0 (length old.units) (λ i least below.
          let a = done i (omega (arith, below)) in
          subst (λ x. KnowsUnit facts seen base (planned_in facts.keys old i) (answer_of x false a.bytes)) is (known_of i false a)))
      of_access Read is =
          let all = are_read 0 (length old.units) (omega (arith, long)) (λ i least below.
          let a = done i (omega (arith, below)) in
          let r : IsRead i = record {
            text = a.bytes;
            known = subst (λ x. KnowsUnit facts seen base (planned_in facts.keys old i) (answer_of x false a.bytes)) is (known_of i false a);
            at = a.content ∙ ap (λ x. Some (content_of x false a.place a.bytes)) is;
          } in r) in (all.texts, all.known, all.units)

  knows_fault : (unit : ℕ) → IsStopped facts seen old new unit → KnowsFault facts seen base old unit
  knows_fault unit s =
      let none : 0 + unit ≡ unit = omega arith in (
        get_map (planned_in facts.keys old) (range_with_len 0 (length old.units)) unit
            ∙ ap (option_map (planned_in facts.keys old)) (range_at 0 (length old.units) unit s.within)
            ∙ ap (λ (n : ℕ). Some (planned_in facts.keys old n)) none,
        subst (λ x. KnowsUnit facts seen base (planned_in facts.keys old unit) x) (of_access old.access s.fault.bytes) (known_of unit true s.fault),
      )
    where
      of_access : (a : Access) (bytes : List ℕ) → answer_of a true bytes ≡ Faulted
      of_access Write bytes = refl
      of_access Read bytes = refl

pub known_bio : (facts : AccessFacts) (seen : List (List Entry)) (old new : MarkedBio) → tagged_of new.bio ≡ tagged_of old.bio → (o : Option ℕ) → MatchOption o ((i : ℕ) → i < length old.bio.units → IsAnswered facts seen old.bio new.bio i false) (IsStopped facts seen old.bio new.bio)
    → (base : ℕ → Sectors) → OpensWith facts base → MatchOption o (KnowsDone facts seen base old.bio new.bio old.bio.access) (KnowsFault facts seen base old.bio)
known_bio facts seen old new same None done base opens = knows_done facts seen base opens old.bio new.bio (ap (λ (t : TaggedBio). t.bio.units) same) done
known_bio facts seen old new same (Some unit) stopped base opens = knows_fault facts seen base opens old.bio new.bio unit stopped

-- ---- names of failed entries

abbrev named_by : AccessFacts → List MarkedBio → ℕ → UnitName
named_by old before n = unit_name_of old.caller (planned_at old.keys before n)

failed_are : (old : AccessFacts) (seen : List (List Entry)) (before after : List MarkedBio) (ns : List ℕ) (es : List Entry) → AllZip (IsCarriedItsWay old seen before after) ns es → failed_names es ≡ map (named_by old before) (failed_among ns es)
failed_are old seen before after [] [] all = refl
failed_are old seen before after [] (e ∷ es) all = absurd all
failed_are old seen before after (n ∷ ns) [] all = absurd all
failed_are old seen before after (n ∷ ns) (e ∷ es) all = of_bool e.failed (ap unit_name all.0.entry.unit) (failed_are old seen before after ns es all.1)
  where
    of_bool : (b : Bool) → name_of_entry e ≡ named_by old before n → failed_names es ≡ map (named_by old before) (failed_among ns es)
        → map name_of_entry (cond b (e ∷ filter (λ x. x.failed) es) (filter (λ x. x.failed) es)) ≡ map (named_by old before) (map (λ (made : ℕ × Entry). made.0) (cond b ((n, e) ∷ filter (λ (made : ℕ × Entry). made.1.failed) (zip ns es)) (filter (λ (made : ℕ × Entry). made.1.failed) (zip ns es))))
    of_bool true is rest = ap (λ x. x ∷ failed_names es) is ∙ ap (λ l. named_by old before n ∷ l) rest
    of_bool false is rest = rest

in_place : (ns : List ℕ) (n : ℕ) → In n ns → (place : ℕ) × At ns place n
in_place [] n there = absurd there
in_place (m ∷ ns) n there = ⊎_elim
    (λ (here : n ≡ m). let at : (place : ℕ) × At (m ∷ ns) place n = (0, ap (λ k. Some k) (sym here)) in at)
    (λ (later : In n ns). let rest = in_place ns n later in let at : (place : ℕ) × At (m ∷ ns) place n = (suc rest.0, rest.1) in at)
    there

each_in : (P : ℕ → Type 0) (ns : List ℕ) → ((n : ℕ) → In n ns → P n) → Each P ns
each_in P [] f = tt
each_in P (n ∷ ns) f = (f n (inl refl), each_in P ns (λ m there. f m (inr there)))

get_or_at : {X : Type 0} (xs : List X) (k : ℕ) (x d : X) → At xs k x → get_or xs k d ≡ x
get_or_at [] k x d at = absurd (none-some x at)
get_or_at (y ∷ xs) zero x d at = same_Some y x at
get_or_at (y ∷ xs) (suc k) x d at = get_or_at xs k x d at

-- a unit's bio is there
bio_at : (tagged : List TaggedBio) (n : ℕ) → n < count_units tagged → (t : TaggedBio) × At tagged (place_of tagged n).bio t
bio_at [] n within = absurd (omega (arith, within))
bio_at (u ∷ tagged) n within = of_bool (nat_lt n u.bio.units) refl (λ less. bio_at tagged (n - u.bio.units) less)
  where
    later : (k : ℕ) (t : TaggedBio) → At tagged k t → At (u ∷ tagged) (k + 1) t
    later k t at = let next : k + 1 ≡ suc k = omega arith in ap (slice_get (u ∷ tagged)) next ∙ at

    of_bool : (b : Bool) → nat_lt n u.bio.units ≡ b → (n - u.bio.units < count_units tagged → (t : TaggedBio) × At tagged (place_of tagged (n - u.bio.units)).bio t) →
        let p : UnitPlace = cond b (record { bio = 0; unit = n }) (record { bio = (place_of tagged (n - u.bio.units)).bio + 1; unit = (place_of tagged (n - u.bio.units)).unit }) in
        (t : TaggedBio) × At (u ∷ tagged) p.bio t
    of_bool true is rest = (u, refl)
    of_bool false is rest =
        let past : u.bio.units ≤ n = ltb-false n u.bio.units is in
        let sum : count_units (u ∷ tagged) ≡ u.bio.units + count_units tagged = sum_by-cons (λ (x : TaggedBio). x.bio.units) u tagged in
        let r = rest (omega (arith, past, sum, within)) in
        (r.0, later (place_of tagged (n - u.bio.units)).bio r.0 r.1)

-- ---- one bio

zip_by_place : {X Y : Type 0} (R : X → Y → Type 0) (xs : List X) (ys : List Y) → length xs ≡ length ys → ((k : ℕ) (x : X) (y : Y) → k < length xs → At xs k x → At ys k y → R x y) → AllZip R xs ys
zip_by_place R [] [] long f = tt
zip_by_place R [] (y ∷ ys) long f = absurd (omega (arith, long))
zip_by_place R (x ∷ xs) [] long f = absurd (omega (arith, long))
zip_by_place R (x ∷ xs) (y ∷ ys) long f = (f 0 x y (omega arith) refl refl, zip_by_place R xs ys (omega (arith, long)) (λ k a b less at_a at_b. f (suc k) a b (omega (arith, less)) at_a at_b))

module _ (old new : AccessFacts) (before after : RequestParts) (made : List Entry) (c : CarriesUnits old new before after 0 (count_units (tagged_bios before.bios)) made) (none : HasNoFault before.bios) where
  abbrev tagged : List TaggedBio
  tagged = tagged_bios before.bios

  abbrev numbers : List ℕ
  numbers = attempted_in after.bios 0 (count_units tagged)

  abbrev failed : List ℕ
  failed = failed_among numbers made

  abbrev Carried : ℕ → Entry → Type 0
  Carried = IsCarriedItsWay old new.seen before.bios after.bios

  -- each of them is a unit of the request
  all_below : Each (λ n. n < count_units tagged) failed
  all_below = failed_within (λ n. n < count_units tagged) numbers made
      (each_filter (λ n. n < count_units tagged) (λ n. not (is_over after.bios n)) (range_with_len 0 (count_units tagged)) (each_range (λ n. n < count_units tagged) 0 (count_units tagged) (λ j from below. omega (arith, below))))

  module _ (k : ℕ) (was is : MarkedBio) (was_at : At before.bios k was) (is_at : At after.bios k is) where
    tagged_at : At tagged k (tagged_of was.bio)
    tagged_at = get_map (λ (m : MarkedBio). tagged_of m.bio) before.bios k ∙ ap (option_map (λ (m : MarkedBio). tagged_of m.bio)) was_at

    mark_is : get_or (faults_of after.bios) k None ≡ is.fault
    mark_is = get_or_map (λ (m : MarkedBio). m.fault) after.bios k is None is_at

    same_tagged : tagged_of is.bio ≡ tagged_of was.bio
    same_tagged = same_Some (tagged_of is.bio) (tagged_of was.bio)
        (sym (get_map (λ (m : MarkedBio). tagged_of m.bio) after.bios k ∙ ap (option_map (λ (m : MarkedBio). tagged_of m.bio)) is_at)
        ∙ ap (λ (l : List TaggedBio). slice_get l k) c.bios ∙ tagged_at)

    abbrev number : ℕ → ℕ
    number i = first_of tagged k + i

    -- what is reported of a unit of the bio
    record UnitOf (i : ℕ) : Type 0 where
      pub place : place_of tagged (number i) ≡ record { bio = k; unit = i }
      pub below : number i < count_units tagged
      pub planned : planned_at old.keys before.bios (number i) ≡ planned_in old.keys was.bio i
      pub unit_was : unit_in before.bios (number i) ≡ slice_get was.bio.units i
      pub unit_is : unit_in after.bios (number i) ≡ slice_get is.bio.units i
      pub over_is_after : is_over after.bios (number i) ≡ is_after i is.fault

    unit_of : (i : ℕ) → i < length was.bio.units → UnitOf i
    unit_of i within =
        let place : place_of tagged (number i) ≡ record { bio = k; unit = i } = place_at tagged k i (tagged_of was.bio) tagged_at within in
        let there : place_in after.bios (number i) ≡ record { bio = k; unit = i } = ap (λ t. place_of t (number i)) c.bios ∙ place in
        let below : number i < count_units tagged = number_within tagged k i (tagged_of was.bio) tagged_at within in record {
          place = place;
          below = below;
          planned = planned_is old.keys before.bios (number i) k i was place was_at below;
          unit_was = unit_at before.bios (number i) k i was place was_at;
          unit_is = unit_at after.bios (number i) k i is there is_at;
          over_is_after =
              over_is after.bios (number i)
              ∙ ap (λ (p : UnitPlace). is_after p.unit (get_or (faults_of after.bios) p.bio None)) there
              ∙ ap (is_after i) mark_is;
        }

    long : k < length before.bios → k < length (faults_of before.bios)
    long within = let same = length-map before.bios (λ (m : MarkedBio). m.fault) in omega (arith, same, within)

    -- a unit that isn't after a fault was attempted; if it met one, the bio is marked by it or by one before
    attempted : (i : ℕ) → i < length was.bio.units → k < length before.bios → is_after i is.fault ≡ false → (e : Entry) × Carried (number i) e × (e.failed ≡ true → IsMarked (faults_of after.bios) k i)
    attempted i within bio not_over =
        let u = unit_of i within in
        let listed : In (number i) numbers = in_filter (λ n. not (is_over after.bios n)) (range_with_len 0 (count_units tagged)) (number i) (ap not (u.over_is_after ∙ not_over)) (in_range 0 (count_units tagged) (number i) (omega arith) (let below = u.below in omega (arith, below))) in
        let f = found Carried numbers made (number i) c.carried listed in (
          f.e,
          f.is,
          λ did.
              let marked : IsMarked (with_faults tagged (faults_of before.bios) failed) (place_of tagged (number i)).bio (place_of tagged (number i)).unit =
              marked_by tagged (faults_of before.bios) failed (number i) (subst (λ (p : UnitPlace). p.bio < length (faults_of before.bios)) (sym u.place) (long bio)) (f.failed did) in
              subst (λ (l : List (Option ℕ)). IsMarked l k i) (sym c.faults) (subst (λ (p : UnitPlace). IsMarked (with_faults tagged (faults_of before.bios) failed) p.bio p.unit) u.place marked),
        )

    -- such a unit, where the bio's mark isn't one of it nor of one before
    done : (i : ℕ) → i < length was.bio.units → k < length before.bios → is_after i is.fault ≡ false → ((mark : ℕ) → is.fault ≡ Some mark → i < mark) → IsAnswered old new.seen was.bio is.bio i false
    done i within bio not_over later =
        let u = unit_of i within in
        let a = attempted i within bio not_over in
        answered old new.seen was.bio is.bio i a.0 false before.bios after.bios (number i) u.planned u.unit_was u.unit_is a.1
        (of_failed a.0.failed a.2)
      where
        of_failed : (b : Bool) → (b ≡ true → IsMarked (faults_of after.bios) k i) → b ≡ false
        of_failed false marks = refl
        of_failed true marks = let m = marks refl in let less = later m.mark (sym mark_is ∙ m.is) in absurd (omega (arith, less, m.at_most))

    stopped : (mark : ℕ) → is.fault ≡ Some mark → k < length before.bios → Source tagged failed k mark → IsStopped old new.seen was.bio is.bio mark
    stopped mark fault bio s =
        let below : s.n < count_units tagged = member (λ n. n < count_units tagged) failed s.n all_below s.there in
        let here : (place_of tagged s.n).unit < length was.bio.units = place_within tagged s.n (tagged_of was.bio) below (ap (slice_get tagged) s.bio_is ∙ tagged_at) in
        let within : mark < length was.bio.units = subst (λ (j : ℕ). j < length was.bio.units) s.unit_is here in
        let u = unit_of mark within in
        let same : s.n ≡ number mark = same_number tagged (number mark) s.n (s.bio_is ∙ sym (ap (λ (p : UnitPlace). p.bio) u.place)) (s.unit_is ∙ sym (ap (λ (p : UnitPlace). p.unit) u.place)) in
        let f = failed_found Carried numbers made s.n c.carried s.there in record {
          within = within;
          fault = answered old new.seen was.bio is.bio mark f.e true before.bios after.bios (number mark) u.planned u.unit_was u.unit_is (subst (λ n. Carried n f.e) same f.is) f.did;
          done = λ i less. done i (omega (arith, less, within)) bio (ap (is_after i) fault ∙ not_less mark i (omega (arith, less)))
              (λ other marked. let one : mark ≡ other = same_Some mark other (sym fault ∙ marked) in omega (arith, one, less));
          left = λ i past inside. let v = unit_of i inside in sym v.unit_is ∙ c.others (number i) (inr (inr (v.over_is_after ∙ ap (is_after i) fault ∙ lt-ltb mark i past))) ∙ v.unit_was;
        }

    becomes_one : k < length before.bios → Becomes old new.seen was is
    becomes_one bio =
        let outcome = of_fault is.fault refl in record { same = same_tagged; outcome = outcome; known = known_bio old new.seen was is same_tagged is.fault outcome }
      where
        of_fault : (o : Option ℕ) → is.fault ≡ o → MatchOption o ((i : ℕ) → i < length was.bio.units → IsAnswered old new.seen was.bio is.bio i false) (IsStopped old new.seen was.bio is.bio)
        of_fault None fault = λ i within. done i within bio (ap (is_after i) fault) (λ mark marked. absurd (none-some mark (sym fault ∙ marked)))
        of_fault (Some mark) fault = ⊎_elim
            (λ (marked : get_or (faults_of before.bios) k None ≡ Some mark). absurd (none-some mark (sym (no_fault_at before.bios k none) ∙ marked)))
            (λ (s : Source tagged failed k mark). stopped mark fault bio s)
            (source tagged (faults_of before.bios) failed k mark (ap (λ (l : List (Option ℕ)). get_or l k None) (sym c.faults) ∙ mark_is ∙ fault))

  -- the names of the failed entries are those of their units
  names : failed_names made ≡ map (λ n. unit_name_of old.caller (planned_at old.keys before.bios n)) failed
  names = failed_are old new.seen before.bios after.bios numbers made c.carried

  module _ (differ : TagsDiffer tagged) (k : ℕ) (was is : MarkedBio) (was_at : At before.bios k was) (is_at : At after.bios k is) (bio : k < length before.bios) where
    abbrev Least : UnitName → Type 0
    Least name = name.op ≡ was.bio.tag → (mark : ℕ) × (is.fault ≡ Some mark) × (mark ≤ name.unit)

    mark_told : (unit : ℕ) → IsMarked (faults_of after.bios) k unit → (mark : ℕ) × (is.fault ≡ Some mark) × (mark ≤ unit)
    mark_told unit m = (m.mark, sym (mark_is k was is was_at is_at) ∙ m.is, m.at_most)

    least_of : (n : ℕ) → In n failed → Least (unit_name_of old.caller (planned_at old.keys before.bios n))
    least_of n there same =
        let below : n < count_units tagged = member (λ m. m < count_units tagged) failed n all_below there in
        let t = bio_at tagged n below in
        let p : UnitPlace = place_of tagged n in
        let named : named_at old.keys before.bios n ≡ named_unit old.keys t.0 p.unit =
        ap (λ (o : Option NamedUnit). unwrap_or o no_unit) (unit_found old.keys tagged n t.0 below) ∙ ap (λ (x : TaggedBio). named_unit old.keys x p.unit) (get_or_at tagged p.bio t.0 t.0 t.1) in
        let tags : t.0.tag ≡ was.bio.tag = sym (ap (λ (u : NamedUnit). u.tag) named) ∙ same in
        let here : p.bio ≡ k = differ p.bio k t.0 (tagged_of was.bio) t.1 (tagged_at k was is was_at is_at) tags in
        let marked : IsMarked (with_faults tagged (faults_of before.bios) failed) p.bio p.unit =
        marked_by tagged (faults_of before.bios) failed n (subst (λ (j : ℕ). j < length (faults_of before.bios)) (sym here) (long k was is was_at is_at bio)) there in
        let m : IsMarked (faults_of after.bios) k p.unit = subst (λ (l : List (Option ℕ)). IsMarked l k p.unit) (sym c.faults) (subst (λ (j : ℕ). IsMarked (with_faults tagged (faults_of before.bios) failed) j p.unit) here marked) in
        let number_is : (named_at old.keys before.bios n).unit ≡ p.unit = ap (λ (u : NamedUnit). u.unit) named in
        subst (λ (j : ℕ). (mark : ℕ) × (is.fault ≡ Some mark) × (mark ≤ j)) (sym number_is) (mark_told p.unit m)

    marks_one : MarksFirst old.caller made was is
    marks_one = record {
      least = subst (λ l. Each Least l) (sym names) (each_map Least (λ n. unit_name_of old.caller (planned_at old.keys before.bios n)) failed (each_in (λ n. Least (unit_name_of old.caller (planned_at old.keys before.bios n))) failed least_of));
      failed = of_fault is.fault refl;
    }
      where
        of_source : (mark : ℕ) → is.fault ≡ Some mark → Source tagged failed k mark → (place : ℕ) × At (failed_names made) place (record { thread = old.caller; op = was.bio.tag; unit = mark })
        of_source mark fault s =
            let stop = stopped k was is was_at is_at mark fault bio s in
            let u = unit_of k was is was_at is_at mark stop.within in
            let same : s.n ≡ number k was is was_at is_at mark = same_number tagged (number k was is was_at is_at mark) s.n (s.bio_is ∙ sym (ap (λ (p : UnitPlace). p.bio) u.place)) (s.unit_is ∙ sym (ap (λ (p : UnitPlace). p.unit) u.place)) in
            let at = in_place failed s.n s.there in (
              at.0,
              ap (λ (l : List UnitName). slice_get l at.0) names
                  ∙ get_map (λ n. unit_name_of old.caller (planned_at old.keys before.bios n)) failed at.0
                  ∙ ap (option_map (λ n. unit_name_of old.caller (planned_at old.keys before.bios n))) at.1
                  ∙ ap (λ n. Some (unit_name_of old.caller (planned_at old.keys before.bios n))) same
                  ∙ ap (λ (v : PlannedUnit). Some (unit_name_of old.caller v)) u.planned,
            )

        of_fault : (o : Option ℕ) → is.fault ≡ o → MatchOption o ⊤ (λ unit. (place : ℕ) × At (failed_names made) place (record { thread = old.caller; op = was.bio.tag; unit = unit }))
        of_fault None fault = tt
        of_fault (Some mark) fault = ⊎_elim
            (λ (marked : get_or (faults_of before.bios) k None ≡ Some mark). absurd (none-some mark (sym (no_fault_at before.bios k none) ∙ marked)))
            (λ (s : Source tagged failed k mark). of_source mark fault s)
            (source tagged (faults_of before.bios) failed k mark (ap (λ (l : List (Option ℕ)). get_or l k None) (sym c.faults) ∙ mark_is k was is was_at is_at ∙ fault))

  pub marks_all : TagsDiffer tagged → AllZip (MarksFirst old.caller made) before.bios after.bios
  marks_all differ =
      let one = length-map before.bios (λ (m : MarkedBio). tagged_of m.bio) in
      let other = length-map after.bios (λ (m : MarkedBio). tagged_of m.bio) in
      let both : length (tagged_bios after.bios) ≡ length (tagged_bios before.bios) = ap length c.bios in
      zip_by_place (MarksFirst old.caller made) before.bios after.bios (omega (arith, one, other, both)) (λ k was is within was_at is_at. marks_one differ k was is was_at is_at within)

  pub becomes_all : AllZip (Becomes old new.seen) before.bios after.bios
  becomes_all =
      let one = length-map before.bios (λ (m : MarkedBio). tagged_of m.bio) in
      let other = length-map after.bios (λ (m : MarkedBio). tagged_of m.bio) in
      let both : length (tagged_bios after.bios) ≡ length (tagged_bios before.bios) = ap length c.bios in
      zip_by_place (Becomes old new.seen) before.bios after.bios (omega (arith, one, other, both)) (λ k was is within was_at is_at. becomes_one k was is was_at is_at within)
