-- The marks of a request's bios, by the numbers of the units that met faults.
use Rattle.std.proofs.Common.{◌≡◌, ◌≢◌, ℕ, zero, suc, ◌+◌, ◌<◌, ◌≤◌, ◌⊎◌, inl, inr, Bool, true, false, cond, List, [], ◌∷◌, ◌++◌, length, map, set, get_or, refl, sym, ap, subst, ◌∙◌, arith, Option, Some, None}
use Rattle.std.specs.Prelude.{filter, zip, nat_lt, min}
use Rattle.std.specs.List.{AllZip, range_with_len}
use Rattle.std.proofs.Math.Logic.{⊎_elim}
use Rattle.std.proofs.Math.Nat.{min-eq_left, min-eq_right}
use Rattle.std.proofs.lemmas.Bool.{ltb-true, false_from_ne_true, cases_eq, cases_lt}
use Rattle.std.proofs.lemmas.List.{length-map, map-append}
use Rattle.std.proofs.lemmas.Option.{same_Some}
use Rattle.bc_base.specs.Lists.{Each}
use Rattle.bc_bio.specs.declared.marked_bio.MarkedBio.{MarkedBio}
use Rattle.bc_bio.specs.declared.unit_place.UnitPlace.{UnitPlace}
use Rattle.bc_bio.specs.Windows.{TaggedBio}
use Rattle.bc_bio.specs.Requests.{place_of, first_fault, is_after}
use Rattle.bc_medium.specs.declared.entry.Entry.{Entry}
use Rattle.bc_medium.specs.Entries.{name_of_entry}
use Rattle.bc_queue.specs.RequestUnits.{faults_of, with_fault_at, with_faults, failed_among}
use Rattle.bc_queue.proofs.Lists.{get_or_set, get_or_set_other}
use Rattle.bc_queue.proofs.Marks.{over}
use Rattle.bc_pieces.specs.AttemptedRequest.{HasNoFault}
use Rattle.std.proofs.lemmas.List.Elements.{filter-append}
use Rattle.bc_medium.specs.Growth.{failed_names}
use Rattle.bc_queue.proofs.Lists.{pairs_append}
use Rattle.bc_queue.proofs.Contents.{in_order}
use Rattle.bc_base.proofs.Members.{length-set}

-- ---- marks of later units

pub not_less : (a b : ℕ) → b ≤ a → nat_lt a b ≡ false
not_less a b le = false_from_ne_true (nat_lt a b) (λ t. let lt = ltb-true a b t in absurd (omega (arith, le, lt)))

-- a fault doesn't put its own unit, nor one before it, after it
stays : (m n : ℕ) (fault : Option ℕ) → m ≤ n → is_after m (Some (first_fault n fault)) ≡ is_after m fault
stays m n None le = not_less n m le
stays m n (Some fault) le = ⊎_elim
    (λ (less : fault < n). ap (λ (k : ℕ). nat_lt k m) (min-eq_right (weaker less)))
    (λ (past : n ≤ fault). ap (λ (k : ℕ). nat_lt k m) (min-eq_left past) ∙ not_less n m le ∙ sym (not_less fault m (further past)))
    (cases_lt fault n)
  where
    weaker : fault < n → fault ≤ n
    weaker less = omega (arith, less)

    further : n ≤ fault → m ≤ fault
    further past = omega (arith, past, le)

over_stays : (tagged : List TaggedBio) (faults : List (Option ℕ)) (n m : ℕ) → m ≤ n → over tagged (with_fault_at tagged faults n) m ≡ over tagged faults m
over_stays tagged faults n m le =
    let pn : UnitPlace = place_of tagged n in
    let pm : UnitPlace = place_of tagged m in
    let value : Option ℕ = Some (first_fault pn.unit (get_or faults pn.bio None)) in
    ⊎_elim
    (λ (same : pm.bio ≡ pn.bio).
    ⊎_elim
    (λ (here : get_or (set faults pn.bio value) pn.bio None ≡ value).
    ap (λ (k : ℕ). is_after pm.unit (get_or (set faults pn.bio value) k None)) same
    ∙ ap (is_after pm.unit) here
    ∙ stays pm.unit pn.unit (get_or faults pn.bio None) (in_order tagged n m same le)
    ∙ ap (λ (k : ℕ). is_after pm.unit (get_or faults k None)) (sym same))
    (λ (none : set faults pn.bio value ≡ faults). ap (λ (l : List (Option ℕ)). is_after pm.unit (get_or l pm.bio None)) none)
    (get_or_set faults pn.bio value None))
    (λ (apart : pm.bio ≢ pn.bio). ap (is_after pm.unit) (get_or_set_other faults pn.bio pm.bio value None apart))
    (cases_eq pm.bio pn.bio)

pub all_stay : (tagged : List TaggedBio) (faults : List (Option ℕ)) (numbers : List ℕ) (m : ℕ) → Each (λ n. m ≤ n) numbers → over tagged (with_faults tagged faults numbers) m ≡ over tagged faults m
all_stay tagged faults [] m each = refl
all_stay tagged faults (n ∷ numbers) m each = all_stay tagged (with_fault_at tagged faults n) numbers m each.1 ∙ over_stays tagged faults n m each.0

-- ---- numbers of failed entries

pub failed_within : (P : ℕ → Type 0) (ns : List ℕ) (es : List Entry) → Each P ns → Each P (failed_among ns es)
failed_within P [] es each = tt
failed_within P (n ∷ ns) [] each = tt
failed_within P (n ∷ ns) (e ∷ es) each = of_bool e.failed (failed_within P ns es each.1)
  where
    of_bool : (b : Bool) → Each P (failed_among ns es) → Each P (map (λ (made : ℕ × Entry). made.0) (cond b ((n, e) ∷ filter (λ (made : ℕ × Entry). made.1.failed) (zip ns es)) (filter (λ (made : ℕ × Entry). made.1.failed) (zip ns es))))
    of_bool true rest = (each.0, rest)
    of_bool false rest = rest

pub failed_append : (R : ℕ → Entry → Type 0) (xs ys : List ℕ) (es fs : List Entry) → AllZip R xs es → failed_among (xs ++ ys) (es ++ fs) ≡ failed_among xs es ++ failed_among ys fs
failed_append R xs ys es fs all =
    ap (λ (l : List (ℕ × Entry)). map (λ (made : ℕ × Entry). made.0) (filter (λ (made : ℕ × Entry). made.1.failed) l)) (pairs_append R xs ys es fs all)
    ∙ ap (map (λ (made : ℕ × Entry). made.0)) (filter-append (λ (made : ℕ × Entry). made.1.failed) (zip xs es) (zip ys fs))
    ∙ map-append (λ (made : ℕ × Entry). made.0) (filter (λ (made : ℕ × Entry). made.1.failed) (zip xs es)) (filter (λ (made : ℕ × Entry). made.1.failed) (zip ys fs))

pub names_append : (es fs : List Entry) → failed_names (es ++ fs) ≡ failed_names es ++ failed_names fs
names_append es fs = ap (map name_of_entry) (filter-append (λ (e : Entry). e.failed) es fs) ∙ map-append name_of_entry (filter (λ (e : Entry). e.failed) es) (filter (λ (e : Entry). e.failed) fs)

-- no bio is marked
pub no_fault_at : (bios : List MarkedBio) (k : ℕ) → HasNoFault bios → get_or (faults_of bios) k None ≡ None
no_fault_at [] k none = refl
no_fault_at (marked ∷ bios) zero none = none.0
no_fault_at (marked ∷ bios) (suc k) none = no_fault_at bios k none.1

-- ---- members

abbrev pub In : ℕ → List ℕ → Type 0
In n [] = ⊥
In n (m ∷ ms) = (n ≡ m) ⊎ In n ms

pub in_range : (first count n : ℕ) → first ≤ n → n < first + count → In n (range_with_len first count)
in_range first zero n from below = absurd (omega (arith, from, below))
in_range first (suc count) n from below = ⊎_elim
    (λ (same : n ≡ first). inl same)
    (λ (other : n ≢ first). inr (in_range (first + 1) count n (later n other from) (omega (arith, below))))
    (cases_eq n first)
  where
    later : (n : ℕ) → n ≢ first → first ≤ n → first + 1 ≤ n
    later n other from = ⊎_elim (λ (less : first < n). further n less) (λ (past : n ≤ first). absurd (other (exact n from past))) (cases_lt first n)
      where
        further : (n : ℕ) → first < n → first + 1 ≤ n
        further n less = omega (arith, less)

        exact : (n : ℕ) → first ≤ n → n ≤ first → n ≡ first
        exact n from past = omega (arith, from, past)

pub in_filter : (p : ℕ → Bool) (ns : List ℕ) (n : ℕ) → p n ≡ true → In n ns → In n (filter p ns)
in_filter p [] n is there = there
in_filter p (m ∷ ns) n is there = ⊎_elim
    (λ (here : n ≡ m). subst (λ (b : Bool). In n (cond b (m ∷ filter p ns) (filter p ns))) (sym (sym (ap p here) ∙ is)) (inl here))
    (λ (later : In n ns). of_bool (p m) (in_filter p ns n is later))
    there
  where
    of_bool : (b : Bool) → In n (filter p ns) → In n (cond b (m ∷ filter p ns) (filter p ns))
    of_bool true rest = inr rest
    of_bool false rest = rest

-- the predicate holds of a member
pub member : (P : ℕ → Type 0) (ns : List ℕ) (n : ℕ) → Each P ns → In n ns → P n
member P [] n each there = absurd there
member P (m ∷ ns) n each there = ⊎_elim (λ (here : n ≡ m). subst P (sym here) each.0) (λ (later : In n ns). member P ns n each.1 later) there

module _ (R : ℕ → Entry → Type 0) where
  -- the entry of a number, and whether it failed
  pub record Found (ns : List ℕ) (es : List Entry) (n : ℕ) : Type 0 where
    pub e : Entry
    pub is : R n e
    pub failed : e.failed ≡ true → In n (failed_among ns es)

  push : (m : ℕ) (f : Entry) (ns : List ℕ) (es : List Entry) (n : ℕ) → In n (failed_among ns es) → In n (failed_among (m ∷ ns) (f ∷ es))
  push m f ns es n there = of_bool f.failed
    where
      of_bool : (b : Bool) → In n (map (λ (made : ℕ × Entry). made.0) (cond b ((m, f) ∷ filter (λ (made : ℕ × Entry). made.1.failed) (zip ns es)) (filter (λ (made : ℕ × Entry). made.1.failed) (zip ns es))))
      of_bool true = inr there
      of_bool false = there

  pub found : (ns : List ℕ) (es : List Entry) (n : ℕ) → AllZip R ns es → In n ns → Found ns es n
  found [] es n all there = absurd there
  found (m ∷ ns) [] n all there = absurd all
  found (m ∷ ns) (e ∷ es) n all there = ⊎_elim
      (λ (here : n ≡ m).
      let f : Found (m ∷ ns) (e ∷ es) n = record {
        e = e;
        is = subst (λ k. R k e) (sym here) all.0;
        failed = λ did. subst (λ (b : Bool). In n (map (λ (made : ℕ × Entry). made.0) (cond b ((m, e) ∷ filter (λ (made : ℕ × Entry). made.1.failed) (zip ns es)) (filter (λ (made : ℕ × Entry). made.1.failed) (zip ns es))))) (sym did) (inl here);
      } in f)
      (λ (later : In n ns).
      let g = found ns es n all.1 later in
      let f : Found (m ∷ ns) (e ∷ es) n = record { e = g.e; is = g.is; failed = λ did. push m e ns es n (g.failed did) } in f)
      there

  -- the entry of a number whose entry failed
  pub record Failed (n : ℕ) : Type 0 where
    pub e : Entry
    pub is : R n e
    pub did : e.failed ≡ true

  pub failed_found : (ns : List ℕ) (es : List Entry) (n : ℕ) → AllZip R ns es → In n (failed_among ns es) → Failed n
  failed_found [] [] n all there = absurd there
  failed_found [] (e ∷ es) n all there = absurd all
  failed_found (m ∷ ns) [] n all there = absurd all
  failed_found (m ∷ ns) (e ∷ es) n all there = of_bool e.failed refl (λ later. failed_found ns es n all.1 later) there
    where
      of_bool : (b : Bool) → e.failed ≡ b → (In n (failed_among ns es) → Failed n) → In n (map (λ (made : ℕ × Entry). made.0) (cond b ((m, e) ∷ filter (λ (made : ℕ × Entry). made.1.failed) (zip ns es)) (filter (λ (made : ℕ × Entry). made.1.failed) (zip ns es)))) → Failed n
      of_bool true is rest there' = ⊎_elim (λ (here : n ≡ m). let f : Failed n = record { e = e; is = subst (λ k. R k e) (sym here) all.0; did = is } in f) (λ (later : In n (failed_among ns es)). rest later) there'
      of_bool false is rest there' = rest there'

-- ---- marks

first_at_most : (unit : ℕ) (fault : Option ℕ) → first_fault unit fault ≤ unit
first_at_most unit None = omega arith
first_at_most unit (Some fault) = omega arith

first_no_later : (unit fault : ℕ) → first_fault unit (Some fault) ≤ fault
first_no_later unit fault = omega arith

-- a mark at most this
pub record IsMarked (faults : List (Option ℕ)) (bio most : ℕ) : Type 0 where
  pub mark : ℕ
  pub is : get_or faults bio None ≡ Some mark
  pub at_most : mark ≤ most

module _ (tagged : List TaggedBio) where
  mark_stays_one : (faults : List (Option ℕ)) (n bio most : ℕ) → IsMarked faults bio most → IsMarked (with_fault_at tagged faults n) bio most
  mark_stays_one faults n bio most m =
      let p : UnitPlace = place_of tagged n in
      let value : Option ℕ = Some (first_fault p.unit (get_or faults p.bio None)) in
      ⊎_elim
      (λ (same : bio ≡ p.bio).
      ⊎_elim
      (λ (here : get_or (set faults p.bio value) p.bio None ≡ value).
      let was : get_or faults p.bio None ≡ Some m.mark = ap (λ (k : ℕ). get_or faults k None) (sym same) ∙ m.is in
      let less : first_fault p.unit (Some m.mark) ≤ m.mark = first_no_later p.unit m.mark in
      let r : IsMarked (set faults p.bio value) bio most = record {
        mark = first_fault p.unit (Some m.mark);
        is = ap (λ (k : ℕ). get_or (set faults p.bio value) k None) same ∙ here ∙ ap (λ (o : Option ℕ). Some (first_fault p.unit o)) was;
        at_most = omega (arith, less, m.at_most);
      } in r)
      (λ (none : set faults p.bio value ≡ faults). subst (λ (l : List (Option ℕ)). IsMarked l bio most) (sym none) m)
      (get_or_set faults p.bio value None))
      (λ (apart : bio ≢ p.bio).
      let r : IsMarked (set faults p.bio value) bio most = record { mark = m.mark; is = get_or_set_other faults p.bio bio value None apart ∙ m.is; at_most = m.at_most } in r)
      (cases_eq bio p.bio)

  mark_stays : (faults : List (Option ℕ)) (ns : List ℕ) (bio most : ℕ) → IsMarked faults bio most → IsMarked (with_faults tagged faults ns) bio most
  mark_stays faults [] bio most m = m
  mark_stays faults (n ∷ ns) bio most m = mark_stays (with_fault_at tagged faults n) ns bio most (mark_stays_one faults n bio most m)

  -- a fault marks its bio, by its own unit or one before it
  pub marked_by : (faults : List (Option ℕ)) (ns : List ℕ) (n : ℕ) → (place_of tagged n).bio < length faults → In n ns → IsMarked (with_faults tagged faults ns) (place_of tagged n).bio (place_of tagged n).unit
  marked_by faults [] n within there = absurd there
  marked_by faults (m ∷ ns) n within there = ⊎_elim
      (λ (here : n ≡ m).
      let p : UnitPlace = place_of tagged n in
      let value : Option ℕ = Some (first_fault p.unit (get_or faults p.bio None)) in
      let now : IsMarked (with_fault_at tagged faults n) p.bio p.unit = record {
        mark = first_fault p.unit (get_or faults p.bio None);
        is = Rattle.std.proofs.lemmas.List.get_or-set_same faults p.bio value None within;
        at_most = first_at_most p.unit (get_or faults p.bio None);
      } in
      mark_stays (with_fault_at tagged faults m) ns p.bio p.unit (subst (λ k. IsMarked (with_fault_at tagged faults k) p.bio p.unit) here now))
      (λ (later : In n ns). marked_by (with_fault_at tagged faults m) ns n (still m within) later)
      there
    where
      still : (m : ℕ) → (place_of tagged n).bio < length faults → (place_of tagged n).bio < length (with_fault_at tagged faults m)
      still m within = let same = length-set faults (place_of tagged m).bio (Some (first_fault (place_of tagged m).unit (get_or faults (place_of tagged m).bio None))) in omega (arith, same, within)

  -- the number of the unit that made a mark
  pub record Source (ns : List ℕ) (bio unit : ℕ) : Type 0 where
    pub n : ℕ
    pub there : In n ns
    pub bio_is : (place_of tagged n).bio ≡ bio
    pub unit_is : (place_of tagged n).unit ≡ unit

  first_is : (unit : ℕ) (fault : Option ℕ) (mark : ℕ) → Some (first_fault unit fault) ≡ Some mark → (fault ≡ Some mark) ⊎ (unit ≡ mark)
  first_is unit None mark is = inr (same_Some unit mark is)
  first_is unit (Some fault) mark is = ⊎_elim
      (λ (less : fault < unit). inl (ap (λ (k : ℕ). Some k) (sym (min-eq_right (weaker less)) ∙ same_Some (min unit fault) mark is)))
      (λ (past : unit ≤ fault). inr (sym (min-eq_left past) ∙ same_Some (min unit fault) mark is))
      (cases_lt fault unit)
    where
      weaker : fault < unit → fault ≤ unit
      weaker less = omega (arith, less)

  source_one : (faults : List (Option ℕ)) (m bio mark : ℕ) → get_or (with_fault_at tagged faults m) bio None ≡ Some mark → (get_or faults bio None ≡ Some mark) ⊎ (((place_of tagged m).bio ≡ bio) × ((place_of tagged m).unit ≡ mark))
  source_one faults m bio mark is =
      let p : UnitPlace = place_of tagged m in
      let value : Option ℕ = Some (first_fault p.unit (get_or faults p.bio None)) in
      ⊎_elim
      (λ (same : bio ≡ p.bio).
      ⊎_elim
      (λ (here : get_or (set faults p.bio value) p.bio None ≡ value).
      ⊎_elim
      (λ (was : get_or faults p.bio None ≡ Some mark). inl (ap (λ (k : ℕ). get_or faults k None) same ∙ was))
      (λ (own : p.unit ≡ mark). inr (sym same, own))
      (first_is p.unit (get_or faults p.bio None) mark (sym here ∙ ap (λ (k : ℕ). get_or (set faults p.bio value) k None) (sym same) ∙ is)))
      (λ (none : set faults p.bio value ≡ faults). inl (ap (λ (l : List (Option ℕ)). get_or l bio None) (sym none) ∙ is))
      (get_or_set faults p.bio value None))
      (λ (apart : bio ≢ p.bio). inl (sym (get_or_set_other faults p.bio bio value None apart) ∙ is))
      (cases_eq bio p.bio)

  pub source : (faults : List (Option ℕ)) (ns : List ℕ) (bio mark : ℕ) → get_or (with_faults tagged faults ns) bio None ≡ Some mark → (get_or faults bio None ≡ Some mark) ⊎ Source ns bio mark
  source faults [] bio mark is = inl is
  source faults (m ∷ ns) bio mark is = ⊎_elim
      (λ (before : get_or (with_fault_at tagged faults m) bio None ≡ Some mark). ⊎_elim
      (λ (was : get_or faults bio None ≡ Some mark). inl was)
      (λ (own : ((place_of tagged m).bio ≡ bio) × ((place_of tagged m).unit ≡ mark)). inr (let s : Source (m ∷ ns) bio mark = record { n = m; there = inl refl; bio_is = own.0; unit_is = own.1 } in s))
      (source_one faults m bio mark before))
      (λ (later : Source ns bio mark). inr (let s : Source (m ∷ ns) bio mark = record { n = later.n; there = inr later.there; bio_is = later.bio_is; unit_is = later.unit_is } in s))
      (source (with_fault_at tagged faults m) ns bio mark is)
