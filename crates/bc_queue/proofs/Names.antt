-- Requests that were carried out, by the names of their units.
use Rattle.std.proofs.Common.{◌≡◌, ◌≢◌, ℕ, suc, ◌+◌, ◌-◌, ◌<◌, ◌≤◌, ◌⊎◌, Bool, true, false, cond, not, List, [], ◌∷◌, ◌++◌, length, map, set, get_or, append-nil, append_assoc, refl, sym, ap, subst, ◌∙◌, arith, Option, Some, None}
use Rattle.std.specs.Prelude.{◌==◌, ◌&&◌, ◌||◌, nat_lt, filter, zip, slice_get}
use Rattle.std.specs.Option.{unwrap_or}
use Rattle.std.specs.List.{AllZip, list_any, range_with_len}
use Rattle.std.proofs.Math.Logic.{⊎_elim}
use Rattle.std.proofs.lemmas.Bool.{true≢false, eq-eqb, ne_eqb, cases_eq, cases_lt, ltb-true, ltb-false, lt-ltb, false_from_ne_true}
use Rattle.std.proofs.lemmas.List.Sums.{sum_by-cons}
use Rattle.std.proofs.lemmas.Option.{slice_get-get_or}
use Rattle.std.proofs.Math.Nat.{min-eq_left, min-eq_right}
use Rattle.bc_base.specs.Lists.{Each}
use Rattle.bc_key.specs.KeyData.{KeyData}
use Rattle.bc_bio.specs.declared.marked_bio.MarkedBio.{MarkedBio}
use Rattle.bc_bio.specs.declared.unit_place.UnitPlace.{UnitPlace}
use Rattle.bc_bio.specs.Windows.{TaggedBio, NamedUnit, units_of_request, count_units}
use Rattle.bc_bio.specs.Requests.{RequestParts, tagged_bios, place_of, first_fault, is_after, is_over}
use Rattle.bc_bio.proofs.RequestLaws.{unit_found}
use Rattle.bc_medium.specs.declared.entry.Entry.{Entry}
use Rattle.bc_medium.specs.declared.unit_name.UnitName.{UnitName}
use Rattle.bc_medium.specs.Entries.{name_of_entry, unit_name}
use Rattle.bc_medium.specs.LawfulOrders.{unit_name_of, is_attempted, is_earlier}
use Rattle.bc_medium.specs.Growth.{failed_names, IsEntryOf}
use Rattle.bc_queue.specs.RequestUnits.{no_unit, planned_at, faults_of, with_fault_at, with_faults, attempted_in, failed_among}
use Rattle.bc_queue.specs.Carrying.{AccessFacts, IsCarried, CarriesOut}
use Rattle.bc_queue.specs.Laws.{TagsDiffer, MarkSame, IsAttempted}
use Rattle.bc_queue.proofs.Lists.{each_filter, each_range, filter_same}
use Rattle.bc_queue.proofs.Marks.{over, over_is}
use Rattle.bc_queue.proofs.Walk.{same_named_at}
use Rattle.bc_base.proofs.Members.{length-set}

-- ---- tests

any_push : {X : Type 0} (p : X → Bool) (xs : List X) (x : X) → list_any p (xs ++ x ∷ []) ≡ (list_any p xs || p x)
any_push p [] x = of_bool (p x)
  where
    of_bool : (b : Bool) → (b || false) ≡ (false || b)
    of_bool true = refl
    of_bool false = refl
any_push p (y ∷ xs) x = ap (λ b. p y || b) (any_push p xs x) ∙ assoc (p y) (list_any p xs) (p x)
  where
    assoc : (a b c : Bool) → (a || (b || c)) ≡ ((a || b) || c)
    assoc true b c = refl
    assoc false b c = refl

not_or : (a b c : Bool) → not a ≡ not c → not (a || b) ≡ not (c || b)
not_or true b true same = refl
not_or false b false same = refl
not_or true b false same = absurd (true≢false (sym same))
not_or false b true same = absurd (true≢false same)

-- ---- a fault more

-- the unit's mark, after one of another unit of its bio
after_fault : (m n : ℕ) (fault : Option ℕ) → is_after n (Some (first_fault m fault)) ≡ (is_after n fault || nat_lt m n)
after_fault m n None = refl
after_fault m n (Some fault) = ⊎_elim
    (λ (less : fault < m). ap (λ (k : ℕ). nat_lt k n) (min-eq_right (weaker less)) ∙ first less)
    (λ (past : m ≤ fault). ap (λ (k : ℕ). nat_lt k n) (min-eq_left past) ∙ second past)
    (cases_lt fault m)
  where
    weaker : fault < m → fault ≤ m
    weaker less = omega (arith, less)

    first : fault < m → nat_lt fault n ≡ (nat_lt fault n || nat_lt m n)
    first less = of_test (nat_lt fault n) refl
      where
        of_test : (b : Bool) → nat_lt fault n ≡ b → b ≡ (b || nat_lt m n)
        of_test true is = refl
        of_test false is = let le : n ≤ fault = ltb-false fault n is in sym (false_from_ne_true (nat_lt m n) (λ t. let lt = ltb-true m n t in absurd (omega (arith, lt, le, less))))

    second : m ≤ fault → nat_lt m n ≡ (nat_lt fault n || nat_lt m n)
    second past = of_test (nat_lt fault n) refl
      where
        of_test : (b : Bool) → nat_lt fault n ≡ b → nat_lt m n ≡ (b || nat_lt m n)
        of_test true is = lt-ltb m n (let lt = ltb-true fault n is in omega (arith, lt, past))
        of_test false is = refl

-- the default of a bio that isn't there is never read: each unit is within
pub no_bio : TaggedBio
no_bio = record { tag = 0; bio = record { access = Rattle.bc_bio.specs.declared.access.Access.TheVariants.Read; context = None; sector = 0; units = 0 } }

-- a unit's bio is there
bio_within : (tagged : List TaggedBio) (n : ℕ) → n < count_units tagged → (place_of tagged n).bio < length tagged
bio_within [] n within = absurd (omega arith)
bio_within (t ∷ tagged) n within = at (nat_lt n t.bio.units) refl (bio_within tagged (n - t.bio.units))
  where
    at : (b : Bool) → nat_lt n t.bio.units ≡ b → (n - t.bio.units < count_units tagged → (place_of tagged (n - t.bio.units)).bio < length tagged) →
        let p : UnitPlace = cond b (record { bio = 0; unit = n }) (record { bio = (place_of tagged (n - t.bio.units)).bio + 1; unit = (place_of tagged (n - t.bio.units)).unit }) in
        p.bio < suc (length tagged)
    at true is later = omega arith
    at false is later =
        let past : t.bio.units ≤ n = ltb-false n t.bio.units is in
        let all : count_units (t ∷ tagged) ≡ t.bio.units + count_units tagged = sum_by-cons (λ (x : TaggedBio). x.bio.units) t tagged in
        let less = later (omega (arith, past, all, within)) in omega (arith, less)

module _ (keys : List KeyData) (caller : ℕ) (tagged : List TaggedBio) (differ : TagsDiffer tagged) where
  -- the name of unit number n
  abbrev name : ℕ → UnitName
  name n = let u : NamedUnit = unwrap_or (slice_get (units_of_request keys tagged) n) no_unit in record { thread = caller; op = u.tag; unit = u.unit }

  abbrev bio_of : ℕ → TaggedBio
  bio_of n = get_or tagged (place_of tagged n).bio no_bio

  name_is : (n : ℕ) → n < count_units tagged → name n ≡ record { thread = caller; op = (bio_of n).tag; unit = (place_of tagged n).unit }
  name_is n within =
      ap (λ (o : Option NamedUnit). let u : NamedUnit = unwrap_or o no_unit in let m : UnitName = record { thread = caller; op = u.tag; unit = u.unit } in m) (unit_found keys tagged n no_bio within)

  -- units of one bio, by their tags
  same_bio : (m n : ℕ) → m < count_units tagged → n < count_units tagged → ((bio_of m).tag == (bio_of n).tag) ≡ ((place_of tagged m).bio == (place_of tagged n).bio)
  same_bio m n in_m in_n = ⊎_elim
      (λ (same : (place_of tagged m).bio ≡ (place_of tagged n).bio). eq-eqb (bio_of m).tag (bio_of n).tag (ap (λ k. (get_or tagged k no_bio).tag) same) ∙ sym (eq-eqb (place_of tagged m).bio (place_of tagged n).bio same))
      (λ (apart : (place_of tagged m).bio ≢ (place_of tagged n).bio).
      ne_eqb (bio_of m).tag (bio_of n).tag
      (λ same. apart (differ (place_of tagged m).bio (place_of tagged n).bio (bio_of m) (bio_of n)
      (slice_get-get_or tagged (place_of tagged m).bio no_bio (bio_within tagged m in_m)) (slice_get-get_or tagged (place_of tagged n).bio no_bio (bio_within tagged n in_n)) same))
      ∙ sym (ne_eqb (place_of tagged m).bio (place_of tagged n).bio apart))
      (cases_eq (place_of tagged m).bio (place_of tagged n).bio)

  -- a unit is over after a fault of another one, or was before
  over_more : (faults : List (Option ℕ)) (m n : ℕ) → length faults ≡ length tagged → m < count_units tagged → n < count_units tagged → over tagged (with_fault_at tagged faults m) n ≡ (over tagged faults n || is_earlier (name m) (name n))
  over_more faults m n long in_m in_n =
      let pm : UnitPlace = place_of tagged m in
      let pn : UnitPlace = place_of tagged n in
      let value : Option ℕ = Some (first_fault pm.unit (get_or faults pm.bio None)) in
      let earlier : is_earlier (name m) (name n) ≡ ((pm.bio == pn.bio) && nat_lt pm.unit pn.unit) =
      ap (λ (a : UnitName). is_earlier a (name n)) (name_is m in_m) ∙ ap (is_earlier (record { thread = caller; op = (bio_of m).tag; unit = pm.unit })) (name_is n in_n)
      ∙ ap (λ (b : Bool). (b && ((bio_of m).tag == (bio_of n).tag)) && nat_lt pm.unit pn.unit) (eq-eqb caller caller refl)
      ∙ ap (λ (b : Bool). b && nat_lt pm.unit pn.unit) (same_bio m n in_m in_n) in
      ⊎_elim
      (λ (same : pm.bio ≡ pn.bio).
      ap (λ (k : ℕ). is_after pn.unit (get_or (set faults pm.bio value) k None)) (sym same)
      ∙ ap (is_after pn.unit) (Rattle.std.proofs.lemmas.List.get_or-set_same faults pm.bio value None (let within = bio_within tagged m in_m in omega (arith, within, long)))
      ∙ after_fault pm.unit pn.unit (get_or faults pm.bio None)
      ∙ ap (λ (k : ℕ). is_after pn.unit (get_or faults k None) || nat_lt pm.unit pn.unit) same
      ∙ ap (λ (b : Bool). over tagged faults n || b) (sym (earlier ∙ ap (λ (b : Bool). b && nat_lt pm.unit pn.unit) (eq-eqb pm.bio pn.bio same))))
      (λ (apart : pm.bio ≢ pn.bio).
      ap (is_after pn.unit) (Rattle.bc_queue.proofs.Lists.get_or_set_other faults pm.bio pn.bio value None (λ s. apart (sym s)))
      ∙ or_false (over tagged faults n)
      ∙ ap (λ (b : Bool). over tagged faults n || b) (sym (earlier ∙ ap (λ (b : Bool). b && nat_lt pm.unit pn.unit) (ne_eqb pm.bio pn.bio apart))))
      (cases_eq pm.bio pn.bio)
    where
      or_false : (b : Bool) → b ≡ (b || false)
      or_false true = refl
      or_false false = refl

  abbrev Agree : List UnitName → List (Option ℕ) → Type 0
  Agree met faults = (n : ℕ) → n < count_units tagged → is_attempted met (name n) ≡ not (over tagged faults n)

  agree_more : (met : List UnitName) (faults : List (Option ℕ)) (m : ℕ) → length faults ≡ length tagged → m < count_units tagged → Agree met faults → Agree (met ++ name m ∷ []) (with_fault_at tagged faults m)
  agree_more met faults m long in_m agree n in_n =
      ap not (any_push (λ f. is_earlier f (name n)) met (name m))
      ∙ not_or (list_any (λ f. is_earlier f (name n)) met) (is_earlier (name m) (name n)) (over tagged faults n) (agree n in_n)
      ∙ ap not (sym (over_more faults m n long in_m in_n))

  agree_all : (met : List UnitName) (faults : List (Option ℕ)) (ns : List ℕ) → length faults ≡ length tagged → Each (λ n. n < count_units tagged) ns → Agree met faults → Agree (met ++ map name ns) (with_faults tagged faults ns)
  agree_all met faults [] long each agree n in_n = ap (λ l. is_attempted l (name n)) (append-nil met) ∙ agree n in_n
  agree_all met faults (m ∷ ns) long each agree n in_n =
      ap (λ l. is_attempted l (name n)) (sym (append_assoc met (name m ∷ []) (map name ns)))
      ∙ agree_all (met ++ name m ∷ []) (with_fault_at tagged faults m) ns (length-set faults (place_of tagged m).bio (Some (first_fault (place_of tagged m).unit (get_or faults (place_of tagged m).bio None))) ∙ long) each.1 (agree_more met faults m long each.0 agree) n in_n

-- ---- the entries

module _ (old : AccessFacts) (seen : List (List Entry)) (before after : List MarkedBio) where
  abbrev unit_names : ℕ → UnitName
  unit_names n = unit_name_of old.caller (planned_at old.keys before n)

  failed_are : (ns : List ℕ) (es : List Entry) → AllZip (IsCarried old seen before after) ns es → failed_names es ≡ map unit_names (failed_among ns es)
  failed_are [] [] all = refl
  failed_are [] (e ∷ es) all = absurd all
  failed_are (n ∷ ns) [] all = absurd all
  failed_are (n ∷ ns) (e ∷ es) all = of_bool e.failed (ap unit_name all.0.entry.unit) (failed_are ns es all.1)
    where
      of_bool : (b : Bool) → name_of_entry e ≡ unit_names n → failed_names es ≡ map unit_names (failed_among ns es)
          → map name_of_entry (cond b (e ∷ filter (λ x. x.failed) es) (filter (λ x. x.failed) es)) ≡ map unit_names (map (λ (made : ℕ × Entry). made.0) (cond b ((n, e) ∷ filter (λ (made : ℕ × Entry). made.1.failed) (zip ns es)) (filter (λ (made : ℕ × Entry). made.1.failed) (zip ns es))))
      of_bool true is rest = ap (λ x. x ∷ failed_names es) is ∙ ap (λ l. unit_names n ∷ l) rest
      of_bool false is rest = rest

  failed_within : (P : ℕ → Type 0) (ns : List ℕ) (es : List Entry) → Each P ns → Each P (failed_among ns es)
  failed_within P [] es each = tt
  failed_within P (n ∷ ns) [] each = tt
  failed_within P (n ∷ ns) (e ∷ es) each = of_bool e.failed (failed_within P ns es each.1)
    where
      of_bool : (b : Bool) → Each P (failed_among ns es) → Each P (map (λ (made : ℕ × Entry). made.0) (cond b ((n, e) ∷ filter (λ (made : ℕ × Entry). made.1.failed) (zip ns es)) (filter (λ (made : ℕ × Entry). made.1.failed) (zip ns es))))
      of_bool true rest = (each.0, rest)
      of_bool false rest = rest

  entries_of : (ns : List ℕ) (es : List Entry) → AllZip (IsCarried old seen before after) ns es → AllZip (IsEntryOf old.caller) (map (planned_at old.keys before) ns) es
  entries_of [] [] all = tt
  entries_of [] (e ∷ es) all = absurd all
  entries_of (n ∷ ns) [] all = absurd all
  entries_of (n ∷ ns) (e ∷ es) all = (all.0.entry, entries_of ns es all.1)

filter_map' : {A B : Type 0} (f : A → B) (p : B → Bool) (xs : List A) → filter p (map f xs) ≡ map f (filter (λ x. p (f x)) xs)
filter_map' f p [] = refl
filter_map' f p (x ∷ xs) = of_bool (p (f x)) (filter_map' f p xs)
  where
    of_bool : (b : Bool) → filter p (map f xs) ≡ map f (filter (λ y. p (f y)) xs) → cond b (f x ∷ filter p (map f xs)) (filter p (map f xs)) ≡ map f (cond b (x ∷ filter (λ y. p (f y)) xs) (filter (λ y. p (f y)) xs))
    of_bool true rest = ap (λ l. f x ∷ l) rest
    of_bool false rest = rest

pub by_names : (old new : AccessFacts) (before after : RequestParts) (first count : ℕ) (met : List UnitName) (carries : CarriesOut old new before after first count) → first + count ≤ count_units (tagged_bios before.bios) → TagsDiffer (tagged_bios before.bios) → MarkSame old.keys old.caller met before.bios
    → IsAttempted old new before after first count carries.made met
by_names old new before after first count met carries within differ same =
    let tagged : List TaggedBio = tagged_bios before.bios in
    let ns : List ℕ = attempted_in after.bios first count in
    let failed : List ℕ = failed_among ns carries.made in
    let names : failed_names carries.made ≡ map (name old.keys old.caller tagged differ) failed = failed_are old new.seen before.bios after.bios ns carries.made carries.carried in
    let start : Agree old.keys old.caller tagged differ met (faults_of before.bios) = λ n in_n. same n in_n ∙ ap not (over_is before.bios n) in
    let long : length (faults_of before.bios) ≡ length tagged = Rattle.std.proofs.lemmas.List.length-map before.bios (λ (m : MarkedBio). m.fault) ∙ sym (Rattle.std.proofs.lemmas.List.length-map before.bios (λ (m : MarkedBio). Rattle.bc_bio.specs.Requests.tagged_of m.bio)) in
    let all : Each (λ n. n < count_units tagged) failed = failed_within old new.seen before.bios after.bios (λ n. n < count_units tagged) ns carries.made
    (each_filter (λ n. n < count_units tagged) (λ n. not (is_over after.bios n)) (range_with_len first count) (each_range (λ n. n < count_units tagged) first count (λ k from below. omega (arith, below, within)))) in
    let agree : (n : ℕ) → n < count_units tagged → is_attempted (met ++ failed_names carries.made) (name old.keys old.caller tagged differ n) ≡ not (is_over after.bios n) = λ n in_n.
    ap (λ l. is_attempted (met ++ l) (name old.keys old.caller tagged differ n)) names
    ∙ agree_all old.keys old.caller tagged differ met (faults_of before.bios) failed long all start n in_n
    ∙ ap (λ fs. not (over tagged fs n)) (sym carries.faults)
    ∙ ap (λ ts. not (over ts (faults_of after.bios) n)) (sym carries.bios)
    ∙ ap not (sym (over_is after.bios n)) in
    let numbers : filter (λ n. is_attempted (met ++ failed_names carries.made) (name old.keys old.caller tagged differ n)) (range_with_len first count) ≡ ns =
    filter_same (λ n. is_attempted (met ++ failed_names carries.made) (name old.keys old.caller tagged differ n)) (λ n. not (is_over after.bios n)) (range_with_len first count)
    (each_range (λ n. is_attempted (met ++ failed_names carries.made) (name old.keys old.caller tagged differ n) ≡ not (is_over after.bios n)) first count (λ k from below. agree k (omega (arith, below, within)))) in record {
      attempts =
          subst (λ us. AllZip (IsEntryOf old.caller) us carries.made)
          (sym (filter_map' (planned_at old.keys before.bios) (λ u. is_attempted (met ++ failed_names carries.made) (unit_name_of old.caller u)) (range_with_len first count) ∙ ap (map (planned_at old.keys before.bios)) numbers))
          (entries_of old new.seen before.bios after.bios ns carries.made carries.carried);
      marks = λ n in_n.
          let in_before : n < count_units tagged = subst (λ t. n < count_units t) carries.bios in_n in
          ap (λ (u : NamedUnit). is_attempted (met ++ failed_names carries.made) (record { thread = old.caller; op = u.tag; unit = u.unit })) (same_named_at old.keys before.bios after.bios n carries.bios)
          ∙ agree n in_before;
    }
