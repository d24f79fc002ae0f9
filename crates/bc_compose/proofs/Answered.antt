-- From what each thread has seen: what the run of the keyed disk along the closed orders answers, and what it leaves.
use Rattle.std.proofs.Common.{◌≡◌, ℕ, ◌+◌, ◌*◌, ◌<◌, ◌≤◌, inl, inr, Bool, true, false, cond, List, [], ◌∷◌, ◌++◌, length, map, refl, sym, ap, subst, ◌∙◌, arith, Option, Some, None}
use Rattle.std.specs.Prelude.{◌==◌, ◌&&◌, ◌/◌, not, filter, filter_map, flat_map, slice_get, zip}
use Rattle.std.specs.List.{AllZip, AllByRecursion, list_any, cons_option}
use Rattle.std.specs.Option.{option_map, option_map_or}
use Rattle.std.proofs.Math.Logic.{⊎_elim}
use Rattle.std.proofs.lemmas.Bool.{true≢false, eq-eqb, ne_eqb, eqb-true, cases_lt, and_parts, false_from_ne_true, lt-ltb}
use Rattle.std.proofs.lemmas.Option.{same_Some}
use Rattle.std.proofs.lemmas.Nat.{mod_below}
use Rattle.std.proofs.lemmas.List.{length-map}
use Rattle.bc_base.specs.Story.{own, IsFront}
use Rattle.bc_key.specs.KeyData.{KeyData}
use Rattle.bc_bio.specs.declared.access.Access.{Access}
use Rattle.bc_bio.specs.declared.access.Access.TheVariants.{Read, Write}
use Rattle.bc_bio.specs.Extent.{unit_sectors}
use Rattle.bc_bio.specs.PlannedUnit.{PlannedUnit}
use Rattle.bc_medium.specs.declared.entry.Entry.{Entry}
use Rattle.bc_medium.specs.declared.unit_name.UnitName.{UnitName}
use Rattle.bc_medium.specs.Layout.{shard_of}
use Rattle.bc_medium.specs.KeyedDisk.{Sectors, meets_fault, UnitAnswer, Faulted, Written, Text, image_sectors, bytes_at, accessed, disk_along, answers_along}
use Rattle.bc_medium.specs.Entries.{caller_of, name_of_entry, entry_unit, performed_by, left_by, told_by, HasAnswer}
use Rattle.bc_medium.specs.LawfulOrders.{unit_name_of, is_same, is_attempted, is_earlier}
use Rattle.bc_medium.specs.Outcome.{Run, unit_named, disk_of, answers_on, answers_of, final_image, is_fault, is_unit_of, answer_text, unit_answer, answers_of_bio, fault_of, without_fault, bio_answer, BioAnswer, Wrote, Bytes, Fault}
use Rattle.bc_script.specs.Script.{Script, keys_of}
use Rattle.bc_base.specs.Lists.{list_at}
use Rattle.bc_medium.specs.Growth.{IsEntryOf, failed_names, attempted_by, lies_in, Knows}
use Rattle.bc_compose.specs.SectionDone.{IsBioAnswer}
use Rattle.bc_compose.specs.ClosedOrders.{ShardsClosed, StoresClosed}
use Rattle.bc_compose.proofs.Lists.{in_at, in_map, in_filter, beside_left, slice_get_append}
use Rattle.bc_compose.proofs.Names.{Apart, finds}
use Rattle.bc_compose.proofs.Distinct.{Distinct, distinct_filter, distinct_from_own, distinct_same, distinct_units, same_names, same_itself, find_the, find_some, find_none, in_of_range, in_range}
use Rattle.bc_compose.proofs.Along.{Known, Agree, along}
use Rattle.bc_compose.proofs.Orders.{HasMade, named, by_thread, placed, made_by, at_map}
use Rattle.bc_base.proofs.Members.{In, in_of_filter, beside, any_from, all_at, all_from_in}
use Rattle.bc_base.proofs.Image.{image_of-image_sectors}
use Rattle.bc_medium.proofs.Told.{told_append}

-- ---- entries and answers

told_in : (keys : List KeyData) (disk : Sectors) (es : List Entry) (x : UnitName × UnitAnswer) → In x (told_by keys disk es) → (e : Entry) × In e es × (name_of_entry e ≡ x.0)
told_in keys disk [] x at' = absurd at'
told_in keys disk (e ∷ es) x at' =
    ⊎_elim
    (λ (here : (name_of_entry e, (performed_by keys disk e).answer) ≡ x). (e, inl refl, ap (λ p. p.0) here))
    (λ (more : In x (told_by keys (performed_by keys disk e).disk es)). let r = told_in keys (performed_by keys disk e).disk es x more in (r.0, inr r.1, r.2))
    at'

distinct_told : (keys : List KeyData) (disk : Sectors) (es : List Entry) → Distinct name_of_entry es → Distinct (λ (x : UnitName × UnitAnswer). x.0) (told_by keys disk es)
distinct_told keys disk [] all = tt
distinct_told keys disk (e ∷ es) all = (
  all_from_in (λ (x : UnitName × UnitAnswer). name_of_entry e ≡ x.0 → ⊥) (told_by keys (performed_by keys disk e).disk es)
      (λ x at' same. let r = told_in keys (performed_by keys disk e).disk es x at' in all_at (λ y. name_of_entry e ≡ name_of_entry y → ⊥) es r.0 all.0 r.1 (same ∙ sym r.2)),
  distinct_told keys (performed_by keys disk e).disk es all.1,
)

pub still_told : (keys : List KeyData) (disk : Sectors) (caller : ℕ) (seen order : List Entry) (name : UnitName) (answer : UnitAnswer)
    → IsFront caller_of caller seen order → HasAnswer (told_by keys disk seen) name answer → HasAnswer (told_by keys disk order) name answer
still_told keys disk caller seen order name answer front told =
    let more = front.begins.0 in (
      told.0,
      subst (λ (l : List (UnitName × UnitAnswer)). slice_get l told.0 ≡ Some (name, answer)) (sym (ap (told_by keys disk) front.begins.1 ∙ told_append keys disk seen more))
          (slice_get_append (told_by keys disk seen) (told_by keys (left_by keys disk seen) more) told.0 (name, answer) told.1),
    )

-- an entry that failed is reported so, and no other
told_failed : (keys : List KeyData) (disk : Sectors) (es : List Entry) (x : UnitName × UnitAnswer) → In x (told_by keys disk es) → is_fault x.1 ≡ true → (e : Entry) × In e es × (name_of_entry e ≡ x.0) × (e.failed ≡ true)
told_failed keys disk [] x at' faulty = absurd at'
told_failed keys disk (e ∷ es) x at' faulty =
    ⊎_elim
    (λ (here : (name_of_entry e, (performed_by keys disk e).answer) ≡ x).
    (e, inl refl, ap (λ p. p.0) here, failed e (ap (λ p. is_fault p.1) here ∙ faulty)))
    (λ (more : In x (told_by keys (performed_by keys disk e).disk es)). let r = told_failed keys (performed_by keys disk e).disk es x more faulty in (r.0, inr r.1, r.2, r.3))
    at'
  where
    went : (act : Access) (u : PlannedUnit) → is_fault (accessed act keys disk u).answer ≡ false
    went Write u = refl
    went Read u = refl

    failed : (e : Entry) → is_fault (performed_by keys disk e).answer ≡ true → e.failed ≡ true
    failed e is =
        (elim e.failed as (λ (t : Bool). is_fault (cond t (record { disk = disk; answer = Faulted }) (accessed e.access keys disk (entry_unit e))).answer ≡ true → t ≡ true) [
          | true ↦ λ _. refl
          | false ↦ λ f. absurd (true≢false (sym f ∙ went e.access (entry_unit e)))
        ]) is

module _ (script : Script) (faults : List (ℕ × ℕ)) (shards callers : ℕ) (some : 1 ≤ shards) (plan : List (List PlannedUnit)) (few : length plan ≡ callers)
    (seen : ℕ → List (List Entry)) (made : ℕ → List Entry) (orders : List (List Entry))
    (closed : ShardsClosed faults shards callers seen orders)
    (has_made : (thread : ℕ) → thread < callers → HasMade shards thread (list_at plan thread) (seen thread) (made thread))
    (image : List ℕ) (base : ℕ → Sectors) (opening : (s : ℕ) → base (shard_of shards s) s ≡ image_sectors image s)
    (apart : (thread : ℕ) → thread < callers → Apart (list_at plan thread))
    (one_shard : (thread : ℕ) (u : PlannedUnit) → thread < callers → In u (list_at plan thread) → (i : ℕ) → i < unit_sectors (keys_of script) u.context → shard_of shards (u.sector + i) ≡ shard_of shards u.sector) where
  abbrev keys : List KeyData
  keys = keys_of script

  abbrev pub run : Run
  run = record { image = image; keys = keys_of script; plan = plan; faults = faults; orders = map (map name_of_entry) orders }

  -- the unit of an entry
  unit_of_entry : (thread : ℕ) (e : Entry) → thread < callers → In e (made thread)
      → (u : PlannedUnit) × In u (list_at plan thread) × IsEntryOf thread u e × (is_attempted (failed_names (made thread)) (unit_name_of thread u) ≡ true)
  unit_of_entry thread e there at' =
      let r = beside (IsEntryOf thread) (attempted_by thread (failed_names (made thread)) (list_at plan thread)) (made thread) e (has_made thread there).attempts at' in
      let both = in_of_filter (λ u. is_attempted (failed_names (made thread)) (unit_name_of thread u)) (list_at plan thread) r.0 r.1 in
      (r.0, both.0, r.2, both.1)

  pub plans : (thread : ℕ) (u : PlannedUnit) → thread < callers → In u (list_at plan thread) → unit_named run (unit_name_of thread u) ≡ Some u
  plans thread u there at' = finds thread (list_at plan thread) u (apart thread there) at'

  -- an entry of the orders is a unit of the plan
  pub known : (shard : ℕ) (e : Entry) → shard < shards → In e (list_at orders shard) → Known run shards shard e
  known shard e within at' =
      let m = made_by faults shards callers some plan few seen made orders closed has_made shard e within at' in
      let c = caller_of e in
      let r = unit_of_entry c e m.0 m.1 in
      let u = r.0 in
      let here : shard_of shards u.sector ≡ shard = ap (shard_of shards) (sym (placed c u e r.2)) ∙ eqb-true (shard_of shards e.at.sector) shard m.2 in
      (u, ap (unit_named run) (named c u e r.2) ∙ plans c u m.0 r.1, r.2, λ i lt. one_shard c u m.0 r.1 i lt ∙ here)

  -- what is reported of a shard
  abbrev pub told_on : ℕ → List (UnitName × UnitAnswer)
  told_on shard = told_by (keys_of script) (base shard) (list_at orders shard)

  opens : (shard : ℕ) → Agree run shards shard (image_sectors image) (base shard)
  opens shard s is = sym (opening s) ∙ ap (λ n. base n s) is

  goes_along : (shard : ℕ) → shard < shards
      → Agree run shards shard (disk_along keys faults shard 0 (image_sectors image) (filter_map (unit_named run) (map name_of_entry (list_at orders shard)))) (left_by keys (base shard) (list_at orders shard))
      × (zip (map name_of_entry (list_at orders shard)) (answers_along keys faults shard 0 (image_sectors image) (filter_map (unit_named run) (map name_of_entry (list_at orders shard)))) ≡ told_on shard)
  goes_along shard within =
      along run shards shard (image_sectors image) (base shard) 0 (list_at orders shard) (opens shard)
      (all_from_in (Known run shards shard) (list_at orders shard) (λ e at'. known shard e within at'))
      (λ i e is. closed.planned shard i e within is ∙ (let n : i ≡ 0 + i = omega arith in ap (meets_fault faults shard) n))

  pub answers_on_is : (shard : ℕ) → shard < shards → answers_on run shard ≡ told_on shard
  answers_on_is shard within =
      ap (λ (names : List UnitName). zip names (answers_along keys faults shard 0 (image_sectors image) (filter_map (unit_named run) names))) (at_map name_of_entry orders shard)
      ∙ (goes_along shard within).1

  pub disk_of_is : (shard : ℕ) → shard < shards → Agree run shards shard (disk_of run shard) (left_by keys (base shard) (list_at orders shard))
  disk_of_is shard within s is =
      ap (λ (names : List UnitName). disk_along keys faults shard 0 (image_sectors image) (filter_map (unit_named run) names) s) (at_map name_of_entry orders shard)
      ∙ (goes_along shard within).0 s is

  count : length run.orders ≡ shards
  count = length-map orders (map name_of_entry) ∙ closed.one_for_each

  shard_within : (s : ℕ) → shard_of shards s < shards
  shard_within s = mod_below (s / 8) shards (omega (arith, some))

  -- ---- the image

  pub image_left : (left : List ℕ) → StoresClosed script shards base image orders left → length left ≡ 512 * (length image / 512) → left ≡ final_image run
  image_left left stores whole =
      let n = length image / 512 in
      let sector : (s : ℕ) → image_sectors left s ≡ disk_of run (shard_of (length run.orders) s) s =
      λ s. stores.closing s
      ∙ sym (disk_of_is (shard_of shards s) (shard_within s) s refl)
      ∙ sym (ap (λ (k : ℕ). disk_of run (shard_of k s) s) count) in
      sym (image_of-image_sectors left n whole)
      ∙ (λ i. bytes_at (λ s. sector s i) 0 n)

  -- ---- names are distinct

  pub distinct_made : (thread : ℕ) → thread < callers → Distinct name_of_entry (made thread)
  distinct_made thread there =
      beside_distinct (attempted_by thread (failed_names (made thread)) (list_at plan thread)) (made thread) (has_made thread there).attempts
      (distinct_filter (unit_name_of thread) (λ u. is_attempted (failed_names (made thread)) (unit_name_of thread u)) (list_at plan thread) (distinct_units thread (list_at plan thread) (apart thread there)))
    where
      beside_distinct : (us : List PlannedUnit) (es : List Entry) → AllZip (IsEntryOf thread) us es → Distinct (unit_name_of thread) us → Distinct name_of_entry es
      beside_distinct [] [] all distinct = tt
      beside_distinct [] (e ∷ es) all distinct = absurd all
      beside_distinct (u ∷ us) [] all distinct = absurd all
      beside_distinct (u ∷ us) (e ∷ es) all distinct = (
        all_from_in (λ x. name_of_entry e ≡ name_of_entry x → ⊥) es
            (λ x at' same.
            let r = beside (IsEntryOf thread) us es x all.1 at' in
            all_at (λ v. unit_name_of thread u ≡ unit_name_of thread v → ⊥) us r.0 distinct.0 r.1
            (sym (named thread u e all.0) ∙ same ∙ named thread r.0 x r.2)),
        beside_distinct us es all.1 distinct.1,
      )

  distinct_order : (shard : ℕ) → shard < shards → Distinct name_of_entry (list_at orders shard)
  distinct_order shard within =
      distinct_from_own caller_of name_of_entry (λ x y same. ap (λ (n : UnitName). n.thread) same) (list_at orders shard)
      (λ c. ⊎_elim
      (λ (there : c < callers). subst (Distinct name_of_entry) (sym ((closed.fronts c shard there within).own_entries ∙ (has_made c there).entries shard within))
      (distinct_filter name_of_entry (lies_in shards shard) (made c) (distinct_made c there)))
      (λ (past : callers ≤ c). subst (Distinct name_of_entry) (sym (none c past (list_at orders shard) (λ e at'. all_at (λ x. caller_of x < callers) (list_at orders shard) e (closed.no_strangers shard within) at'))) tt)
      (cases_lt c callers))
    where
      none : (c : ℕ) → callers ≤ c → (es : List Entry) → ((e : Entry) → In e es → caller_of e < callers) → own caller_of c es ≡ []
      none c past [] below = refl
      none c past (e ∷ es) below =
          let lt = below e (inl refl) in
          ap (λ (b : Bool). cond b (e ∷ own caller_of c es) (own caller_of c es)) (ne_eqb (caller_of e) c (λ same. omega arith))
          ∙ none c past es (λ x at'. below x (inr at'))

  -- one name is reported once
  pub told_once : (s t : ℕ) (x y : UnitName × UnitAnswer) → s < shards → t < shards → In x (told_on s) → In y (told_on t) → x.0 ≡ y.0 → x ≡ y
  told_once s t x y within within' a b same =
      let d = told_in keys (base s) (list_at orders s) x a in
      let e = told_in keys (base t) (list_at orders t) y b in
      let k = known s d.0 within d.1 in
      let l = known t e.0 within' e.1 in
      let unit : k.0 ≡ l.0 = same_Some k.0 l.0 (sym k.1 ∙ ap (unit_named run) (d.2 ∙ same ∙ sym e.2) ∙ l.1) in
      let md = made_by faults shards callers some plan few seen made orders closed has_made s d.0 within d.1 in
      let me = made_by faults shards callers some plan few seen made orders closed has_made t e.0 within' e.1 in
      let shard : s ≡ t =
      sym (eqb-true (shard_of shards d.0.at.sector) s md.2)
      ∙ ap (shard_of shards) (placed (caller_of d.0) k.0 d.0 k.2 ∙ ap (λ (u : PlannedUnit). u.sector) unit ∙ sym (placed (caller_of e.0) l.0 e.0 l.2))
      ∙ eqb-true (shard_of shards e.0.at.sector) t me.2 in
      distinct_same (λ (z : UnitName × UnitAnswer). z.0) (told_on s) x y (distinct_told keys (base s) (list_at orders s) (distinct_order s within)) a
      (subst (λ n. In y (told_on n)) (sym shard) b) same

  -- ---- what units are answered

  told_of_all : (s : ℕ) (x : UnitName × UnitAnswer) → s < shards → In x (told_on s) → In x (answers_of run)
  told_of_all s x within at' =
      in_range (answers_on run) 0 (length run.orders) s x (omega arith) (omega (arith, count)) (subst (In x) (sym (answers_on_is s within)) at')

  all_of_told : (x : UnitName × UnitAnswer) → In x (answers_of run) → (s : ℕ) × (s < shards) × In x (told_on s)
  all_of_told x at' =
      let r = in_of_range (answers_on run) 0 (length run.orders) x at' in
      let high = r.2 in
      let within : r.0 < shards = omega (arith, count) in
      (r.0, within, subst (In x) (answers_on_is r.0 within) r.3)

  pub unit_told : (thread : ℕ) (u : PlannedUnit) (answer : UnitAnswer) → thread < callers → Knows (keys_of script) shards base thread (seen thread) u answer
      → In (unit_name_of thread u, answer) (told_on (shard_of shards u.sector))
  unit_told thread u answer there knows =
      let s = shard_of shards u.sector in
      let told = still_told keys (base s) thread (list_at (seen thread) s) (list_at orders s) (unit_name_of thread u) answer (closed.fronts thread s there (shard_within u.sector)) knows in
      in_at (told_on s) told.0 (unit_name_of thread u, answer) told.1

  pub unit_answered : (thread : ℕ) (u : PlannedUnit) (answer : UnitAnswer) → thread < callers → Knows (keys_of script) shards base thread (seen thread) u answer
      → unit_answer run (unit_name_of thread u) ≡ Some answer
  unit_answered thread u answer there knows =
      let s = shard_of shards u.sector in
      let x : UnitName × UnitAnswer = (unit_name_of thread u, answer) in
      let here = unit_told thread u answer there knows in
      ap (option_map (λ (at' : UnitName × UnitAnswer). at'.1))
      (find_the (λ (at' : UnitName × UnitAnswer). is_same at'.0 (unit_name_of thread u)) (answers_of run) x
      (told_of_all s x (shard_within u.sector) here) (same_itself (unit_name_of thread u))
      (λ y at' passes.
      let r = all_of_told y at' in
      told_once r.0 s y x r.1 (shard_within u.sector) r.2 here (same_names y.0 (unit_name_of thread u) passes)))

  -- ---- faults

  -- a unit that met a fault is an entry of its thread that failed
  failed_entry : (thread : ℕ) (x : UnitName × UnitAnswer) → In x (answers_of run) → x.0.thread ≡ thread → is_fault x.1 ≡ true
      → (thread < callers) × ((e : Entry) × In e (made thread) × (name_of_entry e ≡ x.0) × (e.failed ≡ true))
  failed_entry thread x at' by faulty =
      let r = all_of_told x at' in
      let e = told_failed keys (base r.0) (list_at orders r.0) x r.2 faulty in
      let m = made_by faults shards callers some plan few seen made orders closed has_made r.0 e.0 r.1 e.1 in
      let mine : caller_of e.0 ≡ thread = ap (λ (n : UnitName). n.thread) e.2 ∙ by in
      (subst (λ c. c < callers) mine m.0, (e.0, subst (λ c. In e.0 (made c)) mine m.1, e.2, e.3))

  -- an entry that failed is the last of its bio
  no_later : (thread : ℕ) (d e : Entry) → thread < callers → In d (made thread) → In e (made thread) → d.failed ≡ true → d.at.tag ≡ e.at.tag → d.at.unit < e.at.unit → ⊥
  no_later thread d e there a b failed tag lt =
      let r = unit_of_entry thread e there b in
      let f = unit_of_entry thread d there a in
      let earlier : is_earlier (name_of_entry d) (name_of_entry e) ≡ true =
      rw (eq-eqb d.at.caller e.at.caller (by_thread thread f.0 d f.2 ∙ sym (by_thread thread r.0 e r.2)), eq-eqb d.at.tag e.at.tag tag, lt-ltb d.at.unit e.at.unit lt) refl in
      let met : list_any (λ g. is_earlier g (name_of_entry e)) (failed_names (made thread)) ≡ true =
      any_from (λ g. is_earlier g (name_of_entry e)) (failed_names (made thread)) (name_of_entry d)
      (in_map name_of_entry (filter (λ x. x.failed) (made thread)) d (in_filter (λ x. x.failed) (made thread) d a failed)) earlier in
      true≢false (sym (r.3 ∙ refl) ∙ (ap (λ n. is_attempted (failed_names (made thread)) n) (sym (named thread r.0 e r.2)) ∙ ap not met))

  one_fault : (thread : ℕ) (d e : Entry) → thread < callers → In d (made thread) → In e (made thread) → d.failed ≡ true → e.failed ≡ true → d.at.tag ≡ e.at.tag → d.at.unit ≡ e.at.unit
  one_fault thread d e there a b failed failed' tag =
      ⊎_elim
      (λ (lt : d.at.unit < e.at.unit). absurd (no_later thread d e there a b failed tag lt))
      (λ (le : e.at.unit ≤ d.at.unit). ⊎_elim
      (λ (lt : e.at.unit < d.at.unit). absurd (no_later thread e d there b a failed' (sym tag) lt))
      (λ (ge : d.at.unit ≤ e.at.unit). omega arith)
      (cases_lt e.at.unit d.at.unit))
      (cases_lt d.at.unit e.at.unit)

  faulty_parts : (thread op : ℕ) (x : UnitName × UnitAnswer) → (is_unit_of thread op x && is_fault x.1) ≡ true → (x.0.thread ≡ thread) × (x.0.op ≡ op) × (is_fault x.1 ≡ true)
  faulty_parts thread op x is =
      let first = and_parts ((x.0.thread == thread) && (x.0.op == op)) (is_fault x.1) is in
      let second = and_parts (x.0.thread == thread) (x.0.op == op) first.0 in
      (eqb-true x.0.thread thread second.0, eqb-true x.0.op op second.1, first.1)

  pub fault_told : (thread op : ℕ) (u : PlannedUnit) → thread < callers → u.tag ≡ op → Knows (keys_of script) shards base thread (seen thread) u Faulted → fault_of run thread op ≡ Some u.unit
  fault_told thread op u there own_op knows =
      let s = shard_of shards u.sector in
      let x : UnitName × UnitAnswer = (unit_name_of thread u, Faulted) in
      let test = λ (y : UnitName × UnitAnswer). is_unit_of thread op y && is_fault y.1 in
      let here = told_of_all s x (shard_within u.sector) (unit_told thread u Faulted there knows) in
      let passes : test x ≡ true = rw (eq-eqb thread thread refl, eq-eqb u.tag op own_op) refl in
      let r = find_some test (answers_of run) x here passes in
      let parts = faulty_parts thread op r.0 r.2 in
      let d = failed_entry thread r.0 r.1 parts.0 parts.2 in
      let e = failed_entry thread x here refl refl in
      let units : d.1.0.at.unit ≡ e.1.0.at.unit =
      one_fault thread d.1.0 e.1.0 there d.1.1 e.1.1 d.1.3 e.1.3
      (ap (λ (n : UnitName). n.op) d.1.2 ∙ parts.1 ∙ sym own_op ∙ sym (ap (λ (n : UnitName). n.op) e.1.2)) in
      ap (option_map (λ (at' : UnitName × UnitAnswer). at'.0.unit)) r.3
      ∙ ap (λ n. Some n) (sym (ap (λ (n : UnitName). n.unit) d.1.2) ∙ units ∙ ap (λ (n : UnitName). n.unit) e.1.2)

  -- where each unit of the bio is known to have met none
  pub no_fault_told : (thread op : ℕ) (units : List PlannedUnit) → thread < callers → filter (λ u. u.tag == op) (list_at plan thread) ≡ units
      → ((u : PlannedUnit) → In u units → (answer : UnitAnswer) × (is_fault answer ≡ false) × Knows (keys_of script) shards base thread (seen thread) u answer)
      → fault_of run thread op ≡ None
  no_fault_told thread op units there are knows =
      let test = λ (y : UnitName × UnitAnswer). is_unit_of thread op y && is_fault y.1 in
      ap (option_map (λ (at' : UnitName × UnitAnswer). at'.0.unit))
      (find_none test (answers_of run)
      (λ x at'. false_from_ne_true (test x)
      (λ passes.
      let parts = faulty_parts thread op x passes in
      let d = failed_entry thread x at' parts.0 parts.2 in
      let r = unit_of_entry thread d.1.0 there d.1.1 in
      let name : unit_name_of thread r.0 ≡ x.0 = sym (named thread r.0 d.1.0 r.2) ∙ d.1.2 in
      let mine : In r.0 units = subst (In r.0) are (in_filter (λ u. u.tag == op) (list_at plan thread) r.0 r.1 (eq-eqb r.0.tag op (ap (λ (n : UnitName). n.op) name ∙ parts.1))) in
      let k = knows r.0 mine in
      let told = unit_told thread r.0 k.0 there k.2 in
      let y = all_of_told x at' in
      let same : (unit_name_of thread r.0, k.0) ≡ x = told_once (shard_of shards r.0.sector) y.0 (unit_name_of thread r.0, k.0) x (shard_within r.0.sector) y.1 told y.2 name in
      true≢false (sym parts.2 ∙ sym (ap (λ (z : UnitName × UnitAnswer). is_fault z.1) same) ∙ k.1))))

  -- ---- what a bio is answered

  pub bio_answered : (thread op : ℕ) (access : Access) (units : List PlannedUnit) (answer : BioAnswer) → thread < callers → filter (λ u. u.tag == op) (list_at plan thread) ≡ units
      → AllByRecursion (λ u. u.tag ≡ op) units
      → IsBioAnswer script shards base thread (seen thread) access units answer → answer ≡ bio_answer run access thread op
  bio_answered thread op access units Wrote there are ops is =
      let none = no_fault_told thread op units there are (λ u at'. (Written, refl, all_at (λ v. Knows (keys_of script) shards base thread (seen thread) v Written) units u is.1 at')) in
      ap (λ (act : Access). without_fault act (answers_of_bio run thread op)) (sym is.0)
      ∙ sym (ap (λ (o : Option ℕ). option_map_or (λ unit. Fault unit) o (without_fault access (answers_of_bio run thread op))) none)
  bio_answered thread op access units (Bytes bytes) there are ops is =
      let texts = is.1 in
      let none = no_fault_told thread op units there are
      (λ u at'. let r = beside_left (λ v text. Knows (keys_of script) shards base thread (seen thread) v (Text text)) units texts u is.2 at' in (Text r.0, refl, r.2)) in
      ap (λ l. Bytes l) (is.3 ∙ sym (texts_of texts))
      ∙ ap (λ (l : List UnitAnswer). Bytes (flat_map answer_text l)) (sym (ap (filter_map (λ u. unit_answer run (unit_name_of thread u))) are ∙ each units texts is.2))
      ∙ ap (λ (act : Access). without_fault act (answers_of_bio run thread op)) (sym is.0)
      ∙ sym (ap (λ (o : Option ℕ). option_map_or (λ unit. Fault unit) o (without_fault access (answers_of_bio run thread op))) none)
    where
      texts_of : (texts : List (List ℕ)) → flat_map answer_text (map (λ text. Text text) texts) ≡ flat_map (λ text. text) texts
      texts_of [] = refl
      texts_of (text ∷ texts) = ap (λ (l : List ℕ). text ++ l) (texts_of texts)

      each : (us : List PlannedUnit) (texts : List (List ℕ)) → AllZip (λ u text. Knows (keys_of script) shards base thread (seen thread) u (Text text)) us texts
          → filter_map (λ u. unit_answer run (unit_name_of thread u)) us ≡ map (λ text. Text text) texts
      each [] [] all = refl
      each [] (text ∷ texts) all = absurd all
      each (u ∷ us) [] all = absurd all
      each (u ∷ us) (text ∷ texts) all =
          ap (λ (o : Option UnitAnswer). cons_option o (filter_map (λ v. unit_answer run (unit_name_of thread v)) us)) (unit_answered thread u (Text text) there all.0)
          ∙ ap (λ (l : List UnitAnswer). Text text ∷ l) (each us texts all.1)
  bio_answered thread op access units (Fault unit) there are ops is =
      let u = is.1 in
      let own_op = all_at (λ v. v.tag ≡ op) units u ops (in_at units is.0 u is.2) in
      ap (λ n. Fault n) (sym is.3)
      ∙ sym (ap (λ (o : Option ℕ). option_map_or (λ unit. Fault unit) o (without_fault access (answers_of_bio run thread op))) (fault_told thread op u there own_op is.4))
