-- From what each thread knows: the orders of the closed shards are lawful, and each entry is a unit of the plan.
use Rattle.std.proofs.Common.{◌≡◌, ℕ, zero, suc, ◌<◌, ◌≤◌, inl, inr, Bool, true, cond, List, [], ◌∷◌, length, map, refl, sym, ap, subst, ◌∙◌, arith, Option, Some, None}
use Rattle.std.specs.Prelude.{◌==◌, ◌&&◌, ◌/◌, not, nat_lt, filter, filter_map, slice_get, option_and_then}
use Rattle.std.specs.List.{AllZip, list_any}
use Rattle.std.proofs.Math.Logic.{⊎_elim}
use Rattle.std.proofs.lemmas.Bool.{eq-eqb, ne_eqb, eqb-true, cases_lt, and_parts}
use Rattle.std.proofs.lemmas.Option.{none-some, same_Some, slice_get-get_or}
use Rattle.std.proofs.lemmas.Nat.{mod_below}
use Rattle.std.proofs.lemmas.List.{get_or_past, length-map}
use Rattle.bc_base.specs.Story.{own}
use Rattle.bc_bio.specs.PlannedUnit.{PlannedUnit}
use Rattle.bc_medium.specs.declared.entry.Entry.{Entry}
use Rattle.bc_medium.specs.declared.unit_name.UnitName.{UnitName}
use Rattle.bc_medium.specs.Layout.{shard_of}
use Rattle.bc_medium.specs.KeyedDisk.{meets_fault}
use Rattle.bc_medium.specs.Entries.{caller_of, name_of_entry}
use Rattle.bc_medium.specs.LawfulOrders.{unit_name_of, is_attempted, is_earlier, at_place, faulted, attempted_on, entries_of, LawfulOrders}
use Rattle.bc_base.specs.Lists.{list_at}
use Rattle.bc_medium.specs.Growth.{IsEntryOf, failed_names, attempted_by, lies_in}
use Rattle.bc_compose.specs.ClosedOrders.{ShardsClosed}
use Rattle.bc_compose.proofs.Lists.{in_at, place_of, in_map, in_filter, filter-map, filter_swap, filter_beside, map_beside, own_seen}
use Rattle.bc_base.proofs.Members.{In, in_of_map, in_of_filter, any_in, any_from, same_tests, filter_same_in, all_at}

-- what each thread has made: the part of `SectionDone` that the orders stand on
pub record HasMade (shards thread : ℕ) (issued : List PlannedUnit) (seen : List (List Entry)) (made : List Entry) : Type 0 where
  pub attempts : AllZip (IsEntryOf thread) (attempted_by thread (failed_names made) issued) made
  pub entries : (shard : ℕ) → shard < shards → own caller_of thread (list_at seen shard) ≡ filter (lies_in shards shard) made

-- an entry has its unit's name, sector and caller
pub named : (thread : ℕ) (u : PlannedUnit) (e : Entry) → IsEntryOf thread u e → name_of_entry e ≡ unit_name_of thread u
named thread u e is = ap (λ at'. record { thread = at'.caller; op = at'.tag; unit = at'.unit }) is.unit

pub by_thread : (thread : ℕ) (u : PlannedUnit) (e : Entry) → IsEntryOf thread u e → caller_of e ≡ thread
by_thread thread u e is = ap (λ at'. at'.caller) is.unit

pub placed : (thread : ℕ) (u : PlannedUnit) (e : Entry) → IsEntryOf thread u e → e.at.sector ≡ u.sector
placed thread u e is = ap (λ at'. at'.sector) is.unit

-- ---- the plan of faults and the entries that failed

fault_in : (faults : List (ℕ × ℕ)) (shard place : ℕ) → meets_fault faults shard place ≡ true → In (shard, place) faults
fault_in faults shard place meets =
    let r = any_in (λ fault. (fault.0 == shard) && (fault.1 == place)) faults meets in
    let parts = and_parts (r.0.0 == shard) (r.0.1 == place) r.2 in
    let e0 : r.0.0 ≡ shard = eqb-true r.0.0 shard parts.0 in
    let e1 : r.0.1 ≡ place = eqb-true r.0.1 place parts.1 in
    subst (λ (f : ℕ × ℕ). In f faults) (λ i. (e0 i, e1 i)) r.1

fault_meets : (faults : List (ℕ × ℕ)) (shard place : ℕ) → In (shard, place) faults → meets_fault faults shard place ≡ true
fault_meets faults shard place at' =
    any_from (λ fault. (fault.0 == shard) && (fault.1 == place)) faults (shard, place) at'
    (rw (eq-eqb shard shard refl, eq-eqb place place refl) refl)

pub in_filter_map : {X Y : Type 0} (f : X → Option Y) (xs : List X) (x : X) (y : Y) → In x xs → f x ≡ Some y → In y (filter_map f xs)
in_filter_map f [] x y at' e = absurd at'
in_filter_map f (z ∷ zs) x y at' e =
    ⊎_elim
    (λ (same : z ≡ x). subst (λ (o : Option _). In y (cons o (filter_map f zs))) (sym (ap f same ∙ e)) (inl refl))
    (λ (more : In x zs). behind y (filter_map f zs) (f z) (in_filter_map f zs x y more e))
    at'
  where
    cons : {Y : Type 0} → Option Y → List Y → List Y
    cons None ys = ys
    cons (Some y) ys = y ∷ ys

    behind : {Y : Type 0} (y : Y) (ys : List Y) (o : Option Y) → In y ys → In y (cons o ys)
    behind y ys None h = h
    behind y ys (Some w) h = inr h

pub in_of_filter_map : {X Y : Type 0} (f : X → Option Y) (xs : List X) (y : Y) → In y (filter_map f xs) → (x : X) × In x xs × (f x ≡ Some y)
in_of_filter_map f [] y at' = absurd at'
in_of_filter_map f (x ∷ xs) y at' =
    (elim (f x) as (λ (o : Option _). f x ≡ o → In y (cons o (filter_map f xs)) → (z : _) × In z (x ∷ xs) × (f z ≡ Some y)) [
      | None ↦ λ is h. let r = in_of_filter_map f xs y h in (r.0, inr r.1, r.2)
      | Some w ↦ λ is h. ⊎_elim
          (λ (e : w ≡ y). (x, inl refl, is ∙ ap (λ v. Some v) e))
          (λ (more : In y (filter_map f xs)). let r = in_of_filter_map f xs y more in (r.0, inr r.1, r.2)) h
    ]) refl at'
  where
    cons : {Y : Type 0} → Option Y → List Y → List Y
    cons None ys = ys
    cons (Some y) ys = y ∷ ys

-- the list at a place
pub at_is : {A : Type 0} (lists : List (List A)) (n : ℕ) (list : List A) → slice_get lists n ≡ Some list → list_at lists n ≡ list
at_is [] n list e = absurd (none-some list e)
at_is (l ∷ ls) zero list e = same_Some l list e
at_is (l ∷ ls) (suc n) list e = at_is ls n list e

get_at : {A : Type 0} (lists : List (List A)) (n : ℕ) → n < length lists → slice_get lists n ≡ Some (list_at lists n)
get_at lists n within = slice_get-get_or lists n [] within

pub within_of : {A : Type 0} (xs : List A) (n : ℕ) (x : A) → slice_get xs n ≡ Some x → n < length xs
within_of [] n x e = absurd (none-some x e)
within_of (y ∷ ys) zero x e = omega arith
within_of (y ∷ ys) (suc n) x e = let r = within_of ys n x e in omega arith

get_of_map : {A B : Type 0} (f : A → B) (xs : List A) (n : ℕ) (y : B) → slice_get (map f xs) n ≡ Some y → (x : A) × (slice_get xs n ≡ Some x) × (f x ≡ y)
get_of_map f [] n y e = absurd (none-some y e)
get_of_map f (x ∷ xs) zero y e = (x, refl, same_Some (f x) y e)
get_of_map f (x ∷ xs) (suc n) y e = get_of_map f xs n y e

get_map : {A B : Type 0} (f : A → B) (xs : List A) (n : ℕ) (x : A) → slice_get xs n ≡ Some x → slice_get (map f xs) n ≡ Some (f x)
get_map f [] n x e = absurd (none-some x e)
get_map f (y ∷ ys) zero x e = ap (λ o. Some (f o)) (same_Some y x e)
get_map f (y ∷ ys) (suc n) x e = get_map f ys n x e

pub at_map : {A B : Type 0} (f : A → B) (lists : List (List A)) (n : ℕ) → list_at (map (map f) lists) n ≡ map f (list_at lists n)
at_map f [] n = refl
at_map f (l ∷ ls) zero = refl
at_map f (l ∷ ls) (suc n) = at_map f ls n

module _ (faults : List (ℕ × ℕ)) (shards callers : ℕ) (some : 1 ≤ shards) (plan : List (List PlannedUnit)) (few : length plan ≡ callers)
    (seen : ℕ → List (List Entry)) (made : ℕ → List Entry) (orders : List (List Entry))
    (closed : ShardsClosed faults shards callers seen orders)
    (has_made : (thread : ℕ) → thread < callers → HasMade shards thread (list_at plan thread) (seen thread) (made thread)) where
  abbrev pub names : List (List UnitName)
  names = map (map name_of_entry) orders

  -- an entry of the orders was made by its thread
  pub made_by : (shard : ℕ) (e : Entry) → shard < shards → In e (list_at orders shard) → (caller_of e < callers) × In e (made (caller_of e)) × (lies_in shards shard e ≡ true)
  made_by shard e within at' =
      let c = caller_of e in
      let there : c < callers = all_at (λ x. caller_of x < callers) (list_at orders shard) e (closed.no_strangers shard within) at' in
      let mine : In e (own caller_of c (list_at (seen c) shard)) = own_seen caller_of c (list_at (seen c) shard) (list_at orders shard) e (closed.fronts c shard there within) refl at' in
      let both = in_of_filter (lies_in shards shard) (made c) e (subst (In e) ((has_made c there).entries shard within) mine) in
      (there, both.0, both.1)

  -- and what a thread made stands in the orders
  pub stands : (thread : ℕ) (e : Entry) → thread < callers → In e (made thread) → (shard : ℕ) → shard < shards → lies_in shards shard e ≡ true → In e (list_at orders shard)
  stands thread e there at' shard within lies =
      let front = closed.fronts thread shard there within in
      (in_of_filter (λ x. caller_of x == thread) (list_at orders shard) e
      (subst (In e) (sym (front.own_entries ∙ (has_made thread there).entries shard within))
      (in_filter (lies_in shards shard) (made thread) e at' lies))).0

  shard_within : (s : ℕ) → shard_of shards s < shards
  shard_within s = mod_below (s / 8) shards (omega (arith, some))

  -- the names at planned places are, of one thread, those of its failed entries
  pub same_attempted : (thread : ℕ) (u : PlannedUnit) → thread < callers → is_attempted (faulted faults names) (unit_name_of thread u) ≡ is_attempted (failed_names (made thread)) (unit_name_of thread u)
  same_attempted thread u there =
      ap not
      (same_tests
      (list_any (λ f. is_earlier f (unit_name_of thread u)) (faulted faults names))
      (list_any (λ f. is_earlier f (unit_name_of thread u)) (failed_names (made thread)))
      (λ any.
      let r = any_in (λ f. is_earlier f (unit_name_of thread u)) (faulted faults names) any in
      let f = r.0 in
      let by : f.thread ≡ thread = eqb-true f.thread thread (and_parts (f.thread == thread) (f.op == u.tag) (and_parts ((f.thread == thread) && (f.op == u.tag)) (nat_lt f.unit u.unit) r.2).0).0 in
      let g = in_of_filter_map (at_place names) faults f r.1 in
      let stood = entry_at g.0.0 g.0.1 f g.2 in
      let e = stood.0 in
      let m = made_by g.0.0 e stood.1 (in_at (list_at orders g.0.0) g.0.1 e stood.2) in
      let failed : e.failed ≡ true = closed.planned g.0.0 g.0.1 e stood.1 stood.2 ∙ fault_meets faults g.0.0 g.0.1 g.1 in
      let mine : caller_of e ≡ thread = ap (λ (n : UnitName). n.thread) stood.3 ∙ by in
      any_from (λ h. is_earlier h (unit_name_of thread u)) (failed_names (made thread)) f
      (subst (λ n. In n (failed_names (made thread))) stood.3
      (in_map name_of_entry (filter (λ x. x.failed) (made thread)) e
      (in_filter (λ x. x.failed) (made thread) e (subst (λ t. In e (made t)) mine m.1) failed)))
      r.2)
      (λ any.
      let r = any_in (λ f. is_earlier f (unit_name_of thread u)) (failed_names (made thread)) any in
      let g = in_of_map name_of_entry (filter (λ x. x.failed) (made thread)) r.0 r.1 in
      let e = g.0 in
      let both = in_of_filter (λ x. x.failed) (made thread) e g.1 in
      let shard = shard_of shards e.at.sector in
      let within = shard_within e.at.sector in
      let here = stands thread e there both.0 shard within (eq-eqb shard shard refl) in
      let p = place_of (list_at orders shard) e here in
      let planned : meets_fault faults shard p.0 ≡ true = sym (closed.planned shard p.0 e within p.1) ∙ both.1 in
      any_from (λ h. is_earlier h (unit_name_of thread u)) (faulted faults names) r.0
      (in_filter_map (at_place names) faults (shard, p.0) r.0 (fault_in faults shard p.0 planned) (place_is shard p.0 e within p.1 ∙ ap (λ n. Some n) g.2))
      r.2))
    where
      -- the entry of a name at a place
      entry_at : (shard place : ℕ) (f : UnitName) → at_place names (shard, place) ≡ Some f
          → (e : Entry) × (shard < shards) × (slice_get (list_at orders shard) place ≡ Some e) × (name_of_entry e ≡ f)
      entry_at shard place f is =
          (elim (slice_get names shard) as (λ (o : Option (List UnitName)). slice_get names shard ≡ o → option_and_then (λ order. slice_get order place) o ≡ Some f
          → (e : Entry) × (shard < shards) × (slice_get (list_at orders shard) place ≡ Some e) × (name_of_entry e ≡ f)) [
            | None ↦ λ _ none. absurd (none-some f none)
            | Some order ↦ λ there' found.
                let l = get_of_map (map name_of_entry) orders shard order there' in
                let within : shard < length orders = within_of orders shard l.0 l.1 in
                let e = get_of_map name_of_entry l.0 place f (subst (λ o. slice_get o place ≡ Some f) (sym l.2) found) in
                (e.0, subst (λ n. shard < n) closed.one_for_each within, subst (λ o. slice_get o place ≡ Some e.0) (sym (at_is orders shard l.0 l.1)) e.1, e.2)
          ]) refl is

      place_is : (shard place : ℕ) (e : Entry) → shard < shards → slice_get (list_at orders shard) place ≡ Some e → at_place names (shard, place) ≡ Some (name_of_entry e)
      place_is shard place e within is =
          let order : slice_get names shard ≡ Some (map name_of_entry (list_at orders shard)) =
          get_map (map name_of_entry) orders shard (list_at orders shard) (get_at orders shard (subst (λ n. shard < n) (sym closed.one_for_each) within)) in
          ap (option_and_then (λ o. slice_get o place)) order ∙ get_map name_of_entry (list_at orders shard) place e is

  -- a thread's entries in a shard's order
  pub own_order : (shard thread : ℕ) → shard < shards → thread < callers
      → entries_of thread (list_at names shard) ≡ attempted_on shards plan faults names shard thread
  own_order shard thread within there =
      let issued = list_at plan thread in
      let mine = has_made thread there in
      let met = failed_names (made thread) in
      let on = λ (u : PlannedUnit). shard_of shards u.sector == shard in
      ap (entries_of thread) (at_map name_of_entry orders shard)
      ∙ filter-map name_of_entry (λ (n : UnitName). n.thread == thread) (list_at orders shard)
      ∙ ap (map name_of_entry) ((closed.fronts thread shard there within).own_entries ∙ mine.entries shard within)
      ∙ sym (map_beside (IsEntryOf thread) (unit_name_of thread) name_of_entry (filter on (attempted_by thread met issued)) (filter (lies_in shards shard) (made thread))
      (λ u e is. sym (named thread u e is))
      (filter_beside (IsEntryOf thread) on (lies_in shards shard) (attempted_by thread met issued) (made thread)
      (λ u e is. ap (λ s. shard_of shards s == shard) (sym (placed thread u e is))) mine.attempts))
      ∙ ap (map (unit_name_of thread)) (filter_swap on (λ u. is_attempted met (unit_name_of thread u)) issued)
      ∙ ap (map (unit_name_of thread)) (sym (filter_same_in (λ u. is_attempted (faulted faults names) (unit_name_of thread u)) (λ u. is_attempted met (unit_name_of thread u)) (filter on issued) (λ u _. same_attempted thread u there)))
      ∙ sym (filter-map (unit_name_of thread) (is_attempted (faulted faults names)) (filter on issued))

  -- there are no entries of a thread that there isn't
  no_order : (shard thread : ℕ) → shard < shards → callers ≤ thread → entries_of thread (list_at names shard) ≡ []
  no_order shard thread within past =
      ap (entries_of thread) (at_map name_of_entry orders shard)
      ∙ filter-map name_of_entry (λ (n : UnitName). n.thread == thread) (list_at orders shard)
      ∙ ap (map name_of_entry) (none (list_at orders shard) (λ e at'. all_at (λ x. caller_of x < callers) (list_at orders shard) e (closed.no_strangers shard within) at'))
    where
      none : (es : List Entry) → ((e : Entry) → In e es → caller_of e < callers) → filter (λ e. caller_of e == thread) es ≡ []
      none [] below = refl
      none (e ∷ es) below =
          let lt = below e (inl refl) in
          ap (λ (b : Bool). cond b (e ∷ filter (λ x. caller_of x == thread) es) (filter (λ x. caller_of x == thread) es)) (ne_eqb (caller_of e) thread (λ same. omega arith))
          ∙ none es (λ x at'. below x (inr at'))

  pub lawful_orders : LawfulOrders shards plan faults names
  lawful_orders = record {
    one_for_each_shard = length-map orders (map name_of_entry) ∙ closed.one_for_each;
    as_issued = λ shard thread within.
        ⊎_elim
        (λ (there : thread < callers). own_order shard thread within there)
        (λ (past : callers ≤ thread). no_order shard thread within past
        ∙ sym (ap (λ (us : List PlannedUnit). filter (is_attempted (faulted faults names)) (map (unit_name_of thread) (filter (λ u. shard_of shards u.sector == shard) us))) (get_or_past plan thread [] (omega (arith, few)))))
        (cases_lt thread callers);
  }
