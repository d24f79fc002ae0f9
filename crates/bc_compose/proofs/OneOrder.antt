-- Two runs that go section after section list the same orders. We go along the planned units, section after section: each is
-- attempted in both runs or in neither, since an earlier unit of its bio that stands at a planned place stands there in both.
use Rattle.std.proofs.Common.{◌≡◌, ℕ, zero, suc, ◌+◌, ◌<◌, ◌≤◌, ◌⊎◌, inl, inr, Bool, true, false, cond, List, [], ◌∷◌, ◌++◌, append-nil, length, map, refl, sym, ap, subst, ◌∙◌, arith, Option, Some, None}
use Rattle.std.specs.Prelude.{◌==◌, ◌&&◌, not, nat_lt, filter, flat_map, slice_get, option_and_then}
use Rattle.std.specs.List.{AllByRecursion, list_any, range_with_len, enumerate_from}
use Rattle.std.proofs.Math.Logic.{⊎_elim}
use Rattle.std.proofs.lemmas.Bool.{true≢false, ne_eqb, le-ltb, and_left, and_right}
use Rattle.std.proofs.lemmas.Option.{none-some, slice_get-get_or}
use Rattle.std.proofs.lemmas.List.{append_assoc, map-append}
use Rattle.std.proofs.lemmas.List.Elements.{filter-append}
use Rattle.bc_base.specs.Lists.{list_at}
use Rattle.bc_bio.specs.declared.extent.Extent.{Extent}
use Rattle.bc_bio.specs.PlannedUnit.{PlannedUnit}
use Rattle.bc_medium.specs.declared.unit_name.UnitName.{UnitName}
use Rattle.bc_medium.specs.Layout.{shard_of}
use Rattle.bc_medium.specs.LawfulOrders.{unit_name_of, is_attempted, is_earlier, at_place, faulted, attempted_on}
use Rattle.bc_script.specs.declared.op.Op.{Op}
use Rattle.bc_script.specs.Script.{Script, keys_of}
use Rattle.bc_script.specs.Plan.{unit_at, units_of, units_of_section, plan_of}
use Rattle.bc_compose.proofs.Lists.{in_at, filter-map, slice_get_append}
use Rattle.bc_compose.proofs.Distinct.{in_of_range}
use Rattle.bc_compose.proofs.Units.{all_map, by_bio, ops_of, later_ops, later_units}
use Rattle.bc_compose.proofs.Orders.{in_filter_map, in_of_filter_map, at_is, within_of}
use Rattle.bc_base.proofs.Members.{map-map, In, in_of_map, in_of_filter, any_in, any_from, same_tests, all_at, all_from_in, all_append, all_of}

-- ---- items that have a name and lie in a shard

-- the attempted ones of these items on a shard, by name
abbrev pub part : {X : Type 0} → (X → UnitName) → (X → ℕ) → List UnitName → ℕ → List X → List UnitName
part name lies met shard items = filter (is_attempted met) (map name (filter (λ x. lies x == shard) items))

-- no item is an earlier unit of a bio that has gone before
abbrev pub InTurn : {X : Type 0} → (X → UnitName) → List X → Type 0
InTurn name [] = Unit {0}
InTurn name (x ∷ xs) = AllByRecursion (λ y. is_earlier (name y) (name x) ≡ false) xs × InTurn name xs

get_of_append : {X : Type 0} (xs ys : List X) (k : ℕ) (x : X) → slice_get (xs ++ ys) k ≡ Some x → (slice_get xs k ≡ Some x) ⊎ In x ys
get_of_append [] ys k x e = inr (in_at ys k x e)
get_of_append (z ∷ zs) ys zero x e = inl e
get_of_append (z ∷ zs) ys (suc k) x e = get_of_append zs ys k x e

not_itself : (u : UnitName) → is_earlier u u ≡ false
not_itself u = and_right ((u.thread == u.thread) && (u.op == u.op)) (nat_lt u.unit u.unit) (le-ltb u.unit u.unit (omega arith))

count_of_range : {Y : Type 0} (F : ℕ → Y) (first n : ℕ) → length (map F (range_with_len first n)) ≡ n
count_of_range F first zero = refl
count_of_range F first (suc n) = ap suc (count_of_range F (first + 1) n)

at_of_range : {Y : Type 0} (F : ℕ → List Y) (first n i s : ℕ) → i < n → first + i ≡ s → list_at (map F (range_with_len first n)) i ≡ F s
at_of_range F first zero i s within e = absurd (omega arith)
at_of_range F first (suc n) zero s within e = ap F (omega arith)
at_of_range F first (suc n) (suc i) s within e = at_of_range F (first + 1) n i s (omega arith) (omega arith)

-- what stands at a place
place_in : (orders : List (List UnitName)) (shard place : ℕ) (f : UnitName) → at_place orders (shard, place) ≡ Some f
    → (shard < length orders) × (slice_get (list_at orders shard) place ≡ Some f)
place_in orders shard place f is =
    (elim (slice_get orders shard) as (λ (o : Option (List UnitName)). slice_get orders shard ≡ o → option_and_then (λ order. slice_get order place) o ≡ Some f
    → (shard < length orders) × (slice_get (list_at orders shard) place ≡ Some f)) [
      | None ↦ λ _ none. absurd (none-some f none)
      | Some order ↦ λ there found.
          (within_of orders shard order there, subst (λ (o : List UnitName). slice_get o place ≡ Some f) (sym (at_is orders shard order there)) found)
    ]) refl is

place_is : (orders : List (List UnitName)) (shard place : ℕ) (f : UnitName) → shard < length orders → slice_get (list_at orders shard) place ≡ Some f
    → at_place orders (shard, place) ≡ Some f
place_is orders shard place f within is = ap (option_and_then (λ order. slice_get order place)) (slice_get-get_or orders shard [] within) ∙ is

module _ {X : Type 0} (name : X → UnitName) (lies : X → ℕ) where
  pub part_append : (met : List UnitName) (shard : ℕ) (xs ys : List X) → part name lies met shard (xs ++ ys) ≡ part name lies met shard xs ++ part name lies met shard ys
  part_append met shard xs ys =
      let on = λ (x : X). lies x == shard in
      ap (λ (l : List X). filter (is_attempted met) (map name l)) (filter-append on xs ys)
      ∙ ap (filter (is_attempted met)) (map-append name (filter on xs) (filter on ys))
      ∙ filter-append (is_attempted met) (map name (filter on xs)) (map name (filter on ys))

  in_part : (met : List UnitName) (shard : ℕ) (xs : List X) (f : UnitName) → In f (part name lies met shard xs) → (x : X) × In x xs × (name x ≡ f)
  in_part met shard xs f at' =
      let on = λ (x : X). lies x == shard in
      let r = in_of_map name (filter on xs) f (in_of_filter (is_attempted met) (map name (filter on xs)) f at').0 in
      (r.0, (in_of_filter on xs r.0 r.1).0, r.2)

  -- ---- two lists of orders that have the attempted items of each shard

  module _ (faults : List (ℕ × ℕ)) (shards : ℕ) (items : List X) where
    -- each order has the attempted items of its shard
    pub record AreParts (orders : List (List UnitName)) : Type 0 where
      pub count : length orders ≡ shards
      pub each : (shard : ℕ) → shard < shards → list_at orders shard ≡ part name lies (faulted faults orders) shard items

    -- where both attempt the same of what has gone before, an item that the one passes over is passed over by the other
    passed_over : (a b : List (List UnitName)) → AreParts a → AreParts b → (xs ys : List X) (x : X) → items ≡ xs ++ x ∷ ys
        → AllByRecursion (λ y. is_earlier (name y) (name x) ≡ false) ys
        → ((shard : ℕ) → part name lies (faulted faults a) shard xs ≡ part name lies (faulted faults b) shard xs)
        → list_any (λ f. is_earlier f (name x)) (faulted faults a) ≡ true → list_any (λ f. is_earlier f (name x)) (faulted faults b) ≡ true
    passed_over a b pa pb xs ys x are later same any =
        let r = any_in (λ f. is_earlier f (name x)) (faulted faults a) any in
        let f = r.0 in
        let q = in_of_filter_map (at_place a) faults f r.1 in
        let shard = q.0.0 in
        let place = q.0.1 in
        let stood = place_in a shard place f q.2 in
        let within : shard < shards = subst (λ (n : ℕ). shard < n) pa.count stood.0 in
        let before = part name lies (faulted faults a) shard xs in
        let behind = part name lies (faulted faults a) shard (x ∷ ys) in
        let split : list_at a shard ≡ before ++ behind =
        pa.each shard within ∙ ap (part name lies (faulted faults a) shard) are ∙ part_append (faulted faults a) shard xs (x ∷ ys) in
        ⊎_elim
        (λ (there : slice_get before place ≡ Some f).
        let other : list_at b shard ≡ before ++ part name lies (faulted faults b) shard (x ∷ ys) =
        pb.each shard within ∙ ap (part name lies (faulted faults b) shard) are ∙ part_append (faulted faults b) shard xs (x ∷ ys)
        ∙ ap (λ (l : List UnitName). l ++ part name lies (faulted faults b) shard (x ∷ ys)) (sym (same shard)) in
        let stands : slice_get (list_at b shard) place ≡ Some f =
        subst (λ (l : List UnitName). slice_get l place ≡ Some f) (sym other) (slice_get_append before (part name lies (faulted faults b) shard (x ∷ ys)) place f there) in
        any_from (λ g. is_earlier g (name x)) (faulted faults b) f
        (in_filter_map (at_place b) faults (shard, place) f q.1
        (place_is b shard place f (subst (λ (n : ℕ). shard < n) (sym pb.count) within) stands)) r.2)
        (λ (after : In f behind).
        let y = in_part (faulted faults a) shard (x ∷ ys) f after in
        let none : is_earlier (name y.0) (name x) ≡ false =
        all_at (λ z. is_earlier (name z) (name x) ≡ false) (x ∷ ys) y.0 (not_itself (name x), later) y.1 in
        absurd (true≢false (sym r.2 ∙ ap (λ (g : UnitName). is_earlier g (name x)) (sym y.2) ∙ none)))
        (get_of_append before behind place f (subst (λ (l : List UnitName). slice_get l place ≡ Some f) split stood.1))

    module _ (a b : List (List UnitName)) (pa : AreParts a) (pb : AreParts b) where
      one_more : (xs ys : List X) (x : X) → items ≡ xs ++ x ∷ ys → AllByRecursion (λ y. is_earlier (name y) (name x) ≡ false) ys
          → ((shard : ℕ) → part name lies (faulted faults a) shard xs ≡ part name lies (faulted faults b) shard xs)
          → (shard : ℕ) → part name lies (faulted faults a) shard (xs ++ x ∷ []) ≡ part name lies (faulted faults b) shard (xs ++ x ∷ [])
      one_more xs ys x are later same shard =
          let attempted : is_attempted (faulted faults a) (name x) ≡ is_attempted (faulted faults b) (name x) =
          ap not
          (same_tests (list_any (λ f. is_earlier f (name x)) (faulted faults a)) (list_any (λ f. is_earlier f (name x)) (faulted faults b))
          (passed_over a b pa pb xs ys x are later same) (passed_over b a pb pa xs ys x are later (λ s. sym (same s)))) in
          let alone : part name lies (faulted faults a) shard (x ∷ []) ≡ part name lies (faulted faults b) shard (x ∷ []) =
          elim (lies x == shard) as (λ (c : Bool). filter (is_attempted (faulted faults a)) (map name (cond c (x ∷ []) []))
          ≡ filter (is_attempted (faulted faults b)) (map name (cond c (x ∷ []) []))) [
            | true ↦ ap (λ (c : Bool). cond c (name x ∷ []) []) attempted
            | false ↦ refl
          ] in
          part_append (faulted faults a) shard xs (x ∷ [])
          ∙ ap (λ (l : List UnitName). l ++ part name lies (faulted faults a) shard (x ∷ [])) (same shard)
          ∙ ap (λ (l : List UnitName). part name lies (faulted faults b) shard xs ++ l) alone
          ∙ sym (part_append (faulted faults b) shard xs (x ∷ []))

      along : (xs ys : List X) → items ≡ xs ++ ys → InTurn name ys
          → ((shard : ℕ) → part name lies (faulted faults a) shard xs ≡ part name lies (faulted faults b) shard xs)
          → (shard : ℕ) → part name lies (faulted faults a) shard items ≡ part name lies (faulted faults b) shard items
      along xs [] are turn same shard =
          let all : items ≡ xs = are ∙ append-nil xs in
          ap (part name lies (faulted faults a) shard) all ∙ same shard ∙ sym (ap (part name lies (faulted faults b) shard) all)
      along xs (x ∷ ys) are turn same shard =
          along (xs ++ x ∷ []) ys (are ∙ sym (append_assoc xs (x ∷ []) ys)) turn.1 (one_more xs ys x are turn.0 same) shard

      pub same_parts : InTurn name items → (shard : ℕ) → part name lies (faulted faults a) shard items ≡ part name lies (faulted faults b) shard items
      same_parts turn shard = along [] items refl turn (λ s. refl) shard

-- ---- the units of a plan, section after section

in_turn_append : {X : Type 0} (name : X → UnitName) (xs ys : List X) → InTurn name xs → InTurn name ys
    → AllByRecursion (λ x. AllByRecursion (λ y. is_earlier (name y) (name x) ≡ false) ys) xs → InTurn name (xs ++ ys)
in_turn_append name [] ys ps qs cross = qs
in_turn_append name (x ∷ xs) ys ps qs cross =
    (all_append (λ y. is_earlier (name y) (name x) ≡ false) xs ys ps.0 cross.0, in_turn_append name xs ys ps.1 qs cross.1)

in_turn_map : {X Y : Type 0} (f : X → Y) (name : Y → UnitName) (xs : List X) → InTurn (λ x. name (f x)) xs → InTurn name (map f xs)
in_turn_map f name [] turn = tt
in_turn_map f name (x ∷ xs) turn = (all_map (λ y. is_earlier (name y) (name (f x)) ≡ false) f xs turn.0, in_turn_map f name xs turn.1)

module _ (script : Script) (thread : ℕ) where
  turn_bio : (op : ℕ) (operation : Op) (bio : Extent) (first n : ℕ) → InTurn (unit_name_of thread) (map (unit_at (keys_of script) op operation bio) (range_with_len first n))
  turn_bio op operation bio first zero = tt
  turn_bio op operation bio first (suc n) =
      let u = unit_at (keys_of script) op operation bio first in
      let rest = map (unit_at (keys_of script) op operation bio) (range_with_len (first + 1) n) in (
        all_of (λ (v : PlannedUnit). first + 1 ≤ v.unit) (λ (v : PlannedUnit). is_earlier (unit_name_of thread v) (unit_name_of thread u) ≡ false) rest
            (λ v low. and_right ((thread == thread) && (v.tag == op)) (nat_lt v.unit first) (le-ltb v.unit first (omega arith)))
            (later_units (keys_of script) op operation bio (first + 1) n),
        turn_bio op operation bio (first + 1) n,
      )

  turn_from : (op : ℕ) (section : List Op) → InTurn (unit_name_of thread) (flat_map (units_of script) (enumerate_from op section))
  turn_from op [] = tt
  turn_from op (operation ∷ section) =
      let rest = flat_map (units_of script) (enumerate_from (op + 1) section) in
      in_turn_append (unit_name_of thread) (units_of script (op, operation)) rest
      (by_bio (InTurn (unit_name_of thread)) script op operation tt (λ bio _ _. turn_bio op operation bio 0 bio.units))
      (turn_from (op + 1) section)
      (all_of (λ (u : PlannedUnit). u.tag ≡ op) (λ (u : PlannedUnit). AllByRecursion (λ v. is_earlier (unit_name_of thread v) (unit_name_of thread u) ≡ false) rest) (units_of script (op, operation))
      (λ u here. all_of (λ (v : PlannedUnit). op + 1 ≤ v.tag) (λ (v : PlannedUnit). is_earlier (unit_name_of thread v) (unit_name_of thread u) ≡ false) rest
      (λ v low. and_left ((thread == thread) && (v.tag == u.tag)) (nat_lt v.unit u.unit) (and_right (thread == thread) (v.tag == u.tag) (ne_eqb v.tag u.tag (λ e. omega arith))))
      (later_ops script (op + 1) section))
      (ops_of script op operation))

  turn_at : (sections : List (List Op)) (t : ℕ) → InTurn (unit_name_of thread) (list_at (map (units_of_section script) sections) t)
  turn_at [] t = tt
  turn_at (section ∷ sections) zero = turn_from 0 section
  turn_at (section ∷ sections) (suc t) = turn_at sections t

-- a unit of a thread, by name
abbrev pub name_in_plan : ℕ × PlannedUnit → UnitName
name_in_plan item = unit_name_of item.0 item.1

-- the shard of its sectors
abbrev pub lies_on : ℕ → ℕ × PlannedUnit → ℕ
lies_on shards item = shard_of shards item.1.sector

-- the units of so many threads, from this one on
abbrev pub items_from : List (List PlannedUnit) → ℕ → ℕ → List (ℕ × PlannedUnit)
items_from plan first n = flat_map (λ t. map (λ u. (t, u)) (list_at plan t)) (range_with_len first n)

turn_items : (script : Script) (first n : ℕ) → InTurn name_in_plan (items_from (plan_of script) first n)
turn_items script first zero = tt
turn_items script first (suc n) =
    let pair : PlannedUnit → ℕ × PlannedUnit = λ u. (first, u) in
    let mine = map pair (list_at (plan_of script) first) in
    let rest = items_from (plan_of script) (first + 1) n in
    in_turn_append name_in_plan mine rest
    (in_turn_map pair name_in_plan (list_at (plan_of script) first) (turn_at script first script.threads first))
    (turn_items script (first + 1) n)
    (all_from_in (λ x. AllByRecursion (λ y. is_earlier (name_in_plan y) (name_in_plan x) ≡ false) rest) mine
    (λ x at'. all_from_in (λ y. is_earlier (name_in_plan y) (name_in_plan x) ≡ false) rest
    (λ y later.
    let p = in_of_map pair (list_at (plan_of script) first) x at' in
    let here : first ≡ x.0 = ap (λ (z : ℕ × PlannedUnit). z.0) p.2 in
    let q = in_of_range (λ t. map (λ u. (t, u)) (list_at (plan_of script) t)) (first + 1) n y later in
    let m = in_of_map (λ u. (q.0, u)) (list_at (plan_of script) q.0) y q.3 in
    let there : q.0 ≡ y.0 = ap (λ (z : ℕ × PlannedUnit). z.0) m.2 in
    let low : first + 1 ≤ q.0 = q.1 in
    and_left ((y.0 == x.0) && (y.1.tag == x.1.tag)) (nat_lt y.1.unit x.1.unit) (and_left (y.0 == x.0) (y.1.tag == x.1.tag) (ne_eqb y.0 x.0 (λ e. omega arith))))))

-- an order that goes section after section has the attempted units of its shard
sections_are : (shards : ℕ) (plan : List (List PlannedUnit)) (faults : List (ℕ × ℕ)) (orders : List (List UnitName)) (shard first n : ℕ)
    → flat_map (attempted_on shards plan faults orders shard) (range_with_len first n)
    ≡ part name_in_plan (lies_on shards) (faulted faults orders) shard (items_from plan first n)
sections_are shards plan faults orders shard first zero = refl
sections_are shards plan faults orders shard first (suc n) =
    let met = faulted faults orders in
    let pair : PlannedUnit → ℕ × PlannedUnit = λ u. (first, u) in
    let us = list_at plan first in
    let on = λ (u : PlannedUnit). shard_of shards u.sector == shard in
    let mine : filter (is_attempted met) (map (unit_name_of first) (filter on us)) ≡ part name_in_plan (lies_on shards) met shard (map pair us) =
    sym (ap (λ (l : List (ℕ × PlannedUnit)). filter (is_attempted met) (map name_in_plan l)) (filter-map pair (λ x. lies_on shards x == shard) us)
    ∙ ap (filter (is_attempted met)) (map-map pair name_in_plan (filter on us))) in
    ap (λ (l : List UnitName). l ++ flat_map (attempted_on shards plan faults orders shard) (range_with_len (first + 1) n)) mine
    ∙ ap (λ (l : List UnitName). part name_in_plan (lies_on shards) met shard (map pair us) ++ l) (sections_are shards plan faults orders shard (first + 1) n)
    ∙ sym (part_append name_in_plan (lies_on shards) met shard (map pair us) (items_from plan (first + 1) n))

-- ---- the orders of a script

module _ (script : Script) (shards : ℕ) where
  -- the orders go section after section
  abbrev pub InSections : List (List UnitName) → Type 0
  InSections orders =
      orders ≡ map (λ shard. flat_map (attempted_on shards (plan_of script) script.faults orders shard) (range_with_len 0 (length script.threads))) (range_with_len 0 shards)

  abbrev items : List (ℕ × PlannedUnit)
  items = items_from (plan_of script) 0 (length script.threads)

  abbrev order_of : List (List UnitName) → ℕ → List UnitName
  order_of orders shard = flat_map (attempted_on shards (plan_of script) script.faults orders shard) (range_with_len 0 (length script.threads))

  are_parts : (orders : List (List UnitName)) → InSections orders → AreParts name_in_plan (lies_on shards) script.faults shards items orders
  are_parts orders are = record {
    count = ap length are ∙ count_of_range (order_of orders) 0 shards;
    each = λ shard within.
        ap (λ (os : List (List UnitName)). list_at os shard) are
        ∙ at_of_range (order_of orders) 0 shards shard shard within (omega arith)
        ∙ sections_are shards (plan_of script) script.faults orders shard 0 (length script.threads);
  }

  pub one_order : (a b : List (List UnitName)) → InSections a → InSections b → a ≡ b
  one_order a b pa pb =
      let same : (shard : ℕ) → order_of a shard ≡ order_of b shard = λ shard.
      sections_are shards (plan_of script) script.faults a shard 0 (length script.threads)
      ∙ same_parts name_in_plan (lies_on shards) script.faults shards items a b (are_parts a pa) (are_parts b pb) (turn_items script 0 (length script.threads)) shard
      ∙ sym (sections_are shards (plan_of script) script.faults b shard 0 (length script.threads)) in
      pa ∙ (λ i. map (λ shard. same shard i) (range_with_len 0 shards)) ∙ sym pb
