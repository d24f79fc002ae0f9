-- Lists whose elements have distinct names, and what is found by a name.
use Rattle.std.proofs.Common.{◌≡◌, ℕ, zero, suc, ◌+◌, ◌<◌, ◌≤◌, inl, inr, Bool, true, false, cond, List, [], ◌∷◌, refl, sym, ap, subst, ◌∙◌, arith, Some, None}
use Rattle.std.specs.Prelude.{◌==◌, ◌&&◌, filter, find, flat_map}
use Rattle.std.specs.List.{AllByRecursion, range_with_len}
use Rattle.std.proofs.Math.Logic.{⊎_elim}
use Rattle.std.proofs.Math.Nat.{eq-or-lt_of_le}
use Rattle.std.proofs.lemmas.Bool.{true≢false, eq-eqb, eqb-true, and_parts}
use Rattle.bc_base.specs.Story.{own}
use Rattle.bc_bio.specs.PlannedUnit.{PlannedUnit}
use Rattle.bc_medium.specs.declared.unit_name.UnitName.{UnitName}
use Rattle.bc_medium.specs.LawfulOrders.{unit_name_of, is_same}
use Rattle.bc_compose.proofs.Lists.{in_filter}
use Rattle.bc_compose.proofs.Names.{Apart, shares}
use Rattle.bc_base.proofs.Members.{In, in_append_left, in_append_right, in_append_cases, in_of_filter, all_at, all_from_in}

-- no two elements have one name
abbrev pub Distinct : {X N : Type 0} → (X → N) → List X → Type 0
Distinct f [] = Unit {0}
Distinct f (x ∷ xs) = AllByRecursion (λ y. f x ≡ f y → ⊥) xs × Distinct f xs

pub distinct_filter : {X N : Type 0} (f : X → N) (p : X → Bool) (xs : List X) → Distinct f xs → Distinct f (filter p xs)
distinct_filter f p [] all = tt
distinct_filter f p (x ∷ xs) all =
    elim (p x) as (λ (b : Bool). Distinct f (cond b (x ∷ filter p xs) (filter p xs))) [
      | true ↦ (all_from_in (λ y. f x ≡ f y → ⊥) (filter p xs) (λ y at. all_at (λ z. f x ≡ f z → ⊥) xs y all.0 (in_of_filter p xs y at).0), distinct_filter f p xs all.1)
      | false ↦ distinct_filter f p xs all.1
    ]

-- the elements of each caller have distinct names, and one name has one caller
pub distinct_from_own : {X N : Type 0} (by : X → ℕ) (f : X → N) → ((x y : X) → f x ≡ f y → by x ≡ by y) → (xs : List X) → ((c : ℕ) → Distinct f (own by c xs)) → Distinct f xs
distinct_from_own by f one [] each = tt
distinct_from_own by f one (x ∷ xs) each =
    let here : Distinct f (x ∷ own by (by x) xs) =
    subst (λ (b : Bool). Distinct f (cond b (x ∷ own by (by x) xs) (own by (by x) xs))) (eq-eqb (by x) (by x) refl) (each (by x)) in (
      all_from_in (λ y. f x ≡ f y → ⊥) xs
          (λ y at same. all_at (λ z. f x ≡ f z → ⊥) (own by (by x) xs) y here.0
          (in_filter (λ z. by z == by x) xs y at (eq-eqb (by y) (by x) (sym (one x y same)))) same),
      distinct_from_own by f one xs (λ c. tail (by x == c) c (each c)),
    )
  where
    tail : (b : Bool) (c : ℕ) → Distinct f (cond b (x ∷ own by c xs) (own by c xs)) → Distinct f (own by c xs)
    tail true c all = all.1
    tail false c all = all

pub distinct_same : {X N : Type 0} (f : X → N) (xs : List X) (x y : X) → Distinct f xs → In x xs → In y xs → f x ≡ f y → x ≡ y
distinct_same f [] x y all a b same = absurd a
distinct_same f (z ∷ zs) x y all a b same =
    ⊎_elim
    (λ (e : z ≡ x). ⊎_elim
    (λ (e' : z ≡ y). sym e ∙ e')
    (λ (more : In y zs). absurd (all_at (λ w. f z ≡ f w → ⊥) zs y all.0 more (ap f e ∙ same))) b)
    (λ (more : In x zs). ⊎_elim
    (λ (e' : z ≡ y). absurd (all_at (λ w. f z ≡ f w → ⊥) zs x all.0 more (ap f e' ∙ sym same)))
    (λ (more' : In y zs). distinct_same f zs x y all.1 more more' same) b)
    a

-- units that are apart
pub distinct_units : (thread : ℕ) (us : List PlannedUnit) → Apart us → Distinct (unit_name_of thread) us
distinct_units thread [] apart = tt
distinct_units thread (u ∷ us) apart = (
  all_from_in (λ v. unit_name_of thread u ≡ unit_name_of thread v → ⊥) us
      (λ v at same.
      let ops : u.tag ≡ v.tag = ap (λ (n : UnitName). n.op) same in
      let units : u.unit ≡ v.unit = ap (λ (n : UnitName). n.unit) same in
      true≢false (sym (rw (eq-eqb u.tag v.tag ops, eq-eqb u.unit v.unit units) refl) ∙ all_at (λ w. shares u w ≡ false) us v apart.0 at)),
  distinct_units thread us apart.1,
)

-- two names that are the same are equal
pub same_names : (u v : UnitName) → is_same u v ≡ true → u ≡ v
same_names u v same =
    let first = and_parts ((u.thread == v.thread) && (u.op == v.op)) (u.unit == v.unit) same in
    let second = and_parts (u.thread == v.thread) (u.op == v.op) first.0 in
    let e0 = eqb-true u.thread v.thread second.0 in
    let e1 = eqb-true u.op v.op second.1 in
    let e2 = eqb-true u.unit v.unit first.1 in
    λ i. record { thread = e0 i; op = e1 i; unit = e2 i }

pub same_itself : (u : UnitName) → is_same u u ≡ true
same_itself u = rw (eq-eqb u.thread u.thread refl, eq-eqb u.op u.op refl, eq-eqb u.unit u.unit refl) refl

-- ---- searches

-- the one element that passes is found
pub find_the : {X : Type 0} (p : X → Bool) (xs : List X) (x : X) → In x xs → p x ≡ true → ((y : X) → In y xs → p y ≡ true → y ≡ x) → find p xs ≡ Some x
find_the p [] x at pass only = absurd at
find_the p (z ∷ zs) x at pass only =
    (elim (p z) as (λ (b : Bool). p z ≡ b → cond b (Some z) (find p zs) ≡ Some x) [
      | true ↦ λ is. ap (λ w. Some w) (only z (inl refl) is)
      | false ↦ λ is. ⊎_elim
          (λ (e : z ≡ x). absurd (true≢false (sym (ap p e ∙ pass) ∙ is)))
          (λ (more : In x zs). find_the p zs x more pass (λ y at'. only y (inr at'))) at
    ]) refl

-- what is found is an element that passes
pub find_some : {X : Type 0} (p : X → Bool) (xs : List X) (x : X) → In x xs → p x ≡ true → (y : X) × In y xs × (p y ≡ true) × (find p xs ≡ Some y)
find_some p [] x at pass = absurd at
find_some p (z ∷ zs) x at pass =
    (elim (p z) as (λ (b : Bool). p z ≡ b → (y : _) × In y (z ∷ zs) × (p y ≡ true) × (cond b (Some z) (find p zs) ≡ Some y)) [
      | true ↦ λ is. (z, inl refl, is, refl)
      | false ↦ λ is. ⊎_elim
          (λ (e : z ≡ x). absurd (true≢false (sym (ap p e ∙ pass) ∙ is)))
          (λ (more : In x zs). let r = find_some p zs x more pass in (r.0, inr r.1, r.2, r.3)) at
    ]) refl

pub find_none : {X : Type 0} (p : X → Bool) (xs : List X) → ((x : X) → In x xs → p x ≡ false) → find p xs ≡ None
find_none p [] none = refl
find_none p (x ∷ xs) none = ap (λ (b : Bool). cond b (Some x) (find p xs)) (none x (inl refl)) ∙ find_none p xs (λ y at. none y (inr at))

pub in_of_range : {X : Type 0} (F : ℕ → List X) (first n : ℕ) (x : X) → In x (flat_map F (range_with_len first n)) → (i : ℕ) × (first ≤ i) × (i < first + n) × In x (F i)
in_of_range F first zero x at = absurd at
in_of_range F first (suc n) x at =
    ⊎_elim
    (λ (here : In x (F first)). (first, omega arith, omega arith, here))
    (λ (later : In x (flat_map F (range_with_len (first + 1) n))). let r = in_of_range F (first + 1) n x later in let low = r.1 in let high = r.2 in (r.0, omega arith, omega arith, r.3))
    (in_append_cases (F first) (flat_map F (range_with_len (first + 1) n)) x at)

pub in_range : {X : Type 0} (F : ℕ → List X) (first n i : ℕ) (x : X) → first ≤ i → i < first + n → In x (F i) → In x (flat_map F (range_with_len first n))
in_range F first zero i x low high at = absurd (omega arith)
in_range F first (suc n) i x low high at =
    ⊎_elim
    (λ (e : first ≡ i). in_append_left (F first) (flat_map F (range_with_len (first + 1) n)) x (subst (λ j. In x (F j)) (sym e) at))
    (λ (lt : first < i). in_append_right (F first) (flat_map F (range_with_len (first + 1) n)) x (in_range F (first + 1) n i x (omega arith) (omega arith) at))
    (eq-or-lt_of_le low)
