-- Lists that are filtered, and what is found in them.
use Rattle.std.proofs.Common.{◌≡◌, ℕ, zero, suc, ◌+◌, Bool, true, false, cond, List, [], ◌∷◌, ◌++◌, map, refl, sym, ap, ◌∙◌, arith, Option, Some, None, IfSome}
use Rattle.std.specs.Prelude.{filter, filter_map, find, flat_map}
use Rattle.std.specs.List.{cons_option, range_with_len}
use Rattle.std.proofs.lemmas.Bool.{false_from_ne_true}
use Rattle.std.proofs.lemmas.List.Elements.{filter-append}
use Rattle.bc_base.specs.Lists.{Each, list_at}
use Rattle.bc_base.proofs.Lists.{each_append}

-- ---- what holds of each element

pub each_filter : {X : Type 0} (P : X → Type 0) (p : X → Bool) (xs : List X) → Each P xs → Each P (filter p xs)
each_filter P p [] each = tt
each_filter P p (x ∷ xs) each =
    elim (p x) as (λ (b : Bool). Each P (cond b (x ∷ filter p xs) (filter p xs))) [
      | true ↦ (each.0, each_filter P p xs each.1)
      | false ↦ each_filter P p xs each.1
    ]

pub each_weaker : {X : Type 0} (P Q : X → Type 0) → ((x : X) → P x → Q x) → (xs : List X) → Each P xs → Each Q xs
each_weaker P Q f [] each = tt
each_weaker P Q f (x ∷ xs) each = (f x each.0, each_weaker P Q f xs each.1)

pub each_flat : {X : Type 0} (P : X → Type 0) (xss : List (List X)) → ((i : ℕ) → Each P (list_at xss i)) → Each P (flat_map (λ xs. xs) xss)
each_flat P [] each = tt
each_flat P (xs ∷ xss) each = each_append P xs (flat_map (λ ys. ys) xss) (each 0) (each_flat P xss (λ i. each (suc i)))

-- what is found is one of them
pub found : {X : Type 0} (P : X → Type 0) (p : X → Bool) (xs : List X) → Each P xs → IfSome (find p xs) P
found P p [] each = tt
found P p (x ∷ xs) each =
    elim (p x) as (λ (b : Bool). IfSome (cond b (Some x) (find p xs)) P) [
      | true ↦ each.0
      | false ↦ found P p xs each.1
    ]

each_cons : {X : Type 0} (P : X → Type 0) (o : Option X) (xs : List X) → IfSome o P → Each P xs → Each P (cons_option o xs)
each_cons P None xs here each = each
each_cons P (Some x) xs here each = (here, each)

pub each_filter_map : {X Y : Type 0} (P : Y → Type 0) (f : X → Option Y) → ((x : X) → IfSome (f x) P) → (xs : List X) → Each P (filter_map f xs)
each_filter_map P f all [] = tt
each_filter_map P f all (x ∷ xs) = each_cons P (f x) (filter_map f xs) (all x) (each_filter_map P f all xs)

-- ---- filters

pub filter_all : {X : Type 0} (p : X → Bool) → ((x : X) → p x ≡ true) → (xs : List X) → filter p xs ≡ xs
filter_all p all [] = refl
filter_all p all (x ∷ xs) =
    ap (λ (b : Bool). cond b (x ∷ filter p xs) (filter p xs)) (all x) ∙ ap (λ (l : List _). x ∷ l) (filter_all p all xs)

pub filter_none : {X : Type 0} (p : X → Bool) (xs : List X) → Each (λ x. p x ≡ false) xs → filter p xs ≡ []
filter_none p [] none = refl
filter_none p (x ∷ xs) none =
    ap (λ (b : Bool). cond b (x ∷ filter p xs) (filter p xs)) none.0 ∙ filter_none p xs none.1

-- what passes one test passes the other, which then takes nothing more away
pub filter_within : {X : Type 0} (p q : X → Bool) → ((x : X) → p x ≡ true → q x ≡ true) → (xs : List X) → filter p (filter q xs) ≡ filter p xs
filter_within p q within [] = refl
filter_within {X} p q within (x ∷ xs) =
    (elim (q x) as (λ (b : Bool). q x ≡ b → filter p (cond b (x ∷ filter q xs) (filter q xs)) ≡ cond (p x) (x ∷ filter p xs) (filter p xs)) [
      | true ↦ λ is. ap (λ (l : List X). cond (p x) (x ∷ l) l) (filter_within p q within xs)
      | false ↦ λ is.
          let fails : p x ≡ false = false_from_ne_true (p x) (λ passes. let e : true ≡ false = sym (within x passes) ∙ is in cc) in
          filter_within p q within xs ∙ sym (ap (λ (b : Bool). cond b (x ∷ filter p xs) (filter p xs)) fails)
    ]) refl

filter_flat_none : {X : Type 0} (p : X → Bool) (xss : List (List X)) → ((i : ℕ) → Each (λ x. p x ≡ false) (list_at xss i)) → filter p (flat_map (λ xs. xs) xss) ≡ []
filter_flat_none p xss none = filter_none p (flat_map (λ xs. xs) xss) (each_flat (λ x. p x ≡ false) xss none)

-- where no other list of a list has what passes, all that passes is one list's
pub filter_flat : {X : Type 0} (p : X → Bool) (xss : List (List X)) (t : ℕ)
    → ((i : ℕ) → (i ≡ t → ⊥) → Each (λ x. p x ≡ false) (list_at xss i))
    → filter p (flat_map (λ xs. xs) xss) ≡ filter p (list_at xss t)
filter_flat p [] t none = refl
filter_flat {X} p (xs ∷ xss) zero none =
    filter-append p xs (flat_map (λ ys. ys) xss)
    ∙ ap (λ (l : List X). filter p xs ++ l) (filter_flat_none p xss (λ i. none (suc i) (λ e. omega arith)))
    ∙ append_none (filter p xs)
  where
    append_none : (ys : List X) → ys ++ [] ≡ ys
    append_none [] = refl
    append_none (y ∷ ys) = ap (λ (l : List X). y ∷ l) (append_none ys)
filter_flat {X} p (xs ∷ xss) (suc t) none =
    filter-append p xs (flat_map (λ ys. ys) xss)
    ∙ ap (λ (l : List X). l ++ filter p (flat_map (λ ys. ys) xss)) (filter_none p xs (none 0 (λ e. omega arith)))
    ∙ filter_flat p xss t (λ i other. none (suc i) (λ e. other (omega arith)))

-- ---- what is made of the elements, where there is something

same_kept : {Y : Type 0} (p : Y → Bool) (o : Option Y) (xs ys : List Y) → filter p xs ≡ filter p ys → filter p (cons_option o xs) ≡ filter p (cons_option o ys)
same_kept p None xs ys same = same
same_kept {Y} p (Some y) xs ys same = ap (λ (l : List Y). cond (p y) (y ∷ l) l) same

left_out : {Y : Type 0} (p : Y → Bool) (o : Option Y) (xs : List Y) → IfSome o (λ y. p y ≡ false) → filter p (cons_option o xs) ≡ filter p xs
left_out p None xs fails = refl
left_out p (Some y) xs fails = ap (λ (b : Bool). cond b (y ∷ filter p xs) (filter p xs)) fails

-- from elements that don't pass the second test nothing is made that passes the first
pub filter_map_within : {X Y : Type 0} (p : Y → Bool) (q : X → Bool) (f : X → Option Y)
    → ((x : X) → q x ≡ false → IfSome (f x) (λ y. p y ≡ false)) → (xs : List X)
    → filter p (filter_map f xs) ≡ filter p (filter_map f (filter q xs))
filter_map_within p q f none [] = refl
filter_map_within p q f none (x ∷ xs) =
    (elim (q x) as (λ (b : Bool). q x ≡ b → filter p (cons_option (f x) (filter_map f xs)) ≡ filter p (filter_map f (cond b (x ∷ filter q xs) (filter q xs)))) [
      | true ↦ λ is. same_kept p (f x) (filter_map f xs) (filter_map f (filter q xs)) (filter_map_within p q f none xs)
      | false ↦ λ is. left_out p (f x) (filter_map f xs) (none x is) ∙ filter_map_within p q f none xs
    ]) refl

-- of each name the element is made that it is the name of
pub filter_map_names : {X N : Type 0} (f : N → Option X) (name : X → N) (xs : List X) → Each (λ x. f (name x) ≡ Some x) xs → filter_map f (map name xs) ≡ xs
filter_map_names f name [] each = refl
filter_map_names {X} f name (x ∷ xs) each =
    ap (λ (o : Option X). cons_option o (filter_map f (map name xs))) each.0 ∙ ap (λ (l : List X). x ∷ l) (filter_map_names f name xs each.1)

-- ---- lists that are made from numbers

-- what holds of each that is made, and of no elements, holds at each place
pub at_range : {A B : Type 0} (P : ℕ → List B → Type 0) (g : A → List B) (f : ℕ → A) → ((t : ℕ) → P t (g (f t))) → ((t : ℕ) → P t [])
    → (first n i t : ℕ) → first + i ≡ t → P t (list_at (map g (map f (range_with_len first n))) i)
at_range P g f made none first zero i t is = none t
at_range {A} {B} P g f made none first (suc n) zero t is =
    let e : t ≡ first = omega arith in rw e (made first)
at_range P g f made none first (suc n) (suc i) t is = at_range P g f made none (first + 1) n i t (omega arith)
