-- Membership, facts of each element, and places of lists.
use Rattle.std.proofs.Common.{Option, Some, None, ◌≡◌, ℕ, zero, suc, ◌+◌, ◌<◌, ◌≤◌, ◌⊎◌, inl, inr, Bool, true, false, cond, List, [], ◌∷◌, ◌++◌, length, map, take, set, get_or, refl, sym, ap, subst, ◌∙◌, arith}
use Rattle.std.specs.Prelude.{◌==◌, filter, filter_map, flat_map, slice_get}
use Rattle.std.specs.List.{AllZip, AllByRecursion, list_any, enumerate_from, range_with_len, cons_option}
use Rattle.std.proofs.Math.Logic.{⊎_elim}
use Rattle.std.proofs.lemmas.Bool.{eq-eqb, eqb-true, false_from_ne_true}
use Rattle.std.proofs.lemmas.Option.{none-some, same_Some, get_or_from_slice_get}
use Rattle.std.proofs.lemmas.List.{take_more, length-take}
use Rattle.bc_base.specs.Lists.{At, EachFrom, list_at}
use Rattle.bc_base.proofs.Members.{In, any_in, any_from}

-- ---- membership

-- ---- filters

pub filter_all : {X : Type 0} (p : X → Bool) (xs : List X) → ((x : X) → In x xs → p x ≡ true) → filter p xs ≡ xs
filter_all p [] all = refl
filter_all p (x ∷ xs) all =
    ap (λ (b : Bool). cond b (x ∷ filter p xs) (filter p xs)) (all x (inl refl)) ∙ ap (λ (l : List _). x ∷ l) (filter_all p xs (λ y at. all y (inr at)))

pub filter_none : {X : Type 0} (p : X → Bool) (xs : List X) → ((x : X) → In x xs → p x ≡ false) → filter p xs ≡ []
filter_none p [] none = refl
filter_none p (x ∷ xs) none =
    ap (λ (b : Bool). cond b (x ∷ filter p xs) (filter p xs)) (none x (inl refl)) ∙ filter_none p xs (λ y at. none y (inr at))

-- ---- facts of each element

pub all_take : {A : Type 0} (P : A → Type 0) (xs : List A) (n : ℕ) → AllByRecursion P xs → AllByRecursion P (take n xs)
all_take P xs zero all = tt
all_take P [] (suc n) all = tt
all_take P (x ∷ xs) (suc n) all = (all.0, all_take P xs n all.1)

pub all_read : {A : Type 0} (P : A → Type 0) (xs : List A) (i : ℕ) (x : A) → AllByRecursion P xs → i < length xs → x ≡ get_or xs i x → P x
all_read P [] i x all lt e = absurd (omega arith)
all_read P (y ∷ ys) zero x all lt e = subst P (sym e) all.0
all_read P (y ∷ ys) (suc i) x all lt e = all_read P ys i x all.1 (omega arith) e

pub all_slice : {A : Type 0} (P : A → Type 0) (xs : List A) (i : ℕ) (x : A) → AllByRecursion P xs → slice_get xs i ≡ Some x → P x
all_slice P [] i x all at = absurd (none-some x at)
all_slice P (y ∷ ys) zero x all at = subst P (same_Some y x at) all.0
all_slice P (y ∷ ys) (suc i) x all at = all_slice P ys i x all.1 at

pub all_by_place : {A : Type 0} (P : A → Type 0) (xs : List A) → ((k : ℕ) (x : A) → slice_get xs k ≡ Some x → P x) → AllByRecursion P xs
all_by_place P [] f = tt
all_by_place P (x ∷ xs) f = (f 0 x refl, all_by_place P xs (λ k y at. f (suc k) y at))

pub zip_more : {A B : Type 0} (R S : A → B → Type 0) (xs : List A) (ys : List B) → ((x : A) (y : B) → R x y → S x y) → AllZip R xs ys → AllZip S xs ys
zip_more R S [] [] f all = tt
zip_more R S [] (y ∷ ys) f all = absurd all
zip_more R S (x ∷ xs) [] f all = absurd all
zip_more R S (x ∷ xs) (y ∷ ys) f all = (f x y all.0, zip_more R S xs ys f all.1)

-- each at its place, and one more
pub from_append : {A : Type 0} (P : ℕ → A → Type 0) (n : ℕ) (xs : List A) (y : A) → EachFrom P n xs → P (n + length xs) y → EachFrom P n (xs ++ y ∷ [])
from_append P n [] y all last = (subst (λ k. P k y) (plus_none n) last, tt)
  where
    plus_none : (n : ℕ) → n + 0 ≡ n
    plus_none n = omega arith
from_append P n (x ∷ xs) y all last = (all.0, from_append P (n + 1) xs y all.1 (subst (λ k. P k y) (over n (length xs)) last))
  where
    over : (n m : ℕ) → n + suc m ≡ n + 1 + m
    over n m = omega arith

-- ---- places

-- what stands in a list of which one element changed
pub at_changed : {A : Type 0} (xs : List A) (k j : ℕ) (y z : A) → At (set xs k y) j z → ((j ≡ k) × (z ≡ y)) ⊎ At xs j z
at_changed [] k j y z at = absurd (none-some z at)
at_changed (x ∷ xs) zero zero y z at = inl (refl, sym (same_Some y z at))
at_changed (x ∷ xs) zero (suc j) y z at = inr at
at_changed (x ∷ xs) (suc k) zero y z at = inr at
at_changed (x ∷ xs) (suc k) (suc j) y z at =
    ⊎_elim (λ (here : (j ≡ k) × (z ≡ y)). inl (ap suc here.0, here.1)) (λ (other : At xs j z). inr other) (at_changed xs k j y z at)

pub at_one : {A : Type 0} (xs : List A) (k : ℕ) (x y : A) → At xs k x → At xs k y → x ≡ y
at_one xs k x y p q = same_Some x y (sym p ∙ q)

pub at_map : {A B : Type 0} (f : A → B) (xs : List A) (k : ℕ) (x : A) → At xs k x → At (map f xs) k (f x)
at_map f [] k x at = absurd (none-some x at)
at_map f (y ∷ ys) zero x at = ap (λ (z : _). Some (f z)) (same_Some y x at)
at_map f (y ∷ ys) (suc k) x at = at_map f ys k x at

pub at_of_map : {A B : Type 0} (f : A → B) (xs : List A) (k : ℕ) (y : B) → At (map f xs) k y → (x : A) × At xs k x × (f x ≡ y)
at_of_map f [] k y at = absurd (none-some y at)
at_of_map f (x ∷ xs) zero y at = (x, refl, same_Some (f x) y at)
at_of_map f (x ∷ xs) (suc k) y at = at_of_map f xs k y at

pub at_exists : {A : Type 0} (xs : List A) (k : ℕ) → k < length xs → (x : A) × At xs k x
at_exists [] k lt = absurd (omega arith)
at_exists (x ∷ xs) zero lt = (x, refl)
at_exists (x ∷ xs) (suc k) lt = at_exists xs k (omega arith)

pub list_at_map : {A B : Type 0} (f : A → List B) (xs : List A) (k : ℕ) (x : A) → At xs k x → list_at (map f xs) k ≡ f x
list_at_map f xs k x at = get_or_from_slice_get (map f xs) k (f x) [] (at_map f xs k x at)

pub list_at_left : {A : Type 0} (xs : List (List A)) (y : List A) (k : ℕ) → k < length xs → list_at (xs ++ y ∷ []) k ≡ list_at xs k
list_at_left [] y k lt = absurd (omega arith)
list_at_left (x ∷ xs) y zero lt = refl
list_at_left (x ∷ xs) y (suc k) lt = list_at_left xs y k (omega arith)

pub list_at_last : {A : Type 0} (xs : List (List A)) (y : List A) (k : ℕ) → k ≡ length xs → list_at (xs ++ y ∷ []) k ≡ y
list_at_last [] y k e = ap (λ (n : ℕ). list_at (y ∷ []) n) e
list_at_last (x ∷ xs) y zero e = absurd (omega arith)
list_at_last (x ∷ xs) y (suc k) e = list_at_last xs y k (omega arith)

pub list_at_past : {A : Type 0} (xs : List (List A)) (k : ℕ) → length xs ≤ k → list_at xs k ≡ []
list_at_past [] k le = refl
list_at_past (x ∷ xs) zero le = absurd (omega arith)
list_at_past (x ∷ xs) (suc k) le = list_at_past xs k (omega arith)

pub list_at_take : {A : Type 0} (xs : List (List A)) (n k : ℕ) → k < n → list_at (take n xs) k ≡ list_at xs k
list_at_take xs zero k lt = absurd (omega arith)
list_at_take [] (suc n) k lt = refl
list_at_take (x ∷ xs) (suc n) zero lt = refl
list_at_take (x ∷ xs) (suc n) (suc k) lt = list_at_take xs n k (omega arith)

-- lists by their places are the lists
pub by_places : {A B : Type 0} (f : List A → List B) (xs : List (List A)) → flat_map (λ k. f (list_at xs k)) (range_with_len 0 (length xs)) ≡ flat_map f xs
by_places f xs = go 0 xs (λ k. list_at xs k) (λ k lt. ap (list_at xs) (zero_first k))
  where
    zero_first : (n : ℕ) → 0 + n ≡ n
    zero_first n = omega arith

    next : (n m : ℕ) → n + suc m ≡ n + 1 + m
    next n m = omega arith

    zero_more : (n : ℕ) → n + 0 ≡ n
    zero_more n = omega arith

    go : (n : ℕ) (ys : List (List _)) (g : ℕ → List _) → ((k : ℕ) → k < length ys → g (n + k) ≡ list_at ys k) → flat_map (λ k. f (g k)) (range_with_len n (length ys)) ≡ flat_map f ys
    go n [] g same = refl
    go n (y ∷ ys) g same =
        ap (λ (l : List _). f l ++ flat_map (λ k. f (g k)) (range_with_len (n + 1) (length ys))) (ap g (sym (zero_more n)) ∙ same 0 (omega arith))
        ∙ ap (λ (l : List _). f y ++ l) (go (n + 1) ys g (λ k lt. ap g (sym (next n k)) ∙ same (suc k) (omega arith)))

-- ---- the next element

pub enumerate_push : {X : Type 0} (n : ℕ) (xs : List X) (y : X) → enumerate_from n (xs ++ y ∷ []) ≡ enumerate_from n xs ++ (n + length xs, y) ∷ []
enumerate_push {X} n [] y = ap (λ (k : ℕ). (k, y) ∷ []) (omega arith)
enumerate_push {X} n (x ∷ xs) y = ap (λ (l : List (ℕ × X)). (n, x) ∷ l) (enumerate_push (n + 1) xs y ∙ ap (λ (k : ℕ). enumerate_from (n + 1) xs ++ (k, y) ∷ []) (omega arith))

pub take_next : {X : Type 0} (xs : List X) (i : ℕ) (x : X) → i < length xs → x ≡ get_or xs i x → take (i + 1) xs ≡ take i xs ++ x ∷ []
take_next xs i x lt e = take_more xs i x lt ∙ ap (λ (y : _). take i xs ++ y ∷ []) (sym e)

pub take_within : {X : Type 0} (xs : List X) (n : ℕ) → n ≤ length xs → length (take n xs) ≡ n
take_within xs n le = omega (arith, length-take n xs)

pub each_of_map : {A B : Type 0} (f : A → B) (P : B → Type 0) (xs : List A) → AllByRecursion P (map f xs) → AllByRecursion (λ x. P (f x)) xs
each_of_map f P [] all = tt
each_of_map f P (x ∷ xs) all = (all.0, each_of_map f P xs all.1)

pub in_of_filter_map : {X Y : Type 0} (f : X → Option Y) (xs : List X) (y : Y) → In y (filter_map f xs) → (x : X) × In x xs × (f x ≡ Some y)
in_of_filter_map f [] y at' = absurd at'
in_of_filter_map f (x ∷ xs) y at' =
    (elim (f x) as (λ (o : Option _). f x ≡ o → In y (cons_option o (filter_map f xs)) → (z : _) × In z (x ∷ xs) × (f z ≡ Some y)) [
      | None ↦ λ is h. let r = in_of_filter_map f xs y h in (r.0, inr r.1, r.2)
      | Some w ↦ λ is h. ⊎_elim
          (λ (e : w ≡ y). (x, inl refl, is ∙ ap (λ v. Some v) e))
          (λ (more : In y (filter_map f xs)). let r = in_of_filter_map f xs y more in (r.0, inr r.1, r.2)) h
    ]) refl at'

-- a number is among these
pub is_in : (o : ℕ) (xs : List ℕ) → list_any (λ x. x == o) xs ≡ true → In o xs
is_in o xs any = let r = any_in (λ x. x == o) xs any in subst (λ (n : ℕ). In n xs) (eqb-true r.0 o r.2) r.1

pub in_is : (o : ℕ) (xs : List ℕ) → In o xs → list_any (λ x. x == o) xs ≡ true
in_is o xs at' = any_from (λ x. x == o) xs o at' (eq-eqb o o refl)

pub not_in_is : (o : ℕ) (xs : List ℕ) → (In o xs → ⊥) → list_any (λ x. x == o) xs ≡ false
not_in_is o xs none = false_from_ne_true (list_any (λ x. x == o) xs) (λ any. none (is_in o xs any))
