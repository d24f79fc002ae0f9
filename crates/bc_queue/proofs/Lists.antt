-- Places, maps and zips of lists, and ranges of numbers.
use Rattle.std.proofs.Common.{◌≡◌, ◌≢◌, ℕ, zero, suc, ◌+◌, ◌-◌, ◌<◌, ◌≤◌, ◌⊎◌, inl, inr, Bool, true, false, cond, List, [], ◌∷◌, ◌++◌, length, map, set, get_or, refl, sym, ap, ◌∙◌, arith}
use Rattle.std.specs.Prelude.{filter, slice_get, zip}
use Rattle.std.specs.Option.{option_map}
use Rattle.std.specs.List.{AllZip, range_with_len}
use Rattle.std.proofs.Math.Logic.{⊎_elim}
use Rattle.std.proofs.lemmas.Option.{none-some, same_Some}
use Rattle.bc_base.specs.Lists.{At, Each}

-- ---- places

pub at_append : {A : Type 0} (xs ys : List A) (k : ℕ) (x : A) → At xs k x → At (xs ++ ys) k x
at_append [] ys k x at = absurd (none-some x at)
at_append (z ∷ xs) ys zero x at = at
at_append (z ∷ xs) ys (suc k) x at = at_append xs ys k x at

pub at_end : {A : Type 0} (xs : List A) (x : A) → At (xs ++ x ∷ []) (length xs) x
at_end [] x = refl
at_end (z ∷ xs) x = at_end xs x

pub get_set_other : {A : Type 0} (xs : List A) (k j : ℕ) (y : A) → j ≢ k → slice_get (set xs k y) j ≡ slice_get xs j
get_set_other [] k j y other = refl
get_set_other (x ∷ xs) zero zero y other = absurd (other refl)
get_set_other (x ∷ xs) zero (suc j) y other = refl
get_set_other (x ∷ xs) (suc k) zero y other = refl
get_set_other (x ∷ xs) (suc k) (suc j) y other = get_set_other xs k j y (λ same. other (ap suc same))

pub get_or_set_other : {A : Type 0} (xs : List A) (k j : ℕ) (y d : A) → j ≢ k → get_or (set xs k y) j d ≡ get_or xs j d
get_or_set_other [] k j y d other = refl
get_or_set_other (x ∷ xs) zero zero y d other = absurd (other refl)
get_or_set_other (x ∷ xs) zero (suc j) y d other = refl
get_or_set_other (x ∷ xs) (suc k) zero y d other = refl
get_or_set_other (x ∷ xs) (suc k) (suc j) y d other = get_or_set_other xs k j y d (λ same. other (ap suc same))

-- an element that was set is there, or there is no such place
pub get_or_set : {A : Type 0} (xs : List A) (k : ℕ) (y d : A) → (get_or (set xs k y) k d ≡ y) ⊎ (set xs k y ≡ xs)
get_or_set [] k y d = inr refl
get_or_set (x ∷ xs) zero y d = inl refl
get_or_set (x ∷ xs) (suc k) y d =
    ⊎_elim (λ (here : get_or (set xs k y) k d ≡ y). inl here) (λ (same : set xs k y ≡ xs). inr (ap (λ l. x ∷ l) same)) (get_or_set xs k y d)

-- ---- maps

pub map-set : {A B : Type 0} (f : A → B) (xs : List A) (k : ℕ) (y : A) → map f (set xs k y) ≡ set (map f xs) k (f y)
map-set f [] k y = refl
map-set f (x ∷ xs) zero y = refl
map-set f (x ∷ xs) (suc k) y = ap (λ l. f x ∷ l) (map-set f xs k y)

pub map-set_same : {A B : Type 0} (f : A → B) (xs : List A) (k : ℕ) (x y : A) → At xs k x → f y ≡ f x → map f (set xs k y) ≡ map f xs
map-set_same f [] k x y at same = refl
map-set_same f (z ∷ xs) zero x y at same = ap (λ w. w ∷ map f xs) (same ∙ sym (ap f (same_Some z x at)))
map-set_same f (z ∷ xs) (suc k) x y at same = ap (λ l. f z ∷ l) (map-set_same f xs k x y at same)

pub get_map : {A B : Type 0} (f : A → B) (xs : List A) (k : ℕ) → slice_get (map f xs) k ≡ option_map f (slice_get xs k)
get_map f [] k = refl
get_map f (x ∷ xs) zero = refl
get_map f (x ∷ xs) (suc k) = get_map f xs k

pub get_or_map : {A B : Type 0} (f : A → B) (xs : List A) (k : ℕ) (x : A) (d : B) → At xs k x → get_or (map f xs) k d ≡ f x
get_or_map f [] k x d at = absurd (none-some x at)
get_or_map f (z ∷ xs) zero x d at = ap f (same_Some z x at)
get_or_map f (z ∷ xs) (suc k) x d at = get_or_map f xs k x d at

-- ---- two lists beside each other

pub zip_more : {X Y : Type 0} (P : X → Type 0) (R S : X → Y → Type 0) (xs : List X) (ys : List Y) → ((x : X) (y : Y) → P x → R x y → S x y) → Each P xs → AllZip R xs ys → AllZip S xs ys
zip_more P R S [] [] f each all = tt
zip_more P R S [] (y ∷ ys) f each all = absurd all
zip_more P R S (x ∷ xs) [] f each all = absurd all
zip_more P R S (x ∷ xs) (y ∷ ys) f each all = (f x y each.0 all.0, zip_more P R S xs ys f each.1 all.1)

pub pairs_append : {X Y : Type 0} (R : X → Y → Type 0) (xs xs' : List X) (ys ys' : List Y) → AllZip R xs ys → zip (xs ++ xs') (ys ++ ys') ≡ zip xs ys ++ zip xs' ys'
pairs_append R [] xs' [] ys' all = refl
pairs_append R [] xs' (y ∷ ys) ys' all = absurd all
pairs_append R (x ∷ xs) xs' [] ys' all = absurd all
pairs_append R (x ∷ xs) xs' (y ∷ ys) ys' all = ap (λ l. (x, y) ∷ l) (pairs_append R xs xs' ys ys' all.1)

-- ---- ranges

-- a range is a shorter one and what follows it
pub range_split : (first n m : ℕ) → range_with_len first (n + m) ≡ range_with_len first n ++ range_with_len (first + n) m
range_split first zero m = ap₂' (range_with_len) (none first) (zero_plus m)
  where
    none : (k : ℕ) → k ≡ k + 0
    none k = omega arith

    zero_plus : (k : ℕ) → 0 + k ≡ k
    zero_plus k = omega arith

    ap₂' : (f : ℕ → ℕ → List ℕ) {a b c d : ℕ} → a ≡ b → c ≡ d → f a c ≡ f b d
    ap₂' f {a} {b} {c} {d} p q = ap (λ x. f x c) p ∙ ap (f b) q
range_split first (suc n) m =
    ap (range_with_len first) (plus n m)
    ∙ ap (λ (l : List ℕ). first ∷ l) (range_split (first + 1) n m ∙ ap (λ k. range_with_len (first + 1) n ++ range_with_len k m) (over first n))
  where
    plus : (n m : ℕ) → suc n + m ≡ suc (n + m)
    plus n m = omega arith

    over : (a n : ℕ) → a + 1 + n ≡ a + suc n
    over a n = omega arith

pub each_filter : {X : Type 0} (P : X → Type 0) (p : X → Bool) (xs : List X) → Each P xs → Each P (filter p xs)
each_filter P p [] each = tt
each_filter P p (x ∷ xs) each = keep (p x) (each_filter P p xs each.1)
  where
    keep : (b : Bool) → Each P (filter p xs) → Each P (cond b (x ∷ filter p xs) (filter p xs))
    keep true rest = (each.0, rest)
    keep false rest = rest

pub each_range : (P : ℕ → Type 0) (first n : ℕ) → ((k : ℕ) → first ≤ k → k < first + n → P k) → Each P (range_with_len first n)
each_range P first zero all = tt
each_range P first (suc n) all = (all first (omega arith) (omega arith), each_range P (first + 1) n (λ k from below. all k (omega (arith, from)) (omega (arith, below))))

pub filter_same : {X : Type 0} (p q : X → Bool) (xs : List X) → Each (λ x. p x ≡ q x) xs → filter p xs ≡ filter q xs
filter_same p q [] each = refl
filter_same p q (x ∷ xs) each =
    ap (λ (b : Bool). cond b (x ∷ filter p xs) (filter p xs)) each.0
    ∙ ap (λ l. cond (q x) (x ∷ l) l) (filter_same p q xs each.1)
