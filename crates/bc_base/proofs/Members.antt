-- Membership, facts of each element, tests and filters of lists.
use Rattle.std.proofs.Common.{◌≡◌, List, [], ◌∷◌, map, refl, ap, ◌⊎◌, ◌+◌, inl, inr, ◌++◌, Bool, true, false, cond, sym, ◌∙◌, subst, ℕ, zero, suc, set, length, arith, ◌-◌, ◌<◌, get_or}
use Rattle.std.proofs.Math.Logic.{⊎_elim}
use Rattle.std.specs.Prelude.{filter, flat_map, ◌||◌, sum}
use Rattle.std.specs.List.{AllZip, list_any, AllByRecursion, range_with_len}
use Rattle.std.proofs.lemmas.Bool.{true≢false}
use Rattle.std.proofs.lemmas.Option.{none-some}
use Rattle.bc_base.specs.Lists.{At}
use Rattle.std.proofs.lemmas.List.Sums.{sum_by-set}

pub map-map : {A B C : Type 0} (f : A → B) (g : B → C) (xs : List A) → map g (map f xs) ≡ map (λ x. g (f x)) xs
map-map f g [] = refl
map-map f g (x ∷ xs) = ap (λ l. g (f x) ∷ l) (map-map f g xs)

-- x is an element
abbrev pub In : {X : Type 0} → X → List X → Type 0
In x [] = ⊥
In x (y ∷ ys) = (y ≡ x) ⊎ In x ys

pub in_append_left : {X : Type 0} (xs ys : List X) (x : X) → In x xs → In x (xs ++ ys)
in_append_left [] ys x at = absurd at
in_append_left (z ∷ zs) ys x at = ⊎_elim (λ (e : z ≡ x). inl e) (λ (more : In x zs). inr (in_append_left zs ys x more)) at

pub in_append_right : {X : Type 0} (xs ys : List X) (x : X) → In x ys → In x (xs ++ ys)
in_append_right [] ys x at = at
in_append_right (z ∷ zs) ys x at = inr (in_append_right zs ys x at)

pub in_append_cases : {X : Type 0} (xs ys : List X) (x : X) → In x (xs ++ ys) → In x xs ⊎ In x ys
in_append_cases [] ys x at = inr at
in_append_cases (z ∷ zs) ys x at =
    ⊎_elim (λ (e : z ≡ x). inl (inl e))
    (λ (more : In x (zs ++ ys)). ⊎_elim (λ (l : In x zs). inl (inr l)) (λ (r : In x ys). inr r) (in_append_cases zs ys x more)) at

pub in_of_map : {X Y : Type 0} (f : X → Y) (xs : List X) (y : Y) → In y (map f xs) → (x : X) × In x xs × (f x ≡ y)
in_of_map f [] y at = absurd at
in_of_map f (x ∷ xs) y at =
    ⊎_elim (λ (e : f x ≡ y). (x, inl refl, e))
    (λ (more : In y (map f xs)). let r = in_of_map f xs y more in (r.0, inr r.1, r.2)) at

pub in_of_filter : {X : Type 0} (p : X → Bool) (xs : List X) (x : X) → In x (filter p xs) → In x xs × (p x ≡ true)
in_of_filter p [] x at = absurd at
in_of_filter p (y ∷ ys) x at =
    (elim (p y) as (λ (b : Bool). p y ≡ b → In x (cond b (y ∷ filter p ys) (filter p ys)) → In x (y ∷ ys) × (p x ≡ true)) [
      | true ↦ λ is here. ⊎_elim
          (λ (e : y ≡ x). (inl e, sym (ap p e) ∙ is))
          (λ (more : In x (filter p ys)). let r = in_of_filter p ys x more in (inr r.0, r.1)) here
      | false ↦ λ is here. let r = in_of_filter p ys x here in (inr r.0, r.1)
    ]) refl at

pub in_of_flat_map : {X Y : Type 0} (f : X → List Y) (xs : List X) (y : Y) → In y (flat_map f xs) → (x : X) × In x xs × In y (f x)
in_of_flat_map f [] y at = absurd at
in_of_flat_map f (x ∷ xs) y at =
    ⊎_elim (λ (here : In y (f x)). (x, inl refl, here))
    (λ (more : In y (flat_map f xs)). let r = in_of_flat_map f xs y more in (r.0, inr r.1, r.2)) (in_append_cases (f x) (flat_map f xs) y at)

-- what stands beside an element
pub beside : {X Y : Type 0} (R : X → Y → Type 0) (xs : List X) (ys : List Y) (y : Y) → AllZip R xs ys → In y ys → (x : X) × In x xs × R x y
beside R [] [] y all at = absurd at
beside R [] (z ∷ zs) y all at = absurd all
beside R (x ∷ xs) [] y all at = absurd at
beside R (x ∷ xs) (z ∷ zs) y all at =
    ⊎_elim (λ (e : z ≡ y). (x, inl refl, subst (R x) e all.0))
    (λ (more : In y zs). let r = beside R xs zs y all.1 more in (r.0, inr r.1, r.2)) at

pub any_in : {X : Type 0} (p : X → Bool) (xs : List X) → list_any p xs ≡ true → (x : X) × In x xs × (p x ≡ true)
any_in p [] e = absurd (true≢false (sym e))
any_in p (x ∷ xs) e =
    (elim (p x) as (λ (b : Bool). p x ≡ b → list_any p (x ∷ xs) ≡ true → (y : _) × In y (x ∷ xs) × (p y ≡ true)) [
      | true ↦ λ is _. (x, inl refl, is)
      | false ↦ λ is any. let r = any_in p xs (sym (ap (λ (b : Bool). b || list_any p xs) is) ∙ any) in (r.0, inr r.1, r.2)
    ]) refl e

pub any_from : {X : Type 0} (p : X → Bool) (xs : List X) (x : X) → In x xs → p x ≡ true → list_any p xs ≡ true
any_from p [] x at pass = absurd at
any_from p (y ∷ ys) x at pass =
    ⊎_elim
    (λ (e : y ≡ x). ap (λ (b : Bool). b || list_any p ys) (ap p e ∙ pass))
    (λ (more : In x ys). ap (λ (b : Bool). p y || b) (any_from p ys x more pass) ∙ or_true (p y))
    at
  where
    or_true : (b : Bool) → (b || true) ≡ true
    or_true true = refl
    or_true false = refl

-- two tests that come true together are one
pub same_tests : (a b : Bool) → (a ≡ true → b ≡ true) → (b ≡ true → a ≡ true) → a ≡ b
same_tests true b f g = sym (f refl)
same_tests false true f g = absurd (true≢false (sym (g refl)))
same_tests false false f g = refl

-- two tests that agree on the elements keep the same ones
pub filter_same_in : {X : Type 0} (p q : X → Bool) (xs : List X) → ((x : X) → In x xs → p x ≡ q x) → filter p xs ≡ filter q xs
filter_same_in p q [] same = refl
filter_same_in p q (x ∷ xs) same =
    ap (λ (b : Bool). cond b (x ∷ filter p xs) (filter p xs)) (same x (inl refl))
    ∙ ap (λ (l : List _). cond (q x) (x ∷ l) l) (filter_same_in p q xs (λ y at. same y (inr at)))

pub all_at : {X : Type 0} (P : X → Type 0) (xs : List X) (x : X) → AllByRecursion P xs → In x xs → P x
all_at P [] x all at = absurd at
all_at P (y ∷ ys) x all at = ⊎_elim (λ (e : y ≡ x). subst P e all.0) (λ (more : In x ys). all_at P ys x all.1 more) at

pub all_from_in : {X : Type 0} (P : X → Type 0) (xs : List X) → ((x : X) → In x xs → P x) → AllByRecursion P xs
all_from_in P [] f = tt
all_from_in P (x ∷ xs) f = (f x (inl refl), all_from_in P xs (λ y at. f y (inr at)))

pub all_append : {A : Type 0} (P : A → Type 0) (xs ys : List A) → AllByRecursion P xs → AllByRecursion P ys → AllByRecursion P (xs ++ ys)
all_append P [] ys ps qs = qs
all_append P (x ∷ xs) ys ps qs = (ps.0, all_append P xs ys ps.1 qs)

pub all_of : {A : Type 0} (P Q : A → Type 0) (xs : List A) → ((x : A) → P x → Q x) → AllByRecursion P xs → AllByRecursion Q xs
all_of P Q [] f all = tt
all_of P Q (x ∷ xs) f all = (f x all.0, all_of P Q xs f all.1)

pub at_set : {A : Type 0} (xs : List A) (k : ℕ) (x y : A) → At xs k x → At (set xs k y) k y
at_set [] k x y at = absurd (none-some x at)
at_set (z ∷ xs) zero x y at = refl
at_set (z ∷ xs) (suc k) x y at = at_set xs k x y at

pub length-set : {A : Type 0} (xs : List A) (k : ℕ) (y : A) → length (set xs k y) ≡ length xs
length-set [] k y = refl
length-set (x ∷ xs) zero y = refl
length-set (x ∷ xs) (suc k) y = ap suc (length-set xs k y)

pub range_push : (n m : ℕ) → range_with_len n (m + 1) ≡ range_with_len n m ++ (n + m) ∷ []
range_push n zero = ap (λ (k : ℕ). k ∷ []) (sym (none n))
  where
    none : (n : ℕ) → n + 0 ≡ n
    none n = omega arith
range_push n (suc m) =
    ap (range_with_len n) (plus m)
    ∙ ap (λ (l : List ℕ). n ∷ l) (range_push (n + 1) m ∙ ap (λ (k : ℕ). range_with_len (n + 1) m ++ k ∷ []) (over n m))
  where
    plus : (m : ℕ) → suc m + 1 ≡ suc (m + 1)
    plus m = omega arith

    over : (n m : ℕ) → n + 1 + m ≡ n + suc m
    over n m = omega arith

pub zip_append : {X Y : Type 0} (R : X → Y → Type 0) (xs xs' : List X) (ys ys' : List Y) → AllZip R xs ys → AllZip R xs' ys' → AllZip R (xs ++ xs') (ys ++ ys')
zip_append R [] xs' [] ys' p q = q
zip_append R [] xs' (y ∷ ys) ys' p q = absurd p
zip_append R (x ∷ xs) xs' [] ys' p q = absurd p
zip_append R (x ∷ xs) xs' (y ∷ ys) ys' p q = (p.0, zip_append R xs xs' ys ys' p.1 q)

pub zip_length : {X Y : Type 0} (R : X → Y → Type 0) (xs : List X) (ys : List Y) → AllZip R xs ys → length ys ≡ length xs
zip_length R [] [] all = refl
zip_length R [] (y ∷ ys) all = absurd all
zip_length R (x ∷ xs) [] all = absurd all
zip_length R (x ∷ xs) (y ∷ ys) all = ap suc (zip_length R xs ys all.1)

pub sum-set : (q : List ℕ) (i v : ℕ) → i < length q → sum (set q i v) + get_or q i 0 ≡ sum q + v
sum-set q i v l = sum_by-set (λ x. x) q i v 0 l
