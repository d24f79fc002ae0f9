-- Lists that go beside one another; what stands in the lists of a list, and in lists that are made from numbered ones.
use Rattle.std.proofs.Common.{◌≡◌, ℕ, zero, suc, ◌+◌, ◌-◌, ◌<◌, ◌≤◌, inl, inr, List, [], ◌∷◌, length, refl, sym, ap, ◌∙◌, arith, Some}
use Rattle.std.specs.Prelude.{flat_map, slice_get, zip}
use Rattle.std.specs.List.{AllZip, enumerate_from}
use Rattle.std.proofs.Math.Logic.{⊎_elim}
use Rattle.std.proofs.lemmas.Option.{none-some, same_Some}
use Rattle.bc_base.specs.Lists.{list_at}
use Rattle.bc_base.proofs.Members.{In, in_append_left, in_append_right, in_append_cases}

-- ---- lists that go beside one another

pub zip_from_each : {X Y : Type 0} (R : ℕ × List X → List Y → Type 0) (first : ℕ) (xss : List (List X)) (yss : List (List Y)) → length yss ≡ length xss
    → ((i t : ℕ) → first + i ≡ t → i < length xss → R (t, list_at xss i) (list_at yss i)) → AllZip R (enumerate_from first xss) yss
zip_from_each R first [] [] same each = tt
zip_from_each R first [] (ys ∷ yss) same each = absurd (omega arith)
zip_from_each R first (xs ∷ xss) [] same each = absurd (omega arith)
zip_from_each R first (xs ∷ xss) (ys ∷ yss) same each =
    (each 0 first (omega arith) (omega arith), zip_from_each R (first + 1) xss yss (omega arith) (λ i t e lt. each (suc i) t (omega arith) (omega arith)))

pub zip_weaker : {X Y : Type 0} (R S : X → Y → Type 0) (xs : List X) (ys : List Y) → ((x : X) (y : Y) → In x xs → R x y → S x y) → AllZip R xs ys → AllZip S xs ys
zip_weaker R S [] [] f all = tt
zip_weaker R S [] (y ∷ ys) f all = absurd all
zip_weaker R S (x ∷ xs) [] f all = absurd all
zip_weaker R S (x ∷ xs) (y ∷ ys) f all = (f x y (inl refl) all.0, zip_weaker R S xs ys (λ z w at'. f z w (inr at')) all.1)

-- ---- lists of lists

-- each list stands at a number
pub stands_at : {X : Type 0} (xss : List (List X)) (xs : List X) → In xs xss → (s : ℕ) × (s < length xss) × (list_at xss s ≡ xs)
stands_at [] xs at' = absurd at'
stands_at (ys ∷ xss) xs at' =
    ⊎_elim (λ (e : ys ≡ xs). (0, omega arith, e))
    (λ (more : In xs xss). let r = stands_at xss xs more in let lt = r.1 in (suc r.0, omega arith, r.2)) at'

pub in_flat : {X : Type 0} (xss : List (List X)) (s : ℕ) (x : X) → In x (list_at xss s) → In x (flat_map (λ xs. xs) xss)
in_flat [] s x at' = absurd at'
in_flat (xs ∷ xss) zero x at' = in_append_left xs (flat_map (λ ys. ys) xss) x at'
in_flat (xs ∷ xss) (suc s) x at' = in_append_right xs (flat_map (λ ys. ys) xss) x (in_flat xss s x at')

pub in_of_flat : {X : Type 0} (xss : List (List X)) (x : X) → In x (flat_map (λ xs. xs) xss) → (s : ℕ) × (s < length xss) × In x (list_at xss s)
in_of_flat [] x at' = absurd at'
in_of_flat (xs ∷ xss) x at' =
    ⊎_elim (λ (h : In x xs). (0, omega arith, h))
    (λ (more : In x (flat_map (λ ys. ys) xss)). let r = in_of_flat xss x more in let lt = r.1 in (suc r.0, omega arith, r.2))
    (in_append_cases xs (flat_map (λ ys. ys) xss) x at')

pub in_enumerated : {X E : Type 0} (G : ℕ × X → List E) (first : ℕ) (xs : List X) (x : E) → In x (flat_map G (enumerate_from first xs)) → (i : ℕ) × (t : ℕ) × (z : X) × (first + i ≡ t) × (slice_get xs i ≡ Some z) × In x (G (t, z))
in_enumerated G first [] x at' = absurd at'
in_enumerated G first (z ∷ zs) x at' =
    ⊎_elim
    (λ (h : In x (G (first, z))). (0, first, z, omega arith, refl, h))
    (λ (more : In x (flat_map G (enumerate_from (first + 1) zs))).
    let r = in_enumerated G (first + 1) zs x more in let e = r.3 in (suc r.0, r.1, r.2, omega arith, r.4, r.5))
    (in_append_cases (G (first, z)) (flat_map G (enumerate_from (first + 1) zs)) x at')

pub slice_zip : {A B : Type 0} (xs : List (List A)) (ys : List (List B)) (i : ℕ) (z : List A × List B) → slice_get (zip xs ys) i ≡ Some z → (i < length xs) × (i < length ys) × (z ≡ (list_at xs i, list_at ys i))
slice_zip [] ys i z e = absurd (none-some z e)
slice_zip (x ∷ xs) [] i z e = absurd (none-some z e)
slice_zip (x ∷ xs) (y ∷ ys) zero z e = (omega arith, omega arith, sym (same_Some (x, y) z e))
slice_zip (x ∷ xs) (y ∷ ys) (suc i) z e = let r = slice_zip xs ys i z e in let a = r.0 in let b = r.1 in (omega arith, omega arith, r.2)

-- the lists of a list, by their numbers
low_number : {X : Type 0} (first : ℕ) (xss : List (List X)) (x : ℕ × List X) → In x (enumerate_from first xss) → first ≤ x.0
low_number first [] x at'' = absurd at''
low_number {X} first (xs ∷ xss) x at'' =
    ⊎_elim (λ (e : (first, xs) ≡ x). let n : first ≡ x.0 = ap (λ (y : ℕ × List X). y.0) e in omega arith)
    (λ (more : In x (enumerate_from (first + 1) xss)). let le = low_number (first + 1) xss x more in omega arith) at''

pub numbered : {X : Type 0} (first : ℕ) (xss : List (List X)) (x : ℕ × List X) → In x (enumerate_from first xss) → (x.0 < first + length xss) × (list_at xss (x.0 - first) ≡ x.1)
numbered first [] x at' = absurd at'
numbered {X} first (xs ∷ xss) x at' =
    ⊎_elim
    (λ (e : (first, xs) ≡ x). let n : first ≡ x.0 = ap (λ (y : ℕ × List X). y.0) e in let z : x.0 - first ≡ 0 = omega arith in
    (omega arith, ap (list_at (xs ∷ xss)) z ∙ ap (λ (y : ℕ × List X). y.1) e))
    (λ (more : In x (enumerate_from (first + 1) xss)).
    let r = numbered (first + 1) xss x more in
    let low = low_number (first + 1) xss x more in
    let z : x.0 - first ≡ suc (x.0 - (first + 1)) = omega arith in
    let lt = r.0 in
    (omega arith, ap (list_at (xs ∷ xss)) z ∙ r.1))
    at'
