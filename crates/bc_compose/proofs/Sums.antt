-- A count over a story is the sum of the counts over each caller's entries.
use Rattle.std.proofs.Common.{◌≡◌, ℕ, zero, suc, ◌+◌, ◌<◌, ◌≤◌, inl, inr, Bool, true, false, cond, List, [], ◌∷◌, length, get_or, refl, sym, ap, ◌∙◌, arith}
use Rattle.std.specs.Prelude.{◌==◌, flat_map, count_by, sum_by, zip}
use Rattle.std.specs.List.{range_with_len, enumerate_from}
use Rattle.std.proofs.Math.Logic.{⊎_elim}
use Rattle.std.proofs.Math.Nat.{eq-or-lt_of_le}
use Rattle.std.proofs.lemmas.Bool.{eq-eqb, ne_eqb}
use Rattle.std.proofs.lemmas.List.Sums.{sum_by-cons, sum_by-append}
use Rattle.bc_base.specs.Story.{own}
use Rattle.bc_base.specs.Lists.{list_at}
use Rattle.bc_base.proofs.Members.{In}

pub sum_plus : {X : Type 0} (f g : X → ℕ) (xs : List X) → sum_by (λ x. f x + g x) xs ≡ sum_by f xs + sum_by g xs
sum_plus f g [] = omega arith
sum_plus f g (x ∷ xs) =
    let a = sum_by-cons (λ x. f x + g x) x xs in
    let b = sum_by-cons f x xs in
    let c = sum_by-cons g x xs in
    let d = sum_plus f g xs in
    omega (arith, a, b, c, d)

pub sum_le : (f g : ℕ → ℕ) (first n : ℕ) → ((i : ℕ) → i < first + n → f i ≤ g i) → sum_by f (range_with_len first n) ≤ sum_by g (range_with_len first n)
sum_le f g first zero le = omega arith
sum_le f g first (suc n) le =
    let a = sum_by-cons f first (range_with_len (first + 1) n) in
    let b = sum_by-cons g first (range_with_len (first + 1) n) in
    let c = le first (omega arith) in
    let d = sum_le f g (first + 1) n (λ i lt. le i (omega arith)) in
    omega (arith, a, b, c, d)

pub sum_same : (f g : ℕ → ℕ) (first n : ℕ) → ((i : ℕ) → i < first + n → f i ≡ g i) → sum_by f (range_with_len first n) ≡ sum_by g (range_with_len first n)
sum_same f g first zero same = refl
sum_same f g first (suc n) same =
    sum_by-cons f first (range_with_len (first + 1) n)
    ∙ ap (λ k. k + sum_by f (range_with_len (first + 1) n)) (same first (omega arith))
    ∙ ap (λ k. g first + k) (sum_same f g (first + 1) n (λ i lt. same i (omega arith)))
    ∙ sym (sum_by-cons g first (range_with_len (first + 1) n))

sum_none : (k b first n : ℕ) → b < first → sum_by (λ c. cond (b == c) k 0) (range_with_len first n) ≡ 0
sum_none k b first zero lt = refl
sum_none k b first (suc n) lt =
    sum_by-cons (λ c. cond (b == c) k 0) first (range_with_len (first + 1) n)
    ∙ ap (λ t. cond t k 0 + sum_by (λ c. cond (b == c) k 0) (range_with_len (first + 1) n)) (ne_eqb b first (λ e. omega arith))
    ∙ (let r = sum_none k b (first + 1) n (omega arith) in omega (arith, r))

-- one number among those from first on
sum_one : (k b first n : ℕ) → first ≤ b → b < first + n → sum_by (λ c. cond (b == c) k 0) (range_with_len first n) ≡ k
sum_one k b first zero low high = absurd (omega arith)
sum_one k b first (suc n) low high =
    sum_by-cons (λ c. cond (b == c) k 0) first (range_with_len (first + 1) n)
    ∙ ⊎_elim
    (λ (e : first ≡ b).
    ap (λ t. cond t k 0 + sum_by (λ c. cond (b == c) k 0) (range_with_len (first + 1) n)) (eq-eqb b first (sym e))
    ∙ (let r = sum_none k b (first + 1) n (omega arith) in omega (arith, r)))
    (λ (lt : first < b).
    ap (λ t. cond t k 0 + sum_by (λ c. cond (b == c) k 0) (range_with_len (first + 1) n)) (ne_eqb b first (λ e. omega arith))
    ∙ (let r = sum_one k b (first + 1) n (omega arith) (omega arith) in omega (arith, r)))
    (eq-or-lt_of_le low)

sum_zero : (first n : ℕ) → sum_by (λ (c : ℕ). 0) (range_with_len first n) ≡ 0
sum_zero first zero = refl
sum_zero first (suc n) = let a = sum_by-cons (λ (c : ℕ). 0) first (range_with_len (first + 1) n) in let b = sum_zero (first + 1) n in omega (arith, a, b)

-- caller by caller
pub count_own : {E : Type 0} (by : E → ℕ) (p : E → Bool) (n : ℕ) (xs : List E) → ((x : E) → In x xs → by x < n)
    → count_by p xs ≡ sum_by (λ c. count_by p (own by c xs)) (range_with_len 0 n)
count_own by p n [] below = sym (sum_zero 0 n)
count_own {E} by p n (x ∷ xs) below =
    let one : ℕ = cond (p x) 1 0 in
    let rest = count_own by p n xs (λ y at'. below y (inr at')) in
    let each : (c : ℕ) → count_by p (own by c (x ∷ xs)) ≡ cond (by x == c) one 0 + count_by p (own by c xs) =
    λ c. (elim (by x == c) as (λ (b : Bool). count_by p (cond b (x ∷ own by c xs) (own by c xs)) ≡ cond b one 0 + count_by p (own by c xs)) [
      | true ↦ sum_by-cons (λ y. cond (p y) 1 0) x (own by c xs)
      | false ↦ omega arith
    ]) in
    let mine : sum_by (λ c. cond (by x == c) one 0) (range_with_len 0 n) ≡ one = let lt = below x (inl refl) in sum_one one (by x) 0 n (omega arith) (omega arith) in
    sum_by-cons (λ y. cond (p y) 1 0) x xs
    ∙ ap (λ k. one + k) rest
    ∙ ap (λ k. k + sum_by (λ c. count_by p (own by c xs)) (range_with_len 0 n)) (sym mine)
    ∙ sym (sum_plus (λ c. cond (by x == c) one 0) (λ c. count_by p (own by c xs)) (range_with_len 0 n))
    ∙ sym (sum_same (λ c. count_by p (own by c (x ∷ xs))) (λ c. cond (by x == c) one 0 + count_by p (own by c xs)) 0 n (λ c _. each c))

-- list by list, each by its number
pub sum_lists : {X : Type 0} (F : List X → ℕ) (H : ℕ → List X) (first : ℕ) (xss : List (List X)) → ((i t : ℕ) → first + i ≡ t → i < length xss → H t ≡ list_at xss i)
    → sum_by F xss ≡ sum_by (λ c. F (H c)) (range_with_len first (length xss))
sum_lists F H first [] are = refl
sum_lists F H first (xs ∷ xss) are =
    sum_by-cons F xs xss
    ∙ ap (λ k. k + sum_by F xss) (ap F (sym (are 0 first (omega arith) (omega arith))))
    ∙ ap (λ k. F (H first) + k) (sum_lists F H (first + 1) xss (λ i t e lt. are (suc i) t (omega arith) (omega arith)))
    ∙ sym (sum_by-cons (λ c. F (H c)) first (range_with_len (first + 1) (length xss)))

pub count_flat : {Z E : Type 0} (q : E → Bool) (G : ℕ × Z → List E) (H : ℕ → Z) (first : ℕ) (zs : List Z) → ((i t : ℕ) (d : Z) → first + i ≡ t → i < length zs → H t ≡ get_or zs i d)
    → count_by q (flat_map G (enumerate_from first zs)) ≡ sum_by (λ c. count_by q (G (c, H c))) (range_with_len first (length zs))
count_flat q G H first [] are = refl
count_flat q G H first (z ∷ zs) are =
    sum_by-append (λ y. cond (q y) 1 0) (G (first, z)) (flat_map G (enumerate_from (first + 1) zs))
    ∙ ap (λ w. count_by q (G (first, w)) + count_by q (flat_map G (enumerate_from (first + 1) zs))) (sym (are 0 first z (omega arith) (omega arith)))
    ∙ ap (λ k. count_by q (G (first, H first)) + k) (count_flat q G H (first + 1) zs (λ i t d e lt. are (suc i) t d (omega arith) (omega arith)))
    ∙ sym (sum_by-cons (λ c. count_by q (G (c, H c))) first (range_with_len (first + 1) (length zs)))

pub get_zip : {A B : Type 0} (xs : List (List A)) (ys : List (List B)) (i : ℕ) (d : List A × List B) → length xs ≡ length ys → i < length (zip xs ys) → (list_at xs i, list_at ys i) ≡ get_or (zip xs ys) i d
get_zip [] ys i d same lt = absurd (omega arith)
get_zip (x ∷ xs) [] i d same lt = absurd (omega arith)
get_zip (x ∷ xs) (y ∷ ys) zero d same lt = refl
get_zip (x ∷ xs) (y ∷ ys) (suc i) d same lt = get_zip xs ys i d (omega arith) (omega arith)

pub length_zip : {A B : Type 0} (xs : List A) (ys : List B) → length xs ≡ length ys → length (zip xs ys) ≡ length xs
length_zip [] ys same = refl
length_zip (x ∷ xs) [] same = absurd (omega arith)
length_zip (x ∷ xs) (y ∷ ys) same = ap suc (length_zip xs ys (omega arith))
