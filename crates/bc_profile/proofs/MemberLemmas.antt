-- Membership, and lists without a number twice.
use Rattle.std.proofs.Common.{◌≡◌, ◌≢◌, ℕ, zero, suc, ◌+◌, ◌<◌, ◌≤◌, ◌⊎◌, Bool, true, false, cond, List, [], ◌∷◌, ◌++◌, length, refl, sym, ap, subst, ◌∙◌, arith}
use Rattle.std.specs.Prelude.{◌==◌, ◌||◌, not}
use Rattle.std.specs.List.{AllByRecursion, list_any}
use Rattle.std.proofs.Math.Logic.{⊎_elim}
use Rattle.std.proofs.lemmas.Bool.{true≢false, eq-eqb, ne_eqb, cases_eq}
use Rattle.std.proofs.lemmas.List.Folds.{list_any-append}
use Rattle.bc_profile.specs.SlotJournal.{without}
use Rattle.bc_profile.specs.SlotTable.{Distinct}
use Rattle.bc_base.proofs.Members.{in_of_filter, all_at, all_from_in}

-- a number twice is in no list of these
or_left : (a b : Bool) → (a || b) ≡ false → a ≡ false
or_left true b e = absurd (true≢false e)
or_left false b e = refl

or_right : (a b : Bool) → (a || b) ≡ false → b ≡ false
or_right true b e = absurd (true≢false e)
or_right false b e = e

or_both : (a b : Bool) → a ≡ false → b ≡ false → (a || b) ≡ false
or_both a b p q = subst (λ (z : Bool). (z || b) ≡ false) (sym p) q

-- nothing that isn't there is there after a number is taken out
any_without : (x slot : ℕ) (xs : List ℕ) → list_any (λ o. o == x) xs ≡ false → list_any (λ o. o == x) (without slot xs) ≡ false
any_without x slot [] none = refl
any_without x slot (y ∷ ys) none =
    (elim (not (y == slot)) as (λ (b : Bool). list_any (λ o. o == x) (cond b (y ∷ without slot ys) (without slot ys)) ≡ false) [
      | true ↦ or_both (y == x) (list_any (λ o. o == x) (without slot ys)) (or_left (y == x) (list_any (λ o. o == x) ys) none) (any_without x slot ys (or_right (y == x) (list_any (λ o. o == x) ys) none))
      | false ↦ any_without x slot ys (or_right (y == x) (list_any (λ o. o == x) ys) none)
    ])

pub distinct_without : (slot : ℕ) (xs : List ℕ) → Distinct xs → Distinct (without slot xs)
distinct_without slot [] d = tt
distinct_without slot (y ∷ ys) d =
    (elim (not (y == slot)) as (λ (b : Bool). Distinct (cond b (y ∷ without slot ys) (without slot ys))) [
      | true ↦ (any_without y slot ys d.0, distinct_without slot ys d.1)
      | false ↦ distinct_without slot ys d.1
    ])

pub gone_without : (slot : ℕ) (xs : List ℕ) → list_any (λ o. o == slot) (without slot xs) ≡ false
gone_without slot [] = refl
gone_without slot (y ∷ ys) =
    (elim (y == slot) as (λ (b : Bool). (y == slot) ≡ b → list_any (λ o. o == slot) (cond (not b) (y ∷ without slot ys) (without slot ys)) ≡ false) [
      | true ↦ λ is. gone_without slot ys
      | false ↦ λ is. or_both (y == slot) (list_any (λ o. o == slot) (without slot ys)) is (gone_without slot ys)
    ]) refl

pub distinct_push : (slot : ℕ) (xs : List ℕ) → Distinct xs → list_any (λ o. o == slot) xs ≡ false → Distinct (xs ++ slot ∷ [])
distinct_push slot [] d none = (refl, tt)
distinct_push slot (y ∷ ys) d none = (
  list_any-append (λ o. o == y) ys (slot ∷ []) ∙ or_both (list_any (λ o. o == y) ys) ((slot == y) || false) d.0
      (or_both (slot == y) false (ne_eqb slot y (λ same. absurd (true≢false (sym (eq-eqb y slot (sym same)) ∙ or_left (y == slot) (list_any (λ o. o == slot) ys) none)))) refl),
  distinct_push slot ys d.1 (or_right (y == slot) (list_any (λ o. o == slot) ys) none),
)

-- taking a number out of a distinct list makes it shorter by at most one
same_without : (n : ℕ) (xs : List ℕ) → list_any (λ o. o == n) xs ≡ false → without n xs ≡ xs
same_without n [] none = refl
same_without n (y ∷ ys) none =
    ap (λ (b : Bool). cond (not b) (y ∷ without n ys) (without n ys)) (or_left (y == n) (list_any (λ o. o == n) ys) none)
    ∙ ap (λ l. y ∷ l) (same_without n ys (or_right (y == n) (list_any (λ o. o == n) ys) none))

equal : (a b : ℕ) → (a == b) ≡ true → a ≡ b
equal a b e = ⊎_elim (λ (same : a ≡ b). same) (λ (differ : a ≢ b). absurd (true≢false (sym e ∙ ne_eqb a b differ))) (cases_eq a b)

shorter : (n : ℕ) (xs : List ℕ) → Distinct xs → length xs ≤ length (without n xs) + 1
shorter n [] d = omega arith
shorter n (y ∷ ys) d =
    (elim (y == n) as (λ (b : Bool). (y == n) ≡ b → length (y ∷ ys) ≤ length (cond (not b) (y ∷ without n ys) (without n ys)) + 1) [
      | true ↦ λ is. let e = ap length (same_without n ys (subst (λ (k : ℕ). list_any (λ o. o == k) ys ≡ false) (equal y n is) d.0)) in omega arith
      | false ↦ λ is. let s = shorter n ys d.1 in omega arith
    ]) refl

not_self : (a b : ℕ) → not (a == b) ≡ true → a ≢ b
not_self a b e same = true≢false (sym e ∙ ap not (eq-eqb a b same))

-- a list without a number twice, of numbers below n, isn't longer than n
pub pigeons : (n : ℕ) (xs : List ℕ) → Distinct xs → AllByRecursion (λ o. o < n) xs → length xs ≤ n
pigeons zero [] d all = omega arith
pigeons zero (x ∷ xs) d all = let l = all.0 in absurd (omega arith)
pigeons (suc n) xs d all =
    let below = all_from_in (λ o. o < n) (without n xs) (λ o at. let f = in_of_filter (λ other. not (other == n)) xs o at in let l = all_at (λ k. k < suc n) xs o all f.0 in let ne = not_self o n f.1 in omega arith) in
    let rest = pigeons n (without n xs) (distinct_without n xs d) below in
    let s = shorter n xs d in omega arith
