-- A loop over data units: those before are ciphered, the others are what they were. And the number of a unit doesn't wrap.
use Rattle.std.proofs.Common.{◌≡◌, ℕ, ◌+◌, ◌-◌, ◌*◌, ◌^◌, ◌<◌, ◌≤◌, false, List, [], ◌∷◌, ◌++◌, length, take, drop, refl, sym, ap, ap₂, ◌∙◌, arith, zero-add}
use Rattle.std.specs.List.{flat_map, range_with_len}
use Rattle.std.proofs.lemmas.List.{drop-drop, take_all, map-id, flat_map_more}
use Rattle.std.proofs.lemmas.List.FromFn.{map-range_with_len_more}
use Rattle.std.proofs.lemmas.Slice.{take-put_mid, drop-put_mid}
use Rattle.std.proofs.lemmas.Nat.{row_fits}
use borrow.Rule.Slice.PartMut.{put_mid}
use Rattle.std.proofs.lemmas.Bool.Decides.{nat_tests}
use Rattle.bc_c.specs.Status.{runs_out}
use Rattle.bc_c.specs.Units.{each_unit}

-- the number of a unit doesn't wrap
pub no_wrap : (first units i : ℕ) → runs_out first units ≡ false → i < units → first + i < 2 ^ 256
no_wrap first units i e h = let below : first + units ≤ 2 ^ 128 = grind (arith, nat_tests) in omega arith

range_with_len-more : (n : ℕ) → range_with_len 0 (n + 1) ≡ range_with_len 0 n ++ n ∷ []
range_with_len-more n =
    sym (map-id (range_with_len 0 (n + 1))) ∙ map-range_with_len_more (λ (j : ℕ). j) 0 n n (zero-add n)
    ∙ ap (λ xs. xs ++ n ∷ []) (map-id (range_with_len 0 n))

-- one unit more
each_unit-more : (cipher : ℕ → List ℕ → List ℕ) (size n : ℕ) (texts : List ℕ)
    → each_unit cipher size (n + 1) texts ≡ each_unit cipher size n texts ++ cipher n (take size (drop (n * size) texts))
each_unit-more cipher size n texts =
    let f : ℕ → List ℕ = λ i. cipher i (take size (drop (i * size) texts)) in
    ap (flat_map f) (range_with_len-more n) ∙ sym (flat_map_more f [] (range_with_len 0 n) n)

-- unit n of m lies within them
pub room_for : (n m size l : ℕ) → n < m → l ≡ m * size → n * size + size ≤ l
room_for n m size l h e = omega (arith, row_fits n size m size h (omega arith))

pub record AfterUnits (cipher : ℕ → List ℕ → List ℕ) (size n : ℕ) (was texts : List ℕ) : Type 0 where
  pub ciphered : take (n * size) texts ≡ each_unit cipher size n was
  pub left : drop (n * size) texts ≡ drop (n * size) was

pub no_units : (cipher : ℕ → List ℕ → List ℕ) (size : ℕ) (texts : List ℕ) → AfterUnits cipher size 0 texts texts
no_units cipher size texts = let none : 0 * size ≡ 0 = omega arith in record { ciphered = ap (λ k. take k texts) none; left = refl }

pub unit_more : (f : ℕ → List ℕ → List ℕ) (first size n number : ℕ) (was texts unit : List ℕ) → n * size + size ≤ length texts
    → length texts ≡ length was → length unit ≡ size → number ≡ first + n → AfterUnits (λ i. f (first + i)) size n was texts
    → unit ≡ f number (take (n * size + size - n * size) (drop (n * size) texts))
    → AfterUnits (λ i. f (first + i)) size (n + 1) was (put_mid (n * size) (n * size + size - n * size) texts unit)
unit_more f first size n number was texts unit room l m is after e =
    let width : n * size + size - n * size ≡ size = omega arith in
    let end : n * size + size ≡ (n + 1) * size = omega arith in
    let part : take (n * size + size - n * size) (drop (n * size) texts) ≡ take size (drop (n * size) was) = ap₂ (λ (k : ℕ) (xs : List ℕ). take k xs) width after.left in
    record {
      ciphered =
          take-put_mid (n * size) (n * size + size - n * size) texts unit ((n + 1) * size) (omega arith) (omega arith)
          ∙ ap₂ (λ (xs ys : List ℕ). xs ++ ys) after.ciphered (e ∙ ap₂ (λ (k : ℕ) (xs : List ℕ). f k xs) is part)
          ∙ sym (each_unit-more (λ i. f (first + i)) size n was);
      left =
          drop-put_mid (n * size) (n * size + size - n * size) texts unit ((n + 1) * size) (omega arith) (omega arith) (omega arith)
          ∙ ap (λ k. drop k texts) (sym end) ∙ sym (drop-drop size (n * size) texts) ∙ ap (drop size) after.left
          ∙ drop-drop size (n * size) was ∙ ap (λ k. drop k was) end;
    }

pub all_units : (cipher : ℕ → List ℕ → List ℕ) (size n m : ℕ) (was texts : List ℕ) → length texts ≡ m * size → n ≡ m
    → AfterUnits cipher size n was texts → texts ≡ each_unit cipher size m was
all_units cipher size n m was texts l e after =
    sym (take_all (m * size) texts (omega arith)) ∙ ap (λ k. take (k * size) texts) (sym e) ∙ after.ciphered
    ∙ ap (λ k. each_unit cipher size k was) e
