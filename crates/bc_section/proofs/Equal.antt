-- Bytes are all equal where they are the same one place further on.
use Rattle.std.proofs.Common.{◌≡◌, ℕ, ◌-◌, Bool, true, false, List, [], ◌∷◌, length, take, drop, refl, sym, ap, ◌∙◌, arith}
use Rattle.std.specs.Prelude.{◌==◌, ◌&&◌}
use Rattle.std.specs.List.{list_all}
use Rattle.std.specs.Str.{bytes_eq}
use Rattle.std.proofs.Math.Logic.{⊎_elim}
use Rattle.std.proofs.lemmas.List.{take_all}
use Rattle.std.proofs.lemmas.Bool.{eqb-true, cases_Bool}

same_shifted : (x : ℕ) (xs : List ℕ) → bytes_eq xs (take (length xs) (x ∷ xs)) ≡ list_all (λ y. y == x) xs
same_shifted x [] = refl
same_shifted x (y ∷ ys) =
    ap (λ (t : Bool). (y == x) && t) (same_shifted y ys)
    ∙ ⊎_elim
    (λ (same : (y == x) ≡ true). ap (λ (z : ℕ). (y == x) && list_all (λ w. w == z) ys) (eqb-true y x same))
    (λ (differs : (y == x) ≡ false). ap (λ (t : Bool). t && list_all (λ w. w == y) ys) differs ∙ sym (ap (λ (t : Bool). t && list_all (λ w. w == x) ys) differs))
    (cases_Bool (y == x))

pub shifted : (bytes : List ℕ) (x : ℕ) (xs : List ℕ) → bytes ≡ x ∷ xs
    → bytes_eq (take (length bytes - 1) (drop 1 bytes)) (take (length bytes - 1) bytes) ≡ list_all (λ y. y == x) xs
shifted bytes x xs is =
    let n = length bytes - 1 in
    let long : n ≡ length xs = omega (arith, ap length is) in
    let whole : take n xs ≡ xs = take_all n xs (omega arith) in
    ap (λ (l : List ℕ). bytes_eq (take n (drop 1 l)) (take n l)) is
    ∙ ap (λ (l : List ℕ). bytes_eq l (take n (x ∷ xs))) whole
    ∙ ap (λ (m : ℕ). bytes_eq xs (take m (x ∷ xs))) long
    ∙ same_shifted x xs
