-- The bytes of a number, one division by 256 after the other.
use Rattle.std.proofs.Common.{◌≡◌, ℕ, zero, suc, ◌+◌, ◌*◌, ◌/◌, ◌%◌, ◌^◌, List, [], ◌∷◌, refl, ap, ◌∙◌, arith}
use Rattle.std.specs.Int.{w128, to_le_bytes}
use Rattle.std.proofs.lemmas.Nat.{shr-shr}

abbrev pub divided : ℕ → ℕ → List ℕ
divided zero n = []
divided (suc k) n = n % 256 ∷ divided k (n / 256)

-- the same, each by one division
abbrev shifted : ℕ → ℕ → ℕ → List ℕ
shifted i zero n = []
shifted i (suc k) n = n / 2 ^ (8 * i) % 256 ∷ shifted (suc i) k n

divided_from : (k i n : ℕ) → divided k (n / 2 ^ (8 * i)) ≡ shifted i k n
divided_from zero i n = refl
divided_from (suc k) i n =
    let next : 8 * i + 8 ≡ 8 * suc i = omega arith in
    ap (λ xs. n / 2 ^ (8 * i) % 256 ∷ xs) (ap (divided k) (shr-shr n (8 * i) 8 ∙ ap (λ e. n / 2 ^ e) next) ∙ divided_from k (suc i) n)

pub divided_is : (n : ℕ) → divided 16 n ≡ to_le_bytes w128 n
divided_is n = ap (λ xs. n % 256 ∷ xs) (divided_from 15 1 n)
