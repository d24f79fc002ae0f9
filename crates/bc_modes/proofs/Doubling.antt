-- Tweaks one after the other: each is the one before it, times x.
use Rattle.std.proofs.Common.{◌≡◌, ℕ, zero, suc, ◌+◌, ◌*◌, ◌/◌, ◌%◌, ◌^◌, ◌<◌, ◌==◌, if◌then◌else◌, Bool, true, false, cond, refl, sym, ap, ap₂, ◌∙◌, subst, arith, bit_xor, add-zero}
use Rattle.std.proofs.Math.Nat.{pow-suc, mul_assoc, add-suc}
use Rattle.std.proofs.lemmas.Nat.{pow-add, pow_pos, xor_block, shr_below, shr_split, mod_below}
use Rattle.std.specs.Int.Bits.{xor_zero_r}
use Rattle.std.proofs.Math.Numerals.{one-add}
use Rattle.std.proofs.lemmas.Nat.Bits.{bit_at-suc}
use Rattle.std.specs.Int.{bit_at}
use Rattle.bc_modes.specs.Tweak.{modulus, remainder, tweak_at}

-- one step of the long division
abbrev pub without_term : ℕ → ℕ → ℕ
without_term k p = if bit_at p (128 + k) == 1 then bit_xor p (modulus * 2 ^ k) else p

bit_at_double : (p i : ℕ) → bit_at (p * 2) (suc i) ≡ bit_at p i
bit_at_double p i = bit_at-suc (p * 2) i ∙ ap (λ n. bit_at n i) (omega arith)

xor_double : (a b : ℕ) → bit_xor (a * 2) (b * 2) ≡ bit_xor a b * 2
xor_double a b =
    ap₂ (λ x y. bit_xor x y) (sym (add-zero (a * 2))) (sym (add-zero (b * 2)))
    ∙ xor_block 1 a b 0 0 (omega arith) (omega arith) ∙ add-zero (bit_xor a b * 2)

double_of_choice : (b : Bool) (x y : ℕ) → cond b (x * 2) (y * 2) ≡ cond b x y * 2
double_of_choice true x y = refl
double_of_choice false x y = refl

without_term-double : (k p : ℕ) → without_term (suc k) (p * 2) ≡ without_term k p * 2
without_term-double k p =
    let place : bit_at (p * 2) (128 + suc k) ≡ bit_at p (128 + k) = ap (bit_at (p * 2)) (add-suc 128 k) ∙ bit_at_double p (128 + k) in
    let shifted : modulus * 2 ^ suc k ≡ modulus * 2 ^ k * 2 = omega (arith, pow-suc 2 k) in
    ap₂ (λ (b : ℕ) (m : ℕ). if b == 1 then bit_xor (p * 2) m else p * 2) place shifted
    ∙ ap (λ (x : ℕ). if bit_at p (128 + k) == 1 then x else p * 2) (xor_double p (modulus * 2 ^ k))
    ∙ double_of_choice (bit_at p (128 + k) == 1) (bit_xor p (modulus * 2 ^ k)) p

-- the remainder of x times p is the remainder of x times the remainder of p
pub remainder-double : (n p : ℕ) → remainder (suc n) (p * 2) ≡ remainder 1 (remainder n p * 2)
unfolding remainder
remainder-double zero p = refl
remainder-double (suc k) p = ap (remainder (suc k)) (without_term-double k p) ∙ remainder-double k (without_term k p)

-- T_(j + 1) is T_j times x
pub tweak_at-suc : (first j : ℕ) → tweak_at first (suc j) ≡ remainder 1 (tweak_at first j * 2)
unfolding tweak_at
tweak_at-suc first j =
    ap (remainder (suc j)) (ap (λ (n : ℕ). first * n) (pow-suc 2 j) ∙ sym (mul_assoc first (2 ^ j) 2)) ∙ remainder-double j (first * 2 ^ j)

-- T_0 is itself
pub tweak_at-zero : (first : ℕ) → tweak_at first 0 ≡ first
unfolding remainder tweak_at
tweak_at-zero first = omega arith

-- T_(i + j) is T_i times x^j
pub tweak_at-add : (first i j : ℕ) → tweak_at first (i + j) ≡ tweak_at (tweak_at first i) j
tweak_at-add first i zero = ap (tweak_at first) (add-zero i) ∙ sym (tweak_at-zero (tweak_at first i))
tweak_at-add first i (suc j) =
    ap (tweak_at first) (add-suc i j) ∙ tweak_at-suc first (i + j) ∙ ap (λ t. remainder 1 (t * 2)) (tweak_at-add first i j)
    ∙ sym (tweak_at-suc (tweak_at first i) j)

-- taking the highest term away: what is left is the low part, with the modulus's low part added where the term was there
without_top : (d q low m : ℕ) → q < 2 → low < 2 ^ d → m < 2 ^ d
    → (if q % 2 == 1 then bit_xor (q * 2 ^ d + low) (1 * 2 ^ d + m) else q * 2 ^ d + low) ≡ bit_xor low (q * m)
without_top d zero low m hq hl hm =
    let none : 0 * m ≡ 0 = omega arith in
    let whole : 0 * 2 ^ d + low ≡ low = omega arith in
    whole ∙ sym (ap (bit_xor low) none ∙ xor_zero_r low)
without_top d (suc zero) low m hq hl hm =
    let one : 1 * m ≡ m = omega arith in
    let gone : 0 * 2 ^ d + bit_xor low m ≡ bit_xor low m = omega arith in
    xor_block d 1 1 low m hl hm ∙ gone ∙ ap (bit_xor low) (sym one)
without_top d (suc (suc q)) low m hq hl hm = absurd (omega arith)

without_term_is : (k p : ℕ) → p < 2 ^ (128 + suc k)
    → without_term k p ≡ bit_xor (p % 2 ^ (128 + k)) (p / 2 ^ (128 + k) * (0x87 * 2 ^ k))
without_term_is k p h =
    let d : ℕ = 128 + k in
    let q : ℕ = p / 2 ^ d in
    let below : p < 2 ^ (1 + d) = subst (λ n. p < 2 ^ n) (add-suc 128 k ∙ sym (one-add d)) h in
    let split : p ≡ q * 2 ^ d + p % 2 ^ d = sym (shr_split p d) in
    let top : 2 ^ d ≡ 2 ^ 128 * 2 ^ k = pow-add 2 128 k in
    let modulus_is : modulus * 2 ^ k ≡ 1 * 2 ^ d + 0x87 * 2 ^ k = omega arith in
    let positive : 0 < 2 ^ k = pow_pos k in
    ap₂ (λ (n m : ℕ). if q % 2 == 1 then bit_xor n m else n) split modulus_is
    ∙ without_top d q (p % 2 ^ d) (0x87 * 2 ^ k) (shr_below p 1 d below) (mod_below p (2 ^ d) (pow_pos d)) (omega arith)

-- doubling in 128 bits: what leaves them comes back as 0x87
pub next_is : (t : ℕ) → t < 2 ^ 128 → bit_xor (t * 2 % 2 ^ 128) (t / 2 ^ 127 * 0x87) ≡ tweak_at t 1
unfolding remainder tweak_at
next_is t h =
    sym (without_term_is 0 (t * 2) (omega arith) ∙ ap (λ n. bit_xor (t * 2 % 2 ^ 128) (n * 0x87)) (omega arith))
