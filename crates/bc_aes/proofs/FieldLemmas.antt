-- The field: products of bytes are bytes, and products take sums to sums.
use Rattle.std.proofs.Common.{◌≡◌, ℕ, zero, suc, ◌+◌, ◌-◌, ◌*◌, ◌/◌, ◌%◌, ◌<◌, ◌≤◌, ◌==◌, Bool, true, false, refl, sym, ap, ap₂, ◌∙◌, arith, bit_xor}
use Rattle.std.proofs.lemmas.Nat.{xor_comm, xor_lt, xor_block, xor_shr, xor_mod}
use Rattle.std.proofs.lemmas.Nat.Bits.{bit_at_xor, same_from_bits}
use Rattle.std.specs.Prelude.{nat_lt, if◌then◌else◌}
use Rattle.std.specs.Int.{bit_at}
use Rattle.std.specs.Int.Bits.{xor_zero_r, xor_self}
use borrow.Author.Tests.{ltb-true, ltb-false}
use Rattle.bc_aes.specs.Field.{times_x, product_by, product}

-- ---- exclusive or

sum_mod : (p q r : ℕ) → ((p + q) % 2 + r) % 2 ≡ (p + (q + r) % 2) % 2
sum_mod p q r = omega arith

pub xor_assoc : (a b c : ℕ) → bit_xor (bit_xor a b) c ≡ bit_xor a (bit_xor b c)
xor_assoc a b c = same_from_bits _ _ (λ i.
    bit_at_xor (bit_xor a b) c i ∙ ap (λ (v : ℕ). (v + bit_at c i) % 2) (bit_at_xor a b i)
    ∙ sum_mod (bit_at a i) (bit_at b i) (bit_at c i)
    ∙ ap (λ (v : ℕ). (bit_at a i + v) % 2) (sym (bit_at_xor b c i)) ∙ sym (bit_at_xor a (bit_xor b c) i))

-- the sums of two pairs, paired otherwise
pub xor_interchange : (a b c d : ℕ) → bit_xor (bit_xor a b) (bit_xor c d) ≡ bit_xor (bit_xor a c) (bit_xor b d)
xor_interchange a b c d =
    xor_assoc a b (bit_xor c d)
    ∙ ap (λ (v : ℕ). bit_xor a v) (sym (xor_assoc b c d) ∙ ap (λ (v : ℕ). bit_xor v d) (xor_comm b c) ∙ xor_assoc c b d)
    ∙ sym (xor_assoc a c (bit_xor b d))

-- the sum of four sums
pub sums_of_four : (a b c d a' b' c' d' : ℕ) {p q r s : ℕ} → p ≡ bit_xor a a' → q ≡ bit_xor b b' → r ≡ bit_xor c c' → s ≡ bit_xor d d'
    → bit_xor (bit_xor (bit_xor p q) r) s ≡ bit_xor (bit_xor (bit_xor (bit_xor a b) c) d) (bit_xor (bit_xor (bit_xor a' b') c') d')
sums_of_four a b c d a' b' c' d' e f g h =
    ap₂ (λ (u v : ℕ). bit_xor u v)
    (ap₂ (λ (u v : ℕ). bit_xor u v) (ap₂ (λ (u v : ℕ). bit_xor u v) e f ∙ xor_interchange a a' b b') g
    ∙ xor_interchange (bit_xor a b) (bit_xor a' b') c c') h
    ∙ xor_interchange (bit_xor (bit_xor a b) c) (bit_xor (bit_xor a' b') c') d d'

-- ---- bounds

pub reduced_lt : (a : ℕ) → a < 256 → 128 ≤ a → bit_xor (2 * a) 0x11B < 256
reduced_lt a h k =
    let r : ℕ = 2 * a - 256 in
    let split : 2 * a ≡ 1 * 256 + r = omega arith in
    let xored : bit_xor (1 * 256 + r) (1 * 256 + 27) ≡ bit_xor 1 1 * 256 + bit_xor r 27 = xor_block 8 1 1 r 27 (omega arith) (omega arith) in
    let low : bit_xor r 27 < 256 = xor_lt 8 r 27 (omega arith) (omega arith) in
    omega (arith, ap (λ (v : ℕ). bit_xor v 0x11B) split, xored, low)

picked_lt : (t : Bool) (u v n : ℕ) → (t ≡ true → u < n) → (t ≡ false → v < n) → (if t then u else v) < n
picked_lt true u v n p q = p refl
picked_lt false u v n p q = q refl

pub times_x_lt : (a : ℕ) → a < 256 → times_x a < 256
unfolding times_x
times_x_lt a h =
    picked_lt (nat_lt a 128) (2 * a) (bit_xor (2 * a) 0x11B) 256 (λ e. omega (arith, ltb-true a 128 e)) (λ e. reduced_lt a h (omega (arith, ltb-false a 128 e)))

pub product_by_lt : (n a b : ℕ) → a < 256 → product_by n a b < 256
unfolding product_by
product_by_lt zero a b h = omega arith
product_by_lt (suc n) a b h =
    xor_lt 8 _ _ (elim (b % 2 == 1) as (λ (t : Bool). (if t then a else 0) < 256) [ true ↦ h | false ↦ omega arith ])
    (product_by_lt n (times_x a) (b / 2) (times_x_lt a h))

pub product_lt : (a b : ℕ) → a < 256 → product a b < 256
unfolding product
product_lt a b h = product_by_lt 8 a b h

-- ---- sums

picked_xor : (a p q : ℕ) → p < 2 → q < 2 → (if bit_xor p q == 1 then a else 0) ≡ bit_xor (if p == 1 then a else 0) (if q == 1 then a else 0)
picked_xor a zero zero h k = refl
picked_xor a zero (suc zero) h k = refl
picked_xor a (suc zero) zero h k = sym (xor_zero_r a)
picked_xor a (suc zero) (suc zero) h k = sym (xor_self a)
picked_xor a (suc (suc p)) q h k = absurd (omega arith)
picked_xor a zero (suc (suc q)) h k = absurd (omega arith)
picked_xor a (suc zero) (suc (suc q)) h k = absurd (omega arith)

pub product_by_xor : (n a b c : ℕ) → product_by n a (bit_xor b c) ≡ bit_xor (product_by n a b) (product_by n a c)
unfolding product_by
product_by_xor zero a b c = refl
product_by_xor (suc n) a b c =
    let low : (if bit_xor b c % 2 == 1 then a else 0) ≡ bit_xor (if b % 2 == 1 then a else 0) (if c % 2 == 1 then a else 0) =
    ap (λ (v : ℕ). if v == 1 then a else 0) (xor_mod b c 1) ∙ picked_xor a (b % 2) (c % 2) (omega arith) (omega arith) in
    let high : product_by n (times_x a) (bit_xor b c / 2) ≡ bit_xor (product_by n (times_x a) (b / 2)) (product_by n (times_x a) (c / 2)) =
    ap (λ (v : ℕ). product_by n (times_x a) v) (xor_shr b c 1) ∙ product_by_xor n (times_x a) (b / 2) (c / 2) in
    ap₂ (λ (u v : ℕ). bit_xor u v) low high ∙ xor_interchange (if b % 2 == 1 then a else 0) (if c % 2 == 1 then a else 0) (product_by n (times_x a) (b / 2)) (product_by n (times_x a) (c / 2))

-- a factor takes a sum to the sum of the products
pub product-xor : (a b c : ℕ) → product a (bit_xor b c) ≡ bit_xor (product a b) (product a c)
unfolding product
product-xor a b c = product_by_xor 8 a b c
