-- The tweaks of XTS: polynomials over GF(2) modulo x^128 + x^7 + x^2 + x + 1 (IEEE 1619, section
-- 5.2). A polynomial is the number whose bit i is its coefficient of x^i, so times x^j is `* 2 ^ j`
-- and addition is `bit_xor`.
use Rattle.std.specs.Prelude.{ℕ, zero, suc, ◌+◌, ◌*◌, ◌^◌, ◌==◌, if◌then◌else◌, bit_xor}
use Rattle.std.specs.Int.{bit_at}

-- x^128 + x^7 + x^2 + x + 1
abbrev pub modulus : ℕ
modulus = 2 ^ 128 + 0x87

-- the remainder by the modulus of a polynomial of a degree below 128 + n, by long division: from
-- the highest down, each x^(128 + k) that stands there is taken away with the modulus times x^k
unfoldable pub remainder : ℕ → ℕ → ℕ
remainder zero p = p
remainder (suc k) p = remainder k (if bit_at p (128 + k) == 1 then bit_xor p (modulus * 2 ^ k) else p)

-- T_j is T_0 times x^j
unfoldable pub tweak_at : ℕ → ℕ → ℕ
tweak_at first j = remainder j (first * 2 ^ j)
