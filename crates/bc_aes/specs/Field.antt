-- The field GF(2^8) of FIPS 197, section 4: a byte is the polynomial of its bits, sums are
-- exclusive-or, and products are taken modulo x^8 + x^4 + x^3 + x + 1. A byte is a number below
-- 256.
use Rattle.std.specs.Prelude.{ℕ, zero, suc, ◌*◌, ◌/◌, ◌%◌, ◌==◌, nat_lt, if◌then◌else◌, bit_xor, find, unwrap_or}
use Rattle.std.specs.List.{range_with_len}

-- the product with x, reduced where the bit of x^8 comes up (4.2.1)
unfoldable pub times_x : ℕ → ℕ
times_x a = if nat_lt a 128 then 2 * a else bit_xor (2 * a) 0x11B

-- the product of a with the n lowest terms of b: a where b has the term 1, and (a times x) times (b
-- divided by x)
unfoldable pub product_by : ℕ → ℕ → ℕ → ℕ
product_by zero a b = 0
product_by (suc n) a b = bit_xor (if b % 2 == 1 then a else 0) (product_by n (times_x a) (b / 2))

-- the product of two bytes (4.2)
unfoldable pub product : ℕ → ℕ → ℕ
product a b = product_by 8 a b

-- the byte whose product with a is 1, or 0 where there is none (4.2; 5.1.1 takes 0 to itself)
unfoldable pub inverse : ℕ → ℕ
inverse a = unwrap_or (find (λ b. product a b == 1) (range_with_len 0 256)) 0
