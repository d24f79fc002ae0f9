-- Data units as blocks of 16 bytes, as IEEE 1619 (section 5) and SP 800-38A (section 6.2) name
-- them.
use Rattle.std.specs.Prelude.{ℕ, ◌/◌, List, length, bit_xor}
use Rattle.std.specs.List.{flat_map, range_with_len}
use Rattle.std.specs.Simd.Lanes.{zip2}

-- as many blocks as the text has, one after the other: `at 0`, `at 1` and so on
abbrev pub by_blocks : List ℕ → (ℕ → List ℕ) → List ℕ
by_blocks text at = flat_map at (range_with_len 0 (length text / 16))

-- the sum of two blocks over GF(2)
abbrev pub xor_bytes : List ℕ → List ℕ → List ℕ
xor_bytes block other = zip2 bit_xor block other
