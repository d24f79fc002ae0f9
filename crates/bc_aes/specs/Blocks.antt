-- Texts of whole blocks of 16 bytes, as sections 5.1 and 5.3 of FIPS 197 take them one at a time.
use Rattle.std.specs.Prelude.{◌≡◌, ℕ, ◌+◌, ◌*◌, ◌<◌, List, length, slice_range}

-- block i of a text
abbrev pub block : List ℕ → ℕ → List ℕ
block text i = slice_range text (16 * i) (16 * i + 16)

-- each block of the new text is `cipher` of that block of the old one, and both are as long
pub record EachBlock (cipher : List ℕ → List ℕ) (old new : List ℕ) : Type 0 where
  pub same_length : length new ≡ length old
  pub ciphered : (i : ℕ) → 16 * i < length old → block new i ≡ cipher (block old i)
