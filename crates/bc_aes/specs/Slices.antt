-- Private: the contracts of private functions alone speak of these. Eight blocks of 16 bytes in bit
-- slices, row after row: bit k of byte 4r + c of slice j is bit j of row r, column c of block k.
use Rattle.std.specs.Prelude.{◌≡◌, ℕ, ◌+◌, ◌-◌, ◌*◌, ◌/◌, ◌%◌, ◌==◌, ◌<◌, if◌then◌else◌, List, [], ◌∷◌, map, slice_index, slice_index_or}
use Rattle.std.specs.List.{range_with_len}
use Rattle.std.specs.Int.{bit_at}
use Rattle.bc_aes.specs.State.{byte_of_bits, state_of}
use Rattle.bc_aes.specs.declared.slices.Slices.{Slices}

-- the eight slices, slice 0 first
abbrev pub slices_of : Slices → List (List ℕ)
slices_of q = q.s0 ∷ q.s1 ∷ q.s2 ∷ q.s3 ∷ q.s4 ∷ q.s5 ∷ q.s6 ∷ q.s7 ∷ []

-- byte p of vector k
abbrev pub byte_of : List (List ℕ) → ℕ → ℕ → ℕ
byte_of slices k p = byte_of_bits (λ j. bit_at (slice_index (slice_index_or slices j []) p) k)

-- vector k: the rows of block k, one after the other
abbrev pub vector_of : List (List ℕ) → ℕ → List ℕ
vector_of slices k = map (byte_of slices k) (range_with_len 0 16)

-- the state whose rows stand one after the other in these bytes, and the other way round
abbrev pub by_rows : List ℕ → List ℕ
by_rows bytes = state_of (λ r c. slice_index bytes (4 * r + c))

-- block k
abbrev pub sliced_block : List (List ℕ) → ℕ → List ℕ
sliced_block slices k = state_of (λ r c. byte_of slices k (4 * r + c))

-- each block of the new slices is `f` of that block of the old ones
pub record EachSlicedBlock (f : List ℕ → List ℕ) (old new : List (List ℕ)) : Type 0 where
  pub each : (k : ℕ) → k < 8 → sliced_block new k ≡ f (sliced_block old k)

-- the 16 numbers of a slice are bytes
abbrev pub AreBytes : List ℕ → Type 0
AreBytes slice = (p : ℕ) → p < 16 → slice_index slice p < 256

-- the bits of byte p of a slice
abbrev pub bits_at : ℕ → List ℕ → List ℕ
bits_at p slice = map (bit_at (slice_index slice p)) (range_with_len 0 8)

-- the bits of a, but where i / n is odd the bit of b that stands n places lower
abbrev pub lower_bits : ℕ → List ℕ → List ℕ → List ℕ
lower_bits n a b = map (λ i. if i / n % 2 == 0 then slice_index a i else slice_index b (i - n)) (range_with_len 0 8)

-- the bits of b, but where i / n is even the bit of a that stands n places higher
abbrev pub upper_bits : ℕ → List ℕ → List ℕ → List ℕ
upper_bits n a b = map (λ i. if i / n % 2 == 0 then slice_index a (i + n) else slice_index b i) (range_with_len 0 8)

-- c and d are slices a and b, once each byte of a has given its bits where i / n is odd for those
-- of b n places lower
pub record Exchanged (n : ℕ) (a b c d : List ℕ) : Type 0 where
  pub lower : (p : ℕ) → p < 16 → bits_at p c ≡ lower_bits n (bits_at p a) (bits_at p b)
  pub upper : (p : ℕ) → p < 16 → bits_at p d ≡ upper_bits n (bits_at p a) (bits_at p b)
