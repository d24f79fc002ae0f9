-- The transformations of the state of AES: FIPS 197, sections 5.1 and 5.3. The state has 16 bytes;
-- byte r + 4c is row r, column c.
use Rattle.std.specs.Prelude.{ℕ, ◌+◌, ◌-◌, ◌*◌, ◌/◌, ◌%◌, ◌^◌, List, [], ◌∷◌, map, sum, slice_index, bit_xor}
use Rattle.std.specs.List.{range_with_len}
use Rattle.std.specs.Int.{bit_at}
use Rattle.bc_aes.specs.Field.{product, inverse}

-- the byte in row r, column c
abbrev pub at : List ℕ → ℕ → ℕ → ℕ
at state r c = slice_index state (r + 4 * c)

-- the state whose byte in row r, column c is `byte r c`
abbrev pub state_of : (ℕ → ℕ → ℕ) → List ℕ
state_of byte = map (λ i. byte (i % 4) (i / 4)) (range_with_len 0 16)

-- the byte whose bits 0 to 7 are `bit 0` to `bit 7`
abbrev pub byte_of_bits : (ℕ → ℕ) → ℕ
byte_of_bits bit = sum (map (λ i. bit i * 2 ^ i) (range_with_len 0 8))

-- bit i becomes b_i + b_(i+4) + b_(i+5) + b_(i+6) + b_(i+7) + c_i, places modulo 8, with c the bits
-- of 0x63 (5.1.1)
unfoldable pub affine : ℕ → ℕ
affine b = byte_of_bits (λ i.
    (bit_at b i + bit_at b ((i + 4) % 8) + bit_at b ((i + 5) % 8) + bit_at b ((i + 6) % 8) + bit_at b ((i + 7) % 8)
    + bit_at 0x63 i) % 2)

-- what undoes it: bit i becomes b_(i+2) + b_(i+5) + b_(i+7) + d_i, with d the bits of 0x05 (5.3.2)
unfoldable pub inv_affine : ℕ → ℕ
inv_affine b = byte_of_bits (λ i.
    (bit_at b ((i + 2) % 8) + bit_at b ((i + 5) % 8) + bit_at b ((i + 7) % 8) + bit_at 0x05 i) % 2)

-- the S-box: the inverse of the byte, and then the affine map (5.1.1)
unfoldable pub sub_byte : ℕ → ℕ
sub_byte b = affine (inverse b)

-- the inverse S-box: the affine map undone, and then the inverse (5.3.2)
unfoldable pub inv_sub_byte : ℕ → ℕ
inv_sub_byte b = inverse (inv_affine b)

-- each byte through the S-box (5.1.1)
unfoldable pub sub_bytes : List ℕ → List ℕ
sub_bytes state = map sub_byte state

-- each byte through the inverse S-box (5.3.2)
unfoldable pub inv_sub_bytes : List ℕ → List ℕ
inv_sub_bytes state = map inv_sub_byte state

-- row r moves left by r columns, round about (5.1.2)
unfoldable pub shift_rows : List ℕ → List ℕ
shift_rows state = state_of (λ r c. at state r ((c + r) % 4))

-- row r moves right by r columns, round about (5.3.1)
unfoldable pub inv_shift_rows : List ℕ → List ℕ
inv_shift_rows state = state_of (λ r c. at state r ((c + 4 - r) % 4))

-- row r, column c of the circulant matrix with this first row: each row is the one above, moved
-- right by one
abbrev pub circulant : List ℕ → ℕ → ℕ → ℕ
circulant first_row r c = slice_index first_row ((c + 4 - r) % 4)

-- row r of the product of that matrix with the column of x0, x1, x2, x3
unfoldable pub mixed : List ℕ → ℕ → ℕ → ℕ → ℕ → ℕ → ℕ
mixed first_row r x0 x1 x2 x3 =
    bit_xor
    (bit_xor (bit_xor (product (circulant first_row r 0) x0) (product (circulant first_row r 1) x1))
    (product (circulant first_row r 2) x2))
    (product (circulant first_row r 3) x3)

-- each column multiplied by the circulant matrix with this first row
unfoldable pub mix_columns_by : List ℕ → List ℕ → List ℕ
mix_columns_by first_row state =
    state_of (λ r c. mixed first_row r (at state 0 c) (at state 1 c) (at state 2 c) (at state 3 c))

-- the first row of the matrix of MixColumns (5.1.3)
abbrev pub mixing_row : List ℕ
mixing_row = 0x02 ∷ 0x03 ∷ 0x01 ∷ 0x01 ∷ []

-- the first row of the matrix of InvMixColumns (5.3.3)
abbrev pub inv_mixing_row : List ℕ
inv_mixing_row = 0x0e ∷ 0x0b ∷ 0x0d ∷ 0x09 ∷ []

-- MixColumns (5.1.3)
abbrev pub mix_columns : List ℕ → List ℕ
mix_columns state = mix_columns_by mixing_row state

-- InvMixColumns (5.3.3)
abbrev pub inv_mix_columns : List ℕ → List ℕ
inv_mix_columns state = mix_columns_by inv_mixing_row state

-- the state plus the round key of 16 bytes (5.1.4)
unfoldable pub add_round_key : List ℕ → List ℕ → List ℕ
add_round_key state round_key = state_of (λ r c. bit_xor (at state r c) (at round_key r c))
