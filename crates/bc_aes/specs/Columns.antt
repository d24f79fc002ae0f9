-- Private: the contracts of private functions alone speak of these. The state and the schedule as
-- words of 32 bits, one for each column, with row 0 in the lowest byte.
use Rattle.std.specs.Prelude.{◌≡◌, ℕ, ◌+◌, ◌-◌, ◌/◌, ◌<◌, ◌≤◌, List, [], ◌∷◌, ◌++◌, length, slice_index}
use Rattle.std.specs.List.{flat_map}
use Rattle.std.specs.Int.{w32, to_le_bytes, from_le_bytes}
use Rattle.bc_aes.specs.Field.{product}
use Rattle.bc_aes.specs.State.{circulant, mixed, inv_mixing_row}
use Rattle.bc_aes.specs.Cipher.{encipher_by, decipher_by}

-- the bytes of a word, row 0 first
abbrev pub column : ℕ → List ℕ
column w = to_le_bytes w32 w

-- the word of four bytes
abbrev pub word_of : ℕ → ℕ → ℕ → ℕ → ℕ
word_of b0 b1 b2 b3 = from_le_bytes w32 (b0 ∷ b1 ∷ b2 ∷ b3 ∷ [])

-- the state of four words
abbrev pub state_bytes : List ℕ → List ℕ
state_bytes s = column (slice_index s 0) ++ (column (slice_index s 1)
    ++ (column (slice_index s 2) ++ column (slice_index s 3)))

-- the schedule of a list of words
abbrev pub schedule_bytes : List ℕ → List ℕ
schedule_bytes words = flat_map column words

-- encipherment under a schedule of words, four to a round key
abbrev pub encipher_by_words : List ℕ → List ℕ → List ℕ
encipher_by_words words = encipher_by (length words / 4 - 1) (schedule_bytes words)

-- decipherment under a schedule of words
abbrev pub decipher_by_words : List ℕ → List ℕ → List ℕ
decipher_by_words words = decipher_by (length words / 4 - 1) (schedule_bytes words)

-- what a byte in row j adds to its column, under the circulant matrix with this first row
abbrev pub part : List ℕ → ℕ → ℕ → ℕ
part first_row j y =
    word_of (product (circulant first_row 0 j) y) (product (circulant first_row 1 j) y)
    (product (circulant first_row 2 j) y) (product (circulant first_row 3 j) y)

-- the column of these bytes, multiplied by that matrix
abbrev pub mixed_column : List ℕ → ℕ → ℕ → ℕ → ℕ → List ℕ
mixed_column first_row y0 y1 y2 y3 =
    mixed first_row 0 y0 y1 y2 y3 ∷ mixed first_row 1 y0 y1 y2 y3 ∷ mixed first_row 2 y0 y1 y2 y3
    ∷ mixed first_row 3 y0 y1 y2 y3 ∷ []

-- InvMixColumns of one column
abbrev pub unmixed_column : List ℕ → List ℕ
unmixed_column bytes =
    mixed_column inv_mixing_row (slice_index bytes 0) (slice_index bytes 1) (slice_index bytes 2) (slice_index bytes 3)

-- the words of a schedule for decipherment: between the first and the last four, each column is
-- unmixed
pub record IsUnmixed (words unmixed : List ℕ) : Type 0 where
  pub same_length : length unmixed ≡ length words
  pub between : (i : ℕ) → 4 ≤ i → i + 4 < length words
      → column (slice_index unmixed i) ≡ unmixed_column (column (slice_index words i))
