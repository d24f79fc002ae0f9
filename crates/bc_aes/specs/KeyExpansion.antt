-- Key expansion of AES: FIPS 197, section 5.2. A key of nk words of 4 bytes (4 for AES-128, 8 for
-- AES-256) becomes a schedule of 4 (nr + 1) words, one round key of four words for each of the
-- rounds 0 to nr.
use Rattle.std.specs.Prelude.{ℕ, zero, suc, ◌+◌, ◌-◌, ◌*◌, ◌/◌, ◌%◌, ◌==◌, ◌&&◌, if◌then◌else◌, List, [], ◌∷◌, ◌++◌, map, slice_index, slice_range, bit_xor}
use Rattle.bc_aes.specs.Field.{times_x}
use Rattle.bc_aes.specs.State.{sub_byte}

-- the number of rounds under a key of nk words (table of section 5)
abbrev pub rounds : ℕ → ℕ
rounds nk = nk + 6

-- word i of a schedule
abbrev pub word : List ℕ → ℕ → List ℕ
word schedule i = slice_range schedule (4 * i) (4 * i + 4)

-- the first byte moves to the end
abbrev pub rot_word : List ℕ → List ℕ
rot_word w = slice_index w 1 ∷ slice_index w 2 ∷ slice_index w 3 ∷ slice_index w 0 ∷ []

-- each byte through the S-box
abbrev pub sub_word : List ℕ → List ℕ
sub_word w = map sub_byte w

-- the sum of two words
abbrev pub xor_word : List ℕ → List ℕ → List ℕ
xor_word v w =
    bit_xor (slice_index v 0) (slice_index w 0) ∷ bit_xor (slice_index v 1) (slice_index w 1)
    ∷ bit_xor (slice_index v 2) (slice_index w 2) ∷ bit_xor (slice_index v 3) (slice_index w 3) ∷ []

-- x to the power n
unfoldable pub power_of_x : ℕ → ℕ
power_of_x zero = 1
power_of_x (suc n) = times_x (power_of_x n)

-- the round constant j: x^(j - 1), and zeros
abbrev pub rcon : ℕ → List ℕ
rcon j = power_of_x (j - 1) ∷ 0 ∷ 0 ∷ 0 ∷ []

-- what is added to word i - nk to make word i, where w is word i - 1
unfoldable pub added_word : ℕ → ℕ → List ℕ → List ℕ
added_word nk i w =
    if i % nk == 0
    then xor_word (sub_word (rot_word w)) (rcon (i / nk))
    else (if nk == 8 && i % 8 == 4 then sub_word w else w)

-- a schedule's first i words, with word i after them
unfoldable pub with_word : ℕ → ℕ → List ℕ → List ℕ
with_word nk i schedule = schedule ++ xor_word (word schedule (i - nk)) (added_word nk i (word schedule (i - 1)))

-- the key's words and n more
unfoldable pub expanded : ℕ → List ℕ → ℕ → List ℕ
expanded nk key zero = key
expanded nk key (suc n) = with_word nk (nk + n) (expanded nk key n)

-- the whole schedule, as bytes
unfoldable pub key_expansion : ℕ → List ℕ → List ℕ
key_expansion nk key = expanded nk key (4 * (rounds nk + 1) - nk)

-- the four words of a round
abbrev pub round_key : List ℕ → ℕ → List ℕ
round_key schedule round = slice_range schedule (16 * round) (16 * round + 16)
