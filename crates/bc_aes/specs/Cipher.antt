-- The block cipher AES: FIPS 197, sections 5.1 and 5.3. The key has nk words of 4 bytes: nk is 4
-- for AES-128 and 8 for AES-256. Keys and blocks are lists of bytes; a block is 16 bytes.
use Rattle.std.specs.Prelude.{ℕ, zero, suc, ◌-◌, List}
use Rattle.bc_aes.specs.State.{sub_bytes, inv_sub_bytes, shift_rows, inv_shift_rows, mix_columns, inv_mix_columns, add_round_key}
use Rattle.bc_aes.specs.KeyExpansion.{rounds, key_expansion, round_key}

-- one round: SubBytes, ShiftRows, MixColumns, AddRoundKey
unfoldable pub round : List ℕ → List ℕ → List ℕ
round state key = add_round_key (mix_columns (shift_rows (sub_bytes state))) key

-- the last round has no MixColumns
unfoldable pub last_round : List ℕ → List ℕ → List ℕ
last_round state key = add_round_key (shift_rows (sub_bytes state)) key

-- the state after round n, where round 0 adds its round key alone
unfoldable pub after_round : List ℕ → List ℕ → ℕ → List ℕ
after_round schedule block zero = add_round_key block (round_key schedule 0)
after_round schedule block (suc n) = round (after_round schedule block n) (round_key schedule (suc n))

-- encipherment of a block under a schedule of nr rounds (5.1, Cipher)
unfoldable pub encipher_by : ℕ → List ℕ → List ℕ → List ℕ
encipher_by nr schedule block = last_round (after_round schedule block (nr - 1)) (round_key schedule nr)

-- one round of the inverse: InvShiftRows, InvSubBytes, AddRoundKey, InvMixColumns
unfoldable pub inv_round : List ℕ → List ℕ → List ℕ
inv_round state key = inv_mix_columns (add_round_key (inv_sub_bytes (inv_shift_rows state)) key)

-- its last round has no InvMixColumns
unfoldable pub inv_last_round : List ℕ → List ℕ → List ℕ
inv_last_round state key = add_round_key (inv_sub_bytes (inv_shift_rows state)) key

-- the state after n rounds of the inverse, which takes the round keys from the last to the first
unfoldable pub after_inv_round : ℕ → List ℕ → List ℕ → ℕ → List ℕ
after_inv_round nr schedule block zero = add_round_key block (round_key schedule nr)
after_inv_round nr schedule block (suc n) =
    inv_round (after_inv_round nr schedule block n) (round_key schedule (nr - suc n))

-- decipherment of a block under a schedule of nr rounds (5.3, InvCipher)
unfoldable pub decipher_by : ℕ → List ℕ → List ℕ → List ℕ
decipher_by nr schedule block = inv_last_round (after_inv_round nr schedule block (nr - 1)) (round_key schedule 0)

-- AES enciphers a block under a key of nk words
unfoldable pub encipher : ℕ → List ℕ → List ℕ → List ℕ
encipher nk key block = encipher_by (rounds nk) (key_expansion nk key) block

-- AES deciphers a block under a key of nk words
unfoldable pub decipher : ℕ → List ℕ → List ℕ → List ℕ
decipher nk key block = decipher_by (rounds nk) (key_expansion nk key) block
