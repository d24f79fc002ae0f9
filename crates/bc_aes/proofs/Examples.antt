-- The example vectors of FIPS 197, appendices A and C, computed from the definitions.
use Rattle.std.proofs.Common.{◌≡◌, ℕ, refl, ◌*◌, List, [], ◌∷◌, map}
use Rattle.std.specs.List.{range_with_len}
use Rattle.bc_aes.specs.Field.{times_x, product_by, product, inverse}
use Rattle.bc_aes.specs.State.{affine, inv_affine, sub_byte, inv_sub_byte, sub_bytes, inv_sub_bytes, shift_rows, inv_shift_rows, mixed, mix_columns_by, add_round_key}
use Rattle.bc_aes.specs.KeyExpansion.{word, power_of_x, added_word, with_word, expanded, key_expansion}
use Rattle.bc_aes.specs.Cipher.{round, last_round, after_round, encipher_by, inv_round, inv_last_round, after_inv_round, decipher_by, encipher, decipher}

-- 00112233445566778899aabbccddeeff
abbrev plain : List ℕ
plain = map (λ i. 0x11 * i) (range_with_len 0 16)

abbrev cipher_128 : List ℕ
cipher_128 = 0x69 ∷ 0xc4 ∷ 0xe0 ∷ 0xd8 ∷ 0x6a ∷ 0x7b ∷ 0x04 ∷ 0x30 ∷ 0xd8 ∷ 0xcd ∷ 0xb7 ∷ 0x80 ∷ 0x70 ∷ 0xb4 ∷ 0xc5 ∷ 0x5a ∷ []

abbrev cipher_256 : List ℕ
cipher_256 = 0x8e ∷ 0xa2 ∷ 0xb7 ∷ 0xca ∷ 0x51 ∷ 0x67 ∷ 0x45 ∷ 0xbf ∷ 0xea ∷ 0xfc ∷ 0x49 ∷ 0x90 ∷ 0x4b ∷ 0x49 ∷ 0x60 ∷ 0x89 ∷ []

-- C.1: the key 00 to 0f
aes_128 : encipher 4 (range_with_len 0 16) plain ≡ cipher_128
unfolding times_x product_by product inverse affine sub_byte sub_bytes shift_rows mixed mix_columns_by add_round_key power_of_x added_word with_word expanded key_expansion round last_round after_round encipher_by encipher
aes_128 = refl

aes_128_back : decipher 4 (range_with_len 0 16) cipher_128 ≡ plain
unfolding times_x product_by product inverse affine inv_affine sub_byte inv_sub_byte inv_sub_bytes inv_shift_rows mixed mix_columns_by add_round_key power_of_x added_word with_word expanded key_expansion inv_round inv_last_round after_inv_round decipher_by decipher
aes_128_back = refl

-- C.3: the key 00 to 1f
aes_256 : encipher 8 (range_with_len 0 32) plain ≡ cipher_256
unfolding times_x product_by product inverse affine sub_byte sub_bytes shift_rows mixed mix_columns_by add_round_key power_of_x added_word with_word expanded key_expansion round last_round after_round encipher_by encipher
aes_256 = refl

aes_256_back : decipher 8 (range_with_len 0 32) cipher_256 ≡ plain
unfolding times_x product_by product inverse affine inv_affine sub_byte inv_sub_byte inv_sub_bytes inv_shift_rows mixed mix_columns_by add_round_key power_of_x added_word with_word expanded key_expansion inv_round inv_last_round after_inv_round decipher_by decipher
aes_256_back = refl

-- A.3
abbrev key_a3 : List ℕ
key_a3 =
    0x60 ∷ 0x3d ∷ 0xeb ∷ 0x10 ∷ 0x15 ∷ 0xca ∷ 0x71 ∷ 0xbe ∷ 0x2b ∷ 0x73 ∷ 0xae ∷ 0xf0 ∷ 0x85 ∷ 0x7d ∷ 0x77 ∷ 0x81
    ∷ 0x1f ∷ 0x35 ∷ 0x2c ∷ 0x07 ∷ 0x3b ∷ 0x61 ∷ 0x08 ∷ 0xd7 ∷ 0x2d ∷ 0x98 ∷ 0x10 ∷ 0xa3 ∷ 0x09 ∷ 0x14 ∷ 0xdf ∷ 0xf4 ∷ []

w8_of_a3 : word (key_expansion 8 key_a3) 8 ≡ 0x9b ∷ 0xa3 ∷ 0x54 ∷ 0x11 ∷ []
unfolding times_x product_by product inverse affine sub_byte power_of_x added_word with_word expanded key_expansion
w8_of_a3 = refl

w59_of_a3 : word (key_expansion 8 key_a3) 59 ≡ 0x70 ∷ 0x6c ∷ 0x63 ∷ 0x1e ∷ []
unfolding times_x product_by product inverse affine sub_byte power_of_x added_word with_word expanded key_expansion
w59_of_a3 = refl
