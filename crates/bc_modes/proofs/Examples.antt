-- Computed from the definitions: tweak-doubling (IEEE 1619, section 5.2), and the first block of vector 10 of its annex B.
use Rattle.std.proofs.Common.{◌≡◌, ℕ, ◌^◌, List, [], ◌∷◌, refl}
use Rattle.std.specs.List.{range_with_len}
use Rattle.bc_aes.specs.Field.{times_x, product_by, product, inverse}
use Rattle.bc_aes.specs.State.{affine, sub_byte, sub_bytes, shift_rows, mixed, mix_columns_by, add_round_key}
use Rattle.bc_aes.specs.KeyExpansion.{power_of_x, added_word, with_word, expanded, key_expansion}
use Rattle.bc_aes.specs.Cipher.{round, last_round, after_round, encipher_by, encipher}
use Rattle.bc_modes.specs.Tweak.{remainder, tweak_at}
use Rattle.bc_modes.specs.Xts.{tweaked, first_tweak, xts_encipher}

doubled_one : tweak_at 1 1 ≡ 2
unfolding remainder tweak_at
doubled_one = refl

-- x^127 times x is x^7 + x^2 + x + 1
doubled_highest : tweak_at (2 ^ 127) 1 ≡ 0x87
unfolding remainder tweak_at
doubled_highest = refl

-- a bit goes from one byte to the next
doubled_byte : tweak_at 0x80 1 ≡ 0x100
unfolding remainder tweak_at
doubled_byte = refl

-- 27182818284590452353602874713526 62497757247093699959574966967627 and
-- 31415926535897932384626433832795 02884197169399375105820974944592
abbrev key : List ℕ
key =
    0x27 ∷ 0x18 ∷ 0x28 ∷ 0x18 ∷ 0x28 ∷ 0x45 ∷ 0x90 ∷ 0x45 ∷ 0x23 ∷ 0x53 ∷ 0x60 ∷ 0x28 ∷ 0x74 ∷ 0x71 ∷ 0x35 ∷ 0x26
    ∷ 0x62 ∷ 0x49 ∷ 0x77 ∷ 0x57 ∷ 0x24 ∷ 0x70 ∷ 0x93 ∷ 0x69 ∷ 0x99 ∷ 0x59 ∷ 0x57 ∷ 0x49 ∷ 0x66 ∷ 0x96 ∷ 0x76 ∷ 0x27
    ∷ 0x31 ∷ 0x41 ∷ 0x59 ∷ 0x26 ∷ 0x53 ∷ 0x58 ∷ 0x97 ∷ 0x93 ∷ 0x23 ∷ 0x84 ∷ 0x62 ∷ 0x64 ∷ 0x33 ∷ 0x83 ∷ 0x27 ∷ 0x95
    ∷ 0x02 ∷ 0x88 ∷ 0x41 ∷ 0x97 ∷ 0x16 ∷ 0x93 ∷ 0x99 ∷ 0x37 ∷ 0x51 ∷ 0x05 ∷ 0x82 ∷ 0x09 ∷ 0x74 ∷ 0x94 ∷ 0x45 ∷ 0x92 ∷ []

abbrev cipher_block : List ℕ
cipher_block = 0x1c ∷ 0x3b ∷ 0x3a ∷ 0x10 ∷ 0x2f ∷ 0x77 ∷ 0x03 ∷ 0x86 ∷ 0xe4 ∷ 0x83 ∷ 0x6c ∷ 0x99 ∷ 0xe3 ∷ 0x70 ∷ 0xcf ∷ 0x9b ∷ []

-- the bytes 00 to 0f, in data unit ff
xts_block : xts_encipher key 0xff (range_with_len 0 16) ≡ cipher_block
unfolding times_x product_by product inverse affine sub_byte sub_bytes shift_rows mixed mix_columns_by add_round_key power_of_x added_word with_word expanded key_expansion round last_round after_round encipher_by encipher remainder tweak_at tweaked first_tweak xts_encipher
xts_block = refl
