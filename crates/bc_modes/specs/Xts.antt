-- AES-256-XTS over one data unit of whole blocks (IEEE 1619, sections 5.3 and 5.4; no ciphertext is
-- ever stolen). A key has 64 bytes: the first 32 encipher the data, the last 32 the data unit's
-- number.
use Rattle.std.specs.Prelude.{ℕ, List, take, drop}
use Rattle.std.specs.List.{flat_map, range_with_len}
use Rattle.std.specs.Int.{w128, from_le_bytes, to_le_bytes}
use Rattle.bc_aes.specs.Cipher.{encipher, decipher}
use Rattle.bc_aes.specs.Blocks.{block}
use Rattle.bc_key.specs.DataUnitNumber.{iv_of}
use Rattle.bc_modes.specs.ByBlocks.{by_blocks, xor_bytes}
use Rattle.bc_modes.specs.Tweak.{tweak_at}

-- the block between two sums with its tweak: cipher(P xor T) xor T
abbrev pub between_tweaks : (List ℕ → List ℕ) → List ℕ → List ℕ → List ℕ
between_tweaks cipher tweak block = xor_bytes (cipher (xor_bytes block tweak)) tweak

-- T_j as a block: its 16 bytes, the lowest first
abbrev pub tweak_block : ℕ → ℕ → List ℕ
tweak_block first j = to_le_bytes w128 (tweak_at first j)

-- T_0 to T_(n - 1), one after the other
abbrev pub tweak_bytes : ℕ → ℕ → List ℕ
tweak_bytes first n = flat_map (tweak_block first) (range_with_len 0 n)

-- block j between two sums with T_j, for each block of the text
unfoldable pub tweaked : (List ℕ → List ℕ) → ℕ → List ℕ → List ℕ
tweaked cipher first text = by_blocks text (λ j. between_tweaks cipher (tweak_block first j) (block text j))

-- T_0: the number's IV, enciphered under the second half of the key, its 16 bytes read lowest first
unfoldable pub first_tweak : List ℕ → ℕ → ℕ
first_tweak raw number = from_le_bytes w128 (encipher 8 (drop 32 raw) (iv_of number))

-- the ciphertext of a data unit: C_j = E(P_j xor T_j) xor T_j
unfoldable pub xts_encipher : List ℕ → ℕ → List ℕ → List ℕ
xts_encipher raw number text = tweaked (encipher 8 (take 32 raw)) (first_tweak raw number) text

-- the plaintext of a data unit: P_j = D(C_j xor T_j) xor T_j
unfoldable pub xts_decipher : List ℕ → ℕ → List ℕ → List ℕ
xts_decipher raw number text = tweaked (decipher 8 (take 32 raw)) (first_tweak raw number) text
