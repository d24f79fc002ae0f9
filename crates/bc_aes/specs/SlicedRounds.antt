-- Private: the contracts of private functions alone speak of these. What the parts of a round do to
-- eight blocks in bit slices, and a key's round keys in slices.
use Rattle.std.specs.Prelude.{◌≡◌, ℕ, zero, suc, ◌+◌, ◌-◌, ◌%◌, ◌<◌, List, length, map, take, replicate, slice_index_or, bit_xor}
use Rattle.bc_aes.specs.Field.{product}
use Rattle.bc_aes.specs.State.{at, state_of, sub_byte, inv_sub_byte, add_round_key}
use Rattle.bc_aes.specs.Cipher.{round, last_round, inv_round, inv_last_round, encipher_by, decipher_by}
use Rattle.bc_aes.specs.KeyExpansion.{key_expansion, round_key}
use Rattle.bc_aes.specs.Columns.{schedule_bytes, IsUnmixed}
use Rattle.bc_aes.specs.Slices.{slices_of, sliced_block}
use Rattle.bc_aes.specs.declared.slices.Slices.{Slices}

-- each column moves up by n rows, round about
unfoldable pub turned : ℕ → List ℕ → List ℕ
turned n state = state_of (λ r c. at state ((r + n) % 4) c)

-- each byte multiplied by x
unfoldable pub doubled : List ℕ → List ℕ
doubled state = map (product 2) state

-- The constant of the S-box, 0x63 in each byte, is added with the round keys and not with each
-- S-box: rows and columns that move or mix leave it as it is.
abbrev pub constant : List ℕ
constant = replicate 16 0x63

-- SubBytes without it
unfoldable pub bare_sub_bytes : List ℕ → List ℕ
bare_sub_bytes state = map (λ b. bit_xor (sub_byte b) 0x63) state

-- InvSubBytes of what it was added to
unfoldable pub bare_inv_sub_bytes : List ℕ → List ℕ
bare_inv_sub_bytes state = map (λ b. inv_sub_byte (bit_xor b 0x63)) state

-- a sum with it
abbrev pub raised : List ℕ → List ℕ
raised state = add_round_key state constant

-- a round under a key that has it
unfoldable pub raised_round : List ℕ → List ℕ → List ℕ
raised_round state key = round state (raised key)

-- the last round under a key that has it
unfoldable pub raised_last_round : List ℕ → List ℕ → List ℕ
raised_last_round state key = last_round state (raised key)

-- the inverse of a round, of a state that has it, under a key that has it
unfoldable pub raised_inv_round : List ℕ → List ℕ → List ℕ
raised_inv_round state key = raised (inv_round (raised state) (raised key))

-- the inverse of the last round, of a state that has it
unfoldable pub raised_inv_last_round : List ℕ → List ℕ → List ℕ
raised_inv_last_round state key = inv_last_round (raised state) key

-- every round key has it but the first
abbrev pub key_in_slices : ℕ → List ℕ → List ℕ
key_in_slices zero key = key
key_in_slices (suc n) key = raised key

-- each block of the new slices is `f` of that block of the old ones and that block of the key
pub record EachSlicedByKey (f : List ℕ → List ℕ → List ℕ) (old key new : List (List ℕ)) : Type 0 where
  pub each : (k : ℕ) → k < 8 → sliced_block new k ≡ f (sliced_block old k) (sliced_block key k)

-- the round keys of a schedule, each of them in all eight blocks, with the constant but for the
-- first
pub record AreRoundKeys (schedule : List ℕ) (keys : List Slices) : Type 0 where
  pub each : (round k : ℕ) (d : Slices) → round < length keys → k < 8
      → sliced_block (slices_of (slice_index_or keys round d)) k ≡ key_in_slices round (round_key schedule round)

-- encipherment under a schedule of as many rounds as these round keys have
abbrev pub encipher_by_keys : List Slices → List ℕ → List ℕ → List ℕ
encipher_by_keys keys schedule = encipher_by (length keys - 1) schedule

-- decipherment under such a schedule
abbrev pub decipher_by_keys : List Slices → List ℕ → List ℕ → List ℕ
decipher_by_keys keys schedule = decipher_by (length keys - 1) schedule

-- a key of nk words, the first words of its schedule, in the form that the rounds on pieces take
pub record IsSliced (nk : ℕ) (words : List ℕ) (sliced : List Slices) : Type 0 where
  pub schedule_is : schedule_bytes words ≡ key_expansion nk (schedule_bytes (take nk words))
  pub sliced_is : AreRoundKeys (schedule_bytes words) sliced

-- a key of nk words, the first words of its schedule, in the forms that the rounds take
pub record IsExpanded (nk : ℕ) (words unmixed : List ℕ) (sliced : List Slices) : Type 0 where
  pub schedule_is : schedule_bytes words ≡ key_expansion nk (schedule_bytes (take nk words))
  pub unmixed_is : IsUnmixed words unmixed
  pub sliced_is : AreRoundKeys (schedule_bytes words) sliced
