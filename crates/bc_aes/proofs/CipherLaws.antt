-- Either direction of the cipher undoes the other.
use Rattle.std.proofs.Common.{◌≡◌, ℕ, zero, suc, ◌-◌, ◌*◌, ◌≤◌, List, length, refl, ap, ap₂, ◌∙◌, arith}
use Rattle.std.proofs.lemmas.List.{length-map}
use Rattle.bc_aes.specs.State.{sub_byte, inv_sub_byte, sub_bytes, inv_sub_bytes, shift_rows, inv_shift_rows, mix_columns_by, mix_columns, inv_mix_columns, mixing_row, inv_mixing_row, add_round_key}
use Rattle.bc_aes.specs.KeyExpansion.{rounds, key_expansion, round_key}
use Rattle.bc_aes.specs.Cipher.{round, last_round, after_round, encipher_by, inv_round, inv_last_round, after_inv_round, decipher_by, encipher, decipher}
use Rattle.bc_aes.specs.Laws.{IsBytes, DeciphermentUndoes, EnciphermentUndoes, EnciphermentMakesBlocks, DeciphermentMakesBlocks}
use Rattle.bc_aes.proofs.ByteLemmas.{Small, Small-from_All, All-from_Small, small_literal, small-sub_bytes, small-inv_sub_bytes, small-shift_rows, small-inv_shift_rows, small-mix_columns_by, small-add_round_key, small-round_key}
use Rattle.bc_aes.proofs.UndoLemmas.{inv_sub_bytes-sub_bytes, sub_bytes-inv_sub_bytes, inv_shift_rows-shift_rows, shift_rows-inv_shift_rows, add_round_key-twice, inv_mix_columns-mix_columns, mix_columns-inv_mix_columns}

-- ---- blocks: 16 bytes

record Block (s : List ℕ) : Type 0 where
  long : length s ≡ 16
  small : Small s

substituted : (s : List ℕ) → Block s → Block (sub_bytes s)
unfolding sub_bytes
substituted s h = record { long = length-map s sub_byte ∙ h.long; small = small-sub_bytes s h.small }

unsubstituted : (s : List ℕ) → Block s → Block (inv_sub_bytes s)
unfolding inv_sub_bytes
unsubstituted s h = record { long = length-map s inv_sub_byte ∙ h.long; small = small-inv_sub_bytes s h.small }

shifted : (s : List ℕ) → Small s → Block (shift_rows s)
unfolding shift_rows
shifted s h = record { long = refl; small = small-shift_rows s h }

unshifted : (s : List ℕ) → Small s → Block (inv_shift_rows s)
unfolding inv_shift_rows
unshifted s h = record { long = refl; small = small-inv_shift_rows s h }

mixed : (s : List ℕ) → Block (mix_columns s)
unfolding mix_columns_by
mixed s = record { long = refl; small = small-mix_columns_by mixing_row s (small_literal mixing_row refl) }

unmixed : (s : List ℕ) → Block (inv_mix_columns s)
unfolding mix_columns_by
unmixed s = record { long = refl; small = small-mix_columns_by inv_mixing_row s (small_literal inv_mixing_row refl) }

added : (s k : List ℕ) → Small s → Small k → Block (add_round_key s k)
unfolding add_round_key
added s k h g = record { long = refl; small = small-add_round_key s k h g }

-- SubBytes and ShiftRows, and back
moved : List ℕ → List ℕ
moved s = shift_rows (sub_bytes s)

moved_back : List ℕ → List ℕ
moved_back s = inv_sub_bytes (inv_shift_rows s)

moved_block : (s : List ℕ) → Block s → Block (moved s)
unfolding moved
moved_block s h = shifted (sub_bytes s) (substituted s h).small

moved_back_block : (s : List ℕ) → Block s → Block (moved_back s)
unfolding moved_back
moved_back_block s h = unsubstituted (inv_shift_rows s) (unshifted s h.small)

moved_back-moved : (s : List ℕ) → Block s → moved_back (moved s) ≡ s
unfolding moved moved_back
moved_back-moved s h =
    ap (λ (t : List ℕ). inv_sub_bytes t) (inv_shift_rows-shift_rows (sub_bytes s) (substituted s h).long) ∙ inv_sub_bytes-sub_bytes s h.small

moved-moved_back : (s : List ℕ) → Block s → moved (moved_back s) ≡ s
unfolding moved moved_back
moved-moved_back s h =
    ap (λ (t : List ℕ). shift_rows t) (sub_bytes-inv_sub_bytes (inv_shift_rows s) (unshifted s h.small).small) ∙ shift_rows-inv_shift_rows s h.long

-- ---- rounds

round_block : (s k : List ℕ) → Small k → Block (round s k)
unfolding round
round_block s k g = added (mix_columns (shift_rows (sub_bytes s))) k (mixed (shift_rows (sub_bytes s))).small g

inv_round_block : (s k : List ℕ) → Block (inv_round s k)
unfolding inv_round
inv_round_block s k = unmixed (add_round_key (inv_sub_bytes (inv_shift_rows s)) k)

-- a round of the inverse takes a round back
round_back : (s k : List ℕ) → Block s → Small k → inv_round (moved (round s k)) k ≡ moved s
unfolding round inv_round moved moved_back
round_back s k h g =
    let mixed_state : List ℕ = mix_columns (moved s) in
    ap (λ (t : List ℕ). inv_mix_columns (add_round_key t k)) (moved_back-moved (round s k) (round_block s k g))
    ∙ ap (λ (t : List ℕ). inv_mix_columns t) (add_round_key-twice mixed_state k (mixed (moved s)).long)
    ∙ inv_mix_columns-mix_columns (moved s) (moved_block s h).small (moved_block s h).long

-- and a round takes a round of the inverse back
inv_round_back : (s k : List ℕ) → Block s → Small k → round (moved_back (inv_round s k)) k ≡ moved_back s
unfolding round inv_round moved moved_back
inv_round_back s k h g =
    let sum : List ℕ = add_round_key (moved_back s) k in
    let sum_block : Block sum = added (moved_back s) k (moved_back_block s h).small g in
    ap (λ (t : List ℕ). add_round_key (mix_columns t) k) (moved-moved_back (inv_round s k) (inv_round_block s k))
    ∙ ap (λ (t : List ℕ). add_round_key t k) (mix_columns-inv_mix_columns sum sum_block.small sum_block.long)
    ∙ add_round_key-twice (moved_back s) k (moved_back_block s h).long

-- ---- the states, under a schedule whose round keys are bytes

Keys : List ℕ → Type 0
Keys w = (r : ℕ) → Small (round_key w r)

after_block : (w block : List ℕ) (n : ℕ) → Keys w → Small block → Block (after_round w block n)
unfolding after_round Keys
after_block w block zero g h = added block (round_key w 0) h (g 0)
after_block w block (suc n) g h = round_block (after_round w block n) (round_key w (suc n)) (g (suc n))

after_inv_block : (nr : ℕ) (w block : List ℕ) (n : ℕ) → Keys w → Small block → Block (after_inv_round nr w block n)
unfolding after_inv_round Keys
after_inv_block nr w block zero g h = added block (round_key w nr) h (g nr)
after_inv_block nr w block (suc n) g h = inv_round_block (after_inv_round nr w block n) (round_key w (nr - suc n))

-- the states of the inverse are those of the cipher, in reverse
states_back : (nr : ℕ) (w block : List ℕ) (n : ℕ) → Keys w → Small block → n ≤ nr - 1
    → after_inv_round nr w (encipher_by nr w block) n ≡ moved (after_round w block (nr - 1 - n))
unfolding after_inv_round after_round encipher_by last_round moved Keys
states_back nr w block zero g h le =
    let s : List ℕ = after_round w block (nr - 1) in
    let none : nr - 1 ≡ nr - 1 - 0 = omega arith in
    add_round_key-twice (moved s) (round_key w nr) (moved_block s (after_block w block (nr - 1) g h)).long
    ∙ ap (λ (k : ℕ). moved (after_round w block k)) none
states_back nr w block (suc n) g h le =
    let m : ℕ = nr - 1 - suc n in
    let before : nr - 1 - n ≡ suc m = omega arith in
    let key : nr - suc n ≡ suc m = omega arith in
    ap₂ (λ (s : List ℕ) (k : ℕ). inv_round s (round_key w k))
    (states_back nr w block n g h (omega arith) ∙ ap (λ (k : ℕ). moved (after_round w block k)) before) key
    ∙ round_back (after_round w block m) (round_key w (suc m)) (after_block w block m g h) (g (suc m))

decipher_back : (nr : ℕ) (w block : List ℕ) → Keys w → Small block → length block ≡ 16 → decipher_by nr w (encipher_by nr w block) ≡ block
unfolding decipher_by inv_last_round after_round moved_back Keys
decipher_back nr w block g h long =
    let last : nr - 1 - (nr - 1) ≡ 0 = omega arith in
    ap (λ (s : List ℕ). add_round_key (moved_back s) (round_key w 0))
    (states_back nr w block (nr - 1) g h (omega arith) ∙ ap (λ (k : ℕ). moved (after_round w block k)) last)
    ∙ ap (λ (s : List ℕ). add_round_key s (round_key w 0)) (moved_back-moved (after_round w block 0) (after_block w block 0 g h))
    ∙ add_round_key-twice block (round_key w 0) long

-- and the contrary
states_forth : (nr : ℕ) (w block : List ℕ) (n : ℕ) → Keys w → Small block → n ≤ nr - 1
    → after_round w (decipher_by nr w block) n ≡ moved_back (after_inv_round nr w block (nr - 1 - n))
unfolding after_inv_round after_round decipher_by inv_last_round moved_back Keys
states_forth nr w block zero g h le =
    let s : List ℕ = after_inv_round nr w block (nr - 1) in
    let none : nr - 1 ≡ nr - 1 - 0 = omega arith in
    add_round_key-twice (moved_back s) (round_key w 0) (moved_back_block s (after_inv_block nr w block (nr - 1) g h)).long
    ∙ ap (λ (k : ℕ). moved_back (after_inv_round nr w block k)) none
states_forth nr w block (suc n) g h le =
    let m : ℕ = nr - 1 - suc n in
    let before : nr - 1 - n ≡ suc m = omega arith in
    let key : suc n ≡ nr - suc m = omega arith in
    ap₂ (λ (s : List ℕ) (k : ℕ). round s (round_key w k))
    (states_forth nr w block n g h (omega arith) ∙ ap (λ (k : ℕ). moved_back (after_inv_round nr w block k)) before) key
    ∙ inv_round_back (after_inv_round nr w block m) (round_key w (nr - suc m)) (after_inv_block nr w block m g h) (g (nr - suc m))

encipher_back : (nr : ℕ) (w block : List ℕ) → Keys w → Small block → length block ≡ 16 → encipher_by nr w (decipher_by nr w block) ≡ block
unfolding encipher_by last_round after_inv_round moved Keys
encipher_back nr w block g h long =
    let last : nr - 1 - (nr - 1) ≡ 0 = omega arith in
    ap (λ (s : List ℕ). add_round_key (moved s) (round_key w nr))
    (states_forth nr w block (nr - 1) g h (omega arith) ∙ ap (λ (k : ℕ). moved_back (after_inv_round nr w block k)) last)
    ∙ ap (λ (s : List ℕ). add_round_key s (round_key w nr)) (moved-moved_back (after_inv_round nr w block 0) (after_inv_block nr w block 0 g h))
    ∙ add_round_key-twice block (round_key w nr) long

-- ---- the laws

keys : (nk : ℕ) (key : List ℕ) → IsBytes (4 * nk) key → Keys (key_expansion nk key)
unfolding Keys
keys nk key h r = small-round_key nk key r (Small-from_All key h.bytes_are)

pub decipherment_undoes : DeciphermentUndoes
unfolding encipher decipher
decipherment_undoes nk key block g h =
    decipher_back (rounds nk) (key_expansion nk key) block (keys nk key g) (Small-from_All block h.bytes_are) h.size_is

pub encipherment_undoes : EnciphermentUndoes
unfolding encipher decipher
encipherment_undoes nk key block g h =
    encipher_back (rounds nk) (key_expansion nk key) block (keys nk key g) (Small-from_All block h.bytes_are) h.size_is

block_bytes : (s : List ℕ) → Block s → IsBytes 16 s
block_bytes s h = record { size_is = h.long; bytes_are = All-from_Small s h.small }

pub encipherment_makes_blocks : EnciphermentMakesBlocks
unfolding encipher encipher_by last_round Keys
encipherment_makes_blocks nk key block g h =
    let w : List ℕ = key_expansion nk key in
    let s : List ℕ = after_round w block (rounds nk - 1) in
    let ok : Block s = after_block w block (rounds nk - 1) (keys nk key g) (Small-from_All block h.bytes_are) in
    block_bytes (add_round_key (shift_rows (sub_bytes s)) (round_key w (rounds nk)))
    (added (shift_rows (sub_bytes s)) (round_key w (rounds nk)) (shifted (sub_bytes s) (substituted s ok).small).small (keys nk key g (rounds nk)))

pub decipherment_makes_blocks : DeciphermentMakesBlocks
unfolding decipher decipher_by inv_last_round Keys
decipherment_makes_blocks nk key block g h =
    let w : List ℕ = key_expansion nk key in
    let s : List ℕ = after_inv_round (rounds nk) w block (rounds nk - 1) in
    let ok : Block s = after_inv_block (rounds nk) w block (rounds nk - 1) (keys nk key g) (Small-from_All block h.bytes_are) in
    block_bytes (add_round_key (inv_sub_bytes (inv_shift_rows s)) (round_key w 0))
    (added (inv_sub_bytes (inv_shift_rows s)) (round_key w 0) (unsubstituted (inv_shift_rows s) (unshifted s ok.small)).small (keys nk key g 0))
