-- The constant of the S-box among the round keys: it passes through each step of a round, and goes where it is added twice.
use Rattle.std.proofs.Common.{◌≡◌, ℕ, zero, suc, ◌<◌, List, length, refl, sym, ap, ◌∙◌, arith, bit_xor}
use Rattle.std.specs.Int.Bits.{xor_zero_r, xor_self}
use Rattle.std.proofs.lemmas.Nat.{xor_comm}
use Rattle.bc_aes.specs.Field.{times_x, product_by, product}
use Rattle.bc_aes.specs.State.{at, state_of, mixed, sub_bytes, inv_sub_bytes, shift_rows, inv_shift_rows, mix_columns_by, mix_columns, inv_mix_columns, mixing_row, inv_mixing_row, add_round_key}
use Rattle.bc_aes.specs.Cipher.{round, last_round, inv_round, inv_last_round}
use Rattle.bc_aes.specs.Slices.{sliced_block}
use Rattle.bc_aes.specs.SlicedRounds.{constant, raised, bare_sub_bytes, bare_inv_sub_bytes, raised_round, raised_last_round, raised_inv_round, raised_inv_last_round, key_in_slices}
use Rattle.bc_aes.proofs.FieldLemmas.{xor_assoc}
use Rattle.bc_aes.proofs.WordLemmas.{four}
use Rattle.bc_aes.proofs.RoundLemmas.{joined, mix_columns_by-add}
use Rattle.bc_aes.proofs.UndoLemmas.{add_round_key-twice}

-- sums of states, byte by byte
by_bytes : (f g : ℕ → ℕ → ℕ) → ((r c : ℕ) → f r c ≡ g r c) → state_of f ≡ state_of g
by_bytes f g same =
    joined (four (same 0 0) (same 1 0) (same 2 0) (same 3 0)) (four (same 0 1) (same 1 1) (same 2 1) (same 3 1))
    (four (same 0 2) (same 1 2) (same 2 2) (same 3 2)) (four (same 0 3) (same 1 3) (same 2 3) (same 3 3))

exchanged : (x y z : ℕ) → bit_xor (bit_xor x y) z ≡ bit_xor x (bit_xor z y)
exchanged x y z = xor_assoc x y z ∙ ap (bit_xor x) (xor_comm y z)

-- what is added to the state may be added to the key
pub add-raised : (state key : List ℕ) → add_round_key (raised state) key ≡ add_round_key state (raised key)
unfolding add_round_key
add-raised state key = by_bytes _ _ (λ r c. exchanged (at state r c) (at constant r c) (at key r c))

-- and to the sum
pub add-key_raised : (state key : List ℕ) → add_round_key state (raised key) ≡ raised (add_round_key state key)
unfolding add_round_key
add-key_raised state key = by_bytes _ _ (λ r c. sym (xor_assoc (at state r c) (at key r c) (at constant r c)))

-- twice is not at all
pub add-key_twice : (state key : List ℕ) → add_round_key state (raised (raised key)) ≡ add_round_key state key
unfolding add_round_key
add-key_twice state key =
    by_bytes _ _ (λ r c. ap (bit_xor (at state r c))
    (xor_assoc (at key r c) (at constant r c) (at constant r c) ∙ ap (bit_xor (at key r c)) (xor_self (at constant r c)) ∙ xor_zero_r (at key r c)))

mixed_constant : mix_columns constant ≡ constant
unfolding mixed product product_by times_x mix_columns_by
mixed_constant = refl

unmixed_constant : inv_mix_columns constant ≡ constant
unfolding mixed product product_by times_x mix_columns_by
unmixed_constant = refl

mix-raised : (state : List ℕ) → mix_columns (raised state) ≡ raised (mix_columns state)
mix-raised state = mix_columns_by-add mixing_row state constant ∙ ap (add_round_key (mix_columns state)) mixed_constant

unmix-raised : (state : List ℕ) → inv_mix_columns (raised state) ≡ raised (inv_mix_columns state)
unmix-raised state = mix_columns_by-add inv_mixing_row state constant ∙ ap (add_round_key (inv_mix_columns state)) unmixed_constant

length-unmixed : (state : List ℕ) → length (inv_mix_columns state) ≡ 16
unfolding mix_columns_by
length-unmixed state = refl

-- ---- the S-box

bare-sub_bytes : (slices : List (List ℕ)) (k : ℕ) → bare_sub_bytes (shift_rows (sliced_block slices k)) ≡ raised (shift_rows (sub_bytes (sliced_block slices k)))
unfolding bare_sub_bytes sub_bytes shift_rows add_round_key
bare-sub_bytes slices k = refl

bare-inv_sub_bytes : (slices : List (List ℕ)) (k : ℕ)
    → bare_inv_sub_bytes (inv_shift_rows (sliced_block slices k)) ≡ inv_sub_bytes (inv_shift_rows (raised (sliced_block slices k)))
unfolding bare_inv_sub_bytes inv_sub_bytes inv_shift_rows add_round_key
bare-inv_sub_bytes slices k = refl

-- ---- the rounds

pub round-raised : (slices : List (List ℕ)) (k : ℕ) (key : List ℕ)
    → add_round_key (mix_columns (bare_sub_bytes (shift_rows (sliced_block slices k)))) key ≡ raised_round (sliced_block slices k) key
unfolding raised_round round
round-raised slices k key =
    let s : List ℕ = shift_rows (sub_bytes (sliced_block slices k)) in
    ap (λ (x : List ℕ). add_round_key (mix_columns x) key) (bare-sub_bytes slices k)
    ∙ ap (λ (x : List ℕ). add_round_key x key) (mix-raised s) ∙ add-raised (mix_columns s) key

pub last_round-raised : (slices : List (List ℕ)) (k : ℕ) (key : List ℕ)
    → add_round_key (bare_sub_bytes (shift_rows (sliced_block slices k))) key ≡ raised_last_round (sliced_block slices k) key
unfolding raised_last_round last_round
last_round-raised slices k key =
    ap (λ (x : List ℕ). add_round_key x key) (bare-sub_bytes slices k) ∙ add-raised (shift_rows (sub_bytes (sliced_block slices k))) key

pub inv_round-raised : (slices : List (List ℕ)) (k : ℕ) (key : List ℕ)
    → inv_mix_columns (add_round_key (bare_inv_sub_bytes (inv_shift_rows (sliced_block slices k))) key) ≡ raised_inv_round (sliced_block slices k) key
unfolding raised_inv_round inv_round
inv_round-raised slices k key =
    let s : List ℕ = inv_sub_bytes (inv_shift_rows (raised (sliced_block slices k))) in
    let sum : List ℕ = add_round_key s key in
    ap (λ (x : List ℕ). inv_mix_columns (add_round_key x key)) (bare-inv_sub_bytes slices k)
    ∙ sym (ap raised (ap (λ (x : List ℕ). inv_mix_columns x) (add-key_raised s key) ∙ unmix-raised sum)
    ∙ add_round_key-twice (inv_mix_columns sum) constant (length-unmixed sum))

pub inv_last_round-raised : (slices : List (List ℕ)) (k : ℕ) (key : List ℕ)
    → add_round_key (bare_inv_sub_bytes (inv_shift_rows (sliced_block slices k))) key ≡ raised_inv_last_round (sliced_block slices k) key
unfolding raised_inv_last_round inv_last_round
inv_last_round-raised slices k key = ap (λ (x : List ℕ). add_round_key x key) (bare-inv_sub_bytes slices k)

-- ---- under the keys in slices

pub key-later : (n : ℕ) (key : List ℕ) → 0 < n → key_in_slices n key ≡ raised key
key-later zero key h = absurd (omega arith)
key-later (suc n) key h = refl

pub round-under : (state key : List ℕ) → raised_round state (raised key) ≡ round state key
unfolding raised_round round
round-under state key = add-key_twice (mix_columns (shift_rows (sub_bytes state))) key

pub last_round-under : (state key : List ℕ) → raised_last_round state (raised key) ≡ last_round state key
unfolding raised_last_round last_round
last_round-under state key = add-key_twice (shift_rows (sub_bytes state)) key

pub inv_round-under : (state key : List ℕ) → raised (raised_inv_round state (raised key)) ≡ inv_round (raised state) key
unfolding raised_inv_round inv_round
inv_round-under state key =
    let s : List ℕ = inv_sub_bytes (inv_shift_rows (raised state)) in
    add_round_key-twice (inv_mix_columns (add_round_key s (raised (raised key)))) constant (length-unmixed (add_round_key s (raised (raised key))))
    ∙ ap (λ (x : List ℕ). inv_mix_columns x) (add-key_twice s key)

pub inv_last_round-under : (state key : List ℕ) → raised_inv_last_round state key ≡ inv_last_round (raised state) key
unfolding raised_inv_last_round
inv_last_round-under state key = refl
