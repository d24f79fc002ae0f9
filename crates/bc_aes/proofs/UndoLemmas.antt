-- Each transformation of the state is undone by its inverse.
use Rattle.std.proofs.Common.{◌≡◌, ℕ, suc, ◌+◌, ◌*◌, ◌/◌, ◌%◌, ◌<◌, List, [], ◌∷◌, length, map, refl, sym, ap, ap₂, ◌∙◌, arith, bit_xor}
use Rattle.std.specs.Prelude.{slice_index}
use Rattle.std.specs.Int.Bits.{xor_zero_r, xor_self}
use Rattle.std.proofs.lemmas.List.FromFn.{fill_by_all}
use Rattle.bc_aes.specs.Field.{times_x, product_by, product}
use Rattle.bc_aes.specs.State.{at, state_of, mixed, sub_byte, inv_sub_byte, sub_bytes, inv_sub_bytes, shift_rows, inv_shift_rows, mix_columns_by, mix_columns, inv_mix_columns, mixing_row, inv_mixing_row, add_round_key}
use Rattle.bc_aes.proofs.FieldLemmas.{xor_assoc}
use Rattle.bc_aes.proofs.WordLemmas.{four}
use Rattle.bc_aes.proofs.RoundLemmas.{joined}
use Rattle.bc_aes.proofs.ColumnLemmas.{OfColumn, TakesSums, row, row-sums, mixed-sums, AgreeAlone, rows_agree}
use Rattle.bc_aes.proofs.ByteLemmas.{Small}
use Rattle.bc_aes.proofs.TableLemmas.{inv_sub_byte-sub_byte, sub_byte-inv_sub_byte}

-- a list of 16 is the state of its bytes
pub state_of-at : (s : List ℕ) → length s ≡ 16 → state_of (at s) ≡ s
state_of-at s long =
    sym (fill_by_all (λ i. at s (i % 4) (i / 4)) s 16 0 long
    (λ k h. let place : k ≡ k % 4 + 4 * (k / 4) = omega arith in ap (λ (n : ℕ). slice_index s n) place))

-- ---- SubBytes

undone : (f g : ℕ → ℕ) → ((n : ℕ) → n < 256 → f (g n) ≡ n) → (xs : List ℕ) → Small xs → map f (map g xs) ≡ xs
undone f g back [] h = refl
undone f g back (x ∷ xs) h = ap₂ (λ (y : ℕ) (ys : List ℕ). y ∷ ys) (back x (h 0)) (undone f g back xs (λ i. h (suc i)))

pub inv_sub_bytes-sub_bytes : (s : List ℕ) → Small s → inv_sub_bytes (sub_bytes s) ≡ s
unfolding inv_sub_bytes sub_bytes
inv_sub_bytes-sub_bytes s h = undone inv_sub_byte sub_byte inv_sub_byte-sub_byte s h

pub sub_bytes-inv_sub_bytes : (s : List ℕ) → Small s → sub_bytes (inv_sub_bytes s) ≡ s
unfolding inv_sub_bytes sub_bytes
sub_bytes-inv_sub_bytes s h = undone sub_byte inv_sub_byte sub_byte-inv_sub_byte s h

-- ---- ShiftRows

pub inv_shift_rows-shift_rows : (s : List ℕ) → length s ≡ 16 → inv_shift_rows (shift_rows s) ≡ s
unfolding inv_shift_rows shift_rows
inv_shift_rows-shift_rows s h = state_of-at s h

pub shift_rows-inv_shift_rows : (s : List ℕ) → length s ≡ 16 → shift_rows (inv_shift_rows s) ≡ s
unfolding inv_shift_rows shift_rows
shift_rows-inv_shift_rows s h = state_of-at s h

-- ---- AddRoundKey

pub add_round_key-twice : (s k : List ℕ) → length s ≡ 16 → add_round_key (add_round_key s k) k ≡ s
unfolding add_round_key
add_round_key-twice s k h =
    let back : (r c : ℕ) → bit_xor (bit_xor (at s r c) (at k r c)) (at k r c) ≡ at s r c =
    λ r c. xor_assoc (at s r c) (at k r c) (at k r c) ∙ ap (λ (v : ℕ). bit_xor (at s r c) v) (xor_self (at k r c)) ∙ xor_zero_r (at s r c) in
    joined (four (back 0 0) (back 1 0) (back 2 0) (back 3 0)) (four (back 0 1) (back 1 1) (back 2 1) (back 3 1))
    (four (back 0 2) (back 1 2) (back 2 2) (back 3 2)) (four (back 0 3) (back 1 3) (back 2 3) (back 3 3)) ∙ state_of-at s h

-- ---- MixColumns

-- row r of a column multiplied by both matrices
twice : List ℕ → List ℕ → ℕ → OfColumn
twice m n r a b c d = mixed m r (mixed n 0 a b c d) (mixed n 1 a b c d) (mixed n 2 a b c d) (mixed n 3 a b c d)

twice-sums : (m n : List ℕ) (r : ℕ) → TakesSums (twice m n r)
unfolding twice
twice-sums m n r =
    let once : (q : ℕ) → TakesSums (mixed n q) = λ q. mixed-sums n q (row 0) (row 1) (row 2) (row 3) (row-sums 0) (row-sums 1) (row-sums 2) (row-sums 3) in
    mixed-sums m r (mixed n 0) (mixed n 1) (mixed n 2) (mixed n 3) (once 0) (once 1) (once 2) (once 3)

mixing_then_unmixing : AgreeAlone (twice inv_mixing_row mixing_row) row
unfolding twice mixed product product_by times_x
mixing_then_unmixing = refl

unmixing_then_mixing : AgreeAlone (twice mixing_row inv_mixing_row) row
unfolding twice mixed product product_by times_x
unmixing_then_mixing = refl

mix_columns_by-twice : (m n s : List ℕ) → AgreeAlone (twice m n) row → Small s → length s ≡ 16 → mix_columns_by m (mix_columns_by n s) ≡ s
unfolding mix_columns_by twice
mix_columns_by-twice m n s e h long =
    let column : (c : ℕ) → twice m n 0 (at s 0 c) (at s 1 c) (at s 2 c) (at s 3 c) ∷ twice m n 1 (at s 0 c) (at s 1 c) (at s 2 c) (at s 3 c)
    ∷ twice m n 2 (at s 0 c) (at s 1 c) (at s 2 c) (at s 3 c) ∷ twice m n 3 (at s 0 c) (at s 1 c) (at s 2 c) (at s 3 c) ∷ []
    ≡ at s 0 c ∷ at s 1 c ∷ at s 2 c ∷ at s 3 c ∷ [] =
    λ c.
    let same : (r : ℕ) → r < 4 → twice m n r (at s 0 c) (at s 1 c) (at s 2 c) (at s 3 c) ≡ row r (at s 0 c) (at s 1 c) (at s 2 c) (at s 3 c) =
    λ r lt. rows_agree (twice m n) row e (twice-sums m n) row-sums r (at s 0 c) (at s 1 c) (at s 2 c) (at s 3 c) lt (h (0 + 4 * c)) (h (1 + 4 * c)) (h (2 + 4 * c)) (h (3 + 4 * c)) in
    four (same 0 (omega arith)) (same 1 (omega arith)) (same 2 (omega arith)) (same 3 (omega arith)) in
    joined (column 0) (column 1) (column 2) (column 3) ∙ state_of-at s long

pub inv_mix_columns-mix_columns : (s : List ℕ) → Small s → length s ≡ 16 → inv_mix_columns (mix_columns s) ≡ s
inv_mix_columns-mix_columns s h long = mix_columns_by-twice inv_mixing_row mixing_row s mixing_then_unmixing h long

pub mix_columns-inv_mix_columns : (s : List ℕ) → Small s → length s ≡ 16 → mix_columns (inv_mix_columns s) ≡ s
mix_columns-inv_mix_columns s h long = mix_columns_by-twice mixing_row inv_mixing_row s unmixing_then_mixing h long
