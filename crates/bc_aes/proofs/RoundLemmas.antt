-- The rounds over words are those over bytes.
use Rattle.std.proofs.Common.{◌≡◌, ℕ, zero, suc, ◌+◌, ◌-◌, ◌*◌, ◌<◌, ◌≤◌, List, [], ◌∷◌, ◌++◌, length, take, drop, refl, sym, ap, ap₂, ◌∙◌, arith, bit_xor}
use Rattle.std.specs.Prelude.{slice_index}
use Rattle.std.specs.Int.{byte_at}
use Rattle.std.proofs.lemmas.List.{drop_more}
use Rattle.bc_aes.specs.State.{at, circulant, mixed, sub_byte, inv_sub_byte, sub_bytes, inv_sub_bytes, shift_rows, inv_shift_rows, mix_columns_by, mix_columns, inv_mix_columns, mixing_row, inv_mixing_row, add_round_key}
use Rattle.bc_aes.specs.KeyExpansion.{round_key, xor_word}
use Rattle.bc_aes.specs.Cipher.{round, after_round, inv_round, after_inv_round}
use Rattle.bc_aes.specs.Columns.{column, state_bytes, schedule_bytes, mixed_column, IsUnmixed}
use Rattle.bc_aes.proofs.WordLemmas.{four, column-xor}
use Rattle.bc_aes.specs.Field.{product}
use Rattle.bc_aes.proofs.FieldLemmas.{product-xor, sums_of_four}

-- four columns that agree
pub joined : {p q r s p' q' r' s' : List ℕ} → p ≡ p' → q ≡ q' → r ≡ r' → s ≡ s' → p ++ (q ++ (r ++ s)) ≡ p' ++ (q' ++ (r' ++ s'))
joined e f g h = cc

pub state_bytes-xor : (s k : List ℕ)
    → state_bytes (bit_xor (slice_index s 0) (slice_index k 0) ∷ bit_xor (slice_index s 1) (slice_index k 1) ∷ bit_xor (slice_index s 2) (slice_index k 2) ∷ bit_xor (slice_index s 3) (slice_index k 3) ∷ [])
    ≡ add_round_key (state_bytes s) (state_bytes k)
unfolding add_round_key
state_bytes-xor s k =
    joined (column-xor (slice_index s 0) (slice_index k 0)) (column-xor (slice_index s 1) (slice_index k 1))
    (column-xor (slice_index s 2) (slice_index k 2)) (column-xor (slice_index s 3) (slice_index k 3))

-- SubBytes, ShiftRows and MixColumns, column by column
pub state_bytes-mixed : (s : List ℕ) (m0 m1 m2 m3 : ℕ) → let a : ℕ = slice_index s 0 in let b : ℕ = slice_index s 1 in let c : ℕ = slice_index s 2 in let d : ℕ = slice_index s 3 in
    (column m0 ≡ mixed_column mixing_row (sub_byte (byte_at 0 a)) (sub_byte (byte_at 1 b)) (sub_byte (byte_at 2 c)) (sub_byte (byte_at 3 d)))
    → (column m1 ≡ mixed_column mixing_row (sub_byte (byte_at 0 b)) (sub_byte (byte_at 1 c)) (sub_byte (byte_at 2 d)) (sub_byte (byte_at 3 a)))
    → (column m2 ≡ mixed_column mixing_row (sub_byte (byte_at 0 c)) (sub_byte (byte_at 1 d)) (sub_byte (byte_at 2 a)) (sub_byte (byte_at 3 b)))
    → (column m3 ≡ mixed_column mixing_row (sub_byte (byte_at 0 d)) (sub_byte (byte_at 1 a)) (sub_byte (byte_at 2 b)) (sub_byte (byte_at 3 c)))
    → state_bytes (m0 ∷ m1 ∷ m2 ∷ m3 ∷ []) ≡ mix_columns (shift_rows (sub_bytes (state_bytes s)))
unfolding sub_bytes shift_rows mix_columns_by
state_bytes-mixed s m0 m1 m2 m3 e f g h = joined e f g h

-- SubBytes and ShiftRows, column by column
pub state_bytes-substituted : (s : List ℕ) (m0 m1 m2 m3 : ℕ) → let a : ℕ = slice_index s 0 in let b : ℕ = slice_index s 1 in let c : ℕ = slice_index s 2 in let d : ℕ = slice_index s 3 in
    (column m0 ≡ sub_byte (byte_at 0 a) ∷ sub_byte (byte_at 1 b) ∷ sub_byte (byte_at 2 c) ∷ sub_byte (byte_at 3 d) ∷ [])
    → (column m1 ≡ sub_byte (byte_at 0 b) ∷ sub_byte (byte_at 1 c) ∷ sub_byte (byte_at 2 d) ∷ sub_byte (byte_at 3 a) ∷ [])
    → (column m2 ≡ sub_byte (byte_at 0 c) ∷ sub_byte (byte_at 1 d) ∷ sub_byte (byte_at 2 a) ∷ sub_byte (byte_at 3 b) ∷ [])
    → (column m3 ≡ sub_byte (byte_at 0 d) ∷ sub_byte (byte_at 1 a) ∷ sub_byte (byte_at 2 b) ∷ sub_byte (byte_at 3 c) ∷ [])
    → state_bytes (m0 ∷ m1 ∷ m2 ∷ m3 ∷ []) ≡ shift_rows (sub_bytes (state_bytes s))
unfolding sub_bytes shift_rows
state_bytes-substituted s m0 m1 m2 m3 e f g h = joined e f g h

-- InvShiftRows, InvSubBytes and InvMixColumns, column by column
pub state_bytes-unmixed : (s : List ℕ) (m0 m1 m2 m3 : ℕ) → let a : ℕ = slice_index s 0 in let b : ℕ = slice_index s 1 in let c : ℕ = slice_index s 2 in let d : ℕ = slice_index s 3 in
    (column m0 ≡ mixed_column inv_mixing_row (inv_sub_byte (byte_at 0 a)) (inv_sub_byte (byte_at 1 d)) (inv_sub_byte (byte_at 2 c)) (inv_sub_byte (byte_at 3 b)))
    → (column m1 ≡ mixed_column inv_mixing_row (inv_sub_byte (byte_at 0 b)) (inv_sub_byte (byte_at 1 a)) (inv_sub_byte (byte_at 2 d)) (inv_sub_byte (byte_at 3 c)))
    → (column m2 ≡ mixed_column inv_mixing_row (inv_sub_byte (byte_at 0 c)) (inv_sub_byte (byte_at 1 b)) (inv_sub_byte (byte_at 2 a)) (inv_sub_byte (byte_at 3 d)))
    → (column m3 ≡ mixed_column inv_mixing_row (inv_sub_byte (byte_at 0 d)) (inv_sub_byte (byte_at 1 c)) (inv_sub_byte (byte_at 2 b)) (inv_sub_byte (byte_at 3 a)))
    → state_bytes (m0 ∷ m1 ∷ m2 ∷ m3 ∷ []) ≡ inv_mix_columns (inv_sub_bytes (inv_shift_rows (state_bytes s)))
unfolding inv_sub_bytes inv_shift_rows mix_columns_by
state_bytes-unmixed s m0 m1 m2 m3 e f g h = joined e f g h

-- InvShiftRows and InvSubBytes, column by column
pub state_bytes-unsubstituted : (s : List ℕ) (m0 m1 m2 m3 : ℕ) → let a : ℕ = slice_index s 0 in let b : ℕ = slice_index s 1 in let c : ℕ = slice_index s 2 in let d : ℕ = slice_index s 3 in
    (column m0 ≡ inv_sub_byte (byte_at 0 a) ∷ inv_sub_byte (byte_at 1 d) ∷ inv_sub_byte (byte_at 2 c) ∷ inv_sub_byte (byte_at 3 b) ∷ [])
    → (column m1 ≡ inv_sub_byte (byte_at 0 b) ∷ inv_sub_byte (byte_at 1 a) ∷ inv_sub_byte (byte_at 2 d) ∷ inv_sub_byte (byte_at 3 c) ∷ [])
    → (column m2 ≡ inv_sub_byte (byte_at 0 c) ∷ inv_sub_byte (byte_at 1 b) ∷ inv_sub_byte (byte_at 2 a) ∷ inv_sub_byte (byte_at 3 d) ∷ [])
    → (column m3 ≡ inv_sub_byte (byte_at 0 d) ∷ inv_sub_byte (byte_at 1 c) ∷ inv_sub_byte (byte_at 2 b) ∷ inv_sub_byte (byte_at 3 a) ∷ [])
    → state_bytes (m0 ∷ m1 ∷ m2 ∷ m3 ∷ []) ≡ inv_sub_bytes (inv_shift_rows (state_bytes s))
unfolding inv_sub_bytes inv_shift_rows
state_bytes-unsubstituted s m0 m1 m2 m3 e f g h = joined e f g h

-- ---- the schedule as bytes

pub drop-schedule : (ws : List ℕ) (i : ℕ) → drop (4 * i) (schedule_bytes ws) ≡ schedule_bytes (drop i ws)
drop-schedule ws zero = refl
drop-schedule [] (suc i) = let e : 4 * suc i ≡ suc (4 * i + 3) = omega arith in ap (λ (n : ℕ). drop n []) e
drop-schedule (w ∷ ws) (suc i) =
    let e : 4 * suc i ≡ suc (suc (suc (suc (4 * i)))) = omega arith in
    ap (λ (n : ℕ). drop n (schedule_bytes (w ∷ ws))) e ∙ drop-schedule ws i

pub drop_next : (ws : List ℕ) (i j : ℕ) → i + 1 ≡ j → i < length ws → drop i ws ≡ slice_index ws i ∷ drop j ws
drop_next ws i j e h = drop_more ws i 0 h ∙ ap (λ (n : ℕ). slice_index ws i ∷ drop n ws) e

-- four words of a schedule
four_words : (ws : List ℕ) (i : ℕ) → i + 4 ≤ length ws
    → drop i ws ≡ slice_index ws i ∷ slice_index ws (i + 1) ∷ slice_index ws (i + 2) ∷ slice_index ws (i + 3) ∷ drop (i + 4) ws
four_words ws i h =
    drop_next ws i (i + 1) refl (omega arith)
    ∙ ap (λ (v : List ℕ). slice_index ws i ∷ v)
    (drop_next ws (i + 1) (i + 2) (omega arith) (omega arith)
    ∙ ap (λ (v : List ℕ). slice_index ws (i + 1) ∷ v)
    (drop_next ws (i + 2) (i + 3) (omega arith) (omega arith)
    ∙ ap (λ (v : List ℕ). slice_index ws (i + 2) ∷ v) (drop_next ws (i + 3) (i + 4) (omega arith) (omega arith))))

pub round_key-schedule : (ws : List ℕ) (round : ℕ) → 4 * round + 4 ≤ length ws
    → state_bytes (slice_index ws (4 * round) ∷ slice_index ws (4 * round + 1) ∷ slice_index ws (4 * round + 2) ∷ slice_index ws (4 * round + 3) ∷ []) ≡ round_key (schedule_bytes ws) round
round_key-schedule ws round h =
    let size : 16 * round + 16 - 16 * round ≡ 16 = omega arith in
    let place : 16 * round ≡ 4 * (4 * round) = omega arith in
    let here : drop (16 * round) (schedule_bytes ws) ≡ schedule_bytes (slice_index ws (4 * round) ∷ slice_index ws (4 * round + 1) ∷ slice_index ws (4 * round + 2) ∷ slice_index ws (4 * round + 3) ∷ drop (4 * round + 4) ws) =
    ap (λ (n : ℕ). drop n (schedule_bytes ws)) place ∙ drop-schedule ws (4 * round) ∙ ap (λ (v : List ℕ). schedule_bytes v) (four_words ws (4 * round) h) in
    sym (ap₂ (λ (n : ℕ) (v : List ℕ). take n v) size here)

-- ---- the state after the rounds

pub after_round-none : (schedule block : List ℕ) → after_round schedule block 0 ≡ add_round_key block (round_key schedule 0)
unfolding after_round
after_round-none schedule block = refl

pub after_round-more : (schedule block : List ℕ) (n : ℕ) → after_round schedule block (n + 1) ≡ round (after_round schedule block n) (round_key schedule (n + 1))
unfolding after_round
after_round-more schedule block n =
    let e : n + 1 ≡ suc n = omega arith in
    ap (λ (m : ℕ). after_round schedule block m) e ∙ ap (λ (m : ℕ). round (after_round schedule block n) (round_key schedule m)) (sym e)

-- ---- the inverse rounds: MixColumns takes sums to sums

pub mixed-xor : (m : List ℕ) (r x0 x1 x2 x3 k0 k1 k2 k3 : ℕ)
    → mixed m r (bit_xor x0 k0) (bit_xor x1 k1) (bit_xor x2 k2) (bit_xor x3 k3) ≡ bit_xor (mixed m r x0 x1 x2 x3) (mixed m r k0 k1 k2 k3)
unfolding mixed
mixed-xor m r x0 x1 x2 x3 k0 k1 k2 k3 =
    let c0 : ℕ = circulant m r 0 in
    let c1 : ℕ = circulant m r 1 in
    let c2 : ℕ = circulant m r 2 in
    let c3 : ℕ = circulant m r 3 in
    let e0 : product c0 (bit_xor x0 k0) ≡ bit_xor (product c0 x0) (product c0 k0) = product-xor c0 x0 k0 in
    let e1 : product c1 (bit_xor x1 k1) ≡ bit_xor (product c1 x1) (product c1 k1) = product-xor c1 x1 k1 in
    let e2 : product c2 (bit_xor x2 k2) ≡ bit_xor (product c2 x2) (product c2 k2) = product-xor c2 x2 k2 in
    let e3 : product c3 (bit_xor x3 k3) ≡ bit_xor (product c3 x3) (product c3 k3) = product-xor c3 x3 k3 in
    sums_of_four (product c0 x0) (product c1 x1) (product c2 x2) (product c3 x3) (product c0 k0) (product c1 k1) (product c2 k2) (product c3 k3) e0 e1 e2 e3

column-mixed : (m x k : List ℕ) (c : ℕ)
    → mixed_column m (bit_xor (at x 0 c) (at k 0 c)) (bit_xor (at x 1 c) (at k 1 c)) (bit_xor (at x 2 c) (at k 2 c)) (bit_xor (at x 3 c) (at k 3 c))
    ≡ xor_word (mixed_column m (at x 0 c) (at x 1 c) (at x 2 c) (at x 3 c)) (mixed_column m (at k 0 c) (at k 1 c) (at k 2 c) (at k 3 c))
column-mixed m x k c =
    let same : (r : ℕ) → mixed m r (bit_xor (at x 0 c) (at k 0 c)) (bit_xor (at x 1 c) (at k 1 c)) (bit_xor (at x 2 c) (at k 2 c)) (bit_xor (at x 3 c) (at k 3 c))
    ≡ bit_xor (mixed m r (at x 0 c) (at x 1 c) (at x 2 c) (at x 3 c)) (mixed m r (at k 0 c) (at k 1 c) (at k 2 c) (at k 3 c)) =
    λ r. mixed-xor m r (at x 0 c) (at x 1 c) (at x 2 c) (at x 3 c) (at k 0 c) (at k 1 c) (at k 2 c) (at k 3 c) in
    four (same 0) (same 1) (same 2) (same 3)

pub mix_columns_by-add : (m x k : List ℕ) → mix_columns_by m (add_round_key x k) ≡ add_round_key (mix_columns_by m x) (mix_columns_by m k)
unfolding mix_columns_by add_round_key
mix_columns_by-add m x k = joined (column-mixed m x k 0) (column-mixed m x k 1) (column-mixed m x k 2) (column-mixed m x k 3)

pub after_inv_round-none : (nr : ℕ) (schedule block : List ℕ) → after_inv_round nr schedule block 0 ≡ add_round_key block (round_key schedule nr)
unfolding after_inv_round
after_inv_round-none nr schedule block = refl

-- one more round, by the equivalent inverse cipher (5.3.5)
pub after_inv_round-more : (nr : ℕ) (schedule block : List ℕ) (n : ℕ)
    → after_inv_round nr schedule block (n + 1)
    ≡ add_round_key (inv_mix_columns (inv_sub_bytes (inv_shift_rows (after_inv_round nr schedule block n)))) (inv_mix_columns (round_key schedule (nr - (n + 1))))
unfolding after_inv_round inv_round
after_inv_round-more nr schedule block n =
    let e : n + 1 ≡ suc n = omega arith in
    let key : List ℕ = round_key schedule (nr - suc n) in
    let state : List ℕ = inv_sub_bytes (inv_shift_rows (after_inv_round nr schedule block n)) in
    ap (λ (m : ℕ). after_inv_round nr schedule block m) e ∙ mix_columns_by-add inv_mixing_row state key
    ∙ ap (λ (m : ℕ). add_round_key (inv_mix_columns state) (inv_mix_columns (round_key schedule (nr - m)))) (sym e)

-- a round key between the first and the last, unmixed
pub round_key-unmixed : (ws us : List ℕ) (round : ℕ) → IsUnmixed ws us → 0 < round → 4 * round + 8 ≤ length ws
    → round_key (schedule_bytes us) round ≡ inv_mix_columns (round_key (schedule_bytes ws) round)
unfolding mix_columns_by
round_key-unmixed ws us round h low high =
    let length_is : length us ≡ length ws = h.same_length in
    sym (round_key-schedule us round (omega arith))
    ∙ joined (h.between (4 * round) (omega arith) (omega arith)) (h.between (4 * round + 1) (omega arith) (omega arith))
    (h.between (4 * round + 2) (omega arith) (omega arith)) (h.between (4 * round + 3) (omega arith) (omega arith))
    ∙ ap (λ (k : List ℕ). inv_mix_columns k) (round_key-schedule ws round (omega arith))
