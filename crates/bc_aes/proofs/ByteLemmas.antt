-- Lists of bytes: each transformation of bytes gives bytes.
use Rattle.std.proofs.Common.{◌≡◌, ℕ, zero, suc, ◌+◌, ◌-◌, ◌*◌, ◌/◌, ◌%◌, ◌<◌, ◌==◌, Bool, true, false, List, [], ◌∷◌, ◌++◌, length, map, get_or, take, drop, arith, bit_xor, inl, inr}
use Rattle.std.specs.Prelude.{slice_index, if◌then◌else◌, nat_lt, All, ◌&&◌, slice_range}
use Rattle.std.specs.List.{range_with_len, list_all}
use Rattle.std.proofs.lemmas.Bool.{cases_lt}
use Rattle.std.proofs.lemmas.Nat.{xor_lt}
use Rattle.std.proofs.lemmas.List.{get_or_past}
use Rattle.std.proofs.lemmas.List.Elements.{All-from_get_or}
use Rattle.bc_aes.specs.State.{circulant, mixed, sub_byte, inv_sub_byte, sub_bytes, inv_sub_bytes, shift_rows, inv_shift_rows, mix_columns_by, add_round_key}
use Rattle.bc_aes.specs.KeyExpansion.{word, rot_word, sub_word, xor_word, power_of_x, rcon, added_word, with_word, expanded, key_expansion, rounds, round_key}
use Rattle.bc_aes.proofs.FieldLemmas.{times_x_lt, product_lt}
use Rattle.bc_aes.proofs.TableLemmas.{small_at, sub_byte_lt, inv_sub_byte_lt}

-- each element is a byte, and so is what is read past the end
abbrev pub Small : List ℕ → Type 0
Small xs = (i : ℕ) → slice_index xs i < 256

pub Small-from_All : (xs : List ℕ) → All (λ b. b < 256) xs → Small xs
Small-from_All xs all i =
    elim (cases_lt i (length xs)) [
      | inl h ↦ all i 0 h
      | inr h ↦ let past : get_or xs i 0 ≡ 0 = get_or_past xs i 0 h in omega arith
    ]

pub All-from_Small : (xs : List ℕ) → Small xs → All (λ b. b < 256) xs
All-from_Small xs small = All-from_get_or (λ b. b < 256) xs 0 (λ i h. small i)

small_nil : Small []
small_nil i = omega arith

small_cons : (x : ℕ) (xs : List ℕ) → x < 256 → Small xs → Small (x ∷ xs)
small_cons x xs h small zero = h
small_cons x xs h small (suc i) = small i

small_four : (a b c d : ℕ) → a < 256 → b < 256 → c < 256 → d < 256 → Small (a ∷ b ∷ c ∷ d ∷ [])
small_four a b c d h k l m =
    small_cons a (b ∷ c ∷ d ∷ []) h (small_cons b (c ∷ d ∷ []) k (small_cons c (d ∷ []) l (small_cons d [] m small_nil)))

small_append : (xs ys : List ℕ) → Small xs → Small ys → Small (xs ++ ys)
small_append [] ys h k i = k i
small_append (x ∷ xs) ys h k zero = h zero
small_append (x ∷ xs) ys h k (suc i) = small_append xs ys (λ j. h (suc j)) k i

small_take : (n : ℕ) (xs : List ℕ) → Small xs → Small (take n xs)
small_take zero xs h i = small_nil i
small_take (suc n) [] h i = small_nil i
small_take (suc n) (x ∷ xs) h zero = h zero
small_take (suc n) (x ∷ xs) h (suc i) = small_take n xs (λ j. h (suc j)) i

small_drop : (n : ℕ) (xs : List ℕ) → Small xs → Small (drop n xs)
small_drop zero xs h = h
small_drop (suc n) [] h = small_nil
small_drop (suc n) (x ∷ xs) h = small_drop n xs (λ j. h (suc j))

pub small_range : (xs : List ℕ) (a b : ℕ) → Small xs → Small (slice_range xs a b)
small_range xs a b h = small_take (b - a) (drop a xs) (small_drop a xs h)

-- a list of results that are bytes
pub small_map : (f : ℕ → ℕ) (xs : List ℕ) → ((n : ℕ) → f n < 256) → Small (map f xs)
small_map f [] h i = small_nil i
small_map f (x ∷ xs) h zero = h x
small_map f (x ∷ xs) h (suc i) = small_map f xs h i

-- a list of results that are bytes where the arguments are
small_map_small : (f : ℕ → ℕ) (xs : List ℕ) → ((n : ℕ) → n < 256 → f n < 256) → Small xs → Small (map f xs)
small_map_small f [] h k i = small_nil i
small_map_small f (x ∷ xs) h k zero = h x (k zero)
small_map_small f (x ∷ xs) h k (suc i) = small_map_small f xs h (λ j. k (suc j)) i

small_if : (t : Bool) (xs ys : List ℕ) → Small xs → Small ys → Small (if t then xs else ys)
small_if true xs ys h k = h
small_if false xs ys h k = k

-- a list that computes
pub small_literal : (xs : List ℕ) → list_all (λ v. nat_lt v 256) xs ≡ true → Small xs
small_literal xs all i =
    elim (cases_lt i (length xs)) [
      | inl h ↦ small_at xs i all h
      | inr h ↦ let past : get_or xs i 0 ≡ 0 = get_or_past xs i 0 h in omega arith
    ]

-- ---- the transformations

pub small-sub_bytes : (s : List ℕ) → Small s → Small (sub_bytes s)
unfolding sub_bytes
small-sub_bytes s h = small_map_small sub_byte s sub_byte_lt h

pub small-inv_sub_bytes : (s : List ℕ) → Small s → Small (inv_sub_bytes s)
unfolding inv_sub_bytes
small-inv_sub_bytes s h = small_map_small inv_sub_byte s inv_sub_byte_lt h

pub small-shift_rows : (s : List ℕ) → Small s → Small (shift_rows s)
unfolding shift_rows
small-shift_rows s h = small_map (λ i. slice_index s (i % 4 + 4 * ((i / 4 + i % 4) % 4))) (range_with_len 0 16) (λ i. h (i % 4 + 4 * ((i / 4 + i % 4) % 4)))

pub small-inv_shift_rows : (s : List ℕ) → Small s → Small (inv_shift_rows s)
unfolding inv_shift_rows
small-inv_shift_rows s h = small_map (λ i. slice_index s (i % 4 + 4 * ((i / 4 + 4 - i % 4) % 4))) (range_with_len 0 16) (λ i. h (i % 4 + 4 * ((i / 4 + 4 - i % 4) % 4)))

mixed_lt : (m : List ℕ) (r x0 x1 x2 x3 : ℕ) → Small m → mixed m r x0 x1 x2 x3 < 256
unfolding mixed
mixed_lt m r x0 x1 x2 x3 h =
    xor_lt 8 _ _
    (xor_lt 8 _ _ (xor_lt 8 _ _ (product_lt (circulant m r 0) x0 (h ((0 + 4 - r) % 4))) (product_lt (circulant m r 1) x1 (h ((1 + 4 - r) % 4))))
    (product_lt (circulant m r 2) x2 (h ((2 + 4 - r) % 4))))
    (product_lt (circulant m r 3) x3 (h ((3 + 4 - r) % 4)))

pub small-mix_columns_by : (m s : List ℕ) → Small m → Small (mix_columns_by m s)
unfolding mix_columns_by
small-mix_columns_by m s h =
    small_map (λ i. mixed m (i % 4) (slice_index s (0 + 4 * (i / 4))) (slice_index s (1 + 4 * (i / 4))) (slice_index s (2 + 4 * (i / 4))) (slice_index s (3 + 4 * (i / 4))))
    (range_with_len 0 16)
    (λ i. mixed_lt m (i % 4) (slice_index s (0 + 4 * (i / 4))) (slice_index s (1 + 4 * (i / 4))) (slice_index s (2 + 4 * (i / 4))) (slice_index s (3 + 4 * (i / 4))) h)

pub small-add_round_key : (s k : List ℕ) → Small s → Small k → Small (add_round_key s k)
unfolding add_round_key
small-add_round_key s k h g =
    small_map (λ i. bit_xor (slice_index s (i % 4 + 4 * (i / 4))) (slice_index k (i % 4 + 4 * (i / 4)))) (range_with_len 0 16)
    (λ i. xor_lt 8 _ _ (h (i % 4 + 4 * (i / 4))) (g (i % 4 + 4 * (i / 4))))

-- ---- the schedule

small-xor_word : (v w : List ℕ) → Small v → Small w → Small (xor_word v w)
small-xor_word v w h k =
    small_four (bit_xor (slice_index v 0) (slice_index w 0)) (bit_xor (slice_index v 1) (slice_index w 1))
    (bit_xor (slice_index v 2) (slice_index w 2)) (bit_xor (slice_index v 3) (slice_index w 3))
    (xor_lt 8 _ _ (h 0) (k 0)) (xor_lt 8 _ _ (h 1) (k 1)) (xor_lt 8 _ _ (h 2) (k 2)) (xor_lt 8 _ _ (h 3) (k 3))

power_of_x_lt : (n : ℕ) → power_of_x n < 256
unfolding power_of_x
power_of_x_lt zero = omega arith
power_of_x_lt (suc n) = times_x_lt (power_of_x n) (power_of_x_lt n)

small-added_word : (nk i : ℕ) (w : List ℕ) → Small w → Small (added_word nk i w)
unfolding added_word
small-added_word nk i w h =
    let turned : Small (rot_word w) = small_four (slice_index w 1) (slice_index w 2) (slice_index w 3) (slice_index w 0) (h 1) (h 2) (h 3) (h 0) in
    let constant : Small (rcon (i / nk)) =
    small_four (power_of_x (i / nk - 1)) 0 0 0 (power_of_x_lt (i / nk - 1)) (omega arith) (omega arith) (omega arith) in
    small_if (i % nk == 0) (xor_word (sub_word (rot_word w)) (rcon (i / nk))) (if nk == 8 && i % 8 == 4 then sub_word w else w)
    (small-xor_word (sub_word (rot_word w)) (rcon (i / nk)) (small_map_small sub_byte (rot_word w) sub_byte_lt turned) constant)
    (small_if (nk == 8 && i % 8 == 4) (sub_word w) w (small_map_small sub_byte w sub_byte_lt h) h)

small-expanded : (nk : ℕ) (key : List ℕ) (n : ℕ) → Small key → Small (expanded nk key n)
unfolding expanded with_word
small-expanded nk key zero h = h
small-expanded nk key (suc n) h =
    let s : List ℕ = expanded nk key n in
    let so_far : Small s = small-expanded nk key n h in
    let before : ℕ = nk + n - nk in
    let last : ℕ = nk + n - 1 in
    small_append s (xor_word (word s before) (added_word nk (nk + n) (word s last))) so_far
    (small-xor_word (word s before) (added_word nk (nk + n) (word s last)) (small_range s (4 * before) (4 * before + 4) so_far)
    (small-added_word nk (nk + n) (word s last) (small_range s (4 * last) (4 * last + 4) so_far)))

pub small-round_key : (nk : ℕ) (key : List ℕ) (round : ℕ) → Small key → Small (round_key (key_expansion nk key) round)
unfolding key_expansion
small-round_key nk key round h =
    small_range (key_expansion nk key) (16 * round) (16 * round + 16) (small-expanded nk key (4 * (rounds nk + 1) - nk) h)
