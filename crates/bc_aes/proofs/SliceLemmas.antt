-- Blocks in bit slices, by their bytes and bits.
use Rattle.std.proofs.Common.{◌≡◌, ℕ, zero, suc, ◌+◌, ◌*◌, ◌/◌, ◌%◌, ◌<◌, List, [], ◌∷◌, length, map, sum, get_or, refl, sym, ap, ap₂, ◌∙◌, arith, bit_xor}
use Rattle.std.specs.Prelude.{slice_index, slice_index_or}
use Rattle.std.specs.List.{range_with_len}
use Rattle.std.specs.Int.{bit_at}
use Rattle.std.specs.Simd.Lanes.{zip2, pick_l, Each1}
use Rattle.std.proofs.lemmas.List.FromFn.{fill_by_all, get_or-map-range_with_len, length-map-range_with_len}
use Rattle.std.proofs.lemmas.Nat.Bits.{bit_at_xor, bit_at-lt, same_from_bits_below}
use Rattle.std.proofs.lemmas.Nat.{xor_lt}
use Rattle.std.proofs.lemmas.Simd.{get_or-zip2}
use Rattle.bc_aes.specs.Field.{times_x, product_by, product}
use Rattle.bc_aes.specs.State.{at, byte_of_bits, shift_rows, inv_shift_rows, add_round_key}
use Rattle.bc_aes.specs.Slices.{slices_of, byte_of, sliced_block}
use Rattle.bc_aes.specs.declared.slices.Slices.{Slices}
use Rattle.bc_aes.specs.SlicedRounds.{turned, doubled}
use Rattle.bc_aes.proofs.ByteLemmas.{Small, small_map}

-- functions that agree below n
pub same_below : (f g : ℕ → ℕ) (n : ℕ) → ((i : ℕ) → i < n → f i ≡ g i) → map f (range_with_len 0 n) ≡ map g (range_with_len 0 n)
same_below f g n same =
    fill_by_all g (map f (range_with_len 0 n)) n 0 (length-map-range_with_len f 0 n)
    (λ i h. get_or-map-range_with_len f 0 n i i 0 h (omega arith) ∙ same i h)

-- ---- the bits of a byte

pub byte_of_bits-lt : (bit : ℕ → ℕ) → ((i : ℕ) → bit i < 2) → byte_of_bits bit < 256
byte_of_bits-lt bit below =
    omega (arith, below 0, below 1, below 2, below 3, below 4, below 5, below 6, below 7)

pub bit_at-byte_of_bits : (bit : ℕ → ℕ) → ((i : ℕ) → bit i < 2) → (i : ℕ) → i < 8 → bit_at (byte_of_bits bit) i ≡ bit i
bit_at-byte_of_bits bit below zero h = omega (arith, below 0)
bit_at-byte_of_bits bit below (suc zero) h = omega (arith, below 0, below 1)
bit_at-byte_of_bits bit below (suc (suc zero)) h = omega (arith, below 0, below 1, below 2)
bit_at-byte_of_bits bit below (suc (suc (suc zero))) h = omega (arith, below 0, below 1, below 2, below 3)
bit_at-byte_of_bits bit below (suc (suc (suc (suc zero)))) h = omega (arith, below 0, below 1, below 2, below 3, below 4)
bit_at-byte_of_bits bit below (suc (suc (suc (suc (suc zero))))) h = omega (arith, below 0, below 1, below 2, below 3, below 4, below 5)
bit_at-byte_of_bits bit below (suc (suc (suc (suc (suc (suc zero)))))) h = omega (arith, below 0, below 1, below 2, below 3, below 4, below 5, below 6)
bit_at-byte_of_bits bit below (suc (suc (suc (suc (suc (suc (suc zero))))))) h = omega (arith, below 0, below 1, below 2, below 3, below 4, below 5, below 6, below 7)
bit_at-byte_of_bits bit below (suc (suc (suc (suc (suc (suc (suc (suc i)))))))) h = absurd (omega arith)

-- the sum of two bytes, bit by bit
pub byte_of_bits-xor : (sum f g : ℕ → ℕ) → ((i : ℕ) → sum i < 2) → ((i : ℕ) → f i < 2) → ((i : ℕ) → g i < 2)
    → ((i : ℕ) → i < 8 → sum i ≡ (f i + g i) % 2) → byte_of_bits sum ≡ bit_xor (byte_of_bits f) (byte_of_bits g)
byte_of_bits-xor sum f g hs hf hg adds =
    same_from_bits_below 8 (byte_of_bits sum) (bit_xor (byte_of_bits f) (byte_of_bits g)) (byte_of_bits-lt sum hs)
    (xor_lt 8 _ _ (byte_of_bits-lt f hf) (byte_of_bits-lt g hg))
    (λ i h. bit_at-byte_of_bits sum hs i h ∙ adds i h
    ∙ sym (bit_at_xor (byte_of_bits f) (byte_of_bits g) i
    ∙ ap₂ (λ (p q : ℕ). (p + q) % 2) (bit_at-byte_of_bits f hf i h) (bit_at-byte_of_bits g hg i h)))

-- ---- bytes that move to other places

-- eight slices that agree
pub eight : {a0 a1 a2 a3 a4 a5 a6 a7 b0 b1 b2 b3 b4 b5 b6 b7 : List ℕ} → a0 ≡ b0 → a1 ≡ b1 → a2 ≡ b2 → a3 ≡ b3 → a4 ≡ b4 → a5 ≡ b5 → a6 ≡ b6 → a7 ≡ b7
    → a0 ∷ a1 ∷ a2 ∷ a3 ∷ a4 ∷ a5 ∷ a6 ∷ a7 ∷ [] ≡ b0 ∷ b1 ∷ b2 ∷ b3 ∷ b4 ∷ b5 ∷ b6 ∷ b7 ∷ []
eight e0 e1 e2 e3 e4 e5 e6 e7 = cc

-- the bytes at these places of each slice
abbrev moved : List ℕ → List (List ℕ) → List (List ℕ)
moved places slices = map (λ s. pick_l 0 s places) slices

pub block_of-shifted : (q : Slices) (k : ℕ)
    → sliced_block (moved (0 ∷ 1 ∷ 2 ∷ 3 ∷ 5 ∷ 6 ∷ 7 ∷ 4 ∷ 10 ∷ 11 ∷ 8 ∷ 9 ∷ 15 ∷ 12 ∷ 13 ∷ 14 ∷ []) (slices_of q)) k ≡ shift_rows (sliced_block (slices_of q) k)
unfolding shift_rows
block_of-shifted q k = refl

pub block_of-unshifted : (q : Slices) (k : ℕ)
    → sliced_block (moved (0 ∷ 1 ∷ 2 ∷ 3 ∷ 7 ∷ 4 ∷ 5 ∷ 6 ∷ 10 ∷ 11 ∷ 8 ∷ 9 ∷ 13 ∷ 14 ∷ 15 ∷ 12 ∷ []) (slices_of q)) k ≡ inv_shift_rows (sliced_block (slices_of q) k)
unfolding inv_shift_rows
block_of-unshifted q k = refl

pub block_of-turned : (q : Slices) (k : ℕ)
    → sliced_block (moved (4 ∷ 5 ∷ 6 ∷ 7 ∷ 8 ∷ 9 ∷ 10 ∷ 11 ∷ 12 ∷ 13 ∷ 14 ∷ 15 ∷ 0 ∷ 1 ∷ 2 ∷ 3 ∷ []) (slices_of q)) k ≡ turned 1 (sliced_block (slices_of q) k)
unfolding turned
block_of-turned q k = refl

pub block_of-turned_twice : (q : Slices) (k : ℕ)
    → sliced_block (moved (8 ∷ 9 ∷ 10 ∷ 11 ∷ 12 ∷ 13 ∷ 14 ∷ 15 ∷ 0 ∷ 1 ∷ 2 ∷ 3 ∷ 4 ∷ 5 ∷ 6 ∷ 7 ∷ []) (slices_of q)) k ≡ turned 2 (sliced_block (slices_of q) k)
unfolding turned
block_of-turned_twice q k = refl

-- ---- sums

index_sum : (xs ys : List (List ℕ)) (i p : ℕ) → length xs ≡ length ys → Each1 (λ x. length x ≡ 16) xs → Each1 (λ y. length y ≡ 16) ys → p < 16
    → slice_index (slice_index_or (zip2 (zip2 bit_xor) xs ys) i []) p ≡ bit_xor (slice_index (slice_index_or xs i []) p) (slice_index (slice_index_or ys i []) p)
index_sum [] [] i p e hx hy h = refl
index_sum [] (y ∷ ys) i p e hx hy h = absurd (omega arith)
index_sum (x ∷ xs) [] i p e hx hy h = absurd (omega arith)
index_sum (x ∷ xs) (y ∷ ys) zero p e hx hy h = get_or-zip2 bit_xor x y p 0 0 0 (omega arith) (omega arith)
index_sum (x ∷ xs) (y ∷ ys) (suc i) p e hx hy h = index_sum xs ys i p (omega arith) hx.1 hy.1 h

byte_of-sum : (xs ys : List (List ℕ)) (k p : ℕ) → length xs ≡ length ys → Each1 (λ x. length x ≡ 16) xs → Each1 (λ y. length y ≡ 16) ys → p < 16
    → byte_of (zip2 (zip2 bit_xor) xs ys) k p ≡ bit_xor (byte_of xs k p) (byte_of ys k p)
byte_of-sum xs ys k p e hx hy h =
    let bit : List (List ℕ) → ℕ → ℕ = λ zs i. bit_at (slice_index (slice_index_or zs i []) p) k in
    let below : (zs : List (List ℕ)) (i : ℕ) → bit zs i < 2 = λ zs i. bit_at-lt (slice_index (slice_index_or zs i []) p) k in
    byte_of_bits-xor (bit (zip2 (zip2 bit_xor) xs ys)) (bit xs) (bit ys) (below (zip2 (zip2 bit_xor) xs ys)) (below xs) (below ys)
    (λ i _. ap (λ (n : ℕ). bit_at n k) (index_sum xs ys i p e hx hy h)
    ∙ bit_at_xor (slice_index (slice_index_or xs i []) p) (slice_index (slice_index_or ys i []) p) k)

-- where the byte at this place of a block stands, row after row
abbrev pub place : ℕ → ℕ
place i = 4 * (i % 4) + i / 4

index_block : (xs : List (List ℕ)) (k i : ℕ) → i < 16 → slice_index (sliced_block xs k) i ≡ byte_of xs k (place i)
index_block xs k i h = get_or-map-range_with_len (λ i. byte_of xs k (place i)) 0 16 i i 0 h (omega arith)

pub block_of-sum : (xs ys : List (List ℕ)) (k : ℕ) → length xs ≡ length ys → Each1 (λ x. length x ≡ 16) xs → Each1 (λ y. length y ≡ 16) ys
    → sliced_block (zip2 (zip2 bit_xor) xs ys) k ≡ add_round_key (sliced_block xs k) (sliced_block ys k)
unfolding add_round_key
block_of-sum xs ys k e hx hy =
    same_below (λ i. byte_of (zip2 (zip2 bit_xor) xs ys) k (place i)) (λ i. bit_xor (at (sliced_block xs k) (i % 4) (i / 4)) (at (sliced_block ys k) (i % 4) (i / 4))) 16
    (λ i h. let here : i ≡ i % 4 + 4 * (i / 4) = omega arith in
    byte_of-sum xs ys k (place i) e hx hy (omega arith)
    ∙ ap₂ (λ (x y : ℕ). bit_xor x y)
    (sym (index_block xs k i h) ∙ ap (λ (n : ℕ). slice_index (sliced_block xs k) n) here)
    (sym (index_block ys k i h) ∙ ap (λ (n : ℕ). slice_index (sliced_block ys k) n) here))

-- ---- doubling

-- the bits of a byte multiplied by x
abbrev doubled_bits : (ℕ → ℕ) → List ℕ
doubled_bits bit = bit 7 ∷ (bit 0 + bit 7) % 2 ∷ bit 1 ∷ (bit 2 + bit 7) % 2 ∷ (bit 3 + bit 7) % 2 ∷ bit 4 ∷ bit 5 ∷ bit 6 ∷ []

doubled_table : map (product 2) (range_with_len 0 256) ≡ map (λ a. byte_of_bits (slice_index (doubled_bits (bit_at a)))) (range_with_len 0 256)
unfolding product product_by times_x
doubled_table = refl

doubled_byte : (a : ℕ) → a < 256 → product 2 a ≡ byte_of_bits (slice_index (doubled_bits (bit_at a)))
doubled_byte a h =
    sym (get_or-map-range_with_len (product 2) 0 256 a a 0 h (omega arith)) ∙ ap (λ (t : List ℕ). get_or t a 0) doubled_table
    ∙ get_or-map-range_with_len (λ a. byte_of_bits (slice_index (doubled_bits (bit_at a)))) 0 256 a a 0 h (omega arith)

doubled_bits-same : (f g : ℕ → ℕ) → ((i : ℕ) → i < 8 → f i ≡ g i) → doubled_bits f ≡ doubled_bits g
doubled_bits-same f g same =
    let e0 : f 0 ≡ g 0 = same 0 (omega arith) in
    let e1 : f 1 ≡ g 1 = same 1 (omega arith) in
    let e2 : f 2 ≡ g 2 = same 2 (omega arith) in
    let e3 : f 3 ≡ g 3 = same 3 (omega arith) in
    let e4 : f 4 ≡ g 4 = same 4 (omega arith) in
    let e5 : f 5 ≡ g 5 = same 5 (omega arith) in
    let e6 : f 6 ≡ g 6 = same 6 (omega arith) in
    let e7 : f 7 ≡ g 7 = same 7 (omega arith) in
    cc

pub byte_of_bits-doubled : (bit : ℕ → ℕ) → ((i : ℕ) → bit i < 2) → byte_of_bits (slice_index (doubled_bits bit)) ≡ product 2 (byte_of_bits bit)
byte_of_bits-doubled bit below =
    sym (doubled_byte (byte_of_bits bit) (byte_of_bits-lt bit below)
    ∙ ap (λ (bits : List ℕ). byte_of_bits (slice_index bits)) (doubled_bits-same (bit_at (byte_of_bits bit)) bit (bit_at-byte_of_bits bit below)))

pub block_of-doubled : (q : Slices) (k : ℕ) → Each1 (λ x. length x ≡ 16) (slices_of q)
    → sliced_block (q.s7 ∷ zip2 bit_xor q.s0 q.s7 ∷ q.s1 ∷ zip2 bit_xor q.s2 q.s7 ∷ zip2 bit_xor q.s3 q.s7 ∷ q.s4 ∷ q.s5 ∷ q.s6 ∷ []) k
    ≡ doubled (sliced_block (slices_of q) k)
unfolding doubled
block_of-doubled q k long =
    let new : List (List ℕ) = q.s7 ∷ zip2 bit_xor q.s0 q.s7 ∷ q.s1 ∷ zip2 bit_xor q.s2 q.s7 ∷ zip2 bit_xor q.s3 q.s7 ∷ q.s4 ∷ q.s5 ∷ q.s6 ∷ [] in
    same_below (λ i. byte_of new k (place i)) (λ i. product 2 (byte_of (slices_of q) k (place i))) 16
    (λ i h.
    let p : ℕ = place i in
    let inside : p < 16 = omega arith in
    let bit : ℕ → ℕ = λ i. bit_at (slice_index (slice_index_or (slices_of q) i []) p) k in
    let sum : (x y : List ℕ) → length x ≡ 16 → length y ≡ 16 → bit_at (slice_index (zip2 bit_xor x y) p) k ≡ (bit_at (slice_index x p) k + bit_at (slice_index y p) k) % 2 =
    λ x y hx hy. ap (λ (n : ℕ). bit_at n k) (get_or-zip2 bit_xor x y p 0 0 0 (omega arith) (omega arith)) ∙ bit_at_xor (slice_index x p) (slice_index y p) k in
    let e1 : bit_at (slice_index (zip2 bit_xor q.s0 q.s7) p) k ≡ (bit 0 + bit 7) % 2 = sum q.s0 q.s7 (omega arith) (omega arith) in
    let e3 : bit_at (slice_index (zip2 bit_xor q.s2 q.s7) p) k ≡ (bit 2 + bit 7) % 2 = sum q.s2 q.s7 (omega arith) (omega arith) in
    let e4 : bit_at (slice_index (zip2 bit_xor q.s3 q.s7) p) k ≡ (bit 3 + bit 7) % 2 = sum q.s3 q.s7 (omega arith) (omega arith) in
    let same : (u v w : ℕ) → ℕ = λ u v w. byte_of_bits (slice_index (bit 7 ∷ u ∷ bit 1 ∷ v ∷ w ∷ bit 4 ∷ bit 5 ∷ bit 6 ∷ [])) in
    ap₂ (λ (u v : ℕ). same u v (bit_at (slice_index (zip2 bit_xor q.s3 q.s7) p) k)) e1 e3
    ∙ ap (λ (w : ℕ). same ((bit 0 + bit 7) % 2) ((bit 2 + bit 7) % 2) w) e4
    ∙ byte_of_bits-doubled bit (λ i. bit_at-lt (slice_index (slice_index_or (slices_of q) i []) p) k))

-- ---- blocks

pub small-block_of : (slices : List (List ℕ)) (k : ℕ) → Small (sliced_block slices k)
small-block_of slices k =
    small_map (λ i. byte_of slices k (place i)) (range_with_len 0 16)
    (λ i. byte_of_bits-lt (λ j. bit_at (slice_index (slice_index_or slices j []) (place i)) k) (λ j. bit_at-lt (slice_index (slice_index_or slices j []) (place i)) k))
