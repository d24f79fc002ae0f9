-- Round keys in slices: each bit of a byte in all bits of a byte.
use Rattle.std.proofs.Common.{◌≡◌, ℕ, zero, suc, ◌+◌, ◌-◌, ◌/◌, ◌%◌, ◌^◌, ◌<◌, List, length, set, replicate, sym, ap, ap₂, ◌∙◌, arith, bit_and, Fits, w8}
use Rattle.std.specs.Prelude.{slice_index, slice_index_or}
use Rattle.std.specs.Int.{bit_at}
use Rattle.std.specs.Simd.Lanes.{zip2, Each1}
use Rattle.std.proofs.lemmas.List.{get_or-set_same, get_or-set_other}
use Rattle.std.proofs.lemmas.List.FromFn.{fill_by_all}
use Rattle.std.proofs.lemmas.Nat.Bits.{bit_at_ones, bit_at-zero, bit_at-lt, shr_and_one, same_from_bits_below}
use Rattle.std.proofs.lemmas.Simd.{get_or-zip2, length-zip2, get_or-replicate, Each1-get_or}
use borrow.Author.Count.{below_more}
use Rattle.bc_aes.specs.State.{byte_of_bits}
use Rattle.bc_aes.specs.KeyExpansion.{round_key}
use Rattle.bc_aes.specs.SlicedRounds.{key_in_slices}
use Rattle.bc_aes.specs.Slices.{slices_of, byte_of, vector_of, sliced_block}
use Rattle.bc_aes.specs.declared.slices.Slices.{Slices}
use Rattle.bc_aes.proofs.SliceLemmas.{byte_of_bits-lt, bit_at-byte_of_bits}

-- ---- one bit in all bits

-- the byte that is taken from zero is 0 or 1
spread_bit : (b k : ℕ) → b < 2 → k < 8 → bit_at ((0 + (256 - b)) % 256) k ≡ b
spread_bit zero k h lt = bit_at-zero k
spread_bit (suc zero) k h lt = bit_at_ones 8 k lt
spread_bit (suc (suc b)) k h lt = absurd (omega arith)

pub spread-bits : (bits : List ℕ) (p k : ℕ) → length bits ≡ 16 → p < 16 → k < 8
    → bit_at (slice_index (zip2 (λ a b. (a + (256 - b)) % 256) (replicate 16 0) (zip2 bit_and bits (replicate 16 1))) p) k ≡ bit_at (slice_index bits p) 0
spread-bits bits p k long lt below =
    let whole : slice_index bits p / 2 ^ 0 ≡ slice_index bits p = omega arith in
    let lowest : slice_index (zip2 bit_and bits (replicate 16 1)) p ≡ bit_at (slice_index bits p) 0 =
    get_or-zip2 bit_and bits (replicate 16 1) p 0 0 0 (omega arith) lt
    ∙ ap₂ (λ (a b : ℕ). bit_and a b) (sym whole) (get_or-replicate 16 p 1 0 lt) ∙ shr_and_one (slice_index bits p) 0 in
    ap (λ (n : ℕ). bit_at n k)
    (get_or-zip2 (λ a b. (a + (256 - b)) % 256) (replicate 16 0) (zip2 bit_and bits (replicate 16 1)) p 0 0 0 lt
    (omega (arith, length-zip2 bit_and bits (replicate 16 1) long))
    ∙ ap₂ (λ (a b : ℕ). (a + (256 - b)) % 256) (get_or-replicate 16 p 0 0 lt) lowest)
    ∙ spread_bit (bit_at (slice_index bits p) 0) k (bit_at-lt (slice_index bits p) 0) below

-- ---- a block in all blocks

-- slice j has bit j of each byte of the block in all bits of its byte
abbrev pub Spreads : List ℕ → ℕ → List ℕ → Type 0
Spreads block j slice = (p k : ℕ) → p < 16 → k < 8 → bit_at (slice_index slice p) k ≡ bit_at (slice_index block p) j

-- from the lowest bit of the bytes that are moved down by j
pub spreads-shifted : (block : List ℕ) (j : ℕ) (slice : List ℕ) → length block ≡ 16 → Spreads (zip2 (λ a b. a / 2 ^ b) block (replicate 16 j)) 0 slice
    → Spreads block j slice
spreads-shifted block j slice long spreads p k lt below =
    let byte : ℕ = slice_index block p in
    let whole : byte / 2 ^ j / 2 ^ 0 ≡ byte / 2 ^ j = omega arith in
    spreads p k lt below
    ∙ ap (λ (n : ℕ). bit_at n 0) (get_or-zip2 (λ a b. a / 2 ^ b) block (replicate 16 j) p 0 0 0 (omega arith) lt ∙ ap (λ (n : ℕ). byte / 2 ^ n) (get_or-replicate 16 p j 0 lt))
    ∙ ap (λ (n : ℕ). n % 2) whole

byte-from_bits : (n : ℕ) → n < 256 → byte_of_bits (bit_at n) ≡ n
byte-from_bits n h =
    same_from_bits_below 8 (byte_of_bits (bit_at n)) n (byte_of_bits-lt (bit_at n) (bit_at-lt n)) h
    (λ i lt. bit_at-byte_of_bits (bit_at n) (bit_at-lt n) i lt)

pub vector_of-spread : (q : Slices) (block : List ℕ) → length block ≡ 16 → Each1 (Fits w8) block
    → Spreads block 0 q.s0 → Spreads block 1 q.s1 → Spreads block 2 q.s2 → Spreads block 3 q.s3
    → Spreads block 4 q.s4 → Spreads block 5 q.s5 → Spreads block 6 q.s6 → Spreads block 7 q.s7
    → (k : ℕ) → k < 8 → vector_of (slices_of q) k ≡ block
vector_of-spread q block long fits h0 h1 h2 h3 h4 h5 h6 h7 k lt =
    sym (fill_by_all (byte_of (slices_of q) k) block 16 0 long
    (λ p below.
    let small : slice_index block p < 256 = (Each1-get_or (Fits w8) block p 0 (omega arith) fits).fits in
    let e0 : bit_at (slice_index q.s0 p) k ≡ bit_at (slice_index block p) 0 = h0 p k below lt in
    let e1 : bit_at (slice_index q.s1 p) k ≡ bit_at (slice_index block p) 1 = h1 p k below lt in
    let e2 : bit_at (slice_index q.s2 p) k ≡ bit_at (slice_index block p) 2 = h2 p k below lt in
    let e3 : bit_at (slice_index q.s3 p) k ≡ bit_at (slice_index block p) 3 = h3 p k below lt in
    let e4 : bit_at (slice_index q.s4 p) k ≡ bit_at (slice_index block p) 4 = h4 p k below lt in
    let e5 : bit_at (slice_index q.s5 p) k ≡ bit_at (slice_index block p) 5 = h5 p k below lt in
    let e6 : bit_at (slice_index q.s6 p) k ≡ bit_at (slice_index block p) 6 = h6 p k below lt in
    let e7 : bit_at (slice_index q.s7 p) k ≡ bit_at (slice_index block p) 7 = h7 p k below lt in
    let same : byte_of (slices_of q) k p ≡ byte_of_bits (bit_at (slice_index block p)) = cc in
    sym (same ∙ byte-from_bits (slice_index block p) small)))

-- ---- one more round key

-- the first n of them are round keys
abbrev pub FirstAreRoundKeys : List ℕ → List Slices → ℕ → Type 0
FirstAreRoundKeys schedule keys n =
    (round : ℕ) → round < n → (k : ℕ) (d : Slices) → k < 8 → sliced_block (slices_of (slice_index_or keys round d)) k ≡ key_in_slices round (round_key schedule round)

pub round_keys-more : (schedule : List ℕ) (keys : List Slices) (n : ℕ) (key : Slices) → n < length keys → FirstAreRoundKeys schedule keys n
    → ((k : ℕ) → k < 8 → sliced_block (slices_of key) k ≡ key_in_slices n (round_key schedule n)) → FirstAreRoundKeys schedule (set keys n key) (n + 1)
round_keys-more schedule keys n key h first next =
    below_more (λ round. (k : ℕ) (d : Slices) → k < 8 → sliced_block (slices_of (slice_index_or (set keys n key) round d)) k ≡ key_in_slices round (round_key schedule round)) n
    (λ round lt k d below. ap (λ (q : Slices). sliced_block (slices_of q) k) (get_or-set_other keys n round key d (omega arith)) ∙ first round lt k d below)
    (λ k d below. ap (λ (q : Slices). sliced_block (slices_of q) k) (get_or-set_same keys n key d h) ∙ next k below)
