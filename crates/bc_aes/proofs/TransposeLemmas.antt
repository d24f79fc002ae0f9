-- Three exchanges of bits, at steps of 1, 2 and 4, make slices of eight blocks, and blocks of slices.
use Rattle.std.proofs.Common.{◌≡◌, ℕ, ◌+◌, ◌-◌, ◌*◌, ◌/◌, ◌%◌, ◌<◌, ◌==◌, List, [], ◌∷◌, map, length, slice_index, slice_index_or, get_or, refl, sym, ap, ap₂, ◌∙◌, arith, take, below_more, if◌then◌else◌}
use Rattle.std.proofs.lemmas.List.{get_or-map}
use Rattle.std.proofs.lemmas.Simd.{Each1-get_or}
use Rattle.std.proofs.lemmas.List.FromFn.{get_or-map-range_with_len, fill_by_all}
use Rattle.std.specs.List.{range_with_len}
use Rattle.std.specs.Simd.Lanes.{Each1}
use Rattle.std.specs.Int.{bit_at}
use Rattle.bc_aes.specs.State.{byte_of_bits}
use Rattle.bc_aes.specs.Blocks.{block}
use Rattle.bc_aes.specs.declared.slices.Slices.{Slices}
use Rattle.bc_aes.specs.Slices.{slices_of, byte_of, vector_of, by_rows, sliced_block, AreBytes, bits_at, lower_bits, upper_bits, Exchanged}
use Rattle.bc_aes.proofs.BlockLemmas.{kept}
use Rattle.bc_aes.proofs.CircuitLemmas.{Long, bit_of, byte_from}
use Rattle.bc_aes.proofs.UndoLemmas.{state_of-at}

eight : {a b c d e f g h a' b' c' d' e' f' g' h' : List ℕ} → a ≡ a' → b ≡ b' → c ≡ c' → d ≡ d' → e ≡ e' → f ≡ f' → g ≡ g' → h ≡ h'
    → (a ∷ b ∷ c ∷ d ∷ e ∷ f ∷ g ∷ h ∷ []) ≡ (a' ∷ b' ∷ c' ∷ d' ∷ e' ∷ f' ∷ g' ∷ h' ∷ [])
eight p q r s t u v w =
    let cons : List ℕ → List (List ℕ) → List (List ℕ) = λ x xs. x ∷ xs in
    ap₂ cons p (ap₂ cons q (ap₂ cons r (ap₂ cons s (ap₂ cons t (ap₂ cons u (ap₂ cons v (ap (λ x. cons x []) w)))))))

-- all eight rows of bits with those at every other step of n exchanged
abbrev exchanged_rows : ℕ → List (List ℕ) → List (List ℕ)
exchanged_rows n rows =
    map (λ j. if j / n % 2 == 0 then lower_bits n (slice_index_or rows j []) (slice_index_or rows (j + n) []) else upper_bits n (slice_index_or rows (j - n) []) (slice_index_or rows j [])) (range_with_len 0 8)

-- the rows of the bits of byte p: bit j of each slice, as row j
abbrev pub columns : ℕ → List (List ℕ) → List (List ℕ)
columns p slices = map (λ j. map (bit_of p j) slices) (range_with_len 0 8)

pub transposed-rows : {a0 b0 c0 d0 e0 f0 g0 h0 a1 b1 c1 d1 e1 f1 g1 h1 a2 b2 c2 d2 e2 f2 g2 h2 a3 b3 c3 d3 e3 f3 g3 h3 : List ℕ}
    → Exchanged 1 a0 b0 a1 b1 → Exchanged 1 c0 d0 c1 d1 → Exchanged 1 e0 f0 e1 f1 → Exchanged 1 g0 h0 g1 h1
    → Exchanged 2 a1 c1 a2 c2 → Exchanged 2 b1 d1 b2 d2 → Exchanged 2 e1 g1 e2 g2 → Exchanged 2 f1 h1 f2 h2
    → Exchanged 4 a2 e2 a3 e3 → Exchanged 4 b2 f2 b3 f3 → Exchanged 4 c2 g2 c3 g3 → Exchanged 4 d2 h2 d3 h3
    → (p : ℕ) → p < 16
    → map (bits_at p) (a3 ∷ b3 ∷ c3 ∷ d3 ∷ e3 ∷ f3 ∷ g3 ∷ h3 ∷ []) ≡ columns p (a0 ∷ b0 ∷ c0 ∷ d0 ∷ e0 ∷ f0 ∷ g0 ∷ h0 ∷ [])
transposed-rows ab cd ef gh ac bd eg fh ae bf cg dh p lt =
    eight (ae.lower p lt) (bf.lower p lt) (cg.lower p lt) (dh.lower p lt) (ae.upper p lt) (bf.upper p lt) (cg.upper p lt) (dh.upper p lt)
    ∙ ap (exchanged_rows 4)
    (eight (ac.lower p lt) (bd.lower p lt) (ac.upper p lt) (bd.upper p lt) (eg.lower p lt) (fh.lower p lt) (eg.upper p lt) (fh.upper p lt))
    ∙ ap (λ rows. exchanged_rows 4 (exchanged_rows 2 rows))
    (eight (ab.lower p lt) (ab.upper p lt) (cd.lower p lt) (cd.upper p lt) (ef.lower p lt) (ef.upper p lt) (gh.lower p lt) (gh.upper p lt))

-- ---- slices from blocks, and blocks from slices

abbrev pub Bytes : List ℕ → Type 0
Bytes v = Long v × AreBytes v

map_same : (f g : ℕ → ℕ) → ((j : ℕ) → f j ≡ g j) → (xs : List ℕ) → map f xs ≡ map g xs
map_same f g same [] = refl
map_same f g same (x ∷ xs) = ap₂ (λ (y : ℕ) (ys : List ℕ). y ∷ ys) (same x) (map_same f g same xs)

picked_rows : (p k : ℕ) → k < 8 → (slices : List (List ℕ)) → map (λ row. slice_index row k) (map (bits_at p) slices) ≡ map (bit_of p k) slices
picked_rows p k lt [] = refl
picked_rows p k lt (v ∷ vs) =
    ap₂ (λ (y : ℕ) (ys : List ℕ). y ∷ ys) (get_or-map-range_with_len (bit_at (slice_index v p)) 0 8 k k 0 lt (omega arith)) (picked_rows p k lt vs)

picked_columns : (p k : ℕ) (slices : List (List ℕ)) → k < length slices
    → map (λ row. slice_index row k) (columns p slices) ≡ bits_at p (slice_index_or slices k [])
picked_columns p k slices lt =
    map_same (λ j. slice_index (map (bit_of p j) slices) k) (λ j. bit_of p j (slice_index_or slices k []))
    (λ j. get_or-map (bit_of p j) slices k [] 0 lt) (range_with_len 0 8)

bytes_of_bits : map (λ x. byte_of_bits (bit_at x)) (range_with_len 0 256) ≡ map (λ x. x) (range_with_len 0 256)
bytes_of_bits = refl

byte_of_its_bits : (x : ℕ) → x < 256 → byte_of_bits (bit_at x) ≡ x
byte_of_its_bits x lt =
    sym (get_or-map-range_with_len (λ x. byte_of_bits (bit_at x)) 0 256 x x 0 lt (omega arith)) ∙ ap (λ (xs : List ℕ). get_or xs x 0) bytes_of_bits
    ∙ get_or-map-range_with_len (λ x. x) 0 256 x x 0 lt (omega arith)

abbrev pub AreTransposed : Slices → Slices → Type 0
AreTransposed old new = (p : ℕ) → p < 16 → map (bits_at p) (slices_of new) ≡ columns p (slices_of old)

pub slices-transposed : (old new : Slices) → AreTransposed old new → Each1 Bytes (slices_of old)
    → (k : ℕ) → k < 8 → vector_of (slices_of new) k ≡ slice_index_or (slices_of old) k []
slices-transposed old new rows bytes k lt =
    let v : List ℕ = slice_index_or (slices_of old) k [] in
    let of_v : Bytes v = Each1-get_or Bytes (slices_of old) k [] lt bytes in
    sym (fill_by_all (byte_of (slices_of new) k) v 16 0 of_v.0
    (λ p pt. sym
    (ap byte_from (sym (picked_rows p k lt (slices_of new)) ∙ ap (map (λ row. slice_index row k)) (rows p pt) ∙ picked_columns p k (slices_of old) lt)
    ∙ byte_of_its_bits (slice_index v p) (of_v.1 p pt))))

pub blocks-transposed : (old new : Slices) → AreTransposed old new → Each1 Bytes (slices_of new)
    → (k : ℕ) → k < 8 → slice_index_or (slices_of new) k [] ≡ vector_of (slices_of old) k
blocks-transposed old new rows bytes k lt =
    let v : List ℕ = slice_index_or (slices_of new) k [] in
    let of_v : Bytes v = Each1-get_or Bytes (slices_of new) k [] lt bytes in
    fill_by_all (byte_of (slices_of old) k) v 16 0 of_v.0
    (λ p pt.
    sym (byte_of_its_bits (slice_index v p) (of_v.1 p pt))
    ∙ ap byte_from
    (sym (get_or-map (bits_at p) (slices_of new) k [] [] lt) ∙ ap (λ (m : List (List ℕ)). slice_index_or m k []) (rows p pt)
    ∙ get_or-map-range_with_len (λ j. map (bit_of p j) (slices_of old)) 0 8 k k [] lt (omega arith)))

-- ---- rows

-- the block of a vector
pub block_of-vector : (slices : List (List ℕ)) (k : ℕ) → sliced_block slices k ≡ by_rows (vector_of slices k)
block_of-vector slices k = refl

-- and twice is not at all
pub by_rows-twice : (bytes : List ℕ) → length bytes ≡ 16 → by_rows (by_rows bytes) ≡ bytes
by_rows-twice bytes long = state_of-at bytes long

-- ---- a text of eight blocks

below_8 : (P : ℕ → Type 0) → P 0 → P 1 → P 2 → P 3 → P 4 → P 5 → P 6 → P 7 → (k : ℕ) → k < 8 → P k
below_8 P p0 p1 p2 p3 p4 p5 p6 p7 =
    below_more P 7 (below_more P 6 (below_more P 5 (below_more P 4 (below_more P 3 (below_more P 2 (below_more P 1 (below_more P 0 (λ k lt. absurd (omega (arith, lt))) p0) p1) p2) p3) p4) p5) p6) p7

abbrev HasRows : List ℕ → ℕ → List ℕ → Type 0
HasRows text k vector = vector ≡ by_rows (block text k)

pub loaded : (q : Slices) (text : List ℕ) → HasRows text 0 q.s0 → HasRows text 1 q.s1 → HasRows text 2 q.s2 → HasRows text 3 q.s3
    → HasRows text 4 q.s4 → HasRows text 5 q.s5 → HasRows text 6 q.s6 → HasRows text 7 q.s7
    → (k : ℕ) → k < 8 → slice_index_or (slices_of q) k [] ≡ by_rows (block text k)
loaded q text = below_8 (λ k. slice_index_or (slices_of q) k [] ≡ by_rows (block text k))

-- the first i blocks of a text are those of these vectors
abbrev pub Holds : List (List ℕ) → ℕ → List ℕ → Type 0
Holds vectors i text = (k : ℕ) → k < i → block text k ≡ by_rows (slice_index_or vectors k [])

pub held-none : (blocks : List (List ℕ)) (text : List ℕ) → Holds blocks 0 text
held-none blocks text k lt = absurd (omega (arith, lt))

pub held-more : (blocks : List (List ℕ)) (i : ℕ) (old new : List ℕ) → Holds blocks i old → take (16 * i) new ≡ take (16 * i) old
    → block new i ≡ by_rows (slice_index_or blocks i []) → Holds blocks (i + 1) new
held-more blocks i old new held before here =
    below_more (λ k. block new k ≡ by_rows (slice_index_or blocks k [])) i
    (λ k lt. kept new old (16 * i) (16 * k) (16 * k + 16) before (omega (arith, lt)) ∙ held k lt) here
