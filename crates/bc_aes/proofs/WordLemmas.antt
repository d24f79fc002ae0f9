-- Words of four bytes, and their sums.
use Rattle.std.proofs.Common.{◌≡◌, ℕ, ◌/◌, ◌%◌, ◌<◌, List, [], ◌∷◌, ap, ap₂, ◌∙◌, arith, bit_xor}
use Rattle.std.proofs.lemmas.Nat.{xor_shr, xor_mod}
use Rattle.bc_aes.specs.KeyExpansion.{xor_word}
use Rattle.bc_aes.proofs.FieldLemmas.{product_lt}
use Rattle.std.specs.Prelude.{slice_index}
use Rattle.bc_aes.specs.Field.{product}
use Rattle.bc_aes.specs.State.{mixed}
use Rattle.bc_aes.specs.Columns.{column, word_of, part, mixed_column}

-- two lists of four that agree
pub four : {a0 a1 a2 a3 b0 b1 b2 b3 : ℕ} → a0 ≡ b0 → a1 ≡ b1 → a2 ≡ b2 → a3 ≡ b3 → a0 ∷ a1 ∷ a2 ∷ a3 ∷ [] ≡ b0 ∷ b1 ∷ b2 ∷ b3 ∷ []
four p q r s = cc

-- the bytes of the sum of two words
pub column-xor : (u v : ℕ) → column (bit_xor u v) ≡ xor_word (column u) (column v)
column-xor u v =
    four (xor_mod u v 8) (ap (λ (n : ℕ). n % 256) (xor_shr u v 8) ∙ xor_mod (u / 256) (v / 256) 8)
    (ap (λ (n : ℕ). n % 256) (xor_shr u v 16) ∙ xor_mod (u / 65536) (v / 65536) 8)
    (ap (λ (n : ℕ). n % 256) (xor_shr u v 24) ∙ xor_mod (u / 16777216) (v / 16777216) 8)

-- the bytes of a word of bytes
pub column-word_of : (b0 b1 b2 b3 : ℕ) → b0 < 256 → b1 < 256 → b2 < 256 → b3 < 256 → column (word_of b0 b1 b2 b3) ≡ b0 ∷ b1 ∷ b2 ∷ b3 ∷ []
column-word_of b0 b1 b2 b3 p0 p1 p2 p3 = four (omega arith) (omega arith) (omega arith) (omega arith)

-- what the four bytes add to their column is the column of their sums
pub column-parts : (m : List ℕ) (y0 y1 y2 y3 : ℕ) → slice_index m 0 < 256 → slice_index m 1 < 256 → slice_index m 2 < 256 → slice_index m 3 < 256
    → column (bit_xor (bit_xor (bit_xor (part m 0 y0) (part m 1 y1)) (part m 2 y2)) (part m 3 y3)) ≡ mixed_column m y0 y1 y2 y3
unfolding mixed
column-parts m y0 y1 y2 y3 h0 h1 h2 h3 =
    let m0 : ℕ = slice_index m 0 in
    let m1 : ℕ = slice_index m 1 in
    let m2 : ℕ = slice_index m 2 in
    let m3 : ℕ = slice_index m 3 in
    let A : ℕ = part m 0 y0 in
    let B : ℕ = part m 1 y1 in
    let C : ℕ = part m 2 y2 in
    let D : ℕ = part m 3 y3 in
    let row_0 : column A ≡ product m0 y0 ∷ product m3 y0 ∷ product m2 y0 ∷ product m1 y0 ∷ [] =
    column-word_of (product m0 y0) (product m3 y0) (product m2 y0) (product m1 y0) (product_lt m0 y0 h0) (product_lt m3 y0 h3) (product_lt m2 y0 h2) (product_lt m1 y0 h1) in
    let row_1 : column B ≡ product m1 y1 ∷ product m0 y1 ∷ product m3 y1 ∷ product m2 y1 ∷ [] =
    column-word_of (product m1 y1) (product m0 y1) (product m3 y1) (product m2 y1) (product_lt m1 y1 h1) (product_lt m0 y1 h0) (product_lt m3 y1 h3) (product_lt m2 y1 h2) in
    let row_2 : column C ≡ product m2 y2 ∷ product m1 y2 ∷ product m0 y2 ∷ product m3 y2 ∷ [] =
    column-word_of (product m2 y2) (product m1 y2) (product m0 y2) (product m3 y2) (product_lt m2 y2 h2) (product_lt m1 y2 h1) (product_lt m0 y2 h0) (product_lt m3 y2 h3) in
    let row_3 : column D ≡ product m3 y3 ∷ product m2 y3 ∷ product m1 y3 ∷ product m0 y3 ∷ [] =
    column-word_of (product m3 y3) (product m2 y3) (product m1 y3) (product m0 y3) (product_lt m3 y3 h3) (product_lt m2 y3 h2) (product_lt m1 y3 h1) (product_lt m0 y3 h0) in
    let two : column (bit_xor A B) ≡ xor_word (column A) (column B) = column-xor A B in
    let three : column (bit_xor (bit_xor A B) C) ≡ xor_word (column (bit_xor A B)) (column C) = column-xor (bit_xor A B) C in
    let all : column (bit_xor (bit_xor (bit_xor A B) C) D) ≡ xor_word (column (bit_xor (bit_xor A B) C)) (column D) = column-xor (bit_xor (bit_xor A B) C) D in
    let summed : List ℕ → List ℕ → List ℕ → List ℕ → List ℕ = λ p q r s. xor_word (xor_word (xor_word p q) r) s in
    all ∙ ap (λ (v : List ℕ). xor_word v (column D)) (three ∙ ap (λ (v : List ℕ). xor_word v (column C)) two)
    ∙ ap₂ (λ (p q : List ℕ). summed p q (column C) (column D)) row_0 row_1
    ∙ ap₂ (λ (p q : List ℕ). summed (product m0 y0 ∷ product m3 y0 ∷ product m2 y0 ∷ product m1 y0 ∷ []) (product m1 y1 ∷ product m0 y1 ∷ product m3 y1 ∷ product m2 y1 ∷ []) p q) row_2 row_3
