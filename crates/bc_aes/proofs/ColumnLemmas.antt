-- Functions of the four bytes of a column that take sums to sums: two of them agree where they agree on columns in which
-- one byte stands alone, which is a check by computing.
use Rattle.std.proofs.Common.{◌≡◌, ℕ, zero, suc, ◌<◌, List, [], ◌∷◌, map, get_or, refl, sym, ap, ap₂, ◌∙◌, arith, bit_xor}
use Rattle.std.specs.Prelude.{slice_index}
use Rattle.std.specs.List.{range_with_len}
use Rattle.std.specs.Int.Bits.{xor_zero_r}
use Rattle.std.proofs.lemmas.List.FromFn.{get_or-map-range_with_len}
use Rattle.bc_aes.specs.Field.{product}
use Rattle.bc_aes.specs.State.{mixed}
use Rattle.bc_aes.proofs.FieldLemmas.{xor_interchange, product-xor}
use Rattle.bc_aes.proofs.RoundLemmas.{mixed-xor}

-- what is made of the four bytes of a column
abbrev pub OfColumn : Type 0
OfColumn = ℕ → ℕ → ℕ → ℕ → ℕ

pub record TakesSums (f : OfColumn) : Type 0 where
  pub sums : (a b c d a' b' c' d' : ℕ) → f (bit_xor a a') (bit_xor b b') (bit_xor c c') (bit_xor d d') ≡ bit_xor (f a b c d) (f a' b' c' d')

-- ---- what takes sums to sums

-- the byte in this row
abbrev pub row : ℕ → OfColumn
row r a b c d = slice_index (a ∷ b ∷ c ∷ d ∷ []) r

pub row-sums : (r : ℕ) → TakesSums (row r)
row-sums zero = record { sums = λ a b c d a' b' c' d'. refl }
row-sums (suc zero) = record { sums = λ a b c d a' b' c' d'. refl }
row-sums (suc (suc zero)) = record { sums = λ a b c d a' b' c' d'. refl }
row-sums (suc (suc (suc zero))) = record { sums = λ a b c d a' b' c' d'. refl }
row-sums (suc (suc (suc (suc r)))) = record { sums = λ a b c d a' b' c' d'. refl }

pub sum-sums : (f g : OfColumn) → TakesSums f → TakesSums g → TakesSums (λ a b c d. bit_xor (f a b c d) (g a b c d))
sum-sums f g hf hg = record {
  sums = λ a b c d a' b' c' d'. ap₂ (λ (x y : ℕ). bit_xor x y) (hf.sums a b c d a' b' c' d') (hg.sums a b c d a' b' c' d')
      ∙ xor_interchange (f a b c d) (f a' b' c' d') (g a b c d) (g a' b' c' d');
}

pub product-sums : (m : ℕ) (f : OfColumn) → TakesSums f → TakesSums (λ a b c d. product m (f a b c d))
product-sums m f h = record {
  sums = λ a b c d a' b' c' d'. ap (product m) (h.sums a b c d a' b' c' d') ∙ product-xor m (f a b c d) (f a' b' c' d');
}

pub mixed-sums : (m : List ℕ) (r : ℕ) (f g h k : OfColumn) → TakesSums f → TakesSums g → TakesSums h → TakesSums k
    → TakesSums (λ a b c d. mixed m r (f a b c d) (g a b c d) (h a b c d) (k a b c d))
mixed-sums m r f g h k hf hg hh hk = record {
  sums = λ a b c d a' b' c' d'.
      ap₂ (λ (x y : ℕ). mixed m r x y (h (bit_xor a a') (bit_xor b b') (bit_xor c c') (bit_xor d d')) (k (bit_xor a a') (bit_xor b b') (bit_xor c c') (bit_xor d d')))
      (hf.sums a b c d a' b' c' d') (hg.sums a b c d a' b' c' d')
      ∙ ap₂ (λ (x y : ℕ). mixed m r (bit_xor (f a b c d) (f a' b' c' d')) (bit_xor (g a b c d) (g a' b' c' d')) x y) (hh.sums a b c d a' b' c' d') (hk.sums a b c d a' b' c' d')
      ∙ mixed-xor m r (f a b c d) (g a b c d) (h a b c d) (k a b c d) (f a' b' c' d') (g a' b' c' d') (h a' b' c' d') (k a' b' c' d');
}

-- ---- a column by its four bytes

split : (f : OfColumn) → TakesSums f → (a b c d : ℕ)
    → f a b c d ≡ bit_xor (f a 0 0 0) (bit_xor (f 0 b 0 0) (bit_xor (f 0 0 c 0) (f 0 0 0 d)))
split f h a b c d =
    let first : f a b c d ≡ bit_xor (f a 0 0 0) (f 0 b c d) = ap (λ (x : ℕ). f x b c d) (sym (xor_zero_r a)) ∙ h.sums a 0 0 0 0 b c d in
    let second : f 0 b c d ≡ bit_xor (f 0 b 0 0) (f 0 0 c d) = ap (λ (x : ℕ). f 0 x c d) (sym (xor_zero_r b)) ∙ h.sums 0 b 0 0 0 0 c d in
    let third : f 0 0 c d ≡ bit_xor (f 0 0 c 0) (f 0 0 0 d) = ap (λ (x : ℕ). f 0 0 x d) (sym (xor_zero_r c)) ∙ h.sums 0 0 c 0 0 0 0 d in
    first ∙ ap (λ (v : ℕ). bit_xor (f a 0 0 0) v) (second ∙ ap (λ (v : ℕ). bit_xor (f 0 b 0 0) v) third)

-- what f makes of each byte alone in each row
abbrev alone : OfColumn → List (List ℕ)
alone f =
    map (λ a. f a 0 0 0) (range_with_len 0 256) ∷ map (λ b. f 0 b 0 0) (range_with_len 0 256)
    ∷ map (λ c. f 0 0 c 0) (range_with_len 0 256) ∷ map (λ d. f 0 0 0 d) (range_with_len 0 256) ∷ []

alone_at : (f g : ℕ → ℕ) → map f (range_with_len 0 256) ≡ map g (range_with_len 0 256) → (a : ℕ) → a < 256 → f a ≡ g a
alone_at f g e a h =
    sym (get_or-map-range_with_len f 0 256 a a 0 h (omega arith)) ∙ ap (λ (t : List ℕ). get_or t a 0) e ∙ get_or-map-range_with_len g 0 256 a a 0 h (omega arith)

-- two functions for each row agree on columns with one byte alone
abbrev pub AgreeAlone : (ℕ → OfColumn) → (ℕ → OfColumn) → Type 0
AgreeAlone f g = map (λ r. alone (f r)) (range_with_len 0 4) ≡ map (λ r. alone (g r)) (range_with_len 0 4)

pub rows_agree : (f g : ℕ → OfColumn) → AgreeAlone f g → ((r : ℕ) → TakesSums (f r)) → ((r : ℕ) → TakesSums (g r))
    → (r a b c d : ℕ) → r < 4 → a < 256 → b < 256 → c < 256 → d < 256 → f r a b c d ≡ g r a b c d
rows_agree f g e hf hg r a b c d h ha hb hc hd =
    let rows : alone (f r) ≡ alone (g r) =
    sym (get_or-map-range_with_len (λ r. alone (f r)) 0 4 r r [] h (omega arith)) ∙ ap (λ (t : List (List (List ℕ))). get_or t r []) e
    ∙ get_or-map-range_with_len (λ r. alone (g r)) 0 4 r r [] h (omega arith) in
    let row_0 : f r a 0 0 0 ≡ g r a 0 0 0 = alone_at (λ a. f r a 0 0 0) (λ a. g r a 0 0 0) (ap (λ (t : List (List ℕ)). get_or t 0 []) rows) a ha in
    let row_1 : f r 0 b 0 0 ≡ g r 0 b 0 0 = alone_at (λ b. f r 0 b 0 0) (λ b. g r 0 b 0 0) (ap (λ (t : List (List ℕ)). get_or t 1 []) rows) b hb in
    let row_2 : f r 0 0 c 0 ≡ g r 0 0 c 0 = alone_at (λ c. f r 0 0 c 0) (λ c. g r 0 0 c 0) (ap (λ (t : List (List ℕ)). get_or t 2 []) rows) c hc in
    let row_3 : f r 0 0 0 d ≡ g r 0 0 0 d = alone_at (λ d. f r 0 0 0 d) (λ d. g r 0 0 0 d) (ap (λ (t : List (List ℕ)). get_or t 3 []) rows) d hd in
    split (f r) (hf r) a b c d
    ∙ ap₂ (λ (p q : ℕ). bit_xor p (bit_xor q (bit_xor (f r 0 0 c 0) (f r 0 0 0 d)))) row_0 row_1
    ∙ ap₂ (λ (p q : ℕ). bit_xor (g r a 0 0 0) (bit_xor (g r 0 b 0 0) (bit_xor p q))) row_2 row_3
    ∙ sym (split (g r) (hg r) a b c d)
