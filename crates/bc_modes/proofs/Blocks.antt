-- Texts block by block: where block j stands, and texts that are made of their blocks.
use Rattle.std.proofs.Common.{◌≡◌, ℕ, zero, suc, ◌+◌, ◌-◌, ◌*◌, List, [], ◌∷◌, ◌++◌, take, drop, refl, sym, ap, ◌∙◌, arith, zero-add}
use Rattle.std.proofs.Math.Nat.{suc-add}
use Rattle.std.specs.List.{flat_map, range_with_len}
use Rattle.std.specs.Simd.Lanes.{zip2}
use Rattle.std.proofs.lemmas.List.{drop-drop, length-drop, map-id}
use Rattle.std.proofs.lemmas.List.FromFn.{map-range_with_len_more}
use Rattle.bc_aes.specs.Blocks.{block, EachBlock}

-- block j is the 16 bytes from 16 * j on
pub block_is : (text : List ℕ) (j : ℕ) → block text j ≡ take 16 (drop (16 * j) text)
block_is text j =
    let size : (16 * j + 16) - 16 * j ≡ 16 = omega arith in
    ap (λ n. take n (drop (16 * j) text)) size

-- block j + 1 is block j after the first block
pub block-suc : (text : List ℕ) (j : ℕ) → block text (suc j) ≡ block (drop 16 text) j
block-suc text j =
    let place : 16 * suc j ≡ 16 + 16 * j = omega arith in
    block_is text (suc j) ∙ ap (λ n. take 16 (drop n text)) place ∙ ap (take 16) (sym (drop-drop (16 * j) 16 text))
    ∙ sym (block_is (drop 16 text) j)

-- a `flat_map` over a range that begins one further on
pub flat_map-range-suc : (f : ℕ → List ℕ) (a n : ℕ) → flat_map f (range_with_len (suc a) n) ≡ flat_map (λ j. f (suc j)) (range_with_len a n)
flat_map-range-suc f a zero = refl
flat_map-range-suc f a (suc n) =
    ap (λ xs. f (suc a) ++ flat_map f xs) (ap (λ b. range_with_len b n) (suc-add a 1))
    ∙ ap (λ xs. f (suc a) ++ xs) (flat_map-range-suc f (a + 1) n)

-- the first block, and the others
pub flat_map-blocks : (f : ℕ → List ℕ) (n : ℕ) → flat_map f (range_with_len 0 (suc n)) ≡ f 0 ++ flat_map (λ j. f (suc j)) (range_with_len 0 n)
flat_map-blocks f n = ap (λ xs. f 0 ++ xs) (flat_map-range-suc f 0 n)

-- one place more
pub range_with_len-more : (n : ℕ) → range_with_len 0 (n + 1) ≡ range_with_len 0 n ++ n ∷ []
range_with_len-more n =
    sym (map-id (range_with_len 0 (n + 1))) ∙ map-range_with_len_more (λ (j : ℕ). j) 0 n n (zero-add n)
    ∙ ap (λ xs. xs ++ n ∷ []) (map-id (range_with_len 0 n))

pub take-zip2 : (f : ℕ → ℕ → ℕ) (n : ℕ) (xs ys : List ℕ) → take n (zip2 f xs ys) ≡ zip2 f (take n xs) (take n ys)
take-zip2 f zero xs ys = refl
take-zip2 f (suc n) [] ys = refl
take-zip2 f (suc n) (x ∷ xs) [] = refl
take-zip2 f (suc n) (x ∷ xs) (y ∷ ys) = ap (λ zs. f x y ∷ zs) (take-zip2 f n xs ys)

pub zip2-nil : (f : ℕ → ℕ → ℕ) (xs : List ℕ) → zip2 f xs [] ≡ []
zip2-nil f [] = refl
zip2-nil f (x ∷ xs) = refl

pub drop-zip2 : (f : ℕ → ℕ → ℕ) (n : ℕ) (xs ys : List ℕ) → drop n (zip2 f xs ys) ≡ zip2 f (drop n xs) (drop n ys)
drop-zip2 f zero xs ys = refl
drop-zip2 f (suc n) [] ys = refl
drop-zip2 f (suc n) (x ∷ xs) [] = sym (zip2-nil f (drop n xs))
drop-zip2 f (suc n) (x ∷ xs) (y ∷ ys) = drop-zip2 f n xs ys

-- the blocks after the first are ciphered too
pub EachBlock-drop : (cipher : List ℕ → List ℕ) (old new : List ℕ) → EachBlock cipher old new → EachBlock cipher (drop 16 old) (drop 16 new)
EachBlock-drop cipher old new each = record {
  same_length = length-drop 16 new ∙ ap (λ n. n - 16) each.same_length ∙ sym (length-drop 16 old);
  ciphered = λ i h. sym (block-suc new i) ∙ each.ciphered (suc i) (omega (arith, length-drop 16 old)) ∙ ap cipher (block-suc old i);
}
