-- CBC's decipherment block after block, and piece after piece.
use Rattle.std.proofs.Common.{◌≡◌, ℕ, zero, suc, ◌+◌, ◌-◌, ◌*◌, ◌/◌, ◌≤◌, List, [], ◌++◌, length, take, drop, refl, sym, ap, ap₂, ◌∙◌, arith, bit_xor, zero-add, take-add}
use Rattle.std.proofs.Math.Nat.{suc-add}
use Rattle.std.specs.List.{flat_map, range_with_len}
use Rattle.std.proofs.lemmas.List.{drop-drop, length-drop, length-take-le, append_assoc, take-append-drop, take_at, drop_at, take-take, drop-take}
use borrow.Rule.Slice.PartMut.{put_mid}
use Rattle.bc_aes.specs.Cipher.{decipher}
use Rattle.bc_aes.specs.Blocks.{block, EachBlock}
use Rattle.bc_modes.specs.ByBlocks.{xor_bytes}
use Rattle.bc_modes.specs.CbcEssiv.{link, unchained}
use Rattle.bc_modes.proofs.Blocks.{block_is, block-suc, flat_map-blocks, take-zip2, drop-zip2, EachBlock-drop, zip2-nil}
use Rattle.bc_modes.proofs.Pieces.{AfterPieces, no_pieces, next_piece, piece_more, all_pieces}

-- the first n blocks, where `start` is what the first one was added to
unfoldable pub unlinked : List ℕ → List ℕ → ℕ → List ℕ → List ℕ
unlinked key start zero text = []
unlinked key start (suc n) text = xor_bytes (decipher 4 key (take 16 text)) start ++ unlinked key (take 16 text) n (drop 16 text)

-- after the first block the chain starts with it
link-suc : (text : List ℕ) (j : ℕ) → link (take 16 text) (drop 16 text) j ≡ block text j
link-suc text zero = refl
link-suc text (suc j) = sym (block-suc text j)

unchained_from : (key : List ℕ) (n : ℕ) (start text : List ℕ)
    → flat_map (λ j. xor_bytes (decipher 4 key (block text j)) (link start text j)) (range_with_len 0 n) ≡ unlinked key start n text
unfolding unlinked
unchained_from key zero start text = refl
unchained_from key (suc n) start text =
    flat_map-blocks (λ j. xor_bytes (decipher 4 key (block text j)) (link start text j)) n
    ∙ ap (λ xs. xor_bytes (decipher 4 key (take 16 text)) start ++ xs)
    (ap (λ (f : ℕ → List ℕ). flat_map f (range_with_len 0 n))
    (λ i j. xor_bytes (decipher 4 key (block-suc text j i)) (sym (link-suc text j) i))
    ∙ unchained_from key n (take 16 text) (drop 16 text))

-- a text of n blocks, block after block
pub unchained_is : (key : List ℕ) (n : ℕ) (start text : List ℕ) → length text ≡ 16 * n → unchained key start text ≡ unlinked key start n text
unfolding unchained
unchained_is key n start text l =
    let count : length text / 16 ≡ n = omega arith in
    ap (λ k. flat_map (λ j. xor_bytes (decipher 4 key (block text j)) (link start text j)) (range_with_len 0 k)) count
    ∙ unchained_from key n start text

-- the first m blocks, and then n more
unlinked-add : (key : List ℕ) (m n : ℕ) (start text : List ℕ)
    → unlinked key start (m + n) text ≡ unlinked key start m text ++ unlinked key (link start text m) n (drop (16 * m) text)
unfolding unlinked
unlinked-add key zero n start text = ap (λ k. unlinked key start k text) (zero-add n)
unlinked-add key (suc m) n start text =
    let first : List ℕ = xor_bytes (decipher 4 key (take 16 text)) start in
    let rest : List ℕ = unlinked key (take 16 text) m (drop 16 text) in
    let place : 16 + 16 * m ≡ 16 * suc m = omega arith in
    ap (λ k. unlinked key start k text) (suc-add m n)
    ∙ ap (λ xs. first ++ xs) (unlinked-add key m n (take 16 text) (drop 16 text))
    ∙ sym (append_assoc first rest (unlinked key (link (take 16 text) (drop 16 text) m) n (drop (16 * m) (drop 16 text))))
    ∙ ap₂ (λ (s xs : List ℕ). first ++ rest ++ unlinked key s n xs)
    (link-suc text m) (drop-drop (16 * m) 16 text ∙ ap (λ k. drop k text) place)

-- no more of the text is read
unlinked-take : (key : List ℕ) (n k : ℕ) (start text : List ℕ) → 16 * n ≤ k → unlinked key start n (take k text) ≡ unlinked key start n text
unfolding unlinked
unlinked-take key zero k start text h = refl
unlinked-take key (suc n) k start text h =
    let split : k ≡ 16 + (k - 16) = omega arith in
    ap₂ (λ (xs ys : List ℕ). xor_bytes (decipher 4 key xs) start ++ unlinked key xs n ys)
    (take-take 16 k text (omega arith)) (ap (λ j. drop 16 (take j text)) split ∙ drop-take 16 (k - 16) text)
    ∙ ap (λ xs. xor_bytes (decipher 4 key (take 16 text)) start ++ xs)
    (unlinked-take key n (k - 16) (take 16 text) (drop 16 text) (omega arith))

-- each block deciphered, and then added to the one before it
unlinked_by_piece : (key : List ℕ) (n : ℕ) (start links old new : List ℕ) → length start ≡ 16 → length old ≡ 16 * n
    → links ≡ take (16 * n) (start ++ old) → EachBlock (decipher 4 key) old new → xor_bytes new links ≡ unlinked key start n old
unfolding unlinked
unlinked_by_piece key zero start links old new s l e each = ap (xor_bytes new) e ∙ zip2-nil bit_xor new
unlinked_by_piece key (suc n) start links old new s l e each =
    let split : 16 * suc n ≡ 16 + 16 * n = omega arith in
    let first : take 16 links ≡ start = ap (take 16) e ∙ take-take 16 (16 * suc n) (start ++ old) (omega arith) ∙ take_at start old 16 s in
    let rest : drop 16 links ≡ take (16 * n) (take 16 old ++ drop 16 old) =
    ap (drop 16) (e ∙ ap (λ k. take k (start ++ old)) split) ∙ drop-take 16 (16 * n) (start ++ old)
    ∙ ap (take (16 * n)) (drop_at start old 16 s ∙ sym (take-append-drop 16 old)) in
    sym (take-append-drop 16 (xor_bytes new links))
    ∙ ap₂ (λ (xs ys : List ℕ). xs ++ ys)
    (take-zip2 bit_xor 16 new links ∙ ap₂ (λ (xs ys : List ℕ). xor_bytes xs ys) (each.ciphered 0 (omega arith)) first)
    (drop-zip2 bit_xor 16 new links
    ∙ unlinked_by_piece key n (take 16 old) (drop 16 links) (drop 16 old) (drop 16 new) (length-take-le 16 old (omega arith))
    (omega (arith, length-drop 16 old)) rest (EachBlock-drop (decipher 4 key) old new each))

-- eight blocks deciphered, and then added to what they were added to
pub unchained_piece : (key start links old new : List ℕ) → length start ≡ 16 → length old ≡ 128 → links ≡ start ++ take 112 old
    → EachBlock (decipher 4 key) old new → xor_bytes new links ≡ unchained key start old
unchained_piece key start links old new s l e each =
    let all : take 128 (start ++ old) ≡ start ++ take 112 old =
    take-add 16 112 (start ++ old)
    ∙ ap₂ (λ (xs ys : List ℕ). xs ++ take 112 ys) (take_at start old 16 s) (drop_at start old 16 s) in
    unlinked_by_piece key 8 start links old new s l (e ∙ sym all) each ∙ sym (unchained_is key 8 start old l)

-- ---- a loop over pieces

-- the last block of a piece, as a block of the whole text
last_block : (n : ℕ) (was : List ℕ) → (start : List ℕ) → block (take 128 (drop (n * 128) was)) 7 ≡ link start was (8 * (n + 1))
last_block n was start =
    let after : 8 * (n + 1) ≡ suc (8 * n + 7) = omega arith in
    let place : n * 128 + 112 ≡ 16 * (8 * n + 7) = omega arith in
    block_is (take 128 (drop (n * 128) was)) 7 ∙ ap (take 16) (drop-take 112 16 (drop (n * 128) was))
    ∙ take-take 16 16 (drop 112 (drop (n * 128) was)) (omega arith) ∙ ap (take 16) (drop-drop 112 (n * 128) was ∙ ap (λ k. drop k was) place)
    ∙ sym (block_is was (8 * n + 7)) ∙ sym (ap (link start was) after)

pub record AfterLinks (key start : List ℕ) (n : ℕ) (before was text : List ℕ) : Type 0 where
  pub pieces : AfterPieces (λ k. unlinked key start (8 * k) was) n was text
  pub next : before ≡ link start was (8 * n)

pub no_links : (key start before text : List ℕ) → before ≡ start → AfterLinks key start 0 before text text
unfolding unlinked
no_links key start before text e = record { pieces = no_pieces (λ k. unlinked key start (8 * k) text) text refl; next = e }

module _ (key start : List ℕ) (n : ℕ) (before was text piece next : List ℕ) where
  abbrev rest : List ℕ
  rest = drop (n * 128) was

  -- one piece more
  pub links_on : n * 128 + 128 ≤ length text → length text ≡ length was → length piece ≡ 128 → AfterLinks key start n before was text
      → piece ≡ unchained key before (take (n * 128 + 128 - n * 128) (drop (n * 128) text))
      → next ≡ block (take (n * 128 + 128 - n * 128) (drop (n * 128) text)) 7
      → AfterLinks key start (n + 1) next was (put_mid (n * 128) (n * 128 + 128 - n * 128) text piece)
  links_on room l m after e later =
      let long : 128 ≤ length rest = omega (arith, length-drop (n * 128) was) in
      let place : n * 128 ≡ 16 * (8 * n) = omega arith in
      let count : 8 * n + 8 ≡ 8 * (n + 1) = omega arith in
      let here = next_piece _ n was text after.pieces in
      let deciphered : piece ≡ unlinked key (link start was (8 * n)) 8 (drop (16 * (8 * n)) was) =
      e ∙ ap₂ (λ (s xs : List ℕ). unchained key s xs) after.next here
      ∙ unchained_is key 8 (link start was (8 * n)) (take 128 rest) (length-take-le 128 rest long)
      ∙ unlinked-take key 8 128 (link start was (8 * n)) rest (omega arith)
      ∙ ap (λ k. unlinked key (link start was (8 * n)) 8 (drop k was)) place in
      record {
        pieces =
            piece_more (λ k. unlinked key start (8 * k) was) n was text piece room l m after.pieces
            (ap (λ xs. unlinked key start (8 * n) was ++ xs) deciphered
            ∙ sym (unlinked-add key (8 * n) 8 start was) ∙ ap (λ k. unlinked key start k was) count);
        next = later ∙ ap (λ xs. block xs 7) here ∙ last_block n was start;
      }

-- after the last piece the whole text is deciphered
pub all_unlinked : (key start : List ℕ) (n : ℕ) (before was text : List ℕ) → length text ≡ n * 128 → length was ≡ n * 128
    → AfterLinks key start n before was text → text ≡ unchained key start was
all_unlinked key start n before was text l m after =
    all_pieces (λ k. unlinked key start (8 * k) was) n was text l after.pieces ∙ sym (unchained_is key (8 * n) start was (omega arith))
