-- In CBC-ESSIV deciphering undoes enciphering.
use Rattle.std.proofs.Common.{◌≡◌, ℕ, zero, suc, ◌+◌, ◌*◌, ◌/◌, ◌%◌, ◌<◌, ◌≤◌, ◌^◌, List, [], ◌∷◌, ◌++◌, length, drop, refl, sym, ap, ap₂, ◌∙◌, arith, slice_index}
use Rattle.std.specs.List.{flat_map, range_with_len}
use Rattle.std.specs.Int.{w32, to_be_bytes, bytes_high_first}
use Rattle.std.proofs.lemmas.List.{length-drop, take-append-drop, take_at, drop_at}
use Rattle.std.proofs.lemmas.List.Elements.{All-nil, All-cons, All-head, All-tail}
use Rattle.sha2.specs.Sha256.{sha256, digest_bytes}
use Rattle.sha2.proofs.Facts256.{length-sha256}
use Rattle.bc_aes.specs.Cipher.{decipher}
use Rattle.bc_aes.specs.Blocks.{block}
use Rattle.bc_aes.specs.Laws.{IsBytes, DeciphermentUndoes, EnciphermentMakesBlocks}
use Rattle.bc_key.specs.DataUnitNumber.{iv_of}
use Rattle.bc_modes.specs.ByBlocks.{by_blocks, xor_bytes}
use Rattle.bc_modes.specs.CbcEssiv.{chained, unchained, link, essiv, essiv_encipher, essiv_decipher}
use Rattle.bc_modes.proofs.Blocks.{block_is, block-suc, flat_map-blocks}
use Rattle.bc_modes.proofs.Bytes.{AreBytes, IsBytes-xor, IsBytes-le_bytes, byte_at-lt, xor_bytes-twice}
use Rattle.bc_modes.proofs.Links.{chain, chained_is}
use Rattle.bc_modes.proofs.UnitLaws.{length-by_blocks, length-chained, IsBytes-block, AreBytes-by_blocks}

-- ---- texts and their blocks

-- block j of blocks that are joined is the j-th of them
block-joined : (at : ℕ → List ℕ) (n j : ℕ) → ((i : ℕ) → length (at i) ≡ 16) → j < n → block (flat_map at (range_with_len 0 n)) j ≡ at j
block-joined at zero j l h = absurd (omega arith)
block-joined at (suc n) zero l h =
    ap (λ xs. block xs 0) (flat_map-blocks at n) ∙ take_at (at 0) (flat_map (λ i. at (suc i)) (range_with_len 0 n)) 16 (l 0)
block-joined at (suc n) (suc j) l h =
    let rest : List ℕ = flat_map (λ i. at (suc i)) (range_with_len 0 n) in
    ap (λ xs. block xs (suc j)) (flat_map-blocks at n) ∙ block-suc (at 0 ++ rest) j
    ∙ ap (λ xs. block xs j) (drop_at (at 0) rest 16 (l 0)) ∙ block-joined (λ i. at (suc i)) n j (λ i. l (suc i)) (omega arith)

-- a text of n blocks is its blocks, joined
joined-blocks : (at : ℕ → List ℕ) (n : ℕ) (text : List ℕ) → length text ≡ 16 * n → ((j : ℕ) → j < n → at j ≡ block text j)
    → flat_map at (range_with_len 0 n) ≡ text
joined-blocks at zero [] l same = refl
joined-blocks at zero (x ∷ xs) l same = absurd (omega arith)
joined-blocks at (suc n) text l same =
    flat_map-blocks at n
    ∙ ap₂ (λ (xs ys : List ℕ). xs ++ ys) (same 0 (omega arith) ∙ block_is text 0)
    (joined-blocks (λ j. at (suc j)) n (drop 16 text) (omega (arith, length-drop 16 text)) (λ j h. same (suc j) (omega arith) ∙ block-suc text j))
    ∙ take-append-drop 16 text

-- ---- bytes

AreBytes-append : (xs ys : List ℕ) → AreBytes xs → AreBytes ys → AreBytes (xs ++ ys)
AreBytes-append [] ys p q = q
AreBytes-append (x ∷ xs) ys p q =
    All-cons (λ b. b < 256) x (xs ++ ys) (All-head (λ b. b < 256) x xs p) (AreBytes-append xs ys (All-tail (λ b. b < 256) x xs p) q)

AreBytes-high_first : (k n : ℕ) → AreBytes (bytes_high_first k n)
AreBytes-high_first zero n = All-nil (λ b. b < 256)
AreBytes-high_first (suc k) n = All-cons (λ b. b < 256) _ (bytes_high_first k n) (byte_at-lt k n) (AreBytes-high_first k n)

AreBytes-digest : (h : List ℕ) (n : ℕ) → AreBytes (digest_bytes h n)
unfolding digest_bytes
AreBytes-digest h zero = All-nil (λ b. b < 256)
AreBytes-digest h (suc n) =
    AreBytes-append (digest_bytes h n) (to_be_bytes w32 (slice_index h n)) (AreBytes-digest h n) (AreBytes-high_first 4 (slice_index h n))

IsBytes-sha256 : (m : List ℕ) → IsBytes 32 (sha256 m)
unfolding sha256
IsBytes-sha256 m = record { size_is = length-sha256 m; bytes_are = AreBytes-digest _ 8 }

module _ (undoes : DeciphermentUndoes) (makes : EnciphermentMakesBlocks) (key : List ℕ) (is_key : IsBytes 16 key) where
  IsBytes-essiv : (number : ℕ) → IsBytes 16 (essiv key number)
  unfolding essiv
  IsBytes-essiv number = makes 8 (sha256 key) (iv_of number) (IsBytes-sha256 key) (IsBytes-le_bytes (number % 2 ^ 128))

  IsBytes-chained : (start text : List ℕ) (j : ℕ) → IsBytes 16 start → AreBytes text → 16 * j + 16 ≤ length text → IsBytes 16 (chained key start text j)
  unfolding chained
  IsBytes-chained start text zero is_start are room =
      makes 4 key _ is_key (IsBytes-xor 16 (block text 0) start (IsBytes-block text 0 are room) is_start)
  IsBytes-chained start text (suc j) is_start are room =
      makes 4 key _ is_key
      (IsBytes-xor 16 (block text (suc j)) (chained key start text j) (IsBytes-block text (suc j) are room)
      (IsBytes-chained start text j is_start are (omega arith)))

  IsBytes-chain : (start text : List ℕ) (j : ℕ) → IsBytes 16 start → AreBytes text → 16 * j + 16 ≤ length text → IsBytes 16 (chain key start text j)
  IsBytes-chain start text zero is_start are room = is_start
  IsBytes-chain start text (suc j) is_start are room = IsBytes-chained start text j is_start are (omega arith)

  -- the ciphertext
  abbrev raw : List ℕ → List ℕ → List ℕ
  raw start text = by_blocks text (chained key start text)

  block-raw : (start text : List ℕ) (j : ℕ) → j < length text / 16 → block (raw start text) j ≡ chained key start text j
  block-raw start text j h = block-joined (chained key start text) (length text / 16) j (length-chained key start text) h

  -- the inverse's links are the chain
  link-raw : (start text : List ℕ) (j : ℕ) → j < length text / 16 → link start (raw start text) j ≡ chain key start text j
  link-raw start text zero h = refl
  link-raw start text (suc j) h = block-raw start text j (omega arith)

  block-undone : (start text : List ℕ) (j : ℕ) → IsBytes 16 start → AreBytes text → j < length text / 16
      → xor_bytes (decipher 4 key (block (raw start text) j)) (link start (raw start text) j) ≡ block text j
  block-undone start text j is_start are h =
      let before : List ℕ = chain key start text j in
      let room : 16 * j + 16 ≤ length text = omega arith in
      let is_before = IsBytes-chain start text j is_start are room in
      let is_block = IsBytes-block text j are room in
      ap₂ (λ (xs ys : List ℕ). xor_bytes (decipher 4 key xs) ys)
      (block-raw start text j h ∙ sym (chained_is key start text j)) (link-raw start text j h)
      ∙ ap (λ xs. xor_bytes xs before) (undoes 4 key (xor_bytes (block text j) before) is_key (IsBytes-xor 16 (block text j) before is_block is_before))
      ∙ xor_bytes-twice (block text j) before (omega (arith, is_block.size_is, is_before.size_is))

  pub AreBytes-essiv_encipher : (number : ℕ) (text : List ℕ) → AreBytes text → AreBytes (essiv_encipher key number text)
  unfolding essiv_encipher
  AreBytes-essiv_encipher number text are =
      AreBytes-by_blocks text (chained key (essiv key number) text)
      (λ j lt. IsBytes-chained (essiv key number) text j (IsBytes-essiv number) are (omega arith))

  pub essiv-undone : (number : ℕ) (text : List ℕ) → length text % 16 ≡ 0 → AreBytes text
      → essiv_decipher key number (essiv_encipher key number text) ≡ text
  unfolding essiv_encipher essiv_decipher unchained
  essiv-undone number text whole are =
      let start : List ℕ = essiv key number in
      let all : List ℕ = raw start text in
      let at : ℕ → List ℕ = λ j. xor_bytes (decipher 4 key (block all j)) (link start all j) in
      let count : length all / 16 ≡ length text / 16 =
      ap (λ n. n / 16) (length-by_blocks text (chained key start text) whole (λ j h. length-chained key start text j)) in
      ap (λ n. flat_map at (range_with_len 0 n)) count
      ∙ joined-blocks at (length text / 16) text (omega arith) (λ j h. block-undone start text j (IsBytes-essiv number) are h)
