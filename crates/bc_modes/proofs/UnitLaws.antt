-- Laws of the unit ciphers: lengths stay, and deciphering undoes enciphering.
use Rattle.std.proofs.Common.{◌≡◌, ℕ, zero, suc, ◌*◌, ◌/◌, ◌%◌, ◌<◌, List, [], ◌∷◌, ◌++◌, length, take, drop, refl, sym, ap, ap₂, ◌∙◌, subst, arith, bit_xor, ◌+◌, ◌≤◌}
use Rattle.std.specs.List.{flat_map, range_with_len}
use Rattle.std.specs.Int.{w128, to_le_bytes}
use Rattle.std.proofs.lemmas.List.{length-append, length-drop, length-take-le, take-append-drop, take_at, drop_at}
use Rattle.std.proofs.lemmas.Simd.{length-zip2}
use Rattle.bc_key.specs.declared.config.Mode.{Mode}
use Rattle.bc_key.specs.declared.config.Mode.TheVariants.{Aes256Xts, Aes128CbcEssiv}
use Rattle.bc_aes.specs.Cipher.{encipher, decipher}
use Rattle.bc_aes.specs.Blocks.{block}
use Rattle.bc_aes.specs.Laws.{IsBytes, DeciphermentUndoes, EnciphermentMakesBlocks}
use Rattle.bc_modes.specs.ByBlocks.{by_blocks, xor_bytes}
use Rattle.bc_modes.specs.Tweak.{tweak_at}
use Rattle.bc_modes.specs.Xts.{between_tweaks, tweak_block, tweaked, first_tweak, xts_encipher, xts_decipher}
use Rattle.bc_modes.specs.CbcEssiv.{chained, unchained, link, essiv, essiv_encipher, essiv_decipher}
use Rattle.bc_modes.specs.UnitCipher.{encipher_unit, decipher_unit}
use Rattle.bc_modes.proofs.Blocks.{block_is, flat_map-blocks}
use Rattle.std.proofs.lemmas.List.Elements.{All-nil, All-append}
use Rattle.bc_modes.proofs.Bytes.{AreBytes, IsBytes-take, AreBytes-drop, IsBytes-xor, IsBytes-le_bytes, xor_bytes-twice}
use Rattle.bc_modes.proofs.CipherLengths.{length-encipher, length-decipher}
use Rattle.bc_modes.proofs.Along.{along, tweaked_is}

-- ---- lengths

-- n blocks of 16 bytes
length-blocks : (n : ℕ) (at : ℕ → List ℕ) → ((j : ℕ) → j < n → length (at j) ≡ 16) → length (flat_map at (range_with_len 0 n)) ≡ 16 * n
length-blocks zero at h = refl
length-blocks (suc n) at h =
    let more = length-blocks n (λ j. at (suc j)) (λ j lt. h (suc j) (omega arith)) in
    let first = h 0 (omega arith) in
    ap length (flat_map-blocks at n) ∙ length-append (at 0) (flat_map (λ j. at (suc j)) (range_with_len 0 n)) ∙ omega arith

pub length-by_blocks : (text : List ℕ) (at : ℕ → List ℕ) → length text % 16 ≡ 0 → ((j : ℕ) → j < length text / 16 → length (at j) ≡ 16)
    → length (by_blocks text at) ≡ length text
length-by_blocks text at whole h = length-blocks (length text / 16) at h ∙ omega arith

length-xor : (xs ys : List ℕ) → length xs ≡ 16 → length ys ≡ 16 → length (xor_bytes xs ys) ≡ 16
length-xor xs ys x y = length-zip2 bit_xor xs ys (x ∙ sym y) ∙ x

length-block : (text : List ℕ) (j : ℕ) → j < length text / 16 → length (block text j) ≡ 16
length-block text j h =
    ap length (block_is text j) ∙ length-take-le 16 (drop (16 * j) text) (omega (arith, length-drop (16 * j) text))

length-tweaked : (cipher : List ℕ → List ℕ) (first : ℕ) (text : List ℕ) → length text % 16 ≡ 0
    → ((b : List ℕ) → length (cipher b) ≡ 16) → length (tweaked cipher first text) ≡ length text
unfolding tweaked
length-tweaked cipher first text whole gives =
    length-by_blocks text (λ j. between_tweaks cipher (tweak_block first j) (block text j)) whole
    (λ j h. length-xor (cipher (xor_bytes (block text j) (tweak_block first j))) (tweak_block first j) (gives _) refl)

pub length-chained : (key start text : List ℕ) (j : ℕ) → length (chained key start text j) ≡ 16
unfolding chained
length-chained key start text zero = length-encipher 4 key _
length-chained key start text (suc j) = length-encipher 4 key _

length-link : (start text : List ℕ) (j : ℕ) → length start ≡ 16 → j < length text / 16 → length (link start text j) ≡ 16
length-link start text zero s h = s
length-link start text (suc j) s h = length-block text j (omega arith)

-- the raw bytes of a text of whole blocks are as many as the text has
pub length-encipher_unit : (mode : Mode) (raw : List ℕ) (number : ℕ) (text : List ℕ) → length text % 16 ≡ 0
    → length (encipher_unit mode raw number text) ≡ length text
unfolding encipher_unit xts_encipher essiv_encipher
length-encipher_unit Aes256Xts raw number text whole =
    length-tweaked (encipher 8 (take 32 raw)) (first_tweak raw number) text whole (length-encipher 8 (take 32 raw))
length-encipher_unit Aes128CbcEssiv raw number text whole =
    length-by_blocks text (chained raw (essiv raw number) text) whole (λ j h. length-chained raw (essiv raw number) text j)

-- and the contrary
pub length-decipher_unit : (mode : Mode) (raw : List ℕ) (number : ℕ) (text : List ℕ) → length text % 16 ≡ 0
    → length (decipher_unit mode raw number text) ≡ length text
unfolding decipher_unit xts_decipher essiv_decipher unchained essiv
length-decipher_unit Aes256Xts raw number text whole =
    length-tweaked (decipher 8 (take 32 raw)) (first_tweak raw number) text whole (length-decipher 8 (take 32 raw))
length-decipher_unit Aes128CbcEssiv raw number text whole =
    length-by_blocks text (λ j. xor_bytes (decipher 4 raw (block text j)) (link (essiv raw number) text j)) whole
    (λ j h. length-xor (decipher 4 raw (block text j)) (link (essiv raw number) text j) (length-decipher 4 raw (block text j))
    (length-link (essiv raw number) text j (length-encipher 8 _ _) h))

-- ---- bytes

-- n blocks of bytes, one after the other
AreBytes-blocks : (n : ℕ) (at : ℕ → List ℕ) → ((j : ℕ) → j < n → AreBytes (at j)) → AreBytes (flat_map at (range_with_len 0 n))
AreBytes-blocks zero at h = All-nil (λ b. b < 256)
AreBytes-blocks (suc n) at h =
    subst AreBytes (sym (flat_map-blocks at n))
    (All-append (λ b. b < 256) (at 0) (flat_map (λ j. at (suc j)) (range_with_len 0 n)) (h 0 (omega arith))
    (AreBytes-blocks n (λ j. at (suc j)) (λ j lt. h (suc j) (omega arith))))

-- the blocks of a text, each made a block of bytes
pub AreBytes-by_blocks : (text : List ℕ) (at : ℕ → List ℕ) → ((j : ℕ) → j < length text / 16 → IsBytes 16 (at j)) → AreBytes (by_blocks text at)
AreBytes-by_blocks text at h = AreBytes-blocks (length text / 16) at (λ j lt. (h j lt).bytes_are)

pub IsBytes-block : (text : List ℕ) (j : ℕ) → AreBytes text → 16 * j + 16 ≤ length text → IsBytes 16 (block text j)
IsBytes-block text j are room =
    subst (IsBytes 16) (sym (block_is text j))
    (IsBytes-take 16 (drop (16 * j) text) (omega (arith, length-drop (16 * j) text)) (AreBytes-drop (16 * j) text are))

pub AreBytes-xts_encipher : EnciphermentMakesBlocks → (raw : List ℕ) (number : ℕ) (text : List ℕ) → length raw ≡ 64 → AreBytes raw
    → AreBytes text → AreBytes (xts_encipher raw number text)
unfolding xts_encipher tweaked
AreBytes-xts_encipher makes raw number text l are_raw are =
    let key : List ℕ = take 32 raw in
    let is_key = IsBytes-take 32 raw (omega arith) are_raw in
    let tweak : ℕ → List ℕ = λ j. tweak_block (first_tweak raw number) j in
    AreBytes-by_blocks text (λ j. between_tweaks (encipher 8 key) (tweak j) (block text j))
    (λ j lt.
    let is_block = IsBytes-block text j are (omega arith) in
    let is_tweak = IsBytes-le_bytes (tweak_at (first_tweak raw number) j) in
    IsBytes-xor 16 (encipher 8 key (xor_bytes (block text j) (tweak j))) (tweak j)
    (makes 8 key (xor_bytes (block text j) (tweak j)) is_key (IsBytes-xor 16 (block text j) (tweak j) is_block is_tweak)) is_tweak)

-- ---- deciphering undoes enciphering, in XTS

-- one cipher undoes the other on blocks of bytes
pub record Undoes (cipher inverse : List ℕ → List ℕ) : Type 0 where
  pub gives : (b : List ℕ) → length (cipher b) ≡ 16
  pub undoes : (b : List ℕ) → IsBytes 16 b → inverse (cipher b) ≡ b

-- a block between two sums comes back
between-undone : (cipher inverse : List ℕ → List ℕ) → Undoes cipher inverse → (t b : List ℕ) → IsBytes 16 t → IsBytes 16 b
    → between_tweaks inverse t (between_tweaks cipher t b) ≡ b
between-undone cipher inverse u t b is_t is_b =
    let inner : List ℕ = xor_bytes b t in
    ap (λ x. xor_bytes (inverse x) t) (xor_bytes-twice (cipher inner) t (omega (arith, u.gives inner, is_t.size_is)))
    ∙ ap (λ x. xor_bytes x t) (u.undoes inner (IsBytes-xor 16 b t is_b is_t))
    ∙ xor_bytes-twice b t (omega (arith, is_b.size_is, is_t.size_is))

length-between : (cipher : List ℕ → List ℕ) (t : ℕ) (b : List ℕ) → ((b : List ℕ) → length (cipher b) ≡ 16)
    → length (between_tweaks cipher (to_le_bytes w128 t) b) ≡ 16
length-between cipher t b gives =
    length-xor (cipher (xor_bytes b (to_le_bytes w128 t))) (to_le_bytes w128 t) (gives (xor_bytes b (to_le_bytes w128 t))) refl

along-undone : (cipher inverse : List ℕ → List ℕ) → Undoes cipher inverse → (n t : ℕ) (text : List ℕ) → length text ≡ 16 * n → AreBytes text
    → along inverse t n (along cipher t n text) ≡ text
unfolding along
along-undone cipher inverse u zero t [] l are = refl
along-undone cipher inverse u zero t (x ∷ xs) l are = absurd (omega arith)
along-undone cipher inverse u (suc n) t text l are =
    let tweak : List ℕ = to_le_bytes w128 t in
    let first : List ℕ = between_tweaks cipher tweak (take 16 text) in
    let rest : List ℕ = along cipher (tweak_at t 1) n (drop 16 text) in
    let long = length-between cipher t (take 16 text) u.gives in
    ap₂ (λ (xs ys : List ℕ). between_tweaks inverse tweak xs ++ along inverse (tweak_at t 1) n ys)
    (take_at first rest 16 long) (drop_at first rest 16 long)
    ∙ ap₂ (λ (xs ys : List ℕ). xs ++ ys)
    (between-undone cipher inverse u tweak (take 16 text) (IsBytes-le_bytes t) (IsBytes-take 16 text (omega arith) are))
    (along-undone cipher inverse u n (tweak_at t 1) (drop 16 text) (omega (arith, length-drop 16 text)) (AreBytes-drop 16 text are))
    ∙ take-append-drop 16 text

tweaked-undone : (cipher inverse : List ℕ → List ℕ) → Undoes cipher inverse → (t : ℕ) (text : List ℕ) → length text % 16 ≡ 0 → AreBytes text
    → tweaked inverse t (tweaked cipher t text) ≡ text
tweaked-undone cipher inverse u t text whole are =
    let n : ℕ = length text / 16 in
    let size : length text ≡ 16 * n = omega arith in
    tweaked_is inverse n t (tweaked cipher t text) (length-tweaked cipher t text whole u.gives ∙ size)
    ∙ ap (along inverse t n) (tweaked_is cipher n t text size) ∙ along-undone cipher inverse u n t text size are

pub xts-undone : DeciphermentUndoes → (raw : List ℕ) (number : ℕ) (text : List ℕ) → length raw ≡ 64 → AreBytes raw → length text % 16 ≡ 0
    → AreBytes text → xts_decipher raw number (xts_encipher raw number text) ≡ text
unfolding xts_encipher xts_decipher
xts-undone law raw number text l are_raw whole are =
    let key : List ℕ = take 32 raw in
    let is_key = IsBytes-take 32 raw (omega arith) are_raw in
    tweaked-undone (encipher 8 key) (decipher 8 key)
    (record { gives = length-encipher 8 key; undoes = λ b is_b. law 8 key b is_key is_b })
    (first_tweak raw number) text whole are
