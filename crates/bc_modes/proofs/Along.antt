-- XTS block after block, each tweak made of the one before it.
use Rattle.std.proofs.Common.{◌≡◌, ℕ, zero, suc, ◌+◌, ◌-◌, ◌*◌, ◌/◌, ◌<◌, ◌≤◌, List, [], ◌++◌, length, take, drop, refl, sym, ap, ap₂, ◌∙◌, arith, bit_xor, one-add, zero-add}
use Rattle.std.proofs.Math.Nat.{suc-add}
use Rattle.std.specs.Int.{w128, to_le_bytes}
use Rattle.std.specs.List.{flat_map, range_with_len}
use Rattle.std.proofs.lemmas.List.{drop-drop, length-drop, append_assoc, take-append-drop, take_at, drop_at, take-take, drop-take}
use Rattle.std.proofs.lemmas.List.{flat_map_more}
use Rattle.std.proofs.lemmas.Slice.{take-put_mid}
use borrow.Rule.Slice.PartMut.{put_mid}
use Rattle.bc_aes.specs.Blocks.{block, EachBlock}
use Rattle.bc_modes.specs.ByBlocks.{xor_bytes}
use Rattle.bc_modes.specs.Tweak.{tweak_at}
use Rattle.bc_modes.specs.Xts.{between_tweaks, tweak_block, tweaked, tweak_bytes}
use Rattle.bc_modes.proofs.Doubling.{tweak_at-zero, tweak_at-add}
use Rattle.bc_modes.proofs.Blocks.{block-suc, flat_map-blocks, take-zip2, drop-zip2, EachBlock-drop, zip2-nil, range_with_len-more}

-- the first n blocks, where t is the first one's tweak
unfoldable pub along : (List ℕ → List ℕ) → ℕ → ℕ → List ℕ → List ℕ
along cipher t zero text = []
along cipher t (suc n) text =
    between_tweaks cipher (to_le_bytes w128 t) (take 16 text) ++ along cipher (tweak_at t 1) n (drop 16 text)

tweak_at-next : (t j : ℕ) → tweak_at t (suc j) ≡ tweak_at (tweak_at t 1) j
tweak_at-next t j = ap (tweak_at t) (sym (one-add j)) ∙ tweak_at-add t 1 j

tweaked_from : (cipher : List ℕ → List ℕ) (n t : ℕ) (text : List ℕ)
    → flat_map (λ j. between_tweaks cipher (tweak_block t j) (block text j)) (range_with_len 0 n) ≡ along cipher t n text
unfolding along
tweaked_from cipher zero t text = refl
tweaked_from cipher (suc n) t text =
    flat_map-blocks (λ j. between_tweaks cipher (tweak_block t j) (block text j)) n
    ∙ ap₂ (λ (xs ys : List ℕ). xs ++ ys)
    (ap (λ s. between_tweaks cipher (to_le_bytes w128 s) (take 16 text)) (tweak_at-zero t))
    (ap (λ (f : ℕ → List ℕ). flat_map f (range_with_len 0 n))
    (λ i j. between_tweaks cipher (to_le_bytes w128 (tweak_at-next t j i)) (block-suc text j i))
    ∙ tweaked_from cipher n (tweak_at t 1) (drop 16 text))

-- a text of n blocks, block after block
pub tweaked_is : (cipher : List ℕ → List ℕ) (n t : ℕ) (text : List ℕ) → length text ≡ 16 * n → tweaked cipher t text ≡ along cipher t n text
unfolding tweaked
tweaked_is cipher n t text l =
    let count : length text / 16 ≡ n = omega arith in
    ap (λ k. flat_map (λ j. between_tweaks cipher (tweak_block t j) (block text j)) (range_with_len 0 k)) count
    ∙ tweaked_from cipher n t text

-- the first m blocks, and then n more
pub along-add : (cipher : List ℕ → List ℕ) (m n t : ℕ) (text : List ℕ)
    → along cipher t (m + n) text ≡ along cipher t m text ++ along cipher (tweak_at t m) n (drop (16 * m) text)
unfolding along
along-add cipher zero n t text =
    ap (λ k. along cipher t k text) (zero-add n) ∙ ap (λ s. along cipher s n text) (sym (tweak_at-zero t))
along-add cipher (suc m) n t text =
    let first : List ℕ = between_tweaks cipher (to_le_bytes w128 t) (take 16 text) in
    let rest : List ℕ = along cipher (tweak_at t 1) m (drop 16 text) in
    let place : 16 + 16 * m ≡ 16 * suc m = omega arith in
    ap (λ k. along cipher t k text) (suc-add m n)
    ∙ ap (λ xs. first ++ xs) (along-add cipher m n (tweak_at t 1) (drop 16 text))
    ∙ sym (append_assoc first rest (along cipher (tweak_at (tweak_at t 1) m) n (drop (16 * m) (drop 16 text))))
    ∙ ap₂ (λ (s : ℕ) (xs : List ℕ). first ++ rest ++ along cipher s n xs)
    (sym (tweak_at-next t m)) (drop-drop (16 * m) 16 text ∙ ap (λ k. drop k text) place)

-- no more of the text is read
pub along-take : (cipher : List ℕ → List ℕ) (n t k : ℕ) (text : List ℕ) → 16 * n ≤ k → along cipher t n (take k text) ≡ along cipher t n text
unfolding along
along-take cipher zero t k text h = refl
along-take cipher (suc n) t k text h =
    let split : k ≡ 16 + (k - 16) = omega arith in
    ap₂ (λ (xs ys : List ℕ). between_tweaks cipher (to_le_bytes w128 t) xs ++ along cipher (tweak_at t 1) n ys)
    (take-take 16 k text (omega arith)) (ap (λ j. drop 16 (take j text)) split ∙ drop-take 16 (k - 16) text)
    ∙ ap (λ xs. between_tweaks cipher (to_le_bytes w128 t) (take 16 text) ++ xs)
    (along-take cipher n (tweak_at t 1) (k - 16) (drop 16 text) (omega arith))

tweak_bytes-suc : (t n : ℕ) → tweak_bytes t (suc n) ≡ to_le_bytes w128 t ++ tweak_bytes (tweak_at t 1) n
tweak_bytes-suc t n =
    flat_map-blocks (tweak_block t) n
    ∙ ap₂ (λ (xs ys : List ℕ). xs ++ ys) (ap (to_le_bytes w128) (tweak_at-zero t))
    (ap (λ (f : ℕ → List ℕ). flat_map f (range_with_len 0 n)) (λ i j. to_le_bytes w128 (tweak_at-next t j i)))

-- one tweak more
tweak_bytes-more : (t n : ℕ) → tweak_bytes t (n + 1) ≡ tweak_bytes t n ++ tweak_block t n
tweak_bytes-more t n =
    ap (flat_map (tweak_block t)) (range_with_len-more n)
    ∙ sym (flat_map_more (tweak_block t) [] (range_with_len 0 n) n)

-- a loop that writes tweak after tweak: one more
pub tweaks_more : (t n : ℕ) (tweaks bytes : List ℕ) → 16 * n + 16 ≤ length tweaks → take (16 * n) tweaks ≡ tweak_bytes t n
    → bytes ≡ tweak_block t n → length bytes ≡ 16
    → take (16 * (n + 1)) (put_mid (16 * n) (16 * n + 16 - 16 * n) tweaks bytes) ≡ tweak_bytes t (n + 1)
tweaks_more t n tweaks bytes room so_far next l =
    take-put_mid (16 * n) (16 * n + 16 - 16 * n) tweaks bytes (16 * (n + 1)) (omega arith) (omega arith)
    ∙ ap₂ (λ (xs ys : List ℕ). xs ++ ys) so_far next ∙ sym (tweak_bytes-more t n)

-- the first block, where the tweaks begin with t
first_between : (cipher : List ℕ → List ℕ) (t rest text old new tweaks : List ℕ) → tweaks ≡ t ++ rest → length t ≡ 16 → 0 < length old
    → old ≡ xor_bytes text tweaks → EachBlock cipher old new → take 16 (xor_bytes new tweaks) ≡ between_tweaks cipher t (take 16 text)
first_between cipher t rest text old new tweaks s l some o each =
    let is_t : take 16 tweaks ≡ t = ap (take 16) s ∙ take_at t rest 16 l in
    let added : block old 0 ≡ xor_bytes (take 16 text) t =
    ap (take 16) o ∙ take-zip2 bit_xor 16 text tweaks ∙ ap (xor_bytes (take 16 text)) is_t in
    take-zip2 bit_xor 16 new tweaks
    ∙ ap₂ (λ (xs ys : List ℕ). xor_bytes xs ys) (each.ciphered 0 some ∙ ap cipher added) is_t

-- tweaks added to a text of n blocks, each block ciphered, and the tweaks added again
pub along_by_pieces : (cipher : List ℕ → List ℕ) (n t : ℕ) (text old new : List ℕ) → length old ≡ 16 * n
    → old ≡ xor_bytes text (tweak_bytes t n) → EachBlock cipher old new → xor_bytes new (tweak_bytes t n) ≡ along cipher t n text
unfolding along
along_by_pieces cipher zero t text old new l o each = zip2-nil bit_xor new
along_by_pieces cipher (suc n) t text old new l o each =
    let all : List ℕ = tweak_bytes t (suc n) in
    let rest : List ℕ = tweak_bytes (tweak_at t 1) n in
    let split : all ≡ to_le_bytes w128 t ++ rest = tweak_bytes-suc t n in
    let is_rest : drop 16 all ≡ rest = ap (drop 16) split ∙ drop_at (to_le_bytes w128 t) rest 16 refl in
    let added : drop 16 old ≡ xor_bytes (drop 16 text) rest =
    ap (drop 16) o ∙ drop-zip2 bit_xor 16 text all ∙ ap (xor_bytes (drop 16 text)) is_rest in
    sym (take-append-drop 16 (xor_bytes new all))
    ∙ ap₂ (λ (xs ys : List ℕ). xs ++ ys)
    (first_between cipher (to_le_bytes w128 t) rest text old new all split refl (omega arith) o each)
    (drop-zip2 bit_xor 16 new all ∙ ap (xor_bytes (drop 16 new)) is_rest
    ∙ along_by_pieces cipher n (tweak_at t 1) (drop 16 text) (drop 16 old) (drop 16 new)
    (omega (arith, length-drop 16 old)) added (EachBlock-drop cipher old new each))
