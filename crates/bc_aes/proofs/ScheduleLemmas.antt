-- The key expansion over words is that over bytes.
use Rattle.std.proofs.Common.{◌≡◌, ℕ, zero, suc, ◌+◌, ◌-◌, ◌*◌, ◌/◌, ◌%◌, ◌<◌, ◌≤◌, ◌==◌, Bool, true, false, List, [], ◌∷◌, ◌++◌, length, set, take, refl, sym, ap, ap₂, ◌∙◌, arith, append_assoc, eq-eqb}
use Rattle.std.specs.Prelude.{slice_index, if◌then◌else◌, ◌&&◌}
use borrow.Author.Tests.{ne_eqb}
use Rattle.std.specs.Int.{byte_at}
use Rattle.std.proofs.lemmas.List.{take_more_set, get_or-take, length-take-le, take_at, append-nil}
use Rattle.bc_aes.specs.State.{sub_byte, inv_sub_byte, inv_mixing_row}
use Rattle.bc_aes.specs.KeyExpansion.{word, rot_word, sub_word, xor_word, rcon, added_word, with_word, expanded, key_expansion, rounds}
use Rattle.bc_aes.specs.Cipher.{encipher_by, decipher_by, encipher, decipher}
use Rattle.bc_aes.specs.Columns.{column, schedule_bytes, mixed_column, unmixed_column}
use Rattle.bc_aes.proofs.WordLemmas.{four}
use Rattle.bc_aes.proofs.RoundLemmas.{drop-schedule, drop_next}
use Rattle.bc_aes.proofs.TableLemmas.{inv_sub_byte-sub_byte}

-- ---- what is added to a word

pub added_word-first : (nk i : ℕ) (w : List ℕ) → i % nk ≡ 0 → added_word nk i w ≡ xor_word (sub_word (rot_word w)) (rcon (i / nk))
unfolding added_word
added_word-first nk i w h =
    ap (λ (t : Bool). if t then xor_word (sub_word (rot_word w)) (rcon (i / nk)) else (if nk == 8 && i % 8 == 4 then sub_word w else w)) (eq-eqb (i % nk) 0 h)

added_word-next : (nk i : ℕ) (w : List ℕ) → (i % nk ≡ 0 → ⊥) → added_word nk i w ≡ (if nk == 8 && i % 8 == 4 then sub_word w else w)
unfolding added_word
added_word-next nk i w h =
    ap (λ (t : Bool). if t then xor_word (sub_word (rot_word w)) (rcon (i / nk)) else (if nk == 8 && i % 8 == 4 then sub_word w else w)) (ne_eqb (i % nk) 0 h)

pub added_word-middle : (nk i : ℕ) (w : List ℕ) → (i % nk ≡ 0 → ⊥) → nk ≡ 8 → i % 8 ≡ 4 → added_word nk i w ≡ sub_word w
added_word-middle nk i w h e f =
    added_word-next nk i w h
    ∙ ap₂ (λ (s t : Bool). if s && t then sub_word w else w) (eq-eqb nk 8 e) (eq-eqb (i % 8) 4 f)

and_false : (t : Bool) → (t && false) ≡ false
and_false true = refl
and_false false = refl

pub added_word-not_eight : (nk i : ℕ) (w : List ℕ) → (i % nk ≡ 0 → ⊥) → (nk ≡ 8 → ⊥) → added_word nk i w ≡ w
added_word-not_eight nk i w h e =
    added_word-next nk i w h ∙ ap (λ (s : Bool). if s && (i % 8 == 4) then sub_word w else w) (ne_eqb nk 8 e)

pub added_word-not_middle : (nk i : ℕ) (w : List ℕ) → (i % nk ≡ 0 → ⊥) → (i % 8 ≡ 4 → ⊥) → added_word nk i w ≡ w
added_word-not_middle nk i w h e =
    added_word-next nk i w h ∙ ap (λ (s : Bool). if (nk == 8) && s then sub_word w else w) (ne_eqb (i % 8) 4 e)
    ∙ ap (λ (s : Bool). if s then sub_word w else w) (and_false (nk == 8))

-- ---- the schedule as bytes

pub schedule_bytes-push : (ws : List ℕ) (v : ℕ) → schedule_bytes (ws ++ v ∷ []) ≡ schedule_bytes ws ++ column v
schedule_bytes-push [] v = refl
schedule_bytes-push (w ∷ ws) v = ap (λ (bs : List ℕ). column w ++ bs) (schedule_bytes-push ws v)

word-schedule : (ws : List ℕ) (j : ℕ) → j < length ws → word (schedule_bytes ws) j ≡ column (slice_index ws j)
word-schedule ws j h =
    let size : 4 * j + 4 - 4 * j ≡ 4 = omega arith in
    ap₂ (λ (n : ℕ) (bs : List ℕ). take n bs) size (drop-schedule ws j ∙ ap (λ (v : List ℕ). schedule_bytes v) (drop_next ws j (j + 1) refl h))

-- one more word of the schedule
pub expanded-more : (nk : ℕ) (key ws : List ℕ) (i v : ℕ) → 0 < nk → nk ≤ i → i < length ws → schedule_bytes (take i ws) ≡ expanded nk key (i - nk)
    → column v ≡ xor_word (column (slice_index ws (i - nk))) (added_word nk i (column (slice_index ws (i - 1))))
    → schedule_bytes (take (i + 1) (set ws i v)) ≡ expanded nk key (i + 1 - nk)
unfolding expanded with_word
expanded-more nk key ws i v p q h e f =
    let n : ℕ = i - nk in
    let first : List ℕ = take i ws in
    let place : nk + n ≡ i = omega arith in
    let next : i + 1 - nk ≡ suc n = omega arith in
    let long : length first ≡ i = length-take-le i ws (omega arith) in
    let old : word (schedule_bytes first) (i - nk) ≡ column (slice_index ws (i - nk)) =
    word-schedule first (i - nk) (omega arith) ∙ ap (λ (w : ℕ). column w) (get_or-take i ws (i - nk) 0 (omega arith)) in
    let last : word (schedule_bytes first) (i - 1) ≡ column (slice_index ws (i - 1)) =
    word-schedule first (i - 1) (omega arith) ∙ ap (λ (w : ℕ). column w) (get_or-take i ws (i - 1) 0 (omega arith)) in
    let made : schedule_bytes (take (i + 1) (set ws i v)) ≡ with_word nk i (schedule_bytes first) =
    ap (λ (s : List ℕ). schedule_bytes s) (take_more_set ws i v h) ∙ schedule_bytes-push first v
    ∙ ap (λ (s : List ℕ). schedule_bytes first ++ s) (f ∙ ap₂ (λ (a b : List ℕ). xor_word a (added_word nk i b)) (sym old) (sym last)) in
    made ∙ ap₂ (λ (k : ℕ) (s : List ℕ). with_word nk k s) (sym place) e ∙ ap (λ (k : ℕ). expanded nk key k) (sym next)

-- ---- unmixing

-- what InvSubBytes would do is undone before
pub unmixed-substituted : (w t : ℕ) → column t ≡ sub_word (column w)
    → mixed_column inv_mixing_row (inv_sub_byte (byte_at 0 t)) (inv_sub_byte (byte_at 1 t)) (inv_sub_byte (byte_at 2 t)) (inv_sub_byte (byte_at 3 t)) ≡ unmixed_column (column w)
unmixed-substituted w t e =
    let back : (r : ℕ) → r < 256 → inv_sub_byte (sub_byte r) ≡ r = inv_sub_byte-sub_byte in
    ap (λ (bs : List ℕ). mixed_column inv_mixing_row (inv_sub_byte (slice_index bs 0)) (inv_sub_byte (slice_index bs 1)) (inv_sub_byte (slice_index bs 2)) (inv_sub_byte (slice_index bs 3))) e
    ∙ ap (λ (bs : List ℕ). unmixed_column bs) (four (back (byte_at 0 w) (omega arith)) (back (byte_at 1 w) (omega arith)) (back (byte_at 2 w) (omega arith)) (back (byte_at 3 w) (omega arith)))

pub expanded-none : (nk : ℕ) (key : List ℕ) → expanded nk key (nk - nk) ≡ key
unfolding expanded
expanded-none nk key = let none : nk - nk ≡ 0 = omega arith in ap (λ (n : ℕ). expanded nk key n) none

pub expanded-all : (nk : ℕ) (key : List ℕ) (words : ℕ) → words ≡ 4 * (rounds nk + 1) → expanded nk key (words - nk) ≡ key_expansion nk key
unfolding key_expansion
expanded-all nk key words e = ap (λ (n : ℕ). expanded nk key (n - nk)) e

-- ---- a schedule begins with its key

take-schedule : (ws : List ℕ) (n : ℕ) → schedule_bytes (take n ws) ≡ take (4 * n) (schedule_bytes ws)
take-schedule ws zero = refl
take-schedule [] (suc n) = let e : 4 * suc n ≡ suc (4 * n + 3) = omega arith in ap (λ (k : ℕ). take k []) (sym e)
take-schedule (w ∷ ws) (suc n) =
    let e : 4 * suc n ≡ suc (suc (suc (suc (4 * n)))) = omega arith in
    ap (λ (bs : List ℕ). column w ++ bs) (take-schedule ws n) ∙ ap (λ (k : ℕ). take k (schedule_bytes (w ∷ ws))) (sym e)

begins : (nk : ℕ) (key : List ℕ) (n : ℕ) → (rest : List ℕ) × (expanded nk key n ≡ key ++ rest)
unfolding expanded with_word
begins nk key zero = ([], sym (append-nil key))
begins nk key (suc n) =
    let so_far = begins nk key n in
    let added : List ℕ = xor_word (word (expanded nk key n) (nk + n - nk)) (added_word nk (nk + n) (word (expanded nk key n) (nk + n - 1))) in
    (so_far.0 ++ added, ap (λ (s : List ℕ). s ++ added) so_far.1 ∙ append_assoc key so_far.0 added)

pub key-of_schedule : (nk : ℕ) (key words : List ℕ) → length key ≡ 4 * nk → schedule_bytes words ≡ key_expansion nk key
    → schedule_bytes (take nk words) ≡ key
unfolding key_expansion
key-of_schedule nk key words long e =
    let whole = begins nk key (4 * (rounds nk + 1) - nk) in
    take-schedule words nk ∙ ap (λ (s : List ℕ). take (4 * nk) s) (e ∙ whole.1) ∙ take_at key whole.0 (4 * nk) long

length-schedule : (ws : List ℕ) → length (schedule_bytes ws) ≡ 4 * length ws
length-schedule [] = refl
length-schedule (w ∷ ws) =
    let e : 4 * suc (length ws) ≡ suc (suc (suc (suc (4 * length ws)))) = omega arith in
    ap (λ (n : ℕ). suc (suc (suc (suc n)))) (length-schedule ws) ∙ sym e

-- a key that is the first words of a schedule has their length
pub key_length : (nk : ℕ) (words key : List ℕ) → nk ≤ length words → schedule_bytes (take nk words) ≡ key → length key ≡ 4 * nk
key_length nk words key h e =
    ap (λ (k : List ℕ). length k) (sym e) ∙ length-schedule (take nk words) ∙ ap (λ (n : ℕ). 4 * n) (length-take-le nk words h)

-- ---- the cipher under a schedule that is the key's

pub encipher-by : (nk nr : ℕ) (schedule key : List ℕ) → nr ≡ rounds nk → schedule ≡ key_expansion nk key
    → (block : List ℕ) → encipher_by nr schedule block ≡ encipher nk key block
unfolding encipher
encipher-by nk nr schedule key e f block = ap₂ (λ (n : ℕ) (s : List ℕ). encipher_by n s block) e f

pub decipher-by : (nk nr : ℕ) (schedule key : List ℕ) → nr ≡ rounds nk → schedule ≡ key_expansion nk key
    → (block : List ℕ) → decipher_by nr schedule block ≡ decipher nk key block
unfolding decipher
decipher-by nk nr schedule key e f block = ap₂ (λ (n : ℕ) (s : List ℕ). decipher_by n s block) e f
