-- The steps of the plain program's loops.
use Rattle.std.proofs.Common.{◌≡◌, ℕ, suc, ◌+◌, ◌-◌, ◌/◌, ◌%◌, ◌<◌, ◌≤◌, ◌==◌, Bool, Option, Some, List, refl, sym, ap, ap₂, ◌∙◌, arith, bit_xor, eq-eqb}
use Rattle.std.specs.Prelude.{find, unwrap_or, if◌then◌else◌, slice_range, take, length, ◌*◌, ◌++◌}
use Rattle.std.proofs.lemmas.List.{take-take}
use Rattle.std.specs.List.{range_with_len}
use Rattle.std.specs.Int.Bits.{xor_zero_r}
use borrow.Author.Tests.{ne_eqb}
use Rattle.bc_aes.specs.Field.{times_x, product_by, product, inverse}
use Rattle.bc_aes.specs.KeyExpansion.{round_key, word, xor_word, power_of_x, added_word, with_word, expanded}
use Rattle.bc_aes.proofs.BlockLemmas.{kept, take-add}
use Rattle.bc_aes.specs.Cipher.{inv_round, after_inv_round}
use Rattle.bc_aes.proofs.FieldLemmas.{xor_assoc}

pub product-begun : (a b : ℕ) → bit_xor 0 (product_by (8 - 0) a b) ≡ product a b
unfolding product
product-begun a b = refl

pub product-more : (sum i a b all : ℕ) → i < 8 → bit_xor sum (product_by (8 - i) a b) ≡ all
    → bit_xor (bit_xor sum (if b % 2 == 1 then a else 0)) (product_by (8 - (i + 1)) (times_x a) (b / 2)) ≡ all
unfolding product_by
product-more sum i a b all h e =
    let n : ℕ = 8 - (i + 1) in
    let left : 8 - i ≡ suc n = omega arith in
    xor_assoc sum (if b % 2 == 1 then a else 0) (product_by n (times_x a) (b / 2))
    ∙ ap (λ (m : ℕ). bit_xor sum (product_by m a b)) (sym left) ∙ e

pub product-done : (sum i a b all : ℕ) → 8 ≤ i → bit_xor sum (product_by (8 - i) a b) ≡ all → sum ≡ all
unfolding product_by
product-done sum i a b all h e =
    let none : 8 - i ≡ 0 = omega arith in
    sym (xor_zero_r sum) ∙ ap (λ (m : ℕ). bit_xor sum (product_by m a b)) (sym none) ∙ e

-- the first byte from b on whose product with a is 1
abbrev pub first_from : ℕ → ℕ → Option ℕ
first_from a b = find (λ c. product a c == 1) (range_with_len b (256 - b))

first_from-here : (a b : ℕ) → b < 256 → first_from a b ≡ (if product a b == 1 then Some b else first_from a (b + 1))
first_from-here a b h =
    let left : 256 - b ≡ suc (256 - (b + 1)) = omega arith in
    ap (λ (n : ℕ). find (λ c. product a c == 1) (range_with_len b n)) left

pub inverse-found : (a b : ℕ) → b < 256 → product a b ≡ 1 → first_from a b ≡ first_from a 0 → b ≡ inverse a
unfolding inverse
inverse-found a b h one e =
    ap (λ (o : Option ℕ). unwrap_or o 0)
    (sym (first_from-here a b h ∙ ap (λ (t : Bool). if t then Some b else first_from a (b + 1)) (eq-eqb (product a b) 1 one)) ∙ e)

pub inverse-missed : (a b : ℕ) → b < 256 → (product a b ≡ 1 → ⊥) → first_from a b ≡ first_from a 0 → first_from a (b + 1) ≡ first_from a 0
inverse-missed a b h other e =
    sym (first_from-here a b h ∙ ap (λ (t : Bool). if t then Some b else first_from a (b + 1)) (ne_eqb (product a b) 1 other)) ∙ e

pub inverse-none : (a b : ℕ) → 256 ≤ b → first_from a b ≡ first_from a 0 → 0 ≡ inverse a
unfolding inverse
inverse-none a b h e =
    let none : 256 - b ≡ 0 = omega arith in
    ap (λ (o : Option ℕ). unwrap_or o 0) (sym (ap (λ (n : ℕ). find (λ c. product a c == 1) (range_with_len b n)) none) ∙ e)

-- one more round of the inverse, in the standard's order (5.3)
pub after_inv_round-plain : (nr : ℕ) (schedule block : List ℕ) (n : ℕ)
    → after_inv_round nr schedule block (n + 1) ≡ inv_round (after_inv_round nr schedule block n) (round_key schedule (nr - (n + 1)))
unfolding after_inv_round
after_inv_round-plain nr schedule block n =
    let e : n + 1 ≡ suc n = omega arith in
    ap (λ (m : ℕ). after_inv_round nr schedule block m) e
    ∙ ap (λ (m : ℕ). inv_round (after_inv_round nr schedule block n) (round_key schedule (nr - m))) (sym e)

-- ---- the key expansion

pub power_of_x-none : 1 ≡ power_of_x 0
unfolding power_of_x
power_of_x-none = refl

pub power_of_x-more : (n : ℕ) → times_x (power_of_x n) ≡ power_of_x (n + 1)
unfolding power_of_x
power_of_x-more n = let e : n + 1 ≡ suc n = omega arith in sym (ap (λ (m : ℕ). power_of_x m) e)

-- a word of the bytes before is a word of all
word-before : (n j : ℕ) (bytes : List ℕ) → 4 * j + 4 ≤ n → word (take n bytes) j ≡ word bytes j
word-before n j bytes h = kept (take n bytes) bytes n (4 * j) (4 * j + 4) (take-take n n bytes (omega arith)) h

-- one more word of the schedule
pub bytes-more : (nk : ℕ) (key old new next : List ℕ) (i : ℕ) → 1 ≤ nk → nk ≤ i → 4 * i + 4 ≤ length old → length new ≡ length old
    → take (4 * i) old ≡ expanded nk key (i - nk)
    → next ≡ xor_word (word old (i - nk)) (added_word nk i (word old (i - 1)))
    → take (4 * i) new ≡ take (4 * i) old → slice_range new (4 * i) (4 * i + 4) ≡ next
    → take (4 * (i + 1)) new ≡ expanded nk key (i + 1 - nk)
unfolding expanded with_word
bytes-more nk key old new next i p q room long so_far e before here =
    let n : ℕ = i - nk in
    let place : nk + n ≡ i = omega arith in
    let later : i + 1 - nk ≡ suc n = omega arith in
    let end : 4 * (i + 1) ≡ 4 * i + 4 = omega arith in
    let made : take (4 * (i + 1)) new ≡ with_word nk i (take (4 * i) old) =
    ap (λ (k : ℕ). take k new) end ∙ take-add (4 * i) 4 new (omega arith)
    ∙ ap₂ (λ (xs ys : List ℕ). xs ++ ys) before
    (here ∙ e ∙ ap₂ (λ (a b : List ℕ). xor_word a (added_word nk i b))
    (sym (word-before (4 * i) (i - nk) old (omega arith))) (sym (word-before (4 * i) (i - 1) old (omega arith)))) in
    made ∙ ap₂ (λ (k : ℕ) (s : List ℕ). with_word nk k s) (sym place) so_far ∙ ap (λ (k : ℕ). expanded nk key k) (sym later)
