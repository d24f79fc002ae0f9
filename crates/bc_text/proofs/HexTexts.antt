-- Hexadecimal digits in lower case: what decodes is the one text of its bytes.
use Rattle.std.proofs.Common.{◌≡◌, ℕ, zero, suc, ◌<◌, ◌+◌, ◌*◌, ◌/◌, ◌%◌, Bool, true, false, eqb, List, [], ◌∷◌, length, Option, Some, None, Result, Ok, Err, refl, sym, ap, ◌∙◌, arith, inl, inr, slice_index}
use Rattle.std.specs.Prelude.{◌||◌, ◌&&◌, IsOk, MatchResult}
use Rattle.std.specs.List.{list_any}
use Rattle.std.specs.Fmt.{digit_glyph}
use Rattle.std.proofs.lemmas.Bool.{cases_lt, eqb-true}
use Rattle.std.proofs.lemmas.Bool.Decides.{nat_tests}
use Rattle.hex.specs.Hex.{encode_with, encode_lower, lower_digits, decode_of, decode_sized, decode_pairs, value_at, pair_value, digit_or_error, hex_digit_value, IsBytes, ◌>>=◌}
use Rattle.hex.specs.declared.error.FromHexError.{FromHexError}
use Rattle.hex.proofs.HexLemmas.{decode_of-ok, decode_of-even, decode_sized-ok, decode_sized-twice, decode_sized-encode_lower}
use Rattle.bc_text.specs.Fields.{is_upper_digit}

-- ---- the table's digits are std's

abbrev all_glyphs : ℕ → Bool
all_glyphs zero = true
all_glyphs (suc n) = eqb (slice_index lower_digits n) (digit_glyph false n) && all_glyphs n

and_parts : (a b : Bool) → (a && b) ≡ true → (a ≡ true) × (b ≡ true)
and_parts true b h = (refl, h)
and_parts false b h = absurd cc

glyph_below : (n k : ℕ) → all_glyphs n ≡ true → k < n → slice_index lower_digits k ≡ digit_glyph false k
glyph_below zero k h lt = absurd (omega arith)
glyph_below (suc n) k h lt =
    let parts = and_parts (eqb (slice_index lower_digits n) (digit_glyph false n)) (all_glyphs n) h in
    elim (cases_lt k n) [
      | inl below ↦ glyph_below n k parts.1 below
      | inr top ↦ let e : k ≡ n = omega arith in rw e (eqb-true _ _ parts.0)
    ]

pub lower_glyph : (k : ℕ) → k < 16 → slice_index lower_digits k ≡ digit_glyph false k
lower_glyph k lt = glyph_below 16 k refl lt

-- ---- one digit

value_glyph : (c v : ℕ) → is_upper_digit c ≡ false → hex_digit_value c ≡ Some v → (v < 16) × (digit_glyph false v ≡ c)
value_glyph c v low e = grind (arith, nat_tests)

-- ---- pairs of digits

bind_ok : {A B : Type 0} (r : Result A FromHexError) (f : A → Result B FromHexError) (y : B) → (r >>= f) ≡ Ok y → (x : A) × (r ≡ Ok x) × (f x ≡ Ok y)
bind_ok (Ok x) f y e = (x, refl, e)
bind_ok (Err d) f y e = absurd cc

digit_read : (c i : ℕ) (o : Option ℕ) (v : ℕ) → digit_or_error c i o ≡ Ok v → o ≡ Some v
digit_read c i (Some w) v e = cc
digit_read c i None v e = absurd cc

or_false : (a b : Bool) → (a || b) ≡ false → (a ≡ false) × (b ≡ false)
or_false true b h = absurd cc
or_false false b h = (refl, h)

pair_digits : (a b i h l byte : ℕ) → is_upper_digit a ≡ false → is_upper_digit b ≡ false → value_at a i ≡ Ok h → value_at b (i + 1) ≡ Ok l → h * 16 + l ≡ byte
    → (a ≡ slice_index lower_digits (byte / 16)) × (b ≡ slice_index lower_digits (byte % 16))
pair_digits a b i h l byte low_a low_b ha hb e =
    let va = value_glyph a h low_a (digit_read a i (hex_digit_value a) h ha) in
    let vb = value_glyph b l low_b (digit_read b (i + 1) (hex_digit_value b) l hb) in
    let high : byte / 16 ≡ h = omega (arith, va.0, vb.0) in
    let low : byte % 16 ≡ l = omega (arith, va.0, vb.0) in
    (rw high (sym (lower_glyph h va.0 ∙ va.1)), rw low (sym (lower_glyph l vb.0 ∙ vb.1)))

abbrev ok_hex : {A : Type 0} → A → Result A FromHexError
ok_hex x = Ok x

ok_is : {A : Type 0} (x y : A) → ok_hex x ≡ ok_hex y → x ≡ y
ok_is x y e = cc

encode-pairs : (i : ℕ) (s bytes : List ℕ) → list_any is_upper_digit s ≡ false → decode_pairs i s ≡ Ok bytes → s ≡ encode_lower bytes
unfolding decode_pairs encode_with
encode-pairs i [] bytes low e = rw (← ok_is [] bytes e) refl
encode-pairs i (a ∷ []) bytes low e = absurd cc
encode-pairs i (a ∷ b ∷ rest) bytes low e =
    let la = or_false (is_upper_digit a) (list_any is_upper_digit (b ∷ rest)) low in
    let lb = or_false (is_upper_digit b) (list_any is_upper_digit rest) la.1 in
    let p0 = bind_ok (pair_value a b i) (λ byte. decode_pairs (i + 2) rest >>= λ others. Ok (byte ∷ others)) bytes e in
    let p1 = bind_ok (value_at a i) (λ h. value_at b (i + 1) >>= λ l. Ok (h * 16 + l)) p0.0 p0.1 in
    let p2 = bind_ok (value_at b (i + 1)) (λ l. Ok (p1.0 * 16 + l)) p0.0 p1.2 in
    let p3 = bind_ok (decode_pairs (i + 2) rest) (λ others. Ok (p0.0 ∷ others)) bytes p0.2 in
    let ds = pair_digits a b i p1.0 p2.0 p0.0 la.0 lb.0 p1.1 p2.1 (ok_is (p1.0 * 16 + p2.0) p0.0 p2.2) in
    let ih = encode-pairs (i + 2) rest p3.0 lb.1 p3.1 in
    rw (← ok_is (p0.0 ∷ p3.0) bytes p3.2) (ap (λ (x : ℕ). x ∷ b ∷ rest) ds.0 ∙ ap (λ (x : ℕ). slice_index lower_digits (p0.0 / 16) ∷ x ∷ rest) ds.1 ∙ ap (λ (t : List ℕ). slice_index lower_digits (p0.0 / 16) ∷ slice_index lower_digits (p0.0 % 16) ∷ t) ih)

-- what decodes and has no digit in upper case is the text of its bytes
pub encode_lower-decode_of : (s bytes : List ℕ) → list_any is_upper_digit s ≡ false → decode_of s ≡ Ok bytes → (s ≡ encode_lower bytes) × IsBytes bytes
encode_lower-decode_of s bytes low e =
    let parts = decode_of-ok s bytes e in
    (encode-pairs 0 s bytes low (sym (decode_of-even s (omega (arith, parts.0))) ∙ e), parts.3)

-- the text of some bytes has no digit in upper case
lower_digit : (k : ℕ) → k < 16 → is_upper_digit (slice_index lower_digits k) ≡ false
lower_digit k lt = rw (lower_glyph k lt) (grind (arith, nat_tests))

pub lower-encode_lower : (bytes : List ℕ) → IsBytes bytes → list_any is_upper_digit (encode_lower bytes) ≡ false
unfolding encode_with
lower-encode_lower [] h = refl
lower-encode_lower (b ∷ bytes) h =
    let fits : b < 256 = h 0 in
    let high = lower_digit (b / 16) (omega arith) in
    let low = lower_digit (b % 16) (omega arith) in
    rw (high, low) (lower-encode_lower bytes (λ i. h (suc i)))

-- ---- a text that is decoded into a slice

abbrev pub Written : Result (List ℕ) FromHexError → Result Unit FromHexError → List ℕ → Type 0
Written d r out = MatchResult d (λ bytes. (r ≡ Ok tt) × (out ≡ bytes)) (λ e. r ≡ Err e)

no_error : (r : Result Unit FromHexError) (e : FromHexError) → r ≡ Err e → IsOk r → ⊥
no_error (Ok x) e f ok = absurd cc
no_error (Err x) e f ok = absurd cc

written_is : (d : Result (List ℕ) FromHexError) (r : Result Unit FromHexError) (out : List ℕ) → Written d r out → IsOk r → d ≡ Ok out
written_is (Ok bytes) r out h ok = rw h.1 refl
written_is (Err e) r out h ok = absurd (no_error r e h ok)

-- what is decoded into a slice, and has no digit in upper case, is the text of the slice's bytes
pub decoded_into : (s : List ℕ) (n : ℕ) (r : Result Unit FromHexError) (out : List ℕ) → list_any is_upper_digit s ≡ false → Written (decode_sized s n) r out → IsOk r → IsBytes out × (s ≡ encode_lower out)
decoded_into s n r out low h ok =
    let d = written_is (decode_sized s n) r out h ok in
    let t = encode_lower-decode_of s out low (sym (decode_sized-twice s n (decode_sized-ok s n out d)) ∙ d) in
    (t.1, t.0)

-- where that fails the text is that of no bytes so many
pub not_decoded_into : (s : List ℕ) (n : ℕ) (r : Result Unit FromHexError) (e : FromHexError) (out : List ℕ) → Written (decode_sized s n) r out → r ≡ Err e
    → (bytes : List ℕ) → IsBytes bytes → length bytes ≡ n → s ≡ encode_lower bytes → ⊥
not_decoded_into s n r e out h err bytes fits count same =
    let d : decode_sized s n ≡ Ok bytes = ap (λ (t : List ℕ). decode_sized t n) same ∙ decode_sized-encode_lower bytes n count fits in
    let w = rw d at h in
    absurd cc
