-- What fields say: a field's test is passed exactly where the field is the text of its value.
use Rattle.std.proofs.Common.{◌≡◌, ◌≢◌, ℕ, zero, suc, ◌<◌, ◌≤◌, ◌^◌, true, false, List, [], ◌∷◌, ◌++◌, take, length, Option, Some, None, MatchOption, Result, Ok, Err, refl, sym, ap, ◌∙◌, arith, ◌*◌, ◌/◌, ◌⊎◌, inl, inr, le-leb, leb-true, lt-ltb, ltb-true}
use Rattle.std.specs.Prelude.{unwrap_or}
use Rattle.std.specs.Result.{result_ok}
use Rattle.std.specs.Str.{bytes_eq}
use Rattle.std.specs.Str.Parse.{digits_value}
use Rattle.std.specs.Fmt.{decimal}
use Rattle.std.proofs.lemmas.Bool.{and_from, and_parts, false_from_ne_true}
use Rattle.std.proofs.lemmas.Fmt.{decimal_is_IsNumeral, digits_is_IsNumeral}
use Rattle.std.proofs.lemmas.Slice.Eq.{bytes_eq-Decides}
use Rattle.hex.specs.Hex.{encode_lower, lower_digits, decode_of, IsBytes}
use Rattle.hex.specs.declared.error.FromHexError.{FromHexError}
use Rattle.hex.proofs.HexLemmas.{decode_of-ok, decode_of-encode_lower, length-encode_with}
use Rattle.bc_text.specs.Fields.{Reads, byte_text}
use Rattle.bc_key.specs.NumberText.{number_text, ReadsNumber}
use Rattle.bc_script.specs.ScriptErrors.{number_in, is_number, is_number_text, bytes_in, is_hex_text}
use Rattle.bc_script.specs.Says.{SaysNumber, SaysDataUnitNumber, SaysBytes}

same_text : (a b : List ℕ) → a ≡ b → bytes_eq a b ≡ true
same_text a b e = (bytes_eq-Decides a b).1 e

text_is : (a b : List ℕ) → bytes_eq a b ≡ true → b ≡ a
text_is a b h = sym ((bytes_eq-Decides a b).0 h)

-- ---- decimal numbers

-- the text of a number says the number
pub number_in-decimal : (n : ℕ) → n < 2 ^ 64 → number_in (decimal n) ≡ n
number_in-decimal n small = (decimal_is_IsNumeral n small).1

-- and is the text of a number in each range that the number lies in
pub is_number-decimal : (least most n : ℕ) → n < 2 ^ 64 → least ≤ n → n ≤ most → is_number least most (decimal n) ≡ true
is_number-decimal least most n small low high =
    let same = number_in-decimal n small in
    rw same (and_from _ _ (same_text (decimal n) (decimal n) refl) (and_from _ _ (le-leb least n low) (le-leb n most high)))

-- a field that passes the test is the text of its number, which lies in the range
pub decimal-number_in : (least most : ℕ) (field : List ℕ) → is_number least most field ≡ true → (field ≡ decimal (number_in field)) × (least ≤ number_in field) × (number_in field ≤ most)
decimal-number_in least most field h =
    let parts = and_parts _ _ h in
    let range = and_parts _ _ parts.1 in
    (text_is (decimal (number_in field)) field parts.0, leb-true least (number_in field) range.0, leb-true (number_in field) most range.1)

-- ---- data unit numbers

pub digits_value-number_text : (n : ℕ) → n < 2 ^ 256 → digits_value 16 (number_text n) ≡ n
digits_value-number_text n small = (digits_is_IsNumeral 16 false (omega arith) (omega arith) n small).1

pub is_number_text-number_text : (n : ℕ) → n < 2 ^ 256 → is_number_text (number_text n) ≡ true
is_number_text-number_text n small =
    let same = digits_value-number_text n small in
    rw same (and_from _ _ (same_text (number_text n) (number_text n) refl) (lt-ltb n (2 ^ 256) small))

pub number_text-is_number_text : (field : List ℕ) → is_number_text field ≡ true → (field ≡ number_text (digits_value 16 field)) × (digits_value 16 field < 2 ^ 256)
number_text-is_number_text field h =
    let parts = and_parts _ _ h in
    (text_is (number_text (digits_value 16 field)) field parts.0, ltb-true (digits_value 16 field) (2 ^ 256) parts.1)

-- ---- hexadecimal digits

-- the digits of bytes say the bytes
pub bytes_in-encode_lower : (bytes : List ℕ) → IsBytes bytes → bytes_in (encode_lower bytes) ≡ bytes
bytes_in-encode_lower bytes fits = ap (λ (r : Result (List ℕ) FromHexError). unwrap_or (result_ok r) []) (decode_of-encode_lower bytes fits)

-- and are as many digits as the bytes ask for
pub is_hex_text-encode_lower : (least most : ℕ) (bytes : List ℕ) → IsBytes bytes → least ≤ length bytes → length bytes ≤ most → is_hex_text least most (encode_lower bytes) ≡ true
is_hex_text-encode_lower least most bytes fits low high =
    let same = bytes_in-encode_lower bytes fits in
    rw same (and_from _ _ (same_text (encode_lower bytes) (encode_lower bytes) refl) (and_from _ _ (le-leb least (length bytes) low) (le-leb (length bytes) most high)))

-- what a field says in digits is bytes
decoded-IsBytes : (field : List ℕ) (r : Result (List ℕ) FromHexError) → decode_of field ≡ r → IsBytes (unwrap_or (result_ok r) [])
decoded-IsBytes field (Ok bytes) e = (decode_of-ok field bytes e).3
decoded-IsBytes field (Err error) e = λ i. omega arith

pub IsBytes-bytes_in : (field : List ℕ) → IsBytes (bytes_in field)
IsBytes-bytes_in field = decoded-IsBytes field (decode_of field) refl

-- a field that passes the test is the digits of its bytes, of which there are as many as asked for
pub encode_lower-bytes_in : (least most : ℕ) (field : List ℕ) → is_hex_text least most field ≡ true → (field ≡ encode_lower (bytes_in field)) × (least ≤ length (bytes_in field)) × (length (bytes_in field) ≤ most)
encode_lower-bytes_in least most field h =
    let parts = and_parts _ _ h in
    let range = and_parts _ _ parts.1 in
    (text_is (encode_lower (bytes_in field)) field parts.0, leb-true least (length (bytes_in field)) range.0, leb-true (length (bytes_in field)) most range.1)

-- ---- what the readers of fields answer

pub said_number : (least most : ℕ) (field : List ℕ) (answer : Option ℕ) → most < 2 ^ 64 → Reads (λ n. (least ≤ n) × (n ≤ most)) decimal field answer → MatchOption answer (is_number least most field ≡ false) (SaysNumber least most field)
said_number least most field None small none =
    false_from_ne_true (is_number least most field) (λ passed. let said = decimal-number_in least most field passed in none (number_in field) (said.1, said.2) said.0)
said_number least most field (Some n) small (range, text) = record {
  passes = rw text (is_number-decimal least most n (omega arith) range.0 range.1);
  value = sym (ap number_in text ∙ number_in-decimal n (omega arith));
  text = text;
  low = range.0;
  high = range.1;
}

pub said_data_unit_number : (field : List ℕ) (answer : Option ℕ) → ReadsNumber field answer → MatchOption answer (is_number_text field ≡ false) (SaysDataUnitNumber field)
said_data_unit_number field None none =
    false_from_ne_true (is_number_text field) (λ passed. let said = number_text-is_number_text field passed in none (digits_value 16 field) said.1 said.0)
said_data_unit_number field (Some n) (range, text) = record {
  passes = rw text (is_number_text-number_text n range);
  value = sym (ap (digits_value 16) text ∙ digits_value-number_text n range);
  text = text;
  range = range;
}

pub said_bytes : (least most : ℕ) (field bytes : List ℕ) → IsBytes bytes → field ≡ encode_lower bytes → least ≤ length bytes → length bytes ≤ most → SaysBytes least most field bytes
said_bytes least most field bytes fits text low high = record {
  passes = rw text (is_hex_text-encode_lower least most bytes fits low high);
  value = sym (ap bytes_in text ∙ bytes_in-encode_lower bytes fits);
  text = text;
  low = low;
  high = high;
  range = fits;
}

-- a field that is the digits of no bytes so many fails the test
pub no_bytes : (least most : ℕ) (field : List ℕ) → ((bytes : List ℕ) → IsBytes bytes → least ≤ length bytes → length bytes ≤ most → field ≡ encode_lower bytes → ⊥) → is_hex_text least most field ≡ false
no_bytes least most field none =
    false_from_ne_true (is_hex_text least most field) (λ passed. let said = encode_lower-bytes_in least most field passed in none (bytes_in field) (IsBytes-bytes_in field) said.1 said.2 said.0)

pub one_byte : (b : ℕ) → b < 256 → IsBytes (b ∷ [])
one_byte b small zero = small
one_byte b small (suc i) = omega arith

no_one_byte : (field : List ℕ) → ((b : ℕ) → b < 256 → field ≡ byte_text b → ⊥) → (bytes : List ℕ) → IsBytes bytes → 1 ≤ length bytes → length bytes ≤ 1 → field ≡ encode_lower bytes → ⊥
no_one_byte field none [] fits low high text = omega arith
no_one_byte field none (b ∷ []) fits low high text = none b (fits 0) text
no_one_byte field none (b ∷ c ∷ bytes) fits low high text = omega arith

pub said_byte : (field : List ℕ) (answer : Option ℕ) → Reads (λ b. b < 256) byte_text field answer → MatchOption answer (is_hex_text 1 1 field ≡ false) (λ b. SaysBytes 1 1 field (b ∷ []))
said_byte field None none = no_bytes 1 1 field (no_one_byte field none)
said_byte field (Some b) (range, text) = said_bytes 1 1 field (b ∷ []) (one_byte b range) text (omega arith) (omega arith)

-- the digits of bytes are twice as many
no_room : (least most : ℕ) (field : List ℕ) → (length field / 2 < least) ⊎ (most < length field / 2) → (bytes : List ℕ) → least ≤ length bytes → length bytes ≤ most → field ≡ encode_lower bytes → ⊥
no_room least most field other bytes low high text =
    let len : length field ≡ 2 * length bytes = ap length text ∙ length-encode_with lower_digits bytes in
    elim other [ inl few ↦ omega arith | inr many ↦ omega arith ]

pub no_bytes_fit : (least most : ℕ) (field : List ℕ) → (length field / 2 < least) ⊎ (most < length field / 2) → is_hex_text least most field ≡ false
no_bytes_fit least most field other = no_bytes least most field (λ bytes fits low high text. no_room least most field other bytes low high text)

pub no_bytes_there : (least most : ℕ) (field : List ℕ) → ((bytes : List ℕ) → IsBytes bytes → length bytes ≡ length field / 2 → field ≡ encode_lower bytes → ⊥) → is_hex_text least most field ≡ false
no_bytes_there least most field none =
    no_bytes least most field (λ bytes fits low high text. let len : length field ≡ 2 * length bytes = ap length text ∙ length-encode_with lower_digits bytes in none bytes fits (omega arith) text)

pub no_bytes_of : (n : ℕ) (field : List ℕ) → length field / 2 ≢ n → is_hex_text n n field ≡ false
no_bytes_of n field other =
    no_bytes n n field (λ bytes fits low high text. let len : length field ≡ 2 * length bytes = ap length text ∙ length-encode_with lower_digits bytes in other (omega arith))

-- a list that is filled from its beginning to its end
pub filled_whole : (n : ℕ) (bytes rest : List ℕ) → n ≡ length bytes → take n (bytes ++ rest) ≡ bytes
filled_whole n bytes rest same = rw same (front bytes rest)
  where
    front : (bytes rest : List ℕ) → take (length bytes) (bytes ++ rest) ≡ bytes
    front [] rest = refl
    front (b ∷ bytes) rest = ap (λ (t : List ℕ). b ∷ t) (front bytes rest)
