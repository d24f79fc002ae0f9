-- What a field is the text of: a number in decimal digits, or bytes in hexadecimal digits. Each
-- value has one text, so that reading is stated by printing.
use Rattle.std.specs.Prelude.{◌≡◌, ◌==◌, ◌&&◌, nat_le, if◌then◌else◌, Bool, ℕ, false, List, [], ◌∷◌, length, Option, MatchOption}
use Rattle.hex.specs.Hex.{encode_lower, IsBytes}

-- The value that has this text, or none where no valid value has it.
abbrev pub Reads : {X T : Type 0} → (X → Type 0) → (X → T) → T → Option X → Type 0
Reads Valid text_of text r =
    MatchOption r ((x : _) → Valid x → text ≡ text_of x → ⊥) (λ x. Valid x × (text ≡ text_of x))

-- Digits begin plainly: with one from 1 to 9, or as the digit 0 alone.
abbrev pub begins_plainly : List ℕ → Bool
begins_plainly [] = false
begins_plainly (b ∷ bs) = if b == 48 then length bs == 0 else nat_le 49 b && nat_le b 57

-- a hexadecimal digit in upper case
abbrev pub is_upper_digit : ℕ → Bool
is_upper_digit c = nat_le 65 c && nat_le c 70

-- a byte as two hexadecimal digits in lower case
abbrev pub byte_text : ℕ → List ℕ
byte_text b = encode_lower (b ∷ [])

-- The field is the digits of these bytes; or those of no bytes that are as many.
abbrev pub ReadsBytes : {X : Type 0} → List ℕ → ℕ → List ℕ → Option X → Type 0
ReadsBytes text count out r =
    MatchOption r ((bytes : List ℕ) → IsBytes bytes → length bytes ≡ count → text ≡ encode_lower bytes → ⊥)
    (λ _. IsBytes out × (text ≡ encode_lower out))
