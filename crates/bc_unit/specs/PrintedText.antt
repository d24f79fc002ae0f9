-- What is printed: of a text in hexadecimal digits its digits and a line feed, and of raw bytes the
-- raw bytes.
use Rattle.std.specs.Prelude.{◌≡◌, ⊤, ℕ, List, [], ◌∷◌, ◌++◌, length, Ok, Err}
use Rattle.hex.specs.Hex.{decode_of, encode_lower}
use Rattle.bc_unit.specs.declared.direction.Direction.{Direction}
use Rattle.bc_unit.specs.declared.refusal.Refusal.{Refusal}
use Rattle.bc_unit.specs.declared.refusal.Refusal.TheVariants as refusals
use Rattle.bc_unit.specs.Unit.{ConvertsUnit, DigitsOf, HasReason}

-- the line of some bytes
abbrev pub digits_line : List ℕ → List ℕ
digits_line bytes = encode_lower bytes ++ 10 ∷ []

-- the line that is printed of KEY, NUMBER and TEXT, all in digits
pub record PrintsDigits (way : Direction) (key number text printed : List ℕ) : Type 0 where
  pub bytes : List ℕ
  pub out : List ℕ
  pub text_digits : decode_of text ≡ Ok bytes
  pub carries : ConvertsUnit way key number bytes out
  pub line : printed ≡ digits_line out

-- why nothing is printed of them
abbrev pub HasReasonInDigits : List ℕ → List ℕ → List ℕ → Refusal → Type 0
HasReasonInDigits key number text (refusals.TextDigits why) = decode_of text ≡ Err why
HasReasonInDigits key number text refusals.Memory = ⊤
HasReasonInDigits key number text refusal = DigitsOf text (λ bytes. HasReason key number (length bytes) refusal)
