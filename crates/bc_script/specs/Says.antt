-- What a field says, where it passes its test: it is the one text of its value. The contracts of
-- private functions speak of these; no public one does.
use Rattle.std.specs.Prelude.{◌≡◌, ℕ, ◌^◌, ◌<◌, ◌≤◌, true, List, length}
use Rattle.std.specs.Str.Parse.{digits_value}
use Rattle.std.specs.Fmt.{decimal}
use Rattle.hex.specs.Hex.{encode_lower, IsBytes}
use Rattle.bc_key.specs.NumberText.{number_text}
use Rattle.bc_script.specs.ScriptErrors.{number_in, is_number, is_number_below, is_number_text, bytes_in, is_hex_text}

-- the field says this number in decimal digits, and the number lies in the range
pub record SaysNumber (least most : ℕ) (field : List ℕ) (n : ℕ) : Type 0 where
  pub passes : is_number least most field ≡ true
  pub value : n ≡ number_in field
  pub text : field ≡ decimal n
  pub low : least ≤ n
  pub high : n ≤ most

-- the field says this number in decimal digits, and the number lies below the other
pub record SaysNumberBelow (end : ℕ) (field : List ℕ) (n : ℕ) : Type 0 where
  pub passes : is_number_below end field ≡ true
  pub text : field ≡ decimal n
  pub below : n < end

-- the field says this data unit number
pub record SaysDataUnitNumber (field : List ℕ) (n : ℕ) : Type 0 where
  pub passes : is_number_text field ≡ true
  pub value : n ≡ digits_value 16 field
  pub text : field ≡ number_text n
  pub range : n < 2 ^ 256

-- the field says these bytes in hexadecimal digits, and there are as many as asked for
pub record SaysBytes (least most : ℕ) (field bytes : List ℕ) : Type 0 where
  pub passes : is_hex_text least most field ≡ true
  pub value : bytes ≡ bytes_in field
  pub text : field ≡ encode_lower bytes
  pub low : least ≤ length bytes
  pub high : length bytes ≤ most
  pub range : IsBytes bytes
