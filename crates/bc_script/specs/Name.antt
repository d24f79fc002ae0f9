-- The name of a key in a script.
use Rattle.std.specs.Prelude.{ℕ, Bool, false, ◌&&◌, ◌||◌, nat_le, List, [], ◌∷◌, length}
use Rattle.std.specs.List.{list_all}

-- one of the letters from a to z
abbrev pub is_lower_letter : ℕ → Bool
is_lower_letter b = nat_le 97 b && nat_le b 122

-- one of the digits from 0 to 9
abbrev pub is_decimal_digit : ℕ → Bool
is_decimal_digit b = nat_le 48 b && nat_le b 57

-- one or the other
abbrev pub is_name_byte : ℕ → Bool
is_name_byte b = is_lower_letter b || is_decimal_digit b

-- a lower-case letter, and then at most 15 lower-case letters or digits
abbrev pub is_name : List ℕ → Bool
is_name [] = false
is_name (b ∷ bs) = is_lower_letter b && (list_all is_name_byte bs && nat_le (length bs) 15)
