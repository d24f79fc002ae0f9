-- What the words and the text of a call ask for: one data unit, which is enciphered or deciphered
-- under a key and a number. The key's length tells the mode, and the text's length the data unit's
-- size.
use Rattle.std.specs.Prelude.{◌≡◌, ◌≢◌, ⊤, ℕ, ◌^◌, ◌<◌, ◌==◌, List, length, Option, Some, None, MatchOption, if◌then◌else◌, Ok, Err, codes}
use Rattle.std.specs.Str.{bytes_eq}
use Rattle.hex.specs.Hex.{decode_of}
use Rattle.bc_key.specs.declared.config.Mode.{Mode}
use Rattle.bc_key.specs.declared.config.Mode.TheVariants.{Aes256Xts, Aes128CbcEssiv}
use Rattle.bc_key.specs.KeyRefusal.{key_refusal}
use Rattle.bc_key.specs.NumberText.{number_text}
use Rattle.bc_modes.specs.UnitCipher.{encipher_unit, decipher_unit}
use Rattle.bc_unit.specs.declared.direction.Direction.{Direction}
use Rattle.bc_unit.specs.declared.direction.Direction.TheVariants.{Encrypt, Decrypt}
use Rattle.bc_unit.specs.declared.refusal.Refusal.{Refusal}
use Rattle.bc_unit.specs.declared.refusal.Refusal.TheVariants as refusals

-- the direction that a word names
abbrev pub direction_of : List ℕ → Option Direction
direction_of word =
    if bytes_eq word (codes "encrypt") then Some Encrypt
    else (if bytes_eq word (codes "decrypt") then Some Decrypt else None)

-- the mode of a key with so many bytes
abbrev pub mode_of_size : ℕ → Option Mode
mode_of_size size =
    if size == 64 then Some Aes256Xts
    else (if size == 16 then Some Aes128CbcEssiv else None)

-- what a data unit becomes, one way
abbrev pub converted_unit : Direction → Mode → List ℕ → ℕ → List ℕ → List ℕ
converted_unit Encrypt mode raw number text = encipher_unit mode raw number text
converted_unit Decrypt mode raw number text = decipher_unit mode raw number text

-- the words KEY and NUMBER are a key's and a number's, the text is one data unit, and this becomes
-- of it
pub record ConvertsUnit (way : Direction) (key number text out : List ℕ) : Type 0 where
  pub raw : List ℕ
  pub mode : Mode
  pub place : ℕ
  pub key_digits : decode_of key ≡ Ok raw
  pub key_size : mode_of_size (length raw) ≡ Some mode
  pub range : place < 2 ^ 256
  pub number_digits : number ≡ number_text place
  pub accepted : key_refusal mode raw (length text) 16 ≡ None
  pub becomes : out ≡ converted_unit way mode raw place text

-- these digits stand for bytes that meet a condition
pub record DigitsOf (digits : List ℕ) (holds : List ℕ → Type 0) : Type 0 where
  pub bytes : List ℕ
  pub stand_for : decode_of digits ≡ Ok bytes
  pub met : holds bytes

-- why these bytes are no key for a data unit of so many bytes
abbrev pub IsNoKeyFor : List ℕ → ℕ → Refusal → Type 0
IsNoKeyFor raw size (refusals.KeySize got) = (length raw ≡ got) × (mode_of_size got ≡ None)
IsNoKeyFor raw size (refusals.TextSize got) = (size ≡ got) × (4096 < got)
IsNoKeyFor raw size (refusals.Key error) =
    MatchOption (mode_of_size (length raw)) ⊥ (λ mode. key_refusal mode raw size 16 ≡ Some error)
IsNoKeyFor raw size _ = ⊥

-- why nothing becomes of KEY, NUMBER and a text of so many bytes
abbrev pub HasReason : List ℕ → List ℕ → ℕ → Refusal → Type 0
HasReason key number size (refusals.KeyDigits why) = decode_of key ≡ Err why
HasReason key number size refusals.Number = (place : ℕ) → place < 2 ^ 256 → number ≢ number_text place
HasReason key number size refusals.Memory = ⊤
HasReason key number size refusal = DigitsOf key (λ raw. IsNoKeyFor raw size refusal)
