-- The laws of the unit cipher: deciphering undoes enciphering, and enciphering makes a text as
-- long. And of entries: a key's entry means the key's cipher.
use Rattle.std.specs.Prelude.{◌≡◌, ℕ, ◌%◌, ◌<◌, ◌≤◌, List, length, All, Some, Ok}
use Rattle.bc_key.specs.KeyData.{KeyData, IsValid}
use Rattle.bc_modes.specs.Capabilities.{Capabilities}
use Rattle.bc_modes.specs.Entries.{entry_words, read_words}
use Rattle.bc_modes.specs.UnitCipher.{enc, dec, parts_of}

-- whole blocks of bytes
pub record IsWholeBlocks (text : List ℕ) : Type 0 where
  pub whole_blocks : length text % 16 ≡ 0
  pub bytes : All (λ b. b < 256) text

-- under each valid key and each number, deciphering an enciphered text gives the text back
abbrev pub DecipheringUndoes : Type 0
DecipheringUndoes =
    (key : KeyData) (number : ℕ) (text : List ℕ) → IsValid key.config key.raw → IsWholeBlocks text
    → dec key number (enc key number text) ≡ text

-- an enciphered text has whole blocks of bytes too
abbrev pub EncipheringMakesTexts : Type 0
EncipheringMakesTexts =
    (key : KeyData) (number : ℕ) (text : List ℕ) → IsValid key.config key.raw → IsWholeBlocks text
    → IsWholeBlocks (enc key number text)

-- it is as long as it was, whatever the key and the numbers that stand in it
abbrev pub EncipheringKeepsLength : Type 0
EncipheringKeepsLength =
    (key : KeyData) (number : ℕ) (text : List ℕ) → length text % 16 ≡ 0 → length (enc key number text) ≡ length text

-- and so is a deciphered one
abbrev pub DecipheringKeepsLength : Type 0
DecipheringKeepsLength =
    (key : KeyData) (number : ℕ) (text : List ℕ) → length text % 16 ≡ 0 → length (dec key number text) ≡ length text

-- what the words of a valid key's entry are: 18 of them, which are read as the parts of the key's
-- cipher
pub record IsEntryOfKey (key : KeyData) (caps : Capabilities) (words : List ℕ) : Type 0 where
  pub count : length words ≡ 18
  pub read : read_words words caps ≡ Ok (parts_of key)

-- each valid key's entry is such; a controller has two capabilities at most
abbrev pub EntriesReadBack : Type 0
EntriesReadBack =
    (key : KeyData) (caps : Capabilities) (words : List ℕ) → IsValid key.config key.raw → length caps.list ≤ 2
    → entry_words key caps ≡ Some words → IsEntryOfKey key caps words
