-- The unit cipher: one data unit under a key and a data unit number, by the key's mode (Xts,
-- CbcEssiv).
use Rattle.std.specs.Prelude.{ℕ, List}
use Rattle.bc_key.specs.declared.config.Mode.{Mode}
use Rattle.bc_key.specs.declared.config.Mode.TheVariants.{Aes256Xts, Aes128CbcEssiv}
use Rattle.bc_key.specs.declared.config.DataUnit.{DataUnit}
use Rattle.bc_key.specs.KeyData.{KeyData}
use Rattle.bc_modes.specs.Xts.{xts_encipher, xts_decipher}
use Rattle.bc_modes.specs.CbcEssiv.{essiv_encipher, essiv_decipher}

-- the raw bytes of a unit's text, under a mode and its key's bytes
unfoldable pub encipher_unit : Mode → List ℕ → ℕ → List ℕ → List ℕ
encipher_unit Aes256Xts raw number text = xts_encipher raw number text
encipher_unit Aes128CbcEssiv raw number text = essiv_encipher raw number text

-- the text of a unit's raw bytes
unfoldable pub decipher_unit : Mode → List ℕ → ℕ → List ℕ → List ℕ
decipher_unit Aes256Xts raw number text = xts_decipher raw number text
decipher_unit Aes128CbcEssiv raw number text = essiv_decipher raw number text

-- the raw bytes of a unit's text under a key
abbrev pub enc : KeyData → ℕ → List ℕ → List ℕ
enc key number text = encipher_unit key.config.mode key.raw number text

-- the text of a unit's raw bytes under a key
abbrev pub dec : KeyData → ℕ → List ℕ → List ℕ
dec key number text = decipher_unit key.config.mode key.raw number text

-- what a unit cipher was made of: its mode, its data unit's size, and as many key bytes as its mode
-- asks for
pub record CipherParts : Type 0 where
  pub mode : Mode
  pub unit : DataUnit
  pub raw : List ℕ

-- the parts of a key's cipher
abbrev pub parts_of : KeyData → CipherParts
parts_of key = record { mode = key.config.mode; unit = key.config.unit; raw = key.raw }
