-- Many data units one after the other, each enciphered or deciphered under its place as its number.
use Rattle.std.specs.Prelude.{ℕ, ◌*◌, ◌/◌, ◌%◌, List, Option, Some, None, if◌then◌else◌, map, take, drop, codes}
use Rattle.std.specs.List.{flat_map, range_with_len}
use Rattle.std.specs.Str.{bytes_eq}
use Rattle.sha2.specs.Sha256.{sha256}
use Rattle.bc_modes.specs.UnitCipher.{CipherParts, encipher_unit, decipher_unit}
use Rattle.bc_speed.specs.declared.direction.Direction.{Direction}
use Rattle.bc_speed.specs.declared.direction.Direction.TheVariants.{Encrypt, Decrypt}

-- the direction that a word names
abbrev pub direction_of : List ℕ → Option Direction
direction_of word =
    if bytes_eq word (codes "encrypt") then Some Encrypt
    else (if bytes_eq word (codes "decrypt") then Some Decrypt else None)

-- what a data unit's number and text become, one way
abbrev pub cipher_of_unit : Direction → CipherParts → ℕ → List ℕ → List ℕ
cipher_of_unit Encrypt parts = encipher_unit parts.mode parts.raw
cipher_of_unit Decrypt parts = decipher_unit parts.mode parts.raw

-- n units of so many bytes, one after the other: unit i is `cipher i` of unit i of the texts
abbrev pub each_unit : (ℕ → List ℕ → List ℕ) → ℕ → ℕ → List ℕ → List ℕ
each_unit cipher size n texts = flat_map (λ i. cipher i (take size (drop (i * size) texts))) (range_with_len 0 n)

-- byte i of the texts that are measured: the lowest byte of 31 i / 8, which comes again after 2048 bytes
abbrev pub text_byte : ℕ → ℕ
text_byte i = 31 * (i % 2048) / 8 % 256

-- so many bytes of these texts
abbrev pub texts_of : ℕ → List ℕ
texts_of n = map text_byte (range_with_len 0 n)

-- the SHA-256 of n such units of so many bytes, taken one way
abbrev pub unit_digest : Direction → CipherParts → ℕ → ℕ → List ℕ
unit_digest way parts size n = sha256 (each_unit (cipher_of_unit way parts) size n (texts_of (n * size)))
