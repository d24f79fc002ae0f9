-- What consecutive data units become: unit i is enciphered, or deciphered, under the first number
-- plus i.
use Rattle.std.specs.Prelude.{◌≡◌, ℕ, ◌+◌, ◌*◌, ◌/◌, List, length, take, drop, Some}
use Rattle.std.specs.List.{flat_map, range_with_len}
use Rattle.bc_key.specs.declared.config.Mode.{Mode}
use Rattle.bc_modes.specs.UnitCipher.{encipher_unit, decipher_unit}
use Rattle.bc_c.specs.declared.direction.Direction.{Direction}
use Rattle.bc_c.specs.declared.direction.Direction.TheVariants.{Encrypt, Decrypt}
use Rattle.bc_c.specs.Status.{mode_of_number}

-- what one data unit becomes, one way
abbrev pub converted_unit : Direction → Mode → List ℕ → ℕ → List ℕ → List ℕ
converted_unit Encrypt mode raw number text = encipher_unit mode raw number text
converted_unit Decrypt mode raw number text = decipher_unit mode raw number text

-- n units of so many bytes, one after the other: unit i is `cipher i` of unit i of the texts
abbrev pub each_unit : (ℕ → List ℕ → List ℕ) → ℕ → ℕ → List ℕ → List ℕ
each_unit cipher size n texts = flat_map (λ i. cipher i (take size (drop (i * size) texts))) (range_with_len 0 n)

-- each unit of the old bytes is taken one way under its number, and these are the new ones
pub record AreCarried (way : Direction) (mode unit : ℕ) (raw : List ℕ) (first : ℕ) (old new : List ℕ) : Type 0 where
  pub cipher : Mode
  pub by_mode : mode_of_number mode ≡ Some cipher
  pub units : new ≡ each_unit (λ i. converted_unit way cipher raw (first + i)) unit (length old / unit) old
