-- What a call's data units become, in the words of its caller.
use Rattle.std.proofs.Common.{◌≡◌, ℕ, ◌+◌, ◌/◌, List, length, Some, ◌∙◌, ap}
use Rattle.bc_key.specs.DataUnits.{bytes_of}
use Rattle.bc_key.specs.KeyData.{KeyData}
use Rattle.bc_modes.specs.UnitCipher.{CipherParts, parts_of}
use Rattle.bc_c.specs.declared.direction.Direction.{Direction}
use Rattle.bc_c.specs.Status.{mode_of_number}
use Rattle.bc_c.specs.Units.{AreCarried, converted_unit, each_unit}

module _ (way : Direction) (old : List ℕ) where
  abbrev units_by : CipherParts → List ℕ → ℕ → ℕ → List ℕ
  units_by parts raw first size = each_unit (λ i. converted_unit way parts.mode raw (first + i)) size (length old / size) old

pub are_carried : (way : Direction) (mode unit : ℕ) (raw : List ℕ) (first : ℕ) (old new : List ℕ) (parts : CipherParts) (key : KeyData) (number size : ℕ)
    → mode_of_number mode ≡ Some key.config.mode → bytes_of key.config.unit ≡ unit → key.raw ≡ raw → parts ≡ parts_of key → number ≡ first
    → size ≡ bytes_of key.config.unit
    → new ≡ each_unit (λ i. converted_unit way parts.mode parts.raw (number + i)) size (length old / size) old
    → AreCarried way mode unit raw first old new
are_carried way mode unit raw first old new parts key number size by_mode unit_is raw_is parts_are number_is size_is e = record {
  cipher = key.config.mode;
  by_mode = by_mode;
  units =
      e ∙ ap (λ (p : CipherParts). units_by way old p p.raw number size) parts_are
      ∙ ap (λ (r : List ℕ). units_by way old (parts_of key) r number size) raw_is
      ∙ ap (λ (n : ℕ). units_by way old (parts_of key) raw n size) number_is
      ∙ ap (units_by way old (parts_of key) raw first) (size_is ∙ unit_is);
}
