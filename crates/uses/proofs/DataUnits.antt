-- A data unit that is enciphered and deciphered again.
use Rattle.std.proofs.Common.{◌≡◌, ℕ, ◌%◌, ◌<◌, List, length, refl, ap, ◌∙◌}
use Rattle.std.specs.Prelude.{All}
use Rattle.bc_key.specs.declared.config.DataUnit.{DataUnit}
use Rattle.bc_key.specs.declared.config.DataUnit.TheVariants.{Bytes512, Bytes1024, Bytes2048, Bytes4096}
use Rattle.bc_key.specs.DataUnits.{bytes_of}
use Rattle.bc_key.specs.KeyData.{KeyData, IsValid}
use Rattle.bc_modes.specs.Laws.{DecipheringUndoes, IsWholeBlocks}
use Rattle.bc_modes.specs.UnitCipher.{CipherParts, encipher_unit, decipher_unit, parts_of}

whole_blocks : (unit : DataUnit) → bytes_of unit % 16 ≡ 0
whole_blocks Bytes512 = refl
whole_blocks Bytes1024 = refl
whole_blocks Bytes2048 = refl
whole_blocks Bytes4096 = refl

pub undone : (key : KeyData) (number : ℕ) (text between back : List ℕ) (parts : CipherParts) → DecipheringUndoes → IsValid key.config key.raw
    → All (λ b. b < 256) text → length text ≡ bytes_of key.config.unit → parts ≡ parts_of key
    → between ≡ encipher_unit parts.mode parts.raw number text → back ≡ decipher_unit parts.mode parts.raw number between → back ≡ text
undone key number text between back parts undoes valid fit long are e f =
    let is_text : IsWholeBlocks text = record {
      whole_blocks = ap (λ n. n % 16) long ∙ whole_blocks key.config.unit;
      bytes = fit;
    } in
    f ∙ ap (λ (p : CipherParts). decipher_unit p.mode p.raw number between) are
    ∙ ap (λ (t : List ℕ). decipher_unit key.config.mode key.raw number t)
    (e ∙ ap (λ (p : CipherParts). encipher_unit p.mode p.raw number text) are)
    ∙ undoes key number text valid is_text
