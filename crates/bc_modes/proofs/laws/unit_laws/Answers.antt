use Rattle.std.proofs.Common.{◌≡◌, ℕ, ◌%◌, List, length, ◌∙◌}
use Rattle.bc_key.specs.declared.config.Mode.{Mode}
use Rattle.bc_key.specs.declared.config.Mode.TheVariants.{Aes256Xts, Aes128CbcEssiv}
use Rattle.bc_key.specs.KeyData.{key_size}
use Rattle.bc_aes.specs.Laws.{DeciphermentUndoes, EnciphermentMakesBlocks}
use Rattle.bc_modes.specs.Laws.{IsWholeBlocks}
use Rattle.bc_modes.specs.UnitCipher.{encipher_unit, decipher_unit}
use Rattle.bc_modes.proofs.Bytes.{AreBytes}
use Rattle.bc_modes.proofs.UnitLaws.{length-encipher_unit, length-decipher_unit, xts-undone, AreBytes-xts_encipher}
use Rattle.bc_modes.proofs.EssivLaws.{essiv-undone, AreBytes-essiv_encipher}
use Rattle.bc_modes.proofs.laws.unit_laws.Goals as goal

undone : DeciphermentUndoes → EnciphermentMakesBlocks → (mode : Mode) (raw : List ℕ) (number : ℕ) (text : List ℕ)
    → length raw ≡ key_size mode → AreBytes raw → IsWholeBlocks text → decipher_unit mode raw number (encipher_unit mode raw number text) ≡ text
unfolding encipher_unit decipher_unit
undone undoes makes Aes256Xts raw number text size are is = xts-undone undoes raw number text size are is.whole_blocks is.bytes
undone undoes makes Aes128CbcEssiv raw number text size are is =
    essiv-undone undoes makes raw (record { size_is = size; bytes_are = are }) number text is.whole_blocks is.bytes

bytes : EnciphermentMakesBlocks → DeciphermentUndoes → (mode : Mode) (raw : List ℕ) (number : ℕ) (text : List ℕ)
    → length raw ≡ key_size mode → AreBytes raw → AreBytes text → AreBytes (encipher_unit mode raw number text)
unfolding encipher_unit
bytes makes undoes Aes256Xts raw number text size are is = AreBytes-xts_encipher makes raw number text size are is
bytes makes undoes Aes128CbcEssiv raw number text size are is =
    AreBytes-essiv_encipher undoes makes raw (record { size_is = size; bytes_are = are }) number text is

pub returns : goal.returns
returns c =
    let undoes = c.cipher_laws.ensures.decipherment_undoes in
    let makes = c.cipher_laws.ensures.encipherment_makes_blocks in
    record {
      deciphering_undoes = λ key number text valid is.
          undone undoes makes key.config.mode key.raw number text valid.size valid.bytes is;
      enciphering_makes_texts = λ key number text valid is. record {
        whole_blocks = (λ i. length-encipher_unit key.config.mode key.raw number text is.whole_blocks i % 16) ∙ is.whole_blocks;
        bytes = bytes makes undoes key.config.mode key.raw number text valid.size valid.bytes is.bytes;
      };
      enciphering_keeps_length = λ key number text whole. length-encipher_unit key.config.mode key.raw number text whole;
      deciphering_keeps_length = λ key number text whole. length-decipher_unit key.config.mode key.raw number text whole;
    }
