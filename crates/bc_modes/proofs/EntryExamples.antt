-- Computed from the definitions: the entries of two keys, and what entries are read as.
use Rattle.std.proofs.Common.{◌≡◌, ℕ, List, [], ◌∷◌, ◌++◌, take, refl, Some, Ok, Err}
use Rattle.std.specs.List.{range_with_len}
use Rattle.bc_key.specs.declared.config.Mode.TheVariants.{Aes256Xts, Aes128CbcEssiv}
use Rattle.bc_key.specs.declared.config.DataUnit.TheVariants.{Bytes1024, Bytes4096}
use Rattle.bc_key.specs.KeyData.{KeyData}
use Rattle.bc_modes.specs.declared.entry.EntryError.TheVariants.{Disabled, BadCapability, BadUnitSize}
use Rattle.bc_modes.specs.Capabilities.{Capabilities, capabilities_of}
use Rattle.bc_modes.specs.Entries.{entry_words, read_words}
use Rattle.bc_modes.specs.UnitCipher.{parts_of}

-- the bytes 00 to 3f, and 80 to 8f
abbrev xts_key : KeyData
xts_key = record { config = record { mode = Aes256Xts; unit = Bytes4096; dun_bytes = 8 }; raw = range_with_len 0 64 }

abbrev essiv_key : KeyData
essiv_key = record { config = record { mode = Aes128CbcEssiv; unit = Bytes1024; dun_bytes = 8 }; raw = range_with_len 0x80 16 }

-- XTS alone, and both modes
abbrev xts_alone : Capabilities
xts_alone = capabilities_of (record { xts = 8; essiv = 0; max_dun_bytes = 8 })

abbrev both : Capabilities
both = capabilities_of (record { xts = 4; essiv = 2; max_dun_bytes = 8 })

abbrev xts_words : List ℕ
xts_words =
    0x03020100 ∷ 0x07060504 ∷ 0x0b0a0908 ∷ 0x0f0e0d0c ∷ 0x13121110 ∷ 0x17161514 ∷ 0x1b1a1918 ∷ 0x1f1e1d1c ∷ 0x23222120
    ∷ 0x27262524 ∷ 0x2b2a2928 ∷ 0x2f2e2d2c ∷ 0x33323130 ∷ 0x37363534 ∷ 0x3b3a3938 ∷ 0x3f3e3d3c ∷ 0x80000008 ∷ 0x00000000 ∷ []

xts_entry : entry_words xts_key xts_alone ≡ Some xts_words
unfolding entry_words
xts_entry = refl

essiv_entry :
    entry_words essiv_key both
    ≡ Some (
    0x83828180 ∷ 0x87868584 ∷ 0x8b8a8988 ∷ 0x8f8e8d8c ∷ 0x00000000 ∷ 0x00000000 ∷ 0x00000000 ∷ 0x00000000 ∷ 0x00000000
    ∷ 0x00000000 ∷ 0x00000000 ∷ 0x00000000 ∷ 0x00000000 ∷ 0x00000000 ∷ 0x00000000 ∷ 0x00000000 ∷ 0x80000102 ∷ 0x00000000 ∷ [])
unfolding entry_words
essiv_entry = refl

-- the same with another dword 16
abbrev with_dword : ℕ → List ℕ
with_dword dword = take 16 xts_words ++ dword ∷ 0 ∷ []

read : read_words (with_dword 0x80000008) xts_alone ≡ Ok (parts_of xts_key)
unfolding read_words
read = refl

read_disabled : read_words (with_dword 0x00000008) xts_alone ≡ Err Disabled
unfolding read_words
read_disabled = refl

read_past_capabilities : read_words (with_dword 0x80000108) xts_alone ≡ Err BadCapability
unfolding read_words
read_past_capabilities = refl

read_other_unit : read_words (with_dword 0x80000001) xts_alone ≡ Err BadUnitSize
unfolding read_words
read_other_unit = refl
