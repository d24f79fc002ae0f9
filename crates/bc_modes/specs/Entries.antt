-- Crypto configuration entries: how the registers of a keyslot hold a key, after UFSHCI. Of an
-- entry 18 dwords are kept, 72 bytes, the lowest byte of a dword first.
use Rattle.std.specs.Prelude.{◌≡◌, ℕ, ◌-◌, ◌*◌, ◌==◌, Bool, true, false, List, [], ◌∷◌, ◌++◌, length, map, take, replicate, slice_get, slice_index, Option, Some, None, Result, Ok, Err, if◌then◌else◌}
use Rattle.std.specs.Option.{option_map, option_map_or}
use Rattle.std.specs.Int.{w32, bit_at, from_le_bytes, to_le_bytes}
use Rattle.std.specs.List.{flat_map}
use Rattle.std.specs.Simd.{first_chunks}
use Rattle.bc_key.specs.declared.config.DataUnit.{DataUnit}
use Rattle.bc_key.specs.DataUnits.{sectors_of, bit_of, unit_of}
use Rattle.bc_key.specs.KeyData.{KeyData, key_size}
use Rattle.bc_key.specs.Support.{has_bits}
use Rattle.bc_modes.specs.declared.ufs_caps.Capability.{Capability}
use Rattle.bc_modes.specs.declared.entry.EntryError.{EntryError}
use Rattle.bc_modes.specs.declared.entry.EntryError.TheVariants.{Disabled, BadCapability, BadUnitSize}
use Rattle.bc_modes.specs.Capabilities.{Capabilities, index_for}
use Rattle.bc_modes.specs.UnitCipher.{CipherParts}

-- the dwords of 72 bytes
abbrev pub words_of_bytes : List ℕ → List ℕ
words_of_bytes bytes = map (from_le_bytes w32) (first_chunks 4 18 bytes)

-- the bytes of dwords
abbrev pub bytes_of_words : List ℕ → List ℕ
bytes_of_words words = flat_map (to_le_bytes w32) words

-- bytes 0 to 63: the key (for XTS its halves at 0 and 32), and zeros after a short one
abbrev pub key_bytes : List ℕ → List ℕ
key_bytes raw = raw ++ replicate (64 - length raw) 0

-- bytes 64 to 71: the data unit's size in sectors, the capability index, a reserved byte, 0x80 for
-- an entry that is enabled, and dword 17
abbrev pub settings : DataUnit → ℕ → List ℕ
settings unit index = sectors_of unit ∷ index ∷ 0 ∷ 0x80 ∷ 0 ∷ 0 ∷ 0 ∷ 0 ∷ []

-- the bytes of a key's entry, under a capability index
abbrev pub entry_bytes : KeyData → ℕ → List ℕ
entry_bytes key index = key_bytes key.raw ++ settings key.config.unit index

-- the dwords of a key's entry, if a capability serves its mode and data unit
unfoldable pub entry_words : KeyData → Capabilities → Option (List ℕ)
entry_words key caps =
    option_map (λ index. words_of_bytes (entry_bytes key index)) (index_for caps key.config.mode key.config.unit)

-- an entry is enabled: bit 31 of dword 16 is set, the top bit of byte 67
abbrev pub is_enabled : List ℕ → Bool
is_enabled bytes = bit_at (slice_index bytes 67) 7 == 1

-- the capability that an entry names, if there is one at its index
abbrev pub capability_of : List ℕ → Capabilities → Option Capability
capability_of bytes caps = slice_get caps.list (slice_index bytes 65)

-- the data unit, if the capability has it
abbrev pub if_served : Capability → DataUnit → Option DataUnit
if_served capability unit = if has_bits capability.units (bit_of unit) then Some unit else None

-- the data unit of so many sectors, if there is one and the capability has it
abbrev pub served_unit : Capability → ℕ → Option DataUnit
served_unit capability sectors = option_map_or (if_served capability) (unit_of (512 * sectors)) None

-- the parts of the cipher that an entry means: its capability's mode, its data unit, as many bytes
-- as the mode's keys have
abbrev pub parts_in : List ℕ → Capability → DataUnit → CipherParts
parts_in bytes capability unit =
    record { mode = capability.mode; unit = unit; raw = take (key_size capability.mode) bytes }

-- what is read under the capability that the entry names
abbrev pub read_under : List ℕ → Option Capability → Result CipherParts EntryError
read_under bytes None = Err BadCapability
read_under bytes (Some capability) =
    option_map_or (λ unit. Ok (parts_in bytes capability unit))
    (served_unit capability (slice_index bytes 64)) (Err BadUnitSize)

-- what an entry's bytes are read as: the first test that fails, or a cipher's parts
abbrev pub read_bytes : List ℕ → Capabilities → Result CipherParts EntryError
read_bytes bytes caps =
    if is_enabled bytes then read_under bytes (capability_of bytes caps) else Err Disabled

-- what an entry's dwords are read as
unfoldable pub read_words : List ℕ → Capabilities → Result CipherParts EntryError
read_words words caps = read_bytes (bytes_of_words words) caps

-- words that aren't those of an enabled entry
abbrev pub IsDisabled : List ℕ → Type 0
IsDisabled words = is_enabled (bytes_of_words words) ≡ false

-- the entry is enabled, and names no capability
pub record HasBadCapability (words : List ℕ) (caps : Capabilities) : Type 0 where
  pub enabled : is_enabled (bytes_of_words words) ≡ true
  pub none_named : capability_of (bytes_of_words words) caps ≡ None

-- the entry is enabled and names a capability, which has no data unit of the entry's size
pub record HasBadUnitSize (words : List ℕ) (caps : Capabilities) : Type 0 where
  pub enabled : is_enabled (bytes_of_words words) ≡ true
  pub capability : Capability
  pub named : capability_of (bytes_of_words words) caps ≡ Some capability
  pub none_served : served_unit capability (slice_index (bytes_of_words words) 64) ≡ None
