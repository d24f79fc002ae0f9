-- What a controller's crypto engine can do: a list of capabilities, each a mode and the data units
-- that it has. After UFSHCI, whose capability registers tell an algorithm id, a key size code and a
-- mask of data unit sizes.
use Rattle.std.specs.Prelude.{ℕ, ◌==◌, nat_le, Bool, true, false, ◌&&◌, List, [], ◌∷◌, ◌++◌, position, Option, is_some, if◌then◌else◌}
use Rattle.bc_key.specs.declared.config.Mode.{Mode}
use Rattle.bc_key.specs.declared.config.Mode.TheVariants.{Aes256Xts, Aes128CbcEssiv}
use Rattle.bc_key.specs.declared.config.DataUnit.{DataUnit}
use Rattle.bc_key.specs.declared.config.Config.{Config}
use Rattle.bc_key.specs.declared.caps.Caps.{Caps}
use Rattle.bc_key.specs.DataUnits.{bit_of}
use Rattle.bc_key.specs.Support.{has_bits}
use Rattle.bc_modes.specs.declared.ufs_caps.Capability.{Capability}

-- a mode's algorithm id: AES-XTS, or ESSIV-AES-CBC
abbrev pub algorithm_id : Mode → ℕ
algorithm_id Aes256Xts = 0
algorithm_id Aes128CbcEssiv = 3

-- the code of its key's size: 256 bits, or 128
abbrev pub key_size_code : Mode → ℕ
key_size_code Aes256Xts = 3
key_size_code Aes128CbcEssiv = 1

-- the two modes are one
abbrev pub same_mode : Mode → Mode → Bool
same_mode Aes256Xts Aes256Xts = true
same_mode Aes128CbcEssiv Aes128CbcEssiv = true
same_mode Aes256Xts Aes128CbcEssiv = false
same_mode Aes128CbcEssiv Aes256Xts = false

-- what contracts see of a controller's capabilities: the list, and how many bytes a data unit
-- number may have
pub record Capabilities : Type 0 where
  pub list : List Capability
  pub max_dun_bytes : ℕ

-- the capability, unless it has no data unit
abbrev pub present : Capability → List Capability
present capability = if capability.units == 0 then [] else capability ∷ []

-- the capabilities of a controller that can do what this set says: AES-256-XTS first
abbrev pub capabilities_of : Caps → Capabilities
capabilities_of caps = record {
  list =
      present (record { mode = Aes256Xts; units = caps.xts })
      ++ present (record { mode = Aes128CbcEssiv; units = caps.essiv });
  max_dun_bytes = caps.max_dun_bytes;
}

-- a capability is of the mode, and has the data unit
abbrev pub serves : Mode → DataUnit → Capability → Bool
serves mode unit capability = same_mode capability.mode mode && has_bits capability.units (bit_of unit)

-- the place of the first capability that serves them, if one does
abbrev pub index_for : Capabilities → Mode → DataUnit → Option ℕ
index_for caps mode unit = position (serves mode unit) caps.list

-- a controller supports a configuration: a capability serves its mode and data unit, and there are
-- enough number bytes
abbrev pub is_supported : Capabilities → Config → Bool
is_supported caps config =
    is_some (index_for caps config.mode config.unit) && nat_le config.dun_bytes caps.max_dun_bytes
