-- The pieces of a request: its data units, cut where the device changes.
use Rattle.std.specs.Prelude.{◌≡◌, ◌≢◌, ℕ, ◌≤◌, ◌<◌, Bool, ◌==◌, List, length, Some, slice_get}
use Rattle.std.specs.List.{position_or_len}
use Rattle.std.specs.Option.{option_map}
use Rattle.bc_key.specs.KeyData.{KeyData}
use Rattle.bc_bio.specs.Chunks.{chunk_by}
use Rattle.bc_bio.specs.Windows.{TaggedBio, NamedUnit, units_of_request}
use Rattle.bc_stack.specs.declared.target.Target.{Target}
use Rattle.bc_stack.specs.Devices.{has_sector}

-- the number of a unit's device, or the number of devices where its sector lies on none
abbrev pub device_of : List Target → NamedUnit → ℕ
device_of targets unit = position_or_len (has_sector unit.sector) targets

-- two units lie on one device
abbrev pub same_device : List Target → NamedUnit → NamedUnit → Bool
same_device targets first second = device_of targets first == device_of targets second

-- these units, cut where the device changes
abbrev pub pieces_of : List Target → List NamedUnit → List (List NamedUnit)
pieces_of targets units = chunk_by (same_device targets) units

-- Private: from unit number `first` on, the units below `end` lie on this device, and the one at
-- `end`, if there is one, on another.
pub record EndsPiece (targets : List Target) (units : List NamedUnit) (first device end : ℕ) : Type 0 where
  pub after_first : first < end
  pub within : end ≤ length units
  pub on_device : (n : ℕ) → first ≤ n → n < end → option_map (device_of targets) (slice_get units n) ≡ Some device
  pub changes : end < length units → option_map (device_of targets) (slice_get units end) ≢ Some device

-- unit number n of a request lies on a device
abbrev pub LiesOnDevice : List KeyData → List Target → List TaggedBio → ℕ → Type 0
LiesOnDevice keys targets bios n =
    (unit : NamedUnit) → slice_get (units_of_request keys bios) n ≡ Some unit → device_of targets unit < length targets
