-- Private: what is there of a disk that is being closed.
use Rattle.std.specs.Prelude.{◌≡◌, ℕ, ◌+◌, ◌≤◌, List, [], map, replicate, vec_capacity, vec_len}
use Rattle.bc_base.specs.Lists.{Each}
use Rattle.bc_disk.specs.declared.split.Rooms.{Rooms}
use Rattle.bc_disk.specs.declared.split.DiskParts.{DiskParts}
use Rattle.bc_disk.specs.declared.split.DiskParts.TheVariants.{Whole, Split}
use Rattle.bc_disk.specs.Disks.{DiskData, PassData}
use Rattle.bc_disk.specs.Closings.{AreAllPasses, IsSplit}

module _ {S : Type 0} where
  -- Private: this is left of the disk and of the passes: all of it, or its parts.
  abbrev pub IsLeft : DiskData S → List (PassData S) → DiskParts S → Type 0
  IsLeft disk passes (Whole all callers) = (all ≡ disk) × (callers.items ≡ passes) × AreAllPasses disk passes
  IsLeft disk passes (Split split) = IsSplit disk passes split

  -- Private: the rooms are empty, and have places for the parts of so many devices and callers.
  pub record IsRoomFor (devices callers : ℕ) (rooms : Rooms S) : Type 0 where
    pub lists : map (λ list. list.items) rooms.slots.items ≡ replicate devices []
    pub no_devices : rooms.devices.items ≡ []
    pub no_journals : rooms.journals.items ≡ []
    pub no_units : rooms.units.items ≡ []
    pub slots : Each (λ list. vec_len list + callers ≤ vec_capacity list) rooms.slots.items
    pub devices_room : devices ≤ vec_capacity rooms.devices
    pub journals_room : devices ≤ vec_capacity rooms.journals
    pub units_room : callers ≤ vec_capacity rooms.units
