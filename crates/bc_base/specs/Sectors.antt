-- Sectors: 512 raw bytes for each sector number.
use Rattle.std.specs.Prelude.{ℕ, ◌+◌, ◌-◌, ◌*◌, ◌&&◌, nat_lt, nat_le, List, length, slice_range, flat_map, if◌then◌else◌}
use Rattle.std.specs.List.{range_with_len}

-- the bytes of each sector
abbrev pub Sectors : Type 0
Sectors = ℕ → List ℕ

-- the sectors of an image
abbrev pub image_sectors : List ℕ → Sectors
image_sectors image s = slice_range image (512 * s) (512 * s + 512)

-- the bytes of count sectors from first on
abbrev pub bytes_at : Sectors → ℕ → ℕ → List ℕ
bytes_at disk first count = flat_map disk (range_with_len first count)

-- the disk with these bytes from the sector first on
abbrev pub with_bytes : Sectors → ℕ → List ℕ → Sectors
with_bytes disk first bytes s =
    if nat_le first s && nat_lt (512 * (s - first)) (length bytes)
    then slice_range bytes (512 * (s - first)) (512 * (s - first) + 512)
    else disk s
