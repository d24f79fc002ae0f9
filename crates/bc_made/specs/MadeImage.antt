-- The image that `make` leaves: what the keyed disk is left with, which begins with zeros and meets
-- no fault, where the data units of all sections are performed one after the other, section after
-- section.
use Rattle.std.specs.Prelude.{ℕ, ◌*◌, List, [], replicate, flat_map}
use Rattle.bc_base.specs.declared.geometry.TheConstants.{BLOCK_BYTES}
use Rattle.bc_medium.specs.KeyedDisk.{Sectors, image_sectors, bytes_at, disk_along}
use Rattle.bc_script.specs.Script.{Script, keys_of, sectors_in}
use Rattle.bc_script.specs.Plan.{plan_of}
use Rattle.bc_script.specs.GeneratedScript.{generated}

-- an image of zeros, of the length that the script asks for
abbrev pub zeros_for : Script → List ℕ
zeros_for script = replicate (BLOCK_BYTES * script.blocks) 0

-- the disk after the data units of all sections, section after section, from zeros and without
-- faults
abbrev pub disk_in_turn : Script → Sectors
disk_in_turn script =
    disk_along (keys_of script) [] 0 0 (image_sectors (zeros_for script)) (flat_map (λ units. units) (plan_of script))

-- its image
unfoldable pub image_in_turn : Script → List ℕ
image_in_turn script = bytes_at (disk_in_turn script) 0 (sectors_in script)

-- the image that is left where `make` carries n pairs a thread out; the number of keyslots plays no
-- part
unfoldable pub made_image : ℕ → List ℕ
made_image n = image_in_turn (generated n 1)
