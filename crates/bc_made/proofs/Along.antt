-- What a sector has after data units, performed without faults: those of other blocks play no part, nor do shards and
-- places.
use Rattle.std.proofs.Common.{◌≡◌, ℕ, ◌+◌, Bool, true, false, cond, List, [], ◌∷◌, ap, ◌∙◌, refl}
use Rattle.std.specs.Prelude.{◌==◌, ◌-◌, ◌*◌, ◌&&◌, nat_le, nat_lt, length, slice_range, filter}
use Rattle.bc_base.specs.Lists.{Each}
use Rattle.bc_base.specs.Layout.{block_of}
use Rattle.bc_key.specs.KeyData.{KeyData}
use Rattle.bc_bio.specs.declared.access.Access.{Access}
use Rattle.bc_bio.specs.declared.access.Access.TheVariants.{Read, Write}
use Rattle.bc_bio.specs.PlannedUnit.{PlannedUnit}
use Rattle.bc_medium.specs.KeyedDisk.{Sectors, accessed, enciphered, disk_along}

-- the unit lies in this block
abbrev pub lies_at : ℕ → PlannedUnit → Bool
lies_at block u = block_of u.sector == block

-- the unit changes no sector of another block
abbrev pub StaysIn : List KeyData → PlannedUnit → Type 0
StaysIn keys u =
    (disk : Sectors) (s : ℕ) → lies_at (block_of s) u ≡ false → (accessed u.access keys disk u).disk s ≡ disk s

-- what a unit does to a sector depends on no other sector
alike : (access : Access) (keys : List KeyData) (disk other : Sectors) (u : PlannedUnit) (s : ℕ) → disk s ≡ other s
    → (accessed access keys disk u).disk s ≡ (accessed access keys other u).disk s
alike Read keys disk other u s same = same
alike Write keys disk other u s same =
    let bytes = enciphered keys u.context u.bytes in
    ap (λ (old : List ℕ). cond (nat_le u.sector s && nat_lt (512 * (s - u.sector)) (length bytes))
    (slice_range bytes (512 * (s - u.sector)) (512 * (s - u.sector) + 512)) old) same

-- a sector after units is the sector after the units of its block
pub along_block : (keys : List KeyData) (s : ℕ) (us : List PlannedUnit) → Each (StaysIn keys) us
    → (shard place shard' place' : ℕ) (disk other : Sectors) → disk s ≡ other s
    → disk_along keys [] shard place disk us s ≡ disk_along keys [] shard' place' other (filter (lies_at (block_of s)) us) s
along_block keys s [] stay shard place shard' place' disk other same = same
along_block keys s (u ∷ us) stay shard place shard' place' disk other same =
    let after = (accessed u.access keys disk u).disk in
    (elim (lies_at (block_of s) u) as (λ (b : Bool). lies_at (block_of s) u ≡ b
    → disk_along keys [] shard (place + 1) after us s
    ≡ disk_along keys [] shard' place' other (cond b (u ∷ filter (lies_at (block_of s)) us) (filter (lies_at (block_of s)) us)) s) [
      | true ↦ λ is. along_block keys s us stay.1 shard (place + 1) shard' (place' + 1) after (accessed u.access keys other u).disk
          (alike u.access keys disk other u s same)
      | false ↦ λ is. along_block keys s us stay.1 shard (place + 1) shard' place' after other (stay.0 disk s is ∙ same)
    ]) refl
