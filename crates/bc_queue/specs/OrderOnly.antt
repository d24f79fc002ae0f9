-- Private: the tests' disk, which has one shard without contents and keeps its order alone; and their bios.
use Rattle.std.specs.Prelude.{◌≡◌, ℕ, ◌+◌, ◌^◌, ◌<◌, ◌==◌, List, [], ◌∷◌, length, None, if◌then◌else◌}
use Rattle.bc_base.specs.Lists.{Each}
use Rattle.bc_bio.specs.declared.bio.Bio.{Bio}
use Rattle.bc_bio.specs.declared.marked_bio.MarkedBio.{MarkedBio}
use Rattle.bc_bio.specs.Conditions.{IsFull}
use Rattle.bc_medium.specs.declared.entry.Entry.{Entry}
use Rattle.bc_medium.specs.declared.via.Via.TheVariants.{Plain}
use Rattle.bc_queue.specs.Carrying.{AccessFacts}

-- the order, and how many entries more fit
pub record OrderData : Type 0 where
  pub entries : List Entry
  pub spare : ℕ

-- a caller's way to it
abbrev pub order_facts : ℕ → OrderData → AccessFacts
order_facts caller disk = record {
  keys = [];
  shards = 1;
  opening = λ shard. None;
  via = Plain;
  caller = caller;
  seen = disk.entries ∷ [];
  spare = λ shard. if shard == 0 then disk.spare else 2 ^ 32;
}

-- a bio without a key whose units have their bytes
pub record IsPlainBio (bio : Bio) : Type 0 where
  pub no_key : bio.context ≡ None
  pub full : Each (IsFull 1) bio.units
  pub end : bio.sector + length bio.units < 2 ^ 32

-- bios that are such
abbrev pub ArePlain : List MarkedBio → Type 0
ArePlain bios = Each (λ marked. IsPlainBio marked.bio) bios
