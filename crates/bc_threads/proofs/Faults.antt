-- Planned faults of a shard, by the places of its entries; and the sectors after a disk.
use Rattle.std.proofs.Common.{◌≡◌, ℕ, ◌-◌, ◌*◌, ◌/◌, ◌≤◌, Bool, false, cond, [], sym, ap, subst, ◌∙◌, arith}
use Rattle.std.specs.Prelude.{◌==◌, nat_lt}
use Rattle.std.proofs.lemmas.Bool.{and_right, ltb-true, false_from_ne_true}
use Rattle.bc_base.specs.RamStores.{RamData, owns, contents, sector_within}
use Rattle.bc_medium.specs.Layout.{shard_of}
use Rattle.bc_medium.specs.KeyedDisk.{image_sectors}

-- a store that owns what another does has nothing after the disk either
pub empty_behind : (store start : RamData) (blocks s : ℕ) → owns store s ≡ owns start s → start.blocks ≡ blocks → 8 * blocks ≤ s → contents store s ≡ []
empty_behind store start blocks s same is behind =
    let no : owns start s ≡ false = none_behind start s (subst (λ b. 8 * b ≤ s) (sym is) behind) in
    ap (λ (b : Bool). cond b (image_sectors store.bytes (sector_within store.shards s)) []) (same ∙ no)
  where
    none_behind : (r : RamData) (s : ℕ) → 8 * r.blocks ≤ s → owns r s ≡ false
    none_behind r s le = and_right (shard_of r.shards s == r.shard) (nat_lt (s / 8) r.blocks) (false_from_ne_true (nat_lt (s / 8) r.blocks) (λ t. let lt = ltb-true (s / 8) r.blocks t in absurd (omega arith)))
