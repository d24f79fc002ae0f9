use Rattle.std.proofs.Common.{◌≡◌, ℕ, ◌+◌, ◌-◌, ◌*◌, ◌<◌, length}
use Rattle.bc_base.specs.RamStores.{block_at}
use Rattle.bc_base.proofs.ram_store.blocks_from.Given as goal

abbrev pub invariant-loop-block : goal.invariant-loop-block
invariant-loop-block l =
    (done : ℕ)
    × (l.block ≡ l.first + l.step * done)
    × (length l.bytes.items ≡ 4096 * done)
    × ((i : ℕ) → i < done → block_at l.bytes.items i ≡ block_at l.image (l.first + l.step * i))

abbrev pub decreases-loop-block : goal.decreases-loop-block
decreases-loop-block l = l.blocks - l.block
