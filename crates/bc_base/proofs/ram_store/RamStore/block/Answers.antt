use Rattle.std.proofs.Common.{◌/◌, ap, ap₂, ◌∙◌, ℕ, List}
use Rattle.bc_base.specs.RamStores.{block_at, RamData}
use Rattle.bc_base.proofs.ram_store.RamStore.block.Goals as goal

pub returns-clause-bytes : goal.returns-clause-bytes
returns-clause-bytes c =
    ap₂ (λ (bytes : List ℕ) (shards : ℕ). block_at bytes (c.args.block / shards)) c.deref.ensures.value c.from.ensures
    ∙ ap (λ (d : RamData). block_at d.bytes (c.args.block / d.shards)) c.self.view_is
