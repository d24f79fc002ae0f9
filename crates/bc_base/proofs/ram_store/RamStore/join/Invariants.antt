use Rattle.bc_base.proofs.Shards.{IsJoined}
use Rattle.bc_base.proofs.ram_store.RamStore.join.Given as goal

abbrev pub invariant-loop-block : goal.invariant-loop-block
invariant-loop-block l = IsJoined l.stores l.image.items l.block
