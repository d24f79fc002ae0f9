use Rattle.std.proofs.Common.{◌<◌, ◌/◌, length, refl, arith}
use Rattle.bc_base.specs.RamStores.{RamData}
use Rattle.bc_base.proofs.Shards.{holds_shard}
use Rattle.bc_base.proofs.ram_store.RamStore.of_image.Goals as goal

pub returns-clause-shard : goal.returns-clause-shard
returns-clause-shard c =
    let store : RamData = record { bytes = c.in_ok-bytes.bytes.items; shard = c.args.shard; shards = c.args.shards; blocks = length c.args.image.now / 4096; calls = c.new.result } in
    let some : 0 < c.args.shards = let b = c.requires.shard in omega arith in
    record {
      shard_is = refl;
      shards_are = refl;
      blocks_are = refl;
      holds = holds_shard c.args.image.now store some refl c.in_ok-bytes.ensures;
    }
