-- Where a sector lies: in a block of eight, and the block in a shard. The words are those of the
-- stores.
pub use Rattle.bc_base.specs.Layout.{block_of, shard_of}
