use Rattle.std.proofs.Common.{◌≡◌, ◌<◌, ◌/◌, length, sym, ap, ◌∙◌, subst, arith, ℕ, List}
use Rattle.bc_base.specs.Sectors.{image_sectors, bytes_at}
use Rattle.bc_base.specs.Stores.{IsPiece}
use Rattle.bc_base.specs.RamStores.{RamData, owns, contents}
use Rattle.bc_base.proofs.Shards.{piece_within, read_is}
use Rattle.bc_base.proofs.ram_store.RamStoreStore.read.Goals as goal

pub take_sectors-requires-clause-inside : goal.take_sectors-requires-clause-inside
take_sectors-requires-clause-inside c =
    let s = c.self.inside in
    let store : RamData = record { bytes = s.bytes.items; shard = s.shard; shards = s.shards; blocks = s.blocks; calls = s.calls } in
    let piece : IsPiece (owns store) c.args.sector (length c.args.into.now / 512) = subst (λ (d : RamData). IsPiece (owns d) c.args.sector (length c.args.into.now / 512)) (sym c.self.view_is) c.requires.piece in
    let w = piece_within store c.args.sector (length c.args.into.now / 512) c.self.invariant piece in
    let is = c.requires.whole in let v = ap (λ (l : List ℕ). length l) c.deref.ensures.value in let p = c.place_of.ensures in
    omega arith

pub returns-clause-reads : goal.returns-clause-reads
returns-clause-reads c =
    let s = c.self.inside in
    let store : RamData = record { bytes = s.bytes.items; shard = s.shard; shards = s.shards; blocks = s.blocks; calls = s.calls } in
    let n : ℕ = length c.args.into.now / 512 in
    let piece : IsPiece (owns store) c.args.sector n = subst (λ (d : RamData). IsPiece (owns d) c.args.sector n) (sym c.self.view_is) c.requires.piece in
    let some : 0 < store.shards = let b = c.self.invariant.below in omega arith in
    let same : length c.take_sectors.new.into ≡ length c.args.into.now = c.take_sectors.auto.into in
    c.take_sectors.ensures
    ∙ ap (λ (l : List ℕ). bytes_at (image_sectors l) c.place_of.result n) c.deref.ensures.value
    ∙ ap (λ (p : ℕ). bytes_at (image_sectors store.bytes) p n) c.place_of.ensures
    ∙ read_is store c.args.sector n some piece
    ∙ ap (λ (d : RamData). bytes_at (contents d) c.args.sector n) c.self.view_is
    ∙ ap (λ (m : ℕ). bytes_at (contents c.args.self.now) c.args.sector (m / 512)) (sym same)
