use Rattle.std.proofs.Common.{◌≡◌, ◌<◌, ◌/◌, length, sym, ap, ap₂, ◌∙◌, subst, arith, ℕ, List, take, drop, ◌++◌}
use Rattle.std.proofs.Math.Seq.{take-append_seam}
use Rattle.bc_base.specs.Sectors.{image_sectors, with_bytes}
use Rattle.bc_base.specs.Stores.{IsPiece}
use Rattle.bc_base.specs.RamStores.{RamData, owns, contents, sector_within}
use Rattle.bc_base.proofs.Shards.{piece_within, write_is}
use Rattle.bc_base.proofs.ram_store.RamStoreStore.write.Goals as goal

pub set_sectors-requires-clause-inside : goal.set_sectors-requires-clause-inside
set_sectors-requires-clause-inside c =
    let s = c.self.inside in
    let store : RamData = record { bytes = s.bytes.items; shard = s.shard; shards = s.shards; blocks = s.blocks; calls = s.calls } in
    let piece : IsPiece (owns store) c.args.sector (length c.args.from.now / 512) = subst (λ (d : RamData). IsPiece (owns d) c.args.sector (length c.args.from.now / 512)) (sym c.self.view_is) c.requires.piece in
    let w = piece_within store c.args.sector (length c.args.from.now / 512) c.self.invariant piece in
    let is = c.requires.whole in let v = ap (λ (l : List ℕ). length l) c.deref_mut.ensures.value in let p = c.place_of.ensures in
    omega arith

pub returns-clause-sets : goal.returns-clause-sets
returns-clause-sets c = λ n.
    let s = c.self.inside in
    let store : RamData = record { bytes = s.bytes.items; shard = s.shard; shards = s.shards; blocks = s.blocks; calls = s.calls } in
    let piece : IsPiece (owns store) c.args.sector (length c.args.from.now / 512) = subst (λ (d : RamData). IsPiece (owns d) c.args.sector (length c.args.from.now / 512)) (sym c.self.view_is) c.requires.piece in
    let some : 0 < store.shards = let b = c.self.invariant.below in omega arith in
    let long : s.bytes.len ≡ length c.set_sectors.new.image = sym (c.set_sectors.ensures.length ∙ c.deref_mut.ensures.len) in
    let items : take s.bytes.len (c.set_sectors.new.image ++ drop (length c.set_sectors.new.image) s.bytes.items) ≡ c.set_sectors.new.image =
    ap (λ (k : ℕ). take k (c.set_sectors.new.image ++ drop (length c.set_sectors.new.image) s.bytes.items)) long ∙ take-append_seam c.set_sectors.new.image (drop (length c.set_sectors.new.image) s.bytes.items) in
    let set : (t : ℕ) → image_sectors c.set_sectors.new.image t ≡ with_bytes (image_sectors store.bytes) (sector_within store.shards c.args.sector) c.args.from.now t = λ t.
    c.set_sectors.ensures.sectors t ∙ ap₂ (λ (l : List ℕ) (p : ℕ). with_bytes (image_sectors l) p c.args.from.now t) c.deref_mut.ensures.value c.place_of.ensures in
    ap (λ (b : List ℕ). contents (record store { bytes = b; calls = c.next.new.self }) n) items
    ∙ write_is store c.set_sectors.new.image c.next.new.self c.args.sector c.args.from.now some c.requires.whole piece set n
    ∙ ap (λ (d : RamData). with_bytes (contents d) c.args.sector c.args.from.now n) c.self.view_is
