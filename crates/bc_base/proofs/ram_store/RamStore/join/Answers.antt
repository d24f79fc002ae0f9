use Rattle.std.proofs.Common.{◌≡◌, ℕ, arith, sym, subst}
use Rattle.std.proofs.Common.{◌+◌, ◌*◌, ◌%◌, ◌/◌, List, length}
use Rattle.bc_base.proofs.Lists.{at_read}
use Rattle.bc_base.specs.Lists.{At}
use Rattle.bc_base.proofs.Shards.{IsJoined, owns_block, joined_more, joined_sectors, joined_back}
use Rattle.bc_base.proofs.ram_store.RamStore.join.Goals as goal

pub loop-block-preserved : goal.loop-block-preserved
loop-block-preserved c =
    let stores = c.args.stores.now in let block : ℕ = c.loop-block.block in let n : ℕ = length stores in let some = c.requires.some in
    let at = at_read stores (block % n) c.index-stores-block.result (omega arith) c.index-stores-block.is in
    subst (λ (l : List ℕ). IsJoined stores l (block + 1)) (sym c.in_ok-extend_from_slice.ensures.items)
    (joined_more stores c.loop-block.image.items c.block.result.now block c.index-stores-block.result c.loop-block.invariant c.block.ensures.length at
    c.block.ensures.bytes)

pub block-requires : goal.block-requires
block-requires c =
    let stores = c.args.stores.now in let block : ℕ = c.loop-block.block in let n : ℕ = length stores in let some = c.requires.some in
    let at = at_read stores (block % n) c.index-stores-block.result (omega arith) c.index-stores-block.is in
    let first : 8 * block / 8 ≡ block = omega arith in
    let mine = owns_block c.index-stores-block.result block
    (c.requires.each (8 * block) (omega (arith, c.loop-block-test.true)) c.index-stores-block.result (subst (λ (b : ℕ). At stores (b % n) c.index-stores-block.result) (sym first) at)) in
    record { shard = mine.0; inside = mine.1 }

pub returns-clause-sectors : goal.returns-clause-sectors
returns-clause-sectors c = λ s less store at.
    let last : c.loop-block.block ≡ c.args.blocks = omega arith in
    (joined_sectors c.args.stores.now c.loop-block.image.items c.args.blocks c.requires (subst (λ (n : ℕ). IsJoined c.args.stores.now c.loop-block.image.items n) last c.loop-block.invariant) s less store at).1

pub returns-clause-gives_back : goal.returns-clause-gives_back
returns-clause-gives_back c = λ whole long parts.
    let last : c.loop-block.block ≡ c.args.blocks = omega arith in
    joined_back c.args.stores.now c.loop-block.image.items whole c.args.blocks c.requires (subst (λ (n : ℕ). IsJoined c.args.stores.now c.loop-block.image.items n) last c.loop-block.invariant) long parts
