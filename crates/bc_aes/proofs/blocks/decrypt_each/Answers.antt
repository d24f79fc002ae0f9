use Rattle.std.proofs.Common.{◌≡◌, List, ℕ, ◌-◌, ◌*◌, ◌/◌, length, take, refl, subst, arith}
use Rattle.bc_aes.specs.Blocks.{EachBlock}
use Rattle.bc_aes.specs.Cipher.{decipher_by}
use Rattle.bc_aes.specs.Columns.{schedule_bytes}
use Rattle.bc_aes.proofs.BlockLemmas.{each_block-parts}
use Rattle.bc_aes.proofs.blocks.decrypt_each.Goals as goal

pub returns : goal.returns
returns c =
    let schedule : List ℕ = schedule_bytes c.args.schedule.now in
    let last : ℕ = length c.args.schedule.now / 4 - 1 in
    let n : ℕ = length c.args.raw.now / 128 * 128 in
    let rounds : length c.args.keys.now - 1 ≡ last = omega arith in
    let pieces : EachBlock (decipher_by last schedule) (take n c.args.raw.now) c.decrypt_pieces.new.raw =
    subst (λ (nr : ℕ). EachBlock (decipher_by nr schedule) (take n c.args.raw.now) c.decrypt_pieces.new.raw) rounds
    (c.decrypt_pieces.ensures.deciphers schedule c.requires.sliced) in
    record {
      deciphers = each_block-parts (decipher_by last schedule) n _ c.args.raw.now c.decrypt_pieces.new.raw c.decrypt_singly.new.raw (omega arith) (omega arith) refl
          pieces c.decrypt_singly.ensures.deciphers;
    }
