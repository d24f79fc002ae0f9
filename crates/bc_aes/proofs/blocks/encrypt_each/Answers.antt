use Rattle.std.proofs.Common.{◌≡◌, List, ℕ, ◌-◌, ◌*◌, ◌/◌, length, take, refl, subst, arith}
use Rattle.bc_aes.specs.Blocks.{EachBlock}
use Rattle.bc_aes.specs.Cipher.{encipher_by}
use Rattle.bc_aes.specs.Columns.{schedule_bytes}
use Rattle.bc_aes.proofs.BlockLemmas.{each_block-parts}
use Rattle.bc_aes.proofs.blocks.encrypt_each.Goals as goal

pub returns : goal.returns
returns c =
    let schedule : List ℕ = schedule_bytes c.args.schedule.now in
    let last : ℕ = length c.args.schedule.now / 4 - 1 in
    let n : ℕ = length c.args.text.now / 128 * 128 in
    let rounds : length c.args.keys.now - 1 ≡ last = omega arith in
    let pieces : EachBlock (encipher_by last schedule) (take n c.args.text.now) c.encrypt_pieces.new.text =
    subst (λ (nr : ℕ). EachBlock (encipher_by nr schedule) (take n c.args.text.now) c.encrypt_pieces.new.text) rounds
    (c.encrypt_pieces.ensures.enciphers schedule c.requires.sliced) in
    record {
      enciphers = each_block-parts (encipher_by last schedule) n _ c.args.text.now c.encrypt_pieces.new.text c.encrypt_singly.new.text (omega arith) (omega arith) refl
          pieces c.encrypt_singly.ensures.enciphers;
    }
