use Rattle.std.proofs.Common.{◌∙◌, sym, ap₂, List, ℕ, arith}
use Rattle.bc_aes.specs.Cipher.{encipher}
use Rattle.bc_modes.specs.ByBlocks.{xor_bytes}
use Rattle.bc_modes.specs.CbcEssiv.{chained, essiv, essiv_encipher}
use Rattle.bc_modes.proofs.Links.{no_blocks, next_block, block_more, all_blocks, chained_is, chain-more}
use Rattle.bc_modes.proofs.essiv.Essiv.encrypt.Goals as goal

pub loop-block-init : goal.loop-block-init
loop-block-init c = record { blocks = no_blocks _ _; next = c.start-before.ensures }

pub loop-block-preserved : goal.loop-block-preserved
loop-block-preserved c =
    let key = c.args.self.now in
    let start = essiv key c.args.dun.now in
    let was = c.args.text.now in
    let n = c.loop-block.block in
    let invariant = c.loop-block.invariant in
    let link = c.encrypt_link-before in
    let enciphered = link.ensures.enciphers
    ∙ ap₂ (λ (xs ys : List ℕ). encipher 4 key (xor_bytes xs ys)) (next_block _ n was c.loop-block.text invariant.blocks) invariant.next
    ∙ chained_is key start was n in
    record {
      blocks = block_more (chained key start was) n was c.loop-block.text link.new.text (omega arith) (omega arith) (omega arith) invariant.blocks enciphered;
      next = link.ensures.next ∙ enciphered ∙ sym (chain-more key start was n);
    }

pub returns : goal.returns
unfolding essiv_encipher
returns c =
    let key = c.args.self.now in
    all_blocks (chained key (essiv key c.args.dun.now) c.args.text.now) c.loop-block.block c.args.text.now c.loop-block.text
    (omega arith) (omega arith) c.loop-block.invariant.blocks
