use Rattle.std.proofs.Common.{◌≡◌, List, ℕ, ◌-◌, ◌/◌, length, ap, ◌∙◌, arith}
use Rattle.bc_aes.specs.KeyExpansion.{key_expansion}
use Rattle.bc_aes.specs.Cipher.{encipher_by, encipher}
use Rattle.bc_aes.specs.Columns.{schedule_bytes}
use Rattle.bc_aes.proofs.ScheduleLemmas.{key_length, encipher-by}
use Rattle.bc_aes.proofs.BlockLemmas.{each_block-same}
use Rattle.bc_aes.proofs.aes128.Aes128.encrypt_blocks.Goals as goal

pub returns : goal.returns
returns c =
    let words : List ℕ = c.self.inside.schedule in
    let rounds : length words / 4 - 1 ≡ 10 = omega arith in
    record {
      size = key_length 4 words c.args.self.now (omega arith) c.self.view_is;
      enciphers = each_block-same (encipher_by (length words / 4 - 1) (schedule_bytes words)) (encipher 4 c.args.self.now) c.args.text.now c.encrypt_each.new.text
          (encipher-by 4 (length words / 4 - 1) (schedule_bytes words) c.args.self.now rounds
          (c.self.invariant.schedule_is ∙ ap (λ (key : List ℕ). key_expansion 4 key) c.self.view_is))
          c.encrypt_each.ensures.enciphers;
    }
