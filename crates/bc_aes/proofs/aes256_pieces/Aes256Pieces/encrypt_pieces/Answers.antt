use Rattle.std.proofs.Common.{◌≡◌, List, ℕ, ◌-◌, length, ap, ◌∙◌, arith}
use Rattle.bc_aes.specs.KeyExpansion.{key_expansion}
use Rattle.bc_aes.specs.Cipher.{encipher_by, encipher}
use Rattle.bc_aes.specs.Columns.{schedule_bytes}
use Rattle.bc_aes.proofs.ScheduleLemmas.{key_length, encipher-by}
use Rattle.bc_aes.proofs.BlockLemmas.{each_block-same}
use Rattle.bc_aes.proofs.aes256_pieces.Aes256Pieces.encrypt_pieces.Goals as goal

pub returns : goal.returns
returns c =
    let words : List ℕ = c.self.inside.schedule in
    let last : ℕ = length c.self.inside.sliced - 1 in
    let rounds : last ≡ 14 = omega arith in
    record {
      size = key_length 8 words c.args.self.now (omega arith) c.self.view_is;
      enciphers = each_block-same (encipher_by last (schedule_bytes words)) (encipher 8 c.args.self.now) c.args.text.now c.encrypt_pieces.new.text
          (encipher-by 8 last (schedule_bytes words) c.args.self.now rounds
          (c.self.invariant.schedule_is ∙ ap (λ (key : List ℕ). key_expansion 8 key) c.self.view_is))
          (c.encrypt_pieces.ensures.enciphers (schedule_bytes words) c.self.invariant.sliced_is);
    }
