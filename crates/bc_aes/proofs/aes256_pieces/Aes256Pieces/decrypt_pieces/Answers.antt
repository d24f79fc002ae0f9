use Rattle.std.proofs.Common.{◌≡◌, List, ℕ, ◌-◌, length, ap, ◌∙◌, arith}
use Rattle.bc_aes.specs.KeyExpansion.{key_expansion}
use Rattle.bc_aes.specs.Cipher.{decipher_by, decipher}
use Rattle.bc_aes.specs.Columns.{schedule_bytes}
use Rattle.bc_aes.proofs.ScheduleLemmas.{key_length, decipher-by}
use Rattle.bc_aes.proofs.BlockLemmas.{each_block-same}
use Rattle.bc_aes.proofs.aes256_pieces.Aes256Pieces.decrypt_pieces.Goals as goal

pub returns : goal.returns
returns c =
    let words : List ℕ = c.self.inside.schedule in
    let last : ℕ = length c.self.inside.sliced - 1 in
    let rounds : last ≡ 14 = omega arith in
    record {
      size = key_length 8 words c.args.self.now (omega arith) c.self.view_is;
      deciphers = each_block-same (decipher_by last (schedule_bytes words)) (decipher 8 c.args.self.now) c.args.text.now c.decrypt_pieces.new.raw
          (decipher-by 8 last (schedule_bytes words) c.args.self.now rounds
          (c.self.invariant.schedule_is ∙ ap (λ (key : List ℕ). key_expansion 8 key) c.self.view_is))
          (c.decrypt_pieces.ensures.deciphers (schedule_bytes words) c.self.invariant.sliced_is);
    }
