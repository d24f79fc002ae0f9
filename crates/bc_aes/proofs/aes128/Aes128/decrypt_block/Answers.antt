use Rattle.std.proofs.Common.{◌≡◌, List, ℕ, ◌-◌, ◌/◌, length, ap, ◌∙◌, arith}
use Rattle.bc_aes.specs.KeyExpansion.{key_expansion}
use Rattle.bc_aes.specs.Columns.{schedule_bytes}
use Rattle.bc_aes.proofs.ScheduleLemmas.{key_length, decipher-by}
use Rattle.bc_aes.proofs.aes128.Aes128.decrypt_block.Goals as goal

pub returns : goal.returns
returns c =
    let words : List ℕ = c.self.inside.schedule in
    let rounds : length words / 4 - 1 ≡ 10 = omega arith in
    record {
      size = key_length 4 words c.args.self.now (omega arith) c.self.view_is;
      deciphers = c.decrypt.ensures.deciphers
          ∙ decipher-by 4 (length words / 4 - 1) (schedule_bytes words) c.args.self.now rounds
          (c.self.invariant.schedule_is ∙ ap (λ (key : List ℕ). key_expansion 4 key) c.self.view_is) c.args.block.now;
    }
