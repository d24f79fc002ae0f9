use Rattle.std.proofs.Common.{◌≡◌, List, ℕ, ◌-◌, ◌/◌, length, ap, ap₂, ◌∙◌, arith}
use Rattle.bc_aes.specs.Cipher.{inv_last_round, after_inv_round, decipher_by}
use Rattle.bc_aes.specs.Columns.{schedule_bytes}
use Rattle.bc_aes.proofs.rounds.decrypt.Goals as goal

pub returns : goal.returns
unfolding decipher_by
returns c =
    let words : List ℕ = c.args.schedule.now in
    let before : length words / 4 - 2 ≡ length words / 4 - 1 - 1 = omega arith in
    record {
      deciphers = c.store.ensures.holds ∙ c.inv_last_round.ensures.ends
          ∙ ap₂ (λ (s k : List ℕ). inv_last_round s k)
          (c.unmixing_rounds-state.ensures.goes_on ∙ ap (λ (n : ℕ). after_inv_round (length words / 4 - 1) (schedule_bytes words) c.args.block.now n) before)
          c.key_of_round.ensures.holds;
    }
