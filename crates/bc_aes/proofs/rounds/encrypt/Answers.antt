use Rattle.std.proofs.Common.{◌≡◌, List, ℕ, ◌-◌, ◌/◌, length, ap, ap₂, ◌∙◌, arith}
use Rattle.bc_aes.specs.Cipher.{last_round, after_round, encipher_by}
use Rattle.bc_aes.specs.Columns.{schedule_bytes}
use Rattle.bc_aes.proofs.rounds.encrypt.Goals as goal

pub returns : goal.returns
unfolding encipher_by
returns c =
    let words : List ℕ = c.args.schedule.now in
    let before : length words / 4 - 2 ≡ length words / 4 - 1 - 1 = omega arith in
    record {
      enciphers = c.store.ensures.holds ∙ c.last_round.ensures.ends
          ∙ ap₂ (λ (s k : List ℕ). last_round s k)
          (c.mixing_rounds-state.ensures.goes_on ∙ ap (λ (n : ℕ). after_round (schedule_bytes words) c.args.block.now n) before)
          c.key_of_round.ensures.holds;
    }
