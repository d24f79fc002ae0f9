use Rattle.std.proofs.Common.{◌≡◌, List, ℕ, ◌-◌, ◌/◌, length, ap, ap₂, sym, ◌∙◌, arith}
use Rattle.bc_aes.specs.State.{add_round_key}
use Rattle.bc_aes.specs.Cipher.{inv_round, inv_last_round, after_inv_round, decipher_by}
use Rattle.bc_aes.proofs.RoundLemmas.{after_inv_round-none}
use Rattle.bc_aes.proofs.PlainLemmas.{after_inv_round-plain}
use Rattle.bc_aes.proofs.plain.deciphered.Goals as goal

pub loop-before-init : goal.loop-before-init
loop-before-init c =
    c.add_round_key-state.ensures.adds ∙ ap (λ (k : List ℕ). add_round_key c.args.block.now k) c.key_of_round-last_key.ensures.holds
    ∙ sym (after_inv_round-none (length c.args.schedule.now / 16 - 1) c.args.schedule.now c.args.block.now)

pub loop-before-preserved : goal.loop-before-preserved
loop-before-preserved c =
    c.inv_round-next.ensures.goes_on ∙ ap₂ (λ (s k : List ℕ). inv_round s k) c.loop-before.invariant c.key_of_round-key.ensures.holds
    ∙ sym (after_inv_round-plain (length c.args.schedule.now / 16 - 1) c.args.schedule.now c.args.block.now c.loop-before.before)

pub returns : goal.returns
unfolding decipher_by
returns c =
    let words : List ℕ = c.args.schedule.now in
    let before : c.loop-before.before ≡ length words / 16 - 1 - 1 = omega arith in
    record {
      deciphers = c.inv_last_round.ensures.ends
          ∙ ap₂ (λ (s k : List ℕ). inv_last_round s k)
          (c.loop-before.invariant ∙ ap (λ (n : ℕ). after_inv_round (length words / 16 - 1) words c.args.block.now n) before)
          c.key_of_round-first_key.ensures.holds;
    }
