use Rattle.std.proofs.Common.{◌≡◌, List, ℕ, ◌-◌, ◌/◌, length, ap, ap₂, sym, ◌∙◌, arith}
use Rattle.bc_aes.specs.State.{add_round_key}
use Rattle.bc_aes.specs.Cipher.{round, last_round, after_round, encipher_by}
use Rattle.bc_aes.proofs.RoundLemmas.{after_round-none, after_round-more}
use Rattle.bc_aes.proofs.plain.enciphered.Goals as goal

pub loop-before-init : goal.loop-before-init
loop-before-init c =
    c.add_round_key-state.ensures.adds ∙ ap (λ (k : List ℕ). add_round_key c.args.block.now k) c.key_of_round-first_key.ensures.holds
    ∙ sym (after_round-none c.args.schedule.now c.args.block.now)

pub loop-before-preserved : goal.loop-before-preserved
loop-before-preserved c =
    c.round-next.ensures.goes_on ∙ ap₂ (λ (s k : List ℕ). round s k) c.loop-before.invariant c.key_of_round-key.ensures.holds
    ∙ sym (after_round-more c.args.schedule.now c.args.block.now c.loop-before.before)

pub returns : goal.returns
unfolding encipher_by
returns c =
    let words : List ℕ = c.args.schedule.now in
    let before : c.loop-before.before ≡ length words / 16 - 1 - 1 = omega arith in
    record {
      enciphers = c.last_round.ensures.ends
          ∙ ap₂ (λ (s k : List ℕ). last_round s k)
          (c.loop-before.invariant ∙ ap (λ (n : ℕ). after_round words c.args.block.now n) before)
          c.key_of_round-last_key.ensures.holds;
    }
