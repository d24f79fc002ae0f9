use Rattle.std.proofs.Common.{List, ℕ, ◌≡◌, ◌+◌, ◌-◌, length, ap, sym, ◌∙◌, arith}
use Rattle.bc_aes.specs.State.{add_round_key}
use Rattle.bc_aes.specs.KeyExpansion.{round_key}
use Rattle.bc_aes.specs.Cipher.{inv_round, inv_last_round, after_inv_round, decipher_by}
use Rattle.bc_aes.specs.Slices.{slices_of, sliced_block}
use Rattle.bc_aes.specs.SlicedRounds.{raised, raised_inv_round, raised_inv_last_round}
use Rattle.bc_aes.proofs.RoundLemmas.{after_inv_round-none}
use Rattle.bc_aes.proofs.PlainLemmas.{after_inv_round-plain}
use Rattle.bc_aes.proofs.FoldLemmas.{key-later, add-key_raised, add-key_twice, inv_round-under, inv_last_round-under}
use Rattle.bc_aes.proofs.eight.deciphered.Goals as goal

pub loop-before-init : goal.loop-before-init
loop-before-init c = λ schedule keys k h.
    let block : List ℕ = sliced_block (slices_of c.args.q) k in
    let last : ℕ = length c.args.keys.now - 1 in
    let key : List ℕ = round_key schedule last in
    ap raised (c.add-state.ensures.adds.each k h ∙ ap (add_round_key block) (keys.each last k _ (omega arith) h ∙ key-later last key (omega arith)))
    ∙ sym (add-key_raised block (raised key)) ∙ add-key_twice block key ∙ sym (after_inv_round-none last schedule block)

pub loop-before-preserved : goal.loop-before-preserved
loop-before-preserved c = λ schedule keys k h.
    let last : ℕ = length c.args.keys.now - 1 in
    let at : ℕ = last - (c.loop-before.before + 1) in
    let key : List ℕ = round_key schedule at in
    let state : List ℕ = sliced_block (slices_of c.loop-before.state) k in
    ap raised (c.inv_round-next.ensures.goes_on.each k h ∙ ap (raised_inv_round state) (keys.each at k _ (omega arith) h ∙ key-later at key (omega arith)))
    ∙ inv_round-under state key ∙ ap (λ (s : List ℕ). inv_round s key) (c.loop-before.invariant schedule keys k h)
    ∙ sym (after_inv_round-plain last schedule (sliced_block (slices_of c.args.q) k) c.loop-before.before)

pub returns : goal.returns
unfolding decipher_by
returns c =
    let last : ℕ = length c.args.keys.now - 1 in
    let before : c.loop-before.before ≡ last - 1 = omega arith in
    record {
      deciphers = λ schedule keys. record {
        each = λ k h.
            let block : List ℕ = sliced_block (slices_of c.args.q) k in
            let state : List ℕ = sliced_block (slices_of c.loop-before.state) k in
            c.inv_last_round.ensures.ends.each k h
            ∙ ap (raised_inv_last_round state) (keys.each 0 k _ (omega arith) h)
            ∙ inv_last_round-under state (round_key schedule 0)
            ∙ ap (λ (s : List ℕ). inv_last_round s (round_key schedule 0))
            (c.loop-before.invariant schedule keys k h ∙ ap (λ (n : ℕ). after_inv_round last schedule block n) before);
      };
    }
