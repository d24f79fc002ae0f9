use Rattle.std.proofs.Common.{List, ℕ, ◌≡◌, ◌+◌, ◌-◌, length, ap, ap₂, sym, ◌∙◌, arith}
use Rattle.bc_aes.specs.State.{add_round_key}
use Rattle.bc_aes.specs.Cipher.{after_round, encipher_by}
use Rattle.bc_aes.specs.KeyExpansion.{round_key}
use Rattle.bc_aes.specs.SlicedRounds.{raised_round, raised_last_round}
use Rattle.bc_aes.proofs.FoldLemmas.{key-later, round-under, last_round-under}
use Rattle.bc_aes.specs.Slices.{slices_of, sliced_block}
use Rattle.bc_aes.proofs.RoundLemmas.{after_round-none, after_round-more}
use Rattle.bc_aes.proofs.eight.enciphered.Goals as goal

pub loop-before-init : goal.loop-before-init
loop-before-init c = λ schedule keys. record {
  each = λ k h.
      let block : List ℕ = sliced_block (slices_of c.args.q) k in
      c.add-state.ensures.adds.each k h ∙ ap (add_round_key block) (keys.each 0 k _ (omega arith) h) ∙ sym (after_round-none schedule block);
}

pub loop-before-preserved : goal.loop-before-preserved
loop-before-preserved c = λ schedule keys. record {
  each = λ k h.
      c.round-next.ensures.goes_on.each k h
      ∙ ap₂ (λ (s key : List ℕ). raised_round s key) ((c.loop-before.invariant schedule keys).each k h)
      (keys.each (c.loop-before.before + 1) k _ (omega arith) h ∙ key-later (c.loop-before.before + 1) (round_key schedule (c.loop-before.before + 1)) (omega arith))
      ∙ round-under (after_round schedule (sliced_block (slices_of c.args.q) k) c.loop-before.before) (round_key schedule (c.loop-before.before + 1))
      ∙ sym (after_round-more schedule (sliced_block (slices_of c.args.q) k) c.loop-before.before);
}

pub returns : goal.returns
unfolding encipher_by
returns c =
    let last : ℕ = length c.args.keys.now - 1 in
    let before : c.loop-before.before ≡ last - 1 = omega arith in
    record {
      enciphers = λ schedule keys. record {
        each = λ k h.
            c.last_round.ensures.ends.each k h
            ∙ ap₂ (λ (s key : List ℕ). raised_last_round s key)
            ((c.loop-before.invariant schedule keys).each k h ∙ ap (λ (n : ℕ). after_round schedule (sliced_block (slices_of c.args.q) k) n) before)
            (keys.each last k _ (omega arith) h ∙ key-later last (round_key schedule last) (omega arith))
            ∙ last_round-under (after_round schedule (sliced_block (slices_of c.args.q) k) (last - 1)) (round_key schedule last);
      };
    }
