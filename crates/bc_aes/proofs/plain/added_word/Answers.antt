use Rattle.std.proofs.Common.{List, ℕ, ap, ap₂, sym, ◌∙◌}
use Rattle.bc_aes.specs.KeyExpansion.{xor_word, sub_word}
use Rattle.bc_aes.proofs.ScheduleLemmas.{added_word-first, added_word-middle, added_word-not_eight, added_word-not_middle}
use Rattle.bc_aes.proofs.plain.added_word.Goals as goal
use Rattle.bc_aes.proofs.plain.added_word.Goals.{else-nk-eq8-via-then-nk-eq8+else-i-eq4, else-nk-eq8-via-else-nk-eq8}

pub returns-then-i-nk-eq0 : goal.returns-then-i-nk-eq0
returns-then-i-nk-eq0 c = record {
  adds = c.added_column.ensures.adds
      ∙ ap₂ (λ (v w : List ℕ). xor_word v w)
      (c.sub_word.ensures.substitutes ∙ ap (λ (w : List ℕ). sub_word w) c.rot_word.ensures.moves) c.rcon.ensures.holds
      ∙ sym (added_word-first c.args.nk c.args.i c.args.word.now c.if-i-nk-eq0.true);
}

pub returns-then-i-eq4 : goal.returns-then-i-eq4
returns-then-i-eq4 c = record {
  adds = c.sub_word-then-i-eq4.ensures.substitutes
      ∙ sym (added_word-middle c.args.nk c.args.i c.args.word.now c.if-i-nk-eq0.false c.if-nk-eq8.true c.if-i-eq4.true);
}

pub returns-else-nk-eq8 : goal.returns-else-nk-eq8
returns-else-nk-eq8 c =
    elim c.else-nk-eq8.branch [
      | else-nk-eq8-via-then-nk-eq8+else-i-eq4 w ↦ record { adds = sym (added_word-not_middle c.args.nk c.args.i c.args.word.now c.if-i-nk-eq0.false w.if-i-eq4.false) }
      | else-nk-eq8-via-else-nk-eq8 w ↦ record { adds = sym (added_word-not_eight c.args.nk c.args.i c.args.word.now c.if-i-nk-eq0.false w.if-nk-eq8.false) }
    ]
