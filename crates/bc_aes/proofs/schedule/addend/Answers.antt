use Rattle.std.proofs.Common.{List, ℕ, ap₂, sym, ◌∙◌}
use Rattle.bc_aes.specs.KeyExpansion.{xor_word}
use Rattle.bc_aes.specs.Columns.{column}
use Rattle.bc_aes.proofs.WordLemmas.{column-xor}
use Rattle.bc_aes.proofs.ScheduleLemmas.{added_word-first, added_word-middle, added_word-not_eight, added_word-not_middle}
use Rattle.bc_aes.proofs.schedule.addend.Goals as goal
use Rattle.bc_aes.proofs.schedule.addend.Goals.{else-nk-eq8-via-then-nk-eq8+else-i-eq4, else-nk-eq8-via-else-nk-eq8}

pub returns-then-i-nk-eq0 : goal.returns-then-i-nk-eq0
returns-then-i-nk-eq0 c = record {
  adds = column-xor c.substituted_turned.result c.constant.result
      ∙ ap₂ (λ (v w : List ℕ). xor_word v w) c.substituted_turned.ensures.substitutes c.constant.ensures.holds
      ∙ sym (added_word-first c.args.nk c.args.i (column c.args.word) c.if-i-nk-eq0.true);
}

pub returns-then-i-eq4 : goal.returns-then-i-eq4
returns-then-i-eq4 c = record {
  adds = c.substituted_word.ensures.substitutes
      ∙ sym (added_word-middle c.args.nk c.args.i (column c.args.word) c.if-i-nk-eq0.false c.if-nk-eq8.true c.if-i-eq4.true);
}

pub returns-else-nk-eq8 : goal.returns-else-nk-eq8
returns-else-nk-eq8 c =
    elim c.else-nk-eq8.branch [
      | else-nk-eq8-via-then-nk-eq8+else-i-eq4 w ↦ record { adds = sym (added_word-not_middle c.args.nk c.args.i (column c.args.word) c.if-i-nk-eq0.false w.if-i-eq4.false) }
      | else-nk-eq8-via-else-nk-eq8 w ↦ record { adds = sym (added_word-not_eight c.args.nk c.args.i (column c.args.word) c.if-i-nk-eq0.false w.if-nk-eq8.false) }
    ]
