use Rattle.std.proofs.Common.{sym, ap, subst, ◌∙◌, ◌≡◌, ℕ, List, [], ◌∷◌, refl, arith, length, drop, false}
use Rattle.std.specs.List.{enumerate_from}
use Rattle.std.proofs.lemmas.Option.{slice_get_read}
use Rattle.bc_script.specs.declared.op.Op.{Op}
use Rattle.bc_section.specs.Sections.{DeviceData}
use Rattle.bc_section.specs.Uses.{op_bios}
use Rattle.bc_section.specs.SectionProgress.{Reached, WindowEnds, numbered, left_of, answers_by}
use Rattle.bc_section.proofs.Left.{steps_last, ends_last}
use Rattle.bc_section.proofs.Reaching.{reached_none, reached_all}
use Rattle.bc_section.proofs.Told.{length_told, carries_told}
use Rattle.bc_section.proofs.device.carry_out.Goals as goal

pub loop-op-init : goal.loop-op-init
loop-op-init g c =
    let d = g.D.Device.facts in
    let f = g.D.Device.answer in
    let device = c.args.device.now in
    let section = c.args.section.now in
    let told = answers_by f c.args.answers.now in
    record {
      reached =
          subst (λ (l : List ℕ). Reached (d c.of-start.result.value) (d device) section 0 false l told) (sym c.new-pending.ensures)
          (subst (λ s. Reached (d s) (d device) section 0 false [] told) (sym c.of-start.ensures)
          (reached_none c.order_laws.ensures.known_stays c.hold_laws.ensures.stays c.hold_laws.ensures.later c.hold_laws.ensures.behind (d device) section told c.requires.no_events (length_told f c.args.answers.now ∙ c.requires.long)));
      afforded = subst (λ (l : List ℕ). g.D.Device.affords device (left_of section 0 l)) (sym c.new-pending.ensures) c.requires.afforded;
      held = λ _. c.new-pending.ensures;
      lent = ap g.D.Device.lent (sym c.of-start.ensures);
    }

pub step-requires-clause-operation : goal.step-requires-clause-operation
step-requires-clause-operation g c =
    slice_get_read c.args.section.now (length c.args.section.now) c.loop-op.op c.index-section-op.result refl (omega (arith, c.loop-op-test.true)) c.index-section-op.is

pub returns-clause-done : goal.returns-clause-done
returns-clause-done g c =
    let d = g.D.Device.facts in
    let f = g.D.Device.answer in
    let start : DeviceData = d c.args.device.now in
    let new : DeviceData = d c.flush.new.device in
    let section = c.args.section.now in
    let told = answers_by f c.flush.new.answers in
    let moved = subst (λ s. Reached (d s) new section (length section) c.loop-op.plugged [] told) c.of-start.ensures c.in_ok-flush.ensures.reached in
    carries_told f start new section c.flush.new.answers
    (reached_all c.order_laws.ensures.known_stays c.hold_laws.ensures.stays c.hold_laws.ensures.later c.hold_laws.ensures.behind start section new c.loop-op.plugged told c.requires.new moved)

pub flush-requires-clause-ends : goal.flush-requires-clause-ends
flush-requires-clause-ends g c =
    let start = g.D.Device.facts c.of-start.result.value in
    let bios = op_bios (numbered c.args.section.now c.loop-op.pending) in
    subst (WindowEnds start.script start.thread c.loop-op.plugged bios) (sym (steps_last start.script c.args.section.now))
    (ends_last start.script start.thread c.loop-op.plugged bios)

pub returns-clause-afforded : goal.returns-clause-afforded
returns-clause-afforded g c =
    let section = c.args.section.now in
    subst (λ (l : List (ℕ × Op)). g.D.Device.affords c.flush.new.device l) (none_left section) c.in_ok-flush.ensures.afforded
  where
    dropped : (ops : List Op) → drop (length ops) ops ≡ []
    dropped [] = refl
    dropped (x ∷ ops) = dropped ops

    none_left : (ops : List Op) → left_of ops (length ops) [] ≡ []
    none_left ops = ap (λ (l : List Op). enumerate_from (length ops) l) (dropped ops)
