use Rattle.std.proofs.Common.{sym, subst, ◌∙◌, ◌+◌, ℕ, List, [], ap, refl, true, false, Some, arith}
use Rattle.bc_script.specs.Script.{IsScriptOp}
use Rattle.bc_script.specs.declared.op.Op.{Op}
use Rattle.bc_script.specs.declared.op.Op.TheVariants as ops
use Rattle.bc_report.specs.declared.answer.Answer.TheVariants as report_answers
use Rattle.bc_script.specs.Windows as turns
use Rattle.bc_section.specs.Uses.{op_bios}
use Rattle.bc_section.specs.SectionProgress.{Reached, numbered, left_of, answers_by, steps_from}
use Rattle.bc_section.proofs.Left.{left_before, ends_before, ends_evict, ends_reset, ends_plug, ends_unplug, next_plug, next_unplug}
use Rattle.bc_section.proofs.Reaching.{reached_quiet, reached_evict, reached_reset}
use Rattle.bc_section.proofs.Stepping.{within, at_place, rules_at}
use Rattle.bc_section.proofs.Told.{length_told, reached_told, left_next}
use Rattle.bc_section.proofs.device.step.Goals as goal

pub returns-in_ok-answer-in-Evict-clause-reached : goal.returns-in_ok-answer-in-Evict-clause-reached
returns-in_ok-answer-in-Evict-clause-reached g c =
    let d = g.D.Device.facts in
    let told = g.D.Device.answer in
    let start = d c.args.start.now.value in
    let at = c.requires.operation ∙ ap (λ (o : Op). Some o) c.in-Evict.is in
    let f = c.flush in
    let e = c.in_ok-flush-in-Evict.ensures in
    let new = c.evict.new.self in
    subst (λ (l : List ℕ). Reached start (d new) c.args.section.now (c.args.op + 1) c.args.plugged l (answers_by told c.note.new.answers)) (sym e.empty)
    (reached_told told start (d new) (d new) c.args.section.now (c.args.op + 1) c.args.plugged [] f.new.answers c.note.new.answers c.args.op c.in_ok-answer-in-Evict.answer (told c.in_ok-answer-in-Evict.answer) refl refl c.note.ensures
    (reached_evict c.order_laws.ensures.known_stays c.hold_laws.ensures.stays c.hold_laws.ensures.later c.hold_laws.ensures.behind start c.args.section.now
    (d f.new.device) (d new) c.args.op c.args.plugged (answers_by told f.new.answers) e.reached c.in-Evict.key (told c.in_ok-answer-in-Evict.answer) at (within c.args.section.now c.args.op (ops.Evict c.in-Evict.key) at) c.in_ok-answer-in-Evict.ensures.range c.in_ok-answer-in-Evict.ensures.done))

pub returns-in_ok-answer-in-Evict-clause-afforded : goal.returns-in_ok-answer-in-Evict-clause-afforded
returns-in_ok-answer-in-Evict-clause-afforded g c =
    let affords = g.D.Device.affords in
    let at = c.requires.operation ∙ ap (λ (o : Op). Some o) c.in-Evict.is in
    let f = c.flush in
    let e = c.in_ok-flush-in-Evict.ensures in
    subst (λ (l : List ℕ). affords c.evict.new.self (left_of c.args.section.now (c.args.op + 1) l)) (sym e.empty)
    (c.in_ok-answer-in-Evict.ensures.room (left_of c.args.section.now (c.args.op + 1) [])
    (subst (affords f.new.device) (left_next c.args.section.now c.args.op (ops.Evict c.in-Evict.key) at []) e.afforded))

pub flush-requires-clause-ends : goal.flush-requires-clause-ends
flush-requires-clause-ends g c =
    let start = g.D.Device.facts c.args.start.now.value in
    let at = c.requires.operation ∙ ap (λ (o : Op). Some o) c.in-Evict.is in
    let bios = op_bios (numbered c.args.section.now c.args.pending.now) in
    ends_before start c.args.section.now c.args.op (ops.Evict c.in-Evict.key) at (turns.Evicts c.in-Evict.key) c.args.plugged bios refl
    (ends_evict start.script start.thread c.args.plugged bios c.in-Evict.key (steps_from start.script c.args.section.now (c.args.op + 1)))

pub note-requires : goal.note-requires
note-requires g c =
    let at = within c.args.section.now c.args.op c.args.operation.now c.requires.operation in
    let long = c.in_ok-flush-in-Evict.ensures.reached.long in
    record { within = omega (arith, length_told g.D.Device.answer c.flush.new.answers) }

pub evict-requires : goal.evict-requires
evict-requires g c =
    let d = g.D.Device.facts in
    let start = d c.args.start.now.value in
    let at = c.requires.operation ∙ ap (λ (o : Op). Some o) c.in-Evict.is in
    let f = c.flush in
    let e = c.in_ok-flush-in-Evict.ensures in
    record {
      rules = rules_at start (d f.new.device) (ops.Evict c.in-Evict.key) e.reached.same
          (at_place (IsScriptOp start.script) c.args.section.now c.args.op (ops.Evict c.in-Evict.key) c.requires.rules at);
      afforded = (left_of c.args.section.now (c.args.op + 1) [], subst (g.D.Device.affords f.new.device) (left_next c.args.section.now c.args.op (ops.Evict c.in-Evict.key) at []) e.afforded);
    }

pub returns-in_ok-answer-in-Reset-clause-reached : goal.returns-in_ok-answer-in-Reset-clause-reached
returns-in_ok-answer-in-Reset-clause-reached g c =
    let d = g.D.Device.facts in
    let told = g.D.Device.answer in
    let start = d c.args.start.now.value in
    let at = c.requires.operation ∙ ap (λ (o : Op). Some o) c.in-Reset.is in
    let f = c.flush-in-Reset in
    let e = c.in_ok-flush-in-Reset.ensures in
    let new = c.reset.new.self in
    subst (λ (l : List ℕ). Reached start (d new) c.args.section.now (c.args.op + 1) c.args.plugged l (answers_by told c.note-in-Reset.new.answers)) (sym e.empty)
    (reached_told told start (d new) (d new) c.args.section.now (c.args.op + 1) c.args.plugged [] f.new.answers c.note-in-Reset.new.answers c.args.op c.in_ok-answer-in-Reset.answer report_answers.Reset refl c.in_ok-answer-in-Reset.ensures.answer c.note-in-Reset.ensures
    (reached_reset c.order_laws.ensures.known_stays c.hold_laws.ensures.stays c.hold_laws.ensures.later c.hold_laws.ensures.behind start c.args.section.now
    (d f.new.device) (d new) c.args.op c.args.plugged (answers_by told f.new.answers) e.reached c.in-Reset.number at (within c.args.section.now c.args.op (ops.Reset c.in-Reset.number) at) c.in_ok-answer-in-Reset.ensures.done))

pub returns-in_ok-answer-in-Reset-clause-afforded : goal.returns-in_ok-answer-in-Reset-clause-afforded
returns-in_ok-answer-in-Reset-clause-afforded g c =
    let affords = g.D.Device.affords in
    let at = c.requires.operation ∙ ap (λ (o : Op). Some o) c.in-Reset.is in
    let f = c.flush-in-Reset in
    let e = c.in_ok-flush-in-Reset.ensures in
    subst (λ (l : List ℕ). affords c.reset.new.self (left_of c.args.section.now (c.args.op + 1) l)) (sym e.empty)
    (c.in_ok-answer-in-Reset.ensures.room (left_of c.args.section.now (c.args.op + 1) [])
    (subst (affords f.new.device) (left_next c.args.section.now c.args.op (ops.Reset c.in-Reset.number) at []) e.afforded))

pub flush-requires-in-Reset-clause-ends : goal.flush-requires-in-Reset-clause-ends
flush-requires-in-Reset-clause-ends g c =
    let start = g.D.Device.facts c.args.start.now.value in
    let at = c.requires.operation ∙ ap (λ (o : Op). Some o) c.in-Reset.is in
    let bios = op_bios (numbered c.args.section.now c.args.pending.now) in
    ends_before start c.args.section.now c.args.op (ops.Reset c.in-Reset.number) at (turns.Resets c.in-Reset.number) c.args.plugged bios refl
    (ends_reset start.script start.thread c.args.plugged bios c.in-Reset.number (steps_from start.script c.args.section.now (c.args.op + 1)))

pub note-requires-in-Reset : goal.note-requires-in-Reset
note-requires-in-Reset g c =
    let at = within c.args.section.now c.args.op c.args.operation.now c.requires.operation in
    let long = c.in_ok-flush-in-Reset.ensures.reached.long in
    record { within = omega (arith, length_told g.D.Device.answer c.flush-in-Reset.new.answers) }

pub reset-requires : goal.reset-requires
reset-requires g c =
    let d = g.D.Device.facts in
    let start = d c.args.start.now.value in
    let at = c.requires.operation ∙ ap (λ (o : Op). Some o) c.in-Reset.is in
    let f = c.flush-in-Reset in
    let e = c.in_ok-flush-in-Reset.ensures in
    record {
      rules = rules_at start (d f.new.device) (ops.Reset c.in-Reset.number) e.reached.same
          (at_place (IsScriptOp start.script) c.args.section.now c.args.op (ops.Reset c.in-Reset.number) c.requires.rules at);
      afforded = (left_of c.args.section.now (c.args.op + 1) [], subst (g.D.Device.affords f.new.device) (left_next c.args.section.now c.args.op (ops.Reset c.in-Reset.number) at []) e.afforded);
    }

pub returns-in_ok-flush-in-Plug-clause-reached : goal.returns-in_ok-flush-in-Plug-clause-reached
returns-in_ok-flush-in-Plug-clause-reached g c =
    let d = g.D.Device.facts in
    let told = g.D.Device.answer in
    let start = d c.args.start.now.value in
    let at = c.requires.operation ∙ ap (λ (o : Op). Some o) c.in-Plug.is in
    let f = c.flush-in-Plug in
    let e = c.in_ok-flush-in-Plug.ensures in
    let new = c.plug-answer.new.self in
    subst (λ (l : List ℕ). Reached start (d new) c.args.section.now (c.args.op + 1) true l (answers_by told c.note-in-Plug.new.answers)) (sym e.empty)
    (reached_told told start (d f.new.device) (d new) c.args.section.now (c.args.op + 1) true [] f.new.answers c.note-in-Plug.new.answers c.args.op c.plug-answer.result report_answers.Plug c.plug-answer.ensures.same c.plug-answer.ensures.answer c.note-in-Plug.ensures
    (reached_quiet c.order_laws.ensures.known_stays c.hold_laws.ensures.stays c.hold_laws.ensures.later c.hold_laws.ensures.behind start c.args.section.now
    (d f.new.device) c.args.op c.args.plugged [] (answers_by told f.new.answers) e.reached ops.Plug report_answers.Plug true at (within c.args.section.now c.args.op ops.Plug at) refl refl tt
    (λ device. left_before start c.args.section.now c.args.op ops.Plug at turns.Plugs device c.args.plugged [] refl ∙ next_plug start.script start.thread device c.args.plugged (steps_from start.script c.args.section.now (c.args.op + 1)))))

pub returns-in_ok-flush-in-Plug-clause-afforded : goal.returns-in_ok-flush-in-Plug-clause-afforded
returns-in_ok-flush-in-Plug-clause-afforded g c =
    let affords = g.D.Device.affords in
    let at = c.requires.operation ∙ ap (λ (o : Op). Some o) c.in-Plug.is in
    let f = c.flush-in-Plug in
    let e = c.in_ok-flush-in-Plug.ensures in
    subst (λ (l : List ℕ). affords c.plug-answer.new.self (left_of c.args.section.now (c.args.op + 1) l)) (sym e.empty)
    (c.plug-answer.ensures.room (left_of c.args.section.now (c.args.op + 1) [])
    (subst (affords f.new.device) (left_next c.args.section.now c.args.op ops.Plug at []) e.afforded))

pub flush-requires-in-Plug-clause-ends : goal.flush-requires-in-Plug-clause-ends
flush-requires-in-Plug-clause-ends g c =
    let start = g.D.Device.facts c.args.start.now.value in
    let at = c.requires.operation ∙ ap (λ (o : Op). Some o) c.in-Plug.is in
    let bios = op_bios (numbered c.args.section.now c.args.pending.now) in
    ends_before start c.args.section.now c.args.op ops.Plug at turns.Plugs c.args.plugged bios refl
    (ends_plug start.script start.thread c.args.plugged bios (steps_from start.script c.args.section.now (c.args.op + 1)))

pub note-requires-in-Plug : goal.note-requires-in-Plug
note-requires-in-Plug g c =
    let at = within c.args.section.now c.args.op c.args.operation.now c.requires.operation in
    let long = c.in_ok-flush-in-Plug.ensures.reached.long in
    record { within = omega (arith, length_told g.D.Device.answer c.flush-in-Plug.new.answers) }

pub plug-answer-requires : goal.plug-answer-requires
plug-answer-requires g c =
    let d = g.D.Device.facts in
    let start = d c.args.start.now.value in
    let at = c.requires.operation ∙ ap (λ (o : Op). Some o) c.in-Plug.is in
    let f = c.flush-in-Plug in
    let e = c.in_ok-flush-in-Plug.ensures in
    record {
      afforded = (left_of c.args.section.now (c.args.op + 1) [], subst (g.D.Device.affords f.new.device) (left_next c.args.section.now c.args.op ops.Plug at []) e.afforded);
    }

pub returns-in_ok-flush-in-Unplug-clause-reached : goal.returns-in_ok-flush-in-Unplug-clause-reached
returns-in_ok-flush-in-Unplug-clause-reached g c =
    let d = g.D.Device.facts in
    let told = g.D.Device.answer in
    let start = d c.args.start.now.value in
    let at = c.requires.operation ∙ ap (λ (o : Op). Some o) c.in-Unplug.is in
    let f = c.flush-in-Unplug in
    let e = c.in_ok-flush-in-Unplug.ensures in
    let new = c.unplug-answer.new.self in
    subst (λ (l : List ℕ). Reached start (d new) c.args.section.now (c.args.op + 1) false l (answers_by told c.note-in-Unplug.new.answers)) (sym e.empty)
    (reached_told told start (d f.new.device) (d new) c.args.section.now (c.args.op + 1) false [] f.new.answers c.note-in-Unplug.new.answers c.args.op c.unplug-answer.result report_answers.Unplug c.unplug-answer.ensures.same c.unplug-answer.ensures.answer c.note-in-Unplug.ensures
    (reached_quiet c.order_laws.ensures.known_stays c.hold_laws.ensures.stays c.hold_laws.ensures.later c.hold_laws.ensures.behind start c.args.section.now
    (d f.new.device) c.args.op c.args.plugged [] (answers_by told f.new.answers) e.reached ops.Unplug report_answers.Unplug false at (within c.args.section.now c.args.op ops.Unplug at) refl refl tt
    (λ device. left_before start c.args.section.now c.args.op ops.Unplug at turns.Unplugs device c.args.plugged [] refl ∙ next_unplug start.script start.thread device c.args.plugged (steps_from start.script c.args.section.now (c.args.op + 1)))))

pub returns-in_ok-flush-in-Unplug-clause-afforded : goal.returns-in_ok-flush-in-Unplug-clause-afforded
returns-in_ok-flush-in-Unplug-clause-afforded g c =
    let affords = g.D.Device.affords in
    let at = c.requires.operation ∙ ap (λ (o : Op). Some o) c.in-Unplug.is in
    let f = c.flush-in-Unplug in
    let e = c.in_ok-flush-in-Unplug.ensures in
    subst (λ (l : List ℕ). affords c.unplug-answer.new.self (left_of c.args.section.now (c.args.op + 1) l)) (sym e.empty)
    (c.unplug-answer.ensures.room (left_of c.args.section.now (c.args.op + 1) [])
    (subst (affords f.new.device) (left_next c.args.section.now c.args.op ops.Unplug at []) e.afforded))

pub flush-requires-in-Unplug-clause-ends : goal.flush-requires-in-Unplug-clause-ends
flush-requires-in-Unplug-clause-ends g c =
    let start = g.D.Device.facts c.args.start.now.value in
    let at = c.requires.operation ∙ ap (λ (o : Op). Some o) c.in-Unplug.is in
    let bios = op_bios (numbered c.args.section.now c.args.pending.now) in
    ends_before start c.args.section.now c.args.op ops.Unplug at turns.Unplugs c.args.plugged bios refl
    (ends_unplug start.script start.thread c.args.plugged bios (steps_from start.script c.args.section.now (c.args.op + 1)))

pub note-requires-in-Unplug : goal.note-requires-in-Unplug
note-requires-in-Unplug g c =
    let at = within c.args.section.now c.args.op c.args.operation.now c.requires.operation in
    let long = c.in_ok-flush-in-Unplug.ensures.reached.long in
    record { within = omega (arith, length_told g.D.Device.answer c.flush-in-Unplug.new.answers) }

pub unplug-answer-requires : goal.unplug-answer-requires
unplug-answer-requires g c =
    let d = g.D.Device.facts in
    let start = d c.args.start.now.value in
    let at = c.requires.operation ∙ ap (λ (o : Op). Some o) c.in-Unplug.is in
    let f = c.flush-in-Unplug in
    let e = c.in_ok-flush-in-Unplug.ensures in
    record {
      afforded = (left_of c.args.section.now (c.args.op + 1) [], subst (g.D.Device.affords f.new.device) (left_next c.args.section.now c.args.op ops.Unplug at []) e.afforded);
    }
