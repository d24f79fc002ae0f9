use Rattle.std.proofs.Common.{sym, subst, ◌≡◌, ◌∙◌, ◌+◌, ℕ, List, Option, Some, None, arith}
use Rattle.std.specs.Prelude.{IsSomeAnd}
use Rattle.bc_bio.specs.declared.extent.Extent.{Extent}
use Rattle.bc_script.specs.Bios.{bio_of, refusal_of}
use Rattle.bc_report.specs.declared.answer.Answer.TheVariants as answers
use Rattle.bc_section.specs.SectionProgress.{numbered, left_of, answers_by, Reached}
use Rattle.bc_section.proofs.Reaching.{reached_pend, reached_quiet}
use Rattle.bc_section.proofs.Left.{left_quiet, step_refused}
use Rattle.bc_section.proofs.Stepping.{within, accepted, is_accepted, refused, refused_reply, key_of_bio, refusal_at}
use Rattle.bc_section.proofs.Told.{length_told, reached_told, later, left_next, left_push}
use Rattle.bc_section.proofs.device.bio.Goals as goal

pub refusal-requires : goal.refusal-requires
refusal-requires g c =
    let d = g.D.Device.facts in
    record { key = key_of_bio (d c.args.start.now.value) (d c.args.device.now) c.args.section.now c.args.op c.args.operation.now c.in-Some.bio c.requires.reached.same c.requires.rules c.requires.operation (sym c.bio.ensures ∙ c.in-Some.is); afforded = (left_of c.args.section.now c.args.op c.args.pending.now, c.requires.afforded) }

pub refuse-answer-requires : goal.refuse-answer-requires
refuse-answer-requires g c =
    let d = g.D.Device.facts in
    let is : bio_of c.args.operation.now ≡ Some c.in-Some.bio = sym c.bio.ensures ∙ c.in-Some.is in
    record {
      bio = subst (λ (o : Option Extent). IsSomeAnd o (λ b. refusal_of (d c.args.device.now).script b ≡ Some c.in-Some-refusal.refusal)) (sym is) (sym c.refusal.ensures ∙ c.in-Some-refusal.is);
      afforded = (
        numbered c.args.section.now c.args.pending.now,
        later c.args.section.now c.args.op c.args.operation.now c.requires.operation,
        subst (g.D.Device.affords c.args.device.now) (left_next c.args.section.now c.args.op c.args.operation.now c.requires.operation c.args.pending.now) c.requires.afforded,
      );
    }

pub note-requires : goal.note-requires
note-requires g c =
    let at = within c.args.section.now c.args.op c.args.operation.now c.requires.operation in
    let long = c.requires.reached.long in
    record { within = omega (arith, length_told g.D.Device.answer c.args.answers.now) }

pub overflow_add-op : goal.overflow_add-op
overflow_add-op g c =
    let at = within c.args.section.now c.args.op c.args.operation.now c.requires.operation in
    let few = c.requires.few in
    omega arith

pub returns-in-Some-refusal-clause-reached : goal.returns-in-Some-refusal-clause-reached
returns-in-Some-refusal-clause-reached g c =
    let d = g.D.Device.facts in
    let f = g.D.Device.answer in
    let start = d c.args.start.now.value in
    let old = d c.args.device.now in
    let refusal = c.in-Some-refusal.refusal in
    let is : bio_of c.args.operation.now ≡ Some c.in-Some.bio = sym c.bio.ensures ∙ c.in-Some.is in
    let why : refusal_of start.script c.in-Some.bio ≡ Some refusal = refusal_at start old c.in-Some.bio (Some refusal) c.requires.reached.same (sym c.refusal.ensures ∙ c.in-Some-refusal.is) in
    reached_told f start old (d c.refuse-answer.new.self) c.args.section.now (c.args.op + 1) c.args.plugged c.args.pending.now c.args.answers.now c.note.new.answers c.args.op c.refuse-answer.result (answers.Refused refusal) c.refuse-answer.ensures.same c.refuse-answer.ensures.answer c.note.ensures
    (reached_quiet c.order_laws.ensures.known_stays c.hold_laws.ensures.stays c.hold_laws.ensures.later c.hold_laws.ensures.behind start c.args.section.now old c.args.op c.args.plugged c.args.pending.now (answers_by f c.args.answers.now) c.requires.reached
    c.args.operation.now (answers.Refused refusal) c.args.plugged c.requires.operation (within c.args.section.now c.args.op c.args.operation.now c.requires.operation)
    (refused start.script c.args.op c.args.operation.now c.in-Some.bio refusal is why)
    (refused_reply start.script c.args.op start.shards start.base start.thread old.seen c.args.operation.now c.in-Some.bio refusal is why) tt
    (left_quiet start c.args.section.now c.args.op c.args.operation.now c.requires.operation c.args.plugged c.args.pending.now
    (step_refused start.script c.args.op c.args.operation.now c.in-Some.bio refusal is why)))

pub returns-in-Some-refusal-clause-afforded : goal.returns-in-Some-refusal-clause-afforded
returns-in-Some-refusal-clause-afforded g c =
    c.refuse-answer.ensures.room (numbered c.args.section.now c.args.pending.now) (later c.args.section.now c.args.op c.args.operation.now c.requires.operation)
    (subst (g.D.Device.affords c.args.device.now) (left_next c.args.section.now c.args.op c.args.operation.now c.requires.operation c.args.pending.now) c.requires.afforded)

pub returns-then-plugged-clause-reached : goal.returns-then-plugged-clause-reached
returns-then-plugged-clause-reached g c =
    let d = g.D.Device.facts in
    let told = answers_by g.D.Device.answer c.make_room.new.answers in
    let start = d c.args.start.now.value in
    let is : bio_of c.args.operation.now ≡ Some c.in-Some.bio = sym c.bio.ensures ∙ c.in-Some.is in
    let none : refusal_of start.script c.in-Some.bio ≡ None = refusal_at start (d c.args.device.now) c.in-Some.bio None c.requires.reached.same (sym c.refusal.ensures ∙ c.in-None.is) in
    subst (λ (l : List ℕ). Reached start (d c.make_room.new.device) c.args.section.now (c.args.op + 1) c.args.plugged l told) (sym c.push.ensures)
    (reached_pend c.order_laws.ensures.known_stays c.hold_laws.ensures.stays c.hold_laws.ensures.later c.hold_laws.ensures.behind start c.args.section.now (d c.make_room.new.device) c.args.op c.args.plugged c.make_room.new.pending told c.in_ok-make_room-in-None.ensures.reached
    c.args.operation.now c.in-Some.bio c.requires.operation (accepted start.script c.args.op c.args.operation.now c.in-Some.bio is none) (is_accepted start.script c.args.op c.args.operation.now c.in-Some.bio is none)
    is none c.in_ok-make_room-in-None.ensures.room c.in_ok-make_room-in-None.ensures.held)

pub returns-then-plugged-clause-afforded : goal.returns-then-plugged-clause-afforded
returns-then-plugged-clause-afforded g c =
    let affords = g.D.Device.affords c.make_room.new.device in
    subst (λ (l : List ℕ). affords (left_of c.args.section.now (c.args.op + 1) l)) (sym c.push.ensures)
    (subst affords (left_push c.args.section.now c.args.op c.args.operation.now c.requires.operation c.make_room.new.pending) c.in_ok-make_room-in-None.ensures.afforded)

pub flush-requires-clause-reached : goal.flush-requires-clause-reached
flush-requires-clause-reached g c =
    let d = g.D.Device.facts in
    let told = answers_by g.D.Device.answer c.make_room.new.answers in
    let start = d c.args.start.now.value in
    let is : bio_of c.args.operation.now ≡ Some c.in-Some.bio = sym c.bio.ensures ∙ c.in-Some.is in
    let none : refusal_of start.script c.in-Some.bio ≡ None = refusal_at start (d c.args.device.now) c.in-Some.bio None c.requires.reached.same (sym c.refusal.ensures ∙ c.in-None.is) in
    subst (λ (l : List ℕ). Reached start (d c.make_room.new.device) c.args.section.now (c.args.op + 1) c.args.plugged l told) (sym c.push.ensures)
    (reached_pend c.order_laws.ensures.known_stays c.hold_laws.ensures.stays c.hold_laws.ensures.later c.hold_laws.ensures.behind start c.args.section.now (d c.make_room.new.device) c.args.op c.args.plugged c.make_room.new.pending told c.in_ok-make_room-in-None.ensures.reached
    c.args.operation.now c.in-Some.bio c.requires.operation (accepted start.script c.args.op c.args.operation.now c.in-Some.bio is none) (is_accepted start.script c.args.op c.args.operation.now c.in-Some.bio is none)
    is none c.in_ok-make_room-in-None.ensures.room c.in_ok-make_room-in-None.ensures.held)

pub flush-requires-clause-afforded : goal.flush-requires-clause-afforded
flush-requires-clause-afforded g c =
    let affords = g.D.Device.affords c.make_room.new.device in
    subst (λ (l : List ℕ). affords (left_of c.args.section.now (c.args.op + 1) l)) (sym c.push.ensures)
    (subst affords (left_push c.args.section.now c.args.op c.args.operation.now c.requires.operation c.make_room.new.pending) c.in_ok-make_room-in-None.ensures.afforded)
