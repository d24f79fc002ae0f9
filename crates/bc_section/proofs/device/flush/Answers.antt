use Rattle.std.proofs.Common.{sym, subst, ◌≡◌, ◌∙◌, ◌++◌, ℕ, List, [], false}
use Rattle.std.specs.Prelude.{◌==◌, slice_get}
use Rattle.std.specs.List.{AllByRecursion, list_any}
use Rattle.bc_section.specs.SectionProgress.{numbered, left_of, answers_by, Submitted, Settled}
use Rattle.bc_section.proofs.Reaching.{reached_flush}
use Rattle.bc_section.proofs.Told.{length_told, get_told}
use Rattle.bc_section.proofs.device.flush.Goals as goal

pub returns-clause-reached : goal.returns-clause-reached
returns-clause-reached g c =
    let d = g.D.Device.facts in
    let f = g.D.Device.answer in
    let e = c.in_ok-window.ensures in
    let old = c.args.answers.now in
    let new = c.window.new.answers in
    reached_flush c.order_laws.ensures.known_stays c.hold_laws.ensures.stays c.hold_laws.ensures.later c.hold_laws.ensures.behind (d c.args._start.now.value) c.args.section.now
    (d c.args.device.now) c.args._op c.args._plugged c.args.pending.now (answers_by f old) c.requires.reached (d c.window.new.self) (answers_by f new) c.requires.ends
    (subst (λ (w : List ℕ). Submitted (d c.args.device.now) (d c.window.new.self) (numbered c.args.section.now w)) c.as_slice.ensures.value e.done)
    (length_told f new ∙ c.window.ensures.long ∙ sym (length_told f old))
    (subst (AllByRecursion (Settled (d c.window.new.self) c.args.section.now (answers_by f new))) c.as_slice.ensures.value e.told)
    (λ o none. get_told f new old o (subst (λ (w : List ℕ). (o : ℕ) → list_any (λ x. x == o) w ≡ false → slice_get new o ≡ slice_get old o) c.as_slice.ensures.value e.others o none))

pub returns-clause-afforded : goal.returns-clause-afforded
returns-clause-afforded g c =
    let affords = g.D.Device.affords in
    let after = left_of c.args.section.now c.args._op [] in
    c.in_ok-window.ensures.room after
    (subst (λ (w : List ℕ). affords c.args.device.now (numbered c.args.section.now w ++ after)) (sym c.as_slice.ensures.value) c.requires.afforded)

pub window-requires-clause-afforded : goal.window-requires-clause-afforded
window-requires-clause-afforded g c =
    let affords = g.D.Device.affords in
    let after = left_of c.args.section.now c.args._op [] in
    (after, subst (λ (w : List ℕ). affords c.args.device.now (numbered c.args.section.now w ++ after)) (sym c.as_slice.ensures.value) c.requires.afforded)

pub window-requires-clause-long : goal.window-requires-clause-long
window-requires-clause-long g c = sym (length_told g.D.Device.answer c.args.answers.now) ∙ c.requires.reached.long
