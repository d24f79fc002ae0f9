use Rattle.std.proofs.Common.{◌≡◌, ◌∙◌, ◌<◌, ◌≤◌, ◌+◌, ℕ, List, Option, refl, sym, ap, subst, arith, length, get_or, Some, None, take}
use Rattle.std.specs.Prelude.{slice_get}
use Rattle.std.proofs.lemmas.Option.{slice_get_read}
use Rattle.std.proofs.lemmas.List.{take_all}
use Rattle.bc_script.specs.Script.{Script, IsScript, keys_of}
use Rattle.bc_bio.specs.Conditions.{IsPlaced}
use Rattle.bc_section.specs.Sections.{DeviceData}
use Rattle.std.specs.List.{AllByRecursion}
use Rattle.bc_report.specs.declared.answer.Answer.{Answer}
use Rattle.bc_section.specs.Sections.{cost_in}
use Rattle.bc_section.specs.SectionProgress.{MayBePlugged, Settled, Submitted, numbered}
use Rattle.bc_serial.specs.Standing.{CourseData, HasBegun, own_device}
use Rattle.bc_serial.specs.InTurn.{InWindow}
use Rattle.bc_serial.proofs.Affording.{front_fits, after_fits, answers_as_they_are}
use Rattle.bc_section.proofs.Lists.{all_read}
use Rattle.bc_serial.proofs.Turning.{window_begins}
use Rattle.bc_serial.proofs.Submitting.{TurnedBy, window_submitted}
use Rattle.bc_serial.proofs.Windowing.{window_none, window_more, spare_in_window, read_within, plugged_within, follows_none, follows_more}
use Rattle.bc_serial.proofs.direct.DirectDeviceUnitAnswerAllocError.window.Goals as goal
use Rattle.bc_section.proofs.Numbered.{numbered_accepted}

pub loop-op-init : goal.loop-op-init
loop-op-init c =
    let start : CourseData = record (c.args.self.now) { opened = None } in
    let same : c.put.new.self ≡ start = c.put.ensures ∙ ap (λ (m : CourseData). record m { opened = None }) c.self.view_is in
    record {
      done = subst (λ (m : CourseData). InWindow start m c.args.section.now c.args.window.now 0 c.args.answers.now c.args.answers.now) (sym same)
          (window_none start c.args.section.now c.args.window.now c.args.answers.now (window_begins start refl));
      follows = follows_none c.args.self.now.script;
    }

pub submit-requires-clause-spare : goal.submit-requires-clause-spare
submit-requires-clause-spare c =
    let start : CourseData = record (c.args.self.now) { opened = None } in
    let window = c.args.window.now in
    let i = c.loop-op.op-index in
    let op : ℕ = get_or window i 0 in
    let read : op ≡ get_or window i op = read_within window i 0 op c.loop-op-test.true in
    let may = all_read (MayBePlugged c.args.self.now.script c.args.section.now) window i op c.requires.bios c.loop-op-test.true read in
    let is : slice_get c.args.section.now op ≡ Some c.index-section-op.result =
    slice_get_read c.args.section.now (length c.args.section.now) op c.index-section-op.result refl (plugged_within c.args.self.now.script c.args.section.now op may) c.index-section-op.is in
    spare_in_window start c.loop-op.self c.args.section.now window i op c.index-section-op.result c.args.answers.now c.loop-op.answers c.loop-op-test.true read is c.loop-op.invariant.done
    (front_fits (numbered c.args.section.now window) c.requires.afforded.0 c.args.self.now.left c.requires.afforded.1)

pub loop-op-preserved : goal.loop-op-preserved
loop-op-preserved c =
    let start : CourseData = record (c.args.self.now) { opened = None } in
    let window = c.args.window.now in
    let i = c.loop-op.op-index in
    let op : ℕ = get_or window i 0 in
    let read : op ≡ get_or window i op = read_within window i 0 op c.loop-op-test.true in
    let may = all_read (MayBePlugged c.args.self.now.script c.args.section.now) window i op c.requires.bios c.loop-op-test.true read in
    let within : op < length c.args.section.now = plugged_within c.args.self.now.script c.args.section.now op may in
    let is : slice_get c.args.section.now op ≡ Some c.index-section-op.result =
    slice_get_read c.args.section.now (length c.args.section.now) op c.index-section-op.result refl within c.index-section-op.is in
    let p = c.loop-op.invariant.done in
    let q = c.in_ok-answer.ensures in
    record {
      done = window_more start c.loop-op.self c.args.section.now window i op c.index-section-op.result c.args.answers.now c.loop-op.answers c.loop-op-test.true read is p
          c.submit.new.self c.loop-op.last c.in_ok-answer.answer c.loop-op.invariant.follows q
          c.order_laws.ensures.known_stays c.requires.order (omega (arith, p.long, c.requires.long));
      follows = follows_more start c.loop-op.self c.args.section.now window i op c.index-section-op.result c.args.answers.now c.loop-op.answers c.loop-op-test.true read is p
          c.submit.new.self c.loop-op.last c.in_ok-answer.answer c.loop-op.invariant.follows q
          c.bio-last.result c.bio-last.ensures (subst (λ (s : Script). IsPlaced (keys_of s) q.bio) p.turn.script_is q.placed);
    }

pub returns-clause-done : goal.returns-clause-done
returns-clause-done c =
    let start : CourseData = record (c.args.self.now) { opened = None } in
    let acts = numbered c.args.section.now c.args.window.now in
    let p = c.loop-op.invariant.done in
    let whole : take c.loop-op.op-index c.args.window.now ≡ c.args.window.now = take_all c.loop-op.op-index c.args.window.now (let no' = c.loop-op-test.false in omega arith) in
    let same : own_device c.put-2.new.self ≡ own_device c.loop-op.self = ap own_device (c.put-2.ensures ∙ ap (λ (m : CourseData). record m { opened = None }) c.self-2.view_is) in
    let done = subst (λ w. TurnedBy start c.loop-op.self (numbered c.args.section.now w) p.told) whole (p.carried, p.turn) in
    let accepted = numbered_accepted c.args.self.now.script c.args.section.now c.args.window.now c.requires.bios in
    subst (λ (d : DeviceData). Submitted (own_device start) d acts) (sym same)
    (window_submitted start c.loop-op.self acts p.told
    (subst (λ (m : CourseData). length m.journals ≡ length m.script.targets) c.self.view_is c.has_devices.ensures.devices)
    (subst (λ (m : CourseData). HasBegun m.begun m.journals) c.self.view_is c.has_begun.ensures)
    done.0 done.1 (subst (λ (m : CourseData). IsScript m.script) c.self.view_is c.has_devices.ensures.rules) accepted)

pub returns-clause-told : goal.returns-clause-told
returns-clause-told c =
    let p = c.loop-op.invariant.done in
    let whole : take c.loop-op.op-index c.args.window.now ≡ c.args.window.now = take_all c.loop-op.op-index c.args.window.now (let no' = c.loop-op-test.false in omega arith) in
    let same : own_device c.put-2.new.self ≡ own_device c.loop-op.self = ap own_device (c.put-2.ensures ∙ ap (λ (m : CourseData). record m { opened = None }) c.self-2.view_is) in
    subst (λ (l : List (Option Answer)). AllByRecursion (Settled (own_device c.put-2.new.self) c.args.section.now l) c.args.window.now) (sym (answers_as_they_are c.loop-op.answers))
    (subst (λ (d : DeviceData). AllByRecursion (Settled d c.args.section.now c.loop-op.answers) c.args.window.now) (sym same)
    (subst (λ (w : List ℕ). AllByRecursion (Settled (own_device c.loop-op.self) c.args.section.now c.loop-op.answers) w) whole p.settled))

pub returns-clause-room : goal.returns-clause-room
returns-clause-room c = λ after fits.
    let acts = numbered c.args.section.now c.args.window.now in
    let p = c.loop-op.invariant.done in
    let whole : take c.loop-op.op-index c.args.window.now ≡ c.args.window.now = take_all c.loop-op.op-index c.args.window.now (let no' = c.loop-op-test.false in omega arith) in
    let same : own_device c.put-2.new.self ≡ own_device c.loop-op.self = ap own_device (c.put-2.ensures ∙ ap (λ (m : CourseData). record m { opened = None }) c.self-2.view_is) in
    let paid : c.args.self.now.left ≤ c.loop-op.self.left + cost_in acts =
    subst (λ (w : List ℕ). c.args.self.now.left ≤ c.loop-op.self.left + cost_in (numbered c.args.section.now w)) whole p.carried.spare in
    after_fits acts after c.args.self.now.left c.put-2.new.self.left
    (subst (λ (d : DeviceData). c.args.self.now.left ≤ d.spare + cost_in acts) (sym same) paid) fits
