use Rattle.std.proofs.Common.{◌∙◌, ◌<◌, ◌≤◌, length, List, sym, ap, subst, arith}
use Rattle.std.proofs.Math.Logic.{⊎_elim}
use Rattle.std.proofs.lemmas.Bool.{cases_lt}
use Rattle.bc_bio.specs.declared.bio.Bio.{Bio}
use Rattle.bc_bio.specs.declared.marked_bio.MarkedBio.{MarkedBio}
use Rattle.bc_disk.specs.Disks.{events_left, facts_on, keys_in}
use Rattle.bc_disk.specs.Submissions.{AreTaken, HasEntriesFor, events_for}
use Rattle.bc_threads.proofs.Evicted.{way}
use Rattle.bc_threads.proofs.Submission.{submitted, told}
use Rattle.bc_threads.proofs.WindowBios.{window_bios}
use Rattle.bc_threads.proofs.Windowing.{all_taken, leaves, all_within, bare_are, has_entries, many_replies, window_is, window_there}
use Rattle.bc_threads.proofs.Affording.{after_acts, asked_within, prepared_behind, with_room}
use Rattle.bc_threads.proofs.Piecing.{no_events, window_events}
use Rattle.bc_threads.proofs.sharing.SharingDeviceOutcomeInfallible.window.Goals as goal

pub plug_all-requires-clause-there : goal.plug_all-requires-clause-there
plug_all-requires-clause-there g c =
    let d = c.args.self.now in let can = c.requires.afforded in
    window_there d.script.now c.args._section.now d.bios.now.items c.keys.result.now.keys (ap (λ k. k.keys) c.keys.ensures ∙ can.1.opened.keys) can.1.opened.rules c.bio_laws.ensures.accepted c.requires.rules
    c.args.window.now can.0 c.requires.bios can.1.prepared

pub submit_plug-requires-clause-window : goal.submit_plug-requires-clause-window
submit_plug-requires-clause-window g c =
    window_is c.keys.result.now.keys c.args.self.now.bios.now.items c.args.window.now c.plug_all.new.plug c.plug_all.ensures.plugged _ (ap (λ k. k.keys) c.keys.ensures)

pub submit_plug-requires-clause-taken : goal.submit_plug-requires-clause-taken
submit_plug-requires-clause-taken g c =
    let d = c.args.self.now in let can = c.requires.afforded in let p = c.plug_all.ensures.plugged in
    subst (λ (l : List MarkedBio). AreTaken d.disk.now l) (sym p.plugged)
    (all_taken g.S.Store.contents d.script.now c.args._section.now d.disk.now can.1.opened c.bio_laws.ensures.accepted c.args.window.now p.taken
    (window_bios d.script.now c.args._section.now d.bios.now.items c.requires.rules c.args.window.now p.taken can.0 c.requires.bios can.1.prepared p.each))

pub submit_plug-requires-clause-entries : goal.submit_plug-requires-clause-entries
submit_plug-requires-clause-entries g c =
    let d = c.args.self.now in let can = c.requires.afforded in let p = c.plug_all.ensures.plugged in
    subst (λ (l : List Bio). HasEntriesFor (facts_on g.S.Store.contents d.disk.now d.pass.now) l)
    (sym (bare_are c.keys.result.now.keys d.bios.now.items c.args.window.now c.plug_all.new.plug p))
    (has_entries g.S.Store.contents d.script.now c.args._section.now d.disk.now can.1.opened c.bio_laws.ensures.accepted d.pass.now c.args.window.now p.taken can.0
    (window_bios d.script.now c.args._section.now d.bios.now.items c.requires.rules c.args.window.now p.taken can.0 c.requires.bios can.1.prepared p.each) can.1.room_for.entries)

pub note_all-requires-clause-many : goal.note_all-requires-clause-many
note_all-requires-clause-many g c =
    let d = c.args.self.now in let can = c.requires.afforded in let p = c.plug_all.ensures.plugged in let s = c.submit_plug.ensures.submits in
    many_replies _ _ d.bios.now.items c.args.window.now p.taken _ s.0 d.replies.now.items _ p.each (bare_are c.keys.result.now.keys d.bios.now.items c.args.window.now c.plug_all.new.plug p) s.2 can.1.no_replies s.1

pub note_all-requires-clause-within : goal.note_all-requires-clause-within
note_all-requires-clause-within g c = all_within c.args.self.now.script.now c.args._section.now _ c.requires.long c.args.window.now c.requires.bios

pub submit_plug-requires-clause-events : goal.submit_plug-requires-clause-events
submit_plug-requires-clause-events g c device =
    let d = c.args.self.now in let can = c.requires.afforded in let p = c.plug_all.ensures.plugged in
    let bios = window_bios d.script.now c.args._section.now d.bios.now.items c.requires.rules c.args.window.now p.taken can.0 c.requires.bios can.1.prepared p.each in
    subst (λ (l : List Bio). events_for d.disk.now.targets (keys_in d.disk.now) l device ≤ events_left d.disk.now d.pass.now device)
    (sym (bare_are c.keys.result.now.keys d.bios.now.items c.args.window.now c.plug_all.new.plug p))
    (⊎_elim
    (λ (inside : device < length d.script.now.targets). asked_within d.script.now device _ c.args._section.now c.args.window.now can.0
    (window_events d.script.now device d.thread inside can.1.opened.rules c.args._section.now c.args.window.now p.taken d.disk.now.targets (keys_in d.disk.now) can.1.opened.targets can.1.opened.keys c.requires.bios bios)
    (can.1.room_for.events device inside))
    (λ (past : length d.script.now.targets ≤ device). no_events d.script.now device d.thread past can.1.opened.rules c.bio_laws.ensures.accepted c.bio_laws.ensures.sizes c.args._section.now c.args.window.now p.taken d.disk.now.targets (keys_in d.disk.now)
    can.1.opened.targets can.1.opened.keys bios (events_left d.disk.now d.pass.now device))
    (cases_lt device (length d.script.now.targets)))

pub returns-clause-room : goal.returns-clause-room
returns-clause-room g c after could =
    let d = c.args.self.now in let p = c.plug_all.ensures.plugged in let s = c.submit_plug.ensures.submits in
    let bios = window_bios d.script.now c.args._section.now d.bios.now.items c.requires.rules c.args.window.now p.taken after c.requires.bios could.prepared p.each in
    let bare = bare_are c.keys.result.now.keys d.bios.now.items c.args.window.now c.plug_all.new.plug p in
    with_room g.S.Store.contents d.script.now d.thread d.disk.now c.submit_plug.new.pass c.plug_all.new.bios.items d.plug.now c.submit_plug.new.plug d.replies.now.items c.note_all.new.replies.items _ _ after
    (after_acts g.S.Store.contents d.script.now d.thread d.disk.now d.plug.now d.replies.now.items _ d.pass.now c.submit_plug.new.pass d.bios.now.items c.plug_all.new.bios.items _ after could
    c.submit_plug.ensures.pass s.2.adds.same.caller
    (leaves g.S.Store.contents d.script.now c.args._section.now d.disk.now could.opened c.bio_laws.ensures.accepted d.pass.now c.submit_plug.new.pass c.args.window.now p.taken _ bare bios c.submit_plug.ensures.entries)
    (λ device within.
    let events = c.submit_plug.ensures.events device in
    let asked = window_events d.script.now device d.thread within could.opened.rules c.args._section.now c.args.window.now p.taken d.disk.now.targets (keys_in d.disk.now) could.opened.targets could.opened.keys c.requires.bios bios in
    let same = ap (λ (l : List Bio). events_for d.disk.now.targets (keys_in d.disk.now) l device) bare in
    omega (arith, events, asked, same))
    (prepared_behind d.script.now c.args._section.now d.bios.now.items c.plug_all.new.bios.items c.args.window.now after c.requires.bios could.ascend could.prepared c.plug_all.ensures.others))
    c.submit_plug.ensures.empty c.note_all.ensures.empty (c.note_all.ensures.room ∙ c.submit_plug.ensures.room)

pub returns-clause-done : goal.returns-clause-done
returns-clause-done g c =
    let d = c.args.self.now in let can = c.requires.afforded in let p = c.plug_all.ensures.plugged in let s = c.submit_plug.ensures.submits in
    submitted g.S.Store.contents d.script.now c.args._section.now d.thread d.disk.now d.pass.now c.submit_plug.new.pass can.1.opened
    (way g.S.Store.contents d.script.now d.thread d.disk.now d.pass.now c.submit_plug.new.pass d.bios.now.items d.plug.now d.replies.now.items _ _ can.1)
    c.bio_laws.ensures.accepted c.args.window.now p.taken _ (bare_are c.keys.result.now.keys d.bios.now.items c.args.window.now c.plug_all.new.plug p) s.0 s.2
    (window_bios d.script.now c.args._section.now d.bios.now.items c.requires.rules c.args.window.now p.taken can.0 c.requires.bios can.1.prepared p.each)
    c.bio_laws.ensures.sizes c.hold_laws.ensures.names c.hold_laws.ensures.stays c.requires.order c.requires.bios

pub returns-clause-told : goal.returns-clause-told
returns-clause-told g c =
    let d = c.args.self.now in let can = c.requires.afforded in let p = c.plug_all.ensures.plugged in let s = c.submit_plug.ensures.submits in
    told g.S.Store.contents d.script.now c.args._section.now d.thread d.disk.now d.pass.now c.submit_plug.new.pass can.1.opened
    (way g.S.Store.contents d.script.now d.thread d.disk.now d.pass.now c.submit_plug.new.pass d.bios.now.items d.plug.now d.replies.now.items _ _ can.1)
    c.bio_laws.ensures.accepted c.args.window.now p.taken _ (bare_are c.keys.result.now.keys d.bios.now.items c.args.window.now c.plug_all.new.plug p) s.0 s.2
    (window_bios d.script.now c.args._section.now d.bios.now.items c.requires.rules c.args.window.now p.taken can.0 c.requires.bios can.1.prepared p.each)
    c.note_all.new.answers d.replies.now.items _ can.1.no_replies s.1 c.note_all.ensures.noted c.note_all.ensures.fits
