use Rattle.std.proofs.Common.{◌∙◌, map, map-id, sym, ap, subst, rules}
use Rattle.std.proofs.lemmas.Iterator.Adapters.{YieldsList-from_vec}
use Rattle.std.proofs.lemmas.Iterator.Consumers.{YieldsList-end}
use Rattle.bc_base.specs.Lists.{Each}
use Rattle.bc_profile.specs.Solo.{SoloData}
use Rattle.bc_report.specs.LawfulRun.{HaveLawfulJournals}
use Rattle.bc_report.specs.Report.{IsEvent, IsPart}
use Rattle.bc_serial.specs.Keyslots.{KeyslotsData, IsKeyslots}
use Rattle.bc_serial.proofs.OpenedSlots.{closed_journals, closed_lawful, closed_ranges}
use Rattle.bc_serial.proofs.keyslots.Keyslots.close.Goals as goal

pub returns-clause-journals : goal.returns-clause-journals
returns-clause-journals c =
    let s = c.keyslots.inside in
    let same = c.keyslots.view_is ∙ c.put.ensures in
    let none = ap (λ (k : KeyslotsData). k.opened) same in
    let is = subst (λ o. IsKeyslots s.script.now s.stack s.caps.items s.devices.items (map (λ v. v.items) s.ciphers.items) s.begun.value.items o) none c.keyslots.invariant in
    let seen = YieldsList-end (YieldsList-from_vec {s = c.into_iter-device-iterator.result} s.devices.items (search rules) (search rules))
    c.loop-device.yielded c.loop-device.device-iterator c.loop-device.yielded_by c.next.result c.next.new.self c.in-None.is c.next.ensures.steps in
    c.from_vec-2.ensures ∙ c.loop-device.invariant ∙ ap (map (λ (solo : SoloData). solo.journal)) (sym (map-id c.loop-device.yielded) ∙ seen.0)
    ∙ closed_journals _ _ _ _ _ _ is ∙ ap (λ (k : KeyslotsData). k.journals) same

pub returns-clause-ranges : goal.returns-clause-ranges
returns-clause-ranges c =
    let s = c.keyslots.inside in
    let same = c.keyslots.view_is ∙ c.put.ensures in
    let none = ap (λ (k : KeyslotsData). k.opened) same in
    let is = subst (λ o. IsKeyslots s.script.now s.stack s.caps.items s.devices.items (map (λ v. v.items) s.ciphers.items) s.begun.value.items o) none c.keyslots.invariant in
    let seen = YieldsList-end (YieldsList-from_vec {s = c.into_iter-device-iterator.result} s.devices.items (search rules) (search rules))
    c.loop-device.yielded c.loop-device.device-iterator c.loop-device.yielded_by c.next.result c.next.new.self c.in-None.is c.next.ensures.steps in
    let journals = c.from_vec-2.ensures ∙ c.loop-device.invariant ∙ ap (map (λ (solo : SoloData). solo.journal)) (sym (map-id c.loop-device.yielded) ∙ seen.0)
    ∙ closed_journals _ _ _ _ _ _ is in
    subst (Each (IsPart IsEvent)) (sym journals) (closed_ranges _ _ _ _ _ _ is)

pub returns-in_err-journals-clause-lawful : goal.returns-in_err-journals-clause-lawful
returns-in_err-journals-clause-lawful c =
    let s = c.keyslots.inside in
    let same = c.keyslots.view_is ∙ c.put.ensures in
    let none = ap (λ (k : KeyslotsData). k.opened) same in
    let is = subst (λ o. IsKeyslots s.script.now s.stack s.caps.items s.devices.items (map (λ v. v.items) s.ciphers.items) s.begun.value.items o) none c.keyslots.invariant in
    subst (λ (k : KeyslotsData). HaveLawfulJournals k.script.targets k.journals) same (closed_lawful _ _ _ _ _ _ is)

pub returns-in_err-push-clause-lawful : goal.returns-in_err-push-clause-lawful
returns-in_err-push-clause-lawful c =
    let s = c.keyslots.inside in
    let same = c.keyslots.view_is ∙ c.put.ensures in
    let none = ap (λ (k : KeyslotsData). k.opened) same in
    let is = subst (λ o. IsKeyslots s.script.now s.stack s.caps.items s.devices.items (map (λ v. v.items) s.ciphers.items) s.begun.value.items o) none c.keyslots.invariant in
    subst (λ (k : KeyslotsData). HaveLawfulJournals k.script.targets k.journals) same (closed_lawful _ _ _ _ _ _ is)

pub returns-clause-lawful : goal.returns-clause-lawful
returns-clause-lawful c =
    let s = c.keyslots.inside in
    let same = c.keyslots.view_is ∙ c.put.ensures in
    let none = ap (λ (k : KeyslotsData). k.opened) same in
    let is = subst (λ o. IsKeyslots s.script.now s.stack s.caps.items s.devices.items (map (λ v. v.items) s.ciphers.items) s.begun.value.items o) none c.keyslots.invariant in
    subst (λ (k : KeyslotsData). HaveLawfulJournals k.script.targets k.journals) same (closed_lawful _ _ _ _ _ _ is)
