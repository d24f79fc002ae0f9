use Rattle.std.proofs.Common.{◌≡◌, ◌∙◌, ◌<◌, List, length, map, sym, ap, subst, get_or, None}
use Rattle.std.specs.Prelude.{slice_set}
use Rattle.bc_base.specs.Lists.{At}
use Rattle.bc_profile.specs.declared.event.Event.{Event}
use Rattle.bc_serial.specs.Keyslots.{KeyslotsData, IsKeyslots, journal_in}
use Rattle.bc_serial.proofs.KeptSlots.{at_read, at_below, held_is, put_journals, put_keeps}
use Rattle.bc_serial.proofs.keyslots.Keyslots.put.Goals as goal

pub put-requires : goal.put-requires
put-requires c =
    let s = c.self.inside in
    let hold = c.in-Some.hold in
    let is = subst (λ o. IsKeyslots s.script.now s.stack s.caps.items s.devices.items (map (λ v. v.items) s.ciphers.items) s.begun.value.items o) c.in-Some.is c.self.invariant in
    let below : hold.device < length s.devices.items = at_below s.devices.items hold.device is.open_is.solo is.open_is.solo_at in
    let at : At s.devices.items hold.device c.index_mut.result.now =
    at_read s.devices.items hold.device c.index_mut.result.now below (c.index_mut.ensures.value ∙ ap (λ k. get_or s.devices.items k c.index_mut.result.now) c.from.ensures) in
    held_is _ _ _ _ _ _ hold c.index_mut.result.now is at

pub invariant_of-self : goal.invariant_of-self
invariant_of-self c =
    let s = c.self.inside in
    let hold = c.in-Some.hold in
    let is = subst (λ o. IsKeyslots s.script.now s.stack s.caps.items s.devices.items (map (λ v. v.items) s.ciphers.items) s.begun.value.items o) c.in-Some.is c.self.invariant in
    let below : hold.device < length s.devices.items = at_below s.devices.items hold.device is.open_is.solo is.open_is.solo_at in
    let at : At s.devices.items hold.device c.index_mut.result.now =
    at_read s.devices.items hold.device c.index_mut.result.now below (c.index_mut.ensures.value ∙ ap (λ k. get_or s.devices.items k c.index_mut.result.now) c.from.ensures) in
    subst (λ k. IsKeyslots s.script.now s.stack s.caps.items (slice_set s.devices.items k c.put.new.self) (map (λ v. v.items) s.ciphers.items) s.begun.value.items None) (sym c.from.ensures)
    (put_keeps _ _ _ _ _ _ hold c.index_mut.result.now is at c.put.new.self c.put.ensures)

pub returns-in-Some : goal.returns-in-Some
returns-in-Some c =
    let s = c.self.inside in
    let hold = c.in-Some.hold in
    let is = subst (λ o. IsKeyslots s.script.now s.stack s.caps.items s.devices.items (map (λ v. v.items) s.ciphers.items) s.begun.value.items o) c.in-Some.is c.self.invariant in
    let below : hold.device < length s.devices.items = at_below s.devices.items hold.device is.open_is.solo is.open_is.solo_at in
    let at : At s.devices.items hold.device c.index_mut.result.now =
    at_read s.devices.items hold.device c.index_mut.result.now below (c.index_mut.ensures.value ∙ ap (λ k. get_or s.devices.items k c.index_mut.result.now) c.from.ensures) in
    let same : map journal_in (slice_set s.devices.items c.from.result c.put.new.self) ≡ map journal_in s.devices.items =
    ap (λ k. map journal_in (slice_set s.devices.items k c.put.new.self)) c.from.ensures ∙ put_journals _ _ _ _ _ _ hold c.index_mut.result.now is at c.put.new.self c.put.ensures in
    let here : KeyslotsData = record { script = s.script.now; journals = map journal_in s.devices.items; begun = map journal_in s.begun.value.items; opened = s.opened } in
    ap (λ (l : List (List Event)). record here { journals = l; opened = None }) same ∙ ap (λ (k : KeyslotsData). record k { opened = None }) c.self.view_is
