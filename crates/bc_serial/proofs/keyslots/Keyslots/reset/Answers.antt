use Rattle.std.proofs.Common.{◌≡◌, ◌∙◌, ◌+◌, ◌≤◌, ◌<◌, List, length, map, sym, ap, subst, get_or, refl, arith, Option, None, [], ◌∷◌}
use Rattle.std.specs.Prelude.{slice_set}
use Rattle.bc_base.specs.Lists.{At, list_at}
use Rattle.bc_profile.specs.declared.event.Event.{Event}
use Rattle.bc_profile.specs.declared.event.Event.TheVariants as events
use Rattle.bc_profile.specs.declared.uses.Use.TheVariants as uses
use Rattle.bc_serial.specs.declared.open_hold.OpenHold.{OpenHold}
use Rattle.bc_serial.specs.Keyslots.{KeyslotsData, IsKeyslots, JournalHasRoom, journal_in, used_at, max_events}
use Rattle.bc_section.proofs.Lists.{list_at_map}
use Rattle.bc_serial.proofs.KeptSlots.{at_read, free_is, has_spare, next_keeps, use_of_one, device_of}
use Rattle.bc_serial.proofs.keyslots.Keyslots.reset.Goals as goal

pub reset-requires-clause-free : goal.reset-requires-clause-free
reset-requires-clause-free c =
    let s = c.self.inside in
    let same = c.self.view_is ∙ c.put.ensures in
    let none : s.opened ≡ None = ap (λ (k : KeyslotsData). k.opened) same in
    let is = subst (λ o. IsKeyslots s.script.now s.stack s.caps.items s.devices.items (map (λ v. v.items) s.ciphers.items) s.begun.value.items o) none c.self.invariant in
    let inside : c.args.device < length s.script.now.targets = subst (λ (k : KeyslotsData). c.args.device < length k.script.targets) (sym same) c.requires.device in
    let below : c.args.device < length s.devices.items = let n = is.count in omega (arith, inside, n) in
    let at : At s.devices.items c.args.device c.index_mut.result.now =
    at_read s.devices.items c.args.device c.index_mut.result.now below (c.index_mut.ensures.value ∙ ap (λ k. get_or s.devices.items k c.index_mut.result.now) c.from.ensures) in
    free_is _ _ _ _ _ _ is c.args.device c.index_mut.result.now at

pub reset-requires-clause-spare : goal.reset-requires-clause-spare
reset-requires-clause-spare c =
    let s = c.self.inside in
    let same = c.self.view_is ∙ c.put.ensures in
    let none : s.opened ≡ None = ap (λ (k : KeyslotsData). k.opened) same in
    let is = subst (λ o. IsKeyslots s.script.now s.stack s.caps.items s.devices.items (map (λ v. v.items) s.ciphers.items) s.begun.value.items o) none c.self.invariant in
    let inside : c.args.device < length s.script.now.targets = subst (λ (k : KeyslotsData). c.args.device < length k.script.targets) (sym same) c.requires.device in
    let below : c.args.device < length s.devices.items = let n = is.count in omega (arith, inside, n) in
    let at : At s.devices.items c.args.device c.index_mut.result.now =
    at_read s.devices.items c.args.device c.index_mut.result.now below (c.index_mut.ensures.value ∙ ap (λ k. get_or s.devices.items k c.index_mut.result.now) c.from.ensures) in
    let room : length (list_at (map journal_in s.devices.items) c.args.device) + 1 ≤ max_events = subst (λ (k : KeyslotsData). JournalHasRoom k c.args.device 1) (sym same) c.requires.room in
    has_spare _ _ _ _ _ _ is c.args.device 1 c.index_mut.result.now at room

pub invariant_of-self : goal.invariant_of-self
invariant_of-self c =
    let s = c.self.inside in
    let same = c.self.view_is ∙ c.put.ensures in
    let none : s.opened ≡ None = ap (λ (k : KeyslotsData). k.opened) same in
    let is = subst (λ o. IsKeyslots s.script.now s.stack s.caps.items s.devices.items (map (λ v. v.items) s.ciphers.items) s.begun.value.items o) none c.self.invariant in
    let inside : c.args.device < length s.script.now.targets = subst (λ (k : KeyslotsData). c.args.device < length k.script.targets) (sym same) c.requires.device in
    let below : c.args.device < length s.devices.items = let n = is.count in omega (arith, inside, n) in
    let at : At s.devices.items c.args.device c.index_mut.result.now =
    at_read s.devices.items c.args.device c.index_mut.result.now below (c.index_mut.ensures.value ∙ ap (λ k. get_or s.devices.items k c.index_mut.result.now) c.from.ensures) in
    let room : length (list_at (map journal_in s.devices.items) c.args.device) + 1 ≤ max_events = subst (λ (k : KeyslotsData). JournalHasRoom k c.args.device 1) (sym same) c.requires.room in
    let few : length (journal_in c.index_mut.result.now) + (1 + 0) ≤ max_events = subst (λ j. length j + 1 ≤ max_events) (list_at_map journal_in s.devices.items c.args.device c.index_mut.result.now at) room in
    subst (λ (o : Option OpenHold). IsKeyslots s.script.now s.stack s.caps.items (slice_set s.devices.items c.from.result c.reset.new.self) (map (λ v. v.items) s.ciphers.items) s.begun.value.items o) (sym none)
    (subst (λ k. IsKeyslots s.script.now s.stack s.caps.items (slice_set s.devices.items k c.reset.new.self) (map (λ v. v.items) s.ciphers.items) s.begun.value.items None) (sym c.from.ensures)
    (next_keeps _ _ _ _ _ _ is c.args.device c.index_mut.result.now c.reset.new.self (events.Reset ∷ []) at c.reset.ensures few (tt, tt) (tt, tt)))

pub returns : goal.returns
returns c =
    let s = c.self.inside in
    let same = c.self.view_is ∙ c.put.ensures in
    let none : s.opened ≡ None = ap (λ (k : KeyslotsData). k.opened) same in
    let is = subst (λ o. IsKeyslots s.script.now s.stack s.caps.items s.devices.items (map (λ v. v.items) s.ciphers.items) s.begun.value.items o) none c.self.invariant in
    let inside : c.args.device < length s.script.now.targets = subst (λ (k : KeyslotsData). c.args.device < length k.script.targets) (sym same) c.requires.device in
    let below : c.args.device < length s.devices.items = let n = is.count in omega (arith, inside, n) in
    let at : At s.devices.items c.args.device c.index_mut.result.now =
    at_read s.devices.items c.args.device c.index_mut.result.now below (c.index_mut.ensures.value ∙ ap (λ k. get_or s.devices.items k c.index_mut.result.now) c.from.ensures) in
    let of = device_of _ _ _ _ _ _ None c.args.device c.index_mut.result.now is at in
    let used : map journal_in (slice_set s.devices.items c.from.result c.reset.new.self) ≡ used_at s.script.now c.args.device uses.Reset (map journal_in s.devices.items) =
    ap (λ k. map journal_in (slice_set s.devices.items k c.reset.new.self)) c.from.ensures
    ∙ use_of_one s.script.now s.devices.items c.args.device of.0 c.index_mut.result.now c.reset.new.self uses.Reset (events.Reset ∷ []) None of.1 at of.2.count of.2.held refl c.reset.ensures in
    let here : KeyslotsData = record { script = s.script.now; journals = map journal_in s.devices.items; begun = map journal_in s.begun.value.items; opened = s.opened } in
    ap (λ (l : List (List Event)). record here { journals = l }) used
    ∙ ap (λ (k : KeyslotsData). record k { journals = used_at k.script c.args.device uses.Reset k.journals }) same
