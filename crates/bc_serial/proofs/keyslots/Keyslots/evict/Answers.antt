use Rattle.std.proofs.Common.{◌≡◌, ◌∙◌, ◌+◌, ◌≤◌, ◌<◌, ℕ, List, length, map, take, drop, ◌++◌, sym, ap, subst, Option, None}
use Rattle.std.proofs.lemmas.List.{length-map}
use Rattle.bc_base.specs.Lists.{Each, list_at}
use Rattle.bc_profile.specs.declared.event.Event.{Event}
use Rattle.bc_profile.specs.declared.uses.Use.TheVariants as uses
use Rattle.bc_script.specs.Script.{keys_of}
use Rattle.bc_serial.specs.declared.open_hold.OpenHold.{OpenHold}
use Rattle.bc_serial.specs.Keyslots.{KeyslotsData, HaveNotKey, IsRidOf, IsKeyslots, JournalHasRoom, MayEvict, evicted, journal_in, used_each, max_events}
use Rattle.bc_section.proofs.Lists.{list_at_map}
use Rattle.bc_serial.proofs.KeptSlots.{may_evict, evict_keeps, evict_uses, written_back, small_key, device_of, at_below}
use Rattle.bc_serial.proofs.TakenOut.{none_has_key}
use Rattle.bc_serial.proofs.keyslots.Keyslots.evict.Goals as goal

pub evict_from-requires : goal.evict_from-requires
evict_from-requires c =
    let s = c.self.inside in
    let same = c.self.view_is ∙ c.put.ensures in
    let none : s.opened ≡ None = ap (λ (k : KeyslotsData). k.opened) same in
    let is = subst (λ o. IsKeyslots s.script.now s.stack s.caps.items s.devices.items (map (λ v. v.items) s.ciphers.items) s.begun.value.items o) none c.self.invariant in
    let inside : c.args.key.0 < length (keys_of s.script.now) = subst (λ (k : KeyslotsData). c.args.key.0 < length (keys_of k.script)) (sym same) c.requires.key in
    let room : (i : ℕ) → i < length s.script.now.targets → length (list_at (map journal_in s.devices.items) i) + 1 ≤ max_events =
    subst (λ (k : KeyslotsData). (i : ℕ) → i < length k.script.targets → JournalHasRoom k i 1) (sym same) c.requires.room in
    subst (Each (MayEvict c.args.key.0)) (sym c.deref_mut.ensures.value) (may_evict _ _ _ _ _ _ is c.args.key.0 inside room)

pub invariant_of-self : goal.invariant_of-self
invariant_of-self c =
    let s = c.self.inside in
    let same = c.self.view_is ∙ c.put.ensures in
    let none : s.opened ≡ None = ap (λ (k : KeyslotsData). k.opened) same in
    let is = subst (λ o. IsKeyslots s.script.now s.stack s.caps.items s.devices.items (map (λ v. v.items) s.ciphers.items) s.begun.value.items o) none c.self.invariant in
    let inside : c.args.key.0 < length (keys_of s.script.now) = subst (λ (k : KeyslotsData). c.args.key.0 < length (keys_of k.script)) (sym same) c.requires.key in
    let room : (i : ℕ) → i < length s.script.now.targets → length (list_at (map journal_in s.devices.items) i) + 1 ≤ max_events =
    subst (λ (k : KeyslotsData). (i : ℕ) → i < length k.script.targets → JournalHasRoom k i 1) (sym same) c.requires.room in
    let new : c.evict_from.new.devices ≡ map (evicted c.args.key.0) s.devices.items = c.evict_from.ensures.records ∙ ap (map (evicted c.args.key.0)) c.deref_mut.ensures.value in
    let many : length c.evict_from.new.devices ≡ s.devices.len = ap length new ∙ length-map s.devices.items (evicted c.args.key.0) ∙ sym s.devices.ok.0 in
    subst (λ (o : Option OpenHold). IsKeyslots s.script.now s.stack s.caps.items (take s.devices.len (c.evict_from.new.devices ++ drop (length c.evict_from.new.devices) s.devices.items)) (map (λ v. v.items) s.ciphers.items) s.begun.value.items o) (sym none)
    (evict_keeps _ _ _ _ _ _ is c.args.key.0 _ (written_back s.devices.len c.evict_from.new.devices s.devices.items many ∙ new)
    (λ i solo at. subst (λ j. length j + 1 ≤ max_events) (list_at_map journal_in s.devices.items i solo at)
    (room i (at_below s.script.now.targets i (device_of _ _ _ _ _ _ None i solo is at).0 (device_of _ _ _ _ _ _ None i solo is at).1)))
    (small_key s.script.now c.args.key.0 is.rules inside))

pub returns-clause-records : goal.returns-clause-records
returns-clause-records c =
    let s = c.self.inside in
    let same = c.self.view_is ∙ c.put.ensures in
    let none : s.opened ≡ None = ap (λ (k : KeyslotsData). k.opened) same in
    let is = subst (λ o. IsKeyslots s.script.now s.stack s.caps.items s.devices.items (map (λ v. v.items) s.ciphers.items) s.begun.value.items o) none c.self.invariant in
    let new : c.evict_from.new.devices ≡ map (evicted c.args.key.0) s.devices.items = c.evict_from.ensures.records ∙ ap (map (evicted c.args.key.0)) c.deref_mut.ensures.value in
    let many : length c.evict_from.new.devices ≡ s.devices.len = ap length new ∙ length-map s.devices.items (evicted c.args.key.0) ∙ sym s.devices.ok.0 in
    let used : map journal_in (take s.devices.len (c.evict_from.new.devices ++ drop (length c.evict_from.new.devices) s.devices.items)) ≡ used_each s.script.now (uses.Evict c.args.key) (map journal_in s.devices.items) =
    ap (map journal_in) (written_back s.devices.len c.evict_from.new.devices s.devices.items many ∙ new) ∙ evict_uses _ _ _ _ _ _ is c.args.key.0 in
    let here : KeyslotsData = record { script = s.script.now; journals = map journal_in s.devices.items; begun = map journal_in s.begun.value.items; opened = s.opened } in
    ap (λ (l : List (List Event)). record here { journals = l }) used
    ∙ ap (λ (k : KeyslotsData). record k { journals = used_each k.script (uses.Evict c.args.key) k.journals }) same

pub returns-clause-gone : goal.returns-clause-gone
returns-clause-gone c =
    let s = c.self.inside in
    let same = c.self.view_is ∙ c.put.ensures in
    let none : s.opened ≡ None = ap (λ (k : KeyslotsData). k.opened) same in
    let is = subst (λ o. IsKeyslots s.script.now s.stack s.caps.items s.devices.items (map (λ v. v.items) s.ciphers.items) s.begun.value.items o) none c.self.invariant in
    let inside : c.args.key.0 < length (keys_of s.script.now) = subst (λ (k : KeyslotsData). c.args.key.0 < length (keys_of k.script)) (sym same) c.requires.key in
    let room : (i : ℕ) → i < length s.script.now.targets → length (list_at (map journal_in s.devices.items) i) + 1 ≤ max_events =
    subst (λ (k : KeyslotsData). (i : ℕ) → i < length k.script.targets → JournalHasRoom k i 1) (sym same) c.requires.room in
    let new : c.evict_from.new.devices ≡ map (evicted c.args.key.0) s.devices.items = c.evict_from.ensures.records ∙ ap (map (evicted c.args.key.0)) c.deref_mut.ensures.value in
    let many : length c.evict_from.new.devices ≡ s.devices.len = ap length new ∙ length-map s.devices.items (evicted c.args.key.0) ∙ sym s.devices.ok.0 in
    let back = written_back s.devices.len c.evict_from.new.devices s.devices.items many in
    let kept = evict_keeps _ _ _ _ _ _ is c.args.key.0 _ (back ∙ new)
    (λ i solo at. subst (λ j. length j + 1 ≤ max_events) (list_at_map journal_in s.devices.items i solo at)
    (room i (at_below s.script.now.targets i (device_of _ _ _ _ _ _ None i solo is at).0 (device_of _ _ _ _ _ _ None i solo is at).1)))
    (small_key s.script.now c.args.key.0 is.rules inside) in
    subst (λ (k : KeyslotsData). HaveNotKey k.script (map journal_in (take s.devices.len (c.evict_from.new.devices ++ drop (length c.evict_from.new.devices) s.devices.items))) c.args.key.0) same
    (none_has_key _ _ _ _ _ _ c.args.key.0 kept (subst (Each (IsRidOf c.args.key.0)) (sym back) c.evict_from.ensures.gone))
