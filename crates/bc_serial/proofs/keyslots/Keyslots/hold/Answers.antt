use Rattle.std.proofs.Common.{◌≡◌, ◌∙◌, ◌+◌, ◌≤◌, ◌<◌, ◌++◌, List, [], ◌∷◌, length, map, get_or, sym, ap, subst, refl, arith, true, None, Some, Ok}
use Rattle.std.specs.Prelude.{slice_set, IsOk}
use Rattle.std.specs.Vec.{with_item}
use Rattle.std.proofs.lemmas.List.{map-set}
use Rattle.bc_base.specs.Lists.{At, list_at}
use Rattle.bc_modes.specs.Capabilities.{capabilities_of}
use Rattle.bc_modes.specs.Entries.{read_words}
use Rattle.bc_modes.specs.UnitCipher.{parts_of}
use Rattle.bc_profile.specs.declared.event.Event.{Event}
use Rattle.bc_profile.specs.declared.event.Event.TheVariants as events
use Rattle.bc_profile.specs.declared.uses.Use.TheVariants as uses
use Rattle.bc_profile.specs.OneCaller.{events_of_hold}
use Rattle.bc_profile.specs.Programmings.{Holds}
use Rattle.bc_profile.specs.Solo.{SoloData, row_in, slots_of as slots_in}
use Rattle.bc_script.specs.Bios.{is_inline}
use Rattle.bc_script.specs.Script.{keys_of}
use Rattle.bc_compose.specs.OrderedHolds.{slot_count_of}
use Rattle.bc_serial.specs.declared.open_hold.OpenHold.{OpenHold}
use Rattle.bc_serial.specs.Keyslots.{KeyslotsData, giving_back, IsKeyslots, JournalHasRoom, MeansItsWords, journal_in, used_at, max_events}
use Rattle.bc_section.proofs.Lists.{all_read, list_at_map}
use Rattle.bc_serial.proofs.KeptSlots.{holds_idle, slots_are, use_of_one, chosen, has_row, has_spare, held_inside, read_back, mapped_at, caps_is, hold_keeps, hold_events, hold_allowed, few_of_hold, small_slot, small_key}
use Rattle.bc_serial.proofs.SlotRows.{row_is, row_reads, kept_means}
use Rattle.bc_serial.proofs.keyslots.Keyslots.hold.Goals as goal
use Rattle.bc_base.proofs.Members.{at_set}

pub hold-slot-requires-clause-free : goal.hold-slot-requires-clause-free
hold-slot-requires-clause-free c =
    let s = c.self.inside in
    let same = c.self.view_is ∙ c.put.ensures in
    let none : s.opened ≡ None = ap (λ (k : KeyslotsData). k.opened) same in
    let is = subst (λ o. IsKeyslots s.script.now s.stack s.caps.items s.devices.items (map (λ v. v.items) s.ciphers.items) s.begun.value.items o) none c.self.invariant in
    let inside : c.args.device < length s.script.now.targets = subst (λ (k : KeyslotsData). c.args.device < length k.script.targets) (sym same) c.requires.device in
    let named : c.args.key.0 < length (keys_of s.script.now) = subst (λ (k : KeyslotsData). c.args.key.0 < length (keys_of k.script)) (sym same) c.requires.key in
    let solo = c.index_mut.result.now in
    let it = chosen _ _ _ _ _ _ is c.args.device c.args.key.0 solo inside named (c.index_mut.ensures.value ∙ ap (λ k. get_or s.devices.items k solo) c.from-number.ensures) in
    it.of.held

pub hold-slot-requires-clause-key : goal.hold-slot-requires-clause-key
hold-slot-requires-clause-key c =
    let s = c.self.inside in
    let same = c.self.view_is ∙ c.put.ensures in
    let none : s.opened ≡ None = ap (λ (k : KeyslotsData). k.opened) same in
    let is = subst (λ o. IsKeyslots s.script.now s.stack s.caps.items s.devices.items (map (λ v. v.items) s.ciphers.items) s.begun.value.items o) none c.self.invariant in
    let inside : c.args.device < length s.script.now.targets = subst (λ (k : KeyslotsData). c.args.device < length k.script.targets) (sym same) c.requires.device in
    let named : c.args.key.0 < length (keys_of s.script.now) = subst (λ (k : KeyslotsData). c.args.key.0 < length (keys_of k.script)) (sym same) c.requires.key in
    let solo = c.index_mut.result.now in
    let it = chosen _ _ _ _ _ _ is c.args.device c.args.key.0 solo inside named (c.index_mut.ensures.value ∙ ap (λ k. get_or s.devices.items k solo) c.from-number.ensures) in
    has_row _ _ _ _ _ _ is c.args.device c.args.key.0 solo it named

pub hold-slot-requires-clause-spare : goal.hold-slot-requires-clause-spare
hold-slot-requires-clause-spare c =
    let s = c.self.inside in
    let same = c.self.view_is ∙ c.put.ensures in
    let none : s.opened ≡ None = ap (λ (k : KeyslotsData). k.opened) same in
    let is = subst (λ o. IsKeyslots s.script.now s.stack s.caps.items s.devices.items (map (λ v. v.items) s.ciphers.items) s.begun.value.items o) none c.self.invariant in
    let inside : c.args.device < length s.script.now.targets = subst (λ (k : KeyslotsData). c.args.device < length k.script.targets) (sym same) c.requires.device in
    let named : c.args.key.0 < length (keys_of s.script.now) = subst (λ (k : KeyslotsData). c.args.key.0 < length (keys_of k.script)) (sym same) c.requires.key in
    let solo = c.index_mut.result.now in
    let it = chosen _ _ _ _ _ _ is c.args.device c.args.key.0 solo inside named (c.index_mut.ensures.value ∙ ap (λ k. get_or s.devices.items k solo) c.from-number.ensures) in
    let room : length (list_at (map journal_in s.devices.items) c.args.device) + 2 ≤ max_events = subst (λ (k : KeyslotsData). JournalHasRoom k c.args.device 2) (sym same) c.requires.room in
    has_spare _ _ _ _ _ _ is c.args.device 2 solo it.solo_at room

pub row-words-requires : goal.row-words-requires
row-words-requires c =
    let s = c.self.inside in
    let same = c.self.view_is ∙ c.put.ensures in
    let none : s.opened ≡ None = ap (λ (k : KeyslotsData). k.opened) same in
    let is = subst (λ o. IsKeyslots s.script.now s.stack s.caps.items s.devices.items (map (λ v. v.items) s.ciphers.items) s.begun.value.items o) none c.self.invariant in
    let inside : c.args.device < length s.script.now.targets = subst (λ (k : KeyslotsData). c.args.device < length k.script.targets) (sym same) c.requires.device in
    let named : c.args.key.0 < length (keys_of s.script.now) = subst (λ (k : KeyslotsData). c.args.key.0 < length (keys_of k.script)) (sym same) c.requires.key in
    let solo = c.index_mut.result.now in
    let it = chosen _ _ _ _ _ _ is c.args.device c.args.key.0 solo inside named (c.index_mut.ensures.value ∙ ap (λ k. get_or s.devices.items k solo) c.from-number.ensures) in
    let new = c.hold-slot.new.self in
    let slot = c.hold-slot.result.0 in
    let holds = c.hold-slot.ensures.holds in
    let slot_in : slot < it.target.slots = subst (λ n. slot < n) (ap (λ (d : SoloData). d.count) c.hold-slot.ensures.records ∙ it.of.count) (held_inside new.count new.journal c.args.key.0 slot c.hold-slot.result.1 holds) in
    let written : c.index.result.now ≡ new = read_back s.devices.items c.from-number.result solo new c.index.result.now (subst (λ k. At s.devices.items k solo) (sym c.from-number.ensures) it.solo_at) c.index.ensures in
    subst (λ (d : SoloData). slot < d.count) (sym written) (held_inside new.count new.journal c.args.key.0 slot c.hold-slot.result.1 holds)

pub index_mut-requires-3 : goal.index_mut-requires-3
index_mut-requires-3 c =
    let s = c.self.inside in
    let same = c.self.view_is ∙ c.put.ensures in
    let none : s.opened ≡ None = ap (λ (k : KeyslotsData). k.opened) same in
    let is = subst (λ o. IsKeyslots s.script.now s.stack s.caps.items s.devices.items (map (λ v. v.items) s.ciphers.items) s.begun.value.items o) none c.self.invariant in
    let inside : c.args.device < length s.script.now.targets = subst (λ (k : KeyslotsData). c.args.device < length k.script.targets) (sym same) c.requires.device in
    let named : c.args.key.0 < length (keys_of s.script.now) = subst (λ (k : KeyslotsData). c.args.key.0 < length (keys_of k.script)) (sym same) c.requires.key in
    let solo = c.index_mut.result.now in
    let it = chosen _ _ _ _ _ _ is c.args.device c.args.key.0 solo inside named (c.index_mut.ensures.value ∙ ap (λ k. get_or s.devices.items k solo) c.from-number.ensures) in
    let new = c.hold-slot.new.self in
    let slot = c.hold-slot.result.0 in
    let holds = c.hold-slot.ensures.holds in
    let slot_in : slot < it.target.slots = subst (λ n. slot < n) (ap (λ (d : SoloData). d.count) c.hold-slot.ensures.records ∙ it.of.count) (held_inside new.count new.journal c.args.key.0 slot c.hold-slot.result.1 holds) in
    let written : c.index.result.now ≡ new = read_back s.devices.items c.from-number.result solo new c.index.result.now (subst (λ k. At s.devices.items k solo) (sym c.from-number.ensures) it.solo_at) c.index.ensures in
    let kept = c.index_mut-2.result.now in
    let kept_at : At (map (λ v. v.items) s.ciphers.items) c.args.device kept.items =
    mapped_at (λ v. v.items) s.ciphers.items c.args.device (length s.script.now.targets) kept is.cipher_count inside (c.index_mut-2.ensures.value ∙ ap (λ k. get_or s.ciphers.items k kept) c.from-number.ensures) in
    let old = is.each_ciphers c.args.device it.target it.target_at kept.items kept_at in
    omega (arith, slot_in, old.0, kept.ok.0, c.from.ensures)

pub keep_cipher-requires-clause-kept : goal.keep_cipher-requires-clause-kept
keep_cipher-requires-clause-kept c =
    let s = c.self.inside in
    let same = c.self.view_is ∙ c.put.ensures in
    let none : s.opened ≡ None = ap (λ (k : KeyslotsData). k.opened) same in
    let is = subst (λ o. IsKeyslots s.script.now s.stack s.caps.items s.devices.items (map (λ v. v.items) s.ciphers.items) s.begun.value.items o) none c.self.invariant in
    let inside : c.args.device < length s.script.now.targets = subst (λ (k : KeyslotsData). c.args.device < length k.script.targets) (sym same) c.requires.device in
    let named : c.args.key.0 < length (keys_of s.script.now) = subst (λ (k : KeyslotsData). c.args.key.0 < length (keys_of k.script)) (sym same) c.requires.key in
    let solo = c.index_mut.result.now in
    let it = chosen _ _ _ _ _ _ is c.args.device c.args.key.0 solo inside named (c.index_mut.ensures.value ∙ ap (λ k. get_or s.devices.items k solo) c.from-number.ensures) in
    let new = c.hold-slot.new.self in
    let slot = c.hold-slot.result.0 in
    let holds = c.hold-slot.ensures.holds in
    let slot_in : slot < it.target.slots = subst (λ n. slot < n) (ap (λ (d : SoloData). d.count) c.hold-slot.ensures.records ∙ it.of.count) (held_inside new.count new.journal c.args.key.0 slot c.hold-slot.result.1 holds) in
    let written : c.index.result.now ≡ new = read_back s.devices.items c.from-number.result solo new c.index.result.now (subst (λ k. At s.devices.items k solo) (sym c.from-number.ensures) it.solo_at) c.index.ensures in
    let kept = c.index_mut-2.result.now in
    let kept_at : At (map (λ v. v.items) s.ciphers.items) c.args.device kept.items =
    mapped_at (λ v. v.items) s.ciphers.items c.args.device (length s.script.now.targets) kept is.cipher_count inside (c.index_mut-2.ensures.value ∙ ap (λ k. get_or s.ciphers.items k kept) c.from-number.ensures) in
    let old = is.each_ciphers c.args.device it.target it.target_at kept.items kept_at in
    let own = caps_is _ _ _ _ _ _ is c.args.device it.target c.index-2.result.now it.target_at (c.index-2.ensures ∙ ap (λ k. get_or s.caps.items k c.index-2.result.now) c.from-number.ensures) in
    let inline : is_inline s.script.now c.args.key ≡ true = subst (λ (k : KeyslotsData). is_inline k.script c.args.key ≡ true) (sym same) c.requires.inline in
    let reads : read_words c.row-words.result c.index-2.result.now ≡ Ok (parts_of it.k) =
    ap (λ caps. read_words c.row-words.result caps) own
    ∙ ap (λ w. read_words w (capabilities_of it.target.caps)) (c.row-words.ensures ∙ ap (λ d. row_in d slot) written
    ∙ row_is s.script.now it.target new c.args.key.0 slot c.hold-slot.result.1 it.k (ap (λ (d : SoloData). d.rows) c.hold-slot.ensures.records ∙ it.of.rows) it.is_key holds)
    ∙ row_reads s.script.now c.args.key.0 c.args.device it.target it.k c.entry_laws.ensures.read_back inline it.target_at it.is_key it.valid in
    subst (λ caps. MeansItsWords caps c.index_mut-3.result.now) (sym own)
    (all_read (MeansItsWords (capabilities_of it.target.caps)) kept.items slot c.index_mut-3.result.now old.1 (omega (arith, slot_in, old.0)) (c.index_mut-3.ensures.value ∙ ap (λ k. get_or kept.items k c.index_mut-3.result.now) c.from.ensures))

pub keep_cipher-requires-clause-reads : goal.keep_cipher-requires-clause-reads
keep_cipher-requires-clause-reads c =
    let s = c.self.inside in
    let same = c.self.view_is ∙ c.put.ensures in
    let none : s.opened ≡ None = ap (λ (k : KeyslotsData). k.opened) same in
    let is = subst (λ o. IsKeyslots s.script.now s.stack s.caps.items s.devices.items (map (λ v. v.items) s.ciphers.items) s.begun.value.items o) none c.self.invariant in
    let inside : c.args.device < length s.script.now.targets = subst (λ (k : KeyslotsData). c.args.device < length k.script.targets) (sym same) c.requires.device in
    let named : c.args.key.0 < length (keys_of s.script.now) = subst (λ (k : KeyslotsData). c.args.key.0 < length (keys_of k.script)) (sym same) c.requires.key in
    let solo = c.index_mut.result.now in
    let it = chosen _ _ _ _ _ _ is c.args.device c.args.key.0 solo inside named (c.index_mut.ensures.value ∙ ap (λ k. get_or s.devices.items k solo) c.from-number.ensures) in
    let new = c.hold-slot.new.self in
    let slot = c.hold-slot.result.0 in
    let holds = c.hold-slot.ensures.holds in
    let slot_in : slot < it.target.slots = subst (λ n. slot < n) (ap (λ (d : SoloData). d.count) c.hold-slot.ensures.records ∙ it.of.count) (held_inside new.count new.journal c.args.key.0 slot c.hold-slot.result.1 holds) in
    let written : c.index.result.now ≡ new = read_back s.devices.items c.from-number.result solo new c.index.result.now (subst (λ k. At s.devices.items k solo) (sym c.from-number.ensures) it.solo_at) c.index.ensures in
    let own = caps_is _ _ _ _ _ _ is c.args.device it.target c.index-2.result.now it.target_at (c.index-2.ensures ∙ ap (λ k. get_or s.caps.items k c.index-2.result.now) c.from-number.ensures) in
    let inline : is_inline s.script.now c.args.key ≡ true = subst (λ (k : KeyslotsData). is_inline k.script c.args.key ≡ true) (sym same) c.requires.inline in
    let reads : read_words c.row-words.result c.index-2.result.now ≡ Ok (parts_of it.k) =
    ap (λ caps. read_words c.row-words.result caps) own
    ∙ ap (λ w. read_words w (capabilities_of it.target.caps)) (c.row-words.ensures ∙ ap (λ d. row_in d slot) written
    ∙ row_is s.script.now it.target new c.args.key.0 slot c.hold-slot.result.1 it.k (ap (λ (d : SoloData). d.rows) c.hold-slot.ensures.records ∙ it.of.rows) it.is_key holds)
    ∙ row_reads s.script.now c.args.key.0 c.args.device it.target it.k c.entry_laws.ensures.read_back inline it.target_at it.is_key it.valid in
    subst IsOk (sym reads) refl

pub invariant_of-self : goal.invariant_of-self
invariant_of-self c =
    let s = c.self.inside in
    let same = c.self.view_is ∙ c.put.ensures in
    let none : s.opened ≡ None = ap (λ (k : KeyslotsData). k.opened) same in
    let is = subst (λ o. IsKeyslots s.script.now s.stack s.caps.items s.devices.items (map (λ v. v.items) s.ciphers.items) s.begun.value.items o) none c.self.invariant in
    let inside : c.args.device < length s.script.now.targets = subst (λ (k : KeyslotsData). c.args.device < length k.script.targets) (sym same) c.requires.device in
    let named : c.args.key.0 < length (keys_of s.script.now) = subst (λ (k : KeyslotsData). c.args.key.0 < length (keys_of k.script)) (sym same) c.requires.key in
    let solo = c.index_mut.result.now in
    let it = chosen _ _ _ _ _ _ is c.args.device c.args.key.0 solo inside named (c.index_mut.ensures.value ∙ ap (λ k. get_or s.devices.items k solo) c.from-number.ensures) in
    let new = c.hold-slot.new.self in
    let slot = c.hold-slot.result.0 in
    let holds = c.hold-slot.ensures.holds in
    let slot_in : slot < it.target.slots = subst (λ n. slot < n) (ap (λ (d : SoloData). d.count) c.hold-slot.ensures.records ∙ it.of.count) (held_inside new.count new.journal c.args.key.0 slot c.hold-slot.result.1 holds) in
    let written : c.index.result.now ≡ new = read_back s.devices.items c.from-number.result solo new c.index.result.now (subst (λ k. At s.devices.items k solo) (sym c.from-number.ensures) it.solo_at) c.index.ensures in
    let kept = c.index_mut-2.result.now in
    let kept_at : At (map (λ v. v.items) s.ciphers.items) c.args.device kept.items =
    mapped_at (λ v. v.items) s.ciphers.items c.args.device (length s.script.now.targets) kept is.cipher_count inside (c.index_mut-2.ensures.value ∙ ap (λ k. get_or s.ciphers.items k kept) c.from-number.ensures) in
    let old = is.each_ciphers c.args.device it.target it.target_at kept.items kept_at in
    let own = caps_is _ _ _ _ _ _ is c.args.device it.target c.index-2.result.now it.target_at (c.index-2.ensures ∙ ap (λ k. get_or s.caps.items k c.index-2.result.now) c.from-number.ensures) in
    let inline : is_inline s.script.now c.args.key ≡ true = subst (λ (k : KeyslotsData). is_inline k.script c.args.key ≡ true) (sym same) c.requires.inline in
    let reads : read_words c.row-words.result c.index-2.result.now ≡ Ok (parts_of it.k) =
    ap (λ caps. read_words c.row-words.result caps) own
    ∙ ap (λ w. read_words w (capabilities_of it.target.caps)) (c.row-words.ensures ∙ ap (λ d. row_in d slot) written
    ∙ row_is s.script.now it.target new c.args.key.0 slot c.hold-slot.result.1 it.k (ap (λ (d : SoloData). d.rows) c.hold-slot.ensures.records ∙ it.of.rows) it.is_key holds)
    ∙ row_reads s.script.now c.args.key.0 c.args.device it.target it.k c.entry_laws.ensures.read_back inline it.target_at it.is_key it.valid in
    let room : length (list_at (map journal_in s.devices.items) c.args.device) + 2 ≤ max_events = subst (λ (k : KeyslotsData). JournalHasRoom k c.args.device 2) (sym same) c.requires.room in
    let more = events_of_hold (slots_in solo) c.args.key.0 in
    let long : length (list_at (map journal_in s.devices.items) c.args.device) ≡ length (journal_in solo) = ap length (list_at_map journal_in s.devices.items c.args.device solo it.solo_at) in
    let few : length (journal_in solo) + (length more + 1) ≤ max_events = let one = few_of_hold (slots_in solo) c.args.key.0 in omega (arith, room, long, one) in
    let small = small_slot s.script.now it.target c.args.device it.target.slots slot is.rules it.target_at refl slot_in in
    let new_kept = c.keep_cipher.new.kept in
    let keeps = kept_means c.index-2.result.now (capabilities_of it.target.caps) c.row-words.result new_kept it.k own c.keep_cipher.ensures reads in
    let kept_is = hold_keeps _ _ _ _ _ _ is c.args.device c.args.key.0 slot c.hold-slot.result.1 it.target solo new more kept.items new_kept it.k it.target_at it.solo_at kept_at (omega (arith, slot_in, old.0))
    c.hold-slot.ensures.records few (hold_events (slots_in solo) c.args.key.0 slot c.hold-slot.ensures.slot small (small_key s.script.now c.args.key.0 is.rules named)) small
    (hold_allowed solo c.args.key.0 slot c.hold-slot.ensures.slot (subst (λ n. slot < n) (sym it.of.count) slot_in)) keeps.0 it.is_key holds keeps.1 in
    let hold : OpenHold = record { device = c.args.device; key = c.args.key.0; slot = slot; event = c.hold-slot.result.1 } in
    let ciphers : slice_set (map (λ v. v.items) s.ciphers.items) c.args.device (slice_set kept.items slot new_kept) ≡ map (λ v. v.items) (slice_set s.ciphers.items c.from-number.result (with_item kept c.from.result new_kept)) =
    ap (λ k. slice_set (map (λ v. v.items) s.ciphers.items) c.args.device (slice_set kept.items k new_kept)) (sym c.from.ensures)
    ∙ ap (λ k. slice_set (map (λ v. v.items) s.ciphers.items) k (slice_set kept.items c.from.result new_kept)) (sym c.from-number.ensures)
    ∙ sym (map-set (λ v. v.items) s.ciphers.items c.from-number.result (with_item kept c.from.result new_kept)) in
    subst (λ l. IsKeyslots s.script.now s.stack s.caps.items (slice_set s.devices.items c.from-number.result new) l s.begun.value.items (Some hold)) ciphers
    (subst (λ k. IsKeyslots s.script.now s.stack s.caps.items (slice_set s.devices.items k new) (slice_set (map (λ v. v.items) s.ciphers.items) c.args.device (slice_set kept.items slot new_kept)) s.begun.value.items (Some hold)) (sym c.from-number.ensures) kept_is)

pub returns : goal.returns
returns c =
    let s = c.self.inside in
    let same = c.self.view_is ∙ c.put.ensures in
    let none : s.opened ≡ None = ap (λ (k : KeyslotsData). k.opened) same in
    let is = subst (λ o. IsKeyslots s.script.now s.stack s.caps.items s.devices.items (map (λ v. v.items) s.ciphers.items) s.begun.value.items o) none c.self.invariant in
    let inside : c.args.device < length s.script.now.targets = subst (λ (k : KeyslotsData). c.args.device < length k.script.targets) (sym same) c.requires.device in
    let named : c.args.key.0 < length (keys_of s.script.now) = subst (λ (k : KeyslotsData). c.args.key.0 < length (keys_of k.script)) (sym same) c.requires.key in
    let solo = c.index_mut.result.now in
    let it = chosen _ _ _ _ _ _ is c.args.device c.args.key.0 solo inside named (c.index_mut.ensures.value ∙ ap (λ k. get_or s.devices.items k solo) c.from-number.ensures) in
    let new = c.hold-slot.new.self in
    let slot = c.hold-slot.result.0 in
    let event = c.hold-slot.result.1 in
    let more = events_of_hold (slots_in solo) c.args.key.0 in
    let used : map journal_in (slice_set s.devices.items c.from-number.result new) ≡ used_at s.script.now c.args.device (uses.Hold c.args.key) (map journal_in s.devices.items) =
    ap (λ k. map journal_in (slice_set s.devices.items k new)) c.from-number.ensures
    ∙ use_of_one s.script.now s.devices.items c.args.device it.target solo new (uses.Hold c.args.key) more (Some slot) it.target_at it.solo_at it.of.count it.of.held
    (ap (λ n. more ++ events.Idle n ∷ []) c.hold-slot.ensures.slot) c.hold-slot.ensures.records in
    let here : KeyslotsData = record { script = s.script.now; journals = map journal_in s.devices.items; begun = map journal_in s.begun.value.items; opened = s.opened } in
    let hold : OpenHold = record { device = c.args.device; key = c.args.key.0; slot = slot; event = event } in
    let journal : new.journal ++ events.Idle slot ∷ [] ≡ list_at (map journal_in (slice_set s.devices.items c.from-number.result new)) c.args.device =
    ap (λ h. new.journal ++ giving_back h) (sym (ap (λ (d : SoloData). d.held) c.hold-slot.ensures.records))
    ∙ sym (list_at_map journal_in (slice_set s.devices.items c.args.device new) c.args.device new (at_set s.devices.items c.args.device solo new it.solo_at))
    ∙ ap (λ k. list_at (map journal_in (slice_set s.devices.items k new)) c.args.device) (sym c.from-number.ensures) in
    let count : new.count ≡ slot_count_of c.args.self.now.script c.args.device =
    ap (λ (d : SoloData). d.count) c.hold-slot.ensures.records ∙ it.of.count ∙ sym (slots_are s.script.now c.args.device it.target it.target_at) ∙ ap (λ (k : KeyslotsData). slot_count_of k.script c.args.device) same in
    record {
      slot = slot;
      event = event;
      records = ap (λ (l : List (List Event)). record here { journals = l; opened = Some hold }) used
          ∙ ap (λ (k : KeyslotsData). record k { journals = used_at k.script c.args.device (uses.Hold c.args.key) k.journals; opened = Some hold }) same;
      holds = subst (λ l. Holds (slot_count_of c.args.self.now.script c.args.device) l c.args.key.0 slot event) journal
          (subst (λ n. Holds n (new.journal ++ events.Idle slot ∷ []) c.args.key.0 slot event) count (holds_idle new.count new.journal c.args.key.0 slot event slot c.hold-slot.ensures.holds));
    }
