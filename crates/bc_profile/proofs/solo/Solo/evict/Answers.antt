use Rattle.std.proofs.Common.{◌≢◌, ◌∙◌, ◌+◌, ◌≤◌, length, Some, sym, ap, subst}
use Rattle.std.specs.Prelude.{vec_capacity, position, All}
use Rattle.bc_profile.specs.Solo.{SoloData, HasSpare, slots_of}
use Rattle.bc_profile.specs.SlotJournal.{InNoSlot}
use Rattle.bc_profile.specs.OneCaller.{has_key}
use Rattle.bc_profile.proofs.KeyLemmas.{slot_has, in_no_slot}
use Rattle.bc_profile.proofs.SoloLemmas.{free_parts, held_parts, keeps_evict, evicted_gone}
use Rattle.bc_profile.proofs.solo.Solo.evict.Goals as goal

pub invariant_of-self : goal.invariant_of-self
invariant_of-self c =
    let is = free_parts c.self.inside.keys.items c.self.inside.epochs.items c.self.inside.stamps.items c.self.inside.rows.items c.self.inside.registers.items c.self.inside.journal.items c.self.inside.quota (vec_capacity c.self.inside.journal) c.self.inside.held (ap (λ (o : SoloData). o.held) c.self.view_is ∙ c.requires.free) c.self.invariant in
    let spare : length c.self.inside.journal.items + 1 ≤ c.self.inside.quota = subst (λ (o : SoloData). HasSpare o 1) (sym c.self.view_is) c.requires.spare in
    let found = ap (position (has_key c.args.key.0)) (sym c.as_slice.ensures.value) ∙ sym c.slot_with.ensures ∙ c.in-Some.is in
    let has = slot_has c.args.key.0 c.self.inside.keys.items c.in-Some.slot found in
    held_parts _ _ _ _ _ _ _ _ c.self.inside.held (ap (λ (o : SoloData). o.held) c.self.view_is ∙ c.requires.free)
    (keeps_evict c.self.inside.keys.items c.self.inside.epochs.items c.self.inside.stamps.items c.self.inside.rows.items c.self.inside.registers.items c.self.inside.journal.items c.self.inside.quota (vec_capacity c.self.inside.journal) is c.in-Some.slot c.args.key.0 c.push_reserved.new.self.items (vec_capacity c.push_reserved.new.self) has.0 has.1 spare c.push_reserved.ensures.items c.push_reserved.ensures.capacity)

pub returns-in-Some-clause-gone : goal.returns-in-Some-clause-gone
returns-in-Some-clause-gone c =
    let is = free_parts c.self.inside.keys.items c.self.inside.epochs.items c.self.inside.stamps.items c.self.inside.rows.items c.self.inside.registers.items c.self.inside.journal.items c.self.inside.quota (vec_capacity c.self.inside.journal) c.self.inside.held (ap (λ (o : SoloData). o.held) c.self.view_is ∙ c.requires.free) c.self.invariant in
    let found = ap (position (has_key c.args.key.0)) (sym c.as_slice.ensures.value) ∙ sym c.slot_with.ensures ∙ c.in-Some.is in
    let has = slot_has c.args.key.0 c.self.inside.keys.items c.in-Some.slot found in
    evicted_gone c.self.inside.keys.items c.self.inside.epochs.items c.self.inside.stamps.items c.self.inside.rows.items c.self.inside.registers.items c.self.inside.journal.items c.self.inside.quota (vec_capacity c.self.inside.journal) is c.in-Some.slot c.args.key.0 c.push_reserved.new.self.items has.0 has.1 c.push_reserved.ensures.items

pub returns-in_default-clause-gone : goal.returns-in_default-clause-gone
returns-in_default-clause-gone c =
    let none = ap (position (has_key c.args.key.0)) (sym c.as_slice.ensures.value) ∙ sym c.slot_with.ensures ∙ c.in_default.is in
    subst (λ (o : SoloData). InNoSlot (slots_of o) c.args.key.0) c.self.view_is
    (subst (All (λ other. other ≢ Some c.args.key.0)) c.self.invariant.told.keys_left (in_no_slot c.args.key.0 c.self.inside.keys.items none))
