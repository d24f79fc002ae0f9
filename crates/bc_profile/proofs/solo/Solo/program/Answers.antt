use Rattle.std.proofs.Common.{◌≡◌, ◌∙◌, ℕ, ◌+◌, ◌<◌, ◌≤◌, length, get_or, [], ◌∷◌, ◌++◌, Some, None, sym, ap, subst, arith, slice_set}
use Rattle.std.specs.Prelude.{vec_capacity, position}
use Rattle.bc_profile.specs.Solo.{SoloData, HasSpare, slots_of}
use Rattle.bc_profile.specs.Stamps.{IsSolo}
use Rattle.std.proofs.lemmas.List.{get_or-set_same, get_or_default}
use Rattle.bc_profile.specs.declared.event.Event.TheVariants.{Program}
use Rattle.bc_profile.specs.Programmings.{Holds}
use Rattle.bc_profile.specs.Rows.{cleared}
use Rattle.bc_profile.specs.OneCaller.{has_key, first_idle, slot_with}
use Rattle.bc_profile.proofs.KeyLemmas.{in_no_slot}
use Rattle.bc_profile.proofs.SoloLemmas.{free_parts, keeps_program, is_first_idle, told_holds}
use Rattle.bc_profile.proofs.solo.Solo.program.Goals as goal

pub invariant_of-self : goal.invariant_of-self
invariant_of-self c =
    let is = free_parts c.self.inside.keys.items c.self.inside.epochs.items c.self.inside.stamps.items c.self.inside.rows.items c.self.inside.registers.items c.self.inside.journal.items c.self.inside.quota (vec_capacity c.self.inside.journal) c.self.inside.held (ap (λ (o : SoloData). o.held) c.self.view_is ∙ c.requires.free) c.self.invariant in
    let spare : length c.self.inside.journal.items + 2 ≤ c.self.inside.quota = subst (λ (o : SoloData). HasSpare o 2) (sym c.self.view_is) c.requires.spare in
    let inside : c.least-slot.result < length c.self.inside.keys.items =
    omega (arith, c.least-slot.ensures.place, ap length c.as_slice.ensures.value, c.self.invariant.stamped.as_many, ap length c.self.invariant.told.keys_left) in
    let lower = subst (λ l. (k : ℕ) → k < length l → get_or l c.least-slot.result 0 ≤ get_or l k 0) c.as_slice.ensures.value c.least-slot.ensures.least in
    let nowhere = in_no_slot c.args.key.0 c.self.inside.keys.items
    (ap (position (has_key c.args.key.0)) c.self.invariant.told.keys_left ∙ ap (λ (o : SoloData). slot_with (slots_of o) c.args.key.0) c.self.view_is ∙ c.requires.nowhere) in
    let numbered = subst (λ (o : SoloData). c.args.key.0 < length o.rows) (sym c.self.view_is) c.requires.key in
    let row = c.index.ensures ∙ ap (λ k. get_or c.self.inside.rows.items k c.index.result.now) c.from.ensures ∙ get_or_default c.self.inside.rows.items c.args.key.0 c.index.result.now cleared numbered in
    let event : c.len-event.result ≡ length c.self.inside.journal.items = c.len-event.ensures ∙ c.self.inside.journal.ok.0 in
    let keeps = keeps_program c.self.inside.keys.items c.self.inside.epochs.items c.self.inside.stamps.items c.self.inside.rows.items c.self.inside.registers.items c.self.inside.journal.items c.self.inside.quota (vec_capacity c.self.inside.journal) is c.least-slot.result inside lower c.args.key.0 c.index.result.now c.push_reserved.new.self.items (vec_capacity c.push_reserved.new.self)
    nowhere numbered row spare (c.push_reserved.ensures.items ∙ ap (λ l. c.self.inside.journal.items ++ Program c.least-slot.result c.args.key.0 l ∷ []) c.new.ensures) c.push_reserved.ensures.capacity in
    let s = c.self.inside in
    subst (λ n. IsSolo (slice_set s.keys.items c.least-slot.result (Some c.args.key.0)) (slice_set s.epochs.items c.least-slot.result n) s.stamps.items s.rows.items
    (slice_set s.registers.items c.least-slot.result c.index.result.now) c.push_reserved.new.self.items (Some c.least-slot.result) s.quota (vec_capacity c.push_reserved.new.self)) (sym event) keeps

pub returns-clause-slot : goal.returns-clause-slot
returns-clause-slot c =
    let is = free_parts c.self.inside.keys.items c.self.inside.epochs.items c.self.inside.stamps.items c.self.inside.rows.items c.self.inside.registers.items c.self.inside.journal.items c.self.inside.quota (vec_capacity c.self.inside.journal) c.self.inside.held (ap (λ (o : SoloData). o.held) c.self.view_is ∙ c.requires.free) c.self.invariant in
    let inside : c.least-slot.result < length c.self.inside.keys.items =
    omega (arith, c.least-slot.ensures.place, ap length c.as_slice.ensures.value, c.self.invariant.stamped.as_many, ap length c.self.invariant.told.keys_left) in
    let lower = subst (λ l. (k : ℕ) → k < length l → get_or l c.least-slot.result 0 ≤ get_or l k 0) c.as_slice.ensures.value c.least-slot.ensures.least in
    is_first_idle c.self.inside.keys.items c.self.inside.epochs.items c.self.inside.stamps.items c.self.inside.rows.items c.self.inside.registers.items c.self.inside.journal.items c.self.inside.quota (vec_capacity c.self.inside.journal) is c.least-slot.result inside lower
    ∙ ap (λ (o : SoloData). first_idle (slots_of o)) c.self.view_is

pub returns-clause-holds : goal.returns-clause-holds
returns-clause-holds c =
    let is = free_parts c.self.inside.keys.items c.self.inside.epochs.items c.self.inside.stamps.items c.self.inside.rows.items c.self.inside.registers.items c.self.inside.journal.items c.self.inside.quota (vec_capacity c.self.inside.journal) c.self.inside.held (ap (λ (o : SoloData). o.held) c.self.view_is ∙ c.requires.free) c.self.invariant in
    let spare : length c.self.inside.journal.items + 2 ≤ c.self.inside.quota = subst (λ (o : SoloData). HasSpare o 2) (sym c.self.view_is) c.requires.spare in
    let inside : c.least-slot.result < length c.self.inside.keys.items =
    omega (arith, c.least-slot.ensures.place, ap length c.as_slice.ensures.value, c.self.invariant.stamped.as_many, ap length c.self.invariant.told.keys_left) in
    let lower = subst (λ l. (k : ℕ) → k < length l → get_or l c.least-slot.result 0 ≤ get_or l k 0) c.as_slice.ensures.value c.least-slot.ensures.least in
    let nowhere = in_no_slot c.args.key.0 c.self.inside.keys.items
    (ap (position (has_key c.args.key.0)) c.self.invariant.told.keys_left ∙ ap (λ (o : SoloData). slot_with (slots_of o) c.args.key.0) c.self.view_is ∙ c.requires.nowhere) in
    let numbered = subst (λ (o : SoloData). c.args.key.0 < length o.rows) (sym c.self.view_is) c.requires.key in
    let row = c.index.ensures ∙ ap (λ k. get_or c.self.inside.rows.items k c.index.result.now) c.from.ensures ∙ get_or_default c.self.inside.rows.items c.args.key.0 c.index.result.now cleared numbered in
    let event : c.len-event.result ≡ length c.self.inside.journal.items = c.len-event.ensures ∙ c.self.inside.journal.ok.0 in
    let keeps = keeps_program c.self.inside.keys.items c.self.inside.epochs.items c.self.inside.stamps.items c.self.inside.rows.items c.self.inside.registers.items c.self.inside.journal.items c.self.inside.quota (vec_capacity c.self.inside.journal) is c.least-slot.result inside lower c.args.key.0 c.index.result.now c.push_reserved.new.self.items (vec_capacity c.push_reserved.new.self)
    nowhere numbered row spare (c.push_reserved.ensures.items ∙ ap (λ l. c.self.inside.journal.items ++ Program c.least-slot.result c.args.key.0 l ∷ []) c.new.ensures) c.push_reserved.ensures.capacity in
    let s = c.self.inside in
    let keys = slice_set s.keys.items c.least-slot.result (Some c.args.key.0) in
    let epochs = slice_set s.epochs.items c.least-slot.result (length s.journal.items) in
    let at = get_or-set_same s.epochs.items c.least-slot.result (length s.journal.items) 0 (omega (arith, inside, is.told.as_many)) in
    subst (Holds (length keys) c.push_reserved.new.self.items c.args.key.0 c.least-slot.result) (at ∙ sym event)
    (told_holds keys epochs c.push_reserved.new.self.items c.least-slot.result c.args.key.0 keeps.told (get_or-set_same s.keys.items c.least-slot.result (Some c.args.key.0) None inside))
