use Rattle.std.proofs.Common.{◌∙◌, Some, slice_set, length, ◌<◌, ◌≤◌, sym, subst, ap, refl, arith}
use Rattle.std.specs.Prelude.{position}
use Rattle.std.specs.List.{AllByRecursion}
use Rattle.std.proofs.lemmas.List.{get_or_default}
use Rattle.bc_profile.specs.SlotJournal.{without, key_of, MayProgram, InNoSlot}
use Rattle.bc_profile.specs.OneCaller.{has_key}
use Rattle.bc_profile.specs.SlotTable.{AllHeld, WasFound, with_refs, refs_of, one_more}
use Rattle.bc_profile.proofs.KeyLemmas.{slot_has, in_no_slot}
use Rattle.bc_profile.proofs.TableLemmas.{counted, keyed, more_is_some}
use Rattle.bc_profile.proofs.SearchLemmas.{first_free_at, none_free_at, programs, is_slot, has_refs, no_refs, keeps, all_held}
use Rattle.bc_profile.proofs.table.SlotTable.take_hold.Goals as goal

pub invariant_of-self : goal.invariant_of-self
invariant_of-self c =
    let found = ap (position (has_key c.args.key)) (sym c.as_slice.ensures.value) ∙ sym c.slot_with.ensures ∙ c.in-Some.is in
    let has = slot_has c.args.key c.self.inside.keys.items c.in-Some.slot found in
    counted (record { keys = c.self.inside.keys.items; list = c.self.inside.list.items }) c.self.inside.refs.items c.in-Some.slot c.counted.result has.0
    (keyed c.self.inside.keys.items c.in-Some.slot c.args.key has.1)
    (subst (λ n. 1 ≤ n) (sym c.counted.ensures) (more_is_some c.index.result.now)) c.self.invariant

pub returns-in-Some : goal.returns-in-Some
returns-in-Some c =
    let found = ap (position (has_key c.args.key)) (sym c.as_slice.ensures.value) ∙ sym c.slot_with.ensures ∙ c.in-Some.is in
    let has = slot_has c.args.key c.self.inside.keys.items c.in-Some.slot found in
    let at = c.index.ensures ∙ get_or_default c.self.inside.refs.items c.in-Some.slot c.index.result.now 0 (omega (arith, has.0, c.self.invariant.as_many)) in (
      ap (λ t. key_of t.slots c.in-Some.slot) (sym c.self.view_is) ∙ has.1,
      ap (λ n. record { slots = record { keys = c.self.inside.keys.items; list = c.self.inside.list.items }; refs = slice_set c.self.inside.refs.items c.in-Some.slot n }) (c.counted.ensures ∙ ap one_more at)
          ∙ ap (λ t. with_refs t c.in-Some.slot (one_more (refs_of t.refs c.in-Some.slot))) c.self.view_is,
    )

pub first_free-requires-clause-slots : goal.first_free-requires-clause-slots
first_free-requires-clause-slots c =
    subst (λ l. AllByRecursion (λ slot. slot < length c.as_slice-3.result.now) l) (sym c.as_slice-2.ensures.value)
    (subst (λ n. AllByRecursion (λ slot. slot < n) c.self.inside.list.items) (sym (ap length c.as_slice-3.ensures.value ∙ c.self.invariant.as_many)) c.self.invariant.are_slots)

pub returns-in_default-first_free : goal.returns-in_default-first_free
returns-in_default-first_free c =
    let nowhere = in_no_slot c.args.key c.self.inside.keys.items (ap (position (has_key c.args.key)) (sym c.as_slice.ensures.value) ∙ sym c.slot_with.ensures ∙ c.in_default.is) in
    let none = none_free_at c.self.inside.refs.items c.self.inside.list.items c.as_slice-3.result.now c.as_slice-2.result.now c.as_slice-3.ensures.value c.as_slice-2.ensures.value c.in_default-first_free.ensures in (
      subst (λ t. InNoSlot t.slots c.args.key) c.self.view_is nowhere,
      subst AllHeld c.self.view_is (all_held c.self.inside.keys.items c.self.inside.list.items c.self.inside.refs.items c.self.invariant none),
      refl,
    )

pub index_mut-requires-2 : goal.index_mut-requires-2
index_mut-requires-2 c =
    let free = first_free_at c.self.inside.refs.items c.self.inside.list.items c.as_slice-3.result.now c.as_slice-2.result.now c.first_free.result c.in-Some-first_free.slot c.in-Some-first_free.skipped c.as_slice-3.ensures.value c.as_slice-2.ensures.value c.in-Some-first_free.is c.first_free.ensures in
    let nowhere = in_no_slot c.args.key c.self.inside.keys.items (ap (position (has_key c.args.key)) (sym c.as_slice.ensures.value) ∙ sym c.slot_with.ensures ∙ c.in_default.is) in
    subst (λ n. c.in-Some-first_free.slot < n) (sym c.self.inside.keys.ok.0)
    (is_slot c.self.inside.keys.items c.self.inside.list.items c.self.inside.refs.items c.in-Some-first_free.slot c.args.key c.in-Some-first_free.skipped c.self.invariant free nowhere)

pub index_mut-requires-3 : goal.index_mut-requires-3
index_mut-requires-3 c =
    let free = first_free_at c.self.inside.refs.items c.self.inside.list.items c.as_slice-3.result.now c.as_slice-2.result.now c.first_free.result c.in-Some-first_free.slot c.in-Some-first_free.skipped c.as_slice-3.ensures.value c.as_slice-2.ensures.value c.in-Some-first_free.is c.first_free.ensures in
    let nowhere = in_no_slot c.args.key c.self.inside.keys.items (ap (position (has_key c.args.key)) (sym c.as_slice.ensures.value) ∙ sym c.slot_with.ensures ∙ c.in_default.is) in
    subst (λ n. c.in-Some-first_free.slot < n) (sym c.self.inside.refs.ok.0)
    (has_refs c.self.inside.keys.items c.self.inside.list.items c.self.inside.refs.items c.in-Some-first_free.slot c.args.key c.in-Some-first_free.skipped c.self.invariant free nowhere)

pub invariant_of-self-2 : goal.invariant_of-self-2
invariant_of-self-2 c =
    let free = first_free_at c.self.inside.refs.items c.self.inside.list.items c.as_slice-3.result.now c.as_slice-2.result.now c.first_free.result c.in-Some-first_free.slot c.in-Some-first_free.skipped c.as_slice-3.ensures.value c.as_slice-2.ensures.value c.in-Some-first_free.is c.first_free.ensures in
    let nowhere = in_no_slot c.args.key c.self.inside.keys.items (ap (position (has_key c.args.key)) (sym c.as_slice.ensures.value) ∙ sym c.slot_with.ensures ∙ c.in_default.is) in
    keeps c.self.inside.keys.items c.self.inside.list.items c.self.inside.refs.items c.in-Some-first_free.slot c.args.key c.in-Some-first_free.skipped c.self.invariant free nowhere c.take_off.new.list.items c.take_off.ensures

pub returns : goal.returns
returns c =
    let free = first_free_at c.self.inside.refs.items c.self.inside.list.items c.as_slice-3.result.now c.as_slice-2.result.now c.first_free.result c.in-Some-first_free.slot c.in-Some-first_free.skipped c.as_slice-3.ensures.value c.as_slice-2.ensures.value c.in-Some-first_free.is c.first_free.ensures in
    let nowhere = in_no_slot c.args.key c.self.inside.keys.items (ap (position (has_key c.args.key)) (sym c.as_slice.ensures.value) ∙ sym c.slot_with.ensures ∙ c.in_default.is) in (
      subst (λ t. MayProgram t.slots c.in-Some-first_free.slot c.args.key c.in-Some-first_free.skipped) c.self.view_is
          (programs c.self.inside.keys.items c.self.inside.list.items c.self.inside.refs.items c.in-Some-first_free.slot c.args.key c.in-Some-first_free.skipped c.self.invariant free nowhere),
      subst (λ t. AllByRecursion (WasFound t.refs) c.in-Some-first_free.skipped) c.self.view_is free.found,
      ap (λ t. refs_of t.refs c.in-Some-first_free.slot) (sym c.self.view_is)
          ∙ no_refs c.self.inside.keys.items c.self.inside.list.items c.self.inside.refs.items c.in-Some-first_free.slot c.args.key c.in-Some-first_free.skipped c.self.invariant free nowhere,
      ap (λ l. record { slots = record { keys = slice_set c.self.inside.keys.items c.in-Some-first_free.slot (Some c.args.key); list = l }; refs = slice_set c.self.inside.refs.items c.in-Some-first_free.slot 1 }) c.take_off.ensures
          ∙ ap (λ t. record { slots = record { keys = slice_set t.slots.keys c.in-Some-first_free.slot (Some c.args.key); list = without c.in-Some-first_free.slot t.slots.list }; refs = slice_set t.refs c.in-Some-first_free.slot 1 }) c.self.view_is,
    )
