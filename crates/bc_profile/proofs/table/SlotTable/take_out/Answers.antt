use Rattle.std.proofs.Common.{◌∙◌, None, slice_set, sym, subst, ap, refl, arith}
use Rattle.std.specs.Prelude.{position}
use Rattle.std.proofs.lemmas.List.{get_or_default}
use Rattle.bc_profile.specs.SlotJournal.{key_of, InNoSlot}
use Rattle.bc_profile.specs.OneCaller.{has_key}
use Rattle.bc_profile.specs.SlotTable.{refs_of}
use Rattle.bc_profile.proofs.KeyLemmas.{slot_has, in_no_slot}
use Rattle.bc_profile.proofs.TableLemmas.{taken_out, not_held}
use Rattle.bc_profile.proofs.table.SlotTable.take_out.Goals as goal

pub returns-in_default : goal.returns-in_default
returns-in_default c =
    let nowhere = in_no_slot c.args.key c.self.inside.keys.items (ap (position (has_key c.args.key)) (sym c.as_slice.ensures.value) ∙ sym c.slot_with.ensures ∙ c.in_default.is) in
    (subst (λ t. InNoSlot t.slots c.args.key) c.self.view_is nowhere, refl)

pub returns-then-refs-gt0 : goal.returns-then-refs-gt0
returns-then-refs-gt0 c =
    let has = slot_has c.args.key c.self.inside.keys.items c.in-Some.slot (ap (position (has_key c.args.key)) (sym c.as_slice.ensures.value) ∙ sym c.slot_with.ensures ∙ c.in-Some.is) in
    let at = c.index-refs.ensures ∙ get_or_default c.self.inside.refs.items c.in-Some.slot c.index-refs.result.now 0 (omega (arith, has.0, c.self.invariant.as_many)) in (
      ap (λ t. key_of t.slots c.in-Some.slot) (sym c.self.view_is) ∙ has.1,
      (let some = c.if-refs-gt0.true in omega arith),
      at ∙ ap (λ t. refs_of t.refs c.in-Some.slot) c.self.view_is,
      refl,
    )

pub invariant_of-self : goal.invariant_of-self
invariant_of-self c =
    let has = slot_has c.args.key c.self.inside.keys.items c.in-Some.slot (ap (position (has_key c.args.key)) (sym c.as_slice.ensures.value) ∙ sym c.slot_with.ensures ∙ c.in-Some.is) in
    let at = c.index-refs.ensures ∙ get_or_default c.self.inside.refs.items c.in-Some.slot c.index-refs.result.now 0 (omega (arith, has.0, c.self.invariant.as_many)) in
    taken_out (record { keys = c.self.inside.keys.items; list = c.self.inside.list.items }) c.self.inside.refs.items c.in-Some.slot
    (not_held (refs_of c.self.inside.refs.items c.in-Some.slot) (let none = c.if-refs-gt0.false in omega (arith, at, none))) c.self.invariant

pub returns : goal.returns
returns c =
    let has = slot_has c.args.key c.self.inside.keys.items c.in-Some.slot (ap (position (has_key c.args.key)) (sym c.as_slice.ensures.value) ∙ sym c.slot_with.ensures ∙ c.in-Some.is) in
    let at = c.index-refs.ensures ∙ get_or_default c.self.inside.refs.items c.in-Some.slot c.index-refs.result.now 0 (omega (arith, has.0, c.self.invariant.as_many)) in (
      ap (λ t. key_of t.slots c.in-Some.slot) (sym c.self.view_is) ∙ has.1,
      ap (λ t. refs_of t.refs c.in-Some.slot) (sym c.self.view_is) ∙ (let none = c.if-refs-gt0.false in omega (arith, at, none)),
      ap (λ t. record { slots = record { keys = slice_set t.slots.keys c.in-Some.slot None; list = t.slots.list }; refs = t.refs }) c.self.view_is,
    )
