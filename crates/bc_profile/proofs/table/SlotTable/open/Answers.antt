use Rattle.std.proofs.Common.{◌≡◌, ◌∙◌, ◌++◌, ◌∷◌, [], length, sym, ap, arith}
use Rattle.std.specs.List.{range_with_len}
use Rattle.bc_profile.proofs.OpeningLemmas.{range_push}
use Rattle.bc_profile.proofs.TableOpening.{new_parts, range_length}
use Rattle.bc_profile.proofs.table.SlotTable.open.Goals as goal

pub push-requires : goal.push-requires
push-requires c =
    let many = ap length c.loop-slot.invariant.listed ∙ range_length 0 c.loop-slot.slot in
    let less = c.loop-slot-test.true in let few = c.requires.few in (omega arith, omega arith)

pub loop-slot-preserved : goal.loop-slot-preserved
loop-slot-preserved c = record {
  listed = c.push.ensures.items ∙ ap (λ l. l ++ c.loop-slot.slot ∷ []) c.loop-slot.invariant.listed ∙ sym (range_push c.loop-slot.slot);
}

pub invariant_of-result : goal.invariant_of-result
invariant_of-result c =
    let past = c.loop-slot-test.false in let end = c.loop-slot.auto.slot-end in
    let same : c.loop-slot.slot ≡ c.args.slots = omega arith in
    new_parts c.args.slots c.in_ok-copies.field-0.items c.loop-slot.list.items c.in_ok-copies-2.field-0.items c.in_ok-copies.ensures (c.loop-slot.invariant.listed ∙ ap (range_with_len 0) same) c.in_ok-copies-2.ensures c.requires.few
