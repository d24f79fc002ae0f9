use Rattle.std.proofs.Common.{◌<◌, ◌∙◌, ◌++◌, ◌∷◌, [], length, slice_set, sym, subst, ap, arith}
use Rattle.bc_profile.specs.SlotTable.{IsTable}
use Rattle.bc_profile.proofs.TableLemmas.{idled, list_room}
use Rattle.bc_profile.proofs.table.SlotTable.give_back.Goals as goal

pub push-requires : goal.push-requires
push-requires c =
    let inside = subst (λ b. c.args.slot < length b.slots.keys) (sym c.self.view_is) c.requires in
    let room = list_room (record { keys = c.self.inside.keys.items; list = c.self.inside.list.items }) c.self.inside.refs.items c.args.slot inside c.self.invariant in
    let few = c.self.invariant.few in let same = ap length c.take_off.ensures in (omega arith, omega arith)

pub invariant_of-self-2 : goal.invariant_of-self-2
invariant_of-self-2 c =
    let inside = subst (λ b. c.args.slot < length b.slots.keys) (sym c.self.view_is) c.requires in
    subst (λ l. IsTable (record { keys = c.self.inside.keys.items; list = l }) (slice_set c.self.inside.refs.items c.args.slot 0)) (sym (c.push.ensures.items ∙ ap (λ l. l ++ c.args.slot ∷ []) c.take_off.ensures))
    (idled (record { keys = c.self.inside.keys.items; list = c.self.inside.list.items }) c.self.inside.refs.items c.args.slot inside c.self.invariant)
