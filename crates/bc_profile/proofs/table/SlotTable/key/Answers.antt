use Rattle.std.proofs.Common.{◌∙◌, ◌≤◌, ◌<◌, length, None, sym, subst}
use Rattle.std.specs.Prelude.{IsSome}
use Rattle.std.proofs.lemmas.List.{get_or_default}
use Rattle.bc_profile.specs.SlotTable.{refs_of}
use Rattle.bc_profile.proofs.TableLemmas.{many_held}
use Rattle.bc_profile.proofs.table.SlotTable.key.Goals as goal

pub returns-clause-held : goal.returns-clause-held
returns-clause-held c = λ some.
    let held = subst (λ t. 1 ≤ refs_of t.refs c.args.slot) (sym c.self.view_is) some in
    let inside = subst (λ t. c.args.slot < length t.slots.keys) (sym c.self.view_is) c.requires in
    subst IsSome (sym (c.index.ensures ∙ get_or_default c.self.inside.keys.items c.args.slot c.index.result.now None inside))
    (c.self.invariant.held_keyed c.args.slot (many_held (refs_of c.self.inside.refs.items c.args.slot) held))
