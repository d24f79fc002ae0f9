use Rattle.std.proofs.Common.{◌∙◌, length, sym, ap, subst, arith}
use Rattle.std.specs.Prelude.{position}
use Rattle.std.proofs.lemmas.List.{get_or_default}
use Rattle.bc_profile.specs.Programmings.{Holds}
use Rattle.bc_profile.specs.OneCaller.{has_key}
use Rattle.bc_profile.proofs.KeyLemmas.{slot_has}
use Rattle.bc_profile.proofs.SoloLemmas.{told_holds}
use Rattle.bc_profile.proofs.solo.Solo.hold.Goals as goal

pub returns-in-Some-clause-holds : goal.returns-in-Some-clause-holds
returns-in-Some-clause-holds c =
    let found = ap (position (has_key c.args.key.0)) (sym c.as_slice.ensures.value) ∙ sym c.slot_with.ensures ∙ c.in-Some.is in
    let has = slot_has c.args.key.0 c.self.inside.keys.items c.in-Some.slot found in
    let at = c.index.ensures ∙ get_or_default c.self.inside.epochs.items c.in-Some.slot c.index.result.now 0 (omega (arith, has.0, c.self.invariant.told.as_many)) in
    subst (Holds (length c.self.inside.keys.items) c.self.inside.journal.items c.args.key.0 c.in-Some.slot) (sym at)
    (told_holds c.self.inside.keys.items c.self.inside.epochs.items c.self.inside.journal.items c.in-Some.slot c.args.key.0 c.self.invariant.told has.1)
