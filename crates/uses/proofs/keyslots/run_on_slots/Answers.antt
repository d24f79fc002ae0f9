use Rattle.std.proofs.Common.{◌≡◌, map, length, ap, sym, refl, ◌∙◌, subst, None, Some}
use Rattle.std.proofs.lemmas.List.{length-map}
use Rattle.bc_base.specs.Lists.{Each}
use Rattle.bc_profile.specs.Passes.{SlotFacts, IsOf, IsClosedStory, AreAllHere}
use Rattle.uses.specs.Keyslots.{answers_of_caller, asked_of}
use Rattle.uses.proofs.SlotLemmas.{all_back, all_fresh, as_many, free_passes, here, run_of, some_of}
use Rattle.uses.proofs.keyslots.run_on_slots.Goals as goal

pub all_at_once-requires-clause-passes : goal.all_at_once-requires-clause-passes
all_at_once-requires-clause-passes g c κs within =
    all_fresh c.in_ok-profile.profile (length c.args.quotas.items) c.in_ok-profile.passes.items c.in_ok-profile.ensures.passes c.in_ok-profile.ensures.are_of

pub close-requires-clause-passes : goal.close-requires-clause-passes
close-requires-clause-passes g c =
    let p = c.in_ok-profile.profile in let done = c.in_ok-done.done.items in
    let back = all_back p (map (λ calls. calls.items) c.args.lists.now) 0 (length c.args.quotas.items) c.in_ok-profile.passes.items done c.in_ok-profile.ensures.passes c.in_ok-done.ensures.length c.in_ok-done.ensures.each in
    subst (Each (IsOf p)) (sym c.in_ok-passes.ensures.passes) (free_passes p (map (λ calls. calls.items) c.args.lists.now) 0 done back).0

pub close-requires-clause-free : goal.close-requires-clause-free
close-requires-clause-free g c =
    let p = c.in_ok-profile.profile in let done = c.in_ok-done.done.items in
    let back = all_back p (map (λ calls. calls.items) c.args.lists.now) 0 (length c.args.quotas.items) c.in_ok-profile.passes.items done c.in_ok-profile.ensures.passes c.in_ok-done.ensures.length c.in_ok-done.ensures.each in
    subst (Each (λ (pass : SlotFacts). pass.hold ≡ None)) (sym c.in_ok-passes.ensures.passes) (free_passes p (map (λ calls. calls.items) c.args.lists.now) 0 done back).1

pub close-requires-clause-here : goal.close-requires-clause-here
close-requires-clause-here g c =
    let p = c.in_ok-profile.profile in let done = c.in_ok-done.done.items in
    let many = as_many (length c.args.quotas.items) p c.in_ok-profile.passes.items done (map answers_of_caller done) c.in_ok-profile.ensures.passes c.in_ok-done.ensures.length refl in
    let back = all_back p (map (λ calls. calls.items) c.args.lists.now) 0 (length c.args.quotas.items) c.in_ok-profile.passes.items done c.in_ok-profile.ensures.passes c.in_ok-done.ensures.length c.in_ok-done.ensures.each in
    subst (AreAllHere p) (sym c.in_ok-passes.ensures.passes) (here p (map (λ calls. calls.items) c.args.lists.now) done back (many.0 ∙ sym c.in_ok-profile.ensures.callers))

pub returns-in-Ok-clause-callers : goal.returns-in-Ok-clause-callers
returns-in-Ok-clause-callers g c =
    let done = c.in_ok-done.done.items in
    let many = as_many (length c.args.quotas.items) c.in_ok-profile.profile c.in_ok-profile.passes.items done (map answers_of_caller done) c.in_ok-profile.ensures.passes c.in_ok-done.ensures.length refl in
    sym (length-map c.in_ok-passes.told.items (λ told. Some told.items)) ∙ ap length c.in_ok-passes.ensures.told ∙ many.1

pub returns-in-Ok-clause-lawful : goal.returns-in-Ok-clause-lawful
returns-in-Ok-clause-lawful g c =
    let p = c.in_ok-profile.profile in let done = c.in_ok-done.done.items in
    let many = as_many (length c.args.quotas.items) p c.in_ok-profile.passes.items done (map answers_of_caller done) c.in_ok-profile.ensures.passes c.in_ok-done.ensures.length refl in
    let back = all_back p (map (λ calls. calls.items) c.args.lists.now) 0 (length c.args.quotas.items) c.in_ok-profile.passes.items done c.in_ok-profile.ensures.passes c.in_ok-done.ensures.length c.in_ok-done.ensures.each in
    run_of p (asked_of c.args.slots c.args.rows.items c.args.quotas.items (map (λ calls. calls.items) c.args.lists.now)) done (map (λ told. told.items) c.in_ok-passes.told.items) c.in-Ok.journal.items
    c.in_ok-profile.ensures.base c.in_ok-profile.ensures.rows back (many.0 ∙ sym c.in_ok-profile.ensures.callers)
    (some_of (λ told. told.items) c.in_ok-passes.told.items ∙ c.in_ok-passes.ensures.told)
    (c.in-Ok.ensures.closed.0, c.in-Ok.ensures.closed.1, subst (λ passes. IsClosedStory p passes c.in-Ok.ensures.closed.0) c.in_ok-passes.ensures.passes c.in-Ok.ensures.closed.2)
