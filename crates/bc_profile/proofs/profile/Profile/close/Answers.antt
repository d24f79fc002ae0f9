use Rattle.std.proofs.Common.{◌≡◌, ◌∙◌, ◌<◌, ◌==◌, true, sym, ap, subst}
use Rattle.std.specs.Prelude.{sum}
use Rattle.std.specs.List.{list_any}
use Rattle.bc_base.specs.Lists.{Each}
use Rattle.bc_turn.specs.PassParts as parts
use Rattle.bc_profile.specs.declared.limits.TheConstants.{MAX_EVENTS}
use Rattle.bc_profile.specs.Story.{author_of, events_of}
use Rattle.bc_profile.specs.Passes.{KeepsTo, IsOf, IsClosedStory, SlotFacts}
use Rattle.bc_profile.proofs.Visits.{story_of}
use Rattle.bc_profile.proofs.ProfileLemmas.{are_of, all_free, some_here, is_closed, one_book}
use Rattle.bc_profile.proofs.profile.Profile.close.Goals as goal

pub total-limit-requires : goal.total-limit-requires
total-limit-requires c = subst (λ l. sum l < MAX_EVENTS) (sym c.as_slice.ensures.value) c.self.invariant.small

pub close-requires-clause-passes : goal.close-requires-clause-passes
close-requires-clause-passes c =
    are_of _ c.unseat.new.turns.items c.unseat.ensures.rest
    (subst (Each (IsOf _)) (sym c.unseat.ensures.same) (subst (λ t. Each (IsOf t) c.args.passes.items) (sym c.self.view_is) c.requires.passes))

pub close-requires-clause-all : goal.close-requires-clause-all
close-requires-clause-all c = λ caller less.
    some_here c.unseat.new.turns.items caller
    (subst (λ l. list_any (λ (pass : SlotFacts). pass.caller == caller) l ≡ true) (sym c.unseat.ensures.same)
    (c.requires.here caller (subst (λ t. caller < t.turns.callers) c.self.view_is less)))

pub close-requires-clause-free : goal.close-requires-clause-free
close-requires-clause-free c = all_free c.unseat.new.turns.items c.unseat.ensures.rest

pub returns-in-Some-clause-closed : goal.returns-in-Some-clause-closed
returns-in-Some-clause-closed c =
    let seats = c.unseat.new.turns.items in
    let values = c.in-Ok-close.ensures.values in
    let one = values.0 ∙ c.self.invariant.one in
    let book = c.in-Some.book in
    let closed = one_book (parts.IsClosed story_of KeepsTo author_of c.self.inside.turns seats) c.in-Ok-close.books.items c.pop.new.self.items book one values.1 c.in-Some.ensures.items in (
      book.story,
      c.take_events.ensures ∙ ap events_of c.close-in-Ok-close.ensures.story,
      subst (λ t. IsClosedStory t c.args.passes.items book.story) c.self.view_is
          (is_closed _ book c.self.inside.quotas.items seats c.args.passes.items c.self.invariant c.unseat.ensures.rest c.unseat.ensures.same closed c.close-in-Ok-close.ensures.lawful),
    )
