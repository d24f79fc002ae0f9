use Rattle.std.proofs.Common.{◌∙◌, length, sym, ap, subst}
use Rattle.std.specs.Prelude.{vec_capacity}
use Rattle.std.proofs.lemmas.List.{get_or_default}
use Rattle.bc_profile.specs.Story.{Holds}
use Rattle.bc_profile.specs.Book.{HasRoom}
use Rattle.bc_profile.proofs.BookLemmas.{programs, program_holds, holds_at, epoch_inside}
use Rattle.bc_profile.proofs.book.Book.take_hold.Goals as goal

pub invariant_of-self-in-Programmed : goal.invariant_of-self-in-Programmed
invariant_of-self-in-Programmed c =
    let b = c.self.inside in let t = c.in-Programmed.ensures in
    programs b.table b.epochs.items b.story.items b.limit (vec_capacity b.story) c.self.invariant c.take_hold.new.self c.push_reserved.new.self.items (vec_capacity c.push_reserved.new.self)
    c.args.caller c.in-Programmed.slot c.args.key c.in-Programmed.skipped (subst HasRoom (sym c.self.view_is) c.requires.room) t.0 (ap (λ z. z.slots) t.3) c.push_reserved.ensures.items c.push_reserved.ensures.capacity
    c.len-epoch.result (c.len-epoch.ensures ∙ b.story.ok.0)

pub returns-in-Programmed-clause-holds : goal.returns-in-Programmed-clause-holds
returns-in-Programmed-clause-holds c =
    let b = c.self.inside in let t = c.in-Programmed.ensures in
    program_holds b.table b.epochs.items b.story.items b.limit (vec_capacity b.story) c.self.invariant c.take_hold.new.self c.push_reserved.new.self.items (vec_capacity c.push_reserved.new.self)
    c.args.caller c.in-Programmed.slot c.args.key c.in-Programmed.skipped (subst HasRoom (sym c.self.view_is) c.requires.room) t.0 (ap (λ z. z.slots) t.3) c.push_reserved.ensures.items c.push_reserved.ensures.capacity
    c.len-epoch.result (c.len-epoch.ensures ∙ b.story.ok.0)

pub returns-in-Found-clause-holds : goal.returns-in-Found-clause-holds
returns-in-Found-clause-holds c =
    let b = c.self.inside in let t = c.in-Found.ensures in
    let inside = epoch_inside b.table b.epochs.items b.story.items b.limit (vec_capacity b.story) c.self.invariant c.in-Found.slot c.args.key t.0 in
    subst (λ n. Holds n b.story.items c.args.key c.in-Found.slot c.index.result.now) (ap (λ z. length z.slots.keys) (sym t.1))
    (subst (Holds (length b.table.slots.keys) b.story.items c.args.key c.in-Found.slot) (sym (c.index.ensures ∙ get_or_default b.epochs.items c.in-Found.slot c.index.result.now 0 inside))
    (holds_at b.table b.epochs.items b.story.items b.limit (vec_capacity b.story) c.self.invariant c.in-Found.slot c.args.key t.0))
