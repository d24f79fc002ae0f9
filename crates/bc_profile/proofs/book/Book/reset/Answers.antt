use Rattle.std.proofs.Common.{sym, subst}
use Rattle.std.specs.Prelude.{vec_capacity}
use Rattle.bc_profile.specs.Book.{HasRoom}
use Rattle.bc_profile.proofs.BookLemmas.{resets}
use Rattle.bc_profile.proofs.book.Book.reset.Goals as goal

pub invariant_of-self : goal.invariant_of-self
invariant_of-self c =
    let b = c.self.inside in
    resets b.table b.epochs.items b.story.items b.limit (vec_capacity b.story) c.self.invariant c.push_reserved.new.self.items (vec_capacity c.push_reserved.new.self) c.args.caller
    (subst HasRoom (sym c.self.view_is) c.requires.room) c.push_reserved.ensures.items c.push_reserved.ensures.capacity
