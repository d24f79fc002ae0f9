use Rattle.std.proofs.Common.{◌<◌, sym, ap, subst}
use Rattle.std.specs.Prelude.{vec_capacity}
use Rattle.bc_profile.specs.Book.{HasRoom}
use Rattle.bc_profile.proofs.BookLemmas.{idles}
use Rattle.bc_profile.proofs.book.Book.give_back.Goals as goal

pub invariant_of-self : goal.invariant_of-self
invariant_of-self c =
    let b = c.self.inside in let t = c.if-give_back.ensures in
    idles b.table b.epochs.items b.story.items b.limit (vec_capacity b.story) c.self.invariant c.give_back.new.self c.push_reserved.new.self.items (vec_capacity c.push_reserved.new.self)
    c.args.caller c.args.slot (subst HasRoom (sym c.self.view_is) c.requires.room) (subst (λ o. c.args.slot < o.count) (sym c.self.view_is) c.requires.slot) (ap (λ z. z.slots) t.1) c.push_reserved.ensures.items c.push_reserved.ensures.capacity
