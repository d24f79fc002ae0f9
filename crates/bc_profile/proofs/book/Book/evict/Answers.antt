use Rattle.std.proofs.Common.{sym, ap, subst}
use Rattle.std.specs.Prelude.{vec_capacity}
use Rattle.bc_profile.specs.Book.{HasRoom}
use Rattle.bc_profile.proofs.BookLemmas.{refuses, evicts, evicted_gone}
use Rattle.bc_profile.proofs.book.Book.evict.Goals as goal

pub invariant_of-self-in-Held : goal.invariant_of-self-in-Held
invariant_of-self-in-Held c =
    let b = c.self.inside in let t = c.in-Held.ensures in
    refuses b.table b.epochs.items b.story.items b.limit (vec_capacity b.story) c.self.invariant c.take_out.new.self c.push_reserved.new.self.items (vec_capacity c.push_reserved.new.self)
    c.args.caller c.in-Held.slot c.args.key c.in-Held.refs (subst HasRoom (sym c.self.view_is) c.requires.room) t.0 t.1 (ap (λ z. z.slots) t.3) c.push_reserved.ensures.items c.push_reserved.ensures.capacity

pub invariant_of-self-in-Taken : goal.invariant_of-self-in-Taken
invariant_of-self-in-Taken c =
    let b = c.self.inside in let t = c.in-Taken.ensures in
    evicts b.table b.epochs.items b.story.items b.limit (vec_capacity b.story) c.self.invariant c.take_out.new.self c.push_reserved-in-Taken.new.self.items (vec_capacity c.push_reserved-in-Taken.new.self)
    c.args.caller c.in-Taken.slot c.args.key (subst HasRoom (sym c.self.view_is) c.requires.room) t.0 (ap (λ z. z.slots) t.2) c.push_reserved-in-Taken.ensures.items c.push_reserved-in-Taken.ensures.capacity

pub returns-in-Taken-clause-gone : goal.returns-in-Taken-clause-gone
returns-in-Taken-clause-gone c =
    let b = c.self.inside in let t = c.in-Taken.ensures in
    evicted_gone b.table b.epochs.items b.story.items b.limit (vec_capacity b.story) c.self.invariant c.take_out.new.self c.push_reserved-in-Taken.new.self.items (vec_capacity c.push_reserved-in-Taken.new.self)
    c.args.caller c.in-Taken.slot c.args.key (subst HasRoom (sym c.self.view_is) c.requires.room) t.0 (ap (λ z. z.slots) t.2) c.push_reserved-in-Taken.ensures.items c.push_reserved-in-Taken.ensures.capacity
