use Rattle.std.proofs.Common.{◌∙◌, ◌+◌, length, refl, sym, ap, subst, arith}
use Rattle.std.specs.Prelude.{vec_capacity}
use Rattle.std.proofs.lemmas.List.{length-append, get_or_default}
use Rattle.bc_base.specs.Lists.{EachFrom}
use Rattle.bc_profile.specs.Story.{Holds}
use Rattle.bc_profile.specs.Book.{IsHeldBy}
use Rattle.bc_profile.specs.SlotTable.{refs_of}
use Rattle.bc_profile.proofs.BookLemmas.{holds_at, epoch_inside, each_from_push}
use Rattle.bc_profile.proofs.book.Book.words.Goals as goal

pub loop-slot-preserved : goal.loop-slot-preserved
loop-slot-preserved c =
    let b = c.self.inside in
    let slot = c.loop-slot.slot in
    let has = sym c.key.ensures.key ∙ c.in-Some.is in
    let inside = epoch_inside b.table b.epochs.items b.story.items b.limit (vec_capacity b.story) c.self.invariant slot c.in-Some.key has in
    let holds = subst (λ o. Holds o.count o.story c.in-Some.key slot c.index.result.now) c.self.view_is
    (subst (Holds (length b.table.slots.keys) b.story.items c.in-Some.key slot) (sym (c.index.ensures ∙ get_or_default b.epochs.items slot c.index.result.now 0 inside))
    (holds_at b.table b.epochs.items b.story.items b.limit (vec_capacity b.story) c.self.invariant slot c.in-Some.key has)) in
    record {
      many = ap length c.push.ensures ∙ length-append c.loop-slot.words _ ∙ ap (λ n. n + 1) c.loop-slot.invariant.many;
      each = subst (EachFrom (IsHeldBy c.args.self.now) 0) (sym c.push.ensures)
          (each_from_push (IsHeldBy c.args.self.now) 0 slot c.loop-slot.words _ c.loop-slot.invariant.each (let m = c.loop-slot.invariant.many in omega (arith, m))
          (record { refs = c.refs.ensures ∙ ap (λ o. refs_of o.refs slot) c.self.view_is; ready = refl; holds = holds }));
    }
