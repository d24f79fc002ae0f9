use Rattle.std.proofs.Common.{ap, sym, ◌∙◌, subst, arith, length, inl}
use Rattle.bc_turn.specs.Turning.{mine}
use Rattle.bc_turn.specs.PassParts.{GoesOn}
use Rattle.bc_turn.proofs.Passes.{count_more, held_is}
use Rattle.bc_turn.proofs.post.Post.give.Goals as goal

pub overflow_add-self : goal.overflow_add-self
overflow_add-self g c =
    let has = ap (λ q. q.holds) c.self.view_is ∙ c.requires.held in
    let story = subst (λ q. GoesOn g.V.Story.entries_of g.V.Story.keeps g.V.Story.by q c.args.value) (sym c.self.view_is) c.requires.story in
    let held = held_is g.V.Story.by c.self.inside.seat c.self.inside.made c.self.inside.held c.self.invariant has in
    let k = count_more g.V.Story.by _ (mine c.self.inside.seat.me.0).seen story.0.0 _ c.self.inside.made c.self.inside.held c.entries-count.result story.0.1 story.0.2 c.self.invariant.1 held c.entries-count.ensures in
    let small = story.2 in omega arith

pub invariant_of-self : goal.invariant_of-self
invariant_of-self g c =
    let has = ap (λ q. q.holds) c.self.view_is ∙ c.requires.held in
    let story = subst (λ q. GoesOn g.V.Story.entries_of g.V.Story.keeps g.V.Story.by q c.args.value) (sym c.self.view_is) c.requires.story in
    let held = held_is g.V.Story.by c.self.inside.seat c.self.inside.made c.self.inside.held c.self.invariant has in
    let k = count_more g.V.Story.by _ (mine c.self.inside.seat.me.0).seen story.0.0 _ c.self.inside.made c.self.inside.held c.entries-count.result story.0.1 story.0.2 c.self.invariant.1 held c.entries-count.ensures in
    let e = c.give.ensures in
    (inl e.gave.0, k.1 ∙ ap (λ n. length (Rattle.bc_base.specs.Story.own g.V.Story.by n (g.V.Story.entries_of c.args.value))) (sym e.seat.3) ∙ ap (λ l. length (Rattle.bc_base.specs.Story.own g.V.Story.by (mine c.give.new.place.me.0).number l)) (sym e.gave.1))
