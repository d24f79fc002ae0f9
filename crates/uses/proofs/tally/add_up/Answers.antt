use Rattle.std.proofs.Common.{sym, ◌∙◌, arith}
use Rattle.bc_turn.specs.PassParts.{new_pass}
use Rattle.uses.proofs.Tallies.{as_many, new_is_ready, two_popped}
use Rattle.uses.proofs.tally.add_up.Goals as goal

pub count_both-first-requires-clause-first : goal.count_both-first-requires-clause-first
count_both-first-requires-clause-first g c κs within =
    let t = c.in_ok-turns.turns in let e = c.in_ok-turns.ensures in
    let popped = two_popped (new_pass t.cells 0) (new_pass t.cells 1) c.in-Some.second c.in-Some-pop.first _ _ (sym e.passes ∙ c.in-Some.ensures.items) c.in-Some-pop.ensures.items in
    let callers = e.callers in
    new_is_ready 0 t c.in-Some-pop.first popped.0 (omega arith) (as_many t.cells _ c.push.new.self.items _ _ _ e.bases c.in_ok-push.ensures.items)

pub count_both-first-requires-clause-second : goal.count_both-first-requires-clause-second
count_both-first-requires-clause-second g c κs within =
    let t = c.in_ok-turns.turns in let e = c.in_ok-turns.ensures in
    let popped = two_popped (new_pass t.cells 0) (new_pass t.cells 1) c.in-Some.second c.in-Some-pop.first _ _ (sym e.passes ∙ c.in-Some.ensures.items) c.in-Some-pop.ensures.items in
    let callers = e.callers in
    new_is_ready 1 t c.in-Some.second popped.1 (omega arith) (as_many t.cells _ c.push.new.self.items _ _ _ e.bases c.in_ok-push.ensures.items)
