use Rattle.std.proofs.Common.{[], ◌∷◌, length, ap, ◌∙◌, arith, length-append}
use Rattle.bc_disk.proofs.Joins.{moved_back, passes_last}
use Rattle.bc_disk.proofs.opening.passes_of.Goals as goal

pub loop-units-preserved : goal.loop-units-preserved
loop-units-preserved g c =
    let i = c.loop-units.invariant in let long = i.long in
    let pop = c.in-Some.ensures.items in let pop2 = c.in-Some-pop.ensures.items in
    let a = ap length pop ∙ length-append c.pop.new.self.items (c.in-Some.units ∷ []) in let b = ap length pop2 ∙ length-append c.pop-in-Some.new.self.items (c.in-Some-pop.slots ∷ []) in
    record {
      joined = moved_back _ _ c.loop-units.passes.items c.push.new.self.items _ _ (passes_last (λ row. row.items) c.loop-units.slots.items c.pop-in-Some.new.self.items c.loop-units.seats.items c.pop.new.self.items c.in-Some-pop.slots c.in-Some.units c.in_ok-pass_of.field-0 pop2 pop long c.in_ok-pass_of.ensures) c.in_ok-push.ensures.items i.joined;
      long = omega (arith, a, b, long);
    }
