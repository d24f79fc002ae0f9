use Rattle.std.proofs.Common.{rules, ◌≡◌, ◌∙◌, [], ◌∷◌, None, sym, ap, subst}
use Rattle.bc_base.specs.Lists.{Each}
use Rattle.bc_base.proofs.Lists.{each_append, each_back, each_front, each_reverse}
use Rattle.bc_profile.specs.Passes.{SlotFacts, HasOneAtRest, facts_of, pass_of}
use Rattle.bc_profile.proofs.SeatLemmas.{none_back, one_back}
use Rattle.bc_profile.proofs.seats.unseat.Goals as goal

pub loop-pass-init : goal.loop-pass-init
loop-pass-init c = record {
  moved = none_back pass_of c.args.turns.now.items c.args.passes.items c.turn_round.new.items.items c.requires.empty c.turn_round.ensures.items;
  free = subst (Each (λ (pass : SlotFacts). pass.hold ≡ None)) (sym c.turn_round.ensures.items) (each_reverse (λ (pass : SlotFacts). pass.hold ≡ None) c.args.passes.items c.requires.free);
  rest = subst (Each HasOneAtRest) (sym c.requires.empty) tt;
  room = search rules;
}

pub loop-pass-preserved : goal.loop-pass-preserved
loop-pass-preserved c =
    let all = subst (Each (λ (pass : SlotFacts). pass.hold ≡ None)) c.in-Some.ensures.items c.loop-pass.invariant.free in
    let none : c.pass.inside.hold ≡ None = ap (λ (f : SlotFacts). f.hold) c.pass.view_is ∙ (each_back (λ (pass : SlotFacts). pass.hold ≡ None) c.pop.new.self.items (c.in-Some.pass ∷ []) all).0 in
    record {
      moved = one_back pass_of c.loop-pass.turns.items c.push_reserved.new.self.items c.args.passes.items c.loop-pass.passes.items c.pop.new.self.items c.pass.inside.turn c.in-Some.pass c.in-Some.ensures.items
          (ap (facts_of c.pass.inside.turn) (sym none) ∙ c.pass.view_is) c.push_reserved.ensures.items c.loop-pass.invariant.moved;
      free = each_front (λ (pass : SlotFacts). pass.hold ≡ None) c.pop.new.self.items (c.in-Some.pass ∷ []) all;
      rest = subst (Each HasOneAtRest) (sym c.push_reserved.ensures.items) (each_append HasOneAtRest c.loop-pass.turns.items (c.pass.inside.turn ∷ []) c.loop-pass.invariant.rest (c.pass.invariant, tt));
      room = search rules;
    }
