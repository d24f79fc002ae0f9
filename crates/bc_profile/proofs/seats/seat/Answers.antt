use Rattle.std.proofs.Common.{rules, [], ◌∷◌, sym, subst}
use Rattle.bc_base.specs.Lists.{Each}
use Rattle.bc_base.proofs.Lists.{each_back, each_reverse}
use Rattle.bc_profile.specs.Passes.{HasOneAtRest, pass_of}
use Rattle.bc_profile.proofs.SeatLemmas.{none_moved}
use Rattle.bc_profile.proofs.seats.seat.Goals as goal

pub loop-turn-init : goal.loop-turn-init
loop-turn-init c = record {
  moved = none_moved pass_of c.args.passes.now.items c.args.turns.items c.turn_round.new.items.items c.requires.empty c.turn_round.ensures.items;
  rest = subst (Each HasOneAtRest) (sym c.turn_round.ensures.items) (each_reverse HasOneAtRest c.args.turns.items c.requires.rest);
  room = search rules;
}

pub invariant_of-push_reserved : goal.invariant_of-push_reserved
invariant_of-push_reserved c =
    (each_back HasOneAtRest c.pop.new.self.items (c.in-Some.turn ∷ []) (subst (Each HasOneAtRest) c.in-Some.ensures.items c.loop-turn.invariant.rest)).0
