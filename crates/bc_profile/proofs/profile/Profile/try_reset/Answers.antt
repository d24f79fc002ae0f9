use Rattle.std.proofs.Common.{length, [], ◌∷◌, cond, arith}
use Rattle.bc_profile.specs.declared.event.Event.TheVariants.{Reset}
use Rattle.bc_profile.proofs.Calls.{room, may, told, reset_adds, reset_fits, less_spare}
use Rattle.bc_profile.proofs.profile.Profile.try_reset.Goals as goal

pub reset-done-requires : goal.reset-done-requires
reset-done-requires g c = record {
  room = room _ c.args.self.now c.pass.inside.turn c.pass.inside.hold c.args.pass.now c.self.view_is c.pass.view_is c.pass.invariant c.requires.pass c.take-book.new.pass c.take-book.result c.take-book.ensures.took 1 (omega arith) c.requires.spare;
}

pub give-requires-clause-held : goal.give-requires-clause-held
give-requires-clause-held g c =
    may _ c.args.self.now c.pass.inside.turn c.pass.inside.hold c.args.pass.now c.self.view_is c.pass.view_is c.pass.invariant c.requires.pass c.take-book.new.pass c.take-book.result c.take-book.ensures.took
    c.reset-done.new.self (cond c.reset-done.result (Reset ∷ []) []) (reset_adds c.number.result c.take-book.new.pass.caller c.take-book.result c.reset-done.new.self c.reset-done.result c.reset-done.ensures.made c.number.ensures)
    (less_spare c.args.self.now c.args.pass.now (length (cond c.reset-done.result (Reset ∷ []) [])) 1 (reset_fits c.reset-done.result) c.requires.spare)

pub returns-clause-made : goal.returns-clause-made
returns-clause-made g c =
    told _ c.args.self.now c.pass.inside.turn c.pass.inside.hold c.args.pass.now c.self.view_is c.pass.view_is c.pass.invariant c.requires.pass c.take-book.new.pass c.take-book.result c.take-book.ensures.took
    c.reset-done.new.self (cond c.reset-done.result (Reset ∷ []) []) (reset_adds c.number.result c.take-book.new.pass.caller c.take-book.result c.reset-done.new.self c.reset-done.result c.reset-done.ensures.made c.number.ensures)
    (less_spare c.args.self.now c.args.pass.now (length (cond c.reset-done.result (Reset ∷ []) [])) 1 (reset_fits c.reset-done.result) c.requires.spare)
    c.give.new.pass c.give.ensures.gave c.pass.inside.hold
