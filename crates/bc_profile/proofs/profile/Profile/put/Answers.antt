use Rattle.std.proofs.Common.{◌-◌, length, None, arith}
use Rattle.std.specs.Prelude.{slice_set}
use Rattle.bc_profile.specs.Book.{events_of_put}
use Rattle.bc_profile.specs.SlotTable.{refs_of}
use Rattle.bc_profile.proofs.Calls.{room, may, told, adds_these, less_spare, put_fits, puts}
use Rattle.bc_profile.proofs.profile.Profile.put.Goals as goal

pub give_back-requires-clause-room : goal.give_back-requires-clause-room
give_back-requires-clause-room g c =
    room _ c.args.self.now c.pass.inside.turn c.pass.inside.hold c.args.pass.now c.self.view_is c.pass.view_is c.pass.invariant c.requires.pass c.take-book.new.pass c.take-book.result c.take-book.ensures.took 1 (omega arith) c.requires.spare

pub give-requires-clause-held : goal.give-requires-clause-held
give-requires-clause-held g c =
    let v = c.take-book.result in let left = refs_of v.refs c.slot.result - 1 in
    may _ c.args.self.now c.pass.inside.turn c.pass.inside.hold c.args.pass.now c.self.view_is c.pass.view_is c.pass.invariant c.requires.pass c.take-book.new.pass v c.take-book.ensures.took
    c.give_back.new.self (events_of_put c.slot.result left)
    (adds_these c.number.result c.take-book.new.pass.caller v c.give_back.new.self (events_of_put c.slot.result left) (slice_set v.refs c.slot.result left) c.give_back.ensures c.number.ensures)
    (less_spare c.args.self.now c.args.pass.now (length (events_of_put c.slot.result left)) 1 (put_fits c.slot.result left) c.requires.spare)

pub returns-clause-put : goal.returns-clause-put
returns-clause-put g c =
    let v = c.take-book.result in let left = refs_of v.refs c.slot.result - 1 in
    puts _ _ c.slot.result c.args.hold.slot left c.slot.ensures
    (told _ c.args.self.now c.pass.inside.turn c.pass.inside.hold c.args.pass.now c.self.view_is c.pass.view_is c.pass.invariant c.requires.pass c.take-book.new.pass v c.take-book.ensures.took
    c.give_back.new.self (events_of_put c.slot.result left)
    (adds_these c.number.result c.take-book.new.pass.caller v c.give_back.new.self (events_of_put c.slot.result left) (slice_set v.refs c.slot.result left) c.give_back.ensures c.number.ensures)
    (less_spare c.args.self.now c.args.pass.now (length (events_of_put c.slot.result left)) 1 (put_fits c.slot.result left) c.requires.spare)
    c.give.new.pass c.give.ensures.gave None)
