use Rattle.std.proofs.Common.{length, arith}
use Rattle.bc_profile.specs.Story.{IsGone}
use Rattle.bc_profile.proofs.Calls.{room, may, front, evict_few, few_by, less_spare, either_way, evicts, refuses}
use Rattle.bc_profile.proofs.profile.Profile.evict.Goals as goal

pub evict-evicted-requires : goal.evict-evicted-requires
evict-evicted-requires g c = record {
  room = room _ c.args.self.now c.pass.inside.turn c.pass.inside.hold c.args.pass.now c.self.view_is c.pass.view_is c.pass.invariant c.requires.pass c.take-book.new.pass c.take-book.result c.take-book.ensures.took 1 (omega arith) c.requires.spare;
}

pub give-requires-clause-held : goal.give-requires-clause-held
give-requires-clause-held g c =
    let few = few_by c.number.result c.take-book.new.pass.caller c.take-book.result c.evict-evicted.new.self c.number.ensures
    (evict_few (λ b. b.slot) (λ b. b.refs) c.number.result c.args.key.0 c.take-book.result c.evict-evicted.new.self c.evict-evicted.result c.evict-evicted.ensures.evicted) in
    may _ c.args.self.now c.pass.inside.turn c.pass.inside.hold c.args.pass.now c.self.view_is c.pass.view_is c.pass.invariant c.requires.pass c.take-book.new.pass c.take-book.result c.take-book.ensures.took
    c.evict-evicted.new.self few.events few.adds (less_spare c.args.self.now c.args.pass.now (length few.events) 1 few.few c.requires.spare)

pub returns-clause-evicted : goal.returns-clause-evicted
returns-clause-evicted g c =
    let few = few_by c.number.result c.take-book.new.pass.caller c.take-book.result c.evict-evicted.new.self c.number.ensures
    (evict_few (λ b. b.slot) (λ b. b.refs) c.number.result c.args.key.0 c.take-book.result c.evict-evicted.new.self c.evict-evicted.result c.evict-evicted.ensures.evicted) in
    either_way c.evict-evicted.result _ _ _ _ (IsGone c.evict-evicted.new.self.count c.evict-evicted.new.self.story c.args.key.0)
    (λ u gone empties. evicts _ c.args.self.now c.pass.inside.turn c.pass.inside.hold c.args.pass.now c.self.view_is c.pass.view_is c.pass.invariant c.requires.pass c.take-book.new.pass c.take-book.result c.take-book.ensures.took
    c.evict-evicted.new.self c.number.result c.number.ensures c.requires.spare c.give.new.pass c.give.ensures.gave c.pass.inside.hold c.args.key.0 empties
    (front _ c.args.self.now c.pass.inside.turn c.pass.inside.hold c.args.pass.now c.self.view_is c.pass.view_is c.pass.invariant c.requires.pass c.take-book.new.pass c.take-book.result c.take-book.ensures.took
    c.evict-evicted.new.self few.events few.adds (less_spare c.args.self.now c.args.pass.now (length few.events) 1 few.few c.requires.spare) c.give.new.pass c.give.ensures.gave (λ n l. IsGone n l c.args.key.0) gone))
    (λ b busy. refuses _ c.args.self.now c.pass.inside.turn c.pass.inside.hold c.args.pass.now c.self.view_is c.pass.view_is c.pass.invariant c.requires.pass c.take-book.new.pass c.take-book.result c.take-book.ensures.took
    c.evict-evicted.new.self c.number.result c.number.ensures c.requires.spare c.give.new.pass c.give.ensures.gave c.pass.inside.hold c.args.key.0 b.slot b.refs busy)
    c.evict-evicted.ensures.gone c.evict-evicted.ensures.evicted
