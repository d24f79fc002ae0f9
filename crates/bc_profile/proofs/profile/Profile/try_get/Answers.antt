use Rattle.std.proofs.Common.{◌<◌, ◌∙◌, length, [], Some, ap, sym, subst, arith}
use Rattle.std.proofs.lemmas.List.{get_or_default}
use Rattle.bc_profile.specs.Rows.{cleared}
use Rattle.bc_profile.specs.Story.{Holds}
use Rattle.bc_profile.specs.Passes.{IsHold, AllFoundHeld, Gets, facts_of, row_at, seen_of, slots_in}
use Rattle.bc_profile.proofs.Epochs.{held_programmed, held_inside}
use Rattle.bc_profile.proofs.Calls.{room, may, told, front, is_of, takes_few, few_by, adds_nothing, less_spare, gets, all_found}
use Rattle.bc_profile.proofs.profile.Profile.try_get.Goals as goal

pub take_hold-taken-requires : goal.take_hold-taken-requires
take_hold-taken-requires g c = record {
  room = room _ c.args.self.now c.pass.inside.turn c.pass.inside.hold c.args.pass.now c.self.view_is c.pass.view_is c.pass.invariant c.requires.pass c.take-book.new.pass c.take-book.result c.take-book.ensures.took 2 (omega arith) c.requires.spare;
}

pub returns-in_default-clause-none : goal.returns-in_default-clause-none
returns-in_default-clause-none g c =
    let same = c.in_default.ensures.none.1 in
    let fit = less_spare c.args.self.now c.args.pass.now 0 2 (omega arith) c.requires.spare in
    let adds = adds_nothing c.take-book.new.pass.caller c.take-book.result c.take_hold-taken.new.self same in (
      ap (λ f. f.hold) c.pass.view_is ∙ c.requires.free,
      told _ c.args.self.now c.pass.inside.turn c.pass.inside.hold c.args.pass.now c.self.view_is c.pass.view_is c.pass.invariant c.requires.pass c.take-book.new.pass c.take-book.result c.take-book.ensures.took
          c.take_hold-taken.new.self [] adds fit c.give.new.pass c.give.ensures.gave c.pass.inside.hold,
      front _ c.args.self.now c.pass.inside.turn c.pass.inside.hold c.args.pass.now c.self.view_is c.pass.view_is c.pass.invariant c.requires.pass c.take-book.new.pass c.take-book.result c.take-book.ensures.took
          c.take_hold-taken.new.self [] adds fit c.give.new.pass c.give.ensures.gave (λ n l. AllFoundHeld n l c.args.key.0 c.words-words.result)
          (all_found c.take-book.result c.take_hold-taken.new.self c.args.key.0 c.words-words.result same c.in_default.ensures.none.0 c.words-words.ensures.words c.words-words.ensures.count),
    )

pub give-requires-2-clause-held : goal.give-requires-2-clause-held
give-requires-2-clause-held g c =
    let few = few_by c.number.result c.take-book.new.pass.caller c.take-book.result c.take_hold-taken.new.self c.number.ensures (takes_few c.number.result c.args.key.0 c.in-Some.slot c.take-book.result c.take_hold-taken.new.self c.in-Some.ensures.taken) in
    may _ c.args.self.now c.pass.inside.turn c.pass.inside.hold c.args.pass.now c.self.view_is c.pass.view_is c.pass.invariant c.requires.pass c.take-book.new.pass c.take-book.result c.take-book.ensures.took
    c.take_hold-taken.new.self few.events few.adds (less_spare c.args.self.now c.args.pass.now (length few.events) 2 (let f = few.few in omega (arith, f)) c.requires.spare)

pub returns-clause-pass : goal.returns-clause-pass
returns-clause-pass g c =
    let few = few_by c.number.result c.take-book.new.pass.caller c.take-book.result c.take_hold-taken.new.self c.number.ensures (takes_few c.number.result c.args.key.0 c.in-Some.slot c.take-book.result c.take_hold-taken.new.self c.in-Some.ensures.taken) in
    let fit = less_spare c.args.self.now c.args.pass.now (length few.events) 2 (let f = few.few in omega (arith, f)) c.requires.spare in
    let holds = front _ c.args.self.now c.pass.inside.turn c.pass.inside.hold c.args.pass.now c.self.view_is c.pass.view_is c.pass.invariant c.requires.pass c.take-book.new.pass c.take-book.result c.take-book.ensures.took
    c.take_hold-taken.new.self few.events few.adds fit c.give-2.new.pass c.give-2.ensures.gave (λ n l. Holds n l c.args.key.0 c.in-Some.slot c.in-Some.epoch) c.in-Some.ensures.holds in
    let inside = subst (λ z. c.args.key.0 < length z.rows) (sym c.self.view_is) c.requires.key in
    let row = c.index.ensures ∙ get_or_default c.self.inside.rows.items c.args.key.0 c.index.result.now cleared inside ∙ ap (λ z. row_at z c.args.key.0) c.self.view_is in
    is_of _ c.args.self.now c.pass.inside.turn c.pass.inside.hold c.args.pass.now c.self.view_is c.pass.view_is c.pass.invariant c.requires.pass c.take-book.new.pass c.take-book.result c.take-book.ensures.took
    c.take_hold-taken.new.self few.events few.adds fit c.give-2.new.pass c.give-2.ensures.gave (Some c.again.result)
    (subst (IsHold c.args.self.now (seen_of c.give-2.new.pass.parts)) (sym (c.again.ensures ∙ c.new-hold.ensures))
    (record {
      is_slot = held_inside (slots_in c.args.self.now) (seen_of c.give-2.new.pass.parts) c.args.key.0 c.in-Some.slot c.in-Some.epoch holds;
      programmed = held_programmed (slots_in c.args.self.now) (seen_of c.give-2.new.pass.parts) c.args.key.0 c.in-Some.slot c.in-Some.epoch holds;
      row = row;
    }))

pub returns-clause-got : goal.returns-clause-got
returns-clause-got g c =
    subst (λ n. Gets (slots_in c.args.self.now) c.args.pass.now (facts_of c.give-2.new.pass (Some c.again.result)) c.args.key.0 n) (sym (ap (λ h. h.slot) c.new-hold.ensures))
    (gets _ c.args.self.now c.pass.inside.turn c.pass.inside.hold c.args.pass.now c.self.view_is c.pass.view_is c.pass.invariant c.requires.pass c.take-book.new.pass c.take-book.result c.take-book.ensures.took
    c.take_hold-taken.new.self c.number.result c.number.ensures (less_spare c.args.self.now c.args.pass.now 1 2 (omega arith) c.requires.spare) c.give-2.new.pass c.give-2.ensures.gave (Some c.again.result) c.args.key.0 c.in-Some.slot c.in-Some.ensures.taken)
