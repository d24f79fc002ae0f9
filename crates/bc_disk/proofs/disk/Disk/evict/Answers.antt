use Rattle.std.proofs.Common.{◌≡◌, ◌+◌, true, length, subst, sym, ap, ◌∙◌, arith}
use Rattle.std.specs.Option.{option_or}
use Rattle.std.specs.Result.{result_err}
use Rattle.bc_disk.specs.Disks.{facts_on, goes_inline, keys_in}
use Rattle.bc_disk.specs.Evictions.{AsksFirst, AsksEach}
use Rattle.bc_disk.proofs.Evictions.{asks_none, asks_next, asked_by, asks_one, room_none, room_next}
use Rattle.bc_disk.proofs.disk.Disk.evict.Goals as goal

pub loop-device-init : goal.loop-device-init
loop-device-init g c = record {
  pass = c.requires.pass;
  asked = asks_none (facts_on g.S.Store.contents c.args.self.now c.args.pass.now) c.args.key.0;
  room = room_none c.args.self.now c.args.pass.now;
}

pub ask-answer-requires-clause-pass : goal.ask-answer-requires-clause-pass
ask-answer-requires-clause-pass g c = c.loop-device.invariant.pass

pub ask-answer-requires-clause-events : goal.ask-answer-requires-clause-events
ask-answer-requires-clause-events g c =
    let targets : c.children-device-end.result ≡ length c.args.self.now.targets = c.children-device-end.ensures.count ∙ ap (λ d. length d.targets) c.self.view_is in
    let inline : goes_inline c.args.self.now.targets (keys_in c.args.self.now) c.args.key ≡ true = sym c.is_inline.ensures ∙ c.if-not-is_inline.false in
    let one = asks_one c.args.self.now c.args.key inline in
    let all = c.requires.events c.loop-device.device (omega (arith, c.loop-device-test.true, targets)) in
    let left = c.loop-device.invariant.room.left c.loop-device.device (omega arith) in
    omega (arith, one, all, left)

pub loop-device-preserved : goal.loop-device-preserved
loop-device-preserved g c =
    let facts = facts_on g.S.Store.contents c.args.self.now in
    let first : c.or-refused.result ≡ option_or c.loop-device.refused (result_err c.ask-answer.result) = c.or-refused.ensures ∙ ap (option_or c.loop-device.refused) c.err.ensures.value in record {
      pass = c.ask-answer.ensures.pass;
      asked =
          subst (λ o. AsksFirst (c.loop-device.device + 1) (facts c.args.pass.now) (facts c.ask-answer.new.pass) c.args.key.0 o) (sym first)
          (asks_next c.loop-device.device c.args.key.0 (facts c.args.pass.now) (facts c.loop-device.pass) (facts c.ask-answer.new.pass) c.loop-device.refused (result_err c.ask-answer.result) c.loop-device.invariant.asked
          (asked_by (facts c.loop-device.pass) (facts c.ask-answer.new.pass) c.loop-device.device c.args.key.0 c.ask-answer.result c.ask-answer.ensures.asks));
      room = room_next c.args.self.now c.args.pass.now c.loop-device.pass c.ask-answer.new.pass c.loop-device.device c.loop-device.invariant.room c.ask-answer.ensures.events;
    }

pub returns-in-Some-clause-pass : goal.returns-in-Some-clause-pass
returns-in-Some-clause-pass g c = c.loop-device.invariant.pass

pub returns-in-Some-clause-inline : goal.returns-in-Some-clause-inline
returns-in-Some-clause-inline g c inline =
    let facts = facts_on g.S.Store.contents c.args.self.now in
    let targets : c.children-device-end.result ≡ length c.args.self.now.targets = c.children-device-end.ensures.count ∙ ap (λ d. length d.targets) c.self.view_is in
    let all : c.loop-device.device ≡ length c.args.self.now.targets = omega (arith, c.loop-device-test.false, c.loop-device.auto.device-end, targets) in
    subst (λ o. AsksEach (facts c.args.pass.now) (facts c.loop-device.pass) c.args.key.0 o) c.in-Some.is
    (subst (λ n. AsksFirst n (facts c.args.pass.now) (facts c.loop-device.pass) c.args.key.0 c.loop-device.refused) all c.loop-device.invariant.asked)

pub returns-in-Some-clause-events : goal.returns-in-Some-clause-events
returns-in-Some-clause-events g c device =
    let inline : goes_inline c.args.self.now.targets (keys_in c.args.self.now) c.args.key ≡ true = sym c.is_inline.ensures ∙ c.if-not-is_inline.false in
    let one = asks_one c.args.self.now c.args.key inline in
    let spent = c.loop-device.invariant.room.spent device in
    omega (arith, one, spent)

pub returns-in-None-clause-pass : goal.returns-in-None-clause-pass
returns-in-None-clause-pass g c = c.loop-device.invariant.pass

pub returns-in-None-clause-inline : goal.returns-in-None-clause-inline
returns-in-None-clause-inline g c inline =
    let facts = facts_on g.S.Store.contents c.args.self.now in
    let targets : c.children-device-end.result ≡ length c.args.self.now.targets = c.children-device-end.ensures.count ∙ ap (λ d. length d.targets) c.self.view_is in
    let all : c.loop-device.device ≡ length c.args.self.now.targets = omega (arith, c.loop-device-test.false, c.loop-device.auto.device-end, targets) in
    subst (λ o. AsksEach (facts c.args.pass.now) (facts c.loop-device.pass) c.args.key.0 o) c.in-None.is
    (subst (λ n. AsksFirst n (facts c.args.pass.now) (facts c.loop-device.pass) c.args.key.0 c.loop-device.refused) all c.loop-device.invariant.asked)

pub returns-in-None-clause-events : goal.returns-in-None-clause-events
returns-in-None-clause-events g c device =
    let inline : goes_inline c.args.self.now.targets (keys_in c.args.self.now) c.args.key ≡ true = sym c.is_inline.ensures ∙ c.if-not-is_inline.false in
    let one = asks_one c.args.self.now c.args.key inline in
    let spent = c.loop-device.invariant.room.spent device in
    omega (arith, one, spent)
