use Rattle.std.proofs.Common.{◌≡◌, ◌+◌, length, sym, ◌∙◌, ap, subst, arith, length-append, [], ◌∷◌, ◌++◌, take, rules}
use Rattle.std.proofs.lemmas.List.{take_all, take_more}
use Rattle.uses.specs.declared.keyslots.SlotCall.TheVariants as calls
use Rattle.uses.specs.Keyslots.{AreTrueAnswers, progress, quota_in, to_the_end}
use Rattle.uses.proofs.SlotLemmas.{ToldBy, told_more}
use Rattle.uses.proofs.keyslots.carry_out_calls.Goals as goal

pub loop-call-preserved : goal.loop-call-preserved
loop-call-preserved g c =
    let i = c.loop-call.invariant in let push = c.push_reserved.ensures.items in let p = c.args.profile.now in
    let more = told_more c.hold_laws.ensures.stays p c.args.pass.caller c.loop-call.caller.pass c.carry_out.new.caller.pass (take c.loop-call.call-index c.args.calls.now) c.loop-call.told.items _ c.carry_out.result i.told c.carry_out.ensures.tells in
    record {
      stands = c.carry_out.ensures.stands;
      told = subst (ToldBy p c.args.pass.caller c.carry_out.new.caller.pass (take (c.loop-call.call-index + 1) c.args.calls.now)) (sym push)
          (subst (λ l. ToldBy p c.args.pass.caller c.carry_out.new.caller.pass l (c.loop-call.told.items ++ c.carry_out.result ∷ [])) (sym (take_more c.args.calls.now c.loop-call.call-index _ c.loop-call-test.true)) more);
      few = (let long = ap length push ∙ length-append c.loop-call.told.items (c.carry_out.result ∷ []) in let n = i.few in omega (arith, long, n));
      room = (let r = i.room in let k = c.push_reserved.ensures.capacity in omega (arith, r, k));
    }

pub returns : goal.returns
returns g c =
    let i = c.loop-call.invariant in let push = c.push_reserved-2.ensures.items in let p = c.args.profile.now in
    let more = told_more c.hold_laws.ensures.stays p c.args.pass.caller c.loop-call.caller.pass c.put.new.caller.pass (take c.loop-call.call-index c.args.calls.now) c.loop-call.told.items calls.Put c.put.result i.told c.put.ensures.tells in
    let all : take c.loop-call.call-index c.args.calls.now ≡ c.args.calls.now = take_all c.loop-call.call-index c.args.calls.now (search rules) in
    record {
      back = record {
        free = (c.put.ensures.stands.pass, c.put.ensures.stands.hold ∙ c.put.ensures.free);
        number = more.0;
        told = (
          progress c.put.new.caller.pass,
          subst (λ l. AreTrueAnswers p.rows (quota_in p c.args.pass.caller) c.args.pass.caller c.put.new.caller.pass.seen (to_the_end c.args.calls.now) l (progress c.put.new.caller.pass)) (sym push)
              (subst (λ l. AreTrueAnswers p.rows (quota_in p c.args.pass.caller) c.args.pass.caller c.put.new.caller.pass.seen (l ++ calls.Put ∷ []) (c.loop-call.told.items ++ c.put.result ∷ []) (progress c.put.new.caller.pass)) all more.1),
        );
      };
    }
