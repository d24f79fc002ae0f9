use Rattle.bc_profile.specs.Passes.{slots_in}
use Rattle.bc_profile.proofs.Calls.{gets_more, then_these}
use Rattle.bc_profile.proofs.profile.Profile.get.Goals as goal

pub returns-in-Ok-clause-got : goal.returns-in-Ok-clause-got
returns-in-Ok-clause-got g c =
    gets_more (slots_in c.args.self.now) c.args.pass.now c.loop.pass c.try_get.new.pass c.args.key.0 c.in-Ok.hold.slot c.loop.invariant.noticed c.in-Ok.ensures.got

pub loop-preserved : goal.loop-preserved
loop-preserved g c = record {
  pass = c.in_default.ensures.pass;
  free = c.in_default.ensures.none.0;
  noticed = then_these c.args.pass.now c.loop.pass c.try_get.new.pass _ c.loop.invariant.noticed c.in_default.ensures.none.1;
}
