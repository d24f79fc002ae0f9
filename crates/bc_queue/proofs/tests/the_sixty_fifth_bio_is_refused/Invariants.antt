use Rattle.bc_queue.specs.Plugs.{AreRequests, IsPlug}
use Rattle.bc_queue.proofs.tests.the_sixty_fifth_bio_is_refused.Given as goal

abbrev pub invariant-loop-index : goal.invariant-loop-index
invariant-loop-index g l = IsPlug l.plug × AreRequests l.none.keys l.plug.requests
