use Rattle.bc_queue.specs.Plugs.{AreRequests, IsPlug}
use Rattle.bc_queue.proofs.tests.bios_that_run_on_make_one_request.Given as goal

abbrev pub invariant-loop-sector : goal.invariant-loop-sector
invariant-loop-sector g l = IsPlug l.plug × AreRequests l.none.keys l.plug.requests
