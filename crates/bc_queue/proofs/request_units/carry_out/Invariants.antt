use Rattle.std.proofs.Common.{◌≡◌}
use Rattle.bc_queue.specs.Carrying.{CarriesOut}
use Rattle.bc_queue.proofs.request_units.carry_out.Given as goal

abbrev pub invariant-loop-done : goal.invariant-loop-done
invariant-loop-done g l =
    (l.access ≡ l.fn.access) × g.A.UnitAccess.is_ready l.access l.pass
    × CarriesOut (g.A.UnitAccess.facts l.fn.access l.fn.pass) (g.A.UnitAccess.facts l.access l.pass) l.fn.request l.request l.fn.first l.done
