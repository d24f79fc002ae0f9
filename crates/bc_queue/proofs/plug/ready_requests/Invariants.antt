use Rattle.std.proofs.Common.{◌≡◌, ◌≤◌, ◌-◌, vec_len, vec_capacity}
use Rattle.std.specs.List.{AllByRecursion}
use Rattle.bc_queue.specs.declared.plug.TheConstants.{MAX_PLUGGED}
use Rattle.bc_queue.specs.Plugs.{IsReady}
use Rattle.bc_queue.proofs.plug.ready_requests.Given as goal

abbrev pub invariant-loop-alloc : goal.invariant-loop-alloc
invariant-loop-alloc l =
    (vec_len l.ready ≤ MAX_PLUGGED) × (vec_capacity l.ready ≡ MAX_PLUGGED) × AllByRecursion IsReady l.ready.items

abbrev pub decreases-loop-alloc : goal.decreases-loop-alloc
decreases-loop-alloc l = MAX_PLUGGED - vec_len l.ready
