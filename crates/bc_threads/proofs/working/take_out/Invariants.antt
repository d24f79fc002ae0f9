use Rattle.std.proofs.Common.{◌≡◌, vec_capacity}
use Rattle.bc_threads.proofs.Outcomes.{AreOut}
use Rattle.bc_threads.proofs.working.take_out.Given as goal

abbrev pub invariant-loop-op : goal.invariant-loop-op
invariant-loop-op l = record {
  out : AreOut l.fn.noted l.noted l.op l.outcomes.items;
  room : vec_capacity l.outcomes ≡ vec_capacity l.fn.outcomes;
}
