use Rattle.std.proofs.Common.{◌<◌, ◌^◌, length, take}
use Rattle.bc_base.specs.Lists.{Each}
use Rattle.bc_threads.proofs.many_callers.lines_of.Given as goal

abbrev pub invariant-loop-order : goal.invariant-loop-order
invariant-loop-order l = record {
  few : Each (λ order. length order.items < 2 ^ 32) (take l.order-index l.orders);
}
