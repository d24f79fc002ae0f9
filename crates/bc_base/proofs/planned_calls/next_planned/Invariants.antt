use Rattle.std.proofs.Common.{take}
use Rattle.bc_base.specs.RamStores.{PlansNext}
use Rattle.bc_base.proofs.planned_calls.next_planned.Given as goal

abbrev pub invariant-loop-number : goal.invariant-loop-number
invariant-loop-number l = PlansNext (take l.number-index l.plan) l.from l.next
