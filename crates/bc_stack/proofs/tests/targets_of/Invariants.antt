use Rattle.std.proofs.Common.{All}
use Rattle.bc_stack.specs.Targets.{HasSlots}
use Rattle.bc_stack.proofs.tests.targets_of.Given as goal

abbrev pub invariant-loop-first : goal.invariant-loop-first
invariant-loop-first l = All HasSlots l.targets.items
