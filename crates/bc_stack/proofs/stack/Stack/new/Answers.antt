use Rattle.bc_stack.proofs.StackLaws.{stack_stands}
use Rattle.bc_stack.proofs.stack.Stack.new.Goals as goal

pub invariant_of-result : goal.invariant_of-result
invariant_of-result c = rw c.in_ok-from_slice.ensures.items (stack_stands _ _ c.requires c.in_ok-check.ensures.accepts)
