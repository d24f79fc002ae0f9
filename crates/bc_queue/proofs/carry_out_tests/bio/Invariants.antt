use Rattle.std.proofs.Common.{◌≡◌, length}
use Rattle.bc_base.specs.Lists.{Each}
use Rattle.bc_bio.specs.Conditions.{IsFull}
use Rattle.bc_queue.proofs.carry_out_tests.bio.Given as goal

abbrev pub invariant-loop-index : goal.invariant-loop-index
invariant-loop-index l = (length l.list.items ≡ l.index) × Each (IsFull 1) l.list.items
