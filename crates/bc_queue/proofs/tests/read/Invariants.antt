use Rattle.std.proofs.Common.{◌≡◌, length}
use Rattle.bc_queue.proofs.tests.read.Given as goal

abbrev pub invariant-loop-index : goal.invariant-loop-index
invariant-loop-index l = length l.list.items ≡ l.index
