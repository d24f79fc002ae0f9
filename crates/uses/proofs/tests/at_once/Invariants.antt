use Rattle.std.proofs.Common.{◌≡◌, length}
use Rattle.uses.proofs.tests.at_once.Given as goal

abbrev pub invariant-loop-caller : goal.invariant-loop-caller
invariant-loop-caller g l = length l.scripts.items ≡ l.caller
