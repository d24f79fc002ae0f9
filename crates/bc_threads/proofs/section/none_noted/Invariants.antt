use Rattle.std.proofs.Common.{◌≡◌, length}
use Rattle.bc_threads.proofs.section.none_noted.Given as goal

abbrev pub invariant-loop : goal.invariant-loop
invariant-loop l = record { count : length l.noted.items ≡ l.counter }
