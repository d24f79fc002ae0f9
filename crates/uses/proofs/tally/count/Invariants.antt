use Rattle.std.proofs.Common.{◌≡◌}
use Rattle.uses.specs.Tallies.{IsReadyPass}
use Rattle.uses.proofs.tally.count.Given as goal

abbrev pub invariant-loop : goal.invariant-loop
invariant-loop g l = IsReadyPass l.turns l.pass × (l.pass.caller ≡ l.fn.pass.caller)
