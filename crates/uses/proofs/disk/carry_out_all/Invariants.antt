use Rattle.std.proofs.Common.{◌≡◌}
use Rattle.bc_medium.specs.Medium.{Belongs}
use Rattle.uses.proofs.disk.carry_out_all.Given as goal

abbrev pub invariant-loop-step : goal.invariant-loop-step
invariant-loop-step g l = Belongs l.medium l.pass × (l.pass.caller ≡ l.fn.pass.caller)
