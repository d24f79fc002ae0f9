use Rattle.std.proofs.Common.{◌≡◌}
use Rattle.bc_profile.specs.Passes.{IsFree}
use Rattle.bc_speed.proofs.profiles.hold_keys.Given as goal

abbrev pub invariant-loop : goal.invariant-loop
invariant-loop g l = IsFree l.profile l.pass × (l.pass.caller ≡ l.fn.pass.caller)
