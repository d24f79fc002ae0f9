use Rattle.bc_profile.specs.Passes.{IsFree}
use Rattle.bc_speed.proofs.profiles.least_of.Given as goal

abbrev pub invariant-loop : goal.invariant-loop
invariant-loop g l = IsFree l.profile l.pass
