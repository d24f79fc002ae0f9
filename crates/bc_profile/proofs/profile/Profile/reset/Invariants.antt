use Rattle.std.proofs.Common.{◌≡◌, [], None}
use Rattle.bc_profile.specs.Passes.{IsOf, Noticed}
use Rattle.bc_profile.proofs.profile.Profile.reset.Given as goal

abbrev pub invariant-loop : goal.invariant-loop
invariant-loop g l = record {
  pass : IsOf l.fn.self l.pass;
  free : l.pass.hold ≡ None;
  noticed : Noticed l.fn.pass l.pass [];
}
