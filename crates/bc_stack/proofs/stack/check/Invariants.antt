use Rattle.std.proofs.Common.{◌≡◌, drop}
use Rattle.bc_stack.specs.Targets.{refusal_from}
use Rattle.bc_stack.proofs.stack.check.Given as goal

-- the targets that are left fail the test that all of them fail
abbrev pub invariant-loop-target : goal.invariant-loop-target
invariant-loop-target l =
    refusal_from l.end (drop l.target-index l.targets) l.blocks ≡ refusal_from 0 l.targets l.blocks
