use Rattle.std.proofs.Common.{◌≡◌, ◌&&◌, take, fold}
use Rattle.std.specs.List.{list_all}
use Rattle.bc_key.specs.declared.config.Config.{Config}
use Rattle.bc_key.specs.Support.{supports, meet_of}
use Rattle.bc_stack.proofs.stack.caps_of.Given as goal

-- the meet so far, and what it supports
abbrev pub invariant-loop-target : goal.invariant-loop-target
invariant-loop-target l =
    (l.caps ≡ fold (λ caps other. meet_of caps other.caps) l.initial.caps (take l.target-index l.others))
    × ((config : Config) → supports l.caps config ≡ (supports l.initial.caps config && list_all (λ each. supports each.caps config) (take l.target-index l.others)))
