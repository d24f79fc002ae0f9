use Rattle.std.proofs.Common.{◌≡◌, ◌+◌, ◌≤◌, ◌++◌, length, map, None}
use Rattle.std.specs.Prelude.{vec_len, vec_capacity}
use mathlib.Core.List.{reverse}
use Rattle.bc_base.specs.Lists.{Each}
use Rattle.bc_profile.specs.Passes.{HasOneAtRest, pass_of}
use Rattle.bc_profile.proofs.seats.unseat.Given as goal

abbrev pub invariant-loop-pass : goal.invariant-loop-pass
invariant-loop-pass l = record {
  moved : map pass_of l.turns.items ++ reverse l.passes.items ≡ l.fn.passes.items;
  free : Each (λ pass. pass.hold ≡ None) l.passes.items;
  rest : Each HasOneAtRest l.turns.items;
  room : vec_len l.turns + vec_len l.passes ≤ vec_capacity l.turns;
}

abbrev pub decreases-loop-pass : goal.decreases-loop-pass
decreases-loop-pass l = length l.passes.items
