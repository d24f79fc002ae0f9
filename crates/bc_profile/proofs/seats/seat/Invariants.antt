use Rattle.std.proofs.Common.{◌≡◌, ◌+◌, ◌≤◌, ◌++◌, length, map}
use Rattle.std.specs.Prelude.{vec_len, vec_capacity}
use mathlib.Core.List.{reverse}
use Rattle.bc_base.specs.Lists.{Each}
use Rattle.bc_profile.specs.Passes.{HasOneAtRest, pass_of}
use Rattle.bc_profile.proofs.seats.seat.Given as goal

abbrev pub invariant-loop-turn : goal.invariant-loop-turn
invariant-loop-turn l = record {
  moved : l.passes.items ++ map pass_of (reverse l.turns.items) ≡ map pass_of l.fn.turns.items;
  rest : Each HasOneAtRest l.turns.items;
  room : vec_len l.passes + vec_len l.turns ≤ vec_capacity l.passes;
}

abbrev pub decreases-loop-turn : goal.decreases-loop-turn
decreases-loop-turn l = length l.turns.items
