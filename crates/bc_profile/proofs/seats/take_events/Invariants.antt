use Rattle.std.proofs.Common.{◌≡◌, ◌+◌, ◌≤◌, ◌++◌, length, map}
use Rattle.std.specs.Prelude.{vec_len, vec_capacity}
use mathlib.Core.List.{reverse}
use Rattle.bc_profile.specs.Story.{event_in}
use Rattle.bc_profile.proofs.seats.take_events.Given as goal

abbrev pub invariant-loop-noted : goal.invariant-loop-noted
invariant-loop-noted l = record {
  moved : l.journal.items ++ map event_in (reverse l.story.items) ≡ map event_in l.fn.story.items;
  room : vec_len l.journal + vec_len l.story ≤ vec_capacity l.journal;
}

abbrev pub decreases-loop-noted : goal.decreases-loop-noted
decreases-loop-noted l = length l.story.items
