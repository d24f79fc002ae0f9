use Rattle.std.proofs.Common.{◌≡◌, ◌≤◌, replicate, ◌-◌}
use Rattle.std.specs.Prelude.{vec_len, vec_capacity}
use Rattle.bc_profile.proofs.lists.copies.Given as goal

abbrev pub invariant-loop-value : goal.invariant-loop-value
invariant-loop-value g l = record {
  copies : l.copies.items ≡ replicate (vec_len l.copies) l.value;
  within : vec_len l.copies ≤ l.count;
  room : l.count ≤ vec_capacity l.copies;
}

abbrev pub decreases-loop-value : goal.decreases-loop-value
decreases-loop-value g l = l.count - vec_len l.copies
