use Rattle.std.proofs.Common.{◌≡◌, ◌+◌, ◌≤◌, length, map, take}
use Rattle.bc_threads.proofs.many_callers.keys_of.Given as goal

abbrev pub invariant-loop-one : goal.invariant-loop-one
invariant-loop-one l = record {
  keys : l.keys.keys ≡ map (λ one. one.key) (take l.one-index l.named);
  count : length l.keys.keys ≡ l.one-index;
  spare : length l.named ≤ l.keys.spare + l.one-index;
}
