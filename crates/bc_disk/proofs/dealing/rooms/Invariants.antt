use Rattle.std.proofs.Common.{◌≡◌, ◌+◌, ◌≤◌, [], map, replicate, vec_capacity, vec_len}
use Rattle.bc_base.specs.Lists.{Each}
use Rattle.bc_disk.proofs.dealing.rooms.Given as goal

abbrev pub invariant-loop : goal.invariant-loop
invariant-loop l = record {
  empty : map (λ list. list.items) l.rooms.items ≡ replicate l.counter [];
  room : Each (λ list. vec_len list + l.room ≤ vec_capacity list) l.rooms.items;
}
