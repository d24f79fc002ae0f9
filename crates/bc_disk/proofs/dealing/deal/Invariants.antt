use Rattle.std.proofs.Common.{◌≡◌, ℕ, ◌+◌, ◌≤◌, map, length, take, drop, vec_capacity, vec_len}
use Rattle.bc_base.specs.Lists.{Each}
use Rattle.bc_disk.specs.Dealing.{dealt}
use Rattle.bc_disk.proofs.dealing.deal.Given as goal

abbrev pub invariant-loop-pass : goal.invariant-loop-pass
invariant-loop-pass l = record {
  dealt : dealt (map (λ list. list.items) l.lists.items) l.row.items ≡ dealt (map (λ list. list.items) l.fn.lists.items) l.fn.row.items;
  place : l.place ≡ length l.row.items;
  long : length l.lists.items ≡ length l.fn.lists.items;
  inside : l.place ≤ length l.lists.items;
  room : (more : ℕ) → Each (λ list. vec_len list + 1 + more ≤ vec_capacity list) l.fn.lists.items
      → Each (λ list. vec_len list + 1 + more ≤ vec_capacity list) (take l.place l.lists.items) × Each (λ list. vec_len list + more ≤ vec_capacity list) (drop l.place l.lists.items);
}

abbrev pub decreases-loop-pass : goal.decreases-loop-pass
decreases-loop-pass l = length l.row.items
