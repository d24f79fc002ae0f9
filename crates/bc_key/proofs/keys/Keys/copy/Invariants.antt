use Rattle.std.proofs.Common.{◌≡◌, ◌+◌, ◌≤◌, length, take}
use Rattle.bc_key.proofs.keys.Keys.copy.Given as goal

-- the first keys so far, and room for the rest
abbrev pub invariant-loop-key : goal.invariant-loop-key
invariant-loop-key l =
    (l.copy.keys ≡ take l.key-index l.key-items) × (length l.key-items ≤ l.key-index + l.copy.spare)
