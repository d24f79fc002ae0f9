use Rattle.std.proofs.Common.{◌≡◌, length, take}
use Rattle.bc_ufs.proofs.last_cipher.are_same.Given as goal

abbrev pub invariant-loop-n : goal.invariant-loop-n
invariant-loop-n l = (length l.fn.one ≡ length l.fn.other) × (take l.n l.fn.one ≡ take l.n l.fn.other)
