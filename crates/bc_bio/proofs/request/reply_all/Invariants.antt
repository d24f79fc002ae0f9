use Rattle.std.proofs.Common.{◌≡◌, ◌+◌, ◌++◌, map, reverse, vec_len, vec_capacity}
use Rattle.bc_bio.specs.Requests.{reply_of}
use Rattle.bc_bio.proofs.request.reply_all.Given as goal

-- the replies so far, and those of the bios that are left, last one first, are all replies
abbrev pub invariant-loop-marked : goal.invariant-loop-marked
invariant-loop-marked l =
    (l.out.items ++ map reply_of (reverse l.bios.items) ≡ l.fn.out.items ++ map reply_of l.fn.bios.items)
    × (vec_len l.out + vec_len l.bios ≡ vec_len l.fn.out + vec_len l.fn.bios)
    × (vec_capacity l.out ≡ vec_capacity l.fn.out)
    × (vec_capacity l.bios ≡ vec_capacity l.fn.bios)

abbrev pub decreases-loop-marked : goal.decreases-loop-marked
decreases-loop-marked l = vec_len l.bios
