use Rattle.std.proofs.Common.{◌≡◌, ◌+◌, ◌++◌, map, reverse, vec_len, vec_capacity}
use Rattle.std.specs.List.{AllByRecursion}
use Rattle.bc_bio.specs.Requests.{reply_of}
use Rattle.bc_queue.specs.Plugs.{IsReady, IsWaiting, bios_in, count_bios}
use Rattle.bc_queue.proofs.plug.finish_all.Given as goal

-- the replies so far, and those of the requests that are left, last one first, are all replies
abbrev pub invariant-loop-request : goal.invariant-loop-request
invariant-loop-request l =
    (l.out.items ++ map reply_of (bios_in (reverse l.requests.items)) ≡ l.fn.out.items ++ map reply_of (bios_in l.fn.requests.items))
    × (vec_len l.out + count_bios l.requests.items ≡ vec_len l.fn.out + count_bios l.fn.requests.items)
    × (vec_len l.requests + vec_len l.ready ≡ vec_len l.fn.requests + vec_len l.fn.ready)
    × AllByRecursion IsWaiting l.requests.items
    × AllByRecursion IsReady l.ready.items
    × (vec_capacity l.out ≡ vec_capacity l.fn.out)
    × (vec_capacity l.requests ≡ vec_capacity l.fn.requests)
    × (vec_capacity l.ready ≡ vec_capacity l.fn.ready)

abbrev pub decreases-loop-request : goal.decreases-loop-request
decreases-loop-request l = vec_len l.requests
