use Rattle.std.proofs.Common.{◌≡◌}
use Rattle.bc_disk.specs.Disks.{pass_by}
use Rattle.bc_disk.proofs.Plugged.{Sending}
use Rattle.bc_disk.proofs.disk.Disk.submit_plug.Given as goal

abbrev pub invariant-loop-n : goal.invariant-loop-n
invariant-loop-n g l =
    Sending g.S.Store.contents l.fn.self l.fn.pass (pass_by l.pass-inside.queue.caller l.pass-inside.queue.slots.items l.pass-inside.queue.units) l.fn.plug.requests l.plug.requests l.n
    × (l.plug.count ≡ l.fn.plug.count) × (l.pass-inside.request ≡ l.initial.pass-inside.request) × (l.pass-inside.replies ≡ l.initial.pass-inside.replies)
