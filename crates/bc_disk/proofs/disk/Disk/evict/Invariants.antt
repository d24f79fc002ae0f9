use Rattle.bc_disk.specs.Disks.{IsPassOf, facts_on}
use Rattle.bc_disk.specs.Evictions.{AsksFirst, HasAskedFor}
use Rattle.bc_disk.proofs.disk.Disk.evict.Given as goal

-- the devices so far were asked
abbrev pub invariant-loop-device : goal.invariant-loop-device
invariant-loop-device g l =
    let facts = facts_on g.S.Store.contents l.self in
    record {
      pass : IsPassOf l.self l.pass;
      asked : AsksFirst l.device (facts l.fn.pass) (facts l.pass) l.key.0 l.refused;
      room : HasAskedFor l.self l.fn.pass l.pass l.device;
    }
