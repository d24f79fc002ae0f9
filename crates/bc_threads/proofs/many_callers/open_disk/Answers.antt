use Rattle.std.proofs.Common.{map}
use Rattle.bc_threads.proofs.Opening.{may_open_as}
use Rattle.bc_threads.proofs.many_callers.open_disk.Goals as goal

pub open-requires : goal.open-requires
open-requires c = record {
  may = may_open_as c.args.script.now c.blocks-3.ensures.rules c.args.image.items c.args.shards c.requires.shards.0 c.requires.shards.1 c.requires.length c.in_ok-stores.stores.items c.in_ok-stores.ensures
      c.in-Ok.stack c.blocks-3.result (map (λ row. row.items) c.in_ok-units_of_callers.field-0.items) (map (λ row. row.items) c.in_ok-events_of_callers.field-0.items)
      c.targets.result.now c.blocks-2.result c.in-Ok.ensures.stack c.targets.ensures.value c.blocks-2.ensures.value c.blocks-3.ensures.value c.in_ok-units_of_callers.ensures c.in_ok-events_of_callers.ensures;
}
