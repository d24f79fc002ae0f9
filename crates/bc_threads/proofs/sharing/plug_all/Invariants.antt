use Rattle.std.specs.Prelude.{take}
use Rattle.bc_threads.specs.Plugging.{IsPlugged, SameBeside}
use Rattle.bc_threads.proofs.sharing.plug_all.Given as goal

abbrev pub invariant-loop-op : goal.invariant-loop-op
invariant-loop-op l = record {
  plugged : IsPlugged l.keys.keys l.fn.bios.items (take l.op-index l.window) l.plug;
  others : SameBeside (take l.op-index l.window) l.fn.bios.items l.bios.items;
}
