use Rattle.bc_serial.specs.InTurn.{InWindow}
use Rattle.bc_section.specs.SectionProgress.{numbered}
use Rattle.bc_section.specs.Uses.{op_bios}
use Rattle.std.specs.Prelude.{None, take}
use Rattle.bc_serial.proofs.Windowing.{Follows}
use Rattle.bc_serial.proofs.direct.DirectDeviceUnitAnswerAllocError.window.Given as goal

abbrev pub invariant-loop-op : goal.invariant-loop-op
invariant-loop-op l = record {
  done : InWindow (record l.fn.self { opened = None }) l.self l.section l.window l.op-index l.fn.answers l.answers;
  follows : Follows l.fn.self.script (op_bios (numbered l.section (take l.op-index l.window))) l.last;
}
