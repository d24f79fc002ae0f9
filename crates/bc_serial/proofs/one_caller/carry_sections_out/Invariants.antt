use Rattle.std.proofs.Common.{◌≤◌, ◌+◌, take}
use Rattle.std.specs.Prelude.{sum_by}
use Rattle.bc_section.specs.Sections.{SectionsDone, cost_of_section}
use Rattle.bc_serial.specs.Standing.{HasBegun, own_device}
use Rattle.bc_serial.proofs.one_caller.carry_sections_out.Given as goal

abbrev pub invariant-loop-thread : goal.invariant-loop-thread
invariant-loop-thread l = record {
  done : SectionsDone (own_device l.fn.direct) (own_device l.direct) (take l.thread l.sections) l.answers.items;
  begun : HasBegun l.direct.begun l.direct.journals;
  left : l.fn.direct.left ≤ l.direct.left + sum_by cost_of_section (take l.thread l.sections);
}
