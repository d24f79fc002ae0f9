use Rattle.std.specs.Prelude.{◌≡◌}
use Rattle.bc_section.specs.SectionProgress.{Reached, HoldsNone, answers_by, left_of}
use Rattle.bc_section.proofs.device.carry_out.Given as goal

abbrev pub invariant-loop-op : goal.invariant-loop-op
invariant-loop-op g l = record {
  reached : Reached (g.D.Device.facts l.start.value) (g.D.Device.facts l.device) l.section l.op l.plugged l.pending (answers_by g.D.Device.answer l.answers);
  afforded : g.D.Device.affords l.device (left_of l.section l.op l.pending);
  held : HoldsNone l.plugged l.pending;
  lent : g.D.Device.lent l.device ≡ g.D.Device.lent l.start.value;
}
