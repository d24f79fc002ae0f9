use Rattle.std.proofs.Common.{◌≡◌, length}
use Rattle.bc_bio.specs.declared.access.Access.TheVariants as access
use Rattle.bc_medium.specs.Outcome.{Wrote}
use Rattle.bc_script.specs.declared.op.Op.TheVariants as ops
use Rattle.bc_serial.proofs.Performing.{GoneOver}
use Rattle.bc_serial.proofs.course.Course.write.Given as goal

abbrev pub invariant-loop-unit : goal.invariant-loop-unit
invariant-loop-unit l = record {
  room : length l.room ≡ length l.fn.room;
  gone_over : GoneOver l.fn.self l.self access.Write l.op (ops.Write l.bio.context l.bio.sector l.bio.units l.text) l.bio l.unit Wrote l.fault;
}
