use Rattle.std.proofs.Common.{◌≡◌, ◌*◌, length, take}
use Rattle.bc_bio.specs.declared.access.Access.TheVariants as access
use Rattle.bc_medium.specs.Outcome.{Bytes}
use Rattle.bc_script.specs.declared.op.Op.TheVariants as ops
use Rattle.bc_serial.proofs.Performing.{GoneOver}
use Rattle.bc_serial.proofs.course.Course.read.Given as goal

abbrev pub invariant-loop-unit : goal.invariant-loop-unit
invariant-loop-unit l = record {
  room : length l.room ≡ length l.fn.room;
  gone_over : GoneOver l.fn.self l.self access.Read l.op (ops.Read l.bio.context l.bio.sector l.bio.units) l.bio l.unit (Bytes (take (l.unit * l.size) l.room)) l.fault;
}
