use Rattle.std.proofs.Common.{◌≤◌, ◌+◌, arith, ap, sym, subst}
use Rattle.bc_script.specs.declared.op.Op.TheVariants as ops
use Rattle.bc_report.specs.declared.answer.Answer.TheVariants as answers
use Rattle.bc_section.specs.SectionProgress.{Evicted}
use Rattle.bc_serial.specs.Standing.{CourseData, own_device}
use Rattle.bc_serial.proofs.Affording.{first_fits, next_fits}
use Rattle.bc_serial.proofs.Evicting.{is_evicted}
use Rattle.bc_serial.proofs.direct.DirectDeviceUnitAnswerAllocError.evict.Goals as goal

pub evict-requires-clause-spare : goal.evict-requires-clause-spare
evict-requires-clause-spare c =
    subst (λ (v : CourseData). 1 ≤ v.left) (sym c.self.view_is)
    (first_fits (c.args._op, ops.Evict c.args.key) c.requires.afforded.0 c.args.self.now.left c.requires.afforded.1)

pub returns-clause-done : goal.returns-clause-done
returns-clause-done c =
    subst (λ (v : CourseData). Evicted (own_device v) (own_device c.evict.new.self) c.args._op c.args.key answers.Evicted) c.self.view_is
    (is_evicted c.self.inside.course c.evict.new.self c.args._op c.args.key c.has_begun.ensures c.has_devices.ensures.devices c.evict.ensures)

pub returns-clause-room : goal.returns-clause-room
returns-clause-room c = λ after fits.
    next_fits (c.args._op, ops.Evict c.args.key) after c.args.self.now.left c.evict.new.self.left
    (omega (arith, c.evict.ensures.left, ap (λ (v : CourseData). v.left) c.self.view_is)) fits
