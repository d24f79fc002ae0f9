use Rattle.std.proofs.Common.{◌<◌, ◌≤◌, ◌+◌, arith, ap, length, subst, sym}
use Rattle.bc_script.specs.declared.op.Op.TheVariants as ops
use Rattle.bc_section.specs.SectionProgress.{HasReset}
use Rattle.bc_serial.specs.Standing.{CourseData, own_device}
use Rattle.bc_serial.proofs.Affording.{first_fits, next_fits}
use Rattle.bc_serial.proofs.Evicting.{is_reset}
use Rattle.bc_serial.proofs.direct.DirectDeviceUnitAnswerAllocError.reset.Goals as goal

pub reset-requires-clause-spare : goal.reset-requires-clause-spare
reset-requires-clause-spare c =
    subst (λ (v : CourseData). 1 ≤ v.left) (sym c.self.view_is)
    (first_fits (c.args._op, ops.Reset c.args.device) c.requires.afforded.0 c.args.self.now.left c.requires.afforded.1)

pub returns-clause-done : goal.returns-clause-done
returns-clause-done c =
    subst (λ (v : CourseData). HasReset (own_device v) (own_device c.reset.new.self) c.args._op c.args.device) c.self.view_is
    (is_reset c.self.inside.course c.reset.new.self c.args._op c.args.device c.has_begun.ensures c.has_devices.ensures.devices (subst (λ (v : CourseData). c.args.device < length v.script.targets) (sym c.self.view_is) c.requires.rules) c.reset.ensures)

pub returns-clause-room : goal.returns-clause-room
returns-clause-room c = λ after fits.
    next_fits (c.args._op, ops.Reset c.args.device) after c.args.self.now.left c.reset.new.self.left
    (omega (arith, c.reset.ensures.left, ap (λ (v : CourseData). v.left) c.self.view_is)) fits
