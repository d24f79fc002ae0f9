use Rattle.std.proofs.Common.{◌-◌, ◌≤◌, sym, ap, subst}
use Rattle.bc_profile.specs.declared.uses.Use.TheVariants as uses
use Rattle.bc_serial.specs.Keyslots.{KeyslotsData}
use Rattle.bc_serial.specs.Standing.{CourseData, HaveRoom}
use Rattle.bc_serial.proofs.Ready.{course_less}
use Rattle.bc_serial.proofs.Room.{room_at}
use Rattle.bc_serial.proofs.course.Course.reset.Goals as goal

pub invariant_of-self : goal.invariant_of-self
invariant_of-self c =
    let some : 1 ≤ c.self.inside.left = subst (λ (v : CourseData). 1 ≤ v.left) (sym c.self.view_is) c.requires.spare in
    course_less c.self.inside.script.now c.self.inside.ciphers c.self.inside.shards c.self.inside.keyslots c.reset.new.self c.self.inside.left c.self.invariant
    (ap (λ (k : KeyslotsData). k.script) c.reset.ensures)
    (subst (HaveRoom (c.self.inside.left - 1)) (ap (λ (k : KeyslotsData). k.journals) (sym c.reset.ensures))
    (room_at c.self.inside.keyslots.script c.self.inside.left c.self.inside.keyslots.journals c.args.device uses.Reset some c.self.invariant.room))
