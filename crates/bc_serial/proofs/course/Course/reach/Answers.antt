use Rattle.std.proofs.Common.{◌≡◌, ◌∙◌, ◌-◌, ◌≤◌, ◌<◌, sym, ap, subst}
use Rattle.bc_stack.specs.Devices.{device_at}
use Rattle.bc_profile.specs.declared.uses.Use.TheVariants as uses
use Rattle.bc_script.specs.Bios.{is_inline}
use Rattle.bc_script.specs.Script.{Script, keys_of, sectors_in}
use Rattle.bc_serial.specs.Keyslots.{KeyslotsData}
use Rattle.bc_serial.specs.Standing.{CourseData, HaveRoom}
use Rattle.bc_serial.proofs.Ready.{course_less, course_unused, entries_more, below}
use Rattle.bc_serial.proofs.Room.{room_at}
use Rattle.bc_section.proofs.Located.{located}
use Rattle.bc_serial.proofs.course.Course.reach.Goals as goal

pub invariant_of-self : goal.invariant_of-self
invariant_of-self c = course_unused c.self.inside.script.now c.self.inside.ciphers c.self.inside.shards c.self.inside.keyslots c.self.inside.left c.self.invariant

pub returns-in_default-clause-entries : goal.returns-in_default-clause-entries
returns-in_default-clause-entries c =
    entries_more c.self.inside.script.now c.self.inside.left c.self.inside.shards (subst (λ (v : CourseData). 1 ≤ v.left) (sym c.self.view_is) c.requires.spare) c.self.invariant.stand

pub invariant_of-self-then-not-is_inline : goal.invariant_of-self-then-not-is_inline
invariant_of-self-then-not-is_inline c = course_unused c.self.inside.script.now c.self.inside.ciphers c.self.inside.shards c.self.inside.keyslots c.self.inside.left c.self.invariant

pub returns-then-not-is_inline-clause-entries : goal.returns-then-not-is_inline-clause-entries
returns-then-not-is_inline-clause-entries c =
    entries_more c.self.inside.script.now c.self.inside.left c.self.inside.shards (subst (λ (v : CourseData). 1 ≤ v.left) (sym c.self.view_is) c.requires.spare) c.self.invariant.stand

pub unreachable-requires : goal.unreachable-requires
unreachable-requires c =
    let same : c.self.inside.keyslots.script ≡ c.self.inside.script.now = c.self.invariant.same_script in
    let inside : c.sector_at-sector.result < sectors_in c.self.inside.script.now =
    subst (λ (v : CourseData). c.sector_at-sector.result < sectors_in v.script) (sym c.self.view_is)
    (below (keys_of c.args.self.now.script) c.args.bio.now c.args.unit (sectors_in c.args.self.now.script) c.bio_laws.ensures.sizes c.sector_at-sector.result c.keys.result.now.keys
    (c.keys.ensures ∙ c.self.invariant.keys_are ∙ ap (λ (v : CourseData). keys_of v.script) c.self.view_is) c.sector_at-sector.ensures.inside c.requires.performable.accepted.inside) in
    located c.self.inside.script.now c.in-Some.context.key c.sector_at-sector.result c.self.invariant.rules
    (ap (λ (s : Script). is_inline s c.in-Some.context.key) (sym same) ∙ sym c.is_inline.ensures ∙ c.if-not-is_inline.false)
    inside
    (ap (λ (s : Script). device_at s.targets c.sector_at-sector.result) (sym same) ∙ sym c.locate.ensures ∙ c.in_default-locate.is)

pub invariant_of-self-then-not-is_open : goal.invariant_of-self-then-not-is_open
invariant_of-self-then-not-is_open c =
    let some : 1 ≤ c.self.inside.left = subst (λ (v : CourseData). 1 ≤ v.left) (sym c.self.view_is) c.requires.spare in
    course_less c.self.inside.script.now c.self.inside.ciphers c.self.inside.shards c.self.inside.keyslots c.hold.new.self c.self.inside.left c.self.invariant
    (ap (λ (k : KeyslotsData). k.script) c.hold.ensures.records)
    (subst (HaveRoom (c.self.inside.left - 1)) (ap (λ (k : KeyslotsData). k.journals) (sym c.hold.ensures.records))
    (room_at c.self.inside.keyslots.script c.self.inside.left c.self.inside.keyslots.journals c.in-Some-locate.device (uses.Hold c.in-Some.context.key) some c.self.invariant.room))

pub invariant_of-self-else-not-is_open : goal.invariant_of-self-else-not-is_open
invariant_of-self-else-not-is_open c = course_unused c.self.inside.script.now c.self.inside.ciphers c.self.inside.shards c.self.inside.keyslots c.self.inside.left c.self.invariant

pub returns-then-not-is_open-clause-entries : goal.returns-then-not-is_open-clause-entries
returns-then-not-is_open-clause-entries c =
    entries_more c.self.inside.script.now c.self.inside.left c.self.inside.shards (subst (λ (v : CourseData). 1 ≤ v.left) (sym c.self.view_is) c.requires.spare) c.self.invariant.stand

pub returns-else-not-is_open-clause-entries : goal.returns-else-not-is_open-clause-entries
returns-else-not-is_open-clause-entries c =
    entries_more c.self.inside.script.now c.self.inside.left c.self.inside.shards (subst (λ (v : CourseData). 1 ≤ v.left) (sym c.self.view_is) c.requires.spare) c.self.invariant.stand
