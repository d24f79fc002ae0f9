use Rattle.std.proofs.Common.{◌≡◌, ◌∙◌, ℕ, Some, None, sym, ap, subst, refl, arith}
use Rattle.bc_bio.specs.declared.access.Access.{Access}
use Rattle.bc_bio.specs.declared.access.Access.TheVariants as access
use Rattle.bc_medium.specs.KeyedDisk.{Written}
use Rattle.bc_medium.specs.Outcome.{Wrote}
use Rattle.bc_script.specs.declared.op.Op.TheVariants as ops
use Rattle.bc_script.specs.Script.{Script, keys_of}
use Rattle.bc_script.specs.Bios.{bio_of}
use Rattle.bc_script.specs.Plan.{unit_at}
use Rattle.bc_serial.specs.InTurn.{GoesOver}
use Rattle.bc_serial.specs.Standing.{CourseData, answer_of_write, own_device, first_units}
use Rattle.bc_serial.proofs.Attempting.{met_wrote, none_met}
use Rattle.bc_serial.proofs.Performing.{GoneOver, gone_over_more, gone_over_none, performs_bio, performs_fault}
use Rattle.bc_serial.proofs.course.Course.write.Goals as goal

pub loop-unit-init : goal.loop-unit-init
loop-unit-init c =
    let bio = c.args.bio.now in
    let operation = ops.Write bio.context bio.sector bio.units c.args.text.now in record {
      room = refl;
      gone_over = gone_over_none c.args.self.now access.Write c.args.op operation bio Wrote c.requires.performable.accepted.some
          (none_met (own_device c.args.self.now) access.Write Wrote (refl, tt));
    }

pub loop-unit-preserved : goal.loop-unit-preserved
loop-unit-preserved c =
    let bio = c.args.bio.now in
    let operation = ops.Write bio.context bio.sector bio.units c.args.text.now in
    let old = c.args.self.now in
    let b = c.loop-unit.self in
    let new = c.write_next.new.self in
    let i = c.loop-unit.unit in
    let v = unit_at (keys_of old.script) c.args.op operation bio i in
    let us = first_units (keys_of old.script) c.args.op operation bio i in
    let stays = c.order_laws.ensures.known_stays in
    let gone = c.loop-unit.invariant.gone_over in
    let over : GoesOver b new bio i v answer_of_write c.loop-unit.fault c.in_ok-fault.fault =
    subst (λ (s : Script). GoesOver b new bio i (unit_at (keys_of s) c.args.op operation bio i) answer_of_write c.loop-unit.fault c.in_ok-fault.fault)
    (ap (λ (d : CourseData). d.script) gone.same) c.in_ok-fault.ensures.goes_over in record {
      room = c.in_ok-fault.ensures.room ∙ c.loop-unit.invariant.room;
      gone_over = gone_over_more old b new c.args.op operation bio i c.requires.performable c.loop-unit-test.true stays answer_of_write refl refl access.Write Wrote Wrote
          c.loop-unit.fault c.in_ok-fault.fault
          (λ m d made p reached q went none. met_wrote (own_device old) (own_device b) m made p reached stays d v Written q us went refl none) gone over;
    }

pub returns-in-Some-clause-performs : goal.returns-in-Some-clause-performs
returns-in-Some-clause-performs c =
    let bio = c.args.bio.now in
    let operation = ops.Write bio.context bio.sector bio.units c.args.text.now in
    let old = c.args.self.now in
    let new = c.loop-unit.self in
    let is : bio_of operation ≡ Some bio =
    ap (λ (act : Access). Some (record { access = act; context = bio.context; sector = bio.sector; units = bio.units })) (sym c.requires.access) in
    let all : c.loop-unit.unit ≡ bio.units = let l = c.loop-unit-test.false in let m = c.loop-unit.auto.unit-end in omega arith in
    performs_fault old new c.args.op operation bio is c.requires.performable refl Wrote c.in-Some.unit
    (subst (λ (act : Access). GoneOver old new act c.args.op operation bio bio.units Wrote (Some c.in-Some.unit)) (sym c.requires.access)
    (subst (λ (n : ℕ). GoneOver old new access.Write c.args.op operation bio n Wrote (Some c.in-Some.unit)) all
    (subst (GoneOver old new access.Write c.args.op operation bio c.loop-unit.unit Wrote) c.in-Some.is c.loop-unit.invariant.gone_over)))

pub returns-in-None-clause-performs : goal.returns-in-None-clause-performs
returns-in-None-clause-performs c =
    let bio = c.args.bio.now in
    let operation = ops.Write bio.context bio.sector bio.units c.args.text.now in
    let old = c.args.self.now in
    let new = c.loop-unit.self in
    let is : bio_of operation ≡ Some bio =
    ap (λ (act : Access). Some (record { access = act; context = bio.context; sector = bio.sector; units = bio.units })) (sym c.requires.access) in
    let all : c.loop-unit.unit ≡ bio.units = let l = c.loop-unit-test.false in let m = c.loop-unit.auto.unit-end in omega arith in
    performs_bio old new c.args.op operation bio is c.requires.performable refl Wrote _
    (subst (λ (act : Access). GoneOver old new act c.args.op operation bio bio.units Wrote None) (sym c.requires.access)
    (subst (λ (n : ℕ). GoneOver old new access.Write c.args.op operation bio n Wrote None) all
    (subst (GoneOver old new access.Write c.args.op operation bio c.loop-unit.unit Wrote) c.in-None.is c.loop-unit.invariant.gone_over)))
    refl tt
