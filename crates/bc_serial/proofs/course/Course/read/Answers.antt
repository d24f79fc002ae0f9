use Rattle.std.proofs.Common.{◌≡◌, ◌∙◌, ℕ, ◌*◌, ◌-◌, ◌+◌, ◌≤◌, Some, None, List, [], ◌∷◌, ◌++◌, length, take, sym, ap, subst, refl, arith, rules}
use Rattle.std.proofs.lemmas.Slice.{take-put_mid}
use Rattle.bc_key.specs.KeyData.{KeyData}
use Rattle.bc_bio.specs.Extent.{unit_sectors}
use Rattle.bc_bio.specs.declared.access.Access.{Access}
use Rattle.bc_bio.specs.declared.access.Access.TheVariants as access
use Rattle.bc_medium.specs.KeyedDisk.{Text}
use Rattle.bc_medium.specs.Outcome.{BioAnswer, Bytes}
use Rattle.bc_script.specs.declared.op.Op.TheVariants as ops
use Rattle.bc_script.specs.Script.{Script, keys_of}
use Rattle.bc_script.specs.Bios.{bio_of}
use Rattle.bc_script.specs.Plan.{unit_at}
use Rattle.bc_serial.specs.InTurn.{GoesOver}
use Rattle.bc_serial.specs.Standing.{CourseData, answer_of_read, own_device, first_units}
use Rattle.bc_serial.proofs.EqualParts.{next_part, part_starts}
use Rattle.bc_serial.proofs.Attempting.{NoneMet, met_read, none_met}
use Rattle.bc_serial.proofs.Performing.{GoneOver, gone_over_more, gone_over_none, performs_bio, performs_fault}
use Rattle.bc_serial.proofs.course.Course.read.Goals as goal

zero_of : (n : ℕ) → 0 * n ≡ 0
zero_of n = omega arith

pub loop-unit-init : goal.loop-unit-init
loop-unit-init c =
    let bio = c.args.bio.now in
    let operation = ops.Read bio.context bio.sector bio.units in record {
      room = refl;
      gone_over = gone_over_none c.args.self.now access.Read c.args.op operation bio (Bytes (take (0 * c.unit_bytes-size.result) c.args.room.now)) c.requires.performable.accepted.some
          (subst (λ (l : List ℕ). NoneMet (own_device c.args.self.now) (own_device c.args.self.now) access.Read [] (Bytes l) [])
          (sym (ap (λ (n : ℕ). take n c.args.room.now) (zero_of c.unit_bytes-size.result)))
          (none_met (own_device c.args.self.now) access.Read (Bytes []) (refl, [], tt, refl)));
    }

pub loop-unit-preserved : goal.loop-unit-preserved
loop-unit-preserved c =
    let bio = c.args.bio.now in
    let operation = ops.Read bio.context bio.sector bio.units in
    let old = c.args.self.now in
    let b = c.loop-unit.self in
    let new = c.read_next-fault.new.self in
    let i = c.loop-unit.unit in
    let v = unit_at (keys_of old.script) c.args.op operation bio i in
    let us = first_units (keys_of old.script) c.args.op operation bio i in
    let stays = c.order_laws.ensures.known_stays in
    let gone = c.loop-unit.invariant.gone_over in
    let size = c.unit_bytes-size.result in
    let room = c.loop-unit.room in
    let part = c.read_next-fault.new.place in
    let long : length part ≡ size = search rules in
    let starts : i * size ≤ length room =
    subst (λ n. i * size ≤ n) (sym (c.loop-unit.invariant.room ∙ c.requires.room))
    (part_starts i bio.units (unit_sectors (keys_of old.script) bio.context) size c.loop-unit-test.true c.requires.performable.few_sectors
    (c.unit_bytes-size.ensures.bytes ∙ ap (λ (k : List KeyData). 512 * unit_sectors k bio.context) (c.keys.ensures ∙ c.self.invariant.keys_are ∙ ap (λ (v : CourseData). keys_of v.script) c.self.view_is))) in
    let next : (i + 1) * size ≡ i * size + size = next_part size i in
    let joined = take-put_mid (i * size) (i * size + size - i * size) room part ((i + 1) * size) (omega arith) starts in
    let over : GoesOver b new bio i v (answer_of_read part) c.loop-unit.fault c.read_next-fault.result =
    subst (λ (s : Script). GoesOver b new bio i (unit_at (keys_of s) c.args.op operation bio i) (answer_of_read part) c.loop-unit.fault c.read_next-fault.result)
    (ap (λ (d : CourseData). d.script) gone.same) c.read_next-fault.ensures.goes_over in record {
      room = search rules;
      gone_over = gone_over_more old b new c.args.op operation bio i c.requires.performable c.loop-unit-test.true stays (answer_of_read part) refl refl access.Read
          (Bytes (take (i * size) room)) (Bytes (take ((i + 1) * size) _)) c.loop-unit.fault c.read_next-fault.result
          (λ m d made p reached q went none.
          subst (λ (l : List ℕ). NoneMet (own_device old) d access.Read (us ++ v ∷ []) (Bytes l) (made ++ q.entry ∷ [])) (sym joined)
          (met_read (own_device old) (own_device b) m made p reached stays d v (Text part) q us went (take (i * size) room) part refl none)) gone over;
    }

pub returns-in-Some-clause-performs : goal.returns-in-Some-clause-performs
returns-in-Some-clause-performs c =
    let bio = c.args.bio.now in
    let operation = ops.Read bio.context bio.sector bio.units in
    let old = c.args.self.now in
    let new = c.loop-unit.self in
    let is : bio_of operation ≡ Some bio =
    ap (λ (act : Access). Some (record { access = act; context = bio.context; sector = bio.sector; units = bio.units })) (sym c.requires.access) in
    let bytes : ℕ → BioAnswer = λ n. Bytes (take (n * c.unit_bytes-size.result) c.loop-unit.room) in
    let all : c.loop-unit.unit ≡ bio.units = let l = c.loop-unit-test.false in let m = c.loop-unit.auto.unit-end in omega arith in
    performs_fault old new c.args.op operation bio is c.requires.performable refl (bytes bio.units) c.in-Some.unit
    (subst (λ (act : Access). GoneOver old new act c.args.op operation bio bio.units (bytes bio.units) (Some c.in-Some.unit)) (sym c.requires.access)
    (subst (λ (n : ℕ). GoneOver old new access.Read c.args.op operation bio n (bytes n) (Some c.in-Some.unit)) all
    (subst (GoneOver old new access.Read c.args.op operation bio c.loop-unit.unit (bytes c.loop-unit.unit)) c.in-Some.is c.loop-unit.invariant.gone_over)))

pub returns-in-None-clause-performs : goal.returns-in-None-clause-performs
returns-in-None-clause-performs c =
    let bio = c.args.bio.now in
    let operation = ops.Read bio.context bio.sector bio.units in
    let old = c.args.self.now in
    let new = c.loop-unit.self in
    let is : bio_of operation ≡ Some bio =
    ap (λ (act : Access). Some (record { access = act; context = bio.context; sector = bio.sector; units = bio.units })) (sym c.requires.access) in
    let bytes : ℕ → BioAnswer = λ n. Bytes (take (n * c.unit_bytes-size.result) c.loop-unit.room) in
    let all : c.loop-unit.unit ≡ bio.units = let l = c.loop-unit-test.false in let m = c.loop-unit.auto.unit-end in omega arith in
    performs_bio old new c.args.op operation bio is c.requires.performable refl (bytes bio.units) c.answer_of.result
    (subst (λ (act : Access). GoneOver old new act c.args.op operation bio bio.units (bytes bio.units) None) (sym c.requires.access)
    (subst (λ (n : ℕ). GoneOver old new access.Read c.args.op operation bio n (bytes n) None) all
    (subst (GoneOver old new access.Read c.args.op operation bio c.loop-unit.unit (bytes c.loop-unit.unit)) c.in-None.is c.loop-unit.invariant.gone_over)))
    c.answer_of.ensures.answer c.answer_of.ensures.range
