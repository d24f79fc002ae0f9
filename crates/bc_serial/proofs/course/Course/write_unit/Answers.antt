use Rattle.std.proofs.Common.{◌≡◌, ◌∙◌, ◌*◌, ◌+◌, length, List, sym, ap, subst, rules}
use Rattle.bc_key.specs.KeyData.{KeyData}
use Rattle.bc_bio.specs.Extent.{context_after, sector_at, unit_sectors}
use Rattle.bc_medium.specs.declared.unit_at.UnitAt.{UnitAt}
use Rattle.bc_medium.specs.Growth.{IsEntryOf}
use Rattle.bc_base.specs.RamStores.{owns}
use Rattle.bc_bio.specs.Conditions.{HasKey}
use Rattle.bc_medium.specs.Shards.{HaveKeys, Own}
use Rattle.bc_script.specs.declared.op.Op.TheVariants as ops
use Rattle.bc_script.specs.Script.{keys_of}
use Rattle.bc_script.specs.Plan.{text_at, unit_at, HasUnit}
use Rattle.bc_serial.specs.InTurn.{AttemptsOn, HasOpenAt, via_in}
use Rattle.bc_serial.specs.Standing.{AllStand, Attempted, CourseData, IsPerformableBio, unit_place_of, answer_of_write, entry_of_write}
use Rattle.bc_serial.proofs.Ready.{attempts, course_more, have_keys, key_at, open_at, own, sectors_at, spare, text_length}
use Rattle.bc_serial.proofs.Placing.{write_failed, write_is_its, write_via}
use Rattle.bc_serial.proofs.course.Course.write_unit.Goals as goal
use Rattle.bc_section.proofs.Numbered.{has_unit}

pub text_of_unit-requires : goal.text_of_unit-requires
text_of_unit-requires c =
    let bio = c.args.bio.now in
    let operation = ops.Write bio.context bio.sector bio.units c.args.text.now in
    let keys = c.self.inside.ciphers in
    let here : CourseData = record {
      script = c.self.inside.script.now;
      shards = c.self.inside.shards;
      thread = c.self.inside.thread;
      left = c.self.inside.left;
      journals = c.self.inside.keyslots.journals;
      begun = c.self.inside.keyslots.begun;
      opened = c.self.inside.keyslots.opened;
    } in
    let keys_are : keys_of c.args.self.now.script ≡ keys = sym (c.self.invariant.keys_are ∙ ap (λ (v : CourseData). keys_of v.script) c.self.view_is) in
    let size_is : c.unit_bytes-size.result ≡ 512 * unit_sectors keys bio.context =
    c.unit_bytes-size.ensures.bytes ∙ ap (λ (k : List KeyData). 512 * unit_sectors k bio.context) c.keys-keys.ensures in
    let has : HasUnit c.args.text.now c.unit_bytes-size.result c.args.unit =
    subst (λ n. HasUnit c.args.text.now n c.args.unit) (sym size_is) (subst (λ (k : List KeyData). HasUnit c.args.text.now (512 * unit_sectors k bio.context) c.args.unit) keys_are
    (has_unit (keys_of c.args.self.now.script) bio.context bio.units c.args.text.now c.args.unit c.requires.text c.requires.unit)) in
    has

pub encipher-requires-clause-key : goal.encipher-requires-clause-key
encipher-requires-clause-key c =
    let bio = c.args.bio.now in
    let operation = ops.Write bio.context bio.sector bio.units c.args.text.now in
    let keys = c.self.inside.ciphers in
    let here : CourseData = record {
      script = c.self.inside.script.now;
      shards = c.self.inside.shards;
      thread = c.self.inside.thread;
      left = c.self.inside.left;
      journals = c.self.inside.keyslots.journals;
      begun = c.self.inside.keyslots.begun;
      opened = c.self.inside.keyslots.opened;
    } in
    let at_is : c.unit_of_bio-at.result ≡ unit_place_of here.thread (unit_at keys c.args.op operation bio c.args.unit) =
    c.unit_of_bio-at.ensures operation ∙ ap (λ (k : List KeyData). unit_place_of here.thread (unit_at k c.args.op operation bio c.args.unit)) c.keys-keys.ensures in
    let context : c.unit_of_bio-at.result.context ≡ context_after c.args.unit bio.context = ap (λ (a : UnitAt). a.context) at_is in
    key_at (keys_of c.args.self.now.script) c.args.unit bio.context c.unit_of_bio-at.result.context context c.requires.performable.accepted.placed.key

pub encipher-requires-clause-opened : goal.encipher-requires-clause-opened
encipher-requires-clause-opened c =
    let bio = c.args.bio.now in
    let operation = ops.Write bio.context bio.sector bio.units c.args.text.now in
    let keys = c.self.inside.ciphers in
    let here : CourseData = record {
      script = c.self.inside.script.now;
      shards = c.self.inside.shards;
      thread = c.self.inside.thread;
      left = c.self.inside.left;
      journals = c.self.inside.keyslots.journals;
      begun = c.self.inside.keyslots.begun;
      opened = c.self.inside.keyslots.opened;
    } in
    let at_is : c.unit_of_bio-at.result ≡ unit_place_of here.thread (unit_at keys c.args.op operation bio c.args.unit) =
    c.unit_of_bio-at.ensures operation ∙ ap (λ (k : List KeyData). unit_place_of here.thread (unit_at k c.args.op operation bio c.args.unit)) c.keys-keys.ensures in
    let context : c.unit_of_bio-at.result.context ≡ context_after c.args.unit bio.context = ap (λ (a : UnitAt). a.context) at_is in
    open_at c.args.self.now c.args.unit bio.context c.unit_of_bio-at.result.context (sector_at (keys_of c.args.self.now.script) bio c.args.unit) context c.requires.opened

pub encipher-requires-clause-length : goal.encipher-requires-clause-length
encipher-requires-clause-length c =
    let bio = c.args.bio.now in
    let operation = ops.Write bio.context bio.sector bio.units c.args.text.now in
    let keys = c.self.inside.ciphers in
    let here : CourseData = record {
      script = c.self.inside.script.now;
      shards = c.self.inside.shards;
      thread = c.self.inside.thread;
      left = c.self.inside.left;
      journals = c.self.inside.keyslots.journals;
      begun = c.self.inside.keyslots.begun;
      opened = c.self.inside.keyslots.opened;
    } in
    let keys_are : keys_of c.args.self.now.script ≡ keys = sym (c.self.invariant.keys_are ∙ ap (λ (v : CourseData). keys_of v.script) c.self.view_is) in
    let size_is : c.unit_bytes-size.result ≡ 512 * unit_sectors keys bio.context =
    c.unit_bytes-size.ensures.bytes ∙ ap (λ (k : List KeyData). 512 * unit_sectors k bio.context) c.keys-keys.ensures in
    let at_is : c.unit_of_bio-at.result ≡ unit_place_of here.thread (unit_at keys c.args.op operation bio c.args.unit) =
    c.unit_of_bio-at.ensures operation ∙ ap (λ (k : List KeyData). unit_place_of here.thread (unit_at k c.args.op operation bio c.args.unit)) c.keys-keys.ensures in
    let context : c.unit_of_bio-at.result.context ≡ context_after c.args.unit bio.context = ap (λ (a : UnitAt). a.context) at_is in
    let unit : 512 * unit_sectors keys bio.context ≡ 512 * unit_sectors keys c.unit_of_bio-at.result.context =
    ap (λ n. 512 * n) (sym (sectors_at keys c.args.unit bio.context c.unit_of_bio-at.result.context context)) in
    let long : length c.copy_from_slice.new.self ≡ c.unit_bytes-size.result = search rules in
    long ∙ size_is ∙ unit ∙ ap (λ (k : List KeyData). 512 * unit_sectors k c.unit_of_bio-at.result.context) (sym keys_are)

pub via-via-requires-clause-key : goal.via-via-requires-clause-key
via-via-requires-clause-key c =
    let bio = c.args.bio.now in
    let operation = ops.Write bio.context bio.sector bio.units c.args.text.now in
    let keys = c.self.inside.ciphers in
    let here : CourseData = record {
      script = c.self.inside.script.now;
      shards = c.self.inside.shards;
      thread = c.self.inside.thread;
      left = c.self.inside.left;
      journals = c.self.inside.keyslots.journals;
      begun = c.self.inside.keyslots.begun;
      opened = c.self.inside.keyslots.opened;
    } in
    let at_is : c.unit_of_bio-at.result ≡ unit_place_of here.thread (unit_at keys c.args.op operation bio c.args.unit) =
    c.unit_of_bio-at.ensures operation ∙ ap (λ (k : List KeyData). unit_place_of here.thread (unit_at k c.args.op operation bio c.args.unit)) c.keys-keys.ensures in
    let context : c.unit_of_bio-at.result.context ≡ context_after c.args.unit bio.context = ap (λ (a : UnitAt). a.context) at_is in
    key_at (keys_of c.args.self.now.script) c.args.unit bio.context c.unit_of_bio-at.result.context context c.requires.performable.accepted.placed.key

pub via-via-requires-clause-opened : goal.via-via-requires-clause-opened
via-via-requires-clause-opened c =
    let bio = c.args.bio.now in
    let operation = ops.Write bio.context bio.sector bio.units c.args.text.now in
    let keys = c.self.inside.ciphers in
    let here : CourseData = record {
      script = c.self.inside.script.now;
      shards = c.self.inside.shards;
      thread = c.self.inside.thread;
      left = c.self.inside.left;
      journals = c.self.inside.keyslots.journals;
      begun = c.self.inside.keyslots.begun;
      opened = c.self.inside.keyslots.opened;
    } in
    let at_is : c.unit_of_bio-at.result ≡ unit_place_of here.thread (unit_at keys c.args.op operation bio c.args.unit) =
    c.unit_of_bio-at.ensures operation ∙ ap (λ (k : List KeyData). unit_place_of here.thread (unit_at k c.args.op operation bio c.args.unit)) c.keys-keys.ensures in
    let context : c.unit_of_bio-at.result.context ≡ context_after c.args.unit bio.context = ap (λ (a : UnitAt). a.context) at_is in
    open_at c.args.self.now c.args.unit bio.context c.unit_of_bio-at.result.context (sector_at (keys_of c.args.self.now.script) bio c.args.unit) context c.requires.opened

pub write_unit-requires-clause-key : goal.write_unit-requires-clause-key
write_unit-requires-clause-key c =
    let bio = c.args.bio.now in
    let operation = ops.Write bio.context bio.sector bio.units c.args.text.now in
    let keys = c.self.inside.ciphers in
    let here : CourseData = record {
      script = c.self.inside.script.now;
      shards = c.self.inside.shards;
      thread = c.self.inside.thread;
      left = c.self.inside.left;
      journals = c.self.inside.keyslots.journals;
      begun = c.self.inside.keyslots.begun;
      opened = c.self.inside.keyslots.opened;
    } in
    let performable : IsPerformableBio here.script bio = subst (λ (v : CourseData). IsPerformableBio v.script bio) (sym c.self.view_is) c.requires.performable in
    let at_is : c.unit_of_bio-at.result ≡ unit_place_of here.thread (unit_at keys c.args.op operation bio c.args.unit) =
    c.unit_of_bio-at.ensures operation ∙ ap (λ (k : List KeyData). unit_place_of here.thread (unit_at k c.args.op operation bio c.args.unit)) c.keys-keys.ensures in
    let context : c.unit_of_bio-at.result.context ≡ context_after c.args.unit bio.context = ap (λ (a : UnitAt). a.context) at_is in
    subst (λ (k : List KeyData). HasKey k c.unit_of_bio-at.result.context) (sym c.keys.ensures)
    (key_at keys c.args.unit bio.context c.unit_of_bio-at.result.context context
    (subst (λ (k : List KeyData). HasKey k bio.context) (sym c.self.invariant.keys_are) performable.accepted.placed.key))

pub write_unit-requires-clause-keys : goal.write_unit-requires-clause-keys
write_unit-requires-clause-keys c =
    let bio = c.args.bio.now in
    let operation = ops.Write bio.context bio.sector bio.units c.args.text.now in
    let keys = c.self.inside.ciphers in
    let here : CourseData = record {
      script = c.self.inside.script.now;
      shards = c.self.inside.shards;
      thread = c.self.inside.thread;
      left = c.self.inside.left;
      journals = c.self.inside.keyslots.journals;
      begun = c.self.inside.keyslots.begun;
      opened = c.self.inside.keyslots.opened;
    } in
    let performable : IsPerformableBio here.script bio = subst (λ (v : CourseData). IsPerformableBio v.script bio) (sym c.self.view_is) c.requires.performable in
    subst (λ (k : List KeyData). HaveKeys k here.shards) (sym c.keys.ensures) (have_keys c.bio_laws.ensures.sizes c.bio_laws.ensures.blocks here.script keys here.shards c.self.inside.keyslots here.left c.self.invariant here.thread c.args.op operation bio performable c.args.unit c.requires.unit)

pub write_unit-requires-clause-length : goal.write_unit-requires-clause-length
write_unit-requires-clause-length c =
    let bio = c.args.bio.now in
    let operation = ops.Write bio.context bio.sector bio.units c.args.text.now in
    let keys = c.self.inside.ciphers in
    let here : CourseData = record {
      script = c.self.inside.script.now;
      shards = c.self.inside.shards;
      thread = c.self.inside.thread;
      left = c.self.inside.left;
      journals = c.self.inside.keyslots.journals;
      begun = c.self.inside.keyslots.begun;
      opened = c.self.inside.keyslots.opened;
    } in
    let keys_are : keys_of c.args.self.now.script ≡ keys = sym (c.self.invariant.keys_are ∙ ap (λ (v : CourseData). keys_of v.script) c.self.view_is) in
    let size_is : c.unit_bytes-size.result ≡ 512 * unit_sectors keys bio.context =
    c.unit_bytes-size.ensures.bytes ∙ ap (λ (k : List KeyData). 512 * unit_sectors k bio.context) c.keys-keys.ensures in
    let has : HasUnit c.args.text.now c.unit_bytes-size.result c.args.unit =
    subst (λ n. HasUnit c.args.text.now n c.args.unit) (sym size_is) (subst (λ (k : List KeyData). HasUnit c.args.text.now (512 * unit_sectors k bio.context) c.args.unit) keys_are
    (has_unit (keys_of c.args.self.now.script) bio.context bio.units c.args.text.now c.args.unit c.requires.text c.requires.unit)) in
    let at_is : c.unit_of_bio-at.result ≡ unit_place_of here.thread (unit_at keys c.args.op operation bio c.args.unit) =
    c.unit_of_bio-at.ensures operation ∙ ap (λ (k : List KeyData). unit_place_of here.thread (unit_at k c.args.op operation bio c.args.unit)) c.keys-keys.ensures in
    let context : c.unit_of_bio-at.result.context ≡ context_after c.args.unit bio.context = ap (λ (a : UnitAt). a.context) at_is in
    let unit : 512 * unit_sectors keys bio.context ≡ 512 * unit_sectors keys c.unit_of_bio-at.result.context =
    ap (λ n. 512 * n) (sym (sectors_at keys c.args.unit bio.context c.unit_of_bio-at.result.context context)) in
    ap length c.in_ok-plain.ensures ∙ text_length c.args.text.now c.unit_bytes-size.result c.args.unit has ∙ size_is ∙ unit
    ∙ ap (λ (k : List KeyData). 512 * unit_sectors k c.unit_of_bio-at.result.context) (sym c.keys.ensures)

pub write_unit-requires-clause-whole : goal.write_unit-requires-clause-whole
write_unit-requires-clause-whole c =
    let bio = c.args.bio.now in
    let operation = ops.Write bio.context bio.sector bio.units c.args.text.now in
    let keys = c.self.inside.ciphers in
    let here : CourseData = record {
      script = c.self.inside.script.now;
      shards = c.self.inside.shards;
      thread = c.self.inside.thread;
      left = c.self.inside.left;
      journals = c.self.inside.keyslots.journals;
      begun = c.self.inside.keyslots.begun;
      opened = c.self.inside.keyslots.opened;
    } in
    let keys_are : keys_of c.args.self.now.script ≡ keys = sym (c.self.invariant.keys_are ∙ ap (λ (v : CourseData). keys_of v.script) c.self.view_is) in
    let size_is : c.unit_bytes-size.result ≡ 512 * unit_sectors keys bio.context =
    c.unit_bytes-size.ensures.bytes ∙ ap (λ (k : List KeyData). 512 * unit_sectors k bio.context) c.keys-keys.ensures in
    let at_is : c.unit_of_bio-at.result ≡ unit_place_of here.thread (unit_at keys c.args.op operation bio c.args.unit) =
    c.unit_of_bio-at.ensures operation ∙ ap (λ (k : List KeyData). unit_place_of here.thread (unit_at k c.args.op operation bio c.args.unit)) c.keys-keys.ensures in
    let context : c.unit_of_bio-at.result.context ≡ context_after c.args.unit bio.context = ap (λ (a : UnitAt). a.context) at_is in
    let unit : 512 * unit_sectors keys bio.context ≡ 512 * unit_sectors keys c.unit_of_bio-at.result.context =
    ap (λ n. 512 * n) (sym (sectors_at keys c.args.unit bio.context c.unit_of_bio-at.result.context context)) in
    let long : length c.encipher.new.text ≡ c.unit_bytes-size.result = search rules in
    long ∙ size_is ∙ unit ∙ ap (λ (k : List KeyData). 512 * unit_sectors k c.unit_of_bio-at.result.context) (sym c.keys.ensures)

pub write_unit-requires-clause-sectors : goal.write_unit-requires-clause-sectors
write_unit-requires-clause-sectors c =
    let bio = c.args.bio.now in
    let operation = ops.Write bio.context bio.sector bio.units c.args.text.now in
    let keys = c.self.inside.ciphers in
    let here : CourseData = record {
      script = c.self.inside.script.now;
      shards = c.self.inside.shards;
      thread = c.self.inside.thread;
      left = c.self.inside.left;
      journals = c.self.inside.keyslots.journals;
      begun = c.self.inside.keyslots.begun;
      opened = c.self.inside.keyslots.opened;
    } in
    let performable : IsPerformableBio here.script bio = subst (λ (v : CourseData). IsPerformableBio v.script bio) (sym c.self.view_is) c.requires.performable in
    let at_is : c.unit_of_bio-at.result ≡ unit_place_of here.thread (unit_at keys c.args.op operation bio c.args.unit) =
    c.unit_of_bio-at.ensures operation ∙ ap (λ (k : List KeyData). unit_place_of here.thread (unit_at k c.args.op operation bio c.args.unit)) c.keys-keys.ensures in
    subst (λ (k : List KeyData). Own owns here.shards c.unit_of_bio-at.result.sector (unit_sectors k c.unit_of_bio-at.result.context)) (sym c.keys.ensures)
    (own c.bio_laws.ensures.sizes c.bio_laws.ensures.blocks here.script keys here.shards c.self.inside.keyslots here.left c.self.invariant here.thread c.args.op operation bio performable c.args.unit c.requires.unit c.unit_of_bio-at.result at_is)

pub write_unit-requires-clause-spare : goal.write_unit-requires-clause-spare
write_unit-requires-clause-spare c =
    let bio = c.args.bio.now in
    let operation = ops.Write bio.context bio.sector bio.units c.args.text.now in
    let keys = c.self.inside.ciphers in
    let here : CourseData = record {
      script = c.self.inside.script.now;
      shards = c.self.inside.shards;
      thread = c.self.inside.thread;
      left = c.self.inside.left;
      journals = c.self.inside.keyslots.journals;
      begun = c.self.inside.keyslots.begun;
      opened = c.self.inside.keyslots.opened;
    } in
    let performable : IsPerformableBio here.script bio = subst (λ (v : CourseData). IsPerformableBio v.script bio) (sym c.self.view_is) c.requires.performable in
    let more : AllStand here.script (here.left + 1) here.shards = subst (λ (v : CourseData). AllStand v.script (v.left + 1) v.shards) (sym c.self.view_is) c.requires.spare in
    spare c.bio_laws.ensures.sizes c.bio_laws.ensures.blocks here.script keys here.shards c.self.inside.keyslots here.left c.self.invariant here.thread c.args.op operation bio performable c.args.unit c.requires.unit c.unit_of_bio-at.result more

pub invariant_of-self : goal.invariant_of-self
invariant_of-self c =
    let bio = c.args.bio.now in
    let operation = ops.Write bio.context bio.sector bio.units c.args.text.now in
    let keys = c.self.inside.ciphers in
    let here : CourseData = record {
      script = c.self.inside.script.now;
      shards = c.self.inside.shards;
      thread = c.self.inside.thread;
      left = c.self.inside.left;
      journals = c.self.inside.keyslots.journals;
      begun = c.self.inside.keyslots.begun;
      opened = c.self.inside.keyslots.opened;
    } in
    let performable : IsPerformableBio here.script bio = subst (λ (v : CourseData). IsPerformableBio v.script bio) (sym c.self.view_is) c.requires.performable in
    let more : AllStand here.script (here.left + 1) here.shards = subst (λ (v : CourseData). AllStand v.script (v.left + 1) v.shards) (sym c.self.view_is) c.requires.spare in
    let tried = subst (λ (k : List KeyData). Attempted k here.shards c.write_unit.new.shards (entry_of_write c.unit_of_bio-at.result c.via-via.result c.in_ok-plain.plain.items c.write_unit.result)
    (answer_of_write c.write_unit.result)) c.keys.ensures c.write_unit.ensures in
    course_more c.bio_laws.ensures.sizes c.bio_laws.ensures.blocks here.script keys here.shards c.self.inside.keyslots here.left c.self.invariant here.thread c.args.op operation bio performable c.args.unit c.requires.unit c.write_unit.new.shards (entry_of_write c.unit_of_bio-at.result c.via-via.result c.in_ok-plain.plain.items c.write_unit.result)
    (answer_of_write c.write_unit.result) tried more

pub returns-clause-attempts : goal.returns-clause-attempts
returns-clause-attempts c =
    let bio = c.args.bio.now in
    let operation = ops.Write bio.context bio.sector bio.units c.args.text.now in
    let keys = c.self.inside.ciphers in
    let here : CourseData = record {
      script = c.self.inside.script.now;
      shards = c.self.inside.shards;
      thread = c.self.inside.thread;
      left = c.self.inside.left;
      journals = c.self.inside.keyslots.journals;
      begun = c.self.inside.keyslots.begun;
      opened = c.self.inside.keyslots.opened;
    } in
    let performable : IsPerformableBio here.script bio = subst (λ (v : CourseData). IsPerformableBio v.script bio) (sym c.self.view_is) c.requires.performable in
    let opened : HasOpenAt here bio.context (sector_at (keys_of here.script) bio c.args.unit) =
    subst (λ (v : CourseData). HasOpenAt v bio.context (sector_at (keys_of v.script) bio c.args.unit)) (sym c.self.view_is) c.requires.opened in
    let at_is : c.unit_of_bio-at.result ≡ unit_place_of here.thread (unit_at keys c.args.op operation bio c.args.unit) =
    c.unit_of_bio-at.ensures operation ∙ ap (λ (k : List KeyData). unit_place_of here.thread (unit_at k c.args.op operation bio c.args.unit)) c.keys-keys.ensures in
    let context : c.unit_of_bio-at.result.context ≡ context_after c.args.unit bio.context = ap (λ (a : UnitAt). a.context) at_is in
    let size_is : c.unit_bytes-size.result ≡ 512 * unit_sectors keys bio.context =
    c.unit_bytes-size.ensures.bytes ∙ ap (λ (k : List KeyData). 512 * unit_sectors k bio.context) c.keys-keys.ensures in
    let tried = subst (λ (k : List KeyData). Attempted k here.shards c.write_unit.new.shards (entry_of_write c.unit_of_bio-at.result c.via-via.result c.in_ok-plain.plain.items c.write_unit.result)
    (answer_of_write c.write_unit.result)) c.keys.ensures c.write_unit.ensures in
    let u = unit_at (keys_of here.script) c.args.op operation bio c.args.unit in
    let plain = c.in_ok-plain.plain.items in
    let e = entry_of_write c.unit_of_bio-at.result c.via-via.result plain c.write_unit.result in
    let mine : c.unit_of_bio-at.result ≡ unit_place_of here.thread u =
    at_is ∙ ap (λ (k : List KeyData). unit_place_of here.thread (unit_at k c.args.op operation bio c.args.unit)) c.self.invariant.keys_are in
    let bytes : plain ≡ u.bytes =
    c.in_ok-plain.ensures ∙ ap (λ n. text_at c.args.text.now n c.args.unit) (size_is ∙ ap (λ (k : List KeyData). 512 * unit_sectors k bio.context) c.self.invariant.keys_are) in
    let its : IsEntryOf here.thread u e =
    subst (λ (a : UnitAt). IsEntryOf here.thread u (entry_of_write a c.via-via.result plain c.write_unit.result)) (sym mine)
    (write_is_its here.thread u c.via-via.result plain c.write_unit.result c.requires.access bytes) in
    let goes : e.via ≡ via_in here (context_after c.args.unit bio.context) =
    write_via c.unit_of_bio-at.result c.via-via.result plain c.write_unit.result ∙ c.via-via.ensures ∙ ap (λ (v : CourseData). via_in v c.unit_of_bio-at.result.context) (sym c.self.view_is)
    ∙ ap (via_in here) context in
    let attempt = attempts c.bio_laws.ensures.sizes c.bio_laws.ensures.blocks here.script keys here.shards c.self.inside.keyslots here.left c.self.invariant here.thread c.args.op operation bio performable c.args.unit c.requires.unit c.write_unit.new.shards e (answer_of_write c.write_unit.result) tried its
    (write_failed c.unit_of_bio-at.result c.via-via.result plain c.write_unit.result) opened goes in
    let after : CourseData = record here { shards = c.write_unit.new.shards } in
    subst (λ (v : CourseData). AttemptsOn v after (unit_at (keys_of v.script) c.args.op operation bio c.args.unit) (answer_of_write c.write_unit.result)) c.self.view_is attempt
