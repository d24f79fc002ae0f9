use Rattle.std.proofs.Common.{◌≡◌, ◌∙◌, ℕ, ◌*◌, ◌+◌, Bool, false, length, List, sym, ap, subst}
use Rattle.bc_base.specs.RamStores.{owns}
use Rattle.bc_key.specs.KeyData.{KeyData}
use Rattle.bc_bio.specs.Extent.{context_after, sector_at, unit_sectors}
use Rattle.bc_medium.specs.declared.unit_at.UnitAt.{UnitAt}
use Rattle.bc_medium.specs.Growth.{IsEntryOf}
use Rattle.bc_medium.specs.KeyedDisk.{Text, deciphered}
use Rattle.bc_medium.specs.Shards.{Own}
use Rattle.bc_script.specs.declared.op.Op.TheVariants as ops
use Rattle.bc_script.specs.Script.{keys_of}
use Rattle.bc_script.specs.Plan.{unit_at}
use Rattle.bc_serial.specs.InTurn.{AttemptsOn, HasOpenAt, via_in}
use Rattle.bc_serial.specs.Standing.{AllStand, CourseData, IsPerformableBio, unit_place_of, answer_of_read, entry_of_read}
use Rattle.bc_serial.proofs.Ready.{attempts, course_more, have_keys, key_at, open_at, own, sectors_at, spare, whole_sectors}
use Rattle.bc_serial.proofs.Placing.{read_failed, read_is_its, read_via}
use Rattle.bc_serial.proofs.course.Course.read_unit.Goals as goal

pub via-via-requires-clause-key : goal.via-via-requires-clause-key
via-via-requires-clause-key c =
    let bio = c.args.bio.now in
    let operation = ops.Read bio.context bio.sector bio.units in
    let keys = c.self.inside.ciphers in
    let here : CourseData = record {
      script = c.self.inside.script.now;
      shards = c.self.inside.shards;
      thread = c.self.inside.thread;
      left = c.self.inside.left;
      journals = c.self.inside.keyslots.journals;
      begun = c.self.inside.keyslots.begun;
      opened = c.self.inside.keyslots.opened;
    } in
    let at_is : c.unit_of_bio-at.result ≡ unit_place_of here.thread (unit_at keys c.args.op operation bio c.args.unit) =
    c.unit_of_bio-at.ensures operation ∙ ap (λ (k : List KeyData). unit_place_of here.thread (unit_at k c.args.op operation bio c.args.unit)) c.keys.ensures in
    let context : c.unit_of_bio-at.result.context ≡ context_after c.args.unit bio.context = ap (λ (a : UnitAt). a.context) at_is in
    key_at (keys_of c.args.self.now.script) c.args.unit bio.context c.unit_of_bio-at.result.context context c.requires.performable.accepted.placed.key

pub via-via-requires-clause-opened : goal.via-via-requires-clause-opened
via-via-requires-clause-opened c =
    let bio = c.args.bio.now in
    let operation = ops.Read bio.context bio.sector bio.units in
    let keys = c.self.inside.ciphers in
    let here : CourseData = record {
      script = c.self.inside.script.now;
      shards = c.self.inside.shards;
      thread = c.self.inside.thread;
      left = c.self.inside.left;
      journals = c.self.inside.keyslots.journals;
      begun = c.self.inside.keyslots.begun;
      opened = c.self.inside.keyslots.opened;
    } in
    let at_is : c.unit_of_bio-at.result ≡ unit_place_of here.thread (unit_at keys c.args.op operation bio c.args.unit) =
    c.unit_of_bio-at.ensures operation ∙ ap (λ (k : List KeyData). unit_place_of here.thread (unit_at k c.args.op operation bio c.args.unit)) c.keys.ensures in
    let context : c.unit_of_bio-at.result.context ≡ context_after c.args.unit bio.context = ap (λ (a : UnitAt). a.context) at_is in
    open_at c.args.self.now c.args.unit bio.context c.unit_of_bio-at.result.context (sector_at (keys_of c.args.self.now.script) bio c.args.unit) context c.requires.opened

pub read_unit-requires-clause-sectors : goal.read_unit-requires-clause-sectors
read_unit-requires-clause-sectors c =
    let bio = c.args.bio.now in
    let operation = ops.Read bio.context bio.sector bio.units in
    let keys = c.self.inside.ciphers in
    let here : CourseData = record {
      script = c.self.inside.script.now;
      shards = c.self.inside.shards;
      thread = c.self.inside.thread;
      left = c.self.inside.left;
      journals = c.self.inside.keyslots.journals;
      begun = c.self.inside.keyslots.begun;
      opened = c.self.inside.keyslots.opened;
    } in
    let performable : IsPerformableBio here.script bio = subst (λ (v : CourseData). IsPerformableBio v.script bio) (sym c.self.view_is) c.requires.performable in
    let at_is : c.unit_of_bio-at.result ≡ unit_place_of here.thread (unit_at keys c.args.op operation bio c.args.unit) =
    c.unit_of_bio-at.ensures operation ∙ ap (λ (k : List KeyData). unit_place_of here.thread (unit_at k c.args.op operation bio c.args.unit)) c.keys.ensures in
    let context : c.unit_of_bio-at.result.context ≡ context_after c.args.unit bio.context = ap (λ (a : UnitAt). a.context) at_is in
    let long : length c.args.place.now ≡ 512 * unit_sectors keys c.unit_of_bio-at.result.context =
    c.requires.length
    ∙ ap (λ (v : CourseData). 512 * unit_sectors (keys_of v.script) bio.context) (sym c.self.view_is)
    ∙ ap (λ (k : List KeyData). 512 * unit_sectors k bio.context) (sym c.self.invariant.keys_are)
    ∙ ap (λ n. 512 * n) (sym (sectors_at keys c.args.unit bio.context c.unit_of_bio-at.result.context context)) in
    subst (λ n. Own owns here.shards c.unit_of_bio-at.result.sector n) (sym (whole_sectors (length c.args.place.now) (unit_sectors keys c.unit_of_bio-at.result.context) long))
    (own c.bio_laws.ensures.sizes c.bio_laws.ensures.blocks here.script keys here.shards c.self.inside.keyslots here.left c.self.invariant here.thread c.args.op operation bio performable c.args.unit c.requires.unit c.unit_of_bio-at.result at_is)

pub read_unit-requires-clause-spare : goal.read_unit-requires-clause-spare
read_unit-requires-clause-spare c =
    let bio = c.args.bio.now in
    let operation = ops.Read bio.context bio.sector bio.units in
    let keys = c.self.inside.ciphers in
    let here : CourseData = record {
      script = c.self.inside.script.now;
      shards = c.self.inside.shards;
      thread = c.self.inside.thread;
      left = c.self.inside.left;
      journals = c.self.inside.keyslots.journals;
      begun = c.self.inside.keyslots.begun;
      opened = c.self.inside.keyslots.opened;
    } in
    let performable : IsPerformableBio here.script bio = subst (λ (v : CourseData). IsPerformableBio v.script bio) (sym c.self.view_is) c.requires.performable in
    let more : AllStand here.script (here.left + 1) here.shards = subst (λ (v : CourseData). AllStand v.script (v.left + 1) v.shards) (sym c.self.view_is) c.requires.spare in
    spare c.bio_laws.ensures.sizes c.bio_laws.ensures.blocks here.script keys here.shards c.self.inside.keyslots here.left c.self.invariant here.thread c.args.op operation bio performable c.args.unit c.requires.unit c.unit_of_bio-at.result more

pub invariant_of-self : goal.invariant_of-self
invariant_of-self c =
    let bio = c.args.bio.now in
    let operation = ops.Read bio.context bio.sector bio.units in
    let keys = c.self.inside.ciphers in
    let here : CourseData = record {
      script = c.self.inside.script.now;
      shards = c.self.inside.shards;
      thread = c.self.inside.thread;
      left = c.self.inside.left;
      journals = c.self.inside.keyslots.journals;
      begun = c.self.inside.keyslots.begun;
      opened = c.self.inside.keyslots.opened;
    } in
    let performable : IsPerformableBio here.script bio = subst (λ (v : CourseData). IsPerformableBio v.script bio) (sym c.self.view_is) c.requires.performable in
    let more : AllStand here.script (here.left + 1) here.shards = subst (λ (v : CourseData). AllStand v.script (v.left + 1) v.shards) (sym c.self.view_is) c.requires.spare in
    let at_is : c.unit_of_bio-at.result ≡ unit_place_of here.thread (unit_at keys c.args.op operation bio c.args.unit) =
    c.unit_of_bio-at.ensures operation ∙ ap (λ (k : List KeyData). unit_place_of here.thread (unit_at k c.args.op operation bio c.args.unit)) c.keys.ensures in
    let context : c.unit_of_bio-at.result.context ≡ context_after c.args.unit bio.context = ap (λ (a : UnitAt). a.context) at_is in
    let long : length c.args.place.now ≡ 512 * unit_sectors keys c.unit_of_bio-at.result.context =
    c.requires.length
    ∙ ap (λ (v : CourseData). 512 * unit_sectors (keys_of v.script) bio.context) (sym c.self.view_is)
    ∙ ap (λ (k : List KeyData). 512 * unit_sectors k bio.context) (sym c.self.invariant.keys_are)
    ∙ ap (λ n. 512 * n) (sym (sectors_at keys c.args.unit bio.context c.unit_of_bio-at.result.context context)) in
    let tried = c.read_unit.ensures.attempted keys (have_keys c.bio_laws.ensures.sizes c.bio_laws.ensures.blocks here.script keys here.shards c.self.inside.keyslots here.left c.self.invariant here.thread c.args.op operation bio performable c.args.unit c.requires.unit) long in
    course_more c.bio_laws.ensures.sizes c.bio_laws.ensures.blocks here.script keys here.shards c.self.inside.keyslots here.left c.self.invariant here.thread c.args.op operation bio performable c.args.unit c.requires.unit c.read_unit.new.shards (entry_of_read c.unit_of_bio-at.result c.via-via.result c.read_unit.result)
    (answer_of_read (deciphered keys c.unit_of_bio-at.result.context c.read_unit.new.place) c.read_unit.result) tried more

pub returns-then-not-read_unit-clause-attempts : goal.returns-then-not-read_unit-clause-attempts
returns-then-not-read_unit-clause-attempts c =
    let bio = c.args.bio.now in
    let operation = ops.Read bio.context bio.sector bio.units in
    let keys = c.self.inside.ciphers in
    let here : CourseData = record {
      script = c.self.inside.script.now;
      shards = c.self.inside.shards;
      thread = c.self.inside.thread;
      left = c.self.inside.left;
      journals = c.self.inside.keyslots.journals;
      begun = c.self.inside.keyslots.begun;
      opened = c.self.inside.keyslots.opened;
    } in
    let performable : IsPerformableBio here.script bio = subst (λ (v : CourseData). IsPerformableBio v.script bio) (sym c.self.view_is) c.requires.performable in
    let more : AllStand here.script (here.left + 1) here.shards = subst (λ (v : CourseData). AllStand v.script (v.left + 1) v.shards) (sym c.self.view_is) c.requires.spare in
    let opened : HasOpenAt here bio.context (sector_at (keys_of here.script) bio c.args.unit) =
    subst (λ (v : CourseData). HasOpenAt v bio.context (sector_at (keys_of v.script) bio c.args.unit)) (sym c.self.view_is) c.requires.opened in
    let at_is : c.unit_of_bio-at.result ≡ unit_place_of here.thread (unit_at keys c.args.op operation bio c.args.unit) =
    c.unit_of_bio-at.ensures operation ∙ ap (λ (k : List KeyData). unit_place_of here.thread (unit_at k c.args.op operation bio c.args.unit)) c.keys.ensures in
    let context : c.unit_of_bio-at.result.context ≡ context_after c.args.unit bio.context = ap (λ (a : UnitAt). a.context) at_is in
    let long : length c.args.place.now ≡ 512 * unit_sectors keys c.unit_of_bio-at.result.context =
    c.requires.length
    ∙ ap (λ (v : CourseData). 512 * unit_sectors (keys_of v.script) bio.context) (sym c.self.view_is)
    ∙ ap (λ (k : List KeyData). 512 * unit_sectors k bio.context) (sym c.self.invariant.keys_are)
    ∙ ap (λ n. 512 * n) (sym (sectors_at keys c.args.unit bio.context c.unit_of_bio-at.result.context context)) in
    let tried = c.read_unit.ensures.attempted keys (have_keys c.bio_laws.ensures.sizes c.bio_laws.ensures.blocks here.script keys here.shards c.self.inside.keyslots here.left c.self.invariant here.thread c.args.op operation bio performable c.args.unit c.requires.unit) long in
    let u = unit_at (keys_of here.script) c.args.op operation bio c.args.unit in
    let e = entry_of_read c.unit_of_bio-at.result c.via-via.result c.read_unit.result in
    let text = deciphered keys c.unit_of_bio-at.result.context c.read_unit.new.place in
    let mine : c.unit_of_bio-at.result ≡ unit_place_of here.thread u =
    at_is ∙ ap (λ (k : List KeyData). unit_place_of here.thread (unit_at k c.args.op operation bio c.args.unit)) c.self.invariant.keys_are in
    let its : IsEntryOf here.thread u e =
    subst (λ (a : UnitAt). IsEntryOf here.thread u (entry_of_read a c.via-via.result c.read_unit.result)) (sym mine)
    (read_is_its here.thread u c.via-via.result c.read_unit.result c.requires.access) in
    let goes : e.via ≡ via_in here (context_after c.args.unit bio.context) =
    read_via c.unit_of_bio-at.result c.via-via.result c.read_unit.result ∙ c.via-via.ensures ∙ ap (λ (v : CourseData). via_in v c.unit_of_bio-at.result.context) (sym c.self.view_is)
    ∙ ap (via_in here) context in
    let attempt = attempts c.bio_laws.ensures.sizes c.bio_laws.ensures.blocks here.script keys here.shards c.self.inside.keyslots here.left c.self.invariant here.thread c.args.op operation bio performable c.args.unit c.requires.unit c.read_unit.new.shards e (answer_of_read text c.read_unit.result) tried its
    (read_failed c.unit_of_bio-at.result c.via-via.result text c.read_unit.result) opened goes in
    let after : CourseData = record here { shards = c.read_unit.new.shards } in
    subst (λ (v : CourseData). AttemptsOn v after (unit_at (keys_of v.script) c.args.op operation bio c.args.unit) (answer_of_read text false)) c.self.view_is
    (subst (λ (t : Bool). AttemptsOn here after u (answer_of_read text t)) c.if-not-read_unit.true attempt)

pub invariant_of-self-2 : goal.invariant_of-self-2
invariant_of-self-2 c =
    let bio = c.args.bio.now in
    let operation = ops.Read bio.context bio.sector bio.units in
    let keys = c.self.inside.ciphers in
    let here : CourseData = record {
      script = c.self.inside.script.now;
      shards = c.self.inside.shards;
      thread = c.self.inside.thread;
      left = c.self.inside.left;
      journals = c.self.inside.keyslots.journals;
      begun = c.self.inside.keyslots.begun;
      opened = c.self.inside.keyslots.opened;
    } in
    let performable : IsPerformableBio here.script bio = subst (λ (v : CourseData). IsPerformableBio v.script bio) (sym c.self.view_is) c.requires.performable in
    let more : AllStand here.script (here.left + 1) here.shards = subst (λ (v : CourseData). AllStand v.script (v.left + 1) v.shards) (sym c.self.view_is) c.requires.spare in
    let at_is : c.unit_of_bio-at.result ≡ unit_place_of here.thread (unit_at keys c.args.op operation bio c.args.unit) =
    c.unit_of_bio-at.ensures operation ∙ ap (λ (k : List KeyData). unit_place_of here.thread (unit_at k c.args.op operation bio c.args.unit)) c.keys.ensures in
    let context : c.unit_of_bio-at.result.context ≡ context_after c.args.unit bio.context = ap (λ (a : UnitAt). a.context) at_is in
    let long : length c.args.place.now ≡ 512 * unit_sectors keys c.unit_of_bio-at.result.context =
    c.requires.length
    ∙ ap (λ (v : CourseData). 512 * unit_sectors (keys_of v.script) bio.context) (sym c.self.view_is)
    ∙ ap (λ (k : List KeyData). 512 * unit_sectors k bio.context) (sym c.self.invariant.keys_are)
    ∙ ap (λ n. 512 * n) (sym (sectors_at keys c.args.unit bio.context c.unit_of_bio-at.result.context context)) in
    let tried = c.read_unit.ensures.attempted keys (have_keys c.bio_laws.ensures.sizes c.bio_laws.ensures.blocks here.script keys here.shards c.self.inside.keyslots here.left c.self.invariant here.thread c.args.op operation bio performable c.args.unit c.requires.unit) long in
    course_more c.bio_laws.ensures.sizes c.bio_laws.ensures.blocks here.script keys here.shards c.self.inside.keyslots here.left c.self.invariant here.thread c.args.op operation bio performable c.args.unit c.requires.unit c.read_unit.new.shards (entry_of_read c.unit_of_bio-at.result c.via-via.result c.read_unit.result)
    (answer_of_read (deciphered keys c.unit_of_bio-at.result.context c.read_unit.new.place) c.read_unit.result) tried more

pub decipher-requires-clause-key : goal.decipher-requires-clause-key
decipher-requires-clause-key c =
    let bio = c.args.bio.now in
    let operation = ops.Read bio.context bio.sector bio.units in
    let keys = c.self.inside.ciphers in
    let here : CourseData = record {
      script = c.self.inside.script.now;
      shards = c.self.inside.shards;
      thread = c.self.inside.thread;
      left = c.self.inside.left;
      journals = c.self.inside.keyslots.journals;
      begun = c.self.inside.keyslots.begun;
      opened = c.self.inside.keyslots.opened;
    } in
    let performable : IsPerformableBio here.script bio = subst (λ (v : CourseData). IsPerformableBio v.script bio) (sym c.self.view_is) c.requires.performable in
    let at_is : c.unit_of_bio-at.result ≡ unit_place_of here.thread (unit_at keys c.args.op operation bio c.args.unit) =
    c.unit_of_bio-at.ensures operation ∙ ap (λ (k : List KeyData). unit_place_of here.thread (unit_at k c.args.op operation bio c.args.unit)) c.keys.ensures in
    let context : c.unit_of_bio-at.result.context ≡ context_after c.args.unit bio.context = ap (λ (a : UnitAt). a.context) at_is in
    key_at (keys_of here.script) c.args.unit bio.context c.unit_of_bio-at.result.context context performable.accepted.placed.key

pub decipher-requires-clause-opened : goal.decipher-requires-clause-opened
decipher-requires-clause-opened c =
    let bio = c.args.bio.now in
    let operation = ops.Read bio.context bio.sector bio.units in
    let keys = c.self.inside.ciphers in
    let here : CourseData = record {
      script = c.self.inside.script.now;
      shards = c.self.inside.shards;
      thread = c.self.inside.thread;
      left = c.self.inside.left;
      journals = c.self.inside.keyslots.journals;
      begun = c.self.inside.keyslots.begun;
      opened = c.self.inside.keyslots.opened;
    } in
    let opened : HasOpenAt here bio.context (sector_at (keys_of here.script) bio c.args.unit) =
    subst (λ (v : CourseData). HasOpenAt v bio.context (sector_at (keys_of v.script) bio c.args.unit)) (sym c.self.view_is) c.requires.opened in
    let at_is : c.unit_of_bio-at.result ≡ unit_place_of here.thread (unit_at keys c.args.op operation bio c.args.unit) =
    c.unit_of_bio-at.ensures operation ∙ ap (λ (k : List KeyData). unit_place_of here.thread (unit_at k c.args.op operation bio c.args.unit)) c.keys.ensures in
    let context : c.unit_of_bio-at.result.context ≡ context_after c.args.unit bio.context = ap (λ (a : UnitAt). a.context) at_is in
    open_at (record here { shards = c.read_unit.new.shards }) c.args.unit bio.context c.unit_of_bio-at.result.context (sector_at (keys_of here.script) bio c.args.unit) context opened

pub decipher-requires-clause-length : goal.decipher-requires-clause-length
decipher-requires-clause-length c =
    let bio = c.args.bio.now in
    let operation = ops.Read bio.context bio.sector bio.units in
    let keys = c.self.inside.ciphers in
    let here : CourseData = record {
      script = c.self.inside.script.now;
      shards = c.self.inside.shards;
      thread = c.self.inside.thread;
      left = c.self.inside.left;
      journals = c.self.inside.keyslots.journals;
      begun = c.self.inside.keyslots.begun;
      opened = c.self.inside.keyslots.opened;
    } in
    let at_is : c.unit_of_bio-at.result ≡ unit_place_of here.thread (unit_at keys c.args.op operation bio c.args.unit) =
    c.unit_of_bio-at.ensures operation ∙ ap (λ (k : List KeyData). unit_place_of here.thread (unit_at k c.args.op operation bio c.args.unit)) c.keys.ensures in
    let context : c.unit_of_bio-at.result.context ≡ context_after c.args.unit bio.context = ap (λ (a : UnitAt). a.context) at_is in
    let long : length c.args.place.now ≡ 512 * unit_sectors keys c.unit_of_bio-at.result.context =
    c.requires.length
    ∙ ap (λ (v : CourseData). 512 * unit_sectors (keys_of v.script) bio.context) (sym c.self.view_is)
    ∙ ap (λ (k : List KeyData). 512 * unit_sectors k bio.context) (sym c.self.invariant.keys_are)
    ∙ ap (λ n. 512 * n) (sym (sectors_at keys c.args.unit bio.context c.unit_of_bio-at.result.context context)) in
    c.read_unit.ensures.length ∙ long ∙ ap (λ (k : List KeyData). 512 * unit_sectors k c.unit_of_bio-at.result.context) c.self.invariant.keys_are

pub returns-clause-attempts : goal.returns-clause-attempts
returns-clause-attempts c =
    let bio = c.args.bio.now in
    let operation = ops.Read bio.context bio.sector bio.units in
    let keys = c.self.inside.ciphers in
    let here : CourseData = record {
      script = c.self.inside.script.now;
      shards = c.self.inside.shards;
      thread = c.self.inside.thread;
      left = c.self.inside.left;
      journals = c.self.inside.keyslots.journals;
      begun = c.self.inside.keyslots.begun;
      opened = c.self.inside.keyslots.opened;
    } in
    let performable : IsPerformableBio here.script bio = subst (λ (v : CourseData). IsPerformableBio v.script bio) (sym c.self.view_is) c.requires.performable in
    let more : AllStand here.script (here.left + 1) here.shards = subst (λ (v : CourseData). AllStand v.script (v.left + 1) v.shards) (sym c.self.view_is) c.requires.spare in
    let opened : HasOpenAt here bio.context (sector_at (keys_of here.script) bio c.args.unit) =
    subst (λ (v : CourseData). HasOpenAt v bio.context (sector_at (keys_of v.script) bio c.args.unit)) (sym c.self.view_is) c.requires.opened in
    let at_is : c.unit_of_bio-at.result ≡ unit_place_of here.thread (unit_at keys c.args.op operation bio c.args.unit) =
    c.unit_of_bio-at.ensures operation ∙ ap (λ (k : List KeyData). unit_place_of here.thread (unit_at k c.args.op operation bio c.args.unit)) c.keys.ensures in
    let context : c.unit_of_bio-at.result.context ≡ context_after c.args.unit bio.context = ap (λ (a : UnitAt). a.context) at_is in
    let long : length c.args.place.now ≡ 512 * unit_sectors keys c.unit_of_bio-at.result.context =
    c.requires.length
    ∙ ap (λ (v : CourseData). 512 * unit_sectors (keys_of v.script) bio.context) (sym c.self.view_is)
    ∙ ap (λ (k : List KeyData). 512 * unit_sectors k bio.context) (sym c.self.invariant.keys_are)
    ∙ ap (λ n. 512 * n) (sym (sectors_at keys c.args.unit bio.context c.unit_of_bio-at.result.context context)) in
    let tried = c.read_unit.ensures.attempted keys (have_keys c.bio_laws.ensures.sizes c.bio_laws.ensures.blocks here.script keys here.shards c.self.inside.keyslots here.left c.self.invariant here.thread c.args.op operation bio performable c.args.unit c.requires.unit) long in
    let u = unit_at (keys_of here.script) c.args.op operation bio c.args.unit in
    let e = entry_of_read c.unit_of_bio-at.result c.via-via.result c.read_unit.result in
    let text = deciphered keys c.unit_of_bio-at.result.context c.read_unit.new.place in
    let mine : c.unit_of_bio-at.result ≡ unit_place_of here.thread u =
    at_is ∙ ap (λ (k : List KeyData). unit_place_of here.thread (unit_at k c.args.op operation bio c.args.unit)) c.self.invariant.keys_are in
    let its : IsEntryOf here.thread u e =
    subst (λ (a : UnitAt). IsEntryOf here.thread u (entry_of_read a c.via-via.result c.read_unit.result)) (sym mine)
    (read_is_its here.thread u c.via-via.result c.read_unit.result c.requires.access) in
    let goes : e.via ≡ via_in here (context_after c.args.unit bio.context) =
    read_via c.unit_of_bio-at.result c.via-via.result c.read_unit.result ∙ c.via-via.ensures ∙ ap (λ (v : CourseData). via_in v c.unit_of_bio-at.result.context) (sym c.self.view_is)
    ∙ ap (via_in here) context in
    let attempt = attempts c.bio_laws.ensures.sizes c.bio_laws.ensures.blocks here.script keys here.shards c.self.inside.keyslots here.left c.self.invariant here.thread c.args.op operation bio performable c.args.unit c.requires.unit c.read_unit.new.shards e (answer_of_read text c.read_unit.result) tried its
    (read_failed c.unit_of_bio-at.result c.via-via.result text c.read_unit.result) opened goes in
    let after : CourseData = record here { shards = c.read_unit.new.shards } in
    let same : text ≡ c.decipher.new.text =
    ap (λ (k : List KeyData). deciphered k c.unit_of_bio-at.result.context c.read_unit.new.place) c.self.invariant.keys_are ∙ sym c.decipher.ensures in
    subst (λ (v : CourseData). AttemptsOn v after (unit_at (keys_of v.script) c.args.op operation bio c.args.unit) (Text c.decipher.new.text)) c.self.view_is
    (subst (λ (l : List ℕ). AttemptsOn here after u (Text l)) same
    (subst (λ (t : Bool). AttemptsOn here after u (answer_of_read text t)) c.if-not-read_unit.false attempt))
