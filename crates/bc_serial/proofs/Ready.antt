-- A data unit of a bio that can be performed: what the shards ask before it is attempted, and what it leaves.
use Rattle.std.proofs.Common.{◌≡◌, ℕ, zero, suc, ◌-◌, ◌+◌, ◌*◌, ◌/◌, ◌%◌, ◌<◌, ◌≤◌, ◌⊎◌, Bool, true, false, cond, List, length, refl, sym, ap, subst, ◌∙◌, arith, Option, Some, None}
use Rattle.std.specs.Prelude.{replicate, IsSomeAnd, unwrap_or}
use Rattle.std.proofs.Math.Logic.{⊎_elim}
use Rattle.bc_base.specs.RamStores.{RamData, owns}
use Rattle.bc_key.specs.KeyData.{KeyData}
use Rattle.bc_key.specs.DataUnits.{IsUnitSize}
use Rattle.bc_bio.specs.declared.context.Context.{Context}
use Rattle.bc_bio.specs.declared.extent.Extent.{Extent}
use Rattle.bc_bio.specs.Extent.{unit_sectors, context_after, sector_at, end_of}
use Rattle.bc_bio.specs.Conditions.{HasKey, IsAccepted}
use Rattle.bc_bio.specs.Laws.{UnitsHaveSizes, UnitsLieInBlocks}
use Rattle.bc_bio.specs.PlannedUnit.{PlannedUnit}
use Rattle.bc_medium.specs.declared.entry.Entry.{Entry}
use Rattle.bc_medium.specs.declared.unit_at.UnitAt.{UnitAt}
use Rattle.bc_medium.specs.declared.via.Via.TheVariants as vias
use Rattle.bc_medium.specs.Layout.{shard_of}
use Rattle.bc_medium.specs.KeyedDisk.{UnitAnswer}
use Rattle.bc_medium.specs.Growth.{IsEntryOf}
use Rattle.bc_medium.specs.Outcome.{is_fault}
use Rattle.bc_medium.specs.ShardOrder.{ShardData, HasKeys}
use Rattle.bc_medium.specs.Shards.{HaveKeys, Own, HasSpare}
use Rattle.bc_script.specs.declared.op.Op.{Op}
use Rattle.bc_script.specs.declared.op.Text.{Text}
use Rattle.bc_script.specs.declared.op.Text.TheVariants.{Fill, Bytes}
use Rattle.bc_script.specs.Script.{Script, keys_of, sectors_in}
use Rattle.bc_script.specs.Plan.{unit_at, text_at, HasUnit}
use Rattle.bc_script.specs.Bios.{is_inline}
use Rattle.bc_script.specs.Way.{inline, soft, way_of}
use Rattle.bc_report.specs.Ways.{way_in}
use Rattle.bc_stack.specs.Devices.{device_at}
use Rattle.bc_compose.specs.SectionDone.{SaysItsWay}
use Rattle.bc_serial.specs.declared.open_hold.OpenHold.{OpenHold}
use Rattle.bc_serial.specs.InTurn.{AttemptsOn, HasOpen, HasOpenAt, via_in}
use Rattle.bc_serial.specs.Keyslots.{KeyslotsData, IsOpenFor, via_under}
use Rattle.bc_serial.specs.Standing.{CourseData, AllStand, HaveRoom, IsCourse, IsPerformableBio, Attempted, unit_place_of}
use Rattle.bc_section.proofs.Lists.{all_by_place}
use Rattle.bc_serial.proofs.EqualParts.{length-part}
use Rattle.bc_serial.proofs.Room.{have_less}
use Rattle.bc_serial.proofs.Placing.{stand_more, attempts_unit}
use Rattle.bc_base.proofs.Members.{length-set}
use Rattle.bc_section.proofs.Numbered.{part_within}

key_after : (keys : List KeyData) (context : Option Context) (i : ℕ) → HasKey keys context → HasKey keys (context_after i context)
key_after keys None i has = tt
key_after keys (Some context) i has = has

pub sectors_after : (keys : List KeyData) (context : Option Context) (i : ℕ) → unit_sectors keys (context_after i context) ≡ unit_sectors keys context
sectors_after keys None i = refl
sectors_after keys (Some context) i = refl

-- ---- how a unit goes

open_after : (here : CourseData) (i : ℕ) (context : Option Context) (sector : ℕ) → HasOpenAt here context sector → HasOpenAt here (context_after i context) sector
open_after here i None sector is = tt
open_after here i (Some under) sector is = is

-- the hold that is open is of the key
pub open_for : (here : CourseData) (i : ℕ) (context : Option Context) (sector : ℕ) → HasOpenAt here context sector → HasOpen here (context_after i context)
open_for here i None sector is = tt
open_for here i (Some under) sector is = λ inline. of_hold here.opened (is inline)
  where
    of_hold : (o : Option OpenHold) → IsSomeAnd o (λ hold. (hold.key ≡ under.key.0) × (device_at here.script.targets sector ≡ Some hold.device)) → IsOpenFor o under.key.0
    of_hold None none = none
    of_hold (Some hold) both = both.0

-- the entry of a unit says its way
pub says_via : (here : CourseData) (context : Option Context) (sector : ℕ) → HasOpenAt here context sector → way_in (via_in here context) ≡ way_of here.script context sector
says_via here None sector is = refl
says_via here (Some under) sector is = choice (is_inline here.script under.key) is
  where
    of_hold : (o : Option OpenHold) → IsSomeAnd o (λ hold. (hold.key ≡ under.key.0) × (device_at here.script.targets sector ≡ Some hold.device))
        → way_in (via_under o) ≡ inline (unwrap_or (device_at here.script.targets sector) 0)
    of_hold None none = absurd none
    of_hold (Some hold) both = ap (λ (o : Option ℕ). inline (unwrap_or o 0)) (sym both.1)

    choice : (b : Bool) → (b ≡ true → IsSomeAnd here.opened (λ hold. (hold.key ≡ under.key.0) × (device_at here.script.targets sector ≡ Some hold.device)))
        → way_in (cond b (via_under here.opened) vias.Soft) ≡ cond b (inline (unwrap_or (device_at here.script.targets sector) 0)) soft
    choice true is = of_hold here.opened (is refl)
    choice false is = refl

-- a context that is so many units further on
pub key_at : (keys : List KeyData) (i : ℕ) (context next : Option Context) → next ≡ context_after i context → HasKey keys context → HasKey keys next
key_at keys i context next is has = subst (HasKey keys) (sym is) (key_after keys context i has)

pub sectors_at : (keys : List KeyData) (i : ℕ) (context next : Option Context) → next ≡ context_after i context → unit_sectors keys next ≡ unit_sectors keys context
sectors_at keys i context next is = ap (unit_sectors keys) is ∙ sectors_after keys context i

pub open_at : (here : CourseData) (i : ℕ) (context next : Option Context) (sector : ℕ) → next ≡ context_after i context → HasOpenAt here context sector → HasOpen here next
open_at here i context next sector is opened = subst (HasOpen here) (sym is) (open_for here i context sector opened)

pub whole_sectors : (n m : ℕ) → n ≡ 512 * m → n / 512 ≡ m
whole_sectors n m is = omega arith

unit_has_some : (n : ℕ) → IsUnitSize n → 1 ≤ n
unit_has_some n size =
    ⊎_elim (λ (e : n ≡ 1). omega arith)
    (λ (more : (n ≡ 2) ⊎ ((n ≡ 4) ⊎ (n ≡ 8))). ⊎_elim (λ (e : n ≡ 2). omega arith)
    (λ (more : (n ≡ 4) ⊎ (n ≡ 8)). ⊎_elim (λ (e : n ≡ 4). omega arith) (λ (e : n ≡ 8). omega arith) more) more) size

-- a data unit of an accepted bio begins on the disk
pub below : (keys : List KeyData) (bio : Extent) (i sectors : ℕ) → UnitsHaveSizes → (sector : ℕ) (keys' : List KeyData) → keys' ≡ keys
    → sector + unit_sectors keys' bio.context ≤ end_of keys' bio → end_of keys bio ≤ sectors → sector < sectors
below keys bio i sectors sizes sector keys' same inside most =
    let at : sector + unit_sectors keys bio.context ≤ end_of keys bio = subst (λ (k : List KeyData). sector + unit_sectors k bio.context ≤ end_of k bio) same inside in
    let some = unit_has_some (unit_sectors keys bio.context) (sizes keys bio.context) in
    omega arith

shard_inside : (shards block : ℕ) → block % shards ≡ block % shards
shard_inside shards block = refl

module _ (sizes : UnitsHaveSizes) (blocks : UnitsLieInBlocks) (script : Script) (keys : List KeyData) (shards : List (ShardData RamData)) (keyslots : KeyslotsData) (left : ℕ) (course : IsCourse script keys shards keyslots left)
    (thread op : ℕ) (operation : Op) (bio : Extent) (performable : IsPerformableBio script bio) (i : ℕ) (within : i < bio.units) where
  abbrev accepted : IsAccepted keys (sectors_in script) bio
  accepted = subst (λ (k : List KeyData). IsAccepted k (sectors_in script) bio) (sym course.keys_are) performable.accepted

  abbrev u : PlannedUnit
  u = unit_at keys op operation bio i

  pub has_key : (at : UnitAt) → at ≡ unit_place_of thread u → HasKey keys at.context
  has_key at is = subst (λ (a : UnitAt). HasKey keys a.context) (sym is) (key_after keys bio.context i accepted.placed.key)

  pub have_keys : HaveKeys keys shards
  have_keys = all_by_place (HasKeys keys) shards (λ k s at. subst (λ (ks : List KeyData). HasKeys ks s) (sym course.keys_are) (course.stand k s at).keys)

  pub size : (at : UnitAt) → at ≡ unit_place_of thread u → unit_sectors keys at.context ≡ unit_sectors keys bio.context
  size at is = ap (λ (a : UnitAt). unit_sectors keys a.context) is ∙ sectors_after keys bio.context i

  end_within : (i n : ℕ) (size : ℕ) → i < n → i * size + size ≤ n * size
  end_within i n size lt = let p = part_within size i n lt in omega arith

  pub own : (at : UnitAt) → at ≡ unit_place_of thread u → Own owns shards at.sector (unit_sectors keys at.context)
  own at is s here =
      let n = unit_sectors keys bio.context in
      let sector : at.sector ≡ bio.sector + i * n = ap (λ (a : UnitAt). a.sector) is in
      let stands = course.stand (shard_of (length shards) at.sector) s here in record {
        some = subst (λ m. 1 ≤ m) (sym (size at is)) (unit_has_some n (sizes keys bio.context));
        owned = λ j inside.
            let inside' : j < n = subst (λ m. j < m) (size at is) inside in
            let last : bio.sector + bio.units * n ≤ sectors_in script = accepted.inside in
            let end = end_within i bio.units n within in
            stands.owned (at.sector + j) (omega arith)
            (ap (λ b. b % length shards)
            (ap (λ m. (m + j) / 8) sector ∙ blocks keys bio i j accepted.aligned inside' ∙ ap (λ m. m / 8) (sym sector)));
      }

  pub spare : (at : UnitAt) → AllStand script (left + 1) shards → HasSpare shards at.sector
  spare at some s here = let l = (some (shard_of (length shards) at.sector) s here).spare in omega arith

  -- what an attempt leaves
  module _ (new : List (ShardData RamData)) (e : Entry) (answer : UnitAnswer) (p : Attempted keys shards new e answer) where
    pub course_more : AllStand script (left + 1) shards → IsCourse script keys new keyslots left
    course_more some =
        let long : length new ≡ length shards = ap length p.goes_on.3 ∙ length-set shards p.place.shard p.goes_on.1 in record {
          rules = course.rules;
          keys_are = course.keys_are;
          some = subst (λ n. 1 ≤ n) (sym long) course.some;
          stand = stand_more script shards new e p.place.shard (left + 1) left (omega arith)
              (subst (λ (k : List KeyData). Attempted k shards new e answer) course.keys_are p).goes_on refl some;
          same_script = course.same_script;
          room = course.room;
        }

    abbrev here : CourseData
    here = record {
      script = script;
      shards = shards;
      thread = thread;
      left = left;
      journals = keyslots.journals;
      begun = keyslots.begun;
      opened = keyslots.opened;
    }

    pub attempts : IsEntryOf thread (unit_at (keys_of script) op operation bio i) e → e.failed ≡ is_fault answer
        → HasOpenAt here bio.context (sector_at (keys_of script) bio i) → e.via ≡ via_in here (context_after i bio.context)
        → AttemptsOn here (record here { shards = new }) (unit_at (keys_of script) op operation bio i) answer
    attempts its failed opened via =
        let u = unit_at (keys_of script) op operation bio i in
        let ap_at : e.at ≡ unit_place_of thread u = its.unit in
        let way : SaysItsWay script e =
        ap way_in via
        ∙ says_via here (context_after i bio.context) (sector_at (keys_of script) bio i) (open_after here i bio.context (sector_at (keys_of script) bio i) opened)
        ∙ ap (λ (a : UnitAt). way_of script a.context a.sector) (sym ap_at) in
        let q = attempts_unit here new u e answer (subst (λ (k : List KeyData). Attempted k shards new e answer) course.keys_are p) its way failed in record {
          unit = q.0;
          same = refl;
          via = ap (λ (x : Entry). x.via) q.1 ∙ via;
        }

-- ---- what fits

less : (n : ℕ) → 1 ≤ n → n - 1 + 1 ≡ n
less n some = omega arith

-- the shards have room for one entry more than what fits once a unit was reached
pub entries_more : (script : Script) (left : ℕ) (shards : List (ShardData RamData)) → 1 ≤ left → AllStand script left shards → AllStand script (left - 1 + 1) shards
entries_more script left shards some stand = subst (λ (n : ℕ). AllStand script n shards) (sym (less left some)) stand

lowered : (script : Script) (left : ℕ) (shards : List (ShardData RamData)) → AllStand script left shards → AllStand script (left - 1) shards
lowered script left shards stand shard z at =
    let is = stand shard z at in
    record { keys = is.keys; owned = is.owned; blocks = is.blocks; planned = is.planned; spare = let l = is.spare in omega arith; few = is.few }

-- a course of which one unit less fits, and of which the devices have room for
pub course_less : (script : Script) (keys : List KeyData) (shards : List (ShardData RamData)) (keyslots keyslots' : KeyslotsData) (left : ℕ)
    → IsCourse script keys shards keyslots left → keyslots'.script ≡ keyslots.script → HaveRoom (left - 1) keyslots'.journals
    → IsCourse script keys shards keyslots' (left - 1)
course_less script keys shards keyslots keyslots' left course same room = record {
  rules = course.rules;
  keys_are = course.keys_are;
  some = course.some;
  stand = lowered script left shards course.stand;
  same_script = same ∙ course.same_script;
  room = room;
}

pub course_unused : (script : Script) (keys : List KeyData) (shards : List (ShardData RamData)) (keyslots : KeyslotsData) (left : ℕ)
    → IsCourse script keys shards keyslots left → IsCourse script keys shards keyslots (left - 1)
course_unused script keys shards keyslots left course =
    course_less script keys shards keyslots keyslots left course refl (have_less left keyslots.journals course.room)

-- ---- the bytes of a unit

length-replicate : (n x : ℕ) → length (replicate n x) ≡ n
length-replicate zero x = refl
length-replicate (suc n) x = ap suc (length-replicate n x)

pub text_length : (text : Text) (size i : ℕ) → HasUnit text size i → length (text_at text size i) ≡ size
text_length (Fill byte) size i has = length-replicate size byte
text_length (Bytes bytes) size i has = length-part bytes size i has
