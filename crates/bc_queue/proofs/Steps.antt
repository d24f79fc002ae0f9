-- One unit of a request that was attempted.
use Rattle.std.proofs.Common.{◌≡◌, ◌≢◌, ℕ, ◌+◌, ◌*◌, ◌<◌, ◌≤◌, Bool, true, false, List, [], ◌∷◌, ◌++◌, length, refl, sym, ap, subst, ◌∙◌, arith, Option, Some, None}
use Rattle.std.specs.Prelude.{IsSomeAnd}
use Rattle.std.specs.Option.{option_map_or}
use Rattle.std.proofs.lemmas.Bool.{true≢false, false≢true}
use Rattle.std.proofs.lemmas.Option.{none-some, same_Some}
use Rattle.bc_base.specs.declared.place.Place.{Place}
use Rattle.bc_base.specs.Lists.{At, list_at}
use Rattle.bc_key.specs.KeyData.{KeyData}
use Rattle.bc_bio.specs.declared.access.Access.{Access}
use Rattle.bc_bio.specs.declared.access.Access.TheVariants.{Read, Write}
use Rattle.bc_bio.specs.declared.unit.Unit.{Unit}
use Rattle.bc_bio.specs.declared.unit.Unit.TheVariants.{Full, Stored}
use Rattle.bc_bio.specs.declared.marked_bio.MarkedBio.{MarkedBio}
use Rattle.bc_bio.specs.Conditions.{IsFull}
use Rattle.bc_bio.specs.Extent.{unit_sectors}
use Rattle.bc_bio.specs.Requests.{RequestParts, tagged_bios, unit_in, with_unit, with_fault}
use Rattle.bc_medium.specs.declared.entry.Entry.{Entry}
use Rattle.bc_medium.specs.declared.unit_at.UnitAt.{UnitAt}
use Rattle.bc_medium.specs.KeyedDisk.{UnitAnswer, Faulted, Written, Text}
use Rattle.bc_medium.specs.Entries.{written_entry, read_entry, failed_entry}
use Rattle.bc_medium.specs.Growth.{IsEntryOf, Appended}
use Rattle.bc_queue.specs.RequestUnits.{named_at, access_at, written_bytes, planned_at, faults_of}
use Rattle.bc_queue.specs.Carrying.{AccessFacts, AccessesOne, IsCarried, AttemptsOne, IsUnitAt, IsSomeFull, HasOther, IsPerformableUnit, faults_then, answer_of, content_of}
use Rattle.bc_queue.proofs.Lists.{at_end}
use Rattle.bc_queue.proofs.Contents.{WithContent, with_content, content_then, WithFault, faulted}

-- a unit whose bytes were taken
pub taken : (old new : RequestParts) (n : ℕ) (bytes : List ℕ) → unit_in old.bios n ≡ Some (Full bytes) → HasOther old new n → (left : Unit) × WithContent old new n left
taken old new n bytes is other = (other.0, subst (λ r. WithContent old r n other.0) (sym other.1) (with_content old n (Full bytes) other.0 is))

-- another content was put there, and so it has that
pub put_back : (old mid new : RequestParts) (n : ℕ) (bytes : List ℕ) (unit : Unit) → unit_in old.bios n ≡ Some (Full bytes) → HasOther old mid n → new ≡ with_unit n mid unit → WithContent old new n unit
put_back old mid new n bytes unit is other puts =
    let first = taken old mid n bytes is other in
    content_then old mid new n first.0 unit first.1 (subst (λ r. WithContent mid r n unit) (sym puts) (with_content mid n first.0 unit first.1.here))

-- the bytes of a unit that can be performed
pub is_full : (keys : List KeyData) (Takes : ℕ → _ → Type 0) (bios : List MarkedBio) (n : ℕ) → IsPerformableUnit keys Takes bios n → IsSomeFull (unit_in bios n)
is_full keys Takes bios n can = of_unit (unit_in bios n) can.full
  where
    of_unit : (o : Option Unit) → IsSomeAnd o (IsFull (unit_sectors keys (named_at keys bios n).context)) → IsSomeFull o
    of_unit None is = is
    of_unit (Some (Full bytes)) is = tt
    of_unit (Some (Stored place)) is = is
    of_unit (Some unit) is = absurd is

pub has_length : (keys : List KeyData) (Takes : ℕ → _ → Type 0) (bios : List MarkedBio) (n : ℕ) (bytes : List ℕ) → IsPerformableUnit keys Takes bios n → unit_in bios n ≡ Some (Full bytes) → length bytes ≡ 512 * unit_sectors keys (named_at keys bios n).context
has_length keys Takes bios n bytes can is = subst (λ o. IsSomeAnd o (IsFull (unit_sectors keys (named_at keys bios n).context))) is can.full

-- the entry of a unit: it stands at its place
entry_stands : (facts new : AccessFacts) (e : Entry) (answer : UnitAnswer) (place : Place) → AccessesOne facts new e answer place → At (list_at new.seen place.shard) place.index e
entry_stands facts new e answer place access =
    subst (λ k. At (list_at new.seen place.shard) k e) (sym access.performs.index)
    (subst (λ l. At l (length access.before) e) (sym access.performs.appended.ends) (at_end access.before e))

module _ (old new : AccessFacts) (before after : RequestParts) (n : ℕ) (at : UnitAt) (e : Entry) (place : Place) (bytes : List ℕ) where
  -- what is known of an entry: the unit's, its access and way, and what a write that met no fault wrote
  pub record IsMade : Type 0 where
    pub is_at : IsUnitAt old before.bios n at
    pub entry_at : e.at ≡ at
    pub entry_access : e.access ≡ access_at before.bios n
    pub entry_way : e.via ≡ old.via
    pub written : e.failed ≡ false → access_at before.bios n ≡ Write → e.plain ≡ Some (written_bytes (access_at before.bios n) (unit_in before.bios n))
    pub access : AccessesOne old new e (answer_of e.access e.failed bytes) place
    pub full : length bytes ≡ 512 * unit_sectors old.keys at.context
    pub back : access_at before.bios n ≡ Write → unit_in before.bios n ≡ Some (Full bytes)

  carried : IsMade → unit_in after.bios n ≡ Some (content_of e.access e.failed place bytes) → IsCarried old new.seen before.bios after.bios n e
  carried is content = record {
    entry = record { unit = is.entry_at ∙ is.is_at; access = is.entry_access; written = is.written };
    way = is.entry_way;
    place = place;
    shard = is.access.performs.shard;
    stands = entry_stands old new e (answer_of e.access e.failed bytes) place is.access;
    bytes = bytes;
    content = content;
    full = is.full ∙ ap (λ (u : UnitAt). 512 * unit_sectors old.keys u.context) (sym is.entry_at);
    back = λ writes. is.back (sym is.entry_access ∙ writes);
    told = is.access.told;
  }

  -- it met no fault
  pub went : IsMade → e.failed ≡ false → WithContent before after n (content_of e.access e.failed place bytes) → AttemptsOne old new before after n
  went is ok content = record {
    e = e;
    answer = answer_of e.access e.failed bytes;
    place = place;
    access = is.access;
    carried = carried is content.here;
    faults = content.faults ∙ sym (ap (λ (b : Bool). faults_then b (tagged_bios before.bios) (faults_of before.bios) n) ok);
    others = content.others;
    bios = content.bios;
    room = content.room;
  }

  -- it met a fault, which was marked after its content was put back
  pub failed : (mid : RequestParts) → IsMade → e.failed ≡ true → WithContent before mid n (content_of e.access e.failed place bytes) → after ≡ with_fault n mid → AttemptsOne old new before after n
  failed mid is met content marks =
      let mark : WithFault mid after n = subst (λ r. WithFault mid r n) (sym marks) (faulted mid n (content_of e.access e.failed place bytes) content.here) in record {
        e = e;
        answer = answer_of e.access e.failed bytes;
        place = place;
        access = is.access;
        carried = carried is (mark.units n ∙ content.here);
        faults =
            mark.faults
            ∙ ap (λ t. Rattle.bc_queue.specs.RequestUnits.with_fault_at t (faults_of mid.bios) n) content.bios
            ∙ ap (λ f. Rattle.bc_queue.specs.RequestUnits.with_fault_at (tagged_bios before.bios) f n) content.faults
            ∙ sym (ap (λ (b : Bool). faults_then b (tagged_bios before.bios) (faults_of before.bios) n) met);
        others = λ m other. mark.units m ∙ content.others m other;
        bios = mark.bios ∙ content.bios;
        room = mark.room ∙ content.room;
      }

-- ---- the four ways in which a unit can go

module _ (old new : AccessFacts) (before mid after : RequestParts) (n : ℕ) (at : UnitAt) (place : Place) (bytes : List ℕ) where
  pub wrote : IsUnitAt old before.bios n at → access_at before.bios n ≡ Write → unit_in before.bios n ≡ Some (Full bytes) → length bytes ≡ 512 * unit_sectors old.keys at.context
      → AccessesOne old new (written_entry at old.via bytes) Written place → HasOther before mid n → after ≡ with_unit n mid (Stored place) → AttemptsOne old new before after n
  wrote is writes has long access other puts =
      went old new before after n at (written_entry at old.via bytes) place bytes
      (record {
        is_at = is;
        entry_at = refl;
        entry_access = sym writes;
        entry_way = refl;
        written = λ ok w. sym (ap (λ (u : Option Unit). Some (written_bytes (access_at before.bios n) u)) has ∙ ap (λ (a : Access). Some (written_bytes a (Some (Full bytes)))) writes);
        access = access;
        full = long;
        back = λ w. has;
      }) refl (put_back before mid after n bytes (Stored place) has other puts)

  pub write_failed : (marked : RequestParts) → IsUnitAt old before.bios n at → access_at before.bios n ≡ Write → unit_in before.bios n ≡ Some (Full bytes) → length bytes ≡ 512 * unit_sectors old.keys at.context
      → AccessesOne old new (failed_entry Write at old.via) Faulted place → HasOther before mid n → after ≡ with_unit n mid (Full bytes) → marked ≡ with_fault n after → AttemptsOne old new before marked n
  write_failed marked is writes has long access other puts marks =
      failed old new before marked n at (failed_entry Write at old.via) place bytes after
      (record {
        is_at = is;
        entry_at = refl;
        entry_access = sym writes;
        entry_way = refl;
        written = λ met w. absurd (true≢false met);
        access = access;
        full = long;
        back = λ w. has;
      }) refl (put_back before mid after n bytes (Full bytes) has other puts) marks

no_write : (a : Access) → a ≡ Read → a ≡ Write → ⊥
no_write a reads writes = true≢false (ap is_read (sym reads ∙ writes))
  where
    is_read : Access → Bool
    is_read Read = true
    is_read Write = false

module _ (old new : AccessFacts) (before mid after : RequestParts) (n : ℕ) (at : UnitAt) (place : Place) (bytes text : List ℕ) where
  pub read : IsUnitAt old before.bios n at → access_at before.bios n ≡ Read → unit_in before.bios n ≡ Some (Full bytes) → length text ≡ 512 * unit_sectors old.keys at.context
      → AccessesOne old new (read_entry at old.via) (Text text) place → HasOther before mid n → after ≡ with_unit n mid (Full text) → AttemptsOne old new before after n
  read is reads has long access other puts =
      went old new before after n at (read_entry at old.via) place text
      (record {
        is_at = is;
        entry_at = refl;
        entry_access = sym reads;
        entry_way = refl;
        written = λ ok w. absurd (no_write (access_at before.bios n) reads w);
        access = access;
        full = long;
        back = λ w. absurd (no_write (access_at before.bios n) reads w);
      }) refl (put_back before mid after n bytes (Full text) has other puts)

  pub read_failed : (marked : RequestParts) → IsUnitAt old before.bios n at → access_at before.bios n ≡ Read → unit_in before.bios n ≡ Some (Full bytes) → length text ≡ 512 * unit_sectors old.keys at.context
      → AccessesOne old new (failed_entry Read at old.via) Faulted place → HasOther before mid n → after ≡ with_unit n mid (Full text) → marked ≡ with_fault n after → AttemptsOne old new before marked n
  read_failed marked is reads has long access other puts marks =
      failed old new before marked n at (failed_entry Read at old.via) place text after
      (record {
        is_at = is;
        entry_at = refl;
        entry_access = sym reads;
        entry_way = refl;
        written = λ met w. absurd (true≢false met);
        access = access;
        full = long;
        back = λ w. absurd (no_write (access_at before.bios n) reads w);
      }) refl (put_back before mid after n bytes (Full text) has other puts) marks
