-- A bio that is performed, unit by unit: how far it was gone over, and what each unit adds.
use Rattle.std.proofs.Common.{◌≡◌, ℕ, ◌+◌, ◌<◌, ◌≤◌, Bool, true, false, cond, List, [], ◌∷◌, ◌++◌, append-nil, append_assoc, refl, sym, ap, subst, ◌∙◌, arith, Option, Some, None}
use Rattle.std.specs.Prelude.{MatchOption}
use Rattle.std.specs.List.{AllByRecursion}
use Rattle.bc_bio.specs.declared.access.Access.{Access}
use Rattle.bc_bio.specs.declared.extent.Extent.{Extent}
use Rattle.bc_bio.specs.Extent.{context_after}
use Rattle.bc_bio.specs.PlannedUnit.{PlannedUnit}
use Rattle.bc_bio.specs.Windows.{TaggedBio}
use Rattle.bc_medium.specs.declared.entry.Entry.{Entry}
use Rattle.bc_medium.specs.declared.unit_at.UnitAt.{UnitAt}
use Rattle.bc_medium.specs.KeyedDisk.{UnitAnswer, Faulted}
use Rattle.bc_medium.specs.Growth.{IsEntryOf}
use Rattle.bc_medium.specs.Laws.{KnownStays}
use Rattle.bc_medium.specs.LawfulOrders.{unit_name_of}
use Rattle.bc_medium.specs.Outcome.{BioAnswer, is_fault}
use Rattle.bc_script.specs.declared.op.Op.{Op}
use Rattle.bc_script.specs.Script.{IsScript, Script, keys_of}
use Rattle.bc_script.specs.Bios.{bio_of}
use Rattle.bc_script.specs.Plan.{unit_at}
use Rattle.bc_report.specs.declared.answer.Answer.{Answer}
use Rattle.bc_report.specs.declared.answer.Answer.TheVariants as answers
use Rattle.bc_report.specs.Answers.{answer_of_outcome}
use Rattle.bc_report.specs.Report.{IsAnswer}
use Rattle.bc_section.specs.Sections.{DeviceData, CarriesOne, cost}
use Rattle.bc_serial.specs.declared.open_hold.OpenHold.{OpenHold}
use Rattle.bc_serial.specs.Standing.{AttemptsUnit, CourseData, IsPerformableBio, own_device, first_units}
use Rattle.bc_serial.specs.Keyslots.{stories_of}
use Rattle.bc_serial.specs.InTurn.{AttemptsOn, GoesOver, InTurn, MayFollow, PerformsBio, ReachesUnit, first_units_of, via_in}
use Rattle.bc_serial.proofs.Attempting.{Made, NoneMet, OneMet, carries_bio, carries_fault, made_more, made_none, made_reached, met_fault, met_reached, units_more}
use Rattle.bc_serial.proofs.Following.{bio_begins}
use Rattle.bc_serial.proofs.Turning.{in_turn_same}
use Rattle.bc_serial.proofs.TurningUnits.{unit_attempted, unit_reached}
use Rattle.bc_medium.proofs.Growing.{named}

-- in a window, the first n units of a bio come after what was gone over before it, and these entries after those before them
abbrev pub TurnsTo : CourseData → CourseData → ℕ → Extent → ℕ → List Entry → Type 0
TurnsTo old now op bio n made =
    (start : CourseData) (done : List TaggedBio) (was : Option OpenHold) (before : List Entry)
    → AllByRecursion (λ (tagged : TaggedBio). tagged.tag < op) done → MayFollow start.script done (first_units_of op bio bio.units) was old.opened
    → InTurn start (record old { opened = was }) done before → InTurn start now (done ++ first_units_of op bio n ∷ []) (before ++ made)

-- the first n units of a bio were gone over
pub record GoneOver (old now : CourseData) (access : Access) (op : ℕ) (operation : Op) (bio : Extent) (n : ℕ) (outcome : BioAnswer)
    (fault : Option ℕ) : Type 0 where
  pub made : List Entry
  pub same : now ≡ record old { shards = now.shards; left = now.left; journals = now.journals; opened = now.opened }
  pub left : old.left ≡ now.left + n
  pub so_far : Made (own_device old) (own_device now) made
  pub tells : MatchOption fault (NoneMet (own_device old) (own_device now) access (first_units (keys_of old.script) op operation bio n) outcome made)
      (λ k. OneMet (own_device old) (own_device now) op operation bio k made)
  pub turn : TurnsTo old now op bio n made

pub gone_over_none : (d : CourseData) (access : Access) (op : ℕ) (operation : Op) (bio : Extent) (outcome : BioAnswer) → 1 ≤ bio.units
    → NoneMet (own_device d) (own_device d) access [] outcome [] → GoneOver d d access op operation bio 0 outcome None
gone_over_none d access op operation bio outcome some none = record {
  made = [];
  same = refl;
  left = omega arith;
  so_far = made_none (own_device d);
  tells = none;
  turn = λ start done was before below follows t.
      subst (InTurn start d (done ++ first_units_of op bio 0 ∷ [])) (sym (append-nil before)) (bio_begins start d done op bio was before some follows t);
}

-- ---- one unit more

module _ (old b mid : CourseData) (op : ℕ) (operation : Op) (bio : Extent) (n : ℕ) (performable : IsPerformableBio old.script bio) (lt : n < bio.units)
    (made : List Entry) (same : b ≡ record old { shards = b.shards; left = b.left; journals = b.journals; opened = b.opened })
    (rules : IsScript b.script) (reaches : ReachesUnit b mid bio n) where
  same_mid : mid ≡ record old { shards = mid.shards; left = mid.left; journals = mid.journals; opened = mid.opened }
  same_mid =
      reaches.same ∙ ap (λ (c : CourseData). record c { left = mid.left; journals = mid.journals; opened = mid.opened }) same
      ∙ ap (λ l. record old { shards = l; left = mid.left; journals = mid.journals; opened = mid.opened }) (sym (ap (λ (c : CourseData). c.shards) reaches.same))

  reached : own_device mid ≡ record (own_device b) { noted = (own_device mid).noted; spare = (own_device mid).spare }
  reached =
      ap own_device reaches.same
      ∙ ap (λ l. record (own_device b) { noted = l; spare = mid.left }) (sym (ap (λ (c : CourseData). stories_of c.thread c.begun c.journals) reaches.same))

  script_of : b.script ≡ old.script
  script_of = ap (λ (c : CourseData). c.script) same

  turn_reached : TurnsTo old b op bio n made → TurnsTo old mid op bio (n + 1) made
  turn_reached turn start done was before below follows t =
      let here = turn start done was before below follows t in
      let script : b.script ≡ start.script = here.script_is in
      unit_reached start b mid done op n bio (before ++ made) (subst IsScript script rules)
      (subst (λ (s : Script). IsPerformableBio s bio) (sym script_of ∙ script) performable) lt here reaches

  module _ (c : CourseData) (answer : UnitAnswer) (q : AttemptsOn mid c (unit_at (keys_of old.script) op operation bio n) answer) where
    same_end : c ≡ record old { shards = c.shards; left = c.left; journals = c.journals; opened = c.opened }
    same_end =
        q.same ∙ ap (λ (d : CourseData). record d { shards = c.shards }) same_mid
        ∙ ap (λ l. record old { shards = c.shards; left = l; journals = mid.journals; opened = mid.opened }) (sym (ap (λ (d : CourseData). d.left) q.same))
        ∙ ap (λ l. record old { shards = c.shards; left = c.left; journals = l; opened = mid.opened }) (sym (ap (λ (d : CourseData). d.journals) q.same))
        ∙ ap (λ o. record old { shards = c.shards; left = c.left; journals = c.journals; opened = o }) (sym (ap (λ (d : CourseData). d.opened) q.same))

    turn_attempted : TurnsTo old b op bio n made → TurnsTo old c op bio (n + 1) (made ++ q.unit.entry ∷ [])
    turn_attempted turn start done was before below follows t =
        let here = turn start done was before below follows t in
        let next = turn_reached turn start done was before below follows t in
        let script : b.script ≡ start.script = here.script_is in
        let e = q.unit.entry in
        let v = unit_at (keys_of old.script) op operation bio n in
        let its : IsEntryOf mid.thread v e = q.unit.is_its in
        let thread : mid.thread ≡ start.thread = next.thread_is in
        let context : e.at.context ≡ context_after n bio.context = ap (λ (a : UnitAt). a.context) its.unit in
        let there =
        unit_attempted start b mid done op n bio (before ++ made) e (subst IsScript script rules)
        (subst (λ (s : Script). IsPerformableBio s bio) (sym script_of ∙ script) performable) lt below here reaches
        (named mid.thread v e its ∙ ap (λ (t : ℕ). unit_name_of t v) thread) context (ap (λ (a : UnitAt). a.tag) its.unit)
        (q.via ∙ ap (via_in mid) (sym context)) in
        subst (InTurn start c (done ++ first_units_of op bio (n + 1) ∷ [])) (append_assoc before made (e ∷ []))
        (in_turn_same start mid c (done ++ first_units_of op bio (n + 1) ∷ []) ((before ++ made) ++ e ∷ []) there
        (q.same ∙ ap (λ l. record mid { shards = c.shards; left = l }) (sym (ap (λ (d : CourseData). d.left) q.same))))

-- a unit was gone over
module _ (old b c : CourseData) (op : ℕ) (operation : Op) (bio : Extent) (n : ℕ) (performable : IsPerformableBio old.script bio) (lt : n < bio.units)
    (stays : KnownStays) (answer : Bool → UnitAnswer) (failed : answer false ≡ Faulted) (went : is_fault (answer true) ≡ false) (access : Access) (o o' : BioAnswer) where
  abbrev v : PlannedUnit
  v = unit_at (keys_of old.script) op operation bio n

  abbrev us : List PlannedUnit
  us = first_units (keys_of old.script) op operation bio n

  -- what the next answer is, if it met no fault
  abbrev pub Continues : Type 0
  Continues =
      (m d : DeviceData) (made : List Entry) (p : Made (own_device old) (own_device b) made) → m ≡ record (own_device b) { noted = m.noted; spare = m.spare }
      → (q : AttemptsUnit m d v (answer true)) → q.entry.failed ≡ false
      → NoneMet (own_device old) (own_device b) access us o made → NoneMet (own_device old) d access (us ++ v ∷ []) o' (made ++ q.entry ∷ [])

  module _ (gone : GoneOver old b access op operation bio n o None) (mid : CourseData) (rules : IsScript b.script) (reaches : ReachesUnit b mid bio n) (more : Continues) where
    abbrev m : DeviceData
    m = own_device mid

    is_reached : m ≡ record (own_device b) { noted = m.noted; spare = m.spare }
    is_reached = reached old b mid op operation bio n performable lt gone.made gone.same rules reaches

    left_more : (answer : UnitAnswer) → AttemptsOn mid c v answer → old.left ≡ c.left + (n + 1)
    left_more answer q = let a = gone.left in let d = reaches.left in let e : c.left ≡ mid.left = ap (λ (x : CourseData). x.left) q.same in omega arith

    attempted : (fault' : Option ℕ) (t : Bool) → AttemptsOn mid c v (answer t) → fault' ≡ cond t None (Some n) → GoneOver old c access op operation bio (n + 1) o' fault'
    attempted fault' true q is =
        subst (GoneOver old c access op operation bio (n + 1) o') (sym is) (record {
          made = gone.made ++ q.unit.entry ∷ [];
          same = same_end old b mid op operation bio n performable lt gone.made gone.same rules reaches c (answer true) q;
          left = left_more (answer true) q;
          so_far = made_more (own_device old) (own_device b) m gone.made gone.so_far is_reached stays (own_device c) v (answer true) q.unit;
          tells = subst (λ l. NoneMet (own_device old) (own_device c) access l o' (gone.made ++ q.unit.entry ∷ [])) (sym (units_more (keys_of old.script) op operation bio n))
              (more m (own_device c) gone.made gone.so_far is_reached q.unit (q.unit.failed ∙ went) gone.tells);
          turn = turn_attempted old b mid op operation bio n performable lt gone.made gone.same rules reaches c (answer true) q gone.turn;
        })
    attempted fault' false q' is =
        let q = subst (AttemptsOn mid c v) failed q' in
        subst (GoneOver old c access op operation bio (n + 1) o') (sym is) (record {
          made = gone.made ++ q.unit.entry ∷ [];
          same = same_end old b mid op operation bio n performable lt gone.made gone.same rules reaches c Faulted q;
          left = left_more Faulted q;
          so_far = made_more (own_device old) (own_device b) m gone.made gone.so_far is_reached stays (own_device c) v Faulted q.unit;
          tells = met_fault stays (own_device old) (own_device b) m (own_device c) gone.made gone.so_far is_reached op operation bio n access o lt gone.tells q.unit;
          turn = turn_attempted old b mid op operation bio n performable lt gone.made gone.same rules reaches c Faulted q gone.turn;
        })

  -- after a fault it was reached alone
  passed : (k : ℕ) → GoneOver old b access op operation bio n o (Some k) → (mid : CourseData) → IsScript b.script → ReachesUnit b mid bio n → GoneOver old mid access op operation bio (n + 1) o' (Some k)
  passed k gone mid rules reaches =
      let is_reached = reached old b mid op operation bio n performable lt gone.made gone.same rules reaches in record {
        made = gone.made;
        same = same_mid old b mid op operation bio n performable lt gone.made gone.same rules reaches;
        left = let a = gone.left in let d = reaches.left in omega arith;
        so_far = made_reached (own_device old) (own_device b) (own_device mid) gone.made gone.so_far is_reached;
        tells = met_reached (own_device old) (own_device b) (own_device mid) gone.made gone.so_far is_reached op operation bio k gone.tells;
        turn = turn_reached old b mid op operation bio n performable lt gone.made gone.same rules reaches gone.turn;
      }

  pub gone_over_more : (fault fault' : Option ℕ) → Continues → GoneOver old b access op operation bio n o fault → GoesOver b c bio n v answer fault fault'
      → GoneOver old c access op operation bio (n + 1) o' fault'
  gone_over_more None fault' more gone over =
      let r = over.attempts refl in attempted gone over.mid over.rules over.reaches more fault' r.0 r.1 r.2
  gone_over_more (Some k) fault' more gone over =
      let r = over.passes k refl in
      subst (GoneOver old c access op operation bio (n + 1) o') (sym r.0)
      (subst (λ (d : CourseData). GoneOver old d access op operation bio (n + 1) o' (Some k)) (sym r.1) (passed k gone over.mid over.rules over.reaches))

-- ---- all units

module _ (old new : CourseData) (op : ℕ) (operation : Op) (bio : Extent) (is : bio_of operation ≡ Some bio) (performable : IsPerformableBio old.script bio)
    (units : bio.units ≡ cost operation) where
  performs_made : (made : List Entry) → new ≡ record old { shards = new.shards; left = new.left; journals = new.journals; opened = new.opened }
      → TurnsTo old new op bio bio.units made → (answer : Answer) → (q : CarriesOne (own_device old) (own_device new) (op, operation) answer) × (q.made ≡ made)
      → PerformsBio old new op operation bio answer
  performs_made made same turn answer q = record {
    carries = q.0;
    same = same;
    turn = λ start done was before below follows t.
        subst (λ l. InTurn start new (done ++ first_units_of op bio bio.units ∷ []) (before ++ l)) (sym q.1) (turn start done was before below follows t);
  }

  -- none met a fault
  pub performs_bio : (o : BioAnswer) (answer : Answer) → GoneOver old new bio.access op operation bio bio.units o None → answer ≡ answer_of_outcome o → IsAnswer answer
      → PerformsBio old new op operation bio answer
  performs_bio o answer gone told range =
      performs_made gone.made gone.same gone.turn answer
      (carries_bio (own_device old) (own_device new) op operation bio o answer gone.made is performable.unrefused (let l = gone.left in omega (arith, units)) gone.so_far gone.tells told range)

  -- one met a fault
  pub performs_fault : (o : BioAnswer) (k : ℕ) → GoneOver old new bio.access op operation bio bio.units o (Some k) → PerformsBio old new op operation bio (answers.Fault k)
  performs_fault o k gone =
      performs_made gone.made gone.same gone.turn (answers.Fault k)
      (carries_fault (own_device old) (own_device new) op operation bio k gone.made is performable.unrefused performable.few_units (let l = gone.left in omega (arith, units)) gone.so_far gone.tells)
