-- One access of the shards: what it leaves of each shard, and what its thread knows then.
use Rattle.std.proofs.Common.{◌≡◌, ◌≢◌, ℕ, zero, suc, ◌+◌, ◌*◌, ◌≤◌, Bool, true, false, cond, List, [], ◌∷◌, ◌++◌, length, set, append-nil, refl, sym, ap, subst, ◌∙◌, arith, Option, Some, length-append}
use Rattle.std.specs.Prelude.{filter, IfSome}
use Rattle.std.specs.Option.{option_map_or}
use Rattle.std.proofs.Math.Logic.{⊎_elim}
use Rattle.std.proofs.lemmas.Bool.{eq-eqb, ne_eqb, cases_eq, true≢false}
use Rattle.std.proofs.lemmas.Option.{same_Some}
use Rattle.bc_base.specs.declared.place.Place.{Place}
use Rattle.bc_base.specs.Lists.{At, AllAt, ChangesAt, list_at}
use Rattle.bc_base.specs.RamStores.{RamData, owns, contents}
use Rattle.bc_key.specs.KeyData.{KeyData}
use Rattle.bc_bio.specs.declared.access.Access.TheVariants.{Read, Write}
use Rattle.bc_bio.specs.PlannedUnit.{PlannedUnit}
use Rattle.bc_medium.specs.declared.entry.Entry.{Entry}
use Rattle.bc_medium.specs.declared.unit_at.UnitAt.{UnitAt}
use Rattle.bc_medium.specs.declared.unit_name.UnitName.{UnitName}
use Rattle.bc_medium.specs.declared.via.Via.{Via}
use Rattle.bc_bio.specs.Extent.{unit_sectors}
use Rattle.bc_medium.specs.Layout.{shard_of}
use Rattle.bc_medium.specs.KeyedDisk.{Sectors, UnitAnswer, Faulted, Written, Text as Answered, deciphered}
use Rattle.bc_medium.specs.Entries.{name_of_entry, told_by, HasAnswer, unit_name, written_entry, read_entry, failed_entry}
use Rattle.bc_medium.specs.Growth.{lies_in, IsEntryOf}
use Rattle.bc_medium.specs.LawfulOrders.{unit_name_of}
use Rattle.bc_medium.specs.Outcome.{is_fault}
use Rattle.bc_medium.specs.ShardOrder.{ShardData, Appends, AppendsNext, HasKeys, StandsNow}
use Rattle.bc_medium.specs.Shards.{orders_of, HaveKeys, Adds, Answers, AppendsAt, ReadsAt, AnswersText}
use Rattle.bc_script.specs.Script.{Script, keys_of}
use Rattle.bc_script.specs.Way.{way_of}
use Rattle.bc_report.specs.Ways.{way_in}
use Rattle.bc_compose.specs.SectionDone.{SaysItsWay}
use Rattle.bc_section.specs.Sections.{GoOnBy}
use Rattle.bc_serial.specs.Standing.{ShardStands, AllStand, sectors_at, CourseData, own_device, GoesOnByEntry, Attempted, AttemptsUnit, unit_place_of, entry_of_write, entry_of_read, answer_of_write, answer_of_read}
use Rattle.bc_section.proofs.Lists.{at_changed, list_at_map, all_slice}
use Rattle.bc_base.proofs.Members.{at_set, length-set}

-- ---- what the calls of the shards say

pub changes_more : {A : Type 0} (R S : A → A → Type 0) (xs ys : List A) (k : ℕ) → ((x y : A) → At xs k x → R x y → S x y) → ChangesAt xs ys k R → ChangesAt xs ys k S
changes_more R S xs ys k more p = (p.0, p.1, p.2, p.3, more p.0 p.1 p.2 p.4)

-- an access under keys that its shard was given, or that it is given now
pub goes_on_write : (keys : List KeyData) (old new : List (ShardData RamData)) (e : Entry) (k n : ℕ)
    → ChangesAt old new k (λ s s'. AppendsNext (Some keys) s s' e n) → ChangesAt old new k (GoesOnByEntry keys e)
goes_on_write keys old new e k n =
    changes_more (λ s s'. AppendsNext (Some keys) s s' e n) (GoesOnByEntry keys e) old new k
    (λ s s' at is. record { start = is.1.0; keys_are = subst (λ (o : Option (List KeyData)). IfSome o (λ given. given ≡ keys)) (sym is.1.1) refl; entries = is.1.2; spare = is.1.3 })

pub goes_on_read : (keys : List KeyData) (old new : List (ShardData RamData)) (e : Entry) (k : ℕ) → HaveKeys keys old
    → ChangesAt old new k (λ s s'. Appends s.keys s s' e) → ChangesAt old new k (GoesOnByEntry keys e)
goes_on_read keys old new e k have =
    changes_more (λ s s'. Appends s.keys s s' e) (GoesOnByEntry keys e) old new k
    (λ s s' at is. record { start = is.0; keys_are = subst (λ (o : Option (List KeyData)). IfSome o (λ given. given ≡ keys)) (sym is.1) (all_slice (HasKeys keys) old k s have at); entries = is.2; spare = is.3 })

-- an answer at a place is reported
pub told_at : (keys : List KeyData) (new : List (ShardData RamData)) (place : Place) (name : UnitName) (answer : UnitAnswer)
    → Answers (λ (s : RamData). Some (contents s)) keys new place name answer
    → AllAt new place.shard (λ s. HasAnswer (told_by keys (contents s.start) s.entries) name answer)
told_at keys new place name answer is s at = (place.index, is s at)

-- ---- every shard still stands

pub stand_more : (script : Script) (old new : List (ShardData RamData)) (e : Entry) (k n m : ℕ) → m ≤ n
    → ChangesAt old new k (GoesOnByEntry (keys_of script) e) → (n ≡ m + 1) → AllStand script n old → AllStand script m new
stand_more script old new e k n m le p less stand shard z at =
    let s = p.0 in
    let s' = p.1 in
    let g = p.4 in
    let long : length new ≡ length old = ap length p.3 ∙ length-set old k s' in
    let here = subst (λ (l : List (ShardData RamData)). At l shard z) p.3 at in
    subst (λ (c : ℕ). ShardStands script c m shard z) (sym long)
    (⊎_elim
    (λ (is : (shard ≡ k) × (z ≡ s')).
    subst (λ (j : ℕ). ShardStands script (length old) m j z) (sym is.0) (subst (ShardStands script (length old) m k) (sym is.1) (changed s s' g (stand k s p.2))))
    (λ (other : At old shard z). lowered z (stand shard z other))
    (at_changed old k shard s' z here))
  where
    lowered : (z : ShardData RamData) → ShardStands script (length old) n shard z → ShardStands script (length old) m shard z
    lowered z is = record { keys = is.keys; owned = is.owned; blocks = is.blocks; planned = is.planned; spare = let l = is.spare in omega arith; few = is.few }

    changed : (s s' : ShardData RamData) → GoesOnByEntry (keys_of script) e s s' → ShardStands script (length old) n k s → ShardStands script (length old) m k s'
    changed s s' g is = record {
      keys = g.keys_are;
      owned = λ sector inside lies. ap (λ (r : RamData). owns r sector) g.start ∙ is.owned sector inside lies;
      blocks = ap (λ (r : RamData). r.blocks) g.start ∙ is.blocks;
      planned = ap (λ (r : RamData). r.calls) g.start ∙ is.planned;
      spare = let l = is.spare in let t = g.spare in omega arith;
      few = let l = is.few in let t = g.spare in omega (arith, ap length g.entries, length-append s.entries (e ∷ []));
    }

-- ---- what an access tells its thread

starts_stay : (keys : List KeyData) (e : Entry) (old new : List (ShardData RamData)) (k : ℕ) → ChangesAt old new k (GoesOnByEntry keys e) → sectors_at new ≡ sectors_at old
starts_stay keys e old new k p =
    let each : (shard : ℕ) → sectors_at new shard ≡ sectors_at old shard =
    λ shard. ap (λ (l : List (ShardData RamData)). sectors_at l shard) p.3 ∙ go old k shard p.0 p.1 p.2 p.4.start in
    λ i shard. each shard i
  where
    go : (xs : List (ShardData RamData)) (k shard : ℕ) (s s' : ShardData RamData) → At xs k s → s'.start ≡ s.start → sectors_at (set xs k s') shard ≡ sectors_at xs shard
    go [] k shard s s' at same = refl
    go (x ∷ xs) zero zero s s' at same = ap contents (same ∙ ap (λ (z : ShardData RamData). z.start) (sym (same_Some x s at)))
    go (x ∷ xs) zero (suc shard) s s' at same = refl
    go (x ∷ xs) (suc k) zero s s' at same = refl
    go (x ∷ xs) (suc k) (suc shard) s s' at same = go xs k shard s s' at same

goes_on_by : (shards : ℕ) (old new : List (List Entry)) (k : ℕ) (e : Entry) → k ≡ shard_of shards e.at.sector → list_at new k ≡ list_at old k ++ e ∷ []
    → ((other : ℕ) → other ≢ k → list_at new other ≡ list_at old other) → GoOnBy shards old new (e ∷ [])
goes_on_by shards old new k e lies ends elsewhere shard =
    ⊎_elim
    (λ (same : shard ≡ k).
    subst (λ (j : ℕ). list_at new j ≡ list_at old j ++ filter (lies_in shards j) (e ∷ [])) (sym same)
    (ends ∙ ap (λ (b : Bool). list_at old k ++ cond b (e ∷ []) []) (sym (eq-eqb (shard_of shards e.at.sector) k (sym lies)))))
    (λ (other : shard ≢ k).
    elsewhere shard other ∙ sym (append-nil (list_at old shard))
    ∙ ap (λ (b : Bool). list_at old shard ++ cond b (e ∷ []) []) (sym (ne_eqb (shard_of shards e.at.sector) shard (λ (same : shard_of shards e.at.sector ≡ shard). other (sym same ∙ sym lies)))))
    (cases_eq shard k)

module _ (here : CourseData) (new : List (ShardData RamData)) (u : PlannedUnit) (e : Entry) (answer : UnitAnswer) where
  abbrev old : List (ShardData RamData)
  old = here.shards

  abbrev after : CourseData
  after = record here { shards = new }

  pub attempts_unit : Attempted (keys_of here.script) here.shards new e answer → IsEntryOf here.thread u e → SaysItsWay here.script e → e.failed ≡ is_fault answer
      → (q : AttemptsUnit (own_device here) (own_device (record here { shards = new })) u answer) × (q.entry ≡ e)
  attempts_unit p its way failed =
      let lies : p.place.shard ≡ shard_of (length old) e.at.sector = p.adds.shard in
      let base = starts_stay (keys_of here.script) e old new p.place.shard p.goes_on in
      let long : length new ≡ length old = ap length p.goes_on.3 ∙ length-set old p.place.shard p.goes_on.1 in
      let s' = p.goes_on.1 in
      let at-new : At new p.place.shard s' = subst (λ (l : List (ShardData RamData)). At l p.place.shard s') (sym p.goes_on.3) (at_set old p.place.shard p.goes_on.0 s' p.goes_on.2) in
      let told = p.told s' at-new in
      let sector : e.at.sector ≡ u.sector = ap (λ (at : UnitAt). at.sector) its.unit in
      let k : p.place.shard ≡ shard_of (length old) u.sector = lies ∙ ap (shard_of (length old)) sector in
      let name : name_of_entry e ≡ unit_name_of here.thread u = ap unit_name its.unit in (
        record {
          entry = e;
          same = ap (λ (n : ℕ). record (own_device after) { shards = n }) long
              ∙ ap (λ (b : ℕ → Sectors). record (own_device after) { shards = length old; base = b }) base;
          spare = omega arith;
          grows = goes_on_by (length old) (orders_of old) (orders_of new) p.place.shard e lies p.adds.appended.ends p.adds.appended.elsewhere;
          is_its = its;
          way = way;
          failed = failed;
          known =
              subst (λ (n : UnitName). HasAnswer (told_by (keys_of here.script) (sectors_at old (shard_of (length old) u.sector)) (list_at (orders_of new) (shard_of (length old) u.sector))) n answer) name
              (subst (λ (j : ℕ). HasAnswer (told_by (keys_of here.script) (sectors_at old j) (list_at (orders_of new) j)) (name_of_entry e) answer) k
              (subst (λ (b : ℕ → Sectors). HasAnswer (told_by (keys_of here.script) (b p.place.shard) (list_at (orders_of new) p.place.shard)) (name_of_entry e) answer) base
              (subst (λ (d : Sectors). HasAnswer (told_by (keys_of here.script) d (list_at (orders_of new) p.place.shard)) (name_of_entry e) answer) (sym (sectors_of new p.place.shard s' at-new))
              (subst (λ (l : List Entry). HasAnswer (told_by (keys_of here.script) (contents s'.start) l) (name_of_entry e) answer) (sym (list_at_map (λ (s : ShardData RamData). s.entries) new p.place.shard s' at-new))
              told))));
        },
        refl,
      )
    where
      sectors_of : (xs : List (ShardData RamData)) (k : ℕ) (s : ShardData RamData) → At xs k s → sectors_at xs k ≡ contents s.start
      sectors_of xs k s at = ap (λ (o : Option (ShardData RamData)). option_map_or (λ s. contents s.start) o (λ sector. [])) at

-- ---- the entries of writes and reads

pub write_says_its_way : (script : Script) (at : UnitAt) (via : Via) (plain : List ℕ) (went : Bool) → way_in via ≡ way_of script at.context at.sector
    → SaysItsWay script (entry_of_write at via plain went)
write_says_its_way script at via plain true says = says
write_says_its_way script at via plain false says = says

pub read_says_its_way : (script : Script) (at : UnitAt) (via : Via) (went : Bool) → way_in via ≡ way_of script at.context at.sector
    → SaysItsWay script (entry_of_read at via went)
read_says_its_way script at via true says = says
read_says_its_way script at via false says = says

pub write_via : (at : UnitAt) (via : Via) (plain : List ℕ) (went : Bool) → (entry_of_write at via plain went).via ≡ via
write_via at via plain true = refl
write_via at via plain false = refl

pub read_via : (at : UnitAt) (via : Via) (went : Bool) → (entry_of_read at via went).via ≡ via
read_via at via true = refl
read_via at via false = refl

pub write_failed : (at : UnitAt) (via : Via) (plain : List ℕ) (went : Bool) → (entry_of_write at via plain went).failed ≡ is_fault (answer_of_write went)
write_failed at via plain true = refl
write_failed at via plain false = refl

pub read_failed : (at : UnitAt) (via : Via) (text : List ℕ) (went : Bool) → (entry_of_read at via went).failed ≡ is_fault (answer_of_read text went)
read_failed at via text true = refl
read_failed at via text false = refl

pub write_is_its : (thread : ℕ) (u : PlannedUnit) (via : Via) (plain : List ℕ) (went : Bool) → u.access ≡ Write → plain ≡ u.bytes → IsEntryOf thread u (entry_of_write (unit_place_of thread u) via plain went)
write_is_its thread u via plain true writes same = record { unit = refl; access = sym writes; written = λ _ _. ap (λ (l : List ℕ). Some l) same }
write_is_its thread u via plain false writes same = record { unit = refl; access = sym writes; written = λ went _. absurd (true≢false went) }

pub read_is_its : (thread : ℕ) (u : PlannedUnit) (via : Via) (went : Bool) → u.access ≡ Read → IsEntryOf thread u (entry_of_read (unit_place_of thread u) via went)
read_is_its thread u via true reads = record { unit = refl; access = sym reads; written = λ _ writes. absurd (differ (sym reads ∙ writes)) }
  where
    differ : Read ≡ Write → ⊥
    differ e = cc
read_is_its thread u via false reads = record { unit = refl; access = sym reads; written = λ went _. absurd (true≢false went) }

-- ---- the accesses, from what the shards' calls say

pub attempted_write : (keys : List KeyData) (old new : List (ShardData RamData)) (at : UnitAt) (via : Via) (plain : List ℕ) (place : Place)
    → AppendsAt (λ s. Some keys) old new (written_entry at via plain) place → Adds old new (written_entry at via plain) place
    → Answers (λ (s : RamData). Some (contents s)) keys new place (unit_name at) Written → Attempted keys old new (entry_of_write at via plain true) (answer_of_write true)
attempted_write keys old new at via plain place ok adds told = record {
  place = place;
  adds = adds;
  goes_on = goes_on_write keys old new (written_entry at via plain) place.shard place.index ok.1;
  told = told_at keys new place (unit_name at) Written told;
}

pub attempted_write_fault : (keys : List KeyData) (old new : List (ShardData RamData)) (at : UnitAt) (via : Via) (plain : List ℕ) (place : Place)
    → ChangesAt old new place.shard (λ s s'. AppendsNext (Some keys) s s' (failed_entry Write at via) place.index) → Adds old new (failed_entry Write at via) place
    → Answers (λ (s : RamData). Some (contents s)) keys new place (unit_name at) Faulted → Attempted keys old new (entry_of_write at via plain false) (answer_of_write false)
attempted_write_fault keys old new at via plain place changes adds told = record {
  place = place;
  adds = adds;
  goes_on = goes_on_write keys old new (failed_entry Write at via) place.shard place.index changes;
  told = told_at keys new place (unit_name at) Faulted told;
}

pub attempted_read : (keys : List KeyData) (old new : List (ShardData RamData)) (at : UnitAt) (via : Via) (raw text : List ℕ) (place : Place) → HaveKeys keys old
    → length raw ≡ 512 * unit_sectors keys at.context → text ≡ deciphered keys at.context raw
    → ReadsAt (λ (s : RamData). Some (contents s)) old new (read_entry at via) raw place → Adds old new (read_entry at via) place
    → AnswersText (λ (s : RamData). Some (contents s)) old new at raw place → Attempted keys old new (entry_of_read at via true) (answer_of_read text true)
attempted_read keys old new at via raw text place have long is ok adds told =
    let e = read_entry at via in
    record {
      place = place;
      adds = adds;
      goes_on = goes_on_read keys old new e place.shard have
          (changes_more (λ s s'. (place.index ≡ length s.entries) × Appends s.keys s s' e × StandsNow (λ (s : RamData). Some (contents s)) s at.sector raw) (λ s s'. Appends s.keys s s' e) old new place.shard
          (λ s s' _ r. r.1) ok.1);
      told = told_at keys new place (unit_name at) (Answered text)
          (subst (λ (t : List ℕ). Answers (λ (s : RamData). Some (contents s)) keys new place (unit_name at) (Answered t)) (sym is) (told keys have long));
    }

pub attempted_read_fault : (keys : List KeyData) (old new : List (ShardData RamData)) (at : UnitAt) (via : Via) (text : List ℕ) (place : Place) → HaveKeys keys old
    → AppendsAt (λ s. s.keys) old new (failed_entry Read at via) place → Adds old new (failed_entry Read at via) place
    → Answers (λ (s : RamData). Some (contents s)) keys new place (unit_name at) Faulted → Attempted keys old new (entry_of_read at via false) (answer_of_read text false)
attempted_read_fault keys old new at via text place have ok adds told =
    let e = failed_entry Read at via in
    record {
      place = place;
      adds = adds;
      goes_on = goes_on_read keys old new e place.shard have
          (changes_more (λ s s'. AppendsNext s.keys s s' e place.index) (λ s s'. Appends s.keys s s' e) old new place.shard (λ s s' _ r. r.1) ok.1);
      told = told_at keys new place (unit_name at) Faulted told;
    }
