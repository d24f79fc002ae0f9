-- The data units of a bio, gone over one after the other: attempted until one meets a fault, and then passed over.
use Rattle.std.proofs.Common.{◌≡◌, ℕ, zero, suc, ◌-◌, ◌+◌, ◌<◌, ◌≤◌, Bool, true, false, cond, List, [], ◌∷◌, ◌++◌, map, append-nil, refl, sym, ap, subst, ◌∙◌, arith, Option, Some, None}
use Rattle.std.specs.Prelude.{flat_map, filter, MatchOption, ◌==◌, ◌&&◌, ◌||◌, not, nat_lt}
use Rattle.std.specs.List.{AllZip, AllByRecursion, range_with_len}
use Rattle.std.proofs.Math.Logic.{⊎_elim}
use Rattle.std.proofs.lemmas.Bool.{ltb-true, lt-ltb, eq-eqb, false_from_ne_true}
use Rattle.std.proofs.lemmas.List.{map-append}
use Rattle.std.proofs.lemmas.List.Elements.{filter-append}
use Rattle.std.proofs.lemmas.Grind.{flat_map-append}
use Rattle.bc_base.specs.Lists.{At, list_at}
use Rattle.bc_base.specs.Story.{StartsWith}
use Rattle.bc_key.specs.KeyData.{KeyData}
use Rattle.bc_bio.specs.declared.access.Access.{Access}
use Rattle.bc_bio.specs.declared.access.Access.TheVariants.{Read, Write}
use Rattle.bc_bio.specs.declared.extent.Extent.{Extent}
use Rattle.bc_bio.specs.declared.refusal.Refusal.{Refusal}
use Rattle.bc_bio.specs.PlannedUnit.{PlannedUnit}
use Rattle.bc_medium.specs.declared.entry.Entry.{Entry}
use Rattle.bc_medium.specs.KeyedDisk.{UnitAnswer, Faulted, Written, Text}
use Rattle.bc_medium.specs.Entries.{name_of_entry}
use Rattle.bc_medium.specs.LawfulOrders.{unit_name_of, is_attempted}
use Rattle.bc_medium.specs.Laws.{KnownStays}
use Rattle.bc_medium.specs.Growth.{lies_in, Knows, IsEntryOf, Attempts, failed_names, attempted_by}
use Rattle.bc_medium.specs.Outcome.{BioAnswer, Wrote, Bytes, Fault}
use Rattle.bc_profile.specs.declared.noted.Noted.{Noted}
use Rattle.bc_script.specs.declared.op.Op.{Op}
use Rattle.bc_script.specs.Script.{Script, keys_of, max_bio_units}
use Rattle.bc_script.specs.Bios.{bio_of, refusal_of}
use Rattle.bc_script.specs.Plan.{unit_at, units_of, units_of_bio}
use Rattle.bc_report.specs.declared.answer.Answer.{Answer}
use Rattle.bc_report.specs.declared.answer.Answer.TheVariants as answers
use Rattle.bc_report.specs.Answers.{answer_of_outcome, IsOwnWord}
use Rattle.bc_report.specs.Report.{IsAnswer}
use Rattle.bc_compose.specs.SectionDone.{SaysItsWay, IsBioAnswer, IsReply}
use Rattle.bc_section.specs.Sections.{DeviceData, CarriesOne, GoOnBy, cost}
use Rattle.bc_serial.specs.Standing.{first_units, AttemptsUnit}
use Rattle.bc_section.proofs.Lists.{filter_all, filter_none}
use Rattle.bc_section.proofs.Growing.{goes_none, goes_append, grows_alone}
use Rattle.bc_section.proofs.Carrying.{bio_answer_more}
use Rattle.bc_base.proofs.Members.{In, in_of_map, all_at, all_append, range_push, zip_append}
use Rattle.bc_medium.proofs.Growing.{made_by, named, failed_append}

-- ---- numbers in a row

in_range : (first n k : ℕ) → In k (range_with_len first n) → (first ≤ k) × (k < first + n)
in_range first zero k at = absurd at
in_range first (suc n) k at =
    ⊎_elim (λ (e : first ≡ k). (omega arith, omega arith))
    (λ (more : In k (range_with_len (first + 1) n)). let r = in_range (first + 1) n k more in let a = r.0 in let b = r.1 in (omega arith, omega arith)) at

range_parts : (first m n : ℕ) → range_with_len first (m + n) ≡ range_with_len first m ++ range_with_len (first + m) n
range_parts first zero n = ap (range_with_len first) (zero_first n) ∙ ap (λ k. range_with_len k n) (none first)
  where
    zero_first : (n : ℕ) → 0 + n ≡ n
    zero_first n = omega arith

    none : (n : ℕ) → n ≡ n + 0
    none n = omega arith
range_parts first (suc m) n =
    ap (range_with_len first) (over m n)
    ∙ ap (λ (l : List ℕ). first ∷ l) (range_parts (first + 1) m n ∙ ap (λ k. range_with_len (first + 1) m ++ range_with_len k n) (next first m))
  where
    over : (m n : ℕ) → suc m + n ≡ suc (m + n)
    over m n = omega arith

    next : (f m : ℕ) → f + 1 + m ≡ f + suc m
    next f m = omega arith

module _ (keys : List KeyData) (op : ℕ) (operation : Op) (bio : Extent) where
  abbrev unit : ℕ → PlannedUnit
  unit i = unit_at keys op operation bio i

  abbrev units : ℕ → List PlannedUnit
  units n = first_units keys op operation bio n

  -- one unit more
  pub units_more : (i : ℕ) → units (i + 1) ≡ units i ++ unit i ∷ []
  units_more i =
      ap (map (unit_at keys op operation bio)) (range_push 0 i ∙ ap (λ n. range_with_len 0 i ++ n ∷ []) (zero_first i))
      ∙ map-append (unit_at keys op operation bio) (range_with_len 0 i) (i ∷ [])
    where
      zero_first : (n : ℕ) → 0 + n ≡ n
      zero_first n = omega arith

  -- the units before one, it, and those after it
  abbrev behind : ℕ → ℕ → List PlannedUnit
  behind i n = map (unit_at keys op operation bio) (range_with_len (i + 1) n)

  pub units_round : (i n : ℕ) → units (i + suc n) ≡ units i ++ unit i ∷ behind i n
  units_round i n =
      ap (map (unit_at keys op operation bio)) (range_parts 0 i (suc n) ∙ ap (λ k. range_with_len 0 i ++ range_with_len k (suc n)) (zero_first i))
      ∙ map-append (unit_at keys op operation bio) (range_with_len 0 i) (i ∷ range_with_len (i + 1) n)
    where
      zero_first : (n : ℕ) → 0 + n ≡ n
      zero_first n = omega arith

  pub before_it : (i : ℕ) (v : PlannedUnit) → In v (units i) → v.unit < i
  before_it i v at = let r = in_of_map (unit_at keys op operation bio) (range_with_len 0 i) v at in
      let k = in_range 0 i r.0 r.1 in let a = k.1 in let e : r.0 ≡ v.unit = ap (λ (u : PlannedUnit). u.unit) r.2 in omega arith

  pub behind_it : (i n : ℕ) (v : PlannedUnit) → In v (behind i n) → (i < v.unit) × (v.tag ≡ op)
  behind_it i n v at = let r = in_of_map (unit_at keys op operation bio) (range_with_len (i + 1) n) v at in
      let k = in_range (i + 1) n r.0 r.1 in let a = k.0 in let e : r.0 ≡ v.unit = ap (λ (u : PlannedUnit). u.unit) r.2 in
      (omega arith, ap (λ (u : PlannedUnit). u.tag) (sym r.2))

-- ---- how far a bio has been gone over

-- these entries were made of its units
pub record Made (old now : DeviceData) (made : List Entry) : Type 0 where
  pub same : now ≡ record old { seen = now.seen; noted = now.noted; spare = now.spare }
  pub goes : GoOnBy old.shards old.seen now.seen made
  pub ways : AllByRecursion (SaysItsWay old.script) made

-- none of these units met a fault
pub record NoneMet (old now : DeviceData) (access : Access) (units : List PlannedUnit) (outcome : BioAnswer) (made : List Entry) : Type 0 where
  pub entries : AllZip (IsEntryOf old.thread) units made
  pub went : AllByRecursion (λ e. e.failed ≡ false) made
  pub answer : IsBioAnswer old.script old.shards old.base old.thread now.seen access units outcome

-- unit number k met one, and those after it were passed over
pub record OneMet (old now : DeviceData) (op : ℕ) (operation : Op) (bio : Extent) (k : ℕ) (made : List Entry) : Type 0 where
  pub within : k < bio.units
  pub attempts : Attempts old.thread [] (first_units (keys_of old.script) op operation bio bio.units) made
  pub known : Knows (keys_of old.script) old.shards old.base old.thread now.seen (unit_at (keys_of old.script) op operation bio k) Faulted

pub made_none : (d : DeviceData) → Made d d []
made_none d = record { same = refl; goes = goes_none d.shards d.thread d.seen; ways = tt }

pub none_met : (d : DeviceData) (access : Access) (outcome : BioAnswer) → IsBioAnswer d.script d.shards d.base d.thread d.seen access [] outcome → NoneMet d d access [] outcome []
none_met d access outcome is = record { entries = tt; went = tt; answer = is }

-- a unit was reached
module _ (a b m : DeviceData) (made : List Entry) (p : Made a b made) (reached : m ≡ record b { noted = m.noted; spare = m.spare }) where
  begins : m ≡ record a { seen = b.seen; noted = m.noted; spare = m.spare }
  begins = reached ∙ ap (λ (d : DeviceData). record d { noted = m.noted; spare = m.spare }) p.same

  same_seen : m.seen ≡ b.seen
  same_seen = ap (λ (d : DeviceData). d.seen) reached

  pub made_reached : Made a m made
  made_reached = record {
    same = begins ∙ ap (λ (l : List (List Entry)). record a { seen = l; noted = m.noted; spare = m.spare }) (sym same_seen);
    goes = subst (λ (l : List (List Entry)). GoOnBy a.shards a.seen l made) (sym same_seen) p.goes;
    ways = p.ways;
  }

  pub met_reached : (op : ℕ) (operation : Op) (bio : Extent) (k : ℕ) → OneMet a b op operation bio k made → OneMet a m op operation bio k made
  met_reached op operation bio k q = record {
    within = q.within;
    attempts = q.attempts;
    known = subst (λ (l : List (List Entry)). Knows (keys_of a.script) a.shards a.base a.thread l (unit_at (keys_of a.script) op operation bio k) Faulted) (sym same_seen) q.known;
  }

  -- and attempted
  module _ (stays : KnownStays) (c : DeviceData) (u : PlannedUnit) (answer : UnitAnswer) (q : AttemptsUnit m c u answer) where
    goes : GoOnBy a.shards b.seen c.seen (q.entry ∷ [])
    goes = subst (λ (d : DeviceData). GoOnBy d.shards d.seen c.seen (q.entry ∷ [])) begins q.grows

    its : IsEntryOf a.thread u q.entry
    its = subst (λ (d : DeviceData). IsEntryOf d.thread u q.entry) begins q.is_its

    way : SaysItsWay a.script q.entry
    way = subst (λ (d : DeviceData). SaysItsWay d.script q.entry) begins q.way

    known : Knows (keys_of a.script) a.shards a.base a.thread c.seen u answer
    known = subst (λ (d : DeviceData). Knows (keys_of d.script) d.shards d.base d.thread c.seen u answer) begins q.known

    pub made_more : Made a c (made ++ q.entry ∷ [])
    made_more = record {
      same = q.same ∙ ap (λ (d : DeviceData). record d { seen = c.seen; spare = c.spare }) begins
          ∙ ap (λ (l : List (List Noted)). record a { seen = c.seen; noted = l; spare = c.spare }) (sym (ap (λ (d : DeviceData). d.noted) q.same));
      goes = goes_append a.shards a.thread a.seen b.seen c.seen made (q.entry ∷ []) p.goes goes;
      ways = all_append (SaysItsWay a.script) made (q.entry ∷ []) p.ways (way, tt);
    }

    fronts : (shard : ℕ) → StartsWith (list_at c.seen shard) (list_at b.seen shard)
    fronts shard = (filter (lies_in a.shards shard) (q.entry ∷ []), goes shard)

    -- without a fault
    module _ (us : List PlannedUnit) (went : q.entry.failed ≡ false) where
      met_more : (access : Access) (o o' : BioAnswer) → NoneMet a b access us o made
          → IsBioAnswer a.script a.shards a.base a.thread c.seen access (us ++ u ∷ []) o' → NoneMet a c access (us ++ u ∷ []) o' (made ++ q.entry ∷ [])
      met_more access o o' n is = record {
        entries = zip_append (IsEntryOf a.thread) us (u ∷ []) made (q.entry ∷ []) n.entries (its, tt);
        went = all_append (λ e. e.failed ≡ false) made (q.entry ∷ []) n.went (went, tt);
        answer = is;
      }

      pub met_wrote : answer ≡ Written → NoneMet a b Write us Wrote made → NoneMet a c Write (us ++ u ∷ []) Wrote (made ++ q.entry ∷ [])
      met_wrote is n =
          met_more Write Wrote Wrote n (
            refl,
            all_append (λ v. Knows (keys_of a.script) a.shards a.base a.thread c.seen v Written) us (u ∷ [])
                (bio_answer_more stays a.script a.shards a.base a.thread b.seen c.seen fronts Write us Wrote n.answer).1
                (subst (Knows (keys_of a.script) a.shards a.base a.thread c.seen u) is known, tt),
          )

      pub met_read : (bytes text : List ℕ) → answer ≡ Text text → NoneMet a b Read us (Bytes bytes) made → NoneMet a c Read (us ++ u ∷ []) (Bytes (bytes ++ text)) (made ++ q.entry ∷ [])
      met_read bytes text is n =
          let now = bio_answer_more stays a.script a.shards a.base a.thread b.seen c.seen fronts Read us (Bytes bytes) n.answer in
          met_more Read (Bytes bytes) (Bytes (bytes ++ text)) n (
            refl,
            now.1 ++ text ∷ [],
            zip_append (λ v t. Knows (keys_of a.script) a.shards a.base a.thread c.seen v (Text t)) us (u ∷ []) now.1 (text ∷ []) now.2
                (subst (Knows (keys_of a.script) a.shards a.base a.thread c.seen u) is known, tt),
            ap (λ l. l ++ text) now.3 ∙ ap (λ l. flat_map (λ t. t) now.1 ++ l) (sym (append-nil text)) ∙ sym (flat_map-append (λ t. t) now.1 (text ∷ [])),
          )

none_failed : (es : List Entry) → AllByRecursion (λ e. e.failed ≡ false) es → failed_names es ≡ []
none_failed es went = ap (map name_of_entry) (filter_none (λ e. e.failed) es (λ e at. all_at (λ (x : Entry). x.failed ≡ false) es e went at))

-- a unit met a fault: those after it are passed over
module _ (thread : ℕ) (keys : List KeyData) (op : ℕ) (operation : Op) (bio : Extent) (i : ℕ) where
  lt_no : (m n : ℕ) → n ≤ m → nat_lt m n ≡ false
  lt_no m n le = false_from_ne_true (nat_lt m n) (λ t. let lt = ltb-true m n t in absurd (omega arith))

  lt_yes : (m n : ℕ) → m < n → nat_lt m n ≡ true
  lt_yes m n lt = lt-ltb m n lt

  not_before : (v : PlannedUnit) → v.unit < i → is_attempted (unit_name_of thread (unit_at keys op operation bio i) ∷ []) (unit_name_of thread v) ≡ true
  not_before v lt = rw (lt_no i v.unit (omega arith)) (ends ((thread == thread) && (op == v.tag)))
    where
      ends : (t : Bool) → not ((t && false) || false) ≡ true
      ends true = refl
      ends false = refl

  itself : (u : PlannedUnit) → is_attempted (unit_name_of thread u ∷ []) (unit_name_of thread u) ≡ true
  itself u = rw (lt_no u.unit u.unit (omega arith)) (ends ((thread == thread) && (u.tag == u.tag)))
    where
      ends : (t : Bool) → not ((t && false) || false) ≡ true
      ends true = refl
      ends false = refl

  passed : (v : PlannedUnit) → i < v.unit → v.tag ≡ op → is_attempted (unit_name_of thread (unit_at keys op operation bio i) ∷ []) (unit_name_of thread v) ≡ false
  passed v lt same = rw (eq-eqb thread thread refl, eq-eqb op v.tag (sym same), lt_yes i v.unit lt) refl

  pub attempts_fault : (n : ℕ) (made : List Entry) (e : Entry) → AllZip (IsEntryOf thread) (first_units keys op operation bio i) made → AllByRecursion (λ x. x.failed ≡ false) made
      → IsEntryOf thread (unit_at keys op operation bio i) e → e.failed ≡ true → Attempts thread [] (first_units keys op operation bio (i + suc n)) (made ++ e ∷ [])
  attempts_fault n made e entries went its failed =
      let u = unit_at keys op operation bio i in
      let us = first_units keys op operation bio i in
      let vs = behind keys op operation bio i n in
      let name = unit_name_of thread u in
      let met : [] ++ failed_names (made ++ e ∷ []) ≡ name ∷ [] =
      failed_append made (e ∷ []) ∙ ap (λ l. l ++ failed_names (e ∷ [])) (none_failed made went)
      ∙ ap (λ (t : Bool). map name_of_entry (cond t (e ∷ []) [])) failed ∙ ap (λ m. m ∷ []) (named thread u e its) in
      let tried : attempted_by thread (name ∷ []) (us ++ u ∷ vs) ≡ us ++ u ∷ [] =
      filter-append (λ v. is_attempted (name ∷ []) (unit_name_of thread v)) us (u ∷ vs)
      ∙ ap (λ l. l ++ attempted_by thread (name ∷ []) (u ∷ vs)) (filter_all (λ v. is_attempted (name ∷ []) (unit_name_of thread v)) us (λ v at. not_before v (before_it keys op operation bio i v at)))
      ∙ ap (λ (t : Bool). us ++ cond t (u ∷ attempted_by thread (name ∷ []) vs) (attempted_by thread (name ∷ []) vs)) (itself u)
      ∙ ap (λ l. us ++ u ∷ l) (filter_none (λ v. is_attempted (name ∷ []) (unit_name_of thread v)) vs (λ v at. let r = behind_it keys op operation bio i n v at in passed v r.0 r.1)) in
      subst (λ l. Attempts thread [] l (made ++ e ∷ [])) (sym (units_round keys op operation bio i n))
      (subst (λ m. AllZip (IsEntryOf thread) (attempted_by thread m (us ++ u ∷ vs)) (made ++ e ∷ [])) (sym met)
      (subst (λ l. AllZip (IsEntryOf thread) l (made ++ e ∷ [])) (sym tried)
      (zip_append (IsEntryOf thread) us (u ∷ []) made (e ∷ []) entries (its, tt))))

pub met_fault : KnownStays → (a b m c : DeviceData) (made : List Entry) → Made a b made → m ≡ record b { noted = m.noted; spare = m.spare }
    → (op : ℕ) (operation : Op) (bio : Extent) (i : ℕ) (access : Access) (o : BioAnswer) → i < bio.units
    → NoneMet a b access (first_units (keys_of a.script) op operation bio i) o made → (q : AttemptsUnit m c (unit_at (keys_of a.script) op operation bio i) Faulted)
    → OneMet a c op operation bio i (made ++ q.entry ∷ [])
met_fault stays a b m c made p reached op operation bio i access o lt n q =
    let keys = keys_of a.script in
    let u = unit_at keys op operation bio i in
    let k = bio.units - i - 1 in
    let whole : i + suc k ≡ bio.units = omega arith in record {
      within = lt;
      attempts = subst (λ l. Attempts a.thread [] (first_units keys op operation bio l) (made ++ q.entry ∷ [])) whole
          (attempts_fault a.thread keys op operation bio i k made q.entry n.entries n.went (its a b m made p reached stays c u Faulted q) q.failed);
      known = known a b m made p reached stays c u Faulted q;
    }

-- ---- the operation of a bio

module _ (script : Script) (op : ℕ) (operation : Op) (bio : Extent) (is : bio_of operation ≡ Some bio) (accepted : refusal_of script bio ≡ None) where
  units_are : units_of script (op, operation) ≡ first_units (keys_of script) op operation bio bio.units
  units_are = first_step ∙ second_step
    where
      first_step : units_of script (op, operation) ≡ units_of_bio script op operation bio
      first_step = rw is refl

      second_step : units_of_bio script op operation bio ≡ first_units (keys_of script) op operation bio bio.units
      second_step = rw accepted refl

  units_flat : flat_map (units_of script) ((op, operation) ∷ []) ≡ first_units (keys_of script) op operation bio bio.units
  units_flat = append-nil (units_of script (op, operation)) ∙ units_are

  reply_is : (shards : ℕ) (base : ℕ → _) (thread : ℕ) (seen : List (List Entry)) (outcome : BioAnswer) (answer : Answer)
      → IsBioAnswer script shards base thread seen bio.access (first_units (keys_of script) op operation bio bio.units) outcome → answer ≡ answer_of_outcome outcome
      → IsReply script shards base thread seen (op, operation) answer
  reply_is shards base thread seen outcome answer told same =
      subst (λ (o : Option Extent). MatchOption o (IsOwnWord operation answer)
      (λ b. MatchOption (refusal_of script b) ((outcome : BioAnswer) × IsBioAnswer script shards base thread seen b.access (units_of script (op, operation)) outcome × (answer ≡ answer_of_outcome outcome))
      (λ r. answer ≡ answers.Refused r))) (sym is)
      (subst (λ (o : Option Refusal). MatchOption o ((outcome : BioAnswer) × IsBioAnswer script shards base thread seen bio.access (units_of script (op, operation)) outcome × (answer ≡ answer_of_outcome outcome))
      (λ r. answer ≡ answers.Refused r)) (sym accepted)
      (outcome, subst (λ us. IsBioAnswer script shards base thread seen bio.access us outcome) (sym units_are) told, same))

-- what carrying out the operation of a bio is
pub carries_made : (a b : DeviceData) (op : ℕ) (operation : Op) (bio : Extent) (answer : Answer) (made : List Entry) → bio_of operation ≡ Some bio → refusal_of a.script bio ≡ None
    → a.spare ≤ b.spare + cost operation → Made a b made → Attempts a.thread [] (first_units (keys_of a.script) op operation bio bio.units) made
    → (outcome : BioAnswer) → IsBioAnswer a.script a.shards a.base a.thread b.seen bio.access (first_units (keys_of a.script) op operation bio bio.units) outcome
    → answer ≡ answer_of_outcome outcome → IsAnswer answer → (q : CarriesOne a b (op, operation) answer) × (q.made ≡ made)
carries_made a b op operation bio answer made is accepted spare p attempts outcome told same range = (
  record {
    made = made;
    same = p.same;
    spare = omega (arith, spare);
    grows = grows_alone a.shards a.thread a.seen b.seen made (made_by a.thread [] (first_units (keys_of a.script) op operation bio bio.units) made attempts) p.goes;
    alone = λ _. p.goes;
    attempts = subst (λ l. Attempts a.thread [] l made) (sym (units_flat a.script op operation bio is accepted)) attempts;
    ways = p.ways;
    replies = (reply_is a.script op operation bio is accepted a.shards a.base a.thread b.seen outcome answer told same, tt);
    ranges = (range, tt);
  },
  refl,
)

-- no unit met a fault
pub carries_bio : (a b : DeviceData) (op : ℕ) (operation : Op) (bio : Extent) (outcome : BioAnswer) (answer : Answer) (made : List Entry) → bio_of operation ≡ Some bio → refusal_of a.script bio ≡ None
    → a.spare ≤ b.spare + cost operation → Made a b made → NoneMet a b bio.access (first_units (keys_of a.script) op operation bio bio.units) outcome made
    → answer ≡ answer_of_outcome outcome → IsAnswer answer → (q : CarriesOne a b (op, operation) answer) × (q.made ≡ made)
carries_bio a b op operation bio outcome answer made is accepted spare p n same range =
    let us = first_units (keys_of a.script) op operation bio bio.units in
    let attempts : Attempts a.thread [] us made =
    subst (λ m. AllZip (IsEntryOf a.thread) (attempted_by a.thread ([] ++ m) us) made) (sym (none_failed made n.went))
    (subst (λ l. AllZip (IsEntryOf a.thread) l made) (sym (filter_all (λ v. is_attempted [] (unit_name_of a.thread v)) us (λ v at. refl))) n.entries) in
    carries_made a b op operation bio answer made is accepted spare p attempts outcome n.answer same range

-- a unit met a fault
pub carries_fault : (a b : DeviceData) (op : ℕ) (operation : Op) (bio : Extent) (k : ℕ) (made : List Entry) → bio_of operation ≡ Some bio → refusal_of a.script bio ≡ None
    → bio.units ≤ max_bio_units → a.spare ≤ b.spare + cost operation → Made a b made → OneMet a b op operation bio k made
    → (q : CarriesOne a b (op, operation) (answers.Fault k)) × (q.made ≡ made)
carries_fault a b op operation bio k made is accepted few spare p one =
    let lt = one.within in
    carries_made a b op operation bio (answers.Fault k) made is accepted spare p one.attempts (Fault k)
    (k, unit_at (keys_of a.script) op operation bio k, place_in_units (keys_of a.script) op operation bio k bio.units lt, refl, one.known) refl (omega arith)
  where
    at_range : (f : ℕ → PlannedUnit) (first k n : ℕ) → k < n → At (map f (range_with_len first n)) k (f (first + k))
    at_range f first k zero lt = absurd (omega arith)
    at_range f first zero (suc n) lt = ap (λ m. Some (f m)) (none first)
      where
        none : (n : ℕ) → n ≡ n + 0
        none n = omega arith
    at_range f first (suc k) (suc n) lt = subst (λ m. At (map f (range_with_len (first + 1) n)) k (f m)) (next first k) (at_range f (first + 1) k n (omega arith))
      where
        next : (f m : ℕ) → f + 1 + m ≡ f + suc m
        next f m = omega arith

    place_in_units : (keys : List KeyData) (op : ℕ) (operation : Op) (bio : Extent) (i n : ℕ) → i < n → At (first_units keys op operation bio n) i (unit_at keys op operation bio i)
    place_in_units keys op operation bio i n lt = subst (λ m. At (first_units keys op operation bio n) i (unit_at keys op operation bio m)) (zero_first i) (at_range (unit_at keys op operation bio) 0 i n lt)
      where
        zero_first : (n : ℕ) → 0 + n ≡ n
        zero_first n = omega arith
