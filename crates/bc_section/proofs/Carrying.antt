-- Operations that are carried out one after the other.
use Rattle.std.proofs.Common.{◌≡◌, ℕ, zero, suc, take, get_or, ◌+◌, ◌<◌, ◌≤◌, false, List, [], ◌∷◌, ◌++◌, length, map, append-nil, refl, sym, ap, subst, ◌∙◌, arith, Option, Some, None}
use Rattle.std.specs.Prelude.{flat_map, MatchOption, ◌==◌, ◌&&◌, nat_lt}
use Rattle.std.specs.List.{enumerate_from, range_with_len}
use Rattle.std.proofs.Math.Logic.{⊎_elim}
use Rattle.std.proofs.lemmas.Bool.{ne_eqb, and_left, and_right}
use Rattle.std.proofs.lemmas.List.Sums.{sum_by-append, sum_by-cons}
use Rattle.std.proofs.lemmas.List.{length-take}
use Rattle.std.proofs.lemmas.Grind.{flat_map-append}
use Rattle.bc_base.specs.Lists.{list_at}
use Rattle.bc_base.specs.Story.{StartsWith}
use Rattle.bc_key.specs.KeyData.{KeyData}
use Rattle.bc_bio.specs.declared.access.Access.{Access}
use Rattle.bc_bio.specs.declared.extent.Extent.{Extent}
use Rattle.bc_bio.specs.declared.refusal.Refusal.{Refusal}
use Rattle.bc_bio.specs.PlannedUnit.{PlannedUnit}
use Rattle.bc_medium.specs.declared.entry.Entry.{Entry}
use Rattle.bc_medium.specs.declared.unit_name.UnitName.{UnitName}
use Rattle.bc_medium.specs.KeyedDisk.{Sectors, Faulted, Written, Text}
use Rattle.bc_medium.specs.LawfulOrders.{unit_name_of, is_earlier}
use Rattle.bc_medium.specs.Laws.{KnownStays}
use Rattle.bc_medium.specs.Growth.{Attempts, Knows, failed_names}
use Rattle.bc_medium.specs.Outcome.{BioAnswer, Wrote, Bytes, Fault}
use Rattle.bc_profile.specs.declared.noted.Noted.{Noted}
use Rattle.bc_script.specs.declared.op.Op.{Op}
use Rattle.bc_script.specs.Script.{Script, keys_of}
use Rattle.bc_script.specs.Bios.{bio_of, refusal_of}
use Rattle.bc_script.specs.Plan.{unit_at, units_of, units_of_bio}
use Rattle.bc_report.specs.declared.answer.Answer.{Answer}
use Rattle.bc_report.specs.declared.answer.Answer.TheVariants as answers
use Rattle.bc_report.specs.Answers.{answer_of_outcome, IsOwnWord}
use Rattle.bc_report.specs.Report.{IsAnswer}
use Rattle.bc_compose.specs.SectionDone.{SaysItsWay, IsBioAnswer, IsReply}
use Rattle.bc_section.specs.Sections.{DeviceData, Carries, CarriesOne, cost, cost_in, cost_of_section}
use Rattle.bc_section.proofs.Lists.{zip_more, take_next, enumerate_push}
use Rattle.bc_section.proofs.Growing.{goes_none, goes_append}
use Rattle.bc_base.proofs.Members.{In, in_of_map, in_of_flat_map, all_append, all_of, zip_append}
use Rattle.bc_medium.proofs.Growing.{grows_none, grows_append, attempts_append, attempts_fresh, failed_are}

-- ---- the units of an operation have its number

ops_of_bio : (keys : List KeyData) (op : ℕ) (operation : Op) (bio : Extent) (ns : List ℕ) → (u : PlannedUnit) → In u (map (unit_at keys op operation bio) ns) → u.tag ≡ op
ops_of_bio keys op operation bio ns u at = let r = in_of_map (unit_at keys op operation bio) ns u at in ap (λ (v : PlannedUnit). v.tag) (sym r.2)

pub op_of_unit : (script : Script) (x : ℕ × Op) (u : PlannedUnit) → In u (units_of script x) → u.tag ≡ x.0
op_of_unit script (op, operation) u at =
    (elim (bio_of operation) as (λ (o : Option Extent). bio_of operation ≡ o → u.tag ≡ op) [
      | None ↦ λ is. absurd (subst (In u) (none is) at)
      | Some bio ↦ λ is. of_bio bio (refusal_of script bio) refl (subst (In u) (some bio is) at)
    ]) refl
  where
    none : bio_of operation ≡ None → units_of script (op, operation) ≡ []
    none is = rw is refl

    some : (bio : Extent) → bio_of operation ≡ Some bio → units_of script (op, operation) ≡ units_of_bio script op operation bio
    some bio is = rw is refl

    accepted : (bio : Extent) → refusal_of script bio ≡ None → units_of_bio script op operation bio ≡ map (unit_at (keys_of script) op operation bio) (range_with_len 0 bio.units)
    accepted bio is = rw is refl

    refused : (bio : Extent) (refusal : Refusal) → refusal_of script bio ≡ Some refusal → units_of_bio script op operation bio ≡ []
    refused bio refusal is = rw is refl

    of_bio : (bio : Extent) (o : Option Refusal) → refusal_of script bio ≡ o → In u (units_of_bio script op operation bio) → u.tag ≡ op
    of_bio bio None is here = ops_of_bio (keys_of script) op operation bio (range_with_len 0 bio.units) u (subst (In u) (accepted bio is) here)
    of_bio bio (Some refusal) is here = absurd (subst (In u) (refused bio refusal is) here)

-- operations with other numbers have no unit of one bio
apart : (script : Script) (thread : ℕ) (xs ys : List (ℕ × Op)) → ((x y : ℕ × Op) → In x xs → In y ys → x.0 ≡ y.0 → ⊥)
    → (u v : PlannedUnit) → In u (flat_map (units_of script) xs) → In v (flat_map (units_of script) ys) → u.tag ≡ v.tag → ⊥
apart script thread xs ys other u v at at' same =
    let r = in_of_flat_map (units_of script) xs u at in
    let s = in_of_flat_map (units_of script) ys v at' in
    other r.0 s.0 r.1 s.1 (sym (op_of_unit script r.0 u r.2) ∙ same ∙ op_of_unit script s.0 v s.2)

pub not_earlier : (thread : ℕ) (u v : PlannedUnit) → (u.tag ≡ v.tag → ⊥) → is_earlier (unit_name_of thread u) (unit_name_of thread v) ≡ false
not_earlier thread u v other =
    and_left ((thread == thread) && (u.tag == v.tag)) (nat_lt u.unit v.unit) (and_right (thread == thread) (u.tag == v.tag) (ne_eqb u.tag v.tag other))

-- ---- what is known stays known

module _ (stays : KnownStays) (script : Script) (shards : ℕ) (base : ℕ → Sectors) (thread : ℕ) (old new : List (List Entry))
    (fronts : (shard : ℕ) → StartsWith (list_at new shard) (list_at old shard)) where
  pub knows_more : (u : PlannedUnit) (answer : _) → Knows (keys_of script) shards base thread old u answer → Knows (keys_of script) shards base thread new u answer
  knows_more u answer = stays (keys_of script) shards base thread old new u answer fronts

  pub bio_answer_more : (access : Access) (units : List PlannedUnit) (b : BioAnswer) → IsBioAnswer script shards base thread old access units b → IsBioAnswer script shards base thread new access units b
  bio_answer_more access units Wrote is =
      (is.0, all_of (λ u. Knows (keys_of script) shards base thread old u Written) (λ u. Knows (keys_of script) shards base thread new u Written) units (λ u. knows_more u Written) is.1)
  bio_answer_more access units (Bytes bytes) is =
      (is.0, is.1, zip_more (λ u text. Knows (keys_of script) shards base thread old u (Text text)) (λ u text. Knows (keys_of script) shards base thread new u (Text text)) units is.1 (λ u text. knows_more u (Text text)) is.2, is.3)
  bio_answer_more access units (Fault unit) is = (is.0, is.1, is.2, is.3, knows_more is.1 Faulted is.4)

  by_refusal : (o : Option Refusal) (access : Access) (units : List PlannedUnit) (answer : Answer)
      → MatchOption o ((b : BioAnswer) × IsBioAnswer script shards base thread old access units b × (answer ≡ answer_of_outcome b)) (λ refusal. answer ≡ answers.Refused refusal)
      → MatchOption o ((b : BioAnswer) × IsBioAnswer script shards base thread new access units b × (answer ≡ answer_of_outcome b)) (λ refusal. answer ≡ answers.Refused refusal)
  by_refusal None access units answer is = (is.0, bio_answer_more access units is.0 is.1, is.2)
  by_refusal (Some refusal) access units answer is = is

  by_bio : (o : Option Extent) (Own : Type 0) (units : List PlannedUnit) (answer : Answer)
      → MatchOption o Own (λ bio. MatchOption (refusal_of script bio) ((b : BioAnswer) × IsBioAnswer script shards base thread old bio.access units b × (answer ≡ answer_of_outcome b)) (λ refusal. answer ≡ answers.Refused refusal))
      → MatchOption o Own (λ bio. MatchOption (refusal_of script bio) ((b : BioAnswer) × IsBioAnswer script shards base thread new bio.access units b × (answer ≡ answer_of_outcome b)) (λ refusal. answer ≡ answers.Refused refusal))
  by_bio None Own units answer is = is
  by_bio (Some bio) Own units answer is = by_refusal (refusal_of script bio) bio.access units answer is

  pub reply_more : (x : ℕ × Op) (answer : Answer) → IsReply script shards base thread old x answer → IsReply script shards base thread new x answer
  reply_more (op, operation) answer is =
      by_bio (bio_of operation) (IsOwnWord operation answer) (units_of script (op, operation)) answer is

-- ---- operations one after the other

-- operations were carried out, and these entries were made
abbrev pub CarriesBy : DeviceData → DeviceData → List (ℕ × Op) → List Answer → List Entry → Type 0
CarriesBy a c xs told made = (p : Carries a c xs told) × (p.made ≡ made)

pub carries_none_by : (d : DeviceData) → CarriesBy d d [] [] []
carries_none_by d = (
  record {
    made = [];
    same = refl;
    spare = omega arith;
    grows = grows_none d.shards d.thread d.seen;
    alone = λ _. goes_none d.shards d.thread d.seen;
    attempts = tt;
    ways = tt;
    replies = tt;
    ranges = tt;
  },
  refl,
)

pub carries_none : (d : DeviceData) → Carries d d [] []
carries_none d = (carries_none_by d).0

module _ (stays : KnownStays) (a : DeviceData) (seen seen' : List (List Entry)) (noted noted' : List (List Noted)) (spare spare' : ℕ) where
  abbrev b : DeviceData
  b = record a { seen = seen; noted = noted; spare = spare }

  abbrev c : DeviceData
  c = record a { seen = seen'; noted = noted'; spare = spare' }

  append : (xs ys : List (ℕ × Op)) (told told' : List Answer) → ((x y : ℕ × Op) → In x xs → In y ys → x.0 ≡ y.0 → ⊥)
      → Carries a b xs told → Carries b c ys told' → Carries a c (xs ++ ys) (told ++ told')
  append xs ys told told' other p q =
      let us = flat_map (units_of a.script) xs in
      let vs = flat_map (units_of a.script) ys in
      let parted = apart a.script a.thread xs ys other in record {
        made = p.made ++ q.made;
        same = refl;
        spare = let l = p.spare in let m = q.spare in omega (arith, sum_by-append (λ (x : ℕ × Op). cost x.1) xs ys);
        grows = grows_append a.shards a.thread a.seen seen seen' p.made q.made p.grows q.grows;
        alone = λ alone. goes_append a.shards a.thread a.seen seen seen' p.made q.made (p.alone alone) (q.alone alone);
        attempts =
            subst (λ l. Attempts a.thread [] l (p.made ++ q.made)) (sym (flat_map-append (units_of a.script) xs ys))
            (attempts_append a.thread [] us vs p.made q.made (λ u v at at'. not_earlier a.thread v u (λ same. parted u v at at' (sym same))) p.attempts
            (attempts_fresh a.thread (failed_names p.made) vs q.made
            (λ f v at at'. let r = failed_are a.thread [] us p.made p.attempts f at in
            ap (λ (n : UnitName). is_earlier n (unit_name_of a.thread v)) r.2 ∙ not_earlier a.thread r.0 v (parted r.0 v r.1 at')) q.attempts));
        ways = all_append (SaysItsWay a.script) p.made q.made p.ways q.ways;
        replies = zip_append (IsReply a.script a.shards a.base a.thread seen') xs ys told told'
            (zip_more (IsReply a.script a.shards a.base a.thread seen) (IsReply a.script a.shards a.base a.thread seen') xs told
            (reply_more stays a.script a.shards a.base a.thread seen seen' q.grows.fronts) p.replies) q.replies;
        ranges = all_append IsAnswer told told' p.ranges q.ranges;
      }

pub carries_append_by : KnownStays → (a b c : DeviceData) (xs ys : List (ℕ × Op)) (told told' : List Answer) (made made' : List Entry)
    → ((x y : ℕ × Op) → In x xs → In y ys → x.0 ≡ y.0 → ⊥)
    → CarriesBy a b xs told made → CarriesBy b c ys told' made' → CarriesBy a c (xs ++ ys) (told ++ told') (made ++ made')
unfolding append
carries_append_by stays a b c xs ys told told' made made' other p q =
    let same : c ≡ record a { seen = c.seen; noted = c.noted; spare = c.spare } = q.0.same ∙ ap (λ (d : DeviceData). record d { seen = c.seen; noted = c.noted; spare = c.spare }) p.0.same in
    let p1 = subst (λ (d : DeviceData). CarriesBy a d xs told made) p.0.same p in
    let q1 = subst (λ (d : DeviceData). CarriesBy b d ys told' made') q.0.same q in
    let q2 = subst (λ (d : DeviceData). CarriesBy d (record d { seen = c.seen; noted = c.noted; spare = c.spare }) ys told' made') p.0.same q1 in
    subst (λ (d : DeviceData). CarriesBy a d (xs ++ ys) (told ++ told') (made ++ made')) (sym same)
    (append stays a b.seen c.seen b.noted c.noted b.spare c.spare xs ys told told' other p1.0 q2.0, ap (λ l. l ++ q2.0.made) p1.1 ∙ ap (λ l. made ++ l) q2.1)

pub carries_append : KnownStays → (a b c : DeviceData) (xs ys : List (ℕ × Op)) (told told' : List Answer) → ((x y : ℕ × Op) → In x xs → In y ys → x.0 ≡ y.0 → ⊥)
    → Carries a b xs told → Carries b c ys told' → Carries a c (xs ++ ys) (told ++ told')
carries_append stays a b c xs ys told told' other p q =
    (carries_append_by stays a b c xs ys told told' p.made q.made other (p, refl) (q, refl)).0

-- ---- operations without a unit

-- an operation without units, which was answered without an access
pub carries_quiet : (d : DeviceData) (op : ℕ) (operation : Op) (answer : Answer) → units_of d.script (op, operation) ≡ []
    → IsReply d.script d.shards d.base d.thread d.seen (op, operation) answer → IsAnswer answer → CarriesOne d d (op, operation) answer
carries_quiet d op operation answer none reply range = record {
  made = [];
  same = refl;
  spare = omega arith;
  grows = grows_none d.shards d.thread d.seen;
  alone = λ _. goes_none d.shards d.thread d.seen;
  attempts = subst (λ us. Attempts d.thread [] us []) (sym (append-nil (units_of d.script (op, operation)) ∙ none)) tt;
  ways = tt;
  replies = (reply, tt);
  ranges = (range, tt);
}

-- a bio that is refused
pub carries_refused : (d : DeviceData) (op : ℕ) (operation : Op) (bio : Extent) (refusal : Refusal) → bio_of operation ≡ Some bio
    → refusal_of d.script bio ≡ Some refusal → CarriesOne d d (op, operation) (answers.Refused refusal)
carries_refused d op operation bio refusal is refused =
    carries_quiet d op operation (answers.Refused refusal) (none ∙ refused_units)
    (subst (λ (o : Option Extent). MatchOption o (IsOwnWord operation (answers.Refused refusal))
    (λ b. MatchOption (refusal_of d.script b)
    ((outcome : BioAnswer) × IsBioAnswer d.script d.shards d.base d.thread d.seen b.access (units_of d.script (op, operation)) outcome × (answers.Refused refusal ≡ answer_of_outcome outcome))
    (λ r. answers.Refused refusal ≡ answers.Refused r))) (sym is)
    (subst (λ (o : Option Refusal). MatchOption o
    ((outcome : BioAnswer) × IsBioAnswer d.script d.shards d.base d.thread d.seen bio.access (units_of d.script (op, operation)) outcome × (answers.Refused refusal ≡ answer_of_outcome outcome))
    (λ r. answers.Refused refusal ≡ answers.Refused r)) (sym refused) refl)) tt
  where
    none : units_of d.script (op, operation) ≡ units_of_bio d.script op operation bio
    none = rw is refl

    refused_units : units_of_bio d.script op operation bio ≡ []
    refused_units = rw refused refl

-- ---- a section, operation by operation

numbers_below : {X : Type 0} (n : ℕ) (xs : List X) (x : ℕ × X) → In x (enumerate_from n xs) → x.0 < n + length xs
numbers_below n [] x at = absurd at
numbers_below {X} n (y ∷ ys) x at =
    ⊎_elim (λ (e : (n, y) ≡ x). let k : n ≡ x.0 = ap (λ (z : ℕ × X). z.0) e in omega arith)
    (λ (more : In x (enumerate_from (n + 1) ys)). let k = numbers_below (n + 1) ys x more in omega arith) at

-- one operation more
pub carries_more : KnownStays → (a b c : DeviceData) (section : List Op) (i : ℕ) (operation : Op) (answers answers' : List Answer) (answer : Answer)
    → i < length section → operation ≡ get_or section i operation → answers' ≡ answers ++ answer ∷ []
    → Carries a b (enumerate_from 0 (take i section)) answers → CarriesOne b c (i, operation) answer → Carries a c (enumerate_from 0 (take (i + 1) section)) answers'
carries_more stays a b c section i operation answers answers' answer lt read more p q =
    let long : 0 + length (take i section) ≡ i = omega (arith, length-take i section) in
    let next : enumerate_from 0 (take (i + 1) section) ≡ enumerate_from 0 (take i section) ++ (i, operation) ∷ [] =
    ap (enumerate_from 0) (take_next section i operation lt read) ∙ enumerate_push 0 (take i section) operation
    ∙ ap (λ (n : ℕ). enumerate_from 0 (take i section) ++ (n, operation) ∷ []) long in
    subst (λ (all : List Answer). Carries a c (enumerate_from 0 (take (i + 1) section)) all) (sym more)
    (subst (λ (l : List (ℕ × Op)). Carries a c l (answers ++ answer ∷ [])) (sym next)
    (carries_append stays a b c (enumerate_from 0 (take i section)) ((i, operation) ∷ []) answers (answer ∷ [])
    (λ x y at at' same. ⊎_elim
    (λ (e : (i, operation) ≡ y). let k : i ≡ y.0 = ap (λ (z : ℕ × Op). z.0) e in let m = numbers_below 0 (take i section) x at in absurd (omega arith))
    (λ (no : ⊥). absurd no) at') p q))

-- the units of the operations so far and of the next one are among the section's
pub units_at : (n : ℕ) (section : List Op) → cost_in (enumerate_from n section) ≡ cost_of_section section
units_at n [] = refl
units_at n (operation ∷ section) = sum_by-cons (λ (x : ℕ × Op). cost x.1) (n, operation) (enumerate_from (n + 1) section) ∙ ap (λ m. cost operation + m) (units_at (n + 1) section) ∙ sym (sum_by-cons cost operation section)

pub count_take : (section : List Op) (n : ℕ) → cost_of_section (take n section) ≤ cost_of_section section
count_take section zero = omega arith
count_take [] (suc n) = omega arith
count_take (operation ∷ section) (suc n) = let more = count_take section n in omega (arith, sum_by-cons cost operation (take n section), sum_by-cons cost operation section)

pub spare_next : (a b : DeviceData) (section : List Op) (i : ℕ) (operation : Op) (answers : List Answer) → i < length section → operation ≡ get_or section i operation
    → cost_of_section section ≤ a.spare → Carries a b (enumerate_from 0 (take i section)) answers → cost operation ≤ b.spare
spare_next a b section i operation answers lt read spare p =
    let here = p.spare in
    let most = count_take section (i + 1) in
    omega (arith, units_at 0 (take i section), ap cost_of_section (take_next section i operation lt read), sum_by-append cost (take i section) (operation ∷ []))

pub same_script : (a b : DeviceData) (xs : List (ℕ × Op)) (answers : List Answer) → Carries a b xs answers → b.script ≡ a.script
same_script a b xs answers p = ap (λ (d : DeviceData). d.script) p.same
