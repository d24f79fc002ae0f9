-- One operation more: held back, submitted with what is held back, answered by itself, evicted, reset.
use Rattle.std.proofs.Common.{◌≡◌, ℕ, zero, suc, ◌+◌, ◌<◌, ◌≤◌, ◌⊎◌, inl, inr, Bool, true, false, cond, List, [], ◌∷◌, ◌++◌, length, map, take, get_or, append-nil, append_assoc, refl, sym, ap, subst, ◌∙◌, arith, Option, Some, None}
use Rattle.std.specs.Prelude.{◌≢◌, ◌==◌, filter, filter_map, slice_get, slice_set, IsSomeAnd, zip}
use Rattle.std.specs.List.{enumerate_from, AllByRecursion, AllZip, cons_option, list_any}
use Rattle.std.specs.Option.{option_map_or}
use Rattle.std.proofs.Math.Logic.{⊎_elim}
use Rattle.std.proofs.lemmas.Bool.{true≢false, cases_eq, cases_lt}
use Rattle.std.proofs.lemmas.Option.{none-some, same_Some}
use Rattle.std.proofs.lemmas.List.{take_more, take_all, length-take-le, length-map}
use Rattle.std.proofs.lemmas.List.Elements.{filter-append, filter_map-append}
use Rattle.std.proofs.lemmas.List.Sums.{sum_by-cons, sum_by-append}
use Rattle.bc_base.specs.Lists.{list_at}
use Rattle.bc_base.specs.Story.{own, StartsWith}
use Rattle.bc_key.specs.declared.keys.KeyNo.{KeyNo}
use Rattle.bc_bio.specs.declared.extent.Extent.{Extent}
use Rattle.bc_medium.specs.declared.entry.Entry.{Entry}
use Rattle.bc_medium.specs.KeyedDisk.{Sectors}
use Rattle.bc_medium.specs.Entries.{caller_of}
use Rattle.bc_medium.specs.Laws.{KnownStays}
use Rattle.bc_profile.specs.declared.noted.Noted.{Noted}
use Rattle.bc_profile.specs.Story.{author_of}
use Rattle.bc_profile.specs.Laws.{ProgrammingsStay, LaterHoldsNameLater, HoldsAfterEvictions}
use Rattle.bc_script.specs.declared.op.Op.{Op}
use Rattle.bc_script.specs.declared.op.Op.TheVariants as ops
use Rattle.bc_script.specs.declared.limits.TheConstants.{MAX_PLUGGED}
use Rattle.bc_script.specs.Script.{Script}
use Rattle.bc_script.specs.Bios.{bio_of, refusal_of}
use Rattle.bc_script.specs.Windows as turns
use Rattle.bc_report.specs.declared.answer.Answer.{Answer}
use Rattle.bc_report.specs.declared.answer.Answer.TheVariants as report_answers
use Rattle.bc_report.specs.Evictions.{Eviction, eviction_in, evictions_in, IsEvictionAnswer}
use Rattle.bc_report.specs.Report.{IsAnswer}
use Rattle.bc_compose.specs.SectionDone.{IsReply}
use Rattle.bc_compose.specs.ThreadWork.{is_act, Acted}
use Rattle.bc_section.specs.Sections.{DeviceData, GoOnBy, cost, cost_in, cost_of_section}
use Rattle.bc_section.specs.Uses.{op_bios}
use Rattle.bc_section.specs.SectionProgress.{numbered, IsAcceptedBio, MayBePlugged, eviction_by, eviction_of, evictions_before, Submitted, Settled, Evicted, HasReset, SeesMore, Reached, CarriesSection, WindowEnds, HoldsNone, steps_from}
use Rattle.bc_section.proofs.Lists.{is_in, in_is, not_in_is, enumerate_push}
use Rattle.bc_section.proofs.Growing.{goes_none, goes_append}
use Rattle.bc_section.proofs.Carrying.{reply_more}
use Rattle.bc_section.proofs.Ordering.{pairs_append}
use Rattle.bc_section.proofs.Left.{used_none, used_more, used_window, used_turn, used_all, left, left_held, left_before, next_evict, next_reset}
use Rattle.bc_section.proofs.Using.{units_of_evict, units_of_reset}
use Rattle.bc_section.proofs.Acting.{acted_window, acted_evict, acted_reset, acted_none, acted_later, acted_done}
use Rattle.bc_base.proofs.Members.{In, in_append_left, in_append_right, all_at, all_from_in, all_append}
use Rattle.bc_medium.proofs.Growing.{begins_itself}

-- ---- lists

in_or_not : (o : ℕ) (xs : List ℕ) → In o xs ⊎ (In o xs → ⊥)
in_or_not o [] = inr (λ h. h)
in_or_not o (x ∷ xs) =
    ⊎_elim (λ (e : x ≡ o). inl (inl e))
    (λ (ne : x ≢ o). ⊎_elim (λ (h : In o xs). inl (inr h)) (λ (n : In o xs → ⊥). inr (λ h. ⊎_elim ne n h)) (in_or_not o xs))
    (cases_eq x o)

pub enumerated_at : {X : Type 0} (first : ℕ) (xs : List X) (y : ℕ × X) → In y (enumerate_from first xs) → (i : ℕ) × (first + i ≡ y.0) × (slice_get xs i ≡ Some y.1)
enumerated_at first [] y h = absurd h
enumerated_at first (x ∷ xs) y h =
    ⊎_elim
    (λ (e : (first, x) ≡ y). (0, (let n : first ≡ y.0 = ap (λ (z : ℕ × _). z.0) e in omega arith), ap (λ (z : ℕ × _). Some z.1) e))
    (λ (more : In y (enumerate_from (first + 1) xs)). let r = enumerated_at (first + 1) xs y more in let n = r.1 in (suc r.0, omega arith, r.2))
    h

get_take : {X : Type 0} (n i : ℕ) (xs : List X) (x : X) → slice_get (take n xs) i ≡ Some x → (i < n) × (slice_get xs i ≡ Some x)
get_take zero i xs x e = absurd (none-some x e)
get_take (suc n) i [] x e = absurd (none-some x e)
get_take (suc n) zero (y ∷ ys) x e = (omega arith, e)
get_take (suc n) (suc i) (y ∷ ys) x e = let r = get_take n i ys x e in let lt = r.0 in (omega arith, r.1)

pub get_set_same : {X : Type 0} (xs : List X) (i : ℕ) (x : X) → i < length xs → slice_get (slice_set xs i x) i ≡ Some x
get_set_same [] i x lt = absurd (omega arith)
get_set_same (y ∷ ys) zero x lt = refl
get_set_same (y ∷ ys) (suc i) x lt = get_set_same ys i x (omega arith)

pub get_set_other : {X : Type 0} (xs : List X) (i j : ℕ) (x : X) → (i ≡ j → ⊥) → slice_get (slice_set xs i x) j ≡ slice_get xs j
get_set_other [] i j x ne = refl
get_set_other (y ∷ ys) zero zero x ne = absurd (ne refl)
get_set_other (y ∷ ys) zero (suc j) x ne = refl
get_set_other (y ∷ ys) (suc i) zero x ne = refl
get_set_other (y ∷ ys) (suc i) (suc j) x ne = get_set_other ys i j x (λ e. ne (ap suc e))

pub length_set : {X : Type 0} (xs : List X) (i : ℕ) (x : X) → length (slice_set xs i x) ≡ length xs
length_set [] i x = refl
length_set (y ∷ ys) zero x = refl
length_set (y ∷ ys) (suc i) x = ap suc (length_set ys i x)

filter_map_same : {X Y : Type 0} (f g : X → Option Y) (xs : List X) → ((x : X) → In x xs → f x ≡ g x) → filter_map f xs ≡ filter_map g xs
filter_map_same f g [] same = refl
filter_map_same f g (x ∷ xs) same = ap (λ o. cons_option o (filter_map f xs)) (same x (inl refl)) ∙ ap (cons_option (g x)) (filter_map_same f g xs (λ y h. same y (inr h)))

pub numbered_push : (section : List Op) (os : List ℕ) (o : ℕ) (operation : Op) → slice_get section o ≡ Some operation → numbered section (os ++ o ∷ []) ≡ numbered section os ++ (o, operation) ∷ []
numbered_push section [] o operation is = ap (λ (p : Option Op). option_map_or (λ x. (o, x) ∷ []) p []) is
numbered_push section (x ∷ os) o operation is =
    (elim (slice_get section x) as (λ (p : Option Op). option_map_or (λ y. (x, y) ∷ numbered section (os ++ o ∷ [])) p (numbered section (os ++ o ∷ [])) ≡ option_map_or (λ y. (x, y) ∷ numbered section os) p (numbered section os) ++ (o, operation) ∷ []) [
      | None ↦ numbered_push section os o operation is
      | Some y ↦ ap (λ l. (x, y) ∷ l) (numbered_push section os o operation is)
    ])

pub numbered_all : (section : List Op) (P : ℕ → Type 0) (os : List ℕ) → AllByRecursion P os → AllByRecursion (λ (x : ℕ × Op). P x.0) (numbered section os)
numbered_all section P [] all = tt
numbered_all section P (o ∷ os) all =
    elim (slice_get section o) as (λ (p : Option Op). AllByRecursion (λ (x : ℕ × Op). P x.0) (option_map_or (λ y. (o, y) ∷ numbered section os) p (numbered section os))) [
      | None ↦ numbered_all section P os all.1
      | Some y ↦ (all.0, numbered_all section P os all.1)
    ]

-- an eviction is neither held back nor without an answer of its own
same_evictions : (thread : ℕ) (answers answers' : List (Option Answer)) (x : ℕ × Op) → ((key : _) → x.1 ≡ ops.Evict key → slice_get answers' x.0 ≡ slice_get answers x.0) → eviction_of thread answers' x ≡ eviction_of thread answers x
same_evictions thread answers answers' (o, ops.Evict key) same = ap (eviction_by thread o key.0) (same key refl)
same_evictions thread answers answers' (o, ops.Write c s n x) same = refl
same_evictions thread answers answers' (o, ops.Read c s n) same = refl
same_evictions thread answers answers' (o, ops.Reset d) same = refl
same_evictions thread answers answers' (o, ops.Plug) same = refl
same_evictions thread answers answers' (o, ops.Unplug) same = refl

no_eviction : (thread : ℕ) (answers : List (Option Answer)) (o : ℕ) (operation : Op) → ((key : _) → operation ≡ ops.Evict key → ⊥) → eviction_of thread answers (o, operation) ≡ None
no_eviction thread answers o (ops.Evict key) ne = absurd (ne key refl)
no_eviction thread answers o (ops.Write c s n x) ne = refl
no_eviction thread answers o (ops.Read c s n) ne = refl
no_eviction thread answers o (ops.Reset d) ne = refl
no_eviction thread answers o ops.Plug ne = refl
no_eviction thread answers o ops.Unplug ne = refl

module _ (known_stays : KnownStays) (stays : ProgrammingsStay) (later_holds : LaterHoldsNameLater) (behind_evictions : HoldsAfterEvictions) (start : DeviceData) (section : List Op) where
  abbrev script : Script
  script = start.script

  abbrev shards : ℕ
  shards = start.shards

  abbrev base : ℕ → Sectors
  base = start.base

  abbrev thread : ℕ
  thread = start.thread

  abbrev opening : List (List Entry)
  opening = start.seen

  abbrev evictions_at : ℕ → List (Option Answer) → List Eviction
  evictions_at op answers = evictions_before thread section op answers

  abbrev now_acted : List (ℕ × Op) → ℕ → List (List Entry) → List (List Noted) → List Entry → List Eviction → Type 0
  now_acted acts next seen noted made evictions = Acted script shards thread opening acts next seen noted made evictions

  abbrev is_held : ℕ → List ℕ → Type 0
  is_held o pending = list_any (λ held. held == o) pending ≡ true

  one_more : (op : ℕ) (operation : Op) → slice_get section op ≡ Some operation → enumerate_from 0 (take (op + 1) section) ≡ enumerate_from 0 (take op section) ++ (op, operation) ∷ []
  one_more op operation is =
      let w = within section op operation is in
      ap (enumerate_from 0) (take_more section op operation w.0 ∙ ap (λ x. take op section ++ x ∷ []) w.1)
      ∙ enumerate_push 0 (take op section) operation
      ∙ ap (λ (n : ℕ). enumerate_from 0 (take op section) ++ (n, operation) ∷ []) (let h = length-take-le op section (omega (arith, w.0)) in omega arith)
    where
      within : (xs : List Op) (i : ℕ) (x : Op) → slice_get xs i ≡ Some x → (i < length xs) × (get_or xs i x ≡ x)
      within [] i x e = absurd (none-some x e)
      within (y ∷ ys) zero x e = (omega arith, same_Some y x e)
      within (y ∷ ys) (suc i) x e = let r = within ys i x e in let lt = r.0 in (omega arith, r.1)

  keeps_evictions : (op : ℕ) (answers answers' : List (Option Answer)) → ((o : ℕ) (key : _) → o < op → slice_get section o ≡ Some (ops.Evict key) → slice_get answers' o ≡ slice_get answers o)
      → evictions_at op answers' ≡ evictions_at op answers
  keeps_evictions op answers answers' same =
      filter_map_same (eviction_of thread answers') (eviction_of thread answers) (enumerate_from 0 (take op section))
      (λ x h. same_evictions thread answers answers' x
      (λ key is.
      let r = enumerated_at 0 (take op section) x h in
      let n = r.1 in
      let e : r.0 ≡ x.0 = omega arith in
      let g = get_take op r.0 section x.1 r.2 in
      let lt = g.0 in
      same x.0 key (omega arith) (subst (λ k. slice_get section k ≡ Some (ops.Evict key)) e (g.1 ∙ ap (λ y. Some y) is))))

  -- ---- replies of the device that sees more

  reply_from : (d : DeviceData) (x : ℕ × Op) (a : Answer) → SeesMore start d → IsReply d.script d.shards d.base d.thread d.seen x a → IsReply script shards base thread d.seen x a
  reply_from d x a same is = subst (λ (e : DeviceData). IsReply e.script e.shards e.base e.thread d.seen x a) same is

  reply_to : (d : DeviceData) (x : ℕ × Op) (a : Answer) → SeesMore start d → IsReply script shards base thread d.seen x a → IsReply d.script d.shards d.base d.thread d.seen x a
  reply_to d x a same is = subst (λ (e : DeviceData). IsReply e.script e.shards e.base e.thread d.seen x a) (sym same) is

  settled_more : (d d' : DeviceData) (answers answers' : List (Option Answer)) (o : ℕ) → SeesMore start d → SeesMore start d' → ((shard : ℕ) → StartsWith (list_at d'.seen shard) (list_at d.seen shard))
      → slice_get answers' o ≡ slice_get answers o → Settled d section answers o → Settled d' section answers' o
  settled_more d d' answers answers' o same same' fronts told s = record {
    operation = s.operation;
    answer = s.answer;
    asked = s.asked;
    told = told ∙ s.told;
    range = s.range;
    replied = reply_to d' (o, s.operation) s.answer same'
        (reply_more known_stays script shards base thread d.seen d'.seen fronts (o, s.operation) s.answer (reply_from d (o, s.operation) s.answer same s.replied));
  }

  pub reached_none : (answers : List (Option Answer)) → ((d : ℕ) → own author_of thread (list_at start.noted d) ≡ []) → length answers ≡ length section → Reached start start section 0 false [] answers
  reached_none answers none long = record {
    acts = [];
    next = 0;
    made = [];
    same = refl;
    spare = omega arith;
    alone = λ _. goes_none shards thread opening;
    acted = acted_none stays later_holds behind_evictions script shards base thread opening start.noted none;
    next_below = omega arith;
    held_back = tt;
    ascend = tt;
    complete = refl;
    eviction_answers = tt;
    long = long;
    used = λ _. used_none start section;
    settled = λ o lt. absurd (omega arith);
  }

  module _ (now : DeviceData) (op : ℕ) (plugged : Bool) (pending : List ℕ) (answers : List (Option Answer)) (r : Reached start now section op plugged pending answers) where
    abbrev is_pending : ℕ → Type 0
    is_pending o = (r.next ≤ o) × (o < op) × MayBePlugged script section o

    held_more : AllByRecursion (λ o. (r.next ≤ o) × (o < op + 1) × MayBePlugged script section o) pending
    held_more = all_from_in (λ o. (r.next ≤ o) × (o < op + 1) × MayBePlugged script section o) pending
        (λ o h. let p = all_at is_pending pending o r.held_back h in let lt = p.1 in (p.0, omega arith, p.2))

    pub held_are : AllByRecursion (MayBePlugged script section) pending
    held_are = all_from_in (MayBePlugged script section) pending (λ o h. (all_at is_pending pending o r.held_back h).2)

    -- an accepted bio is held back, where there is room
    pub reached_pend : (operation : Op) (extent : Extent) → slice_get section op ≡ Some operation → is_act script (op, operation) ≡ true → IsAcceptedBio script operation
        → bio_of operation ≡ Some extent → refusal_of script extent ≡ None → length pending < MAX_PLUGGED → HoldsNone plugged pending
        → Reached start now section (op + 1) plugged (pending ++ op ∷ []) answers
    reached_pend operation extent is act bio is_bio unrefused room empty =
        let more = one_more op operation is in
        let none = no_eviction thread answers op operation (λ key e. absurd (subst (IsAcceptedBio script) e bio)) in
        let same : evictions_at (op + 1) answers ≡ evictions_at op answers =
        ap (filter_map (eviction_of thread answers)) more ∙ filter_map-append (eviction_of thread answers) (enumerate_from 0 (take op section)) ((op, operation) ∷ [])
        ∙ ap (λ o. evictions_at op answers ++ cons_option o []) none ∙ append-nil (evictions_at op answers) in
        let le = r.next_below in
        record {
          acts = r.acts;
          next = r.next;
          made = r.made;
          same = r.same;
          spare = r.spare;
          alone = r.alone;
          acted = subst (now_acted r.acts r.next now.seen now.noted r.made) (sym same) r.acted;
          next_below = omega arith;
          held_back =
              all_append (λ o. (r.next ≤ o) × (o < op + 1) × MayBePlugged script section o) pending (op ∷ []) held_more
              ((omega arith, omega arith, subst (λ (p : Option Op). IsSomeAnd p (IsAcceptedBio script)) (sym is) bio), tt);
          ascend = pairs_append (λ first second. first < second) pending (op ∷ []) r.ascend (tt, tt)
              (λ x y a b. let lt = (all_at is_pending pending x r.held_back a).1 in ⊎_elim (λ (e : op ≡ y). omega arith) (λ (no' : ⊥). absurd no') b);
          complete =
              ap (λ l. r.acts ++ l) (numbered_push section pending op operation is) ∙ sym (append_assoc r.acts (numbered section pending) ((op, operation) ∷ []))
              ∙ ap (λ l. l ++ (op, operation) ∷ []) r.complete
              ∙ ap (λ (b : Bool). filter (is_act script) (enumerate_from 0 (take op section)) ++ cond b ((op, operation) ∷ []) []) (sym act)
              ∙ sym (filter-append (is_act script) (enumerate_from 0 (take op section)) ((op, operation) ∷ []))
              ∙ sym (ap (filter (is_act script)) more);
          eviction_answers = subst (AllByRecursion (λ (e : Eviction). IsEvictionAnswer script e.key e.answer)) (sym same) r.eviction_answers;
          long = r.long;
          used = λ al. used_more start section now op r.next plugged pending r.made (r.used al) (op + 1) plugged (pending ++ op ∷ [])
              (left_held start section op operation is extent is_bio unrefused plugged pending held_are room empty (numbered_push section pending op operation is));
          settled = λ o lt. ⊎_elim
              (λ (below : o < op). ⊎_elim (λ (h : is_held o pending). inl (in_is o (pending ++ op ∷ []) (in_append_left pending (op ∷ []) o (is_in o pending h)))) (λ (s : Settled now section answers o). inr s) (r.settled o below))
              (λ (ge : op ≤ o). inl (in_is o (pending ++ op ∷ []) (in_append_right pending (op ∷ []) o (inl (omega arith)))))
              (cases_lt o op);
        }

    -- what is held back is submitted
    pub reached_flush : (new : DeviceData) (answers' : List (Option Answer))
        → WindowEnds script thread plugged (op_bios (numbered section pending)) (steps_from script section op)
        → Submitted now new (numbered section pending)
        → length answers' ≡ length answers
        → AllByRecursion (Settled new section answers') pending
        → ((o : ℕ) → list_any (λ held. held == o) pending ≡ false → slice_get answers' o ≡ slice_get answers o)
        → Reached start new section op plugged [] answers'
    reached_flush new answers' ends submitted long' told others =
        let s = subst (λ (d : DeviceData). Submitted d new (numbered section pending)) r.same submitted in
        let same = keeps_evictions op answers answers'
        (λ o key lt is. others o (not_in_is o pending
        (λ h. let p = all_at is_pending pending o r.held_back h in absurd (subst (λ (q : Option Op). IsSomeAnd q (IsAcceptedBio script)) is p.2)))) in
        let mine = s.spare in
        let before = r.spare in
        let numbers = numbered_all section (λ o. (r.next ≤ o) × (o < op)) pending (all_from_in (λ o. (r.next ≤ o) × (o < op)) pending
        (λ o h. let p = all_at is_pending pending o r.held_back h in (p.0, p.1))) in
        record {
          acts = r.acts ++ numbered section pending;
          next = op;
          made = r.made ++ s.made;
          same = s.same;
          spare = omega (arith, sum_by-append (λ (x : ℕ × Op). cost x.1) r.acts (numbered section pending));
          alone = λ al. goes_append shards thread opening now.seen new.seen r.made s.made (r.alone al) (s.alone al);
          acted =
              subst (now_acted (r.acts ++ numbered section pending) op new.seen new.noted (r.made ++ s.made)) (sym same)
              (acted_window stays later_holds behind_evictions script shards base thread opening r.acts (numbered section pending) r.next op now.seen new.seen now.noted new.noted r.made s.made (evictions_at op answers) s.events r.next_below
              numbers
              s.grows s.attempts s.ways s.notes s.bounds s.held r.acted);
          next_below = omega arith;
          held_back = tt;
          ascend = tt;
          complete = append-nil (r.acts ++ numbered section pending) ∙ r.complete;
          eviction_answers = subst (AllByRecursion (λ (e : Eviction). IsEvictionAnswer script e.key e.answer)) (sym same) r.eviction_answers;
          long = long' ∙ r.long;
          used = λ al. used_window start section now op r.next plugged pending r.made (r.used al) new s.made r.next_below ends numbers s.attempts (s.uses al);
          settled = λ o lt. inr (⊎_elim
              (λ (h : In o pending). all_at (Settled new section answers') pending o told h)
              (λ (n : In o pending → ⊥). ⊎_elim (λ (h : is_held o pending). absurd (n (is_in o pending h)))
              (λ (p : Settled now section answers o). settled_more now new answers answers' o r.same s.same s.grows.fronts (others o (not_in_is o pending n)) p) (r.settled o lt))
              (in_or_not o pending));
        }

    acts_fit : (n : ℕ) (xs : List Op) → cost_in (filter (is_act script) (enumerate_from n xs)) ≤ cost_of_section xs
    acts_fit n [] = omega arith
    acts_fit n (x ∷ xs) =
        let rest = acts_fit (n + 1) xs in
        let sum = sum_by-cons cost x xs in
        (elim (is_act script (n, x)) as (λ (b : Bool). cost_in (cond b ((n, x) ∷ filter (is_act script) (enumerate_from (n + 1) xs)) (filter (is_act script) (enumerate_from (n + 1) xs))) ≤ cost_of_section (x ∷ xs)) [
          | true ↦ omega (arith, sum_by-cons (λ (y : ℕ × Op). cost y.1) (n, x) (filter (is_act script) (enumerate_from (n + 1) xs)))
          | false ↦ omega arith
        ])

    -- one answer more
    settled_set : (operation : Op) (answer : Answer) (new : DeviceData) (answers0 : List (Option Answer)) → SeesMore start new → slice_get section op ≡ Some operation → op < length answers → ((shard : ℕ) → StartsWith (list_at new.seen shard) (list_at now.seen shard))
        → IsReply script shards base thread new.seen (op, operation) answer → IsAnswer answer
        → (o : ℕ) → o < op + 1 → is_held o pending ⊎ Settled new section (slice_set answers op (Some answer)) o
    settled_set operation answer new answers0 same' is within fronts replied range o lt =
        ⊎_elim
        (λ (below : o < op). ⊎_elim (λ (h : is_held o pending). inl h)
        (λ (s : Settled now section answers o). inr (settled_more now new answers (slice_set answers op (Some answer)) o r.same same' fronts (get_set_other answers op o (Some answer) (λ e. omega arith)) s)) (r.settled o below))
        (λ (ge : op ≤ o).
        let e : op ≡ o = omega arith in
        inr (subst (λ k. Settled new section (slice_set answers op (Some answer)) k) e
        (record { operation = operation; answer = answer; asked = is; told = get_set_same answers op (Some answer) within; replied = reply_to new (op, operation) answer same' replied; range = range })))
        (cases_lt o op)

    keeps_set : (answer : Answer) → evictions_at op (slice_set answers op (Some answer)) ≡ evictions_at op answers
    keeps_set answer = keeps_evictions op answers (slice_set answers op (Some answer)) (λ o key lt is. get_set_other answers op o (Some answer) (λ e. omega arith))

    -- an operation that isn't acted on is answered by itself
    pub reached_quiet : (operation : Op) (answer : Answer) (plugged' : Bool) → slice_get section op ≡ Some operation → op < length section
        → is_act script (op, operation) ≡ false → IsReply script shards base thread now.seen (op, operation) answer → IsAnswer answer
        → ((device : ℕ) → left start section device op plugged pending ≡ left start section device (op + 1) plugged' pending)
        → Reached start now section (op + 1) plugged' pending (slice_set answers op (Some answer))
    reached_quiet operation answer plugged' is within act replied range same_left =
        let more = one_more op operation is in
        let none = no_eviction thread (slice_set answers op (Some answer)) op operation (λ key e. true≢false (sym (ap (λ o. is_act script (op, o)) e) ∙ act)) in
        let same : evictions_at (op + 1) (slice_set answers op (Some answer)) ≡ evictions_at op answers =
        ap (filter_map (eviction_of thread (slice_set answers op (Some answer)))) more ∙ filter_map-append (eviction_of thread (slice_set answers op (Some answer))) (enumerate_from 0 (take op section)) ((op, operation) ∷ [])
        ∙ ap (λ o. evictions_at op (slice_set answers op (Some answer)) ++ cons_option o []) none ∙ append-nil (evictions_at op (slice_set answers op (Some answer))) ∙ keeps_set answer in
        let le = r.next_below in
        record {
          acts = r.acts;
          next = r.next;
          made = r.made;
          same = r.same;
          spare = r.spare;
          alone = r.alone;
          acted = subst (now_acted r.acts r.next now.seen now.noted r.made) (sym same) r.acted;
          next_below = omega arith;
          held_back = held_more;
          ascend = r.ascend;
          complete =
              r.complete ∙ sym (append-nil (filter (is_act script) (enumerate_from 0 (take op section))))
              ∙ ap (λ (b : Bool). filter (is_act script) (enumerate_from 0 (take op section)) ++ cond b ((op, operation) ∷ []) []) (sym act)
              ∙ sym (filter-append (is_act script) (enumerate_from 0 (take op section)) ((op, operation) ∷ []))
              ∙ sym (ap (filter (is_act script)) more);
          eviction_answers = subst (AllByRecursion (λ (e : Eviction). IsEvictionAnswer script e.key e.answer)) (sym same) r.eviction_answers;
          long = length_set answers op (Some answer) ∙ r.long;
          used = λ al. used_more start section now op r.next plugged pending r.made (r.used al) (op + 1) plugged' pending same_left;
          settled = settled_set operation answer now answers r.same is (omega (arith, r.long)) (λ s. begins_itself (list_at now.seen s)) replied range;
        }

  -- ---- an eviction or a reset, with nothing held back

  acts_more : (op : ℕ) (operation : Op) (acts : List (ℕ × Op)) → slice_get section op ≡ Some operation → is_act script (op, operation) ≡ true → acts ++ [] ≡ filter (is_act script) (enumerate_from 0 (take op section))
      → (acts ++ (op, operation) ∷ []) ++ [] ≡ filter (is_act script) (enumerate_from 0 (take (op + 1) section))
  acts_more op operation acts is act complete =
      append-nil (acts ++ (op, operation) ∷ [])
      ∙ ap (λ l. l ++ (op, operation) ∷ []) (sym (append-nil acts) ∙ complete)
      ∙ ap (λ (b : Bool). filter (is_act script) (enumerate_from 0 (take op section)) ++ cond b ((op, operation) ∷ []) []) (sym act)
      ∙ sym (filter-append (is_act script) (enumerate_from 0 (take op section)) ((op, operation) ∷ []))
      ∙ sym (ap (filter (is_act script)) (one_more op operation is))

  cost_more : (acts : List (ℕ × Op)) (x : ℕ × Op) → cost_in (acts ++ x ∷ []) ≡ cost_in acts + cost x.1
  cost_more acts x = let one = sum_by-cons (λ (y : ℕ × Op). cost y.1) x [] in omega (arith, one, sum_by-append (λ (y : ℕ × Op). cost y.1) acts (x ∷ []))

  module _ (now new : DeviceData) (op : ℕ) (plugged : Bool) (answers : List (Option Answer)) (r : Reached start now section op plugged [] answers) where
    pub reached_evict : (key : KeyNo) (answer : Answer) → slice_get section op ≡ Some (ops.Evict key) → op < length section → IsAnswer answer → Evicted now new op key answer
        → Reached start new section (op + 1) plugged [] (slice_set answers op (Some answer))
    reached_evict key answer is within range evicted =
        let s = subst (λ (d : DeviceData). Evicted d new op key answer) r.same evicted in
        let v : Eviction = record { thread = thread; op = op; key = key.0; answer = answer } in
        let here : op < length answers = omega (arith, r.long) in
        let same : evictions_at (op + 1) (slice_set answers op (Some answer)) ≡ evictions_at op answers ++ v ∷ [] =
        ap (filter_map (eviction_of thread (slice_set answers op (Some answer)))) (one_more op (ops.Evict key) is)
        ∙ filter_map-append (eviction_of thread (slice_set answers op (Some answer))) (enumerate_from 0 (take op section)) ((op, ops.Evict key) ∷ [])
        ∙ ap (λ (o : Option (Option Answer)). evictions_at op (slice_set answers op (Some answer)) ++ cons_option (eviction_by thread op key.0 o) []) (get_set_same answers op (Some answer) here)
        ∙ ap (λ l. l ++ v ∷ []) (keeps_set now op plugged [] answers r answer) in
        let mine = s.spare in
        let before = r.spare in
        let more = cost_more r.acts (op, ops.Evict key) in
        record {
          acts = r.acts ++ (op, ops.Evict key) ∷ [];
          next = op + 1;
          made = r.made;
          same = s.same;
          spare = omega arith;
          alone = λ al. subst (GoOnBy shards opening new.seen) (append-nil r.made) (goes_append shards thread opening now.seen new.seen r.made [] (r.alone al) (s.alone al));
          acted =
              subst (now_acted (r.acts ++ (op, ops.Evict key) ∷ []) (op + 1) new.seen new.noted r.made) (sym same)
              (acted_evict stays later_holds behind_evictions script shards base thread opening r.acts (op, ops.Evict key) v op now.seen new.seen now.noted new.noted r.made (evictions_at op answers) s.events refl refl refl s.grows s.notes s.bounds s.gone
              (acted_later stays later_holds behind_evictions script shards base thread opening r.acts r.next op now.seen now.noted r.made (evictions_at op answers) r.next_below r.acted));
          next_below = omega arith;
          held_back = tt;
          ascend = tt;
          complete = acts_more op (ops.Evict key) r.acts is refl r.complete;
          eviction_answers = subst (AllByRecursion (λ (e : Eviction). IsEvictionAnswer script e.key e.answer)) (sym same)
              (all_append (λ (e : Eviction). IsEvictionAnswer script e.key e.answer) (evictions_at op answers) (v ∷ []) r.eviction_answers (s.valid, tt));
          long = length_set answers op (Some answer) ∙ r.long;
          used = λ al. used_turn start section now new op r.next plugged r.made (turns.Evict key) (let le = r.next_below in omega arith)
              (λ device. units_of_evict script device thread (λ name. name.op < op + 1) key)
              (λ device. left_before start section op (ops.Evict key) is (turns.Evicts key) device plugged [] refl ∙ next_evict script thread device plugged key (steps_from script section (op + 1)))
              (s.uses al) (r.used al);
          settled = settled_set now op plugged [] answers r (ops.Evict key) answer new answers s.same is here s.grows.fronts tt range;
        }

    pub reached_reset : (device : ℕ) → slice_get section op ≡ Some (ops.Reset device) → op < length section → HasReset now new op device
        → Reached start new section (op + 1) plugged [] (slice_set answers op (Some report_answers.Reset))
    reached_reset device is within was_reset =
        let s = subst (λ (d : DeviceData). HasReset d new op device) r.same was_reset in
        let here : op < length answers = omega (arith, r.long) in
        let same : evictions_at (op + 1) (slice_set answers op (Some report_answers.Reset)) ≡ evictions_at op answers =
        ap (filter_map (eviction_of thread (slice_set answers op (Some report_answers.Reset)))) (one_more op (ops.Reset device) is)
        ∙ filter_map-append (eviction_of thread (slice_set answers op (Some report_answers.Reset))) (enumerate_from 0 (take op section)) ((op, ops.Reset device) ∷ [])
        ∙ append-nil (evictions_at op (slice_set answers op (Some report_answers.Reset))) ∙ keeps_set now op plugged [] answers r report_answers.Reset in
        let mine = s.spare in
        let before = r.spare in
        let more = cost_more r.acts (op, ops.Reset device) in
        record {
          acts = r.acts ++ (op, ops.Reset device) ∷ [];
          next = op + 1;
          made = r.made;
          same = s.same;
          spare = omega arith;
          alone = λ al. subst (GoOnBy shards opening new.seen) (append-nil r.made) (goes_append shards thread opening now.seen new.seen r.made [] (r.alone al) (s.alone al));
          acted =
              subst (now_acted (r.acts ++ (op, ops.Reset device) ∷ []) (op + 1) new.seen new.noted r.made) (sym same)
              (acted_reset stays later_holds behind_evictions script shards base thread opening r.acts (op, ops.Reset device) op now.seen new.seen now.noted new.noted r.made (evictions_at op answers) s.events refl refl s.grows s.notes s.bounds
              (acted_later stays later_holds behind_evictions script shards base thread opening r.acts r.next op now.seen now.noted r.made (evictions_at op answers) r.next_below r.acted));
          next_below = omega arith;
          held_back = tt;
          ascend = tt;
          complete = acts_more op (ops.Reset device) r.acts is refl r.complete;
          eviction_answers = subst (AllByRecursion (λ (e : Eviction). IsEvictionAnswer script e.key e.answer)) (sym same) r.eviction_answers;
          long = length_set answers op (Some report_answers.Reset) ∙ r.long;
          used = λ al. used_turn start section now new op r.next plugged r.made (turns.Reset device) (let le = r.next_below in omega arith)
              (λ at. units_of_reset script at thread (λ name. name.op < op + 1) device)
              (λ at. left_before start section op (ops.Reset device) is (turns.Resets device) at plugged [] refl ∙ next_reset script thread at plugged device (steps_from script section (op + 1)))
              (s.uses al) (r.used al);
          settled = settled_set now op plugged [] answers r (ops.Reset device) report_answers.Reset new answers s.same is here s.grows.fronts refl tt;
        }

  -- ---- the end

  replies_of : (rest : List Op) (told : List (Option Answer)) (seen : List (List Entry)) (first : ℕ) → length told ≡ length rest
      → ((i : ℕ) → i < length rest → (operation : Op) × (answer : Answer) × (slice_get rest i ≡ Some operation) × (slice_get told i ≡ Some (Some answer)) × IsReply script shards base thread seen (first + i, operation) answer × IsAnswer answer)
      → (replies : List Answer) × (told ≡ map (λ a. Some a) replies) × AllZip (IsReply script shards base thread seen) (enumerate_from first rest) replies × AllByRecursion IsAnswer replies
  replies_of [] [] seen first long each = ([], refl, tt, tt)
  replies_of [] (t ∷ ts) seen first long each = absurd (omega arith)
  replies_of (x ∷ xs) [] seen first long each = absurd (omega arith)
  replies_of (x ∷ xs) (t ∷ ts) seen first long each =
      let h = each 0 (omega arith) in
      let n : first + 0 ≡ first = omega arith in
      let rest = replies_of xs ts seen (first + 1) (omega arith)
      (λ i lt. let e = each (suc i) (omega arith) in let m : first + suc i ≡ first + 1 + i = omega arith in (e.0, e.1, e.2, e.3, subst (λ k. IsReply script shards base thread seen (k, e.0) e.1) m e.4, e.5)) in (
        h.1 ∷ rest.0,
        ap (λ y. y ∷ ts) (same_Some t (Some h.1) h.3) ∙ ap (λ l. Some h.1 ∷ l) rest.1,
        (subst (λ o. IsReply script shards base thread seen (first, o) h.1) (sym (same_Some x h.0 h.2)) (subst (λ k. IsReply script shards base thread seen (k, h.0) h.1) n h.4), rest.2),
        (h.5, rest.3),
      )

  evictions_are : (rest : List Op) (replies all : List Answer) (first : ℕ) → length replies ≡ length rest → ((i : ℕ) (a : Answer) → slice_get replies i ≡ Some a → slice_get all (first + i) ≡ Some a)
      → filter_map (eviction_of thread (map (λ a. Some a) all)) (enumerate_from first rest) ≡ filter_map (eviction_in thread) (enumerate_from first (zip rest replies))
  evictions_are [] replies all first long are = refl
  evictions_are (x ∷ xs) [] all first long are = absurd (omega arith)
  evictions_are (x ∷ xs) (a ∷ as') all first long are =
      let n : first + 0 ≡ first = omega arith in
      let here : slice_get (map (λ y. Some y) all) first ≡ Some (Some a) = get_map all first a (subst (λ k. slice_get all k ≡ Some a) n (are 0 a refl)) in
      ap (λ o. cons_option o (filter_map (eviction_of thread (map (λ y. Some y) all)) (enumerate_from (first + 1) xs))) (one x here)
      ∙ ap (cons_option (eviction_in thread (first, (x, a)))) (evictions_are xs as' all (first + 1) (omega arith) (λ i b e. let m : first + suc i ≡ first + 1 + i = omega arith in subst (λ k. slice_get all k ≡ Some b) m (are (suc i) b e)))
    where
      get_map : (ys : List Answer) (i : ℕ) (y : Answer) → slice_get ys i ≡ Some y → slice_get (map (λ z. Some z) ys) i ≡ Some (Some y)
      get_map [] i y e = absurd (none-some y e)
      get_map (z ∷ zs) zero y e = ap (λ w. Some (Some w)) (same_Some z y e)
      get_map (z ∷ zs) (suc i) y e = get_map zs i y e

      one : (x : Op) → slice_get (map (λ y. Some y) all) first ≡ Some (Some a) → eviction_of thread (map (λ y. Some y) all) (first, x) ≡ eviction_in thread (first, (x, a))
      one (ops.Evict key) h = ap (eviction_by thread first key.0) h
      one (ops.Write c s n x') h = refl
      one (ops.Read c s n) h = refl
      one (ops.Reset d) h = refl
      one ops.Plug h = refl
      one ops.Unplug h = refl

  pub reached_all : (now : DeviceData) (plugged : Bool) (answers : List (Option Answer)) → ((shard : ℕ) → own caller_of thread (list_at opening shard) ≡ [])
      → Reached start now section (length section) plugged [] answers
      → (replies : List Answer) × (answers ≡ map (λ a. Some a) replies) × CarriesSection start now section replies
  reached_all now plugged answers empty r =
      let told = replies_of section answers now.seen 0 r.long
      (λ i lt. ⊎_elim (λ (h : is_held i []). absurd (true≢false (sym h)))
      (λ (s : Settled now section answers i).
      let n : i ≡ 0 + i = omega arith in
      (s.operation, s.answer, s.asked, s.told, subst (λ k. IsReply script shards base thread now.seen (k, s.operation) s.answer) n (reply_from now (i, s.operation) s.answer r.same s.replied), s.range)) (r.settled i lt)) in
      let replies = told.0 in
      let whole : take (length section) section ≡ section = take_all (length section) section (omega arith) in
      let long : length replies ≡ length section = sym (length-map replies (λ a. Some a)) ∙ sym (ap length told.1) ∙ r.long in
      let evictions : evictions_at (length section) answers ≡ evictions_in (thread, (section, replies)) =
      ap (λ l. filter_map (eviction_of thread answers) (enumerate_from 0 l)) whole
      ∙ ap (λ l. filter_map (eviction_of thread l) (enumerate_from 0 section)) told.1
      ∙ evictions_are section replies replies 0 long (λ i a e. let n : i ≡ 0 + i = omega arith in subst (λ k. slice_get replies k ≡ Some a) n e) in
      let acts : r.acts ≡ filter (is_act script) (enumerate_from 0 section) = sym (append-nil r.acts) ∙ r.complete ∙ ap (λ l. filter (is_act script) (enumerate_from 0 l)) whole in
      let done = acted_done stays later_holds behind_evictions script shards base thread opening section replies r.next now.seen now.noted r.made empty
      (subst (λ l. now_acted l r.next now.seen now.noted r.made (evictions_in (thread, (section, replies)))) acts
      (subst (now_acted r.acts r.next now.seen now.noted r.made) evictions r.acted))
      told.2
      (subst (AllByRecursion (λ (e : Eviction). IsEvictionAnswer script e.key e.answer)) evictions r.eviction_answers) in
      let before = r.spare in
      let most = acts_fit now (length section) plugged [] answers r 0 section in (
        replies,
        told.1,
        record {
          made = r.made;
          same = r.same;
          spare = omega (arith, ap cost_in acts);
          alone = r.alone;
          fronts = r.acted.grows.fronts;
          done = done;
          uses = λ al. used_all start section now (length section) r.next plugged [] r.made (r.used al) refl refl;
          ranges = told.3;
        },
      )
