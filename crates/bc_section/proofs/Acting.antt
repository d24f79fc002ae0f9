-- One act more, and from the last act to what is known of the section.
use Rattle.std.proofs.Common.{◌≡◌, ℕ, ◌+◌, ◌<◌, ◌≤◌, Bool, true, false, cond, List, [], ◌∷◌, ◌++◌, map, append-nil, refl, sym, ap, subst, ◌∙◌, arith, Option, Some, None}
use Rattle.std.specs.Prelude.{◌==◌, ◌&&◌, ◌||◌, nat_lt, filter, filter_map, flat_map, count_by, IsTrue, option_and_then}
use Rattle.std.specs.List.{AllByRecursion, AllZip, enumerate_from, range_with_len, list_any}
use Rattle.std.proofs.lemmas.Bool.{true≢false, ne_eqb}
use Rattle.std.proofs.lemmas.Grind.{flat_map-append}
use Rattle.std.proofs.lemmas.List.Sums.{sum_by-cons, sum_by-append}
use Rattle.std.proofs.lemmas.Option.{none-some, same_Some}
use Rattle.bc_base.specs.Lists.{list_at}
use Rattle.bc_base.specs.Story.{own}
use Rattle.bc_bio.specs.PlannedUnit.{PlannedUnit}
use Rattle.bc_bio.specs.declared.context.Context.{Context}
use Rattle.bc_bio.specs.declared.access.Access.TheVariants.{Read, Write}
use Rattle.bc_medium.specs.declared.entry.Entry.{Entry}
use Rattle.bc_medium.specs.declared.unit_name.UnitName.{UnitName}
use Rattle.bc_medium.specs.declared.via.Via.{Via}
use Rattle.bc_medium.specs.declared.via.Via.TheVariants as vias
use Rattle.bc_medium.specs.KeyedDisk.{Sectors}
use Rattle.bc_medium.specs.Entries.{caller_of, name_of_entry}
use Rattle.bc_medium.specs.LawfulOrders.{unit_name_of, is_attempted, is_earlier}
use Rattle.bc_medium.specs.Growth.{lies_in, Grows, IsEntryOf, failed_names, attempted_by, Attempts}
use Rattle.bc_profile.specs.declared.event.Event.{Event}
use Rattle.bc_profile.specs.declared.noted.Noted.{Noted}
use Rattle.bc_profile.specs.Story.{author_of, event_in}
use Rattle.bc_profile.specs.Laws.{ProgrammingsStay, LaterHoldsNameLater, HoldsAfterEvictions}
use Rattle.bc_script.specs.declared.op.Op.{Op}
use Rattle.bc_script.specs.declared.op.Op.TheVariants as ops
use Rattle.bc_script.specs.Script.{Script, keys_of}
use Rattle.bc_script.specs.Plan.{unit_at, units_of, units_of_section}
use Rattle.bc_script.specs.Way.{way_of}
use Rattle.bc_report.specs.declared.answer.Answer.{Answer}
use Rattle.bc_report.specs.Holders.{is_unit_under, is_way_on}
use Rattle.bc_report.specs.Evictions.{Eviction, evictions_in, is_evict, is_busy, is_busy_with, names_busy, names_device, names_before, count_answered, IsEvictionAnswer}
use Rattle.bc_report.specs.Programmings.{InlineEntry, entry_by, passes, InOrder}
use Rattle.bc_report.specs.Counts.{is_reset_of, touches_under, touches_any, is_reset, is_programming_of, is_idle}
use Rattle.bc_compose.specs.SectionDone.{key_of_entry, inline_of, SaysItsWay, NamesOwn, own_events, Bounds, IsReply, SectionDone}
use Rattle.bc_compose.specs.OrderedHolds.{Pairs, Notes, GoesInline, Rises, HasHold, IsTakenOut, Held}
use Rattle.bc_compose.specs.ThreadWork.{is_act, Acted}
use Rattle.bc_section.proofs.Lists.{in_of_filter_map}
use Rattle.bc_section.proofs.Carrying.{op_of_unit}
use Rattle.bc_section.proofs.Ordering.{submitted, evicted, goes_on, all_pairs}
use Rattle.bc_base.proofs.Members.{In, in_of_map, in_of_filter, beside, all_at, all_from_in, all_append}
use Rattle.bc_medium.proofs.Growing.{begins_itself, grows_none, grows_append, After, attempts_append, attempts_fresh, named}

-- ---- bounds add up

count_more : {X : Type 0} (p : X → Bool) (xs ys : List X) → count_by p (xs ++ ys) ≡ count_by p xs + count_by p ys
count_more p xs ys = sum_by-append (λ x. cond (p x) 1 0) xs ys

pub bounds_append : (script : Script) (a b : List (ℕ × Op)) (v w : List Eviction) (e f : ℕ → List Event) → Bounds script a v e → Bounds script b w f → Bounds script (a ++ b) (v ++ w) (λ d. e d ++ f d)
bounds_append script a b v w e f p q = record {
  evicts = λ d k.
      let l = count_more (λ event. is_evict k event || is_busy k event) (e d) (f d) in
      let r = count_more (λ (x : Eviction). x.key == k) v w in
      let x = p.evicts d k in let y = q.evicts d k in omega (arith, l, r, x, y);
  busy = λ d k s n.
      let l = count_more (is_busy_with k s n) (e d) (f d) in
      let r = count_more (λ (x : Eviction). (x.key == k) && names_busy d s n x.answer) v w in
      let x = p.busy d k s n in let y = q.busy d k s n in omega (arith, l, r, x, y);
  further = λ d k.
      let l = count_more (is_busy k) (e d) (f d) in
      let r = count_more (λ (x : Eviction). (x.key == k) && names_device d x.answer) v w in
      let s = count_more (λ (x : Eviction). (x.key == k) && names_before d x.answer) v w in
      let x = p.further d k in let y = q.further d k in omega (arith, l, r, s, x, y);
  resets = λ d.
      let l = count_more is_reset (e d) (f d) in
      let r = count_more (is_reset_of d) a b in
      let x = p.resets d in let y = q.resets d in omega (arith, l, r, x, y);
  programmings = λ d k.
      let l = count_more (is_programming_of k) (e d) (f d) in
      let r = count_more (touches_under script d k) a b in
      let x = p.programmings d k in let y = q.programmings d k in omega (arith, l, r, x, y);
  idles = λ d.
      let l = count_more is_idle (e d) (f d) in
      let r = count_more (touches_any script d) a b in
      let x = p.idles d in let y = q.idles d in omega (arith, l, r, x, y);
}

pub bounds_same : (script : Script) (a : List (ℕ × Op)) (v : List Eviction) (e f : ℕ → List Event) → ((d : ℕ) → f d ≡ e d) → Bounds script a v e → Bounds script a v f
bounds_same script a v e f same p = record {
  evicts = λ d k. subst (λ l. count_by (λ event. is_evict k event || is_busy k event) l ≤ count_by (λ x. x.key == k) v) (sym (same d)) (p.evicts d k);
  busy = λ d k s n. subst (λ l. count_answered v k (names_busy d s n) ≤ count_by (is_busy_with k s n) l) (sym (same d)) (p.busy d k s n);
  further = λ d k. subst (λ l. count_by (is_busy k) l ≤ count_answered v k (names_device d) + count_answered v k (names_before d)) (sym (same d)) (p.further d k);
  resets = λ d. ap (count_by is_reset) (same d) ∙ p.resets d;
  programmings = λ d k. subst (λ l. count_by (is_programming_of k) l ≤ count_by (touches_under script d k) a) (sym (same d)) (p.programmings d k);
  idles = λ d. subst (λ l. count_by is_idle l ≤ count_by (touches_any script d) a) (sym (same d)) (p.idles d);
}

-- ---- units of operations that come later

units_within : (script : Script) (P : ℕ → Type 0) (acts : List (ℕ × Op)) → AllByRecursion (λ (act : ℕ × Op). P act.0) acts → AllByRecursion (λ (u : PlannedUnit). P u.tag) (flat_map (units_of script) acts)
units_within script P [] all = tt
units_within script P (act ∷ acts) all =
    all_append (λ (u : PlannedUnit). P u.tag) (units_of script act) (flat_map (units_of script) acts)
    (all_from_in (λ (u : PlannedUnit). P u.tag) (units_of script act) (λ u at'. subst P (sym (op_of_unit script act u at')) all.0))
    (units_within script P acts all.1)

other_op : (caller : ℕ) (f u : UnitName) → (f.op ≡ u.op → ⊥) → is_earlier f u ≡ false
other_op caller f u ne = first (f.thread == u.thread) (f.op == u.op) (nat_lt f.unit u.unit) (ne_eqb f.op u.op ne)
  where
    first : (a b c : Bool) → b ≡ false → ((a && b) && c) ≡ false
    first true b c e = ap (λ (t : Bool). t && c) e
    first false b c e = refl

module _ (stays : ProgrammingsStay) (later_holds : LaterHoldsNameLater) (behind_evictions : HoldsAfterEvictions) (script : Script) (shards : ℕ) (base : ℕ → Sectors) (thread : ℕ) (opening : List (List Entry)) where
  abbrev Now : List (ℕ × Op) → ℕ → List (List Entry) → List (List Noted) → List Entry → List Eviction → Type 0
  Now acts next seen noted made evictions = Acted script shards thread opening acts next seen noted made evictions

  -- a window is submitted: accepted bios from `next` on
  pub acted_submit : (acts window : List (ℕ × Op)) (next later : ℕ) (seen seen' : List (List Entry)) (noted noted' : List (List Noted)) (made es : List Entry) (evictions : List Eviction) (events : ℕ → List Event) → next ≤ later
      → AllByRecursion (λ (act : ℕ × Op). (next ≤ act.0) × (act.0 < later)) window
      → Grows shards thread seen seen' es
      → Attempts thread [] (flat_map (units_of script) window) es
      → AllByRecursion (SaysItsWay script) es
      → Notes thread noted noted' events
      → Bounds script window [] events
      → AllByRecursion (λ e. NamesOwn noted' (key_of_entry e) e.via) es
      → AllByRecursion (λ (i : InlineEntry). (next ≤ i.op) × (i.op < later) × HasHold script noted noted' i) (filter_map inline_of es)
      → Pairs Rises (filter_map inline_of es)
      → Now acts next seen noted made evictions → Now (acts ++ window) later seen' noted' (made ++ es) evictions
  acted_submit acts window next later seen seen' noted noted' made es evictions events le within grows attempts ways notes bounds names holds rises now =
      let early = units_within script (λ op. op < next) acts now.before in
      let late = units_within script (λ op. (next ≤ op) × (op < later)) window within in
      let after : After thread (flat_map (units_of script) acts) (flat_map (units_of script) window) =
      λ u v a b.
      let lt = all_at (λ (x : PlannedUnit). x.tag < next) (flat_map (units_of script) acts) u early a in
      let ge = (all_at (λ (x : PlannedUnit). (next ≤ x.tag) × (x.tag < later)) (flat_map (units_of script) window) v late b).0 in
      other_op thread (unit_name_of thread v) (unit_name_of thread u) (λ e. omega arith) in
      let old_op : (f : UnitName) → In f (failed_names made) → f.op < next =
      λ f a.
      let r = in_of_map name_of_entry (filter (λ x. x.failed) made) f a in
      let b = in_of_filter (λ x. x.failed) made r.0 r.1 in
      let w = beside (IsEntryOf thread) (attempted_by thread ([] ++ failed_names made) (flat_map (units_of script) acts)) made r.0 now.attempts b.0 in
      let lt = all_at (λ (x : PlannedUnit). x.tag < next) (flat_map (units_of script) acts) w.0 early (in_of_filter (λ u. is_attempted ([] ++ failed_names made) (unit_name_of thread u)) (flat_map (units_of script) acts) w.0 w.1).0 in
      subst (λ (n : UnitName). n.op < next) (sym (named thread w.0 r.0 w.2) ∙ r.2) lt in
      let fresh = attempts_fresh thread (failed_names made) (flat_map (units_of script) window) es
      (λ f u a b.
      let lt = old_op f a in
      let ge = (all_at (λ (x : PlannedUnit). (next ≤ x.tag) × (x.tag < later)) (flat_map (units_of script) window) u late b).0 in
      other_op thread f (unit_name_of thread u) (λ e. omega arith)) attempts in
      record {
        before =
            all_append (λ (act : ℕ × Op). act.0 < later) acts window
            (all_from_in (λ (act : ℕ × Op). act.0 < later) acts (λ act a. let lt = all_at (λ (x : ℕ × Op). x.0 < next) acts act now.before a in omega arith))
            (all_from_in (λ (act : ℕ × Op). act.0 < later) window (λ act a. (all_at (λ (x : ℕ × Op). (next ≤ x.0) × (x.0 < later)) window act within a).1));
        grows = grows_append shards thread opening seen seen' made es now.grows grows;
        attempts =
            subst (λ us. Attempts thread [] us (made ++ es)) (sym (flat_map-append (units_of script) acts window))
            (attempts_append thread [] (flat_map (units_of script) acts) (flat_map (units_of script) window) made es after now.attempts fresh);
        ways = all_append (SaysItsWay script) made es now.ways ways;
        ordered = submitted stays later_holds behind_evictions script thread next later made es evictions noted noted' le notes.fronts names holds rises now.ordered;
        bounds =
            bounds_same script (acts ++ window) evictions (λ d. own_events thread noted d ++ events d) (own_events thread noted') notes.adds
            (subst (λ vs. Bounds script (acts ++ window) vs (λ d. own_events thread noted d ++ events d)) (append-nil evictions)
            (bounds_append script acts window evictions [] (own_events thread noted) events now.bounds bounds));
      }

  -- an eviction or a reset at operation `next`, which adds no entry
  pub acted_evict : (acts : List (ℕ × Op)) (act : ℕ × Op) (v : Eviction) (next : ℕ) (seen seen' : List (List Entry)) (noted noted' : List (List Noted)) (made : List Entry) (evictions : List Eviction) (events : ℕ → List Event)
      → act.0 ≡ next → v.op ≡ next → units_of script act ≡ []
      → Grows shards thread seen seen' []
      → Notes thread noted noted' events
      → Bounds script (act ∷ []) (v ∷ []) events
      → ((d : ℕ) → IsTrue (passes d v.answer) → GoesInline script v.key → IsTakenOut script noted noted' d v.key)
      → Now acts next seen noted made evictions → Now (acts ++ act ∷ []) (next + 1) seen' noted' made (evictions ++ v ∷ [])
  acted_evict acts act v next seen seen' noted noted' made evictions events here here' no_units grows notes bounds gone now = record {
    before = next_before acts act next here now.before;
    grows = subst (Grows shards thread opening seen') (append-nil made) (grows_append shards thread opening seen seen' made [] now.grows grows);
    attempts = subst (λ us. Attempts thread [] us made) (sym (no_more acts act no_units)) now.attempts;
    ways = now.ways;
    ordered = evicted stays later_holds behind_evictions script thread next made evictions v noted noted' here' notes.fronts gone now.ordered;
    bounds =
        bounds_same script (acts ++ act ∷ []) (evictions ++ v ∷ []) (λ d. own_events thread noted d ++ events d) (own_events thread noted') notes.adds
        (bounds_append script acts (act ∷ []) evictions (v ∷ []) (own_events thread noted) events now.bounds bounds);
  }
    where
      next_before : (acts : List (ℕ × Op)) (act : ℕ × Op) (next : ℕ) → act.0 ≡ next → AllByRecursion (λ (x : ℕ × Op). x.0 < next) acts → AllByRecursion (λ (x : ℕ × Op). x.0 < next + 1) (acts ++ act ∷ [])
      next_before acts act next here before =
          all_append (λ (x : ℕ × Op). x.0 < next + 1) acts (act ∷ []) (all_from_in (λ (x : ℕ × Op). x.0 < next + 1) acts (λ x a. let lt = all_at (λ (y : ℕ × Op). y.0 < next) acts x before a in omega arith)) (omega arith, tt)

      no_more : (acts : List (ℕ × Op)) (act : ℕ × Op) → units_of script act ≡ [] → flat_map (units_of script) (acts ++ act ∷ []) ≡ flat_map (units_of script) acts
      no_more acts act none = flat_map-append (units_of script) acts (act ∷ []) ∙ ap (λ l. flat_map (units_of script) acts ++ (l ++ [])) none ∙ append-nil (flat_map (units_of script) acts)

  pub acted_reset : (acts : List (ℕ × Op)) (act : ℕ × Op) (next : ℕ) (seen seen' : List (List Entry)) (noted noted' : List (List Noted)) (made : List Entry) (evictions : List Eviction) (events : ℕ → List Event)
      → act.0 ≡ next → units_of script act ≡ []
      → Grows shards thread seen seen' []
      → Notes thread noted noted' events
      → Bounds script (act ∷ []) [] events
      → Now acts next seen noted made evictions → Now (acts ++ act ∷ []) (next + 1) seen' noted' made evictions
  acted_reset acts act next seen seen' noted noted' made evictions events here no_units grows notes bounds now = record {
    before = all_append (λ (x : ℕ × Op). x.0 < next + 1) acts (act ∷ []) (all_from_in (λ (x : ℕ × Op). x.0 < next + 1) acts (λ x a. let lt = all_at (λ (y : ℕ × Op). y.0 < next) acts x now.before a in omega arith)) (omega arith, tt);
    grows = subst (Grows shards thread opening seen') (append-nil made) (grows_append shards thread opening seen seen' made [] now.grows grows);
    attempts = subst (λ us. Attempts thread [] us made)
        (sym (flat_map-append (units_of script) acts (act ∷ []) ∙ ap (λ l. flat_map (units_of script) acts ++ (l ++ [])) no_units ∙ append-nil (flat_map (units_of script) acts))) now.attempts;
    ways = now.ways;
    ordered = goes_on stays later_holds behind_evictions script thread next (next + 1) made evictions noted noted' (omega arith) notes.fronts now.ordered;
    bounds =
        bounds_same script (acts ++ act ∷ []) evictions (λ d. own_events thread noted d ++ events d) (own_events thread noted') notes.adds
        (subst (λ vs. Bounds script (acts ++ act ∷ []) vs (λ d. own_events thread noted d ++ events d)) (append-nil evictions)
        (bounds_append script acts (act ∷ []) evictions [] (own_events thread noted) events now.bounds bounds));
  }

-- ---- at the end of the section

count_filter : {X : Type 0} (p q : X → Bool) (xs : List X) → ((x : X) → q x ≡ false → p x ≡ false) → count_by p (filter q xs) ≡ count_by p xs
count_filter p q [] out = refl
count_filter p q (x ∷ xs) out =
    (elim (q x) as (λ (b : Bool). q x ≡ b → count_by p (cond b (x ∷ filter q xs) (filter q xs)) ≡ count_by p (x ∷ xs)) [
      | true ↦ λ _. sum_by-cons (λ y. cond (p y) 1 0) x (filter q xs) ∙ ap (λ k. cond (p x) 1 0 + k) (count_filter p q xs out) ∙ sym (sum_by-cons (λ y. cond (p y) 1 0) x xs)
      | false ↦ λ is.
          let none : cond (p x) 1 0 ≡ 0 = ap (λ (b : Bool). one_or_none b) (out x is) in
          let rest = count_filter p q xs out in
          let sum = sum_by-cons (λ y. cond (p y) 1 0) x xs in
          omega (arith, none, rest, sum)
    ]) refl
  where
    one_or_none : Bool → ℕ
    one_or_none b = cond b 1 0

flat_filter : {X Y : Type 0} (f : X → List Y) (q : X → Bool) (xs : List X) → ((x : X) → q x ≡ false → f x ≡ []) → flat_map f (filter q xs) ≡ flat_map f xs
flat_filter f q [] out = refl
flat_filter f q (x ∷ xs) out =
    (elim (q x) as (λ (b : Bool). q x ≡ b → flat_map f (cond b (x ∷ filter q xs) (filter q xs)) ≡ f x ++ flat_map f xs) [
      | true ↦ λ _. ap (λ l. f x ++ l) (flat_filter f q xs out)
      | false ↦ λ is. flat_filter f q xs out ∙ ap (λ l. l ++ flat_map f xs) (sym (out x is))
    ]) refl

-- an operation that isn't acted on has no units
no_act : (script : Script) (x : ℕ × Op) → is_act script x ≡ false → units_of script x ≡ []
no_act script (op, ops.Write context sector units text) is =
    ap (λ (b : Bool). cond b (map (unit_at (keys_of script) op (ops.Write context sector units text) (record { access = Write; context = context; sector = sector; units = units })) (range_with_len 0 units)) []) is
no_act script (op, ops.Read context sector units) is =
    ap (λ (b : Bool). cond b (map (unit_at (keys_of script) op (ops.Read context sector units) (record { access = Read; context = context; sector = sector; units = units })) (range_with_len 0 units)) []) is
no_act script (op, ops.Evict key) is = absurd (true≢false is)
no_act script (op, ops.Reset device) is = absurd (true≢false is)
no_act script (op, ops.Plug) is = refl
no_act script (op, ops.Unplug) is = refl

no_reset : (script : Script) (d : ℕ) (x : ℕ × Op) → is_act script x ≡ false → is_reset_of d x ≡ false
no_reset script d (op, ops.Write context sector units text) is = refl
no_reset script d (op, ops.Read context sector units) is = refl
no_reset script d (op, ops.Evict key) is = refl
no_reset script d (op, ops.Reset device) is = absurd (true≢false is)
no_reset script d (op, ops.Plug) is = refl
no_reset script d (op, ops.Unplug) is = refl

module _ (stays : ProgrammingsStay) (later_holds : LaterHoldsNameLater) (behind_evictions : HoldsAfterEvictions) (script : Script) (shards : ℕ) (base : ℕ → Sectors) (thread : ℕ) (opening : List (List Entry)) where
  pub acted_done : (section : List Op) (replies : List Answer) (next : ℕ) (seen : List (List Entry)) (noted : List (List Noted)) (made : List Entry) → ((shard : ℕ) → own caller_of thread (list_at opening shard) ≡ [])
      → Acted script shards thread opening (filter (is_act script) (enumerate_from 0 section)) next seen noted made (evictions_in (thread, (section, replies)))
      → AllZip (IsReply script shards base thread seen) (enumerate_from 0 section) replies
      → AllByRecursion (λ e. IsEvictionAnswer script e.key e.answer) (evictions_in (thread, (section, replies)))
      → SectionDone script shards base thread section seen noted replies made
  acted_done section replies next seen noted made empty now replied eviction_answers =
      let all_units : flat_map (units_of script) (filter (is_act script) (enumerate_from 0 section)) ≡ units_of_section script section =
      flat_filter (units_of script) (is_act script) (enumerate_from 0 section) (no_act script) in
      record {
        attempts = subst (λ us. Attempts thread [] us made) all_units now.attempts;
        entries = λ shard within. now.grows.own_entries shard within ∙ ap (λ l. l ++ filter (lies_in shards shard) made) (empty shard);
        ways = now.ways;
        answers = replied;
        own_key = now.ordered.own_key;
        in_order = all_pairs (InOrder (evictions_in (thread, (section, replies))) thread) (filter_map inline_of made) now.ordered.pairs;
        eviction_answers = eviction_answers;
        bounds = record {
          evicts = now.bounds.evicts;
          busy = now.bounds.busy;
          further = now.bounds.further;
          resets = λ d. now.bounds.resets d ∙ count_filter (is_reset_of d) (is_act script) (enumerate_from 0 section) (no_reset script d);
          programmings = λ d k. subst (λ n. count_by (is_programming_of k) (own_events thread noted d) ≤ n)
              (count_filter (touches_under script d k) (is_act script) (enumerate_from 0 section) (λ x is. ap (list_any (is_unit_under script k d)) (no_act script x is))) (now.bounds.programmings d k);
          idles = λ d. subst (λ n. count_by is_idle (own_events thread noted d) ≤ n)
              (count_filter (touches_any script d) (is_act script) (enumerate_from 0 section) (λ x is. ap (list_any (λ u. is_way_on d (way_of script u.context u.sector))) (no_act script x is))) (now.bounds.idles d);
        };
      }

  -- a window, by what its submission tells of its holds
  pub acted_window : (acts window : List (ℕ × Op)) (next later : ℕ) (seen seen' : List (List Entry)) (noted noted' : List (List Noted)) (made es : List Entry) (evictions : List Eviction) (events : ℕ → List Event) → next ≤ later
      → AllByRecursion (λ (act : ℕ × Op). (next ≤ act.0) × (act.0 < later)) window
      → Grows shards thread seen seen' es
      → Attempts thread [] (flat_map (units_of script) window) es
      → AllByRecursion (SaysItsWay script) es
      → Notes thread noted noted' events
      → Bounds script window [] events
      → Held script noted noted' es
      → Acted script shards thread opening acts next seen noted made evictions
      → Acted script shards thread opening (acts ++ window) later seen' noted' (made ++ es) evictions
  acted_window acts window next later seen seen' noted noted' made es evictions events le within grows attempts ways notes bounds held now =
      let late = units_within script (λ op. (next ≤ op) × (op < later)) window within in
      acted_submit stays later_holds behind_evictions script shards base thread opening acts window next later seen seen' noted noted' made es evictions events le within grows attempts ways notes bounds held.own_key
      (all_from_in (λ (i : InlineEntry). (next ≤ i.op) × (i.op < later) × HasHold script noted noted' i) (filter_map inline_of es)
      (λ i a.
      let e = in_of_filter_map inline_of es i a in
      let w = beside (IsEntryOf thread) (attempted_by thread ([] ++ failed_names es) (flat_map (units_of script) window)) es e.0 attempts e.1 in
      let range = all_at (λ (x : PlannedUnit). (next ≤ x.tag) × (x.tag < later)) (flat_map (units_of script) window) w.0 late (in_of_filter (λ u. is_attempted ([] ++ failed_names es) (unit_name_of thread u)) (flat_map (units_of script) window) w.0 w.1).0 in
      let op : i.op ≡ w.0.tag = op_of e.0 i e.2 ∙ ap (λ x. x.tag) w.2.unit in
      let low = range.0 in
      let high = range.1 in
      (omega arith, omega arith, all_at (HasHold script noted noted') (filter_map inline_of es) i held.holds a)))
      held.rises now
    where
      op_of : (e : Entry) (i : InlineEntry) → inline_of e ≡ Some i → i.op ≡ e.at.tag
      op_of e i is = by_context e.at.context is
        where
          by_via : (c : Context) (via : Via) → entry_by e.at.tag c via ≡ Some i → i.op ≡ e.at.tag
          by_via c (vias.Inline d s ev) is' = sym (ap (λ (x : InlineEntry). x.op) (same_Some _ i is'))
          by_via c vias.Plain is' = absurd (none-some i is')
          by_via c vias.Soft is' = absurd (none-some i is')

          by_context : (o : Option Context) → option_and_then (λ context. entry_by e.at.tag context e.via) o ≡ Some i → i.op ≡ e.at.tag
          by_context None is' = absurd (none-some i is')
          by_context (Some c) is' = by_via c e.via is'

  -- before the first act
  pub acted_none : (noted : List (List Noted)) → ((d : ℕ) → own author_of thread (list_at noted d) ≡ []) → Acted script shards thread opening [] 0 opening noted [] []
  acted_none noted none = record {
    before = tt;
    grows = grows_none shards thread opening;
    attempts = tt;
    ways = tt;
    ordered = record { pairs = tt; own_key = tt; entries_before = tt; evictions_before = tt; passed = tt };
    bounds = bounds_same script [] [] (λ d. []) (own_events thread noted) (λ d. ap (map event_in) (none d)) (record {
      evicts = λ d k. omega arith;
      busy = λ d k s n. omega arith;
      further = λ d k. omega arith;
      resets = λ d. refl;
      programmings = λ d k. omega arith;
      idles = λ d. omega arith;
    });
  }

  -- nothing was done meanwhile
  pub acted_later : (acts : List (ℕ × Op)) (next later : ℕ) (seen : List (List Entry)) (noted : List (List Noted)) (made : List Entry) (evictions : List Eviction) → next ≤ later
      → Acted script shards thread opening acts next seen noted made evictions → Acted script shards thread opening acts later seen noted made evictions
  acted_later acts next later seen noted made evictions le now = record {
    before = all_from_in (λ (x : ℕ × Op). x.0 < later) acts (λ x a. let lt = all_at (λ (y : ℕ × Op). y.0 < next) acts x now.before a in omega arith);
    grows = now.grows;
    attempts = now.attempts;
    ways = now.ways;
    ordered = goes_on stays later_holds behind_evictions script thread next later made evictions noted noted le (λ d. begins_itself (list_at noted d)) now.ordered;
    bounds = now.bounds;
  }
