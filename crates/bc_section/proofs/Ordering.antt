-- A thread's holds and evictions stay in order: when it submits, when it evicts, and when others go on.
use Rattle.std.proofs.Common.{◌≡◌, ℕ, ◌+◌, ◌<◌, ◌≤◌, inl, inr, true, List, [], ◌∷◌, ◌++◌, length, refl, sym, ap, subst, ◌∙◌, arith, Option, Some, None}
use Rattle.std.specs.Prelude.{◌==◌, ◌&&◌, nat_lt, filter_map, slice_get, IsTrue, IsSomeAnd, AllPairs, option_and_then, option_map}
use Rattle.std.specs.List.{AllByRecursion}
use Rattle.std.proofs.Math.Logic.{⊎_elim}
use Rattle.std.proofs.lemmas.Bool.{eqb-true, ltb-true, and_parts}
use Rattle.std.proofs.lemmas.Option.{none-some, same_Some}
use Rattle.std.proofs.lemmas.List.Elements.{filter_map-append, All-from_recursion}
use Rattle.std.proofs.lemmas.List.Kept.{AllPairs-cons}
use Rattle.bc_base.specs.Lists.{list_at}
use Rattle.bc_base.specs.Story.{StartsWith}
use Rattle.bc_bio.specs.declared.context.Context.{Context}
use Rattle.bc_medium.specs.declared.entry.Entry.{Entry}
use Rattle.bc_medium.specs.declared.via.Via.{Via}
use Rattle.bc_medium.specs.declared.via.Via.TheVariants as vias
use Rattle.bc_profile.specs.declared.event.Event.{Event}
use Rattle.bc_profile.specs.declared.event.Event.TheVariants as events
use Rattle.bc_profile.specs.declared.noted.Noted.{Noted}
use Rattle.bc_profile.specs.Story.{events_of, Holds, IsGone}
use Rattle.bc_profile.specs.Story as story
use Rattle.bc_profile.specs.Laws.{ProgrammingsStay, LaterHoldsNameLater, HoldsAfterEvictions}
use Rattle.bc_script.specs.Script.{Script}
use Rattle.bc_report.specs.Evictions.{Eviction}
use Rattle.bc_report.specs.Programmings.{IsProgramming, InlineEntry, entry_by, passes, is_evicted_between, InOrder}
use Rattle.bc_compose.specs.SectionDone.{key_of_entry, inline_of, NamesOwn}
use Rattle.bc_compose.specs.OrderedHolds.{Pairs, slot_count_of, GoesInline, Rises, HasHold, IsTakenOut, Passed, IsPassed, Ordered}
use Rattle.bc_section.proofs.Lists.{in_of_filter_map}
use Rattle.bc_base.proofs.Members.{In, in_append_cases, any_in, any_from, all_at, all_from_in, all_append, all_of}
use Rattle.bc_medium.proofs.Growing.{begins_itself, begins_trans}

pub pairs_append : {X : Type 0} (R : X → X → Type 0) (xs ys : List X) → Pairs R xs → Pairs R ys → ((x y : X) → In x xs → In y ys → R x y) → Pairs R (xs ++ ys)
pairs_append R [] ys ps qs cross = qs
pairs_append R (x ∷ xs) ys ps qs cross =
    (all_append (R x) xs ys ps.0 (all_from_in (R x) ys (λ y at'. cross x y (inl refl) at')), pairs_append R xs ys ps.1 qs (λ z y a b. cross z y (inr a) b))

pairs_weaker : {X : Type 0} (R S : X → X → Type 0) (xs : List X) → ((x y : X) → In x xs → In y xs → R x y → S x y) → Pairs R xs → Pairs S xs
pairs_weaker R S [] f ps = tt
pairs_weaker R S (x ∷ xs) f ps =
    (all_from_in (S x) xs (λ y at'. f x y (inl refl) (inr at') (all_at (R x) xs y ps.0 at')), pairs_weaker R S xs (λ z y a b. f z y (inr a) (inr b)) ps.1)

pub all_pairs : {X : Type 0} (R : X → X → Type 0) (xs : List X) → Pairs R xs → AllPairs R xs
all_pairs R [] ps = λ i j d lt within. absurd (omega arith)
all_pairs R (x ∷ xs) ps = AllPairs-cons R x xs (All-from_recursion (R x) xs ps.0) (all_pairs R xs ps.1)

-- ---- evictions between two entries

-- one that was so is found
between_from : (evictions : List Eviction) (thread key device from to : ℕ) → IsTrue (is_evicted_between evictions thread key device from to)
    → (v : Eviction) × In v evictions × (v.key ≡ key) × (from < v.op) × (v.op < to) × (passes device v.answer ≡ true)
between_from evictions thread key device from to is =
    let r = any_in (λ e. (e.thread == thread) && (e.key == key) && nat_lt from e.op && nat_lt e.op to && passes device e.answer) evictions is in
    let v = r.0 in
    let a = and_parts ((v.thread == thread) && (v.key == key) && nat_lt from v.op && nat_lt v.op to) (passes device v.answer) r.2 in
    let b = and_parts ((v.thread == thread) && (v.key == key) && nat_lt from v.op) (nat_lt v.op to) a.0 in
    let c = and_parts ((v.thread == thread) && (v.key == key)) (nat_lt from v.op) b.0 in
    let d = and_parts (v.thread == thread) (v.key == key) c.0 in
    (v, r.1, eqb-true v.key key d.1, ltb-true from v.op c.1, ltb-true v.op to b.1, a.1)

-- one more, after both entries, lies between none
between_fewer : (evictions : List Eviction) (v : Eviction) (thread key device from to : ℕ) → to ≤ v.op → IsTrue (is_evicted_between (evictions ++ v ∷ []) thread key device from to)
    → IsTrue (is_evicted_between evictions thread key device from to)
between_fewer evictions v thread key device from to late is =
    let test = λ (e : Eviction). (e.thread == thread) && (e.key == key) && nat_lt from e.op && nat_lt e.op to && passes device e.answer in
    let r = any_in test (evictions ++ v ∷ []) is in
    let b = between_from (evictions ++ v ∷ []) thread key device from to is in
    ⊎_elim
    (λ (old : In r.0 evictions). any_from test evictions r.0 old r.2)
    (λ (new : In r.0 (v ∷ [])).
    let same : v ≡ r.0 = ⊎_elim (λ (e : v ≡ r.0). e) (λ (no' : ⊥). absurd no') new in
    let a = and_parts ((r.0.thread == thread) && (r.0.key == key) && nat_lt from r.0.op && nat_lt r.0.op to) (passes device r.0.answer) r.2 in
    let lt : r.0.op < to = ltb-true r.0.op to (and_parts ((r.0.thread == thread) && (r.0.key == key) && nat_lt from r.0.op) (nat_lt r.0.op to) a.0).1 in
    let n : v.op ≡ r.0.op = ap (λ (e : Eviction). e.op) same in
    absurd (omega arith))
    (in_append_cases evictions (v ∷ []) r.0 r.1)

-- ---- what an entry names stays there

to_story : (front : List Noted) (slot key event : ℕ) → IsSomeAnd (slice_get (events_of front) event) (IsProgramming slot key) → story.Programs front event slot key
to_story front slot key event is = of_event (slice_get (events_of front) event) refl is
  where
    of_event : (o : Option Event) → slice_get (events_of front) event ≡ o → IsSomeAnd o (IsProgramming slot key) → story.Programs front event slot key
    of_event None at' h = absurd h
    of_event (Some (events.Program s k skipped)) at' h = (skipped, at' ∙ ap (λ (n : ℕ). Some (events.Program n k skipped)) h.0 ∙ ap (λ (n : ℕ). Some (events.Program slot n skipped)) h.1)
    of_event (Some (events.Idle s)) at' h = absurd h
    of_event (Some (events.Evict s k)) at' h = absurd h
    of_event (Some (events.Busy s k n)) at' h = absurd h
    of_event (Some events.Reset) at' h = absurd h

from_story : (front : List Noted) (slot key event : ℕ) → story.Programs front event slot key → IsSomeAnd (slice_get (events_of front) event) (IsProgramming slot key)
from_story front slot key event is = subst (λ (o : Option Event). IsSomeAnd o (IsProgramming slot key)) (sym is.1) (refl, refl)

pub stays_named : ProgrammingsStay → (before after : List (List Noted)) (key : Option ℕ) (via : Via) → ((d : ℕ) → StartsWith (list_at after d) (list_at before d)) → NamesOwn before key via → NamesOwn after key via
stays_named stays before after key (vias.Inline d s ev) grows is = go key is
  where
    go : (key : Option ℕ) → NamesOwn before key (vias.Inline d s ev) → NamesOwn after key (vias.Inline d s ev)
    go None h = h
    go (Some k) h = from_story (list_at after d) s k ev (stays (list_at before d) (list_at after d) ev s k (grows d) (to_story (list_at before d) s k ev h)).0
stays_named stays before after key vias.Plain grows is = tt
stays_named stays before after key vias.Soft grows is = tt

-- an inline entry's event stands in the journal, with its key
pub record Stands (noted : List (List Noted)) (i : InlineEntry) : Type 0 where
  pub slot : ℕ
  pub programs : story.Programs (list_at noted i.device) i.event slot i.key

pub stands_named : (noted : List (List Noted)) (e : Entry) (i : InlineEntry) → inline_of e ≡ Some i → NamesOwn noted (key_of_entry e) e.via → Stands noted i
stands_named noted e i is named' = by_context e.at.context is named'
  where
    by_via : (c : Context) (via : Via) → entry_by e.at.tag c via ≡ Some i → NamesOwn noted (Some c.key.0) via → Stands noted i
    by_via c (vias.Inline d s ev) is' h =
        subst (Stands noted) (same_Some _ i is') (record { slot = s; programs = to_story (list_at noted d) s c.key.0 ev h })
    by_via c vias.Plain is' h = absurd (none-some i is')
    by_via c vias.Soft is' h = absurd (none-some i is')

    by_context : (o : Option Context) → option_and_then (λ context. entry_by e.at.tag context e.via) o ≡ Some i → NamesOwn noted (option_map (λ context. context.key.0) o) e.via → Stands noted i
    by_context None is' h = absurd (none-some i is')
    by_context (Some c) is' h = by_via c e.via is' h

module _ (stays : ProgrammingsStay) (later_holds : LaterHoldsNameLater) (behind_evictions : HoldsAfterEvictions) (script : Script) where
  abbrev Done : ℕ → ℕ → List Entry → List Eviction → List (List Noted) → Type 0
  Done thread next made evictions noted = Ordered script thread next made evictions noted

  still_passed : (before after : List (List Noted)) (made : List Entry) (v : Eviction) (device : ℕ) → ((d : ℕ) → StartsWith (list_at after d) (list_at before d))
      → Passed script before made v device → Passed script after made v device
  still_passed before after made v device grows p = record {
    front = p.front;
    seen = begins_trans p.front (list_at before device) (list_at after device) p.seen (grows device);
    gone = p.gone;
    behind = p.behind;
  }

  -- an operation that submits nothing and evicts nothing; the journals may have been seen further
  pub goes_on : (thread next later : ℕ) (made : List Entry) (evictions : List Eviction) (before after : List (List Noted)) → next ≤ later → ((d : ℕ) → StartsWith (list_at after d) (list_at before d))
      → Done thread next made evictions before → Done thread later made evictions after
  goes_on thread next later made evictions before after le grows o = record {
    pairs = o.pairs;
    own_key = all_of (λ e. NamesOwn before (key_of_entry e) e.via) (λ e. NamesOwn after (key_of_entry e) e.via) made (λ e h. stays_named stays before after (key_of_entry e) e.via grows h) o.own_key;
    entries_before = all_of (λ (i : InlineEntry). i.op < next) (λ (i : InlineEntry). i.op < later) (filter_map inline_of made) (λ i lt. omega arith) o.entries_before;
    evictions_before = all_of (λ (v : Eviction). v.op < next) (λ (v : Eviction). v.op < later) evictions (λ v lt. omega arith) o.evictions_before;
    passed = all_of (IsPassed script before made) (IsPassed script after made) evictions
        (λ v p d t k. still_passed before after made v d grows (p d t k)) o.passed;
  }

  -- a submission of operations from `next` on
  pub submitted : (thread next later : ℕ) (made es : List Entry) (evictions : List Eviction) (before after : List (List Noted)) → next ≤ later → ((d : ℕ) → StartsWith (list_at after d) (list_at before d))
      → AllByRecursion (λ e. NamesOwn after (key_of_entry e) e.via) es
      → AllByRecursion (λ (i : InlineEntry). (next ≤ i.op) × (i.op < later) × HasHold script before after i) (filter_map inline_of es)
      → Pairs Rises (filter_map inline_of es)
      → Done thread next made evictions before → Done thread later (made ++ es) evictions after
  submitted thread next later made es evictions before after le grows own_key holds rises o = record {
    pairs =
        subst (Pairs (InOrder evictions thread)) (sym both)
        (pairs_append (InOrder evictions thread) (filter_map inline_of made) (filter_map inline_of es) o.pairs
        (pairs_weaker Rises (InOrder evictions thread) (filter_map inline_of es)
        (λ i j a b rise. record {
          never_earlier = rise;
          later_after_eviction = λ keys devices between.
              let v = between_from evictions thread i.key i.device i.op j.op between in
              let lt = all_at (λ (w : Eviction). w.op < next) evictions v.0 o.evictions_before v.1 in
              let hi = all_at (λ (x : InlineEntry). (next ≤ x.op) × (x.op < later) × HasHold script before after x) (filter_map inline_of es) i holds a in
              let low = hi.0 in
              let gt = v.3 in
              absurd (omega arith);
        }) rises)
        (λ i j a b. across i j a (all_at (λ (x : InlineEntry). (next ≤ x.op) × (x.op < later) × HasHold script before after x) (filter_map inline_of es) j holds b)));
    own_key =
        all_append (λ e. NamesOwn after (key_of_entry e) e.via) made es
        (all_of (λ e. NamesOwn before (key_of_entry e) e.via) (λ e. NamesOwn after (key_of_entry e) e.via) made (λ e h. stays_named stays before after (key_of_entry e) e.via grows h) o.own_key) own_key;
    entries_before =
        subst (AllByRecursion (λ (i : InlineEntry). i.op < later)) (sym both)
        (all_append (λ (i : InlineEntry). i.op < later) (filter_map inline_of made) (filter_map inline_of es)
        (all_of (λ (i : InlineEntry). i.op < next) (λ (i : InlineEntry). i.op < later) (filter_map inline_of made) (λ i lt. omega arith) o.entries_before)
        (all_of (λ (i : InlineEntry). (next ≤ i.op) × (i.op < later) × HasHold script before after i) (λ (i : InlineEntry). i.op < later) (filter_map inline_of es) (λ i h. h.1) holds));
    evictions_before = all_of (λ (v : Eviction). v.op < next) (λ (v : Eviction). v.op < later) evictions (λ v lt. omega arith) o.evictions_before;
    passed = all_from_in (IsPassed script after (made ++ es)) evictions
        (λ v at' d t k.
        let p = all_at (IsPassed script before made) evictions v o.passed at' d t k in
        let early = all_at (λ (w : Eviction). w.op < next) evictions v o.evictions_before at' in
        record {
          front = p.front;
          seen = begins_trans p.front (list_at before d) (list_at after d) p.seen (grows d);
          gone = p.gone;
          behind =
              subst (AllByRecursion (λ (i : InlineEntry). i.op < v.op → i.key ≡ v.key → i.device ≡ d → i.event < length p.front)) (sym both)
              (all_append (λ (i : InlineEntry). i.op < v.op → i.key ≡ v.key → i.device ≡ d → i.event < length p.front) (filter_map inline_of made) (filter_map inline_of es) p.behind
              (all_of (λ (i : InlineEntry). (next ≤ i.op) × (i.op < later) × HasHold script before after i) (λ (i : InlineEntry). i.op < v.op → i.key ≡ v.key → i.device ≡ d → i.event < length p.front) (filter_map inline_of es)
              (λ i h lt keys devices. let low = h.0 in absurd (omega arith)) holds));
        });
  }
    where
      both : filter_map inline_of (made ++ es) ≡ filter_map inline_of made ++ filter_map inline_of es
      both = filter_map-append inline_of made es

      across : (i j : InlineEntry) → In i (filter_map inline_of made) → (next ≤ j.op) × (j.op < later) × HasHold script before after j → InOrder evictions thread i j
      across i j a h =
          let hold = h.2 in
          let from = in_of_filter_map inline_of made i a in
          let stood = stands_named before from.0 i from.2 (all_at (λ e. NamesOwn before (key_of_entry e) e.via) made from.0 o.own_key from.1) in
          record {
            never_earlier = λ keys devices.
                later_holds (slot_count_of script j.device) (list_at before j.device) hold.front j.key hold.slot j.event stood.slot i.event hold.begins
                (subst (λ k. story.Programs (list_at before j.device) i.event stood.slot k) keys (subst (λ d. story.Programs (list_at before d) i.event stood.slot i.key) devices stood.programs)) hold.holds;
            later_after_eviction = λ keys devices between.
                let v = between_from evictions thread i.key i.device i.op j.op between in
                let inline_key : GoesInline script v.0.key = subst (GoesInline script) (sym (v.2 ∙ keys)) hold.is_inline in
                let p = all_at (IsPassed script before made) evictions v.0 o.passed v.1 i.device v.5 inline_key in
                let lt : i.event < length p.front =
                all_at (λ (x : InlineEntry). x.op < v.0.op → x.key ≡ v.0.key → x.device ≡ i.device → x.event < length p.front) (filter_map inline_of made) i p.behind a v.3 (sym v.2) refl in
                let begins : StartsWith hold.front p.front = begins_trans p.front (list_at before i.device) hold.front p.seen (subst (λ d. StartsWith hold.front (list_at before d)) (sym devices) hold.begins) in
                let le = behind_evictions (slot_count_of script j.device) p.front hold.front j.key hold.slot j.event begins
                (subst (λ k. IsGone (slot_count_of script j.device) p.front k) (v.2 ∙ keys) (subst (λ d. IsGone (slot_count_of script d) p.front v.0.key) devices p.gone)) hold.holds in
                omega arith;
          }

  -- an eviction: on each device that it passed there is a prefix, seen in this call, with its key in no slot
  pub evicted : (thread next : ℕ) (made : List Entry) (evictions : List Eviction) (v : Eviction) (before after : List (List Noted)) → v.op ≡ next → ((d : ℕ) → StartsWith (list_at after d) (list_at before d))
      → ((d : ℕ) → IsTrue (passes d v.answer) → GoesInline script v.key → IsTakenOut script before after d v.key)
      → Done thread next made evictions before → Done thread (next + 1) made (evictions ++ v ∷ []) after
  evicted thread next made evictions v before after here grows gone o = record {
    pairs =
        pairs_weaker (InOrder evictions thread) (InOrder (evictions ++ v ∷ []) thread) (filter_map inline_of made)
        (λ i j a b order. record {
          never_earlier = order.never_earlier;
          later_after_eviction = λ keys devices between.
              let lt = all_at (λ (x : InlineEntry). x.op < next) (filter_map inline_of made) j o.entries_before b in
              order.later_after_eviction keys devices (between_fewer evictions v thread i.key i.device i.op j.op (omega (arith, here)) between);
        }) o.pairs;
    own_key = more.own_key;
    entries_before = more.entries_before;
    evictions_before = all_append (λ (w : Eviction). w.op < next + 1) evictions (v ∷ []) more.evictions_before (omega (arith, here), tt);
    passed =
        all_append (IsPassed script after made) evictions (v ∷ []) more.passed (
          (λ d t k.
              let g = gone d t k in
              record {
                front = g.front;
                seen = g.seen;
                gone = g.gone;
                behind = all_from_in (λ (i : InlineEntry). i.op < v.op → i.key ≡ v.key → i.device ≡ d → i.event < length g.front) (filter_map inline_of made)
                    (λ i a lt keys devices.
                    let from = in_of_filter_map inline_of made i a in
                    let stood = stands_named before from.0 i from.2 (all_at (λ e. NamesOwn before (key_of_entry e) e.via) made from.0 o.own_key from.1) in
                    let begins : StartsWith g.front (list_at before i.device) = subst (λ n. StartsWith g.front (list_at before n)) (sym devices) g.begins in
                    let there = (stays (list_at before i.device) g.front i.event stood.slot i.key begins stood.programs).0 in
                    (stays g.front g.front i.event stood.slot i.key (begins_itself g.front) there).1);
              }),
          tt,
        );
  }
    where
      more : Done thread (next + 1) made evictions after
      more = goes_on thread next (next + 1) made evictions before after (omega arith) grows o
