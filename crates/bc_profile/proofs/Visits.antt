-- The book that a caller takes, changes and gives back: what it may give, and what its pass has noticed then.
use Rattle.std.proofs.Common.{◌≡◌, ◌≢◌, ℕ, ◌+◌, ◌<◌, ◌≤◌, ◌^◌, List, [], ◌∷◌, ◌++◌, length, map, set, true, false, refl, sym, ap, ◌∙◌, subst, arith, length-append, append-nil, Some, Option}
use Rattle.std.specs.Prelude.{IfSome}
use Rattle.std.proofs.Math.Logic.{⊎_elim}
use Rattle.std.proofs.lemmas.Bool.{cases_eq}
use Rattle.std.proofs.lemmas.List.{length-map}
use mathlib.Core.Option.{some-injective}
use Rattle.std.proofs.lemmas.Option.{same_Some}
use Rattle.bc_base.specs.Lists.{Each, At, AllAt}
use Rattle.bc_base.specs.Story.{StartsWith, own}
use Rattle.bc_turn.specs.PassParts as parts
use Rattle.bc_turn.specs.PassParts.{Part, Pass, CellData, TurnsData, Changes, part, part_key, cell_key, without_turn, TakesLater, GoesOn}
use Rattle.bc_profile.specs.declared.event.Event.{Event}
use Rattle.bc_profile.specs.declared.limits.TheConstants.{MAX_EVENTS}
use Rattle.bc_profile.specs.declared.noted.Noted.{Noted}
use Rattle.bc_profile.specs.Story.{author_of, note, notes}
use Rattle.bc_profile.specs.Book.{BookData, HasRoom}
use Rattle.bc_profile.specs.Passes.{BaseData, KeepsTo, HoldFacts, SlotFacts, ProfileData, IsOf, IsHold, HasSpare, Noticed, OneAtRest, base_of, base_in, facts_of, made_by, quota_of, seen_of, slots_in}
use Rattle.bc_profile.proofs.StoryLemmas.{begins_itself, begins_trans, own-append, own-each, own_other, leaves_room, fits}

abbrev pub P : Type 0
P = Pass Noted BaseData

abbrev pub Q : Type 0
Q = Part Noted BaseData

abbrev pub story_of : BookData → List Noted
story_of book = book.story

-- the book goes on by these events of the caller
pub record Adds (caller : ℕ) (v v' : BookData) (es : List Event) : Type 0 where
  pub story : v'.story ≡ v.story ++ notes caller es
  pub count : v'.count ≡ v.count
  pub limit : v'.limit ≡ v.limit

pub adds_by : (c d : ℕ) (v v' : BookData) (es : List Event) → c ≡ d → Adds c v v' es → Adds d v v' es
adds_by c d v v' es same adds = subst (λ n. Adds n v v' es) same adds

pub adds_none : (caller : ℕ) (v v' : BookData) → v'.story ≡ v.story → v'.count ≡ v.count → v'.limit ≡ v.limit → Adds caller v v' []
adds_none caller v v' story count limit = record { story = story ∙ sym (append-nil v.story); count = count; limit = limit }

-- the one part of a pass
pub record Only (p : P) : Type 0 where
  pub part : Q
  pub parts : p.parts ≡ part ∷ []
  pub rests : part.holds ≡ false
  pub number : part.caller ≡ p.caller

pub only : (p : P) → OneAtRest p.caller p.parts → Only p
only p is = by_parts p.parts refl is
  where
    by_parts : (parts : List Q) → p.parts ≡ parts → OneAtRest p.caller parts → Only p
    by_parts [] e is = absurd is
    by_parts (q ∷ []) e is = record { part = q; parts = e; rests = is.0; number = is.1 }
    by_parts (q ∷ r ∷ qs) e is = absurd is

each_note : (c d : ℕ) (es : List Event) → c ≡ d → Each (λ (x : Noted). x.caller ≡ d) (notes c es)
each_note c d [] same = tt
each_note c d (e ∷ es) same = (same, each_note c d es same)

length-notes : (c : ℕ) (es : List Event) → length (notes c es) ≡ length es
length-notes c es = length-map es (note c)

-- what a book keeps to, after these events of a caller that has room for them
pub keeps_more : (base : BaseData) (c : ℕ) (v v' : BookData) (es : List Event) → KeepsTo base v → Adds c v v' es → length (own author_of c v.story) + length es ≤ quota_of base c → KeepsTo base v'
keeps_more base c v v' es keeps adds few = record {
  slots = adds.count ∙ keeps.slots;
  limit = adds.limit ∙ keeps.limit;
  small = subst (λ n. n < MAX_EVENTS) (sym adds.limit) keeps.small;
  within = λ d.
      let grown = ap (own author_of d) adds.story ∙ own-append author_of d v.story (notes c es) in
      let long = ap length grown ∙ length-append (own author_of d v.story) (own author_of d (notes c es)) in
      ⊎_elim
      (λ (same : c ≡ d).
      let mine = ap length (own-each author_of d (notes c es) (each_note c d es same)) ∙ length-notes c es in
      let room = subst (λ n. length (own author_of n v.story) + length es ≤ quota_of base n) same few in omega (arith, long, mine, room))
      (λ (apart : c ≢ d).
      let none = ap length (own_other author_of d c (notes c es) (each_note c c es refl) apart) in
      let w = keeps.within d in omega (arith, long, none, w))
      (cases_eq c d);
}

pub keeps_small : (base : BaseData) (v : BookData) → KeepsTo base v → length v.story < 2 ^ 62
keeps_small base v keeps =
    let f = fits author_of v.story base.quotas keeps.within in let l = keeps.limit in let s = keeps.small in omega (arith, f, l, s)

module _ (t : ProfileData) (p : P) (h : Option HoldFacts) (one : OneAtRest p.caller p.parts) (of : IsOf t (facts_of p h)) where
  o : Only p
  o = only p one

  pub is_of : parts.IsOf t.turns p
  is_of = (of.caller, of.cell, subst (Each (λ (q : Q). q.caller ≡ p.caller)) (sym o.parts) (o.number, tt))

  pub has_cell : 0 < length t.turns.cells
  has_cell = let l = ap length (sym of.cell ∙ ap (map part_key) o.parts) in let m = length-map t.turns.cells cell_key in omega (arith, l, m)

  pub at_rest : AllAt p.parts 0 (λ q. q.holds ≡ false)
  at_rest q at = subst (λ (z : Q). z.holds ≡ false) (same_Some o.part q (subst (λ l. At l 0 q) o.parts at)) o.rests

  module _ (p1 : P) (v : BookData) (took : Changes p p1 0 (λ q q'. TakesLater story_of KeepsTo author_of q v q')) where
    same_part : o.part ≡ took.1.0
    same_part = same_Some o.part took.1.0 (subst (λ l. At l 0 took.1.0) o.parts took.1.2)

    base_by : (cells : List (CellData BaseData)) → map part_key (o.part ∷ []) ≡ map cell_key cells → o.part.base ≡ Some (base_of cells)
    base_by [] e = let l = ap length e in absurd (omega (arith, l))
    base_by (c ∷ cs) e = ap (λ (z : _ × Option BaseData). z.1) (some-injective (part_key o.part) (cell_key c) (ap (λ l. lib.ListN.get_elem? l 0) e))

    its_base : took.1.0.base ≡ Some (base_in t)
    its_base = ap (λ (z : Q). z.base) (sym same_part) ∙ base_by t.turns.cells (ap (map part_key) (sym o.parts) ∙ of.cell)

    -- the book keeps to the base of the profile, and has of this caller what was seen
    pub keeps : KeepsTo (base_in t) v
    keeps = subst (λ (b : Option BaseData). IfSome b (λ b. KeepsTo b v)) its_base took.1.4.0.2

    pub number : p1.caller ≡ p.caller
    number = took.0

    own_seen : own author_of p.caller v.story ≡ own author_of p.caller (seen_of p.parts)
    own_seen =
        subst (λ n. own author_of n v.story ≡ own author_of n (seen_of p.parts)) (ap (λ (z : Q). z.caller) (sym same_part) ∙ o.number)
        (took.1.4.0.1 ∙ ap (λ (z : Q). own author_of took.1.0.caller z.seen) (sym same_part) ∙ ap (λ l. own author_of took.1.0.caller (seen_of l)) (sym o.parts))

    pub has_room : (n : ℕ) → 1 ≤ n → HasSpare t (facts_of p h) n → HasRoom v
    has_room n some spare =
        let own_less : length (own author_of p.caller v.story) < quota_of (base_in t) p.caller = let l = ap length own_seen in omega (arith, l, some, spare) in
        let less = leaves_room author_of v.story (base_in t).quotas p.caller keeps.within own_less in let l = keeps.limit in omega (arith, less, l)

    module _ (v' : BookData) (es : List Event) (adds : Adds p1.caller v v' es) (fit : HasSpare t (facts_of p h) (length es)) where
      mine : Adds p.caller v v' es
      mine = adds_by p1.caller p.caller v v' es number adds

      keeps' : KeepsTo (base_in t) v'
      keeps' = keeps_more (base_in t) p.caller v v' es keeps mine (let l = ap length own_seen in omega (arith, l, fit))

      abbrev q1 : Q
      q1 = took.1.1

      its_number : took.1.0.caller ≡ p.caller
      its_number = ap (λ (z : Q). z.caller) (sym same_part) ∙ o.number

      at1 : (z : Q) → At p1.parts 0 z → q1 ≡ z
      at1 z here = same_Some q1 z (subst (λ l. At l 0 z) (took.1.3 ∙ ap (λ l. set l 0 q1) o.parts) here)

      goes : (q1.holds ≡ true) × GoesOn story_of KeepsTo author_of q1 v'
      goes = (
        ap (λ (z : Q). z.holds) took.1.4.2,
        (
          (notes p.caller es, mine.story ∙ ap (λ l. l ++ notes p.caller es) (sym (ap (λ (z : Q). z.seen) took.1.4.2)), each_note p.caller q1.caller es (sym (ap (λ (z : Q). z.caller) took.1.4.2 ∙ its_number))),
          subst (λ (b : Option BaseData). IfSome b (λ b. KeepsTo b v')) (sym (ap (λ (z : Q). z.base) took.1.4.2 ∙ its_base)) keeps',
          keeps_small (base_in t) v' keeps',
        ),
      )

      pub may_give : AllAt p1.parts 0 (λ q. (q.holds ≡ true) × GoesOn story_of KeepsTo author_of q v')
      may_give z here = subst (λ (z : Q). (z.holds ≡ true) × GoesOn story_of KeepsTo author_of z v') (at1 z here) goes

      module _ (p2 : P) (gave : Changes p1 p2 0 (λ q q'. q' ≡ without_turn q v'.story)) where
        -- the one part of the pass afterwards
        abbrev q2 : Q
        q2 = gave.1.1

        is_q2 : q2 ≡ part took.1.0.cell took.1.0.caller took.1.0.base v'.story q1.missed false
        is_q2 = gave.1.4 ∙ ap (λ (y : Q). without_turn y v'.story) (sym (at1 gave.1.0 gave.1.2)) ∙ ap (λ (y : Q). without_turn y v'.story) took.1.4.2 ∙ ap (λ (m : ℕ). part took.1.0.cell took.1.0.caller took.1.0.base v'.story m false) (sym (ap (λ (z : Q). z.missed) took.1.4.2))

        parts2 : p2.parts ≡ q2 ∷ []
        parts2 = gave.1.3 ∙ ap (λ l. set l 0 q2) (took.1.3 ∙ ap (λ l. set l 0 q1) o.parts)

        same_caller : p2.caller ≡ p.caller
        same_caller = gave.0 ∙ number

        pub still_one : OneAtRest p2.caller p2.parts
        still_one = subst (OneAtRest p2.caller) (sym parts2) (ap (λ (z : Q). z.holds) is_q2, ap (λ (z : Q). z.caller) is_q2 ∙ its_number ∙ sym same_caller)

        same_keys : map part_key p2.parts ≡ map part_key p.parts
        same_keys = ap (map part_key) parts2 ∙ ap (λ (z : Q). part_key z ∷ []) is_q2 ∙ ap (λ (z : Q). part_key z ∷ []) (sym same_part) ∙ ap (map part_key) (sym o.parts)

        pub seen2 : seen_of p2.parts ≡ v'.story
        seen2 = ap seen_of parts2 ∙ ap (λ (z : Q). z.seen) is_q2

        pub still_of : (h' : Option HoldFacts) → IfSome h' (IsHold t v'.story) → IsOf t (facts_of p2 h')
        still_of h' holds = record {
          caller = subst (λ c. c < t.turns.callers) (sym same_caller) of.caller;
          cell = same_keys ∙ of.cell;
          hold = subst (λ s. IfSome h' (IsHold t s)) (sym seen2) holds;
        }

        -- what is said of the book's slots and story is said of the profile's and of what was seen
        pub of_front : (S : ℕ → List Noted → Type 0) → S v'.count v'.story → S (slots_in t) (seen_of p2.parts)
        of_front S is = subst (S (slots_in t)) (sym seen2) (subst (λ n. S n v'.story) keeps'.slots is)

        was_seen : took.1.0.seen ≡ seen_of p.parts
        was_seen = ap (λ (z : Q). z.seen) (sym same_part) ∙ ap seen_of (sym o.parts)

        pub noticed : (h' : Option HoldFacts) → (n : Noticed (facts_of p h) (facts_of p2 h') es) × (n.front ≡ v.story)
        noticed h' = (
          record {
            front = v.story;
            begins = subst (StartsWith v.story) was_seen took.1.4.0.0;
            own_front = own_seen;
            ends = seen2 ∙ mine.story;
            own_events = ap (λ c. own author_of c (seen_of p2.parts)) same_caller ∙ ap (own author_of p.caller) (seen2 ∙ mine.story) ∙ own-append author_of p.caller v.story (notes p.caller es)
                ∙ ap (λ l. l ++ own author_of p.caller (notes p.caller es)) own_seen
                ∙ ap (λ l. own author_of p.caller (seen_of p.parts) ++ l) (own-each author_of p.caller (notes p.caller es) (each_note p.caller p.caller es refl));
            caller = same_caller;
            cell = same_keys;
          },
          refl,
        )

-- a call that added nothing, and one after it
pub noticed_more : (a b d : SlotFacts) (es : List Event) → Noticed a b [] → (two : Noticed b d es) → (n : Noticed a d es) × (n.front ≡ two.front)
noticed_more a b d es one two =
    let seen : b.seen ≡ one.front = one.ends ∙ append-nil one.front in (
      record {
        front = two.front;
        begins = begins_trans a.seen one.front two.front one.begins (subst (StartsWith two.front) seen two.begins);
        own_front = ap (λ c. own author_of c two.front) (sym one.caller) ∙ two.own_front ∙ one.own_events ∙ append-nil (made_by a);
        ends = two.ends ∙ ap (λ k. two.front ++ notes k es) one.caller;
        own_events = two.own_events ∙ ap (λ l. l ++ notes b.caller es) (one.own_events ∙ append-nil (made_by a)) ∙ ap (λ k. made_by a ++ notes k es) one.caller;
        caller = two.caller ∙ one.caller;
        cell = two.cell ∙ one.cell;
      },
      refl,
    )

pub noticed_none : (a : SlotFacts) → Noticed a a []
noticed_none a = record { front = a.seen; begins = begins_itself a.seen; own_front = refl; ends = sym (append-nil a.seen); own_events = sym (append-nil (made_by a)); caller = refl; cell = refl }

pub spare_more : (t : ProfileData) (a b : SlotFacts) (n : ℕ) → Noticed a b [] → HasSpare t a n → HasSpare t b n
spare_more t a b n one has =
    let same = ap length (one.own_events ∙ append-nil (made_by a)) in
    let quota = ap (quota_of (base_in t)) one.caller in omega (arith, same, quota, has)
