-- The same of the profile and the pass as contracts see them, and what each kind of call adds.
use Rattle.std.proofs.Common.{◌≡◌, inl, inr, ℕ, ◌+◌, ◌≤◌, Bool, true, false, cond, List, [], ◌∷◌, length, refl, sym, ap, subst, arith, Some, None, Option}
use Rattle.std.specs.Prelude.{IfSome, ◌==◌, Result, Ok, Err, MatchResult, OnOk}
use Rattle.std.proofs.Math.Logic.{⊎_elim}
use Rattle.bc_base.specs.Lists.{AllAt, EachFrom}
use Rattle.bc_turn.specs.PassParts.{Changes, without_turn, TakesLater, GoesOn}
use Rattle.bc_profile.specs.declared.event.Event.{Event}
use Rattle.bc_profile.specs.declared.event.Event.TheVariants as events
use Rattle.bc_profile.specs.declared.noted.Noted.{Noted}
use Rattle.bc_profile.specs.declared.slot_word.SlotWord.{SlotWord}
use Rattle.bc_profile.specs.SlotJournal.{InNoSlot, MayProgram, key_of}
use Rattle.bc_profile.specs.Story.{IsGone, author_of, slots_told}
use Rattle.bc_profile.specs.Book.{BookData, HasRoom, Hits, ProgramsOne, TakesHold, AllHeld, IsHeldBy, Empties, TakesOut, IsBusy, NoneFree, book_with_events, events_of_put, slots_of}
use Rattle.bc_profile.specs.Passes.{KeepsTo, HoldFacts, SlotFacts, ProfileData, IsOf, IsHold, HasSpare, Noticed, OneAtRest, Gets, ProgramsSlot, Puts, Evicts, RefusesEviction, FoundHeld, AllFoundHeld, facts_of, seen_of, slots_in}
use Rattle.bc_profile.proofs.Visits.{P, Adds, story_of, has_room, may_give, still_one, still_of, of_front, noticed, noticed_more, keeps, adds_none}

module _ (t now : ProfileData) (p : P) (h : Option HoldFacts) (pass : SlotFacts) (view : t ≡ now) (pass_view : facts_of p h ≡ pass) (one : OneAtRest p.caller p.parts) (of : IsOf now pass) where
  pub its : IsOf t (facts_of p h)
  its = subst (IsOf t) (sym pass_view) (subst (λ z. IsOf z pass) (sym view) of)

  its_spare : (n : ℕ) → HasSpare now pass n → HasSpare t (facts_of p h) n
  its_spare n spare = subst (λ f. HasSpare t f n) (sym pass_view) (subst (λ z. HasSpare z pass n) (sym view) spare)

  module _ (p1 : P) (v : BookData) (took : Changes p p1 0 (λ q q'. TakesLater story_of KeepsTo author_of q v q')) where
    pub room : (n : ℕ) → 1 ≤ n → HasSpare now pass n → HasRoom v
    room n some spare = has_room t p h one its p1 v took n some (its_spare n spare)

    -- what is said of the slots as they were found is said of the profile's
    pub before : (S : ℕ → Type 0) → S v.count → S (slots_in now)
    before S is = subst (λ z. S (slots_in z)) view (subst S (keeps t p h one its p1 v took).slots is)

    module _ (v' : BookData) (es : List Event) (adds : Adds p1.caller v v' es) (fit : HasSpare now pass (length es)) where
      pub may : AllAt p1.parts 0 (λ q. (q.holds ≡ true) × GoesOn story_of KeepsTo author_of q v')
      may = may_give t p h one its p1 v took v' es adds (its_spare (length es) fit)

      module _ (p2 : P) (gave : Changes p1 p2 0 (λ q q'. q' ≡ without_turn q v'.story)) where
        pub at_front : (h' : Option HoldFacts) → (n : Noticed pass (facts_of p2 h') es) × (n.front ≡ v.story)
        at_front h' = subst (λ f. (n : Noticed f (facts_of p2 h') es) × (n.front ≡ v.story)) pass_view (noticed t p h one its p1 v took v' es adds (its_spare (length es) fit) p2 gave h')

        pub told : (h' : Option HoldFacts) → Noticed pass (facts_of p2 h') es
        told h' = (at_front h').0

        pub front : (S : ℕ → List Noted → Type 0) → S v'.count v'.story → S (slots_in now) (seen_of p2.parts)
        front S is = subst (λ z. S (slots_in z) (seen_of p2.parts)) view (of_front t p h one its p1 v took v' es adds (its_spare (length es) fit) p2 gave S is)

        pub rests : OneAtRest p2.caller p2.parts
        rests = still_one t p h one its p1 v took v' es adds (its_spare (length es) fit) p2 gave

        pub is_of : (h' : Option HoldFacts) → IfSome h' (IsHold now (seen_of p2.parts)) → IsOf now (facts_of p2 h')
        is_of h' holds =
            let free = still_of t p h one its p1 v took v' es adds (its_spare (length es) fit) p2 gave None tt in
            let here = subst (λ z. IsOf z (facts_of p2 None)) view free in record { caller = here.caller; cell = here.cell; hold = holds }

-- ---- what each call adds

pub adds_these : (c d : ℕ) (v v' : BookData) (es : List Event) (refs : List ℕ) → v' ≡ book_with_events v c es refs → c ≡ d → Adds d v v' es
adds_these c d v v' es refs is same =
    subst (λ n. Adds n v v' es) same (record { story = ap (λ (z : BookData). z.story) is; count = ap (λ (z : BookData). z.count) is; limit = ap (λ (z : BookData). z.limit) is })

pub less_spare : (t : ProfileData) (pass : SlotFacts) (m n : ℕ) → m ≤ n → HasSpare t pass n → HasSpare t pass m
less_spare t pass m n less spare = omega (arith, less, spare)

pub adds_nothing : (c : ℕ) (v v' : BookData) → v' ≡ v → Adds c v v' []
adds_nothing c v v' same = adds_none c v v' (ap (λ (z : BookData). z.story) same) (ap (λ (z : BookData). z.count) same) (ap (λ (z : BookData). z.limit) same)

-- the events of a call, of which there is one at most
pub record AddsFew (caller : ℕ) (v v' : BookData) : Type 0 where
  pub events : List Event
  pub adds : Adds caller v v' events
  pub few : length events ≤ 1

pub few_by : (c d : ℕ) (v v' : BookData) → c ≡ d → AddsFew c v v' → AddsFew d v v'
few_by c d v v' same few = subst (λ n. AddsFew n v v') same few

-- a hold that was taken
hit_adds : (c key slot : ℕ) (v v' : BookData) → Hits v v' key slot → Adds c v v' []
hit_adds c key slot v v' hit = record { story = ap (λ (z : BookData). z.story) hit.counted; count = ap (λ (z : BookData). z.count) hit.counted; limit = ap (λ (z : BookData). z.limit) hit.counted }

pub takes_few : (c key slot : ℕ) (v v' : BookData) → TakesHold v v' c key slot → AddsFew c v v'
takes_few c key slot v v' takes =
    ⊎_elim
    (λ (hit : Hits v v' key slot). record { events = []; adds = hit_adds c key slot v v' hit; few = omega arith })
    (λ (programs : ProgramsOne v v' c key slot). record { events = events.Program slot key programs.skipped ∷ []; adds = adds_these c c v v' (events.Program slot key programs.skipped ∷ []) _ programs.made refl; few = omega arith })
    takes

-- a key that was taken out, or not
pub evict_few : {X Y : Type 0} (slot_in refs_in : Y → ℕ) (c key : ℕ) (v v' : BookData) (r : Result X Y) → MatchResult r (λ _. Empties v v' c key) (λ busy. IsBusy v v' c key (slot_in busy) (refs_in busy)) → AddsFew c v v'
evict_few slot_in refs_in c key v v' (Ok x) empties =
    ⊎_elim
    (λ (none : InNoSlot (slots_of v) key × (v' ≡ v)). record { events = []; adds = adds_nothing c v v' none.1; few = omega arith })
    (λ (some : (slot : ℕ) × TakesOut v v' c key slot). record { events = events.Evict some.0 key ∷ []; adds = adds_these c c v v' (events.Evict some.0 key ∷ []) _ some.1.made refl; few = omega arith })
    empties
evict_few slot_in refs_in c key v v' (Err busy) is = record { events = events.Busy (slot_in busy) key (refs_in busy) ∷ []; adds = adds_these c c v v' (events.Busy (slot_in busy) key (refs_in busy) ∷ []) _ is.made refl; few = omega arith }

-- a reset that was made, or not
pub reset_adds : (c d : ℕ) (v v' : BookData) (done : Bool) → v' ≡ cond done (book_with_events v c (events.Reset ∷ []) v.refs) v → c ≡ d → Adds d v v' (cond done (events.Reset ∷ []) [])
reset_adds c d v v' true is same = adds_these c d v v' (events.Reset ∷ []) v.refs is same
reset_adds c d v v' false is same = adds_nothing d v v' is

pub reset_fits : (done : Bool) → length (cond done (events.Reset ∷ []) []) ≤ 1
reset_fits true = omega arith
reset_fits false = omega arith

-- a hold given back
pub put_fits : (slot left : ℕ) → length (events_of_put slot left) ≤ 1
put_fits slot left = by_case (left == 0)
  where
    by_case : (b : Bool) → length (cond b (events.Idle slot ∷ []) []) ≤ 1
    by_case true = omega arith
    by_case false = omega arith

pub puts : (a d : SlotFacts) (slot slot' left : ℕ) → slot ≡ slot' → Noticed a d (events_of_put slot left) → Puts a d slot'
puts a d slot slot' left same noticed = subst (Puts a d) same (by_case (left == 0) noticed)
  where
    by_case : (b : Bool) → Noticed a d (cond b (events.Idle slot ∷ []) []) → Puts a d slot
    by_case true n = inr n
    by_case false n = inl n

-- ---- what each call tells

module _ (t now : ProfileData) (p : P) (h : Option HoldFacts) (pass : SlotFacts) (view : t ≡ now) (pass_view : facts_of p h ≡ pass) (one : OneAtRest p.caller p.parts) (of : IsOf now pass)
    (p1 : P) (v : BookData) (took : Changes p p1 0 (λ q q'. TakesLater story_of KeepsTo author_of q v q')) (v' : BookData) (c : ℕ) (mine : c ≡ p1.caller) (spare : HasSpare now pass 1)
    (p2 : P) (gave : Changes p1 p2 0 (λ q q'. q' ≡ without_turn q v'.story)) (h' : Option HoldFacts) where
  these : (es : List Event) → Adds c v v' es → length es ≤ 1 → (n : Noticed pass (facts_of p2 h') es) × (n.front ≡ v.story)
  these es adds few = at_front t now p h pass view pass_view one of p1 v took v' es (subst (λ n. Adds n v v' es) mine adds) (less_spare now pass (length es) 1 few spare) p2 gave h'

  pub gets : (key slot : ℕ) → TakesHold v v' c key slot → Gets (slots_in now) pass (facts_of p2 h') key slot
  gets key slot takes =
      ⊎_elim
      (λ (hit : Hits v v' key slot). inl (these [] (hit_adds c key slot v v' hit) (omega arith)).0)
      (λ (made : ProgramsOne v v' c key slot).
      let n = these (events.Program slot key made.skipped ∷ []) (adds_these c c v v' (events.Program slot key made.skipped ∷ []) _ made.made refl) (omega arith) in
      inr (record {
        skipped = made.skipped;
        noticed = n.0;
        may = subst (λ l. MayProgram (slots_told (slots_in now) l) slot key made.skipped) (sym n.1)
            (before t now p h pass view pass_view one of p1 v took (λ k. MayProgram (slots_told k v.story) slot key made.skipped) made.may);
      }))
      takes

  pub evicts : (key : ℕ) → Empties v v' c key → IsGone (slots_in now) (seen_of p2.parts) key → Evicts (slots_in now) pass (facts_of p2 h') key
  evicts key empties gone = record {
    made =
        ⊎_elim
        (λ (none : InNoSlot (slots_of v) key × (v' ≡ v)). inl (these [] (adds_nothing c v v' none.1) (omega arith)).0)
        (λ (some : (slot : ℕ) × TakesOut v v' c key slot).
        let n = these (events.Evict some.0 key ∷ []) (adds_these c c v v' (events.Evict some.0 key ∷ []) _ some.1.made refl) (omega arith) in
        inr (
          some.0,
          record {
            noticed = n.0;
            has_key = subst (λ l. key_of (slots_told (slots_in now) l) some.0 ≡ Some key) (sym n.1)
                (before t now p h pass view pass_view one of p1 v took (λ k. key_of (slots_told k v.story) some.0 ≡ Some key) some.1.has_key);
          },
        ))
        empties;
    gone = gone;
  }

  pub refuses : (key slot refs : ℕ) → IsBusy v v' c key slot refs → RefusesEviction (slots_in now) pass (facts_of p2 h') key slot refs
  refuses key slot refs busy =
      let n = these (events.Busy slot key refs ∷ []) (adds_these c c v v' (events.Busy slot key refs ∷ []) _ busy.made refl) (omega arith) in record {
        noticed = n.0;
        has_key = subst (λ l. key_of (slots_told (slots_in now) l) slot ≡ Some key) (sym n.1)
            (before t now p h pass view pass_view one of p1 v took (λ k. key_of (slots_told k v.story) slot ≡ Some key) busy.has_key);
        referenced = busy.referenced;
      }

pub either_way : {X Y : Type 0} (r : Result X Y) (A A' : X → Type 0) (B B' : Y → Type 0) (G : Type 0) → ((x : X) → G → A x → A' x) → ((y : Y) → B y → B' y) → OnOk r G → MatchResult r A B → MatchResult r A' B'
either_way (Ok x) A A' B B' G f g gone m = f x gone m
either_way (Err y) A A' B B' G f g gone m = g y m

-- what each slot was found to be
pub found_held : (v : BookData) (words : List SlotWord) → AllHeld v → EachFrom (IsHeldBy v) 0 words → length words ≡ v.count → EachFrom (FoundHeld v.count v.story) 0 words
found_held v words held each many = from 0 words each (omega (arith, many))
  where
    from : (first : ℕ) (ws : List SlotWord) → EachFrom (IsHeldBy v) first ws → first + length ws ≡ v.count → EachFrom (FoundHeld v.count v.story) first ws
    from first [] each many = tt
    from first (w ∷ ws) each many = (
      record { referenced = let h = held first (omega (arith, many)) in let r = each.0.refs in omega (arith, h, r); ready = each.0.ready; holds = each.0.holds },
      from (first + 1) ws each.1 (omega (arith, many)),
    )

pub all_found : (v v' : BookData) (key : ℕ) (words : List SlotWord) → v' ≡ v → NoneFree v key → EachFrom (IsHeldBy v') 0 words → length words ≡ v'.count → AllFoundHeld v'.count v'.story key words
all_found v v' key words same none each many =
    let here = subst (λ z. NoneFree z key) (sym same) none in record { gone = here.0; count = many; words = found_held v' words here.1 each many }

-- a call that added nothing, and then one that took a hold
pub gets_more : (slots : ℕ) (a b d : SlotFacts) (key slot : ℕ) → Noticed a b [] → Gets slots b d key slot → Gets slots a d key slot
gets_more slots a b d key slot one gets =
    ⊎_elim
    (λ (two : Noticed b d []). inl (noticed_more a b d [] one two).0)
    (λ (made : ProgramsSlot slots b d key slot).
    let n = noticed_more a b d (events.Program slot key made.skipped ∷ []) one made.noticed in
    inr (record {
      skipped = made.skipped;
      noticed = n.0;
      may = subst (λ l. MayProgram (slots_told slots l) slot key made.skipped) (sym n.1) made.may;
    }))
    gets

pub then_these : (a b d : SlotFacts) (es : List Event) → Noticed a b [] → Noticed b d es → Noticed a d es
then_these a b d es one two = (noticed_more a b d es one two).0
