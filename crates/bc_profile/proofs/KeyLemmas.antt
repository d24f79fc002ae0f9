-- Which slot has a key, and where the journal last programmed it.
use Rattle.std.proofs.Common.{◌≡◌, ◌≢◌, ℕ, ◌<◌, ◌≤◌, ◌+◌, Bool, true, cond, List, [], ◌∷◌, ◌++◌, length, get_or, refl, sym, ap, subst, ◌∙◌, Option, Some, None, arith}
use Rattle.std.specs.Prelude.{◌==◌, filter_map, slice_set, All, position}
use Rattle.std.specs.List.{enumerate_from, last_or, cons_option, position_or_len}
use Rattle.std.proofs.Math.Logic.{⊎_elim}
use Rattle.std.proofs.lemmas.Bool.{true≢false, eq-eqb, ne_eqb, cases_eq, cases_lt, lt-ltb}
use Rattle.std.proofs.lemmas.Option.{none-some, same_Some}
use Rattle.std.proofs.lemmas.List.{length-set, get_or-set_same, get_or-set_other, get_or_past, get_or_default}
use Rattle.std.proofs.lemmas.List.Sums.{fails_before_first, fold-append}
use Rattle.std.proofs.lemmas.List.Quantifiers.{position-Some}
use Rattle.std.proofs.lemmas.List.Elements.{filter_map-append}
use Rattle.bc_profile.specs.declared.event.Event.{Event}
use Rattle.bc_profile.specs.declared.event.Event.TheVariants as events
use Rattle.bc_profile.specs.declared.skips.Skip.{Skip}
use Rattle.bc_profile.specs.SlotJournal.{Slots, Allowed, EachEvent, after_event, after_events, opening, slots_after}
use Rattle.bc_profile.specs.Programmings.{programming_at, last_programming}
use Rattle.bc_profile.specs.OneCaller.{has_key}
use Rattle.bc_profile.specs.Stamps.{Named, MatchesJournal}

-- ---- the slot that has a key

equal : (a b : ℕ) → (a == b) ≡ true → a ≡ b
equal a b e = ⊎_elim (λ (same : a ≡ b). same) (λ (differ : a ≢ b). absurd (true≢false (sym e ∙ ne_eqb a b differ))) (cases_eq a b)

is_that : (key : ℕ) (has : Option ℕ) → has_key key has ≡ true → has ≡ Some key
is_that key None e = absurd (true≢false (sym e))
is_that key (Some other) e = ap (λ (k : ℕ). Some k) (equal other key e)

pub slot_has : (key : ℕ) (keys : List (Option ℕ)) (slot : ℕ) → position (has_key key) keys ≡ Some slot → (slot < length keys) × (get_or keys slot None ≡ Some key)
slot_has key keys slot found =
    let at = position-Some (has_key key) keys slot None found in (at.0, is_that key (get_or keys slot None) at.1)

pub in_no_slot : (key : ℕ) (keys : List (Option ℕ)) → position (has_key key) keys ≡ None → All (λ other. other ≢ Some key) keys
in_no_slot key keys none k d inside is =
    ⊎_elim
    (λ (found : position_or_len (has_key key) keys < length keys).
    none-some (position_or_len (has_key key) keys)
    (sym none ∙ ap (λ (b : Bool). cond b (Some (position_or_len (has_key key) keys)) None) (lt-ltb (position_or_len (has_key key) keys) (length keys) found)))
    (λ (past : length keys ≤ position_or_len (has_key key) keys).
    true≢false
    (sym (ap (has_key key) is ∙ eq-eqb key key refl)
    ∙ fails_before_first (has_key key) keys k d (omega (arith, inside, past))))
    (cases_lt (position_or_len (has_key key) keys) (length keys))

pub key_gone : (keys : List (Option ℕ)) (slot key : ℕ) → All (λ other. other ≢ Some key) keys → get_or keys slot None ≡ Some key → ⊥
key_gone keys slot key gone is =
    ⊎_elim
    (λ (inside : slot < length keys). gone slot None inside is)
    (λ (past : length keys ≤ slot). none-some key (sym (get_or_past keys slot None past) ∙ is))
    (cases_lt slot (length keys))

pub key_inside : (keys : List (Option ℕ)) (slot key : ℕ) → get_or keys slot None ≡ Some key → slot < length keys
key_inside keys slot key is =
    ⊎_elim
    (λ (inside : slot < length keys). inside)
    (λ (past : length keys ≤ slot). absurd (none-some key (sym (get_or_past keys slot None past) ∙ is)))
    (cases_lt slot (length keys))

-- ---- the journal with one event more

pub last_append : {X : Type 0} (o : Option X) (xs ys : List X) → last_or o (xs ++ ys) ≡ last_or (last_or o xs) ys
last_append o [] ys = refl
last_append o (x ∷ xs) ys = last_append (Some x) xs ys

pub enumerate-append : {X : Type 0} (first n : ℕ) (xs ys : List X) → first + length xs ≡ n → enumerate_from first (xs ++ ys) ≡ enumerate_from first xs ++ enumerate_from n ys
enumerate-append first n [] ys is = let e : first ≡ n = omega arith in ap (λ k. enumerate_from k ys) e
enumerate-append first n (x ∷ xs) ys is = ap (λ l. (first, x) ∷ l) (enumerate-append (first + 1) n xs ys (omega arith))

pub last_push : (key : ℕ) (journal : List Event) (e : Event)
    → last_programming key (journal ++ e ∷ []) ≡ last_or (last_programming key journal) (filter_map (programming_at key) (enumerate_from (length journal) (e ∷ [])))
last_push key journal e =
    ap (λ l. last_or None (filter_map (programming_at key) l)) (enumerate-append 0 (length journal) journal (e ∷ []) (omega arith))
    ∙ ap (last_or None) (filter_map-append (programming_at key) (enumerate_from 0 journal) (enumerate_from (length journal) (e ∷ [])))
    ∙ last_append None (filter_map (programming_at key) (enumerate_from 0 journal)) (filter_map (programming_at key) (enumerate_from (length journal) (e ∷ [])))

pub slots_push : (count : ℕ) (journal : List Event) (e : Event) → slots_after count (journal ++ e ∷ []) ≡ after_event (slots_after count journal) e
slots_push count journal e = fold-append after_event (opening count) journal (e ∷ [])

pub each_push : (s : Slots) (journal : List Event) (e : Event) → EachEvent Allowed s journal → Allowed (after_events s journal) e → EachEvent Allowed s (journal ++ e ∷ [])
each_push s [] e all is = (is, tt)
each_push s (x ∷ xs) e all is = (all.0, each_push (after_event s x) xs e all.1 is)

pub same_count : (s : Slots) (e : Event) → length (after_event s e).keys ≡ length s.keys
same_count s (events.Program slot key skipped) = length-set s.keys slot (Some key)
same_count s (events.Idle slot) = refl
same_count s (events.Evict slot key) = length-set s.keys slot None
same_count s (events.Busy slot key refs) = refl
same_count s events.Reset = refl

-- ---- the events that are kept for the slots

pub named_program : (keys : List (Option ℕ)) (epochs : List ℕ) (journal : List Event) (slot key : ℕ) (skipped : List Skip) → Named keys epochs journal → All (λ other. other ≢ Some key) keys → slot < length keys → length epochs ≡ length keys
    → Named (slice_set keys slot (Some key)) (slice_set epochs slot (length journal)) (journal ++ events.Program slot key skipped ∷ [])
named_program keys epochs journal slot key skipped named nowhere inside many slot' key' has =
    let pushed = last_push key' journal (events.Program slot key skipped) in
    ⊎_elim
    (λ (same : slot' ≡ slot).
    let k : key ≡ key' = same_Some key key' (sym (get_or-set_same keys slot (Some key) None inside) ∙ subst (λ z. get_or (slice_set keys slot (Some key)) z None ≡ Some key') same has) in
    pushed ∙ ap (λ (b : Bool). last_or (last_programming key' journal) (cons_option (cond b (Some (slot, length journal)) None) [])) (eq-eqb key key' k)
    ∙ ap (λ (z : ℕ). Some (slot, z)) (sym (get_or-set_same epochs slot (length journal) 0 (omega arith)))
    ∙ ap (λ (z : ℕ). Some (z, get_or (slice_set epochs slot (length journal)) z 0)) (sym same))
    (λ (differ : slot' ≢ slot).
    let was = sym (get_or-set_other keys slot slot' (Some key) None differ) ∙ has in
    let ne : key ≢ key' = λ e. key_gone keys slot' key nowhere (was ∙ ap (λ (z : ℕ). Some z) (sym e)) in
    pushed ∙ ap (λ (b : Bool). last_or (last_programming key' journal) (cons_option (cond b (Some (slot, length journal)) None) [])) (ne_eqb key key' ne)
    ∙ named slot' key' was
    ∙ ap (λ (z : ℕ). Some (slot', z)) (sym (get_or-set_other epochs slot slot' (length journal) 0 differ)))
    (cases_eq slot' slot)

pub named_idle : (keys : List (Option ℕ)) (epochs : List ℕ) (journal : List Event) (slot : ℕ) → Named keys epochs journal → Named keys epochs (journal ++ events.Idle slot ∷ [])
named_idle keys epochs journal slot named slot' key' has = last_push key' journal (events.Idle slot) ∙ named slot' key' has

pub named_reset : (keys : List (Option ℕ)) (epochs : List ℕ) (journal : List Event) → Named keys epochs journal → Named keys epochs (journal ++ events.Reset ∷ [])
named_reset keys epochs journal named slot' key' has = last_push key' journal events.Reset ∙ named slot' key' has

pub named_busy : (keys : List (Option ℕ)) (epochs : List ℕ) (journal : List Event) (slot key refs : ℕ) → Named keys epochs journal → Named keys epochs (journal ++ events.Busy slot key refs ∷ [])
named_busy keys epochs journal slot key refs named slot' key' has = last_push key' journal (events.Busy slot key refs) ∙ named slot' key' has

evicted_key : (keys : List (Option ℕ)) (slot slot' key' : ℕ) → slot < length keys → get_or (slice_set keys slot None) slot' None ≡ Some key' → get_or keys slot' None ≡ Some key'
evicted_key keys slot slot' key' inside has =
    ⊎_elim
    (λ (same : slot' ≡ slot). absurd (none-some key' (sym (get_or-set_same keys slot None None inside) ∙ subst (λ z. get_or (slice_set keys slot None) z None ≡ Some key') same has)))
    (λ (differ : slot' ≢ slot). sym (get_or-set_other keys slot slot' None None differ) ∙ has)
    (cases_eq slot' slot)

pub named_evict : (keys : List (Option ℕ)) (epochs : List ℕ) (journal : List Event) (slot key : ℕ) → slot < length keys → Named keys epochs journal
    → Named (slice_set keys slot None) epochs (journal ++ events.Evict slot key ∷ [])
named_evict keys epochs journal slot key inside named slot' key' has =
    last_push key' journal (events.Evict slot key) ∙ named slot' key' (evicted_key keys slot slot' key' inside has)

-- a key that a slot has is in no other
pub gone_evicted : (keys : List (Option ℕ)) (epochs : List ℕ) (journal : List Event) (slot key : ℕ) → slot < length keys → get_or keys slot None ≡ Some key → Named keys epochs journal
    → All (λ other. other ≢ Some key) (slice_set keys slot None)
gone_evicted keys epochs journal slot key inside was named i d less is =
    let here : get_or (slice_set keys slot None) i None ≡ Some key = get_or_default (slice_set keys slot None) i None d less ∙ is in
    let other = evicted_key keys slot i key inside here in
    let same : i ≡ slot = ap (λ (p : ℕ × ℕ). p.0) (same_Some (i, get_or epochs i 0) (slot, get_or epochs slot 0) (sym (named i key other) ∙ named slot key was)) in
    none-some key (sym (get_or-set_same keys slot None None inside) ∙ subst (λ z. get_or (slice_set keys slot None) z None ≡ Some key) same here)

-- ---- what is reported, with one event more

pub told_more : (keys keys' : List (Option ℕ)) (epochs epochs' : List ℕ) (journal : List Event) (e : Event) → MatchesJournal keys epochs journal → Allowed (slots_after (length keys) journal) e
    → keys' ≡ (after_event (slots_after (length keys) journal) e).keys → length epochs' ≡ length epochs → Named keys' epochs' (journal ++ e ∷ []) → MatchesJournal keys' epochs' (journal ++ e ∷ [])
told_more keys keys' epochs epochs' journal e told may left many named =
    let count : length keys' ≡ length keys = ap length left ∙ same_count (slots_after (length keys) journal) e ∙ sym (ap length told.keys_left) in record {
      keys_left = left ∙ sym (ap (λ s. s.keys) (slots_push (length keys) journal e)) ∙ ap (λ n. (slots_after n (journal ++ e ∷ [])).keys) (sym count);
      lawful = subst (λ n. EachEvent Allowed (opening n) (journal ++ e ∷ [])) (sym count) (each_push (opening (length keys)) journal e told.lawful may);
      as_many = many ∙ told.as_many ∙ sym count;
      named = named;
    }
