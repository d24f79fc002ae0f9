-- What a hold tells by the front of the story that was seen: it names its programming, later holds of a key name no earlier
-- one, and a hold after an eviction a later one.
use Rattle.std.proofs.Common.{◌≡◌, ℕ, zero, suc, ◌+◌, ◌<◌, ◌≤◌, ◌⊎◌, inl, inr, Bool, cond, List, [], ◌∷◌, ◌++◌, length, refl, sym, ap, subst, ◌∙◌, arith, Option, Some, None}
use Rattle.std.specs.Prelude.{◌≢◌, filter_map, slice_get, All}
use Rattle.std.specs.List.{enumerate_from, last_or, cons_option}
use Rattle.std.proofs.Math.Logic.{⊎_elim}
use Rattle.std.proofs.lemmas.Bool.{eq-eqb, ne_eqb, cases_eq}
use Rattle.std.proofs.lemmas.Option.{none-some, same_Some}
use Rattle.std.proofs.lemmas.List.{map-append, length-map, length-replicate}
use Rattle.std.proofs.lemmas.List.Sums.{fold-append}
use Rattle.std.proofs.lemmas.List.Elements.{filter_map-append, All-set}
use Rattle.bc_base.specs.Story.{StartsWith}
use Rattle.bc_profile.specs.declared.event.Event.{Event}
use Rattle.bc_profile.specs.declared.event.Event.TheVariants as events
use Rattle.bc_profile.specs.declared.noted.Noted.{Noted}
use Rattle.bc_profile.specs.declared.skips.Skip.{Skip}
use Rattle.bc_profile.specs.SlotJournal.{Slots, opening, after_event, after_events, key_of}
use Rattle.bc_profile.specs.Programmings.{programming_at}
use Rattle.bc_profile.specs.Story.{Holds, IsGone, Programs, event_in, events_of}
use Rattle.bc_profile.proofs.KeyLemmas.{last_append, enumerate-append, key_gone, key_inside, same_count}

-- the programmings of a key, the first event having this place
abbrev from_place : ℕ → ℕ → List Event → List (ℕ × ℕ)
from_place key first journal = filter_map (programming_at key) (enumerate_from first journal)

-- the last one was there before, or is one of these
abbrev IsThere : ℕ → ℕ → ℕ → ℕ → List Event → Type 0
IsThere key first slot epoch journal = (n : ℕ) × (first + n ≡ epoch) × (skipped : List Skip) × (slice_get journal n ≡ Some (events.Program slot key skipped))

later_there : (key first slot epoch : ℕ) (event : Event) (journal : List Event) → IsThere key (first + 1) slot epoch journal → IsThere key first slot epoch (event ∷ journal)
later_there key first slot epoch event journal is = (suc is.0, (let e = is.1 in omega (arith, e)), is.2, is.3)

skip_event : (key first slot epoch : ℕ) (o : Option (ℕ × ℕ)) (event : Event) (journal : List Event) → (o ≡ Some (slot, epoch)) ⊎ IsThere key (first + 1) slot epoch journal → (o ≡ Some (slot, epoch)) ⊎ IsThere key first slot epoch (event ∷ journal)
skip_event key first slot epoch o event journal is = ⊎_elim (λ (e : o ≡ Some (slot, epoch)). inl e) (λ (more : IsThere key (first + 1) slot epoch journal). inr (later_there key first slot epoch event journal more)) is

last_there : (key first slot epoch : ℕ) (o : Option (ℕ × ℕ)) (journal : List Event) → last_or o (from_place key first journal) ≡ Some (slot, epoch) → (o ≡ Some (slot, epoch)) ⊎ IsThere key first slot epoch journal
last_there key first slot epoch o [] is = inl is
last_there key first slot epoch o (events.Program s k skipped ∷ journal) is =
    ⊎_elim
    (λ (same : k ≡ key).
    ⊎_elim
    (λ (e : Some (s, first) ≡ Some (slot, epoch)).
    let pair = same_Some (s, first) (slot, epoch) e in
    inr (
      zero,
      (let f = ap (λ (y : ℕ × ℕ). y.1) pair in omega (arith, f)),
      skipped,
      ap (λ (z : ℕ). Some (events.Program z k skipped)) (ap (λ (y : ℕ × ℕ). y.0) pair) ∙ ap (λ (z : ℕ). Some (events.Program slot z skipped)) same,
    ))
    (λ (more : IsThere key (first + 1) slot epoch journal). inr (later_there key first slot epoch (events.Program s k skipped) journal more))
    (last_there key (first + 1) slot epoch (Some (s, first)) journal (sym (ap (λ (b : Bool). last_or o (cons_option (cond b (Some (s, first)) None) (from_place key (first + 1) journal))) (eq-eqb k key same)) ∙ is)))
    (λ (apart : k ≢ key).
    ⊎_elim
    (λ (e : o ≡ Some (slot, epoch)). inl e)
    (λ (more : IsThere key (first + 1) slot epoch journal). inr (later_there key first slot epoch (events.Program s k skipped) journal more))
    (last_there key (first + 1) slot epoch o journal (sym (ap (λ (b : Bool). last_or o (cons_option (cond b (Some (s, first)) None) (from_place key (first + 1) journal))) (ne_eqb k key apart)) ∙ is)))
    (cases_eq k key)
last_there key first slot epoch o (events.Idle s ∷ journal) is = skip_event key first slot epoch o (events.Idle s) journal (last_there key (first + 1) slot epoch o journal is)
last_there key first slot epoch o (events.Evict s k ∷ journal) is = skip_event key first slot epoch o (events.Evict s k) journal (last_there key (first + 1) slot epoch o journal is)
last_there key first slot epoch o (events.Busy s k n ∷ journal) is = skip_event key first slot epoch o (events.Busy s k n) journal (last_there key (first + 1) slot epoch o journal is)
last_there key first slot epoch o (events.Reset ∷ journal) is = skip_event key first slot epoch o events.Reset journal (last_there key (first + 1) slot epoch o journal is)

-- a hold names its programming
pub held_programmed : (count : ℕ) (front : List Noted) (key slot epoch : ℕ) → Holds count front key slot epoch → Programs front epoch slot key
held_programmed count front key slot epoch holds =
    ⊎_elim
    (λ (e : None ≡ Some (slot, epoch)). absurd (none-some (slot, epoch) e))
    (λ (is : IsThere key 0 slot epoch (events_of front)). let at : is.0 ≡ epoch = (let e = is.1 in omega (arith, e)) in (is.2, subst (λ n. slice_get (events_of front) n ≡ Some (events.Program slot key is.2)) at is.3))
    (last_there key 0 slot epoch None (events_of front) holds.last)

count_events : (s : Slots) (es : List Event) → length (after_events s es).keys ≡ length s.keys
count_events s [] = refl
count_events s (e ∷ es) = count_events (after_event s e) es ∙ same_count s e

-- a slot that has a key is one of the slots
pub held_inside : (count : ℕ) (front : List Noted) (key slot epoch : ℕ) → Holds count front key slot epoch → slot < count
held_inside count front key slot epoch holds =
    let inside = key_inside (after_events (opening count) (events_of front)).keys slot key holds.has_key in
    let same = count_events (opening count) (events_of front) in
    let all = length-replicate {A = Option ℕ} count None in omega (arith, inside, same, all)

-- the last one is there already, or stands after the first of these
last_from : (key first slot epoch : ℕ) (o : Option (ℕ × ℕ)) (journal : List Event) → last_or o (from_place key first journal) ≡ Some (slot, epoch) → (o ≡ Some (slot, epoch)) ⊎ (first ≤ epoch)
last_from key first slot epoch o journal is =
    ⊎_elim (λ (e : o ≡ Some (slot, epoch)). inl e) (λ (there : IsThere key first slot epoch journal). inr (let e = there.1 in omega (arith, e))) (last_there key first slot epoch o journal is)

-- a programming of the key isn't after the last one
not_behind : (key first slot epoch place s : ℕ) (skipped : List Skip) (o : Option (ℕ × ℕ)) (journal : List Event) → slice_get journal place ≡ Some (events.Program s key skipped)
    → last_or o (from_place key first journal) ≡ Some (slot, epoch) → first + place ≤ epoch
not_behind key first slot epoch place s skipped o [] at is = absurd (none-some (events.Program s key skipped) at)
not_behind key first slot epoch zero s skipped o (x ∷ journal) at is =
    let here : programming_at key (first, x) ≡ Some (s, first) =
    ap (λ (e : Event). programming_at key (first, e)) (same_Some x (events.Program s key skipped) at) ∙ ap (λ (b : Bool). cond b (Some (s, first)) None) (eq-eqb key key refl) in
    let last : last_or (Some (s, first)) (from_place key (first + 1) journal) ≡ Some (slot, epoch) = sym (ap (λ p. last_or o (cons_option p (from_place key (first + 1) journal))) here) ∙ is in
    ⊎_elim
    (λ (e : Some (s, first) ≡ Some (slot, epoch)). let same : first ≡ epoch = ap (λ (y : ℕ × ℕ). y.1) (same_Some (s, first) (slot, epoch) e) in omega (arith, same))
    (λ (le : first + 1 ≤ epoch). omega (arith, le)) (last_from key (first + 1) slot epoch (Some (s, first)) journal last)
not_behind key first slot epoch (suc place) s skipped o (x ∷ journal) at is =
    let later : (o' : Option (ℕ × ℕ)) → last_or o' (from_place key (first + 1) journal) ≡ Some (slot, epoch) → first + suc place ≤ epoch =
    λ o' is'. let le = not_behind key (first + 1) slot epoch place s skipped o' journal at is' in omega (arith, le) in
    (elim (programming_at key (first, x)) as (λ (p : Option (ℕ × ℕ)). last_or o (cons_option p (from_place key (first + 1) journal)) ≡ Some (slot, epoch) → first + suc place ≤ epoch) [
      | None ↦ λ is'. later o is'
      | Some y ↦ λ is'. later (Some y) is'
    ]) is

pub never_earlier : (count : ℕ) (front : List Noted) (key slot epoch place other : ℕ) → Holds count front key slot epoch → Programs front place other key → place ≤ epoch
never_earlier count front key slot epoch place other holds programs =
    let le = not_behind key 0 slot epoch place other programs.0 None (events_of front) programs.1 holds.last in omega (arith, le)

-- ---- after an eviction

behind : (key slot s epoch first : ℕ) (o : Option (ℕ × ℕ)) (slots : Slots) (more : List Event) → All (λ other. other ≢ Some key) slots.keys
    → key_of (after_events slots more) slot ≡ Some key → last_or o (from_place key first more) ≡ Some (s, epoch) → first ≤ epoch
behind key slot s epoch first o slots [] gone has is = absurd (key_gone slots.keys slot key gone has)
behind key slot s epoch first o slots (events.Program s' k skipped ∷ more) gone has is =
    ⊎_elim
    (λ (e : k ≡ key).
    let here : last_or (Some (s', first)) (from_place key (first + 1) more) ≡ Some (s, epoch) =
    sym (ap (λ (b : Bool). last_or o (cons_option (cond b (Some (s', first)) None) (from_place key (first + 1) more))) (eq-eqb k key e)) ∙ is in
    ⊎_elim
    (λ (same : Some (s', first) ≡ Some (s, epoch)). let place : first ≡ epoch = ap (λ (y : ℕ × ℕ). y.1) (same_Some (s', first) (s, epoch) same) in omega (arith, place))
    (λ (le : first + 1 ≤ epoch). omega (arith, le)) (last_from key (first + 1) s epoch (Some (s', first)) more here))
    (λ (ne : k ≢ key).
    let here : last_or o (from_place key (first + 1) more) ≡ Some (s, epoch) =
    sym (ap (λ (b : Bool). last_or o (cons_option (cond b (Some (s', first)) None) (from_place key (first + 1) more))) (ne_eqb k key ne)) ∙ is in
    let le = behind key slot s epoch (first + 1) o (after_event slots (events.Program s' k skipped)) more
    (All-set (λ other. other ≢ Some key) slots.keys s' (Some k) (λ e. ne (same_Some k key e)) gone) has here in omega (arith, le))
    (cases_eq k key)
behind key slot s epoch first o slots (events.Idle s' ∷ more) gone has is = let le = behind key slot s epoch (first + 1) o (after_event slots (events.Idle s')) more gone has is in omega (arith, le)
behind key slot s epoch first o slots (events.Evict s' k ∷ more) gone has is =
    let le = behind key slot s epoch (first + 1) o (after_event slots (events.Evict s' k)) more
    (All-set (λ other. other ≢ Some key) slots.keys s' None (λ e. none-some key e) gone) has is in omega (arith, le)
behind key slot s epoch first o slots (events.Busy s' k n ∷ more) gone has is = let le = behind key slot s epoch (first + 1) o slots more gone has is in omega (arith, le)
behind key slot s epoch first o slots (events.Reset ∷ more) gone has is = let le = behind key slot s epoch (first + 1) o slots more gone has is in omega (arith, le)

pub later_after_gone : (count : ℕ) (before front : List Noted) (key slot epoch : ℕ) → StartsWith front before → IsGone count before key → Holds count front key slot epoch → length before ≤ epoch
later_after_gone count before front key slot epoch begins gone holds =
    let old = events_of before in
    let new = events_of begins.0 in
    let events_are : events_of front ≡ old ++ new = ap events_of begins.1 ∙ map-append event_in before begins.0 in
    let numbered : from_place key 0 (old ++ new) ≡ from_place key 0 old ++ from_place key (length old) new =
    ap (filter_map (programming_at key)) (enumerate-append 0 (length old) old new (omega arith)) ∙ filter_map-append (programming_at key) (enumerate_from 0 old) (enumerate_from (length old) new) in
    let last : last_or (last_or None (from_place key 0 old)) (from_place key (length old) new) ≡ Some (slot, epoch) =
    sym (last_append None (from_place key 0 old) (from_place key (length old) new)) ∙ sym (ap (last_or None) numbered) ∙ sym (ap (λ l. last_or None (from_place key 0 l)) events_are) ∙ holds.last in
    let has : key_of (after_events (after_events (opening count) old) new) slot ≡ Some key =
    sym (ap (λ (t : Slots). key_of t slot) (ap (after_events (opening count)) events_are ∙ fold-append after_event (opening count) old new)) ∙ holds.has_key in
    let le = behind key slot slot epoch (length old) (last_or None (from_place key 0 old)) (after_events (opening count) old) new gone has last in
    let long : length old ≡ length before = length-map before event_in in omega (arith, le, long)

get_front : {A : Type 0} (xs ys : List A) (n : ℕ) (x : A) → slice_get xs n ≡ Some x → slice_get (xs ++ ys) n ≡ Some x
get_front [] ys n x at = absurd (none-some x at)
get_front (y ∷ xs) ys zero x at = at
get_front (y ∷ xs) ys (suc n) x at = get_front xs ys n x at

-- a programming in a prefix stands in each longer one
pub programs_more : (before front : List Noted) (epoch slot key : ℕ) → StartsWith front before → Programs before epoch slot key → Programs front epoch slot key
programs_more before front epoch slot key begins programs = (
  programs.0,
  subst (λ l. slice_get l epoch ≡ Some (events.Program slot key programs.0)) (sym (ap events_of begins.1 ∙ map-append event_in before begins.0)) (get_front (events_of before) (events_of begins.0) epoch (events.Program slot key programs.0) programs.1),
)

inside_of : {A : Type 0} (xs : List A) (n : ℕ) (x : A) → slice_get xs n ≡ Some x → n < length xs
inside_of [] n x at = absurd (none-some x at)
inside_of (y ∷ xs) zero x at = omega arith
inside_of (y ∷ xs) (suc n) x at = let l = inside_of xs n x at in omega (arith, l)

pub programs_inside : (front : List Noted) (epoch slot key : ℕ) → Programs front epoch slot key → epoch < length front
programs_inside front epoch slot key programs = let l = inside_of (events_of front) epoch (events.Program slot key programs.0) programs.1 in let m = length-map front event_in in omega (arith, l, m)

pub stays : (before front : List Noted) (epoch slot key : ℕ) → StartsWith front before → Programs before epoch slot key → Programs front epoch slot key × (epoch < length before)
stays before front epoch slot key begins programs = (programs_more before front epoch slot key begins programs, programs_inside before epoch slot key programs)

pub never_before : (count : ℕ) (before front : List Noted) (key slot epoch other earlier : ℕ) → StartsWith front before → Programs before earlier other key → Holds count front key slot epoch → earlier ≤ epoch
never_before count before front key slot epoch other earlier begins programs holds =
    never_earlier count front key slot epoch earlier other holds (programs_more before front earlier other key begins programs)
