-- The journal of one caller's uses: no slot is found with references, and at the end every slot is idle.
use Rattle.std.proofs.Common.{◌≡◌, ◌≢◌, ℕ, zero, suc, ◌+◌, ◌<◌, ◌≤◌, Bool, true, false, cond, List, [], ◌∷◌, ◌++◌, length, map, refl, sym, ap, subst, ◌∙◌, Option, Some, None, arith}
use Rattle.std.specs.Prelude.{◌==◌, ◌||◌, not, is_some, unwrap_or}
use Rattle.std.specs.List.{AllZip, enumerate_from, list_any, range_with_len}
use Rattle.std.specs.Option.{option_map_or}
use Rattle.std.proofs.Math.Logic.{⊎_elim}
use Rattle.std.proofs.lemmas.Bool.{eq-eqb, eqb-true, ne_eqb, cases_eq}
use Rattle.std.proofs.lemmas.List.Sums.{fold-append}
use Rattle.std.proofs.lemmas.List.Folds.{list_any-append}
use Rattle.std.proofs.lemmas.Map.Views.{any-filter_same}
use Rattle.bc_stack.specs.declared.target.Target.{Target}
use Rattle.bc_profile.specs.declared.event.Event.{Event}
use Rattle.bc_profile.specs.declared.event.Event.TheVariants as events
use Rattle.bc_profile.specs.declared.uses.Use.{Use}
use Rattle.bc_profile.specs.declared.uses.Use.TheVariants as uses
use Rattle.bc_profile.specs.SlotJournal.{Slots, opening, without, is_listed, after_event, after_events, EachEvent, AllIdle}
use Rattle.bc_profile.specs.OneCaller.{slot_with, slot_for, first_idle, events_of_hold, events_of_eviction, events_of_use, journal_of}
use Rattle.bc_script.specs.Script.{Script}
use Rattle.bc_report.specs.Holders.{HasHolders, HaveHolders}
use Rattle.bc_report.specs.LawfulRun.{EndIdle}
use Rattle.bc_report.specs.SerialRun.{serial_journal, uses_of}
use Rattle.bc_compose.specs.ComposedRun.{SerialRunsHaveKnownHolders, FindsNone}
use Rattle.bc_profile.proofs.SoloLemmas.{all_true}

-- ---- events one after the other

each_append : (P : Slots → Event → Type 0) (slots : Slots) (xs ys : List Event) → EachEvent P slots xs → EachEvent P (after_events slots xs) ys → EachEvent P slots (xs ++ ys)
each_append P slots [] ys ps qs = qs
each_append P slots (x ∷ xs) ys ps qs = (ps.0, each_append P (after_event slots x) xs ys ps.1 qs)

-- what holds of the events of each use, whatever the slots, holds of a journal of uses
pub each_of_uses : (P : Slots → Event → Type 0) → ((slots : Slots) (use' : Use) → EachEvent P slots (events_of_use slots use'))
    → (slots : Slots) (done : List Use) → EachEvent P slots (journal_of slots done)
each_of_uses P each slots [] = tt
each_of_uses P each slots (use' ∷ done) =
    each_append P slots (events_of_use slots use') (journal_of (after_events slots (events_of_use slots use')) done) (each slots use')
    (each_of_uses P each (after_events slots (events_of_use slots use')) done)

-- what uses keep of the slots
after_uses : (P : Slots → Type 0) → ((slots : Slots) (use' : Use) → P slots → P (after_events slots (events_of_use slots use')))
    → (slots : Slots) (done : List Use) → P slots → P (after_events slots (journal_of slots done))
after_uses P keeps slots [] has = has
after_uses P keeps slots (use' ∷ done) has =
    let now = after_events slots (events_of_use slots use') in
    subst P (sym (fold-append after_event slots (events_of_use slots use') (journal_of now done)))
    (after_uses P keeps now done (keeps slots use' has))

-- ---- holders

eviction_finds_none : (slots : Slots) (key : ℕ) → EachEvent (λ _ event. FindsNone event) slots (events_of_eviction slots key)
eviction_finds_none slots key =
    elim (slot_with slots key) as (λ (o : Option ℕ). EachEvent (λ _ event. FindsNone event) slots (option_map_or (λ slot. events.Evict slot key ∷ []) o [])) [
      | None ↦ tt
      | Some slot ↦ (tt, tt)
    ]

hold_finds_none : (slots : Slots) (key slot : ℕ) → EachEvent (λ _ event. FindsNone event) slots (events_of_hold slots key ++ events.Idle slot ∷ [])
hold_finds_none slots key slot =
    elim (is_some (slot_with slots key)) as (λ (b : Bool). EachEvent (λ _ event. FindsNone event) slots (cond b [] (events.Program (first_idle slots) key [] ∷ []) ++ events.Idle slot ∷ [])) [
      | true ↦ (tt, tt)
      | false ↦ (refl, (tt, tt))
    ]

pub use_finds_none : (slots : Slots) (use' : Use) → EachEvent (λ _ event. FindsNone event) slots (events_of_use slots use')
use_finds_none slots (uses.Hold key) = hold_finds_none slots key.0 (slot_for slots key.0)
use_finds_none slots (uses.Evict key) = eviction_finds_none slots key.0
use_finds_none slots uses.Reset = (tt, tt)

each_weaker : (P Q : Slots → Event → Type 0) → ((slots : Slots) (event : Event) → P slots event → Q slots event)
    → (slots : Slots) (journal : List Event) → EachEvent P slots journal → EachEvent Q slots journal
each_weaker P Q f slots [] each = tt
each_weaker P Q f slots (event ∷ journal) each = (f slots event each.0, each_weaker P Q f (after_event slots event) journal each.1)

needs_none : (script : Script) (device : ℕ) (slots : Slots) (event : Event) → FindsNone event → HasHolders script device slots event
needs_none script device slots (events.Program slot key []) none = λ k d less. absurd (omega (arith, less))
needs_none script device slots (events.Program slot key (skip ∷ skips)) none = absurd (omega (arith, ap length none))
needs_none script device slots (events.Busy slot key refs) none = absurd none
needs_none script device slots (events.Idle slot) none = tt
needs_none script device slots (events.Evict slot key) none = tt
needs_none script device slots events.Reset none = tt

has_holders : (script : Script) (device : ℕ) (slots : Slots) (done : List Use) → EachEvent (HasHolders script device) slots (journal_of slots done)
has_holders script device slots done =
    each_weaker (λ _ event. FindsNone event) (HasHolders script device) (needs_none script device) slots (journal_of slots done)
    (each_of_uses (λ _ event. FindsNone event) use_finds_none slots done)

-- ---- idle slots

-- each of so many slots is on the list
abbrev AreIdle : ℕ → Slots → Type 0
AreIdle count slots = (slot : ℕ) → slot < count → is_listed slots slot ≡ true

or_false : (b : Bool) → (b || false) ≡ b
or_false true = refl
or_false false = refl

or_true : (b : Bool) → (b || true) ≡ true
or_true true = refl
or_true false = refl

listed_without : (list : List ℕ) (slot o : ℕ) → o ≢ slot → list_any (λ other. other == o) (without slot list) ≡ list_any (λ other. other == o) list
listed_without list slot o differ =
    any-filter_same (λ other. other == o) (λ other. not (other == slot)) true (λ k is. ap not (ne_eqb k slot (λ same. differ (sym (eqb-true k o is) ∙ same)))) list

-- a slot that is idle once more stands at the end, and the others stand where they stood
listed_idle : (list : List ℕ) (slot o : ℕ) → (o ≢ slot → list_any (λ other. other == o) list ≡ true) → list_any (λ other. other == o) (without slot list ++ slot ∷ []) ≡ true
listed_idle list slot o others =
    list_any-append (λ other. other == o) (without slot list) (slot ∷ [])
    ∙ ⊎_elim
    (λ (same : o ≡ slot).
    ap (λ (b : Bool). list_any (λ other. other == o) (without slot list) || (b || false)) (eq-eqb slot o (sym same))
    ∙ or_true (list_any (λ other. other == o) (without slot list)))
    (λ (differ : o ≢ slot).
    ap (λ (b : Bool). b || ((slot == o) || false))
    (listed_without list slot o differ ∙ others differ))
    (cases_eq o slot)

idle_keeps : (count : ℕ) (slots : Slots) (slot : ℕ) → AreIdle count slots → AreIdle count (after_event slots (events.Idle slot))
idle_keeps count slots slot idle o inside = listed_idle slots.list slot o (λ _. idle o inside)

program_keeps : (count : ℕ) (slots : Slots) (slot key : ℕ) → AreIdle count slots
    → AreIdle count (after_events slots (events.Program slot key [] ∷ events.Idle slot ∷ []))
program_keeps count slots slot key idle o inside =
    listed_idle (without slot slots.list) slot o (λ differ. listed_without slots.list slot o differ ∙ idle o inside)

hold_keeps : (count : ℕ) (slots : Slots) (key : ℕ) → AreIdle count slots → AreIdle count (after_events slots (events_of_hold slots key ++ events.Idle (slot_for slots key) ∷ []))
hold_keeps count slots key idle =
    elim (slot_with slots key) as (λ (o : Option ℕ).
    AreIdle count (after_events slots (cond (is_some o) [] (events.Program (first_idle slots) key [] ∷ []) ++ events.Idle (unwrap_or o (first_idle slots)) ∷ []))) [
      | None ↦ program_keeps count slots (first_idle slots) key idle
      | Some slot ↦ idle_keeps count slots slot idle
    ]

evict_keeps : (count : ℕ) (slots : Slots) (key : ℕ) → AreIdle count slots → AreIdle count (after_events slots (events_of_eviction slots key))
evict_keeps count slots key idle =
    elim (slot_with slots key) as (λ (o : Option ℕ). AreIdle count (after_events slots (option_map_or (λ slot. events.Evict slot key ∷ []) o []))) [
      | None ↦ idle
      | Some slot ↦ idle
    ]

use_keeps : (count : ℕ) (slots : Slots) (use' : Use) → AreIdle count slots → AreIdle count (after_events slots (events_of_use slots use'))
use_keeps count slots (uses.Hold key) idle = hold_keeps count slots key.0 idle
use_keeps count slots (uses.Evict key) idle = evict_keeps count slots key.0 idle
use_keeps count slots uses.Reset idle = idle

listed_in_range : (first n o : ℕ) → first ≤ o → o < first + n → list_any (λ other. other == o) (range_with_len first n) ≡ true
listed_in_range first zero o low high = absurd (omega arith)
listed_in_range first (suc n) o low high =
    ⊎_elim
    (λ (same : o ≡ first). ap (λ (b : Bool). b || list_any (λ other. other == o) (range_with_len (first + 1) n)) (eq-eqb first o (sym same)))
    (λ (differ : o ≢ first).
    ap (λ (b : Bool). (first == o) || b) (listed_in_range (first + 1) n o (omega arith) (omega arith)) ∙ or_true (first == o))
    (cases_eq o first)

opening_idle : (count : ℕ) → AreIdle count (opening count)
opening_idle count o inside = listed_in_range 0 count o (omega arith) (omega arith)

all_idle : (count : ℕ) (done : List Use) → AllIdle count (journal_of (opening count) done)
all_idle count done =
    all_true (is_listed (after_events (opening count) (journal_of (opening count) done))) 0 count
    (λ k less. after_uses (AreIdle count) (use_keeps count) (opening count) done (opening_idle count) k (omega (arith, less)))

-- ---- the law

have_holders : (script : Script) (first : ℕ) (targets : List Target)
    → AllZip (λ target events. EachEvent (HasHolders script target.0) (opening target.1.slots) events) (enumerate_from first targets) (map (serial_journal script) (enumerate_from first targets))
have_holders script first [] = tt
have_holders script first (target ∷ targets) =
    (has_holders script first (opening target.slots) (map (λ u. u.use') (uses_of script first)), have_holders script (first + 1) targets)

end_idle : (script : Script) (first : ℕ) (targets : List Target) → EndIdle targets (map (serial_journal script) (enumerate_from first targets))
end_idle script first [] = tt
end_idle script first (target ∷ targets) = (all_idle target.slots (map (λ u. u.use') (uses_of script first)), end_idle script (first + 1) targets)

pub known_holders : SerialRunsHaveKnownHolders
known_holders script run report rules serial = record {
  holders = subst (HaveHolders script) (sym serial.journals) (have_holders script 0 script.targets);
  all_idle = subst (EndIdle script.targets) (sym serial.journals) (end_idle script 0 script.targets);
}
