-- What each call of a book keeps of its parts, and what a book tells.
use Rattle.std.proofs.Common.{◌≡◌, ◌≢◌, ℕ, ◌<◌, ◌≤◌, ◌+◌, List, [], ◌∷◌, ◌++◌, length, get_or, refl, sym, ap, subst, ◌∙◌, Option, Some, None, arith}
use Rattle.std.specs.Prelude.{slice_set, All}
use Rattle.std.proofs.lemmas.List.{length-set, length-append, map_push, get_or-set_same, get_or_default}
use Rattle.bc_base.specs.Lists.{EachFrom}
use Rattle.bc_profile.specs.declared.event.Event.{Event}
use Rattle.bc_profile.specs.declared.event.Event.TheVariants as events
use Rattle.bc_profile.specs.declared.noted.Noted.{Noted}
use Rattle.bc_profile.specs.declared.skips.Skip.{Skip}
use Rattle.bc_profile.specs.SlotJournal.{Slots, Allowed, MayProgram, InNoSlot, after_event, key_of}
use Rattle.bc_profile.specs.SlotTable.{TableData}
use Rattle.bc_profile.specs.Stamps.{MatchesJournal, Named}
use Rattle.bc_profile.specs.Story.{Holds, IsGone, event_in, events_of, note, slots_told}
use Rattle.bc_profile.specs.Book.{IsBook}
use Rattle.bc_profile.proofs.KeyLemmas.{key_inside, slots_push, named_program, named_idle, named_evict, named_reset, named_busy, gone_evicted, told_more, same_count}
use Rattle.bc_profile.proofs.SoloLemmas.{told_holds}

pub told_push : (count : ℕ) (story : List Noted) (n : Noted) → slots_told count (story ++ n ∷ []) ≡ after_event (slots_told count story) n.event
told_push count story n = ap (λ l. Rattle.bc_profile.specs.SlotJournal.slots_after count l) (map_push event_in story n) ∙ slots_push count (events_of story) n.event

module _ (table : TableData) (epochs : List ℕ) (story : List Noted) (limit capacity : ℕ) (is : IsBook table epochs story limit capacity) where
  abbrev keys : List (Option ℕ)
  keys = table.slots.keys

  pub more : (table' : TableData) (epochs' : List ℕ) (story' : List Noted) (capacity' caller : ℕ) (e : Event) → length story < limit
      → Allowed table.slots e → table'.slots ≡ after_event table.slots e → length epochs' ≡ length epochs → Named table'.slots.keys epochs' (events_of story ++ e ∷ [])
      → story' ≡ story ++ note caller e ∷ [] → capacity' ≡ capacity → IsBook table' epochs' story' limit capacity'
  more table' epochs' story' capacity' caller e room may slots many named grows same =
      let n = note caller e in
      let count : length table'.slots.keys ≡ length keys = ap (λ (s : Slots). length s.keys) slots ∙ same_count table.slots e in
      let journal : events_of story' ≡ events_of story ++ e ∷ [] = ap events_of grows ∙ map_push event_in story n in record {
        slots_left =
            slots ∙ ap (λ s. after_event s e) is.slots_left ∙ sym (told_push (length keys) story n)
            ∙ ap (λ k. slots_told k (story ++ n ∷ [])) (sym count) ∙ ap (slots_told (length table'.slots.keys)) (sym grows);
        told = subst (MatchesJournal table'.slots.keys epochs') (sym journal)
            (told_more keys table'.slots.keys epochs epochs' (events_of story) e is.told (subst (λ s. Allowed s e) is.slots_left may)
            (ap (λ (s : Slots). s.keys) slots ∙ ap (λ s. (after_event s e).keys) is.slots_left) many named);
        within = let l = ap length grows ∙ length-append story (n ∷ []) in omega (arith, room, l);
        small = is.small;
        reserved = let r = is.reserved in omega (arith, r, same);
      }

  -- only references changed
  pub quiet : (table' : TableData) → table'.slots ≡ table.slots → IsBook table' epochs story limit capacity
  quiet table' same = record {
    slots_left = same ∙ is.slots_left ∙ ap (λ (s : Slots). slots_told (length s.keys) story) (sym same);
    told = subst (λ (s : Slots). MatchesJournal s.keys epochs (events_of story)) (sym same) is.told;
    within = is.within;
    small = is.small;
    reserved = is.reserved;
  }

  -- what a key in a slot tells
  pub holds_at : (slot key : ℕ) → key_of table.slots slot ≡ Some key → Holds (length keys) story key slot (get_or epochs slot 0)
  holds_at slot key has = told_holds keys epochs (events_of story) slot key is.told has

  pub epoch_inside : (slot key : ℕ) → key_of table.slots slot ≡ Some key → slot < length epochs
  epoch_inside slot key has = let inside = key_inside keys slot key has in omega (arith, inside, is.told.as_many)

  -- a key that is in no slot
  pub is_gone : (key : ℕ) → InNoSlot table.slots key → IsGone (length keys) story key
  is_gone key nowhere = subst (λ s. InNoSlot s key) is.slots_left nowhere

  -- a programming
  pub programs : (table' : TableData) (story' : List Noted) (capacity' caller slot key : ℕ) (skipped : List Skip) → length story < limit → MayProgram table.slots slot key skipped
      → table'.slots ≡ after_event table.slots (events.Program slot key skipped) → story' ≡ story ++ note caller (events.Program slot key skipped) ∷ [] → capacity' ≡ capacity
      → (epoch : ℕ) → epoch ≡ length story → IsBook table' (slice_set epochs slot epoch) story' limit capacity'
  programs table' story' capacity' caller slot key skipped room may slots grows same epoch at =
      more table' (slice_set epochs slot epoch) story' capacity' caller (events.Program slot key skipped) room may slots (length-set epochs slot epoch)
      (subst (λ (s : Slots). Named s.keys (slice_set epochs slot epoch) (events_of story ++ events.Program slot key skipped ∷ [])) (sym slots)
      (subst (λ n. Named (slice_set keys slot (Some key)) (slice_set epochs slot n) (events_of story ++ events.Program slot key skipped ∷ []))
      (Rattle.std.proofs.lemmas.List.length-map story event_in ∙ sym at)
      (named_program keys epochs (events_of story) slot key skipped is.told.named may.key_in_no_slot may.is_slot is.told.as_many)))
      grows same

  pub program_holds : (table' : TableData) (story' : List Noted) (capacity' caller slot key : ℕ) (skipped : List Skip) → length story < limit → MayProgram table.slots slot key skipped
      → table'.slots ≡ after_event table.slots (events.Program slot key skipped) → story' ≡ story ++ note caller (events.Program slot key skipped) ∷ [] → capacity' ≡ capacity
      → (epoch : ℕ) → epoch ≡ length story → Holds (length table'.slots.keys) story' key slot epoch
  program_holds table' story' capacity' caller slot key skipped room may slots grows same epoch at =
      let after = programs table' story' capacity' caller slot key skipped room may slots grows same epoch at in
      let has : key_of table'.slots slot ≡ Some key = ap (λ s. key_of s slot) slots ∙ get_or-set_same keys slot (Some key) None may.is_slot in
      subst (Holds (length table'.slots.keys) story' key slot) (get_or-set_same epochs slot epoch 0 (omega (arith, may.is_slot, is.told.as_many)))
      (told_holds table'.slots.keys (slice_set epochs slot epoch) (events_of story') slot key after.told has)

  pub idles : (table' : TableData) (story' : List Noted) (capacity' caller slot : ℕ) → length story < limit → slot < length keys → table'.slots ≡ after_event table.slots (events.Idle slot)
      → story' ≡ story ++ note caller (events.Idle slot) ∷ [] → capacity' ≡ capacity → IsBook table' epochs story' limit capacity'
  idles table' story' capacity' caller slot room inside slots grows same =
      more table' epochs story' capacity' caller (events.Idle slot) room inside slots refl
      (subst (λ (s : Slots). Named s.keys epochs (events_of story ++ events.Idle slot ∷ [])) (sym slots) (named_idle keys epochs (events_of story) slot is.told.named)) grows same

  pub evicts : (table' : TableData) (story' : List Noted) (capacity' caller slot key : ℕ) → length story < limit → key_of table.slots slot ≡ Some key → table'.slots ≡ after_event table.slots (events.Evict slot key)
      → story' ≡ story ++ note caller (events.Evict slot key) ∷ [] → capacity' ≡ capacity → IsBook table' epochs story' limit capacity'
  evicts table' story' capacity' caller slot key room has slots grows same =
      more table' epochs story' capacity' caller (events.Evict slot key) room has slots refl
      (subst (λ (s : Slots). Named s.keys epochs (events_of story ++ events.Evict slot key ∷ [])) (sym slots)
      (named_evict keys epochs (events_of story) slot key (key_inside keys slot key has) is.told.named)) grows same

  pub evicted_gone : (table' : TableData) (story' : List Noted) (capacity' caller slot key : ℕ) → length story < limit → key_of table.slots slot ≡ Some key → table'.slots ≡ after_event table.slots (events.Evict slot key)
      → story' ≡ story ++ note caller (events.Evict slot key) ∷ [] → capacity' ≡ capacity → IsGone (length table'.slots.keys) story' key
  evicted_gone table' story' capacity' caller slot key room has slots grows same =
      let after = evicts table' story' capacity' caller slot key room has slots grows same in
      subst (λ s. InNoSlot s key) (after.slots_left)
      (subst (λ (s : Slots). All (λ other. other ≢ Some key) s.keys) (sym slots)
      (gone_evicted keys epochs (events_of story) slot key (key_inside keys slot key has) has is.told.named))

  pub refuses : (table' : TableData) (story' : List Noted) (capacity' caller slot key refs : ℕ) → length story < limit → key_of table.slots slot ≡ Some key → 1 ≤ refs → table'.slots ≡ table.slots
      → story' ≡ story ++ note caller (events.Busy slot key refs) ∷ [] → capacity' ≡ capacity → IsBook table' epochs story' limit capacity'
  refuses table' story' capacity' caller slot key refs room has some slots grows same =
      more table' epochs story' capacity' caller (events.Busy slot key refs) room (has, some) slots refl
      (subst (λ (s : Slots). Named s.keys epochs (events_of story ++ events.Busy slot key refs ∷ [])) (sym slots) (named_busy keys epochs (events_of story) slot key refs is.told.named)) grows same

  pub resets : (story' : List Noted) (capacity' caller : ℕ) → length story < limit → story' ≡ story ++ note caller events.Reset ∷ [] → capacity' ≡ capacity → IsBook table epochs story' limit capacity'
  resets story' capacity' caller room grows same =
      more table epochs story' capacity' caller events.Reset room tt refl refl (named_reset keys epochs (events_of story) is.told.named) grows same

pub each_from_push : {A : Type 0} (P : ℕ → A → Type 0) (first place : ℕ) (xs : List A) (x : A) → EachFrom P first xs → first + length xs ≡ place → P place x → EachFrom P first (xs ++ x ∷ [])
each_from_push P first place [] x each is here = (let e : place ≡ first = omega (arith, is) in subst (λ n. P n x) e here, tt)
each_from_push P first place (y ∷ ys) x each is here = (each.0, each_from_push P (first + 1) place ys x each.1 (omega (arith, is)) here)
