-- What each call of a keyslot manager for one caller keeps of its parts.
use Rattle.std.proofs.Common.{◌≡◌, ◌≢◌, ℕ, zero, suc, ◌<◌, ◌≤◌, ◌+◌, Bool, true, List, [], ◌∷◌, ◌++◌, length, map, get_or, take, drop, refl, sym, ap, subst, ◌∙◌, Option, Some, None, arith}
use Rattle.std.specs.Prelude.{◌&&◌, slice_set, All}
use Rattle.std.specs.List.{list_all, range_with_len}
use Rattle.std.proofs.lemmas.Option.{none-some, same_Some}
use Rattle.std.proofs.lemmas.List.{length-set, length-append, map-set}
use Rattle.std.proofs.lemmas.List.Elements.{All-set}
use Rattle.std.proofs.Math.Seq.{take-append_seam}
use Rattle.bc_profile.specs.declared.event.Event.{Event}
use Rattle.bc_profile.specs.declared.event.Event.TheVariants as events
use Rattle.bc_profile.specs.SlotJournal.{Slots, InNoSlot, MayProgram, after_event, slots_after, is_listed, AllIdle}
use Rattle.bc_profile.specs.Programmings.{Holds}
use Rattle.bc_profile.specs.OneCaller.{first_idle}
use Rattle.bc_profile.specs.Rows.{cleared, row_of, HasRow}
use Rattle.bc_profile.specs.Stamps.{MatchesJournal, AreStamped, next_stamp, owed, HasReserve, IsSolo}
use Rattle.bc_profile.proofs.KeyLemmas.{slots_push, named_program, named_idle, named_evict, named_reset, gone_evicted, told_more}
use Rattle.bc_profile.proofs.StampLemmas.{least_first, first_of_order, none_before, stamped_program, stamped_hold, stamped_idle, stamped_evict, stamped_reset}

-- ---- one event more

length_push : (journal journal' : List Event) (e : Event) → journal' ≡ journal ++ e ∷ [] → length journal' ≡ length journal + 1
length_push journal journal' e more = ap length more ∙ length-append journal (e ∷ [])

stamped_more : (count count' : ℕ) (journal journal' : List Event) (e : Event) (held : Option ℕ) (stamps : List ℕ) → count' ≡ count → journal' ≡ journal ++ e ∷ []
    → AreStamped (after_event (slots_after count journal) e) held stamps (next_stamp count journal + 1) → AreStamped (slots_after count' journal') held stamps (next_stamp count' journal')
stamped_more count count' journal journal' e held stamps same more stamped =
    let next : next_stamp count journal + 1 ≡ next_stamp count' journal' = omega (arith, same, length_push journal journal' e more) in
    let slots : after_event (slots_after count journal) e ≡ slots_after count' journal' =
    sym (slots_push count journal e) ∙ ap (λ n. slots_after n (journal ++ e ∷ [])) (sym same) ∙ ap (slots_after count') (sym more) in
    subst (λ n. AreStamped (slots_after count' journal') held stamps n) next (subst (λ s. AreStamped s held stamps (next_stamp count journal + 1)) slots stamped)

room_more : (count count' : ℕ) (journal journal' : List Event) (e : Event) (held held' : Option ℕ) (quota capacity capacity' : ℕ) → HasReserve count journal held quota capacity → count' ≡ count → journal' ≡ journal ++ e ∷ []
    → length journal + 1 + owed held' ≤ quota → capacity' ≡ capacity → HasReserve count' journal' held' quota capacity'
room_more count count' journal journal' e held held' quota capacity capacity' room same more fits roomy = record {
  some = let s = room.some in omega (arith, s, same);
  few = let f = room.few in omega (arith, f, same);
  small = room.small;
  within = omega (arith, fits, length_push journal journal' e more);
  reserved = let r = room.reserved in omega (arith, r, roomy);
}

-- the slot of a key, by the event that is kept for it
pub told_holds : (keys : List (Option ℕ)) (epochs : List ℕ) (journal : List Event) (slot key : ℕ) → MatchesJournal keys epochs journal → get_or keys slot None ≡ Some key → Holds (length keys) journal key slot (get_or epochs slot 0)
told_holds keys epochs journal slot key told has = record {
  last = told.named slot key has;
  has_key = ap (λ k. get_or k slot None) (sym told.keys_left) ∙ has;
}

pub all_true : (test : ℕ → Bool) (first n : ℕ) → ((k : ℕ) → k < first + n → test k ≡ true) → list_all test (range_with_len first n) ≡ true
all_true test first zero each = refl
all_true test first (suc n) each =
    ap (λ (b : Bool). b && list_all test (range_with_len (first + 1) n)) (each first (omega arith))
    ∙ all_true test (first + 1) n (λ k less. each k (omega (arith, less)))

-- ---- the calls

module _ (keys : List (Option ℕ)) (epochs stamps : List ℕ) (rows registers : List (List ℕ)) (journal : List Event) (quota capacity : ℕ) where
  slots : Slots
  slots = slots_after (length keys) journal

  module _ (is : IsSolo keys epochs stamps rows registers journal None quota capacity) where
    -- the slot that the search for the least stamp found is the first of the idle order
    module _ (least : ℕ) (inside : least < length keys) (lower : (k : ℕ) → k < length stamps → get_or stamps least 0 ≤ get_or stamps k 0) where
      least_is_first : (rest : List ℕ) × ((slots_after (length keys) journal).list ≡ least ∷ rest)
      least_is_first =
          let many : length keys ≡ length (slots_after (length keys) journal).keys = ap length is.told.keys_left in
          least_first (slots_after (length keys) journal) stamps (next_stamp (length keys) journal) least is.stamped (let a = is.stamped.as_many in omega (arith, inside, many, a)) lower

      pub is_first_idle : least ≡ first_idle (slots_after (length keys) journal)
      is_first_idle = sym (first_of_order (slots_after (length keys) journal) least least_is_first.0 least_is_first.1)

      pub may_program : (key : ℕ) → All (λ other. other ≢ Some key) keys → MayProgram (slots_after (length keys) journal) least key []
      may_program key nowhere = record {
        is_slot = let many = ap length is.told.keys_left in omega (arith, inside, many);
        key_in_no_slot = subst (All (λ other. other ≢ Some key)) is.told.keys_left nowhere;
        skips_those_before = none_before (slots_after (length keys) journal) least least_is_first.0 least_is_first.1;
        found_held = λ k d less. absurd (omega (arith, less));
      }

      pub keeps_program : (key : ℕ) (row : List ℕ) (journal' : List Event) (capacity' : ℕ) → All (λ other. other ≢ Some key) keys → key < length rows → row ≡ get_or rows key cleared
          → length journal + 2 ≤ quota → journal' ≡ journal ++ events.Program least key [] ∷ [] → capacity' ≡ capacity
          → IsSolo (slice_set keys least (Some key)) (slice_set epochs least (length journal)) stamps rows (slice_set registers least row) journal' (Some least) quota capacity'
      keeps_program key row journal' capacity' nowhere numbered is_row spare more roomy =
          let many = length-set keys least (Some key) in
          let left = ap (λ k. slice_set k least (Some key)) is.told.keys_left in record {
            told = subst (MatchesJournal (slice_set keys least (Some key)) (slice_set epochs least (length journal))) (sym more)
                (told_more keys (slice_set keys least (Some key)) epochs (slice_set epochs least (length journal)) journal (events.Program least key []) is.told (may_program key nowhere) left
                (length-set epochs least (length journal)) (named_program keys epochs journal least key [] is.told.named nowhere inside is.told.as_many));
            stamped = stamped_more (length keys) (length (slice_set keys least (Some key))) journal journal' (events.Program least key []) (Some least) stamps many more
                (stamped_program (slots_after (length keys) journal) stamps (next_stamp (length keys) journal) least key is.stamped);
            written = ap (λ r. slice_set r least row) is.written ∙ ap (slice_set (map (row_of rows) keys) least) is_row ∙ sym (map-set (row_of rows) keys least (Some key));
            with_rows = All-set (HasRow (length rows)) keys least (Some key) numbered is.with_rows;
            room = room_more (length keys) (length (slice_set keys least (Some key))) journal journal' (events.Program least key []) None (Some least) quota capacity capacity' is.room many more (omega (arith, spare)) roomy;
            held_is_slot = λ slot e. subst (λ s. s < length (slice_set keys least (Some key))) (same_Some least slot e) (omega (arith, inside, many));
          }

    pub keeps_hold : (slot : ℕ) → slot < length keys → length journal + 2 ≤ quota → IsSolo keys epochs stamps rows registers journal (Some slot) quota capacity
    keeps_hold slot inside spare = record {
      told = is.told;
      stamped = stamped_hold (slots_after (length keys) journal) stamps (next_stamp (length keys) journal) slot is.stamped;
      written = is.written;
      with_rows = is.with_rows;
      room = record { some = is.room.some; few = is.room.few; small = is.room.small; within = omega (arith, spare); reserved = is.room.reserved };
      held_is_slot = λ other e. subst (λ s. s < length keys) (same_Some slot other e) inside;
    }

    pub keeps_evict : (slot key : ℕ) (journal' : List Event) (capacity' : ℕ) → slot < length keys → get_or keys slot None ≡ Some key → length journal + 1 ≤ quota → journal' ≡ journal ++ events.Evict slot key ∷ [] → capacity' ≡ capacity
        → IsSolo (slice_set keys slot None) epochs stamps rows (slice_set registers slot cleared) journal' None quota capacity'
    keeps_evict slot key journal' capacity' inside has spare more roomy =
        let many = length-set keys slot None in
        let left = ap (λ k. slice_set k slot None) is.told.keys_left in record {
          told = subst (MatchesJournal (slice_set keys slot None) epochs) (sym more)
              (told_more keys (slice_set keys slot None) epochs epochs journal (events.Evict slot key) is.told (ap (λ k. get_or k slot None) (sym is.told.keys_left) ∙ has) left refl
              (named_evict keys epochs journal slot key inside is.told.named));
          stamped = stamped_more (length keys) (length (slice_set keys slot None)) journal journal' (events.Evict slot key) None stamps many more
              (stamped_evict (slots_after (length keys) journal) stamps (next_stamp (length keys) journal) slot is.stamped);
          written = ap (λ r. slice_set r slot cleared) is.written ∙ sym (map-set (row_of rows) keys slot None);
          with_rows = All-set (HasRow (length rows)) keys slot None tt is.with_rows;
          room = room_more (length keys) (length (slice_set keys slot None)) journal journal' (events.Evict slot key) None None quota capacity capacity' is.room many more (omega (arith, spare)) roomy;
          held_is_slot = λ other e. absurd (none-some other e);
        }

    pub evicted_gone : (slot key : ℕ) (journal' : List Event) → slot < length keys → get_or keys slot None ≡ Some key → journal' ≡ journal ++ events.Evict slot key ∷ []
        → InNoSlot (slots_after (length (slice_set keys slot None)) journal') key
    evicted_gone slot key journal' inside has more =
        let left : slice_set keys slot None ≡ (slots_after (length (slice_set keys slot None)) journal').keys =
        ap (λ k. slice_set k slot None) is.told.keys_left
        ∙ sym (ap (λ s. s.keys) (slots_push (length keys) journal (events.Evict slot key)))
        ∙ ap (λ n. (slots_after n (journal ++ events.Evict slot key ∷ [])).keys) (sym (length-set keys slot None))
        ∙ ap (λ j. (slots_after (length (slice_set keys slot None)) j).keys) (sym more) in
        subst (All (λ other. other ≢ Some key)) left (gone_evicted keys epochs journal slot key inside has is.told.named)

    pub keeps_reset : (registers' : List (List ℕ)) (journal' : List Event) (capacity' : ℕ) → registers' ≡ map (row_of rows) keys → length journal + 1 ≤ quota → journal' ≡ journal ++ events.Reset ∷ [] → capacity' ≡ capacity
        → IsSolo keys epochs stamps rows registers' journal' None quota capacity'
    keeps_reset registers' journal' capacity' written spare more roomy = record {
      told = subst (MatchesJournal keys epochs) (sym more) (told_more keys keys epochs epochs journal events.Reset is.told tt is.told.keys_left refl (named_reset keys epochs journal is.told.named));
      stamped = stamped_more (length keys) (length keys) journal journal' events.Reset None stamps refl more (stamped_reset (slots_after (length keys) journal) stamps (next_stamp (length keys) journal) is.stamped);
      written = written;
      with_rows = is.with_rows;
      room = room_more (length keys) (length keys) journal journal' events.Reset None None quota capacity capacity' is.room refl more (omega (arith, spare)) roomy;
      held_is_slot = is.held_is_slot;
    }

    pub all_idle : AllIdle (length keys) journal
    all_idle = all_true (is_listed (slots_after (length keys) journal)) 0 (length keys)
        (λ k less. is.stamped.listed k (let many = ap length is.told.keys_left in omega (arith, less, many)) (λ e. none-some k e))

  pub keeps_put : (slot : ℕ) (journal' : List Event) (capacity' : ℕ) → IsSolo keys epochs stamps rows registers journal (Some slot) quota capacity → journal' ≡ journal ++ events.Idle slot ∷ [] → capacity' ≡ capacity
      → IsSolo keys epochs (slice_set stamps slot (length keys + length journal)) rows registers journal' None quota capacity'
  keeps_put slot journal' capacity' is more roomy =
      let inside = is.held_is_slot slot refl in
      let many = ap length is.told.keys_left in
      let is_slot : slot < length (slots_after (length keys) journal).keys = omega (arith, inside, many) in record {
        told = subst (MatchesJournal keys epochs) (sym more) (told_more keys keys epochs epochs journal (events.Idle slot) is.told is_slot is.told.keys_left refl (named_idle keys epochs journal slot is.told.named));
        stamped = stamped_more (length keys) (length keys) journal journal' (events.Idle slot) None (slice_set stamps slot (length keys + length journal)) refl more
            (stamped_idle (slots_after (length keys) journal) stamps (next_stamp (length keys) journal) slot is_slot is.stamped);
        written = is.written;
        with_rows = is.with_rows;
        room = room_more (length keys) (length keys) journal journal' (events.Idle slot) (Some slot) None quota capacity capacity' is.room refl more (let w = is.room.within in omega (arith, w)) roomy;
        held_is_slot = λ other e. absurd (none-some other e);
      }

-- a slice that was lent whole and came back
pub written_back : (n : ℕ) (new old : List (List ℕ)) → length new ≡ n → take n (new ++ drop (length new) old) ≡ new
written_back n new old many = ap (λ k. take k (new ++ drop (length new) old)) (sym many) ∙ take-append_seam new (drop (length new) old)

-- ---- parts of which no slot is held

pub free_parts : (keys : List (Option ℕ)) (epochs stamps : List ℕ) (rows registers : List (List ℕ)) (journal : List Event) (quota capacity : ℕ) (held : Option ℕ) → held ≡ None
    → IsSolo keys epochs stamps rows registers journal held quota capacity → IsSolo keys epochs stamps rows registers journal None quota capacity
free_parts keys epochs stamps rows registers journal quota capacity held none is = subst (λ h. IsSolo keys epochs stamps rows registers journal h quota capacity) none is

pub held_parts : (keys : List (Option ℕ)) (epochs stamps : List ℕ) (rows registers : List (List ℕ)) (journal : List Event) (quota capacity : ℕ) (held : Option ℕ) → held ≡ None
    → IsSolo keys epochs stamps rows registers journal None quota capacity → IsSolo keys epochs stamps rows registers journal held quota capacity
held_parts keys epochs stamps rows registers journal quota capacity held none is = subst (λ h. IsSolo keys epochs stamps rows registers journal h quota capacity) (sym none) is
