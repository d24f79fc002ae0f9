-- Journals, and counts of events: those of a device are those of its callers together, and so are the evictions and the
-- operations of a script.
use Rattle.std.proofs.Common.{◌≡◌, ℕ, ◌+◌, ◌<◌, ◌≤◌, Bool, cond, List, [], ◌∷◌, length, map, refl, sym, ap, subst, ◌∙◌, arith}
use Rattle.std.specs.Prelude.{◌==◌, ◌&&◌, ◌||◌, zip, count_by, sum_by}
use Rattle.std.specs.List.{enumerate_from, range_with_len}
use Rattle.std.proofs.lemmas.List.Sums.{sum_by-cons}
use Rattle.std.proofs.lemmas.List.Elements.{All-from_recursion}
use Rattle.bc_base.specs.Lists.{list_at}
use Rattle.bc_base.specs.Story.{own}
use Rattle.bc_bio.specs.Laws.{UnitsHaveSizes, UnitsLieInBlocks, UnrefusedIsAccepted}
use Rattle.bc_medium.specs.declared.entry.Entry.{Entry}
use Rattle.bc_profile.specs.declared.event.Event.{Event}
use Rattle.bc_profile.specs.declared.noted.Noted.{Noted}
use Rattle.bc_profile.specs.Story.{author_of, event_in, events_of}
use Rattle.bc_script.specs.declared.op.Op.{Op}
use Rattle.bc_script.specs.Script.{Script}
use Rattle.bc_report.specs.Report.{Report}
use Rattle.bc_report.specs.Evictions.{Eviction, evictions_in, evictions_of, is_evict, is_busy, is_busy_with, names_busy, names_device, names_before, count_answered, IsEvictionAnswer, EvictionsHold, BusyAnswersHold}
use Rattle.bc_report.specs.Counts.{count_operations, is_reset_of, touches_under, touches_any, is_reset, is_programming_of, is_idle, CountsHold}
use Rattle.bc_report.specs.LawfulRun.{HaveLawfulJournals}
use Rattle.bc_compose.specs.SectionDone.{own_events}
use Rattle.bc_compose.specs.ComposedRun.{AreSectionsOf}
use Rattle.bc_compose.proofs.Flat.{in_enumerated, slice_zip}
use Rattle.bc_compose.proofs.Sums.{sum_plus, sum_le, sum_same, count_own, sum_lists, count_flat, get_zip, length_zip}
use Rattle.bc_compose.proofs.Orders.{at_map}
use Rattle.bc_base.proofs.Members.{In, all_at, all_from_in}

module _ (sizes : UnitsHaveSizes) (blocks : UnitsLieInBlocks) (unrefused : UnrefusedIsAccepted)
    (script : Script) (image : List ℕ) (shards : ℕ) (report : Report) (left : List ℕ) (made : ℕ → List Entry) (orders : List (List Entry)) (journals : List (List Noted))
    (done : AreSectionsOf script image shards report left made orders journals) where
  abbrev pub callers : ℕ
  callers = length script.threads

  abbrev pub noted : ℕ → List (List Noted)
  noted = done.noted

  -- ---- journals

  pub journals_hold : HaveLawfulJournals script.targets report.devices
  journals_hold = subst (HaveLawfulJournals script.targets) (sym done.reported.devices) done.devices_closed.lawful

  pub device_at_is : (d : ℕ) → list_at report.devices d ≡ events_of (list_at journals d)
  device_at_is d = ap (λ l. list_at l d) done.reported.devices ∙ at_map event_in journals d

  -- ---- evictions

  -- those of a thread, among those of all
  abbrev pub own_evictions : (t : ℕ) → List Eviction
  own_evictions t = evictions_in (t, (list_at script.threads t, list_at report.threads t))

  pub eviction_from : (e : Eviction) → In e (evictions_of script report) → (t : ℕ) × (t < callers) × In e (own_evictions t)
  eviction_from e at' =
      let r = in_enumerated evictions_in 0 (zip script.threads report.threads) e at' in
      let z = slice_zip script.threads report.threads r.0 r.2 r.4 in
      let lt = z.0 in
      let n = r.3 in
      let same : r.0 ≡ r.1 = omega arith in
      (r.1, omega arith, subst (λ k. In e (evictions_in (r.1, (list_at script.threads k, list_at report.threads k)))) same (subst (λ w. In e (evictions_in (r.1, w))) z.2 r.5))

  -- ---- counts

  -- the events of a device, caller by caller
  events_by : (d : ℕ) (p : Event → Bool) → count_by p (list_at report.devices d) ≡ sum_by (λ c. count_by p (own_events c (noted c) d)) (range_with_len 0 callers)
  events_by d p =
      ap (count_by p) (device_at_is d)
      ∙ count_map (list_at journals d)
      ∙ count_own author_of (λ n. p n.event) callers (list_at journals d) (λ n at'. all_at (λ m. author_of m < callers) (list_at journals d) n (done.devices_closed.no_strangers d) at')
      ∙ sum_same (λ c. count_by (λ n. p n.event) (own author_of c (list_at journals d))) (λ c. count_by p (own_events c (noted c) d)) 0 callers
      (λ c lt. ap (count_by (λ n. p n.event)) (done.devices_closed.fronts c d (omega arith)).own_entries ∙ sym (count_map (own author_of c (list_at (noted c) d))))
    where
      count_map : (ns : List Noted) → count_by p (map event_in ns) ≡ count_by (λ n. p n.event) ns
      count_map [] = refl
      count_map (n ∷ ns) = sum_by-cons (λ e. cond (p e) 1 0) n.event (map event_in ns) ∙ ap (λ k. cond (p n.event) 1 0 + k) (count_map ns) ∙ sym (sum_by-cons (λ m. cond (p (event_in m)) 1 0) n ns)

  evictions_by : (q : Eviction → Bool) → count_by q (evictions_of script report) ≡ sum_by (λ c. count_by q (own_evictions c)) (range_with_len 0 callers)
  evictions_by q =
      count_flat q evictions_in (λ c. (list_at script.threads c, list_at report.threads c)) 0 (zip script.threads report.threads)
      (λ i t d e lt. let same : t ≡ i = omega arith in ap (λ k. (list_at script.threads k, list_at report.threads k)) same ∙ get_zip script.threads report.threads i d (sym done.answered) lt)
      ∙ ap (λ n. sum_by (λ c. count_by q (own_evictions c)) (range_with_len 0 n)) (length_zip script.threads report.threads (sym done.answered))

  operations_by : (test : ℕ × Op → Bool) → count_operations script test ≡ sum_by (λ c. count_by test (enumerate_from 0 (list_at script.threads c))) (range_with_len 0 callers)
  operations_by test =
      sum_lists (λ section. count_by test (enumerate_from 0 section)) (list_at script.threads) 0 script.threads (λ i t e lt. let same : t ≡ i = omega arith in ap (list_at script.threads) same)

  own_le : (f g : ℕ → ℕ) (a b : ℕ) → a ≡ sum_by f (range_with_len 0 callers) → b ≡ sum_by g (range_with_len 0 callers) → ((c : ℕ) → c < callers → f c ≤ g c) → a ≤ b
  own_le f g a b ea eb le = let h = sum_le f g 0 callers (λ i lt. le i (omega arith)) in omega (arith, ea, eb, h)

  pub evictions_hold : EvictionsHold script (evictions_of script report) report.devices
  evictions_hold = record {
    answers =
        All-from_recursion (λ e. IsEvictionAnswer script e.key e.answer) (evictions_of script report)
        (all_from_in (λ e. IsEvictionAnswer script e.key e.answer) (evictions_of script report)
        (λ e at'. let r = eviction_from e at' in all_at (λ x. IsEvictionAnswer script x.key x.answer) (own_evictions r.0) e (done.sections r.0 r.1).eviction_answers r.2));
    events = λ d key.
        own_le (λ c. count_by (λ event. is_evict key event || is_busy key event) (own_events c (noted c) d)) (λ c. count_by (λ e. e.key == key) (own_evictions c)) _ _
        (events_by d (λ event. is_evict key event || is_busy key event)) (evictions_by (λ e. e.key == key))
        (λ c there. (done.sections c there).bounds.evicts d key);
  }

  pub busy_answers_hold : BusyAnswersHold (evictions_of script report) report.devices
  busy_answers_hold = record {
    each_has_its_event = λ d key slot refs.
        own_le (λ c. count_answered (own_evictions c) key (names_busy d slot refs)) (λ c. count_by (is_busy_with key slot refs) (own_events c (noted c) d)) _ _
        (evictions_by (λ e. (e.key == key) && names_busy d slot refs e.answer)) (events_by d (is_busy_with key slot refs))
        (λ c there. (done.sections c there).bounds.busy d key slot refs);
    further = λ d key.
        own_le (λ c. count_by (is_busy key) (own_events c (noted c) d)) (λ c. count_answered (own_evictions c) key (names_device d) + count_answered (own_evictions c) key (names_before d)) _ _
        (events_by d (is_busy key))
        (ap (λ k. k + count_answered (evictions_of script report) key (names_before d)) (evictions_by (λ e. (e.key == key) && names_device d e.answer))
        ∙ ap (λ k. sum_by (λ c. count_answered (own_evictions c) key (names_device d)) (range_with_len 0 callers) + k) (evictions_by (λ e. (e.key == key) && names_before d e.answer))
        ∙ sym (sum_plus (λ c. count_answered (own_evictions c) key (names_device d)) (λ c. count_answered (own_evictions c) key (names_before d)) (range_with_len 0 callers)))
        (λ c there. (done.sections c there).bounds.further d key);
  }

  pub counts_hold : CountsHold script report.devices
  counts_hold = record {
    resets = λ d.
        events_by d is_reset
        ∙ sum_same (λ c. count_by is_reset (own_events c (noted c) d)) (λ c. count_by (is_reset_of d) (enumerate_from 0 (list_at script.threads c))) 0 callers (λ c lt. (done.sections c (omega arith)).bounds.resets d)
        ∙ sym (operations_by (is_reset_of d));
    programmings = λ d key.
        own_le (λ c. count_by (is_programming_of key) (own_events c (noted c) d)) (λ c. count_by (touches_under script d key) (enumerate_from 0 (list_at script.threads c))) _ _
        (events_by d (is_programming_of key)) (operations_by (touches_under script d key))
        (λ c there. (done.sections c there).bounds.programmings d key);
    idles = λ d.
        own_le (λ c. count_by is_idle (own_events c (noted c) d)) (λ c. count_by (touches_any script d) (enumerate_from 0 (list_at script.threads c))) _ _
        (events_by d is_idle) (operations_by (touches_any script d))
        (λ c there. (done.sections c there).bounds.idles d);
  }
