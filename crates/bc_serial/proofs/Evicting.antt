-- What an eviction and a reset by one caller tell of its thread's device.
use Rattle.std.proofs.Common.{◌≡◌, ◌≢◌, ℕ, zero, suc, ◌+◌, ◌<◌, ◌≤◌, ◌⊎◌, inl, inr, Bool, true, false, cond, List, [], ◌∷◌, ◌++◌, length, refl, sym, ap, subst, ◌∙◌, arith, Option, Some, None}
use Rattle.std.specs.Prelude.{slice_get}
use Rattle.std.specs.Option.{option_map_or}
use Rattle.std.proofs.Math.Logic.{⊎_elim}
use Rattle.std.proofs.lemmas.Bool.{eq-eqb, ne_eqb, cases_eq, cases_lt}
use Rattle.std.proofs.lemmas.Option.{get_or_from_slice_get}
use Rattle.bc_base.specs.Lists.{list_at}
use Rattle.bc_key.specs.declared.keys.KeyNo.{KeyNo}
use Rattle.bc_medium.specs.Shards.{orders_of}
use Rattle.bc_stack.specs.declared.target.Target.{Target}
use Rattle.bc_profile.specs.declared.event.Event.{Event}
use Rattle.bc_profile.specs.declared.event.Event.TheVariants as events
use Rattle.bc_profile.specs.declared.uses.Use.TheVariants as uses
use Rattle.bc_profile.specs.SlotJournal.{Slots, InNoSlot, slots_after}
use Rattle.bc_profile.specs.OneCaller.{events_of_eviction}
use Rattle.bc_script.specs.Script.{Script}
use Rattle.bc_script.specs.Bios.{is_inline}
use Rattle.bc_script.specs.Windows as turns
use Rattle.bc_report.specs.declared.answer.Answer.TheVariants as answers
use Rattle.bc_report.specs.SerialRun.{DeviceUse, uses_of_turn}
use Rattle.bc_compose.specs.OrderedHolds.{IsTakenOut, slot_count_of}
use Rattle.bc_serial.specs.declared.open_hold.OpenHold.{OpenHold}
use Rattle.bc_serial.specs.Keyslots.{stories_of, used_at, used_each}
use Rattle.bc_section.specs.SectionProgress.{Evicted, HasReset}
use Rattle.bc_section.specs.Sections.{journal_seen}
use Rattle.bc_serial.specs.Standing.{CourseData, HasBegun, EvictsKey, ResetsDevice, own_device}
use Rattle.bc_section.specs.Uses.{after_uses}
use Rattle.bc_serial.proofs.Counting.{eviction_bounds, reset_bounds}
use Rattle.bc_section.proofs.Growing.{goes_none}
use Rattle.bc_section.proofs.Lists.{at_exists, list_at_past}
use Rattle.bc_serial.proofs.Stories.{GoOn, added_at, added_each, after_one, begun_more, by_use, goes_on_none, seen_journals, stories_note, used_at_goes_on, used_each_goes_on}
use Rattle.bc_medium.proofs.Growing.{begins_itself, grows_none}

read_within : {A : Type 0} (xs : List (List A)) (k : ℕ) → k < length xs → slice_get xs k ≡ Some (list_at xs k)
read_within xs k within =
    let r = at_exists xs k within in r.1 ∙ ap (λ (x : List _). Some x) (sym (get_or_from_slice_get xs k r.0 [] r.1))

read_past : {A : Type 0} (xs : List A) (k : ℕ) → length xs ≤ k → slice_get xs k ≡ None
read_past [] k past = refl
read_past (x ∷ xs) zero past = absurd (omega (arith, past))
read_past (x ∷ xs) (suc k) past = read_past xs k (omega (arith, past))

-- a device that the script doesn't have has no slots
no_slots : (script : Script) (device key : ℕ) (journal : List Event) → length script.targets ≤ device → journal ≡ [] → InNoSlot (slots_after (slot_count_of script device) journal) key
no_slots script device key journal past none =
    subst (λ (l : List Event). InNoSlot (slots_after (slot_count_of script device) l) key) (sym none)
    (subst (λ (o : Option Target). InNoSlot (slots_after (option_map_or (λ target. target.slots) o 0) []) key) (sym (read_past script.targets device past))
    (λ k d inside. absurd (omega (arith, inside))))

module _ (old : CourseData) (left : ℕ) (journals : List (List Event)) (opened : Option OpenHold)
    (has : HasBegun old.begun old.journals) (many : length old.journals ≡ length old.script.targets) (fits : old.left ≡ left + 1) where
  abbrev now : CourseData
  now = record old { left = left; journals = journals; opened = opened }

  -- what the device shows of a step by which the journals go on by just the events of these uses
  shows : (done : ℕ → List DeviceUse) (made : ℕ → List Event) → GoOn old.journals journals made
      → ((device : ℕ) → device < length old.script.targets → list_at old.journals device ++ made device ≡ after_uses old.script device (list_at old.journals device) (done device))
      → (device : ℕ) → device < length old.script.targets → journal_seen (own_device now) device ≡ after_uses old.script device (journal_seen (own_device old) device) (done device)
  shows done made goes each device within =
      seen_journals old.thread old.begun journals (begun_more old.begun old.journals journals made has goes) device
      ∙ goes.each device ∙ each device within
      ∙ ap (λ (l : List Event). after_uses old.script device l (done device)) (sym (seen_journals old.thread old.begun old.journals has device))

  taken_out : (key : ℕ) (made : ℕ → List Event) → GoOn old.journals journals made
      → ((device : ℕ) → device < length old.script.targets → InNoSlot (slots_after (slot_count_of old.script device) (list_at journals device)) key)
      → (device : ℕ) → IsTakenOut old.script (stories_of old.thread old.begun old.journals) (stories_of old.thread old.begun journals) device key
  taken_out key made goes gone device = record {
    front = list_at (stories_of old.thread old.begun journals) device;
    begins = (stories_note old.thread old.begun old.journals journals made has goes).fronts device;
    seen = begins_itself (list_at (stories_of old.thread old.begun journals) device);
    gone = subst (λ (l : List Event). InNoSlot (slots_after (slot_count_of old.script device) l) key)
        (sym (seen_journals old.thread old.begun journals (begun_more old.begun old.journals journals made has goes) device))
        (⊎_elim (gone device)
        (λ (past : length old.script.targets ≤ device). let count = goes.count in no_slots old.script device key (list_at journals device) past (list_at_past journals device (omega (arith, past, many, count))))
        (cases_lt device (length old.script.targets)));
  }

  module _ (op : ℕ) (key : KeyNo) where
    eviction : (made : ℕ → List Event) → GoOn old.journals journals made → ((device : ℕ) → (made device ≡ []) ⊎ ((slots : Slots) × (made device ≡ events_of_eviction slots key.0)))
        → ((device : ℕ) → device < length old.script.targets → list_at old.journals device ++ made device ≡ after_uses old.script device (list_at old.journals device) (uses_of_turn old.script device old.thread (turns.Evict key)))
        → (is_inline old.script key ≡ true → (device : ℕ) → device < length old.script.targets → InNoSlot (slots_after (slot_count_of old.script device) (list_at journals device)) key.0)
        → Evicted (own_device old) (own_device now) op key answers.Evicted
    eviction made goes each used gone = record {
      events = made;
      same = refl;
      spare = omega (arith, fits);
      grows = grows_none (length old.shards) old.thread (orders_of old.shards);
      alone = λ _. goes_none (length old.shards) old.thread (orders_of old.shards);
      notes = stories_note old.thread old.begun old.journals journals made has goes;
      bounds = eviction_bounds old.script old.thread op key made each;
      valid = tt;
      gone = λ device passed inline'. taken_out key.0 made goes (gone inline') device;
      uses = λ _. record { journals = shows (λ device. uses_of_turn old.script device old.thread (turns.Evict key)) made goes used; holds = tt };
    }

    pub evicted : (is_inline old.script key ≡ true → journals ≡ used_each old.script (uses.Evict key) old.journals) → (is_inline old.script key ≡ false → journals ≡ old.journals)
        → (is_inline old.script key ≡ true → (device : ℕ) → device < length old.script.targets → InNoSlot (slots_after (slot_count_of old.script device) (list_at journals device)) key.0)
        → Evicted (own_device old) (own_device now) op key answers.Evicted
    evicted inline' soft gone = by_way (is_inline old.script key) refl
      where
        turn : (b : Bool) → is_inline old.script key ≡ b → (device : ℕ) → uses_of_turn old.script device old.thread (turns.Evict key) ≡ cond {A = List DeviceUse} b (record { use' = uses.Evict key; units = [] } ∷ []) []
        turn b is device = ap (λ (b : Bool). cond {A = List DeviceUse} b (record { use' = uses.Evict key; units = [] } ∷ []) []) is

        by_way : (b : Bool) → is_inline old.script key ≡ b → Evicted (own_device old) (own_device now) op key answers.Evicted
        by_way true is =
            eviction (added_each old.script (uses.Evict key) old.journals)
            (subst (λ (js : List (List Event)). GoOn old.journals js (added_each old.script (uses.Evict key) old.journals)) (sym (inline' is)) (used_each_goes_on old.script (uses.Evict key) old.journals))
            (λ device. kinds device (slice_get old.journals device))
            (λ device within.
            ap (λ (o : Option (List Event)). list_at old.journals device ++ option_map_or (λ journal. by_use old.script device journal (uses.Evict key)) o []) (read_within old.journals device (omega (arith, within, many)))
            ∙ sym (after_one old.script device (list_at old.journals device) (uses.Evict key))
            ∙ ap (after_uses old.script device (list_at old.journals device)) (sym (turn true is device)))
            gone
          where
            kinds : (device : ℕ) (o : Option (List Event)) → (option_map_or (λ journal. by_use old.script device journal (uses.Evict key)) o [] ≡ [])
                ⊎ ((slots : Slots) × (option_map_or (λ journal. by_use old.script device journal (uses.Evict key)) o [] ≡ events_of_eviction slots key.0))
            kinds device None = inl refl
            kinds device (Some journal) = inr (slots_after (slot_count_of old.script device) journal, refl)
        by_way false is =
            eviction (λ device. [])
            (subst (λ (js : List (List Event)). GoOn old.journals js (λ device. [])) (sym (soft is)) (goes_on_none old.journals))
            (λ device. inl refl)
            (λ device within. ap (after_uses old.script device (list_at old.journals device)) (sym (turn false is device)))
            gone

  module _ (op device : ℕ) (within : device < length old.script.targets) (used : journals ≡ used_at old.script device uses.Reset old.journals) where
    pub was_reset : HasReset (own_device old) (own_device now) op device
    was_reset = record {
      events = made;
      same = refl;
      spare = omega (arith, fits);
      grows = grows_none (length old.shards) old.thread (orders_of old.shards);
      alone = λ _. goes_none (length old.shards) old.thread (orders_of old.shards);
      notes = stories_note old.thread old.begun old.journals journals made has goes;
      bounds = reset_bounds old.script op device made (λ other. refl);
      uses = λ _. record { journals = shows (λ other. uses_of_turn old.script other old.thread (turns.Reset device)) made goes each; holds = tt };
    }
      where
        made : ℕ → List Event
        made = added_at old.script device uses.Reset old.journals

        goes : GoOn old.journals journals made
        goes = subst (λ (js : List (List Event)). GoOn old.journals js made) (sym used) (used_at_goes_on old.script device uses.Reset old.journals (omega (arith, within, many)))

        each : (other : ℕ) → other < length old.script.targets
            → list_at old.journals other ++ made other ≡ after_uses old.script other (list_at old.journals other) (uses_of_turn old.script other old.thread (turns.Reset device))
        each other inside = ⊎_elim
            (λ (same : other ≡ device).
            ap (λ (b : Bool). list_at old.journals other ++ cond {A = List Event} b (events.Reset ∷ []) []) (eq-eqb other device same)
            ∙ sym (after_one old.script other (list_at old.journals other) uses.Reset)
            ∙ ap (λ (b : Bool). after_uses old.script other (list_at old.journals other) (cond {A = List DeviceUse} b (record { use' = uses.Reset; units = [] } ∷ []) [])) (sym (eq-eqb device other (sym same))))
            (λ (differ : other ≢ device).
            ap (λ (b : Bool). list_at old.journals other ++ cond {A = List Event} b (events.Reset ∷ []) []) (ne_eqb other device differ)
            ∙ ap (λ (b : Bool). after_uses old.script other (list_at old.journals other) (cond {A = List DeviceUse} b (record { use' = uses.Reset; units = [] } ∷ []) [])) (sym (ne_eqb device other (λ e. differ (sym e)))))
            (cases_eq other device)

-- an eviction, and a reset, as the thread's device shows it
pub is_evicted : (old new : CourseData) (op : ℕ) (key : KeyNo) → HasBegun old.begun old.journals → length old.journals ≡ length old.script.targets → EvictsKey old new key
    → Evicted (own_device old) (own_device new) op key answers.Evicted
is_evicted old new op key has many evicts =
    subst (λ (n : CourseData). Evicted (own_device old) (own_device n) op key answers.Evicted) (sym evicts.same)
    (evicted old new.left new.journals new.opened has many evicts.left op key evicts.inline evicts.soft evicts.gone)

pub is_reset : (old new : CourseData) (op device : ℕ) → HasBegun old.begun old.journals → length old.journals ≡ length old.script.targets → device < length old.script.targets → ResetsDevice old new device
    → HasReset (own_device old) (own_device new) op device
is_reset old new op device has many within resets =
    subst (λ (n : CourseData). HasReset (own_device old) (own_device n) op device) (sym resets.same)
    (was_reset old new.left new.journals new.opened has many resets.left op device within resets.reset)
