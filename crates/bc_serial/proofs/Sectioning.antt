-- Sections that follow one another, as the journals show them: the true story of each device, in which each event has the thread
-- that made it, what a thread's section rests on in it, and which units the uses of sections are for.
use Rattle.std.proofs.Common.{◌≡◌, ℕ, zero, suc, ◌+◌, ◌<◌, ◌≤◌, Bool, false, List, [], ◌∷◌, ◌++◌, length, map, drop, append-nil, refl, sym, ap, subst, ◌∙◌, arith, Option}
use Rattle.std.proofs.Math.Path.{fun_ext}
use Rattle.std.specs.Prelude.{◌==◌, ◌||◌, zip, flat_map, slice_get, IsSomeAnd}
use Rattle.std.specs.List.{AllByRecursion, enumerate_from, list_any}
use Rattle.std.proofs.lemmas.Bool.{ne_eqb}
use Rattle.std.proofs.lemmas.List.{map-append}
use Rattle.std.proofs.lemmas.List.Elements.{filter-append}
use Rattle.std.proofs.lemmas.List.Folds.{list_any-append}
use Rattle.std.proofs.Math.Seq.{drop-append_seam}
use Rattle.bc_base.specs.Lists.{list_at}
use Rattle.bc_base.specs.Story.{own, IsFront}
use Rattle.bc_bio.specs.Windows.{TaggedBio}
use Rattle.bc_medium.specs.declared.entry.Entry.{Entry}
use Rattle.bc_medium.specs.declared.unit_name.UnitName.{UnitName}
use Rattle.bc_medium.specs.declared.via.Via.{Via}
use Rattle.bc_medium.specs.declared.via.Via.TheVariants as vias
use Rattle.bc_medium.specs.KeyedDisk.{Sectors}
use Rattle.bc_profile.specs.declared.event.Event.{Event}
use Rattle.bc_profile.specs.declared.noted.Noted.{Noted}
use Rattle.bc_profile.specs.Story.{author_of, event_in, events_of, notes}
use Rattle.bc_script.specs.declared.op.Op.{Op}
use Rattle.bc_script.specs.Script.{Script}
use Rattle.bc_script.specs.Windows.{Turn, turns_of}
use Rattle.bc_script.specs.Windows as turns
use Rattle.bc_report.specs.declared.answer.Answer.{Answer}
use Rattle.bc_report.specs.Evictions.{evictions_in}
use Rattle.bc_report.specs.Programmings.{IsProgramming}
use Rattle.bc_report.specs.SerialRun.{DeviceUse, uses_of_turn, uses_of_section}
use Rattle.bc_compose.specs.SectionDone.{key_of_entry, NamesOwn, own_events, Bounds, SectionDone}
use Rattle.bc_serial.specs.Keyslots.{story_of, stories_of}
use Rattle.bc_serial.specs.Standing.{HasBegun}
use Rattle.bc_section.specs.Uses.{is_for}
use Rattle.bc_section.proofs.Lists.{filter_none}
use Rattle.bc_section.proofs.Using.{EachUnit, none_for, other_thread, units_of_window, units_of_evict, units_of_reset}
use Rattle.bc_serial.proofs.Stories.{own_notes, own_notes_other, own_since, seen_journals}
use Rattle.bc_base.proofs.Members.{all_at, all_append, all_of}
use Rattle.bc_medium.proofs.Growing.{begins_itself, begins_trans}
use Rattle.bc_section.proofs.Numbered.{events_of_notes}

-- ---- what a section rests on in the journals

module _ (script : Script) (shards : ℕ) (base : ℕ → Sectors) (thread : ℕ) (section : List Op) (seen : List (List Entry)) (noted noted' : List (List Noted)) (replies : List Answer) (made : List Entry)
    (same : (device : ℕ) → events_of (list_at noted device) ≡ events_of (list_at noted' device)) (own_same : (device : ℕ) → own_events thread noted device ≡ own_events thread noted' device) where
  names_own : (key : Option ℕ) (via : Via) → NamesOwn noted key via → NamesOwn noted' key via
  names_own key vias.Plain is = is
  names_own key vias.Soft is = is
  names_own key (vias.Inline device slot event) is = subst (λ (l : List Event). IsSomeAnd key (λ k. IsSomeAnd (slice_get l event) (IsProgramming slot k))) (same device) is

  -- a section that is done is so over other stories with the same events, and the same of its thread
  pub same_section : SectionDone script shards base thread section seen noted replies made → SectionDone script shards base thread section seen noted' replies made
  same_section p = record {
    attempts = p.attempts;
    entries = p.entries;
    ways = p.ways;
    answers = p.answers;
    own_key = all_of (λ e. NamesOwn noted (key_of_entry e) e.via) (λ e. NamesOwn noted' (key_of_entry e) e.via) made (λ e. names_own (key_of_entry e) e.via) p.own_key;
    in_order = p.in_order;
    eviction_answers = p.eviction_answers;
    bounds = subst (Bounds script (enumerate_from 0 section) (evictions_in (thread, (section, replies)))) (fun_ext own_same) p.bounds;
  }

-- ---- lists of lists by their places

pub list_at_zip : {A B C : Type 0} (f : List A × List B → List C) → f ([], []) ≡ [] → (xs : List (List A)) (ys : List (List B)) → length xs ≡ length ys → (k : ℕ) → list_at (map f (zip xs ys)) k ≡ f (list_at xs k, list_at ys k)
list_at_zip f none [] [] same k = sym none
list_at_zip f none [] (y ∷ ys) same k = absurd (omega arith)
list_at_zip f none (x ∷ xs) [] same k = absurd (omega arith)
list_at_zip f none (x ∷ xs) (y ∷ ys) same zero = refl
list_at_zip f none (x ∷ xs) (y ∷ ys) same (suc k) = list_at_zip f none xs ys (omega arith) k

pub length-map-zip : {A B C : Type 0} (f : A × B → C) (xs : List A) (ys : List B) → length xs ≡ length ys → length (map f (zip xs ys)) ≡ length ys
length-map-zip f [] [] same = refl
length-map-zip f [] (y ∷ ys) same = absurd (omega arith)
length-map-zip f (x ∷ xs) [] same = absurd (omega arith)
length-map-zip f (x ∷ xs) (y ∷ ys) same = ap suc (length-map-zip f xs ys (omega arith))

pub list_at_each : {A B : Type 0} (f : List A → List B) → f [] ≡ [] → (xs : List (List A)) (k : ℕ) → list_at (map f xs) k ≡ f (list_at xs k)
list_at_each f none [] k = sym none
list_at_each f none (x ∷ xs) zero = refl
list_at_each f none (x ∷ xs) (suc k) = list_at_each f none xs k

pub length-each : {A B : Type 0} (f : A → B) (xs : List A) → length (map f xs) ≡ length xs
length-each f [] = refl
length-each f (x ∷ xs) = ap suc (length-each f xs)

pub same_by_places : {A : Type 0} (xs ys : List (List A)) → length xs ≡ length ys → ((k : ℕ) → list_at xs k ≡ list_at ys k) → xs ≡ ys
same_by_places [] [] long same = refl
same_by_places [] (y ∷ ys) long same = absurd (omega arith)
same_by_places (x ∷ xs) [] long same = absurd (omega arith)
same_by_places (x ∷ xs) (y ∷ ys) long same = ap (λ (z : List _). z ∷ xs) (same 0) ∙ ap (λ (l : List (List _)). y ∷ l) (same_by_places xs ys (omega arith) (λ k. same (suc k)))

-- ---- events and their authors

own_below : (t : ℕ) (story : List Noted) → AllByRecursion (λ n. author_of n < t) story → own author_of t story ≡ []
own_below t story below = filter_none (λ n. author_of n == t) story (λ n at. ne_eqb (author_of n) t (λ same. let lt = all_at (λ (m : Noted). author_of m < t) story n below at in omega arith))

-- ---- stories

-- what a section recorded: what comes after the events that it began with
abbrev pub since : List Event × List Event → List Event
since (begun, journal) = drop (length begun) journal

-- journals begin with themselves
pub begun_itself : (journals : List (List Event)) → HasBegun journals journals
begun_itself journals = record { count = refl; each = λ device. begins_itself (list_at journals device) }

-- the true stories, with what a section of the thread recorded
abbrev pub told_on : ℕ → List (List Noted) → List (List Event) → List (List Event) → List (List Noted)
told_on thread stories begun journals = map (λ at. at.0 ++ notes thread at.1) (zip stories (map since (zip begun journals)))

module _ (thread : ℕ) (begun journals : List (List Event)) (has : HasBegun begun journals) where
  abbrev pub new_at : ℕ → List Event
  new_at device = since (list_at begun device, list_at journals device)

  goes_on : (device : ℕ) → list_at journals device ≡ list_at begun device ++ new_at device
  goes_on device =
      let s = has.each device in
      s.1 ∙ ap (λ (l : List Event). list_at begun device ++ l) (sym (ap (drop (length (list_at begun device))) s.1 ∙ drop-append_seam (list_at begun device) s.0))

  -- the events that a thread sees are the journal's
  pub events_at : (device : ℕ) → events_of (list_at (stories_of thread begun journals) device) ≡ list_at journals device
  events_at device = seen_journals thread begun journals has device

  pub events_are : map events_of (stories_of thread begun journals) ≡ journals
  events_are = same_by_places (map events_of (stories_of thread begun journals)) journals
      (length-each events_of (stories_of thread begun journals) ∙ length-map-zip (story_of thread) begun journals has.count)
      (λ k. list_at_each events_of refl (stories_of thread begun journals) k ∙ events_at k)

  module _ (stories : List (List Noted)) (before : map events_of stories ≡ begun) (below : (device : ℕ) → AllByRecursion (λ n. author_of n < thread) (list_at stories device)) where
    abbrev told : List (List Noted)
    told = told_on thread stories begun journals

    count : length stories ≡ length journals
    count = sym (length-each events_of stories) ∙ ap length before ∙ has.count

    long : length (map since (zip begun journals)) ≡ length journals
    long = length-map-zip since begun journals has.count

    pub told_at : (device : ℕ) → list_at told device ≡ list_at stories device ++ notes thread (new_at device)
    told_at device =
        list_at_zip (λ at. at.0 ++ notes thread at.1) refl stories (map since (zip begun journals)) (count ∙ sym long) device
        ∙ ap (λ (l : List Event). list_at stories device ++ notes thread l) (list_at_zip since refl begun journals has.count device)

    pub told_events : (device : ℕ) → events_of (list_at told device) ≡ list_at journals device
    told_events device =
        ap events_of (told_at device) ∙ map-append event_in (list_at stories device) (notes thread (new_at device))
        ∙ ap (λ (l : List Event). events_of (list_at stories device) ++ l) (events_of_notes thread (new_at device))
        ∙ ap (λ (l : List Event). l ++ new_at device) (sym (list_at_each events_of refl stories device) ∙ ap (λ (l : List (List Event)). list_at l device) before)
        ∙ sym (goes_on device)

    pub told_are : map events_of told ≡ journals
    told_are = same_by_places (map events_of told) journals
        (length-each events_of told ∙ length-map-zip (λ at. at.0 ++ notes thread at.1) stories (map since (zip begun journals)) (count ∙ sym long) ∙ long)
        (λ k. list_at_each events_of refl told k ∙ told_events k)

    -- the events of the thread are the same ones in the true stories
    pub told_own : (device : ℕ) → own_events thread (stories_of thread begun journals) device ≡ own_events thread told device
    told_own device =
        own_since thread begun journals device has.count
        ∙ sym (ap (λ (l : List Noted). events_of (own author_of thread l)) (told_at device)
        ∙ ap events_of (filter-append (λ n. author_of n == thread) (list_at stories device) (notes thread (new_at device)))
        ∙ ap (λ (l : List Noted). events_of (l ++ own author_of thread (notes thread (new_at device)))) (own_below thread (list_at stories device) (below device))
        ∙ ap events_of (own_notes thread (new_at device)) ∙ events_of_notes thread (new_at device))

    pub told_same : (device : ℕ) → events_of (list_at (stories_of thread begun journals) device) ≡ events_of (list_at told device)
    told_same device = events_at device ∙ sym (told_events device)

    -- an earlier thread's seen front stays one
    pub told_front : (t device : ℕ) (front : List Noted) → t < thread → IsFront author_of t front (list_at stories device) → IsFront author_of t front (list_at told device)
    told_front t device front lt is = record {
      begins = begins_trans front (list_at stories device) (list_at told device) is.begins (notes thread (new_at device), told_at device);
      own_entries =
          ap (own author_of t) (told_at device)
          ∙ filter-append (λ n. author_of n == t) (list_at stories device) (notes thread (new_at device))
          ∙ ap (λ (l : List Noted). own author_of t (list_at stories device) ++ l) (own_notes_other t thread (new_at device) (λ same. omega arith))
          ∙ append-nil (own author_of t (list_at stories device)) ∙ is.own_entries;
    }

    pub told_below : (device : ℕ) → AllByRecursion (λ n. author_of n < thread + 1) (list_at told device)
    told_below device = subst (AllByRecursion (λ n. author_of n < thread + 1)) (sym (told_at device))
        (all_append (λ n. author_of n < thread + 1) (list_at stories device) (notes thread (new_at device))
        (all_of (λ n. author_of n < thread) (λ n. author_of n < thread + 1) (list_at stories device) (λ n lt. omega arith) (below device))
        (mine (new_at device)))
      where
        mine : (es : List Event) → AllByRecursion (λ n. author_of n < thread + 1) (notes thread es)
        mine [] = tt
        mine (e ∷ es) = (omega arith, mine es)

-- ---- the units of a section's uses are its thread's

-- each unit of the uses is the thread's
abbrev pub AreThreads : ℕ → List DeviceUse → Type 0
AreThreads t us = AllByRecursion (λ u. AllByRecursion (λ name. name.thread ≡ t) u.units) us

each_flat_map : {X : Type 0} (t : ℕ) (f : X → List DeviceUse) (xs : List X) → ((x : X) → AreThreads t (f x)) → AreThreads t (flat_map f xs)
each_flat_map t f [] each = tt
each_flat_map t f (x ∷ xs) each = all_append (λ u. AllByRecursion (λ name. name.thread ≡ t) u.units) (f x) (flat_map f xs) (each x) (each_flat_map t f xs each)

names_of_turn : (script : Script) (device t : ℕ) (turn : Turn) → AreThreads t (uses_of_turn script device t turn)
names_of_turn script device t (turns.Window bios) = units_of_window script device t (λ name. name.thread ≡ t) bios (every bios)
  where
    every : (bios : List TaggedBio) → AllByRecursion (EachUnit script device t (λ name. name.thread ≡ t)) bios
    every [] = tt
    every (bio ∷ bios) = (λ i. refl, every bios)
names_of_turn script device t (turns.Evict key) = units_of_evict script device t (λ name. name.thread ≡ t) key
names_of_turn script device t (turns.Reset other) = units_of_reset script device t (λ name. name.thread ≡ t) other

names_of_section : (script : Script) (device t : ℕ) (section : List Op) → AreThreads t (uses_of_section script device (t, section))
names_of_section script device t section = each_flat_map t (uses_of_turn script device t) (turns_of script section) (names_of_turn script device t)

none_append : {X : Type 0} (p : X → Bool) (xs ys : List X) → list_any p xs ≡ false → list_any p ys ≡ false → list_any p (xs ++ ys) ≡ false
none_append p xs ys none none' = list_any-append p xs ys ∙ ap (λ (b : Bool). b || list_any p ys) none ∙ none'

-- none of the sections before a thread's has a use for a unit of its
pub not_of_sections : (script : Script) (device first : ℕ) (name : UnitName) (sections : List (List Op)) → first + length sections ≤ name.thread
    → list_any (is_for name) (flat_map (uses_of_section script device) (enumerate_from first sections)) ≡ false
not_of_sections script device first name [] behind = refl
not_of_sections script device first name (section ∷ sections) behind =
    none_append (is_for name) (uses_of_section script device (first, section)) (flat_map (uses_of_section script device) (enumerate_from (first + 1) sections))
    (none_for (λ other. other.thread ≡ first) name (uses_of_section script device (first, section)) (λ other is. other_thread name other (λ same. omega arith)) (names_of_section script device first section))
    (not_of_sections script device (first + 1) name sections (omega arith))
