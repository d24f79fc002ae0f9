-- The stories of devices for a thread whose section has begun: what they say of the journals, and what a step adds to them.
use Rattle.std.proofs.Common.{◌≡◌, ◌≢◌, ℕ, zero, suc, ◌+◌, ◌<◌, Bool, cond, List, [], ◌∷◌, ◌++◌, length, map, drop, set, append-nil, append_assoc, refl, sym, ap, ◌∙◌, arith}
use Rattle.std.specs.Prelude.{◌==◌, slice_get}
use Rattle.std.specs.Option.{option_map_or}
use Rattle.std.specs.List.{enumerate_from}
use Rattle.std.proofs.Math.Seq.{drop-append_seam}
use Rattle.std.proofs.lemmas.Bool.{eq-eqb, ne_eqb, cases_eq}
use Rattle.std.proofs.Math.Logic.{⊎_elim}
use Rattle.std.proofs.lemmas.List.{map-append, get_or-set_same, get_or-set_other}
use Rattle.std.proofs.lemmas.List.Elements.{filter-append}
use Rattle.bc_base.specs.Lists.{list_at}
use Rattle.bc_base.specs.Story.{own, StartsWith}
use Rattle.bc_profile.specs.declared.event.Event.{Event}
use Rattle.bc_profile.specs.declared.noted.Noted.{Noted}
use Rattle.bc_profile.specs.declared.uses.Use.{Use}
use Rattle.bc_profile.specs.SlotJournal.{slots_after}
use Rattle.bc_profile.specs.OneCaller.{events_of_use}
use Rattle.bc_profile.specs.Story.{author_of, events_of, note, notes}
use Rattle.bc_script.specs.Script.{Script}
use Rattle.bc_compose.specs.SectionDone.{own_events}
use Rattle.bc_compose.specs.OrderedHolds.{Notes, slot_count_of}
use Rattle.bc_serial.specs.Keyslots.{story_of, stories_of, used_at, used_each}
use Rattle.bc_section.specs.Sections.{journal_seen}
use Rattle.bc_serial.specs.Standing.{CourseData, HasBegun, own_device}
use Rattle.bc_section.specs.Uses.{after_uses}
use Rattle.bc_medium.proofs.Growing.{begins_trans}
use Rattle.bc_section.proofs.Numbered.{events_of_append, events_of_notes}

-- ---- events and who made them

pub own_notes : (caller : ℕ) (es : List Event) → own author_of caller (notes caller es) ≡ notes caller es
own_notes caller [] = refl
own_notes caller (e ∷ es) = rw (eq-eqb caller caller refl) (ap (λ l. note caller e ∷ l) (own_notes caller es))

pub own_notes_other : (caller other : ℕ) (es : List Event) → other ≢ caller → own author_of caller (notes other es) ≡ []
own_notes_other caller other [] apart = refl
own_notes_other caller other (e ∷ es) apart = rw (ne_eqb other caller apart) (own_notes_other caller other es apart)

-- ---- the story of one device

pub story_events : (thread : ℕ) (begun journal : List Event) → StartsWith journal begun → events_of (story_of thread (begun, journal)) ≡ journal
story_events thread begun journal begins =
    events_of_append (notes (thread + 1) begun) (notes thread (drop (length begun) journal))
    ∙ ap (λ l. l ++ events_of (notes thread (drop (length begun) journal))) (events_of_notes (thread + 1) begun)
    ∙ ap (λ l. begun ++ l) (events_of_notes thread (drop (length begun) journal) ∙ ap (drop (length begun)) begins.1 ∙ drop-append_seam begun begins.0)
    ∙ sym begins.1

pub story_own : (thread : ℕ) (begun journal : List Event) → events_of (own author_of thread (story_of thread (begun, journal))) ≡ drop (length begun) journal
story_own thread begun journal =
    ap events_of
    (filter-append (λ (n : Noted). author_of n == thread) (notes (thread + 1) begun) (notes thread (drop (length begun) journal))
    ∙ ap (λ l. l ++ own author_of thread (notes thread (drop (length begun) journal))) (own_notes_other thread (thread + 1) begun (λ e. omega (arith, e)))
    ∙ own_notes thread (drop (length begun) journal))
    ∙ events_of_notes thread (drop (length begun) journal)

-- a journal goes on by these events: they are the thread's
pub story_more : (thread : ℕ) (begun journal more : List Event) → StartsWith journal begun
    → story_of thread (begun, journal ++ more) ≡ story_of thread (begun, journal) ++ notes thread more
story_more thread begun journal more begins =
    ap (λ l. notes (thread + 1) begun ++ notes thread l) (drop_more begun journal more begins)
    ∙ ap (λ l. notes (thread + 1) begun ++ l) (map-append (note thread) (drop (length begun) journal) more)
    ∙ sym (append_assoc (notes (thread + 1) begun) (notes thread (drop (length begun) journal)) (notes thread more))
  where
    drop_more : (begun journal more : List Event) → StartsWith journal begun → drop (length begun) (journal ++ more) ≡ drop (length begun) journal ++ more
    drop_more begun journal more begins =
        ap (λ l. drop (length begun) (l ++ more)) begins.1
        ∙ ap (drop (length begun)) (append_assoc begun begins.0 more)
        ∙ drop-append_seam begun (begins.0 ++ more)
        ∙ ap (λ l. l ++ more) (sym (ap (drop (length begun)) begins.1 ∙ drop-append_seam begun begins.0))

-- ---- the stories of all devices

pub story_at : (thread : ℕ) (begun journals : List (List Event)) (device : ℕ) → length begun ≡ length journals
    → list_at (stories_of thread begun journals) device ≡ story_of thread (list_at begun device, list_at journals device)
story_at thread [] [] device same = refl
story_at thread [] (j ∷ js) device same = absurd (omega (arith, same))
story_at thread (b ∷ bs) [] device same = absurd (omega (arith, same))
story_at thread (b ∷ bs) (j ∷ js) zero same = refl
story_at thread (b ∷ bs) (j ∷ js) (suc device) same = story_at thread bs js device (omega (arith, same))

-- the thread has seen the journals themselves
pub seen_journals : (thread : ℕ) (begun journals : List (List Event)) → HasBegun begun journals → (device : ℕ)
    → events_of (list_at (stories_of thread begun journals) device) ≡ list_at journals device
seen_journals thread begun journals has device =
    ap events_of (story_at thread begun journals device has.count) ∙ story_events thread (list_at begun device) (list_at journals device) (has.each device)

pub course_journals : (course : CourseData) → HasBegun course.begun course.journals → (device : ℕ) → journal_seen (own_device course) device ≡ list_at course.journals device
course_journals course has device = seen_journals course.thread course.begun course.journals has device

-- its own events are those since its section began
pub own_since : (thread : ℕ) (begun journals : List (List Event)) (device : ℕ) → length begun ≡ length journals
    → own_events thread (stories_of thread begun journals) device ≡ drop (length (list_at begun device)) (list_at journals device)
own_since thread begun journals device same =
    ap (λ (s : List Noted). events_of (own author_of thread s)) (story_at thread begun journals device same) ∙ story_own thread (list_at begun device) (list_at journals device)

-- ---- a step, by which the journals go on

-- the journals went on by just these events
pub record GoOn (old new : List (List Event)) (events : ℕ → List Event) : Type 0 where
  pub count : length new ≡ length old
  pub each : (device : ℕ) → list_at new device ≡ list_at old device ++ events device

pub goes_on_none : (journals : List (List Event)) → GoOn journals journals (λ device. [])
goes_on_none journals = record { count = refl; each = λ device. sym (append-nil (list_at journals device)) }

pub begun_more : (begun old new : List (List Event)) (events : ℕ → List Event) → HasBegun begun old → GoOn old new events → HasBegun begun new
begun_more begun old new events has goes = record {
  count = has.count ∙ sym goes.count;
  each = λ device. begins_trans (list_at begun device) (list_at old device) (list_at new device) (has.each device) (events device, goes.each device);
}

-- the story of each device goes on by the events, as the thread's
pub stories_more : (thread : ℕ) (begun old new : List (List Event)) (events : ℕ → List Event) → HasBegun begun old → GoOn old new events → (device : ℕ)
    → list_at (stories_of thread begun new) device ≡ list_at (stories_of thread begun old) device ++ notes thread (events device)
stories_more thread begun old new events has goes device =
    story_at thread begun new device (has.count ∙ sym goes.count)
    ∙ ap (λ l. story_of thread (list_at begun device, l)) (goes.each device)
    ∙ story_more thread (list_at begun device) (list_at old device) (events device) (has.each device)
    ∙ ap (λ l. l ++ notes thread (events device)) (sym (story_at thread begun old device has.count))

pub stories_note : (thread : ℕ) (begun old new : List (List Event)) (events : ℕ → List Event) → HasBegun begun old → GoOn old new events
    → Notes thread (stories_of thread begun old) (stories_of thread begun new) events
stories_note thread begun old new events has goes = record {
  fronts = λ device. (notes thread (events device), stories_more thread begun old new events has goes device);
  adds = λ device.
      ap (λ (s : List Noted). events_of (own author_of thread s)) (stories_more thread begun old new events has goes device)
      ∙ ap events_of (filter-append (λ (n : Noted). author_of n == thread) (list_at (stories_of thread begun old) device) (notes thread (events device)))
      ∙ events_of_append (own author_of thread (list_at (stories_of thread begun old) device)) (own author_of thread (notes thread (events device)))
      ∙ ap (λ l. own_events thread (stories_of thread begun old) device ++ l) (ap events_of (own_notes thread (events device)) ∙ events_of_notes thread (events device));
}

-- between a story and one that goes on from it, every prefix of what was added is a prefix
pub front_between : (thread : ℕ) (begun old mid new : List (List Event)) (first second : ℕ → List Event) → HasBegun begun old → GoOn old mid first → GoOn mid new second → (device : ℕ)
    → StartsWith (list_at (stories_of thread begun mid) device) (list_at (stories_of thread begun old) device)
    × StartsWith (list_at (stories_of thread begun new) device) (list_at (stories_of thread begun mid) device)
front_between thread begun old mid new first second has one two device = (
  (notes thread (first device), stories_more thread begun old mid first has one device),
  (notes thread (second device), stories_more thread begun mid new second (begun_more begun old mid first has one) two device),
)

-- ---- what uses add to journals

-- what one use records on a device with this journal
abbrev pub by_use : Script → ℕ → List Event → Use → List Event
by_use script device journal use' = events_of_use (slots_after (slot_count_of script device) journal) use'

pub after_one : (script : Script) (device : ℕ) (journal : List Event) (use' : Use)
    → after_uses script device journal (record { use' = use'; units = [] } ∷ []) ≡ journal ++ by_use script device journal use'
after_one script device journal use' = ap (λ l. journal ++ l) (append-nil (by_use script device journal use'))

-- a use of one device: what it adds to each
abbrev pub added_at : Script → ℕ → Use → List (List Event) → ℕ → List Event
added_at script device use' journals other = cond (other == device) (by_use script device (list_at journals device) use') []

pub used_at_goes_on : (script : Script) (device : ℕ) (use' : Use) (journals : List (List Event)) → device < length journals
    → GoOn journals (used_at script device use' journals) (added_at script device use' journals)
used_at_goes_on script device use' journals within = record {
  count = length_set journals device (after_uses script device (list_at journals device) (record { use' = use'; units = [] } ∷ []));
  each = λ other. ⊎_elim
      (λ (same : other ≡ device).
      ap (list_at (used_at script device use' journals)) same
      ∙ get_or-set_same journals device (after_uses script device (list_at journals device) (record { use' = use'; units = [] } ∷ [])) [] within
      ∙ after_one script device (list_at journals device) use'
      ∙ ap (λ d. list_at journals d ++ by_use script device (list_at journals device) use') (sym same)
      ∙ ap (λ (b : Bool). list_at journals other ++ cond b (by_use script device (list_at journals device) use') []) (sym (eq-eqb other device same)))
      (λ (apart : other ≢ device).
      get_or-set_other journals device other (after_uses script device (list_at journals device) (record { use' = use'; units = [] } ∷ [])) [] apart
      ∙ sym (append-nil (list_at journals other))
      ∙ ap (λ (b : Bool). list_at journals other ++ cond b (by_use script device (list_at journals device) use') []) (sym (ne_eqb other device apart)))
      (cases_eq other device);
}
  where
    length_set : {A : Type 0} (xs : List A) (k : ℕ) (y : A) → length (set xs k y) ≡ length xs
    length_set [] k y = refl
    length_set (x ∷ xs) zero y = refl
    length_set (x ∷ xs) (suc k) y = ap suc (length_set xs k y)

-- a use of every device: what it adds to each that there is
abbrev pub added_each : Script → Use → List (List Event) → ℕ → List Event
added_each script use' journals device =
    option_map_or (λ journal. by_use script device journal use') (slice_get journals device) []

pub used_each_goes_on : (script : Script) (use' : Use) (journals : List (List Event)) → GoOn journals (used_each script use' journals) (added_each script use' journals)
used_each_goes_on script use' journals = record {
  count = many 0 journals;
  each = λ device. at_place 0 journals device ∙ ap (λ d. list_at journals device ++ option_map_or (λ journal. by_use script d journal use') (slice_get journals device) []) (zero_first device);
}
  where
    zero_first : (n : ℕ) → 0 + n ≡ n
    zero_first n = omega arith

    used : ℕ × List Event → List Event
    used at = after_uses script at.0 at.1 (record { use' = use'; units = [] } ∷ [])

    many : (n : ℕ) (js : List (List Event)) → length (map used (enumerate_from n js)) ≡ length js
    many n [] = refl
    many n (j ∷ js) = ap suc (many (n + 1) js)

    at_place : (n : ℕ) (js : List (List Event)) (k : ℕ) → list_at (map used (enumerate_from n js)) k
        ≡ list_at js k ++ option_map_or (λ journal. by_use script (n + k) journal use') (slice_get js k) []
    at_place n [] k = refl
    at_place n (j ∷ js) zero = ap (λ d. used (d, j)) (none n) ∙ after_one script (n + 0) j use'
      where
        none : (n : ℕ) → n ≡ n + 0
        none n = omega arith
    at_place n (j ∷ js) (suc k) = at_place (n + 1) js k ∙ ap (λ d. list_at js k ++ option_map_or (λ journal. by_use script d journal use') (slice_get js k) []) (next n k)
      where
        next : (n k : ℕ) → n + 1 + k ≡ n + suc k
        next n k = omega arith
