-- What the end of a window tells: its bios were submitted.
use Rattle.std.proofs.Common.{◌≡◌, ℕ, zero, suc, ◌<◌, ◌≤◌, ◌⊎◌, inl, inr, Bool, true, false, cond, List, [], ◌∷◌, ◌++◌, length, map, drop, append_assoc, refl, sym, ap, subst, ◌∙◌, arith, Option, Some, None}
use Rattle.std.specs.Prelude.{◌==◌, filter_map, slice_get, IfSome, IsSomeAnd, position, unwrap_or, option_and_then, option_map}
use Rattle.std.specs.Option.{option_map_or}
use Rattle.std.specs.List.{AllByRecursion, cons_option, enumerate_from, last_or}
use Rattle.std.proofs.Math.Logic.{⊎_elim}
use Rattle.std.proofs.Math.Seq.{drop-append_seam}
use Rattle.std.proofs.lemmas.Bool.{true≢false, cases_lt, eqb-true}
use Rattle.std.proofs.lemmas.List.{map-append}
use Rattle.std.proofs.lemmas.List.Quantifiers.{position-Some}
use Rattle.std.proofs.lemmas.Option.{none-some, same_Some}
use Rattle.bc_base.specs.Lists.{list_at}
use Rattle.bc_key.specs.KeyData.{KeyData}
use Rattle.bc_key.specs.KeyList.{key_at}
use Rattle.bc_bio.specs.declared.context.Context.{Context}
use Rattle.bc_stack.specs.declared.target.Target.{Target}
use Rattle.bc_stack.specs.Devices.{all_support, device_at, has_sector}
use Rattle.bc_medium.specs.declared.entry.Entry.{Entry}
use Rattle.bc_medium.specs.declared.via.Via.{Via}
use Rattle.bc_medium.specs.declared.via.Via.TheVariants as vias
use Rattle.bc_profile.specs.declared.event.Event.{Event}
use Rattle.bc_profile.specs.declared.event.Event.TheVariants as events
use Rattle.bc_profile.specs.declared.noted.Noted.{Noted}
use Rattle.bc_profile.specs.declared.uses.Use.{Use}
use Rattle.bc_profile.specs.declared.uses.Use.TheVariants as uses
use Rattle.bc_profile.specs.SlotJournal.{Slots, slots_after, after_events}
use Rattle.bc_profile.specs.OneCaller.{events_of_use, journal_of}
use Rattle.bc_profile.specs.Programmings.{Holds, last_programming, programming_at, programmings}
use Rattle.bc_profile.specs.Story.{events_of, notes}
use Rattle.bc_script.specs.declared.op.Op.{Op}
use Rattle.bc_script.specs.Script.{Script, IsScript, keys_of}
use Rattle.bc_script.specs.Bios.{is_inline}
use Rattle.bc_script.specs.Way.{Way, plain, soft, inline, way_of}
use Rattle.bc_script.specs.Windows as turns
use Rattle.bc_report.specs.declared.answer.Answer.{Answer}
use Rattle.bc_report.specs.Programmings.{IsProgramming, entry_by}
use Rattle.bc_report.specs.SerialRun.{DeviceUse, uses_of_turn}
use Rattle.bc_report.specs.Ways.{way_in}
use Rattle.bc_compose.specs.SectionDone.{NamesOwn, SaysItsWay, inline_of, key_of_entry}
use Rattle.bc_compose.specs.OrderedHolds.{HasHold, Held, Notes, slot_count_of}
use Rattle.bc_serial.specs.Keyslots.{stories_of}
use Rattle.bc_section.specs.Sections.{Carries, journal_seen}
use Rattle.bc_serial.specs.Standing.{CourseData, HasBegun, own_device}
use Rattle.bc_section.specs.Uses.{MakesUses, NamesOwnUse, NamesUse, after_uses, op_bios}
use Rattle.bc_section.specs.SectionProgress.{IsAcceptedBio, Submitted}
use Rattle.bc_serial.specs.InTurn.{InTurn}
use Rattle.bc_section.proofs.Lists.{in_of_filter_map, list_at_past}
use Rattle.bc_serial.proofs.Counting.{window_bounds}
use Rattle.bc_section.proofs.Reaching.{enumerated_at}
use Rattle.bc_serial.proofs.Stories.{GoOn, begun_more, course_journals, seen_journals, stories_more, stories_note}
use Rattle.bc_base.proofs.Members.{In}
use Rattle.bc_section.proofs.Numbered.{events_of_append, events_of_notes}

-- ---- journals

-- what earlier uses record stands before what later ones do
pub journal_more : (slots : Slots) (us vs : List Use) → (more : List Event) × (journal_of slots (us ++ vs) ≡ journal_of slots us ++ more)
journal_more slots [] vs = (journal_of slots vs, refl)
journal_more slots (u ∷ us) vs =
    let es = events_of_use slots u in
    let r = journal_more (after_events slots es) us vs in
    (r.0, ap (λ l. es ++ l) r.1 ∙ sym (append_assoc es (journal_of (after_events slots es) us) r.0))

last_in : {X : Type 0} (o : Option X) (xs : List X) (x : X) → last_or o xs ≡ Some x → (o ≡ Some x) ⊎ In x xs
last_in o [] x e = inl e
last_in o (y ∷ ys) x e =
    ⊎_elim (λ (h : Some y ≡ Some x). inr (inl (same_Some y x h))) (λ (more : In x ys). inr (inr more)) (last_in (Some y) ys x e)

-- an event that programs a key does so in its slot
programs_at : (key place slot event : ℕ) (e : Event) → programming_at key (place, e) ≡ Some (slot, event) → (place ≡ event) × IsProgramming slot key e
programs_at key place slot event (events.Program s k skipped) is =
    (elim (k == key) as (λ (b : Bool). (k == key) ≡ b → cond {A = Option (ℕ × ℕ)} b (Some (s, place)) None ≡ Some (slot, event) → (place ≡ event) × IsProgramming slot key (events.Program s k skipped)) [
      | true ↦ λ same e. let pair : (s, place) ≡ (slot, event) = same_Some (s, place) (slot, event) e in (ap (λ (x : ℕ × ℕ). x.1) pair, (ap (λ (x : ℕ × ℕ). x.0) pair, eqb-true k key same))
      | false ↦ λ same e. absurd (none-some (slot, event) e)
    ]) refl is
programs_at key place slot event (events.Idle s) is = absurd (none-some (slot, event) is)
programs_at key place slot event (events.Evict s k) is = absurd (none-some (slot, event) is)
programs_at key place slot event (events.Busy s k refs) is = absurd (none-some (slot, event) is)
programs_at key place slot event events.Reset is = absurd (none-some (slot, event) is)

pub last_programs : (key slot event : ℕ) (journal : List Event) → last_programming key journal ≡ Some (slot, event) → IsSomeAnd (slice_get journal event) (IsProgramming slot key)
last_programs key slot event journal is =
    ⊎_elim (λ (none : None ≡ Some (slot, event)). absurd (none-some (slot, event) none))
    (λ (among : In (slot, event) (programmings key journal)).
    let r = in_of_filter_map (programming_at key) (enumerate_from 0 journal) (slot, event) among in
    let place = enumerated_at 0 journal r.0 r.1 in
    let p = programs_at key r.0.0 slot event r.0.1 r.2 in
    let at : place.0 ≡ event = omega (arith, place.1, p.0) in
    subst (λ (o : Option Event). IsSomeAnd o (IsProgramming slot key)) (sym (ap (slice_get journal) (sym at) ∙ place.2)) p.1)
    (last_in None (programmings key journal) (slot, event) is)

get_more : {X : Type 0} (P : X → Type 0) (xs ys : List X) (i : ℕ) → IsSomeAnd (slice_get xs i) P → IsSomeAnd (slice_get (xs ++ ys) i) P
get_more P [] ys i is = absurd is
get_more P (x ∷ xs) ys zero is = is
get_more P (x ∷ xs) ys (suc i) is = get_more P xs ys i is

-- ---- ways

-- the device of an inline way
abbrev device_in : Way → Option ℕ
device_in (inline device) = Some device
device_in soft = None
device_in plain = None

some_target : (targets : List Target) (o : Option KeyData) → option_map_or (λ key. all_support targets key.config) o false ≡ true → 0 < length targets
some_target [] None is = absurd (true≢false (sym is))
some_target [] (Some key) is = absurd (true≢false (sym is))
some_target (target ∷ targets) o is = omega arith

-- a unit that goes inline is under a key that does, and its device is the script's
pub way_inline : (script : Script) (c : Option Context) (sector device : ℕ) → inline device ≡ way_of script c sector
    → (under : Context) × (c ≡ Some under) × (is_inline script under.key ≡ true) × (device < length script.targets)
way_inline script None sector device e = absurd (none-some device (sym (ap device_in e)))
way_inline script (Some under) sector device e =
    (elim (is_inline script under.key) as (λ (b : Bool). is_inline script under.key ≡ b → inline device ≡ cond b (inline (unwrap_or (device_at script.targets sector) 0)) soft
    → (u : Context) × (Some under ≡ Some u) × (is_inline script u.key ≡ true) × (device < length script.targets)) [
      | true ↦ λ is way.
          let some = some_target script.targets (key_at (keys_of script) under.key) is in
          let within = located (has_sector sector) script.targets some in
          let same : device ≡ unwrap_or (device_at script.targets sector) 0 = same_Some device (unwrap_or (device_at script.targets sector) 0) (ap device_in way) in
          (under, refl, is, subst (λ n. n < length script.targets) (sym same) within)
      | false ↦ λ is way. absurd (none-some device (sym (ap device_in way)))
    ]) refl e
  where
    located : (test : Target → Bool) (targets : List Target) → 0 < length targets → unwrap_or (position test targets) 0 < length targets
    located test [] some = absurd (omega arith)
    located test (target ∷ targets) some =
        (elim (position test (target ∷ targets)) as (λ (o : Option ℕ). position test (target ∷ targets) ≡ o → unwrap_or o 0 < length (target ∷ targets)) [
          | None ↦ λ is. some
          | Some i ↦ λ is. (position-Some test (target ∷ targets) i target is).0
        ]) refl

-- ---- a window

-- operations were carried out, and their bios gone over in a window
abbrev pub TurnedBy : CourseData → CourseData → List (ℕ × Op) → List Answer → Type 0
TurnedBy start now acts told = (p : Carries (own_device start) (own_device now) acts told) × InTurn start now (op_bios acts) p.made

each_filter_map : {X Y : Type 0} (f : X → Option Y) (P : Y → Type 0) (xs : List X) → AllByRecursion (λ x. IfSome (f x) P) xs → AllByRecursion P (filter_map f xs)
each_filter_map f P [] all = tt
each_filter_map f P (x ∷ xs) all =
    (elim (f x) as (λ (o : Option _). IfSome o P → AllByRecursion P (cons_option o (filter_map f xs))) [
      | None ↦ λ is. each_filter_map f P xs all.1
      | Some y ↦ λ is. (is, each_filter_map f P xs all.1)
    ]) all.0

both : {X : Type 0} (P Q R : X → Type 0) (xs : List X) → ((x : X) → P x → Q x → R x) → AllByRecursion P xs → AllByRecursion Q xs → AllByRecursion R xs
both P Q R [] f ps qs = tt
both P Q R (x ∷ xs) f ps qs = (f x ps.0 qs.0, both P Q R xs f ps.1 qs.1)

-- the same journals have the same names
names_same : (script : Script) (j k : ℕ → List Event) (same : (d : ℕ) → j d ≡ k d) (done : ℕ → List DeviceUse) (e : Entry) (via : Via) → NamesUse script j done e via → NamesUse script k done e via
names_same script j k same done e vias.Plain n = tt
names_same script j k same done e vias.Soft n = tt
names_same script j k same done e (vias.Inline device slot event) n = subst (λ l. NamesOwnUse script l (done device) e device slot event) (same device) n

module _ (start now : CourseData) (acts : List (ℕ × Op)) (told : List Answer) (devices : length start.journals ≡ length start.script.targets)
    (has : HasBegun start.begun start.journals) (p : Carries (own_device start) (own_device now) acts told) (turn : InTurn start now (op_bios acts) p.made) where
  abbrev script : Script
  script = start.script

  abbrev done : ℕ → List DeviceUse
  done device = uses_of_turn script device start.thread (turns.Window (op_bios acts))

  abbrev old : ℕ → List Event
  old device = list_at start.journals device

  abbrev new : ℕ → List Event
  new device = list_at now.journals device

  -- what was recorded on a device of the script
  abbrev recorded : ℕ → List Event
  recorded device = journal_of (slots_after (slot_count_of script device) (old device)) (map (λ u. u.use') (done device))

  -- what was recorded on any device
  abbrev added : ℕ → List Event
  added device = drop (length (old device)) (new device)

  added_is : (device : ℕ) → device < length script.targets → added device ≡ recorded device
  added_is device within = ap (drop (length (old device))) (turn.uses.journals device within) ∙ drop-append_seam (old device) (recorded device)

  past_old : (device : ℕ) → length script.targets ≤ device → old device ≡ []
  past_old device past = list_at_past start.journals device (omega (arith, devices))

  past_new : (device : ℕ) → length script.targets ≤ device → new device ≡ []
  past_new device past = list_at_past now.journals device (omega (arith, devices, turn.same_devices))

  added_none : (device : ℕ) → length script.targets ≤ device → added device ≡ []
  added_none device past = ap (λ l. drop (length l) (new device)) (past_old device past) ∙ past_new device past

  goes : GoOn start.journals now.journals added
  goes = record {
    count = turn.same_devices;
    each = λ device. ⊎_elim
        (λ (within : device < length script.targets). turn.uses.journals device within ∙ ap (λ l. old device ++ l) (sym (added_is device within)))
        (λ (past : length script.targets ≤ device). past_new device past ∙ sym (ap (λ l. l ++ added device) (past_old device past) ∙ added_none device past))
        (cases_lt device (length script.targets));
  }

  abbrev before : List (List Noted)
  before = stories_of start.thread start.begun start.journals

  abbrev after : List (List Noted)
  after = stories_of start.thread start.begun now.journals

  has_after : HasBegun start.begun now.journals
  has_after = begun_more start.begun start.journals now.journals added has goes

  noted_after : (own_device now).noted ≡ after
  noted_after = ap (λ t. stories_of t now.begun now.journals) turn.thread_is ∙ ap (λ b. stories_of start.thread b now.journals) turn.begun_is

  -- the journal as an entry's hold was taken: what it was when the window began, what was recorded till then, and what was after
  front_of : (e : Entry) (device slot event : ℕ) → device < length script.targets → (n : NamesOwnUse script (old device) (done device) e device slot event)
      → (first : List Event) × (more : List Event) × (added device ≡ first ++ more) × Holds (slot_count_of script device) (old device ++ first) n.under.key.0 slot event
  front_of e device slot event within n =
      let slots = slots_after (slot_count_of script device) (old device) in
      let hold : DeviceUse = record { use' = uses.Hold n.under.key; units = n.units } in
      let us = map (λ (u : DeviceUse). u.use') (n.before ++ hold ∷ []) in
      let vs = map (λ (u : DeviceUse). u.use') n.after in
      let r = journal_more slots us vs in (
        journal_of slots us,
        r.0,
        added_is device within
            ∙ ap (λ l. journal_of slots (map (λ (u : DeviceUse). u.use') l)) (n.among ∙ sym (append_assoc n.before (hold ∷ []) n.after))
            ∙ ap (journal_of slots) (map-append (λ (u : DeviceUse). u.use') (n.before ++ hold ∷ []) n.after)
            ∙ r.1,
        n.holds,
      )

  own_key : (e : Entry) (via : Via) → way_in via ≡ way_of script e.at.context e.at.sector → NamesUse script old done e via → NamesOwn after (key_of_entry e) via
  own_key e vias.Plain way n = tt
  own_key e vias.Soft way n = tt
  own_key e (vias.Inline device slot event) way n =
      let w = way_inline script e.at.context e.at.sector device way in
      let f = front_of e device slot event w.3 n in
      let at = get_more (IsProgramming slot n.under.key.0) (old device ++ f.0) f.1 event (last_programs n.under.key.0 slot event (old device ++ f.0) f.3.last) in
      let whole : events_of (list_at after device) ≡ (old device ++ f.0) ++ f.1 =
      seen_journals start.thread start.begun now.journals has_after device ∙ goes.each device ∙ ap (λ l. old device ++ l) f.2 ∙ sym (append_assoc (old device) f.0 f.1) in
      subst (λ (k : Option ℕ). IsSomeAnd k (λ key. IsSomeAnd (slice_get (events_of (list_at after device)) event) (IsProgramming slot key)))
      (sym (ap (λ (c : Option Context). option_map (λ context. context.key.0) c) n.has_context))
      (subst (λ l. IsSomeAnd (slice_get l event) (IsProgramming slot n.under.key.0)) (sym whole) at)

  has_hold : (e : Entry) (via : Via) → way_in via ≡ way_of script e.at.context e.at.sector → NamesUse script old done e via
      → IfSome (option_and_then (λ context. entry_by e.at.tag context via) e.at.context) (HasHold script before after)
  has_hold e vias.Plain way n = none e.at.context
    where
      none : (c : Option Context) → IfSome (option_and_then (λ context. entry_by e.at.tag context vias.Plain) c) (HasHold script before after)
      none None = tt
      none (Some context) = tt
  has_hold e vias.Soft way n = none e.at.context
    where
      none : (c : Option Context) → IfSome (option_and_then (λ context. entry_by e.at.tag context vias.Soft) c) (HasHold script before after)
      none None = tt
      none (Some context) = tt
  has_hold e (vias.Inline device slot event) way n =
      let w = way_inline script e.at.context e.at.sector device way in
      let f = front_of e device slot event w.3 n in
      let under : w.0 ≡ n.under = same_Some w.0 n.under (sym w.1 ∙ n.has_context) in
      subst (λ (c : Option Context). IfSome (option_and_then (λ context. entry_by e.at.tag context (vias.Inline device slot event)) c) (HasHold script before after)) (sym n.has_context)
      (record {
        is_inline = ap (λ (u : Context). is_inline script u.key) (sym under) ∙ w.2;
        front = list_at before device ++ notes start.thread f.0;
        slot = slot;
        begins = (notes start.thread f.0, refl);
        seen = (
          notes start.thread f.1,
          stories_more start.thread start.begun start.journals now.journals added has goes device
              ∙ ap (λ l. list_at before device ++ l) (ap (notes start.thread) f.2 ∙ map-append _ f.0 f.1)
              ∙ sym (append_assoc (list_at before device) (notes start.thread f.0) (notes start.thread f.1)),
        );
        holds = subst (λ l. Holds (slot_count_of script device) l n.under.key.0 slot event)
            (sym (events_of_append (list_at before device) (notes start.thread f.0)
            ∙ ap (λ l. l ++ events_of (notes start.thread f.0)) (seen_journals start.thread start.begun start.journals has device)
            ∙ ap (λ l. old device ++ l) (events_of_notes start.thread f.0))) f.3;
      })

  held : Held script before after p.made
  held = record {
    own_key = both (λ e. NamesUse script old done e e.via) (SaysItsWay script) (λ e. NamesOwn after (key_of_entry e) e.via) p.made (λ e n way. own_key e e.via way n) turn.uses.holds p.ways;
    holds = each_filter_map inline_of (HasHold script before after) p.made
        (both (λ e. NamesUse script old done e e.via) (SaysItsWay script) (λ e. IfSome (inline_of e) (HasHold script before after)) p.made (λ e n way. has_hold e e.via way n) turn.uses.holds p.ways);
    rises = turn.rises;
  }

  uses_seen : MakesUses script (journal_seen (own_device start)) (journal_seen (own_device now)) done p.made
  uses_seen = record {
    journals = λ device within.
        seen_now device ∙ turn.uses.journals device within
        ∙ ap (λ l. after_uses script device l (done device)) (sym (course_journals start has device));
    holds = both (λ e. NamesUse script old done e e.via) (λ e. NamesUse script old done e e.via) (λ e. NamesUse script (journal_seen (own_device start)) done e e.via) p.made
        (λ e n _. names_same script old (journal_seen (own_device start)) (λ device. sym (course_journals start has device)) done e e.via n) turn.uses.holds turn.uses.holds;
  }
    where
      seen_now : (device : ℕ) → journal_seen (own_device now) device ≡ new device
      seen_now device = ap (λ (n : List (List Noted)). events_of (list_at n device)) noted_after ∙ seen_journals start.thread start.begun now.journals has_after device

  pub window_submitted : IsScript script → AllByRecursion (λ (x : ℕ × Op). IsAcceptedBio script x.1) acts → Submitted (own_device start) (own_device now) acts
  window_submitted rules accepted = record {
    made = p.made;
    events = added;
    same = p.same;
    spare = p.spare;
    grows = p.grows;
    alone = p.alone;
    attempts = p.attempts;
    ways = p.ways;
    notes = subst (λ n. Notes start.thread before n added) (sym noted_after) (stories_note start.thread start.begun start.journals now.journals added has goes);
    bounds = window_bounds script start.thread acts rules accepted added (λ device within. (slots_after (slot_count_of script device) (old device), added_is device within)) added_none;
    held = subst (λ n. Held script before n p.made) (sym noted_after) held;
    uses = λ _. uses_seen;
  }
