-- Uses of devices that follow one another: their journals, and which hold an entry names.
use Rattle.std.proofs.Common.{◌≡◌, ℕ, zero, suc, ◌<◌, ◌≤◌, Bool, true, false, cond, List, [], ◌∷◌, ◌++◌, length, map, append-nil, append_assoc, refl, sym, ap, subst, ◌∙◌, arith, Option, Some, None}
use Rattle.std.specs.Prelude.{◌==◌, ◌||◌, ◌&&◌, filter, flat_map, slice_get, slice_set, slice_index_or}
use Rattle.std.specs.List.{AllByRecursion, list_any, range_with_len}
use Rattle.std.specs.Option.{option_map_or}
use Rattle.std.proofs.Math.Logic.{⊎_elim}
use Rattle.std.proofs.lemmas.Bool.{true≢false, false_from_ne_true, cases_lt, ne_eqb, and_left, and_right}
use Rattle.std.proofs.lemmas.Option.{none-some}
use Rattle.std.proofs.lemmas.List.{map-append}
use Rattle.std.proofs.lemmas.List.Folds.{list_any-append}
use Rattle.std.proofs.lemmas.List.Sums.{fold-append}
use Rattle.bc_key.specs.declared.keys.KeyNo.{KeyNo}
use Rattle.bc_bio.specs.Chunks.{chunk_by}
use Rattle.bc_bio.specs.Windows.{TaggedBio, NamedUnit, named_unit, named_units, requests_of, units_of_request, joins}
use Rattle.bc_stack.specs.declared.target.Target.{Target}
use Rattle.bc_stack.specs.Pieces.{same_device}
use Rattle.bc_medium.specs.declared.entry.Entry.{Entry}
use Rattle.bc_medium.specs.declared.unit_name.UnitName.{UnitName}
use Rattle.bc_medium.specs.declared.via.Via.{Via}
use Rattle.bc_medium.specs.declared.via.Via.TheVariants as vias
use Rattle.bc_medium.specs.Entries.{name_of_entry}
use Rattle.bc_medium.specs.LawfulOrders.{is_same}
use Rattle.bc_profile.specs.declared.event.Event.{Event}
use Rattle.bc_profile.specs.declared.event.Event.TheVariants as events
use Rattle.bc_profile.specs.declared.uses.Use.{Use}
use Rattle.bc_profile.specs.declared.uses.Use.TheVariants as uses
use Rattle.bc_profile.specs.SlotJournal.{Slots, opening, after_event, after_events, slots_after}
use Rattle.bc_profile.specs.OneCaller.{events_of_use, journal_of}
use Rattle.bc_profile.specs.Programmings.{Holds}
use Rattle.bc_script.specs.Script.{Script, keys_of}
use Rattle.bc_script.specs.Bios.{is_inline}
use Rattle.bc_script.specs.Windows as turns
use Rattle.bc_report.specs.SerialRun.{DeviceUse, inline_key, is_on, name_at, pieces_of_request, holds_for, uses_of_turn}
use Rattle.bc_compose.specs.OrderedHolds.{slot_count_of}
use Rattle.bc_section.specs.Uses.{after_uses, is_for, NamesOwnUse, NamesUse, MakesUses}
use Rattle.bc_base.proofs.Members.{In, in_append_left, in_append_right, in_of_map, in_of_filter, in_of_flat_map, any_in, all_at, all_from_in, all_append, all_of}
use Rattle.bc_bio.proofs.ChunkLaws.{chunks_join}

-- ---- journals

-- what uses record that follow others
pub journal_of-append : (slots : Slots) (xs ys : List Use) → journal_of slots (xs ++ ys) ≡ journal_of slots xs ++ journal_of (after_events slots (journal_of slots xs)) ys
journal_of-append slots [] ys = refl
journal_of-append slots (x ∷ xs) ys =
    let es = events_of_use slots x in
    let then = after_events slots es in
    ap (λ l. es ++ l) (journal_of-append then xs ys)
    ∙ sym (append_assoc es (journal_of then xs) (journal_of (after_events then (journal_of then xs)) ys))
    ∙ ap (λ s. (es ++ journal_of then xs) ++ journal_of s ys) (sym (fold-append after_event slots es (journal_of then xs)))

pub after_uses-append : (script : Script) (device : ℕ) (journal : List Event) (xs ys : List DeviceUse)
    → after_uses script device journal (xs ++ ys) ≡ after_uses script device (after_uses script device journal xs) ys
after_uses-append script device journal xs ys =
    let slots = slots_after (slot_count_of script device) journal in
    let done = journal_of slots (map (λ u. u.use') xs) in
    ap (λ l. journal ++ journal_of slots l) (map-append (λ (u : DeviceUse). u.use') xs ys)
    ∙ ap (λ l. journal ++ l) (journal_of-append slots (map (λ u. u.use') xs) (map (λ u. u.use') ys))
    ∙ sym (append_assoc journal done (journal_of (after_events slots done) (map (λ u. u.use') ys)))
    ∙ ap (λ s. (journal ++ done) ++ journal_of s (map (λ u. u.use') ys)) (sym (fold-append after_event (opening (slot_count_of script device)) journal done))

-- ---- a slot that has a key is on a device of the script

no_keys : (slots : Slots) (e : Event) → slots.keys ≡ [] → (after_event slots e).keys ≡ []
no_keys slots (events.Program slot key skipped) none = ap (λ (ks : List (Option ℕ)). slice_set ks slot (Some key)) none
no_keys slots (events.Idle slot) none = none
no_keys slots (events.Evict slot key) none = ap (λ (ks : List (Option ℕ)). slice_set ks slot None) none
no_keys slots (events.Busy slot key refs) none = none
no_keys slots events.Reset none = none

never_keys : (slots : Slots) (es : List Event) → slots.keys ≡ [] → (after_events slots es).keys ≡ []
never_keys slots [] none = none
never_keys slots (e ∷ es) none = never_keys (after_event slots e) es (no_keys slots e none)

none_past : {X : Type 0} (xs : List X) (i : ℕ) → length xs ≤ i → slice_get xs i ≡ None
none_past [] i le = refl
none_past (x ∷ xs) zero le = absurd (omega arith)
none_past (x ∷ xs) (suc i) le = none_past xs i (omega arith)

pub holds_within : (script : Script) (device : ℕ) (journal : List Event) (key slot event : ℕ) → Holds (slot_count_of script device) journal key slot event → device < length script.targets
holds_within script device journal key slot event holds =
    ⊎_elim (λ (lt : device < length script.targets). lt)
    (λ (ge : length script.targets ≤ device).
    let none : slot_count_of script device ≡ 0 = ap (λ (o : Option Target). option_map_or (λ target. target.slots) o 0) (none_past script.targets device ge) in
    let empty : (slots_after (slot_count_of script device) journal).keys ≡ [] =
    subst (λ n. (slots_after n journal).keys ≡ []) (sym none) (never_keys (opening 0) journal refl) in
    absurd (none-some key (sym (ap (λ (ks : List (Option ℕ)). slice_index_or ks slot None) empty) ∙ holds.has_key)))
    (cases_lt device (length script.targets))

-- ---- entries that name their holds

module _ (script : Script) where
  names_earlier : (journal : List Event) (done more : List DeviceUse) (e : Entry) (device slot event : ℕ)
      → NamesOwnUse script journal done e device slot event → NamesOwnUse script journal (done ++ more) e device slot event
  names_earlier journal done more e device slot event n = record {
    under = n.under;
    has_context = n.has_context;
    before = n.before;
    units = n.units;
    after = n.after ++ more;
    among = ap (λ l. l ++ more) n.among ∙ append_assoc n.before (_ ∷ n.after) more;
    for_others = n.for_others;
    for_it = n.for_it;
    holds = n.holds;
  }

  names_later : (journal journal' : List Event) (done more : List DeviceUse) (e : Entry) (device slot event : ℕ)
      → journal' ≡ after_uses script device journal done → list_any (is_for (name_of_entry e)) done ≡ false
      → NamesOwnUse script journal' more e device slot event → NamesOwnUse script journal (done ++ more) e device slot event
  names_later journal journal' done more e device slot event is others n =
      let hold : DeviceUse = record { use' = uses.Hold n.under.key; units = n.units } in record {
        under = n.under;
        has_context = n.has_context;
        before = done ++ n.before;
        units = n.units;
        after = n.after;
        among = ap (λ l. done ++ l) n.among ∙ sym (append_assoc done n.before (hold ∷ n.after));
        for_others =
            list_any-append (is_for (name_of_entry e)) done n.before
            ∙ ap (λ b. b || list_any (is_for (name_of_entry e)) n.before) others ∙ n.for_others;
        for_it = n.for_it;
        holds =
            subst (λ j. Holds (slot_count_of script device) j n.under.key.0 slot event)
            (ap (λ j. after_uses script device j (n.before ++ hold ∷ [])) is
            ∙ sym (after_uses-append script device journal done (n.before ++ hold ∷ []))
            ∙ ap (after_uses script device journal) (sym (append_assoc done n.before (hold ∷ [])))) n.holds;
      }

  earlier : (old : ℕ → List Event) (one other : ℕ → List DeviceUse) (e : Entry) (via : Via) → NamesUse script old one e via → NamesUse script old (λ d. one d ++ other d) e via
  earlier old one other e (vias.Inline device slot event) n = names_earlier (old device) (one device) (other device) e device slot event n
  earlier old one other e vias.Plain n = tt
  earlier old one other e vias.Soft n = tt

  later : (old new : ℕ → List Event) (one other : ℕ → List DeviceUse) (e : Entry) (via : Via)
      → ((device : ℕ) → device < length script.targets → new device ≡ after_uses script device (old device) (one device))
      → ((device : ℕ) → list_any (is_for (name_of_entry e)) (one device) ≡ false)
      → NamesUse script new other e via → NamesUse script old (λ d. one d ++ other d) e via
  later old new one other e (vias.Inline device slot event) journals others n =
      names_later (old device) (new device) (one device) (other device) e device slot event
      (journals device (holds_within script device _ n.under.key.0 slot event n.holds)) (others device) n
  later old new one other e vias.Plain journals others n = tt
  later old new one other e vias.Soft journals others n = tt

  same_uses : (old : ℕ → List Event) (one other : ℕ → List DeviceUse) (e : Entry) (via : Via) → ((device : ℕ) → one device ≡ other device) → NamesUse script old one e via → NamesUse script old other e via
  same_uses old one other e (vias.Inline device slot event) same n = subst (λ l. NamesOwnUse script (old device) l e device slot event) (same device) n
  same_uses old one other e vias.Plain same n = tt
  same_uses old one other e vias.Soft same n = tt

  -- ---- uses one after the other

  -- no use changes nothing
  pub uses_none : (old : ℕ → List Event) → MakesUses script old old (λ device. []) []
  uses_none old = record { journals = λ device within. sym (append-nil (old device)); holds = tt }

  -- the same uses
  pub uses_same : (old new : ℕ → List Event) (one other : ℕ → List DeviceUse) (es : List Entry) → ((device : ℕ) → one device ≡ other device)
      → MakesUses script old new one es → MakesUses script old new other es
  uses_same old new one other es same p = record {
    journals = λ device within. p.journals device within ∙ ap (after_uses script device (old device)) (same device);
    holds = all_of (λ e. NamesUse script old one e e.via) (λ e. NamesUse script old other e e.via) es (λ e. same_uses old one other e e.via same) p.holds;
  }

  -- uses, and then others, where no entry of these is for a unit that has a hold before
  pub uses_append : (old mid new : ℕ → List Event) (one other : ℕ → List DeviceUse) (es fs : List Entry)
      → ((device : ℕ) → AllByRecursion (λ e. list_any (is_for (name_of_entry e)) (one device) ≡ false) fs)
      → MakesUses script old mid one es → MakesUses script mid new other fs
      → MakesUses script old new (λ device. one device ++ other device) (es ++ fs)
  uses_append old mid new one other es fs others p q = record {
    journals = λ device within.
        q.journals device within
        ∙ ap (λ j. after_uses script device j (other device)) (p.journals device within)
        ∙ sym (after_uses-append script device (old device) (one device) (other device));
    holds =
        all_append (λ e. NamesUse script old (λ d. one d ++ other d) e e.via) es fs
        (all_of (λ e. NamesUse script old one e e.via) (λ e. NamesUse script old (λ d. one d ++ other d) e e.via) es (λ e. earlier old one other e e.via) p.holds)
        (all_from_in (λ e. NamesUse script old (λ d. one d ++ other d) e e.via) fs
        (λ e at'. later old mid one other e e.via p.journals
        (λ device. all_at (λ x. list_any (is_for (name_of_entry x)) (one device) ≡ false) fs e (others device) at')
        (all_at (λ x. NamesUse script mid other x x.via) fs e q.holds at')));
  }

-- ---- the units that uses are for

-- no use is for a unit that differs from all of theirs
pub none_for : (P : UnitName → Type 0) (name : UnitName) (done : List DeviceUse) → ((other : UnitName) → P other → is_same name other ≡ false)
    → AllByRecursion (λ u. AllByRecursion P u.units) done → list_any (is_for name) done ≡ false
none_for P name done apart all =
    false_from_ne_true (list_any (is_for name) done)
    (λ any. let r = any_in (is_for name) done any in
    let s = any_in (is_same name) r.0.units r.2 in
    true≢false (sym s.2 ∙ apart s.0 (all_at P r.0.units s.0 (all_at (λ u. AllByRecursion P u.units) done r.0 all r.1) s.1)))

-- units of different operations
pub other_op : (name other : UnitName) → (name.op ≡ other.op → ⊥) → is_same name other ≡ false
other_op name other ne =
    and_left ((name.thread == other.thread) && (name.op == other.op)) (name.unit == other.unit)
    (and_right (name.thread == other.thread) (name.op == other.op) (ne_eqb name.op other.op ne))

-- units of different threads
pub other_thread : (name other : UnitName) → (name.thread ≡ other.thread → ⊥) → is_same name other ≡ false
other_thread name other ne =
    and_left ((name.thread == other.thread) && (name.op == other.op)) (name.unit == other.unit)
    (and_left (name.thread == other.thread) (name.op == other.op) (ne_eqb name.thread other.thread ne))

in_flat : {X : Type 0} (xss : List (List X)) (xs : List X) (x : X) → In xs xss → In x xs → In x (flat_map (λ ys. ys) xss)
in_flat [] xs x at at' = absurd at
in_flat (ys ∷ xss) xs x at at' =
    ⊎_elim (λ (e : ys ≡ xs). in_append_left ys (flat_map (λ zs. zs) xss) x (subst (In x) (sym e) at'))
    (λ (more : In xs xss). in_append_right ys (flat_map (λ zs. zs) xss) x (in_flat xss xs x more at')) at

-- what stands in a chunk stands in the list
in_chunk : {X : Type 0} (together : X → X → Bool) (xs chunk : List X) (x : X) → In chunk (chunk_by together xs) → In x chunk → In x xs
in_chunk together xs chunk x at at' = subst (In x) (chunks_join together xs) (in_flat (chunk_by together xs) chunk x at at')

module _ (script : Script) (device thread : ℕ) (P : UnitName → Type 0) where
  -- each unit of a bio is such
  abbrev pub EachUnit : TaggedBio → Type 0
  EachUnit tagged = (i : ℕ) → P (record { thread = thread; op = tagged.tag; unit = i })

  of_piece : (request : List TaggedBio) (piece : List NamedUnit) → AllByRecursion EachUnit request → In piece (pieces_of_request script request) → AllByRecursion P (map (name_at thread) piece)
  of_piece request piece all at =
      all_from_in P (map (name_at thread) piece)
      (λ n at'.
      let v = in_of_map (name_at thread) piece n at' in
      let here = in_chunk (same_device script.targets) (units_of_request (keys_of script) request) piece v.0 at v.1 in
      let w = in_of_flat_map (named_units (keys_of script)) request v.0 here in
      let x = in_of_map (named_unit (keys_of script) w.0) (range_with_len 0 w.0.bio.units) v.0 w.2 in
      subst P v.2 (subst (λ y. P (name_at thread y)) x.2 (all_at EachUnit request w.0 all w.1 x.0)))

  of_request : (request : List TaggedBio) (u : DeviceUse) → AllByRecursion EachUnit request → In u (holds_for script device thread request) → AllByRecursion P u.units
  of_request request u all at = by_key (inline_key script request) at
    where
      by_key : (o : Option KeyNo) → In u (option_map_or (λ key. map (λ piece. record { use' = uses.Hold key; units = map (name_at thread) piece }) (filter (is_on script device) (pieces_of_request script request))) o [])
          → AllByRecursion P u.units
      by_key None h = absurd h
      by_key (Some key) h =
          let m = in_of_map (λ piece. record { use' = uses.Hold key; units = map (name_at thread) piece }) (filter (is_on script device) (pieces_of_request script request)) u h in
          let f = in_of_filter (is_on script device) (pieces_of_request script request) m.0 m.1 in
          subst (λ v. AllByRecursion P v.units) m.2 (of_piece request m.0 all f.0)

  -- the units of the uses of a window are those of its bios
  pub units_of_window : (bios : List TaggedBio) → AllByRecursion EachUnit bios → AllByRecursion (λ u. AllByRecursion P u.units) (uses_of_turn script device thread (turns.Window bios))
  units_of_window bios all =
      all_from_in (λ u. AllByRecursion P u.units) (uses_of_turn script device thread (turns.Window bios))
      (λ u at.
      let r = in_of_flat_map (holds_for script device thread) (requests_of (keys_of script) bios) u at in
      of_request r.0 u (all_from_in EachUnit r.0 (λ tagged at'. all_at EachUnit bios tagged all (in_chunk (joins (keys_of script)) bios r.0 tagged r.1 at'))) r.2)

  -- an eviction and a reset are for no unit
  pub units_of_evict : (key : KeyNo) → AllByRecursion (λ u. AllByRecursion P u.units) (uses_of_turn script device thread (turns.Evict key))
  units_of_evict key =
      elim (is_inline script key) as (λ (b : Bool). AllByRecursion (λ (u : DeviceUse). AllByRecursion P u.units) (cond b (record { use' = uses.Evict key; units = [] } ∷ []) [])) [
        | true ↦ (tt, tt)
        | false ↦ tt
      ]

  pub units_of_reset : (other : ℕ) → AllByRecursion (λ u. AllByRecursion P u.units) (uses_of_turn script device thread (turns.Reset other))
  units_of_reset other =
      elim (other == device) as (λ (b : Bool). AllByRecursion (λ (u : DeviceUse). AllByRecursion P u.units) (cond b (record { use' = uses.Reset; units = [] } ∷ []) [])) [
        | true ↦ (tt, tt)
        | false ↦ tt
      ]
