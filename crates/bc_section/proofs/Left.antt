-- The uses of a section so far, and those that are left, operation by operation.
use Rattle.std.proofs.Common.{◌≡◌, ℕ, zero, suc, ◌+◌, ◌<◌, ◌≤◌, Bool, true, false, List, [], ◌∷◌, ◌++◌, length, drop, append-nil, append_assoc, refl, sym, ap, subst, ◌∙◌, arith, Option, Some, None}
use Rattle.std.specs.Prelude.{filter_map, flat_map, slice_get, IsSomeAnd, is_none, option_map, if◌then◌else◌}
use Rattle.std.specs.Option.{option_map_or}
use Rattle.std.specs.List.{AllByRecursion, cons_option, enumerate_from, list_any}
use Rattle.std.proofs.lemmas.Bool.{eq-eqb, ne_eqb}
use Rattle.std.proofs.lemmas.Option.{none-some, same_Some}
use Rattle.std.proofs.lemmas.List.Elements.{filter_map-append}
use Rattle.bc_key.specs.declared.keys.KeyNo.{KeyNo}
use Rattle.bc_bio.specs.declared.extent.Extent.{Extent}
use Rattle.bc_bio.specs.declared.refusal.Refusal.{Refusal}
use Rattle.bc_bio.specs.Windows.{TaggedBio}
use Rattle.bc_medium.specs.declared.entry.Entry.{Entry}
use Rattle.bc_medium.specs.declared.unit_name.UnitName.{UnitName}
use Rattle.bc_medium.specs.Entries.{name_of_entry}
use Rattle.bc_medium.specs.Growth.{attempted_by, IsEntryOf, Attempts, failed_names}
use Rattle.bc_medium.specs.LawfulOrders.{unit_name_of, is_attempted}
use Rattle.bc_script.specs.declared.limits.TheConstants.{MAX_PLUGGED}
use Rattle.bc_script.specs.declared.op.Op.{Op}
use Rattle.bc_script.specs.declared.op.Op.TheVariants as ops
use Rattle.bc_script.specs.Script.{Script}
use Rattle.bc_script.specs.Bios.{bio_of, refusal_of}
use Rattle.bc_script.specs.Plan.{units_of}
use Rattle.bc_script.specs.Windows.{Step, Turn, accepted, step_of, turns_from}
use Rattle.bc_script.specs.Windows as turns
use Rattle.bc_report.specs.SerialRun.{DeviceUse, uses_of_turn, uses_of_section}
use Rattle.bc_section.specs.Sections.{DeviceData, journal_seen}
use Rattle.bc_section.specs.Uses.{tagged_bio, op_bios, is_for, MakesUses}
use Rattle.bc_section.specs.SectionProgress.{numbered, IsAcceptedBio, MayBePlugged, steps_from, uses_left, WindowEnds, HasUsed, HoldsNone}
use Rattle.bc_section.proofs.Carrying.{op_of_unit}
use Rattle.bc_section.proofs.Using.{none_for, other_op, uses_none, uses_same, uses_append, units_of_window}
use Rattle.bc_base.proofs.Members.{In, in_of_filter, in_of_flat_map, beside, all_at, all_from_in, all_append, all_of}

-- ---- the step of an operation

pub drop_next : {X : Type 0} (xs : List X) (i : ℕ) (x : X) → slice_get xs i ≡ Some x → drop i xs ≡ x ∷ drop (i + 1) xs
drop_next [] i x is = absurd (none-some x is)
drop_next (y ∷ ys) zero x is = ap (λ z. z ∷ ys) (same_Some y x is)
drop_next (y ∷ ys) (suc i) x is = drop_next ys i x is ∙ ap (λ n. x ∷ drop n (y ∷ ys)) (over i)
  where
    over : (i : ℕ) → suc (i + 1) ≡ suc i + 1
    over i = omega arith

drop_all : {X : Type 0} (xs : List X) → drop (length xs) xs ≡ []
drop_all [] = refl
drop_all (x ∷ xs) = drop_all xs

pub steps_next : (script : Script) (section : List Op) (op : ℕ) (operation : Op) → slice_get section op ≡ Some operation
    → steps_from script section op ≡ cons_option (step_of script (op, operation)) (steps_from script section (op + 1))
steps_next script section op operation is = ap (λ l. filter_map (step_of script) (enumerate_from op l)) (drop_next section op operation is)

pub steps_last : (script : Script) (section : List Op) → steps_from script section (length section) ≡ []
steps_last script section = ap (λ l. filter_map (step_of script) (enumerate_from (length section) l)) (drop_all section)

-- an operation with a bio
step_of_bio : (script : Script) (op : ℕ) (operation : Op) (bio : Extent) → bio_of operation ≡ Some bio → step_of script (op, operation) ≡ accepted script op bio
step_of_bio script op (ops.Write c s n x) bio is = ap (accepted script op) (same_Some _ bio is)
step_of_bio script op (ops.Read c s n) bio is = ap (accepted script op) (same_Some _ bio is)
step_of_bio script op (ops.Evict key) bio is = absurd (none-some bio is)
step_of_bio script op (ops.Reset d) bio is = absurd (none-some bio is)
step_of_bio script op ops.Plug bio is = absurd (none-some bio is)
step_of_bio script op ops.Unplug bio is = absurd (none-some bio is)

pub step_accepted : (script : Script) (op : ℕ) (operation : Op) (bio : Extent) → bio_of operation ≡ Some bio → refusal_of script bio ≡ None
    → step_of script (op, operation) ≡ Some (turns.Accepted (record { tag = op; bio = bio }))
step_accepted script op operation bio is none =
    step_of_bio script op operation bio is
    ∙ ap (λ (o : Option Refusal). if is_none o then Some (turns.Accepted (record { tag = op; bio = bio })) else None) none

pub step_refused : (script : Script) (op : ℕ) (operation : Op) (bio : Extent) (refusal : Refusal) → bio_of operation ≡ Some bio → refusal_of script bio ≡ Some refusal
    → step_of script (op, operation) ≡ None
step_refused script op operation bio refusal is some =
    step_of_bio script op operation bio is
    ∙ ap (λ (o : Option Refusal). if is_none o then Some (turns.Accepted (record { tag = op; bio = bio })) else None) some

-- ---- the bios that are held back

pub bios_count : (script : Script) (section : List Op) (pending : List ℕ) → AllByRecursion (MayBePlugged script section) pending
    → length (op_bios (numbered section pending)) ≡ length pending
bios_count script section [] all = refl
bios_count script section (o ∷ os) all = by_operation (bios_count script section os all.1) (slice_get section o) all.0
  where
    by_bio : length (op_bios (numbered section os)) ≡ length os → (p : Option Extent) → IsSomeAnd p (λ bio. refusal_of script bio ≡ None)
        → length (cons_option (option_map (λ (bio : Extent). record { tag = o; bio = bio }) p) (op_bios (numbered section os))) ≡ suc (length os)
    by_bio rest None is = absurd is
    by_bio rest (Some bio) is = ap suc rest

    by_operation : length (op_bios (numbered section os)) ≡ length os → (p : Option Op) → IsSomeAnd p (IsAcceptedBio script)
        → length (op_bios (option_map_or (λ operation. (o, operation) ∷ numbered section os) p (numbered section os))) ≡ suc (length os)
    by_operation rest None is = absurd is
    by_operation rest (Some operation) is = by_bio rest (bio_of operation) is

pub tags_of_bios : (P : ℕ → Type 0) (xs : List (ℕ × Op)) → AllByRecursion (λ x. P x.0) xs → AllByRecursion (λ (tagged : TaggedBio). P tagged.tag) (op_bios xs)
tags_of_bios P [] all = tt
tags_of_bios P ((o, operation) ∷ xs) all =
    elim (bio_of operation) as (λ (p : Option Extent). AllByRecursion (λ (tagged : TaggedBio). P tagged.tag) (cons_option (option_map (λ (bio : Extent). record { tag = o; bio = bio }) p) (op_bios xs))) [
      | None ↦ tags_of_bios P xs all.1
      | Some bio ↦ (all.0, tags_of_bios P xs all.1)
    ]

pub bio_more : (xs : List (ℕ × Op)) (op : ℕ) (operation : Op) (bio : Extent) → bio_of operation ≡ Some bio → op_bios (xs ++ (op, operation) ∷ []) ≡ op_bios xs ++ record { tag = op; bio = bio } ∷ []
bio_more xs op operation bio is =
    filter_map-append tagged_bio xs ((op, operation) ∷ [])
    ∙ ap (λ (p : Option Extent). op_bios xs ++ cons_option (option_map (λ (b : Extent). record { tag = op; bio = b }) p) []) is

-- ---- what is left

module _ (script : Script) (thread : ℕ) where
  -- a window ends where a plug begins or ends, before an eviction and a reset, before a bio that the plug has no room for, at the
  -- end of the section, and always where no plug is open
  pub ends_unplugged : (bios : List TaggedBio) (steps : List Step) → WindowEnds script thread false bios steps
  ends_unplugged bios steps device = refl

  pub ends_last : (plugged : Bool) (bios : List TaggedBio) → WindowEnds script thread plugged bios []
  ends_last true bios device = refl
  ends_last false bios device = refl

  pub ends_plug : (plugged : Bool) (bios : List TaggedBio) (steps : List Step) → WindowEnds script thread plugged bios (turns.Plugs ∷ steps)
  ends_plug true bios steps device = refl
  ends_plug false bios steps device = refl

  pub ends_unplug : (plugged : Bool) (bios : List TaggedBio) (steps : List Step) → WindowEnds script thread plugged bios (turns.Unplugs ∷ steps)
  ends_unplug true bios steps device = refl
  ends_unplug false bios steps device = refl

  pub ends_evict : (plugged : Bool) (bios : List TaggedBio) (key : KeyNo) (steps : List Step) → WindowEnds script thread plugged bios (turns.Evicts key ∷ steps)
  ends_evict true bios key steps device = refl
  ends_evict false bios key steps device = refl

  pub ends_reset : (plugged : Bool) (bios : List TaggedBio) (number : ℕ) (steps : List Step) → WindowEnds script thread plugged bios (turns.Resets number ∷ steps)
  ends_reset true bios number steps device = refl
  ends_reset false bios number steps device = refl

  pub ends_full : (plugged : Bool) (bios : List TaggedBio) (bio : TaggedBio) (steps : List Step) → length bios ≡ MAX_PLUGGED → WindowEnds script thread plugged bios (turns.Accepted bio ∷ steps)
  ends_full true bios bio steps full device =
      ap (λ (b : Bool). flat_map (uses_of_turn script device thread)
      (if b then turns.Window bios ∷ turns_from (Some (bio ∷ [])) steps else turns_from (Some (bios ++ bio ∷ [])) steps))
      (eq-eqb (length bios) MAX_PLUGGED full)
  ends_full false bios bio steps full device = refl

  module _ (device : ℕ) where
    pub next_plug : (plugged : Bool) (steps : List Step) → uses_left script device thread plugged [] (turns.Plugs ∷ steps) ≡ uses_left script device thread true [] steps
    next_plug true steps = refl
    next_plug false steps = refl

    pub next_unplug : (plugged : Bool) (steps : List Step) → uses_left script device thread plugged [] (turns.Unplugs ∷ steps) ≡ uses_left script device thread false [] steps
    next_unplug true steps = refl
    next_unplug false steps = refl

    pub next_evict : (plugged : Bool) (key : KeyNo) (steps : List Step)
        → uses_left script device thread plugged [] (turns.Evicts key ∷ steps) ≡ uses_of_turn script device thread (turns.Evict key) ++ uses_left script device thread plugged [] steps
    next_evict true key steps = refl
    next_evict false key steps = refl

    pub next_reset : (plugged : Bool) (number : ℕ) (steps : List Step)
        → uses_left script device thread plugged [] (turns.Resets number ∷ steps) ≡ uses_of_turn script device thread (turns.Reset number) ++ uses_left script device thread plugged [] steps
    next_reset true number steps = refl
    next_reset false number steps = refl

    -- a bio is held back: in a plug where there is room, and else where none is
    pub next_held : (bios : List TaggedBio) (bio : TaggedBio) (steps : List Step) → length bios < MAX_PLUGGED
        → uses_left script device thread true bios (turns.Accepted bio ∷ steps) ≡ uses_left script device thread true (bios ++ bio ∷ []) steps
    next_held bios bio steps room =
        ap (λ (b : Bool). flat_map (uses_of_turn script device thread)
        (if b then turns.Window bios ∷ turns_from (Some (bio ∷ [])) steps else turns_from (Some (bios ++ bio ∷ [])) steps))
        (ne_eqb (length bios) MAX_PLUGGED (λ e. omega arith))

    pub next_alone : (bio : TaggedBio) (steps : List Step)
        → uses_left script device thread false [] (turns.Accepted bio ∷ steps) ≡ uses_left script device thread false (bio ∷ []) steps
    next_alone bio steps = refl

    pub left_none : (plugged : Bool) → uses_left script device thread plugged [] [] ≡ []
    left_none true = refl
    left_none false = refl

-- ---- the uses so far

module _ (start : DeviceData) (section : List Op) where
  abbrev script : Script
  script = start.script

  abbrev thread : ℕ
  thread = start.thread

  abbrev pub left : ℕ → ℕ → Bool → List ℕ → List DeviceUse
  left device op plugged pending = uses_left script device thread plugged (op_bios (numbered section pending)) (steps_from script section op)

  -- at the beginning
  pub used_none : HasUsed start start section 0 0 false [] []
  used_none = record {
    done = λ device. [];
    makes = uses_none script (journal_seen start);
    before = λ device. tt;
    whole = λ device. refl;
  }

  module _ (now : DeviceData) (op next : ℕ) (plugged : Bool) (pending : List ℕ) (made : List Entry) (used : HasUsed start now section op next plugged pending made) where
    -- no use is made meanwhile
    pub used_more : (op' : ℕ) (plugged' : Bool) (pending' : List ℕ) → ((device : ℕ) → left device op plugged pending ≡ left device op' plugged' pending')
        → HasUsed start now section op' next plugged' pending' made
    used_more op' plugged' pending' same = record {
      done = used.done;
      makes = used.makes;
      before = used.before;
      whole = λ device. used.whole device ∙ ap (λ l. used.done device ++ l) (same device);
    }

    -- what is held back is submitted
    pub used_window : (new : DeviceData) (es : List Entry) → next ≤ op
        → WindowEnds script thread plugged (op_bios (numbered section pending)) (steps_from script section op)
        → AllByRecursion (λ (x : ℕ × Op). (next ≤ x.0) × (x.0 < op)) (numbered section pending)
        → Attempts thread [] (flat_map (units_of script) (numbered section pending)) es
        → MakesUses script (journal_seen now) (journal_seen new) (λ device. uses_of_turn script device thread (turns.Window (op_bios (numbered section pending)))) es
        → HasUsed start new section op op plugged [] (made ++ es)
    used_window new es le ends numbers attempts makes = record {
      done = λ device. used.done device ++ window device;
      makes = uses_append script (journal_seen start) (journal_seen now) (journal_seen new) used.done window made es
          (λ device. all_from_in (λ e. list_any (is_for (name_of_entry e)) (used.done device) ≡ false) es
          (λ e at. none_for (λ name. name.op < next) (name_of_entry e) (used.done device)
          (λ other lt. let ge = late e at in other_op (name_of_entry e) other (λ same. omega arith)) (used.before device)))
          used.makes makes;
      before = λ device. all_append (λ (u : DeviceUse). AllByRecursion (λ name. name.op < op) u.units) (used.done device) (window device)
          (all_of (λ (u : DeviceUse). AllByRecursion (λ name. name.op < next) u.units) (λ (u : DeviceUse). AllByRecursion (λ name. name.op < op) u.units) (used.done device)
          (λ u. all_of (λ (name : UnitName). name.op < next) (λ (name : UnitName). name.op < op) u.units (λ name lt. omega arith)) (used.before device))
          (units_of_window script device thread (λ name. name.op < op) bios
          (all_of (λ (tagged : TaggedBio). tagged.tag < op) (λ (tagged : TaggedBio). (i : ℕ) → tagged.tag < op) bios (λ tagged lt i. lt)
          (tags_of_bios (λ o. o < op) (numbered section pending)
          (all_of (λ (x : ℕ × Op). (next ≤ x.0) × (x.0 < op)) (λ (x : ℕ × Op). x.0 < op) (numbered section pending) (λ x p. p.1) numbers))));
      whole = λ device. used.whole device ∙ ap (λ l. used.done device ++ l) (ends device) ∙ sym (append_assoc (used.done device) (window device) (left device op plugged []));
    }
      where
        bios : List TaggedBio
        bios = op_bios (numbered section pending)

        window : ℕ → List DeviceUse
        window device = uses_of_turn script device thread (turns.Window (op_bios (numbered section pending)))

        late : (e : Entry) → In e es → next ≤ e.at.tag
        late e at =
            let w = beside (IsEntryOf thread) (attempted_by thread ([] ++ failed_names es) (flat_map (units_of script) (numbered section pending))) es e attempts at in
            let f = in_of_filter (λ u. is_attempted ([] ++ failed_names es) (unit_name_of thread u)) (flat_map (units_of script) (numbered section pending)) w.0 w.1 in
            let x = in_of_flat_map (units_of script) (numbered section pending) w.0 f.0 in
            let tag : e.at.tag ≡ x.0.0 = ap (λ a. a.tag) w.2.unit ∙ op_of_unit script x.0 w.0 x.2 in
            let range = (all_at (λ (y : ℕ × Op). (next ≤ y.0) × (y.0 < op)) (numbered section pending) x.0 numbers x.1).0 in
            omega arith

    -- all uses of the section were made
    pub used_all : op ≡ length section → pending ≡ [] → MakesUses script (journal_seen start) (journal_seen now) (λ device. uses_of_section script device (thread, section)) made
    used_all here none =
        uses_same script (journal_seen start) (journal_seen now) used.done (λ device. uses_of_section script device (thread, section)) made
        (λ device. sym (used.whole device
        ∙ ap (λ l. used.done device ++ uses_left script device thread plugged (op_bios (numbered section l)) (steps_from script section op)) none
        ∙ ap (λ (n : ℕ). used.done device ++ uses_left script device thread plugged [] (steps_from script section n)) here
        ∙ ap (λ (steps : List Step). used.done device ++ uses_left script device thread plugged [] steps) (steps_last script section)
        ∙ ap (λ l. used.done device ++ l) (left_none script thread device plugged) ∙ append-nil (used.done device)))
        used.makes

  -- ---- what an operation does to what is left

  module _ (op : ℕ) (operation : Op) (is : slice_get section op ≡ Some operation) where
    abbrev rest : List Step
    rest = steps_from script section (op + 1)

    steps_are : (step : Step) → step_of script (op, operation) ≡ Some step → steps_from script section op ≡ step ∷ rest
    steps_are step is_step = steps_next script section op operation is ∙ ap (λ o. cons_option o rest) is_step

    pub ends_before : (step : Step) (plugged : Bool) (bios : List TaggedBio) → step_of script (op, operation) ≡ Some step
        → WindowEnds script thread plugged bios (step ∷ rest) → WindowEnds script thread plugged bios (steps_from script section op)
    ends_before step plugged bios is_step ends = subst (WindowEnds script thread plugged bios) (sym (steps_are step is_step)) ends

    pub left_before : (step : Step) (device : ℕ) (plugged : Bool) (bios : List TaggedBio) → step_of script (op, operation) ≡ Some step
        → uses_left script device thread plugged bios (steps_from script section op) ≡ uses_left script device thread plugged bios (step ∷ rest)
    left_before step device plugged bios is_step = ap (uses_left script device thread plugged bios) (steps_are step is_step)

    -- an operation that means nothing for windows
    pub left_quiet : (plugged : Bool) (pending : List ℕ) → step_of script (op, operation) ≡ None → (device : ℕ) → left device op plugged pending ≡ left device (op + 1) plugged pending
    left_quiet plugged pending none device =
        ap (uses_left script device thread plugged (op_bios (numbered section pending))) (steps_next script section op operation is ∙ ap (λ o. cons_option o rest) none)

    module _ (bio : Extent) (is_bio : bio_of operation ≡ Some bio) (unrefused : refusal_of script bio ≡ None) where
      abbrev tagged : TaggedBio
      tagged = record { tag = op; bio = bio }

      pub ends_if_full : (plugged : Bool) (pending : List ℕ) → AllByRecursion (MayBePlugged script section) pending → length pending ≡ MAX_PLUGGED
          → WindowEnds script thread plugged (op_bios (numbered section pending)) (steps_from script section op)
      ends_if_full plugged pending all full =
          ends_before (turns.Accepted tagged) plugged (op_bios (numbered section pending)) (step_accepted script op operation bio is_bio unrefused)
          (ends_full script thread plugged (op_bios (numbered section pending)) tagged rest (bios_count script section pending all ∙ full))

      -- an accepted bio is held back
      pub left_held : (plugged : Bool) (pending : List ℕ) → AllByRecursion (MayBePlugged script section) pending → length pending < MAX_PLUGGED → HoldsNone plugged pending
          → numbered section (pending ++ op ∷ []) ≡ numbered section pending ++ (op, operation) ∷ []
          → (device : ℕ) → left device op plugged pending ≡ left device (op + 1) plugged (pending ++ op ∷ [])
      left_held plugged pending all room none more device =
          left_before (turns.Accepted tagged) device plugged (op_bios (numbered section pending)) (step_accepted script op operation bio is_bio unrefused)
          ∙ by_plug plugged none
          ∙ ap (λ bs. uses_left script device thread plugged bs rest) (sym (ap op_bios more ∙ bio_more (numbered section pending) op operation bio is_bio))
        where
          by_plug : (b : Bool) → HoldsNone b pending
              → uses_left script device thread b (op_bios (numbered section pending)) (turns.Accepted tagged ∷ rest) ≡ uses_left script device thread b (op_bios (numbered section pending) ++ tagged ∷ []) rest
          by_plug true none' = next_held script thread device (op_bios (numbered section pending)) tagged rest (let n = bios_count script section pending all in omega arith)
          by_plug false none' =
              let e : op_bios (numbered section pending) ≡ [] = ap (λ l. op_bios (numbered section l)) (none' refl) in
              ap (λ bs. uses_left script device thread false bs (turns.Accepted tagged ∷ rest)) e
              ∙ next_alone script thread device tagged rest
              ∙ ap (λ bs. uses_left script device thread false (bs ++ tagged ∷ []) rest) (sym e)

  -- an eviction or a reset, with nothing held back
  pub used_turn : (now new : DeviceData) (op next : ℕ) (plugged : Bool) (made : List Entry) (turn : Turn) → next ≤ op + 1
      → ((device : ℕ) → AllByRecursion (λ (u : DeviceUse). AllByRecursion (λ (name : UnitName). name.op < op + 1) u.units) (uses_of_turn script device thread turn))
      → ((device : ℕ) → left device op plugged [] ≡ uses_of_turn script device thread turn ++ left device (op + 1) plugged [])
      → MakesUses script (journal_seen now) (journal_seen new) (λ device. uses_of_turn script device thread turn) []
      → HasUsed start now section op next plugged [] made → HasUsed start new section (op + 1) (op + 1) plugged [] made
  used_turn now new op next plugged made turn le none is makes used = record {
    done = λ device. used.done device ++ uses_of_turn script device thread turn;
    makes = subst (MakesUses script (journal_seen start) (journal_seen new) (λ device. used.done device ++ uses_of_turn script device thread turn)) (append-nil made)
        (uses_append script (journal_seen start) (journal_seen now) (journal_seen new) used.done (λ device. uses_of_turn script device thread turn) made []
        (λ device. tt) used.makes makes);
    before = λ device. all_append (λ (u : DeviceUse). AllByRecursion (λ name. name.op < op + 1) u.units) (used.done device) (uses_of_turn script device thread turn)
        (all_of (λ (u : DeviceUse). AllByRecursion (λ name. name.op < next) u.units) (λ (u : DeviceUse). AllByRecursion (λ name. name.op < op + 1) u.units) (used.done device)
        (λ u. all_of (λ (name : UnitName). name.op < next) (λ (name : UnitName). name.op < op + 1) u.units (λ name lt. omega arith)) (used.before device))
        (none device);
    whole = λ device. used.whole device ∙ ap (λ l. used.done device ++ l) (is device) ∙ sym (append_assoc (used.done device) (uses_of_turn script device thread turn) (left device (op + 1) plugged []));
  }

-- a bio that the plug has no room for
pub ends_where_full : (start : DeviceData) (section : List Op) (op : ℕ) (plugged : Bool) (pending : List ℕ) → MayBePlugged start.script section op
    → AllByRecursion (MayBePlugged start.script section) pending → length pending ≡ MAX_PLUGGED
    → WindowEnds start.script start.thread plugged (op_bios (numbered section pending)) (steps_from start.script section op)
ends_where_full start section op plugged pending bio all full = by_operation (slice_get section op) refl bio
  where
    by_bio : (operation : Op) (p : Option Extent) → slice_get section op ≡ Some operation → bio_of operation ≡ p → IsSomeAnd p (λ b. refusal_of start.script b ≡ None)
        → WindowEnds start.script start.thread plugged (op_bios (numbered section pending)) (steps_from start.script section op)
    by_bio operation None is is_bio none = absurd none
    by_bio operation (Some b) is is_bio none = ends_if_full start section op operation is b is_bio none plugged pending all full

    by_operation : (p : Option Op) → slice_get section op ≡ p → IsSomeAnd p (IsAcceptedBio start.script)
        → WindowEnds start.script start.thread plugged (op_bios (numbered section pending)) (steps_from start.script section op)
    by_operation None is none = absurd none
    by_operation (Some operation) is accepted' = by_bio operation (bio_of operation) is refl accepted'
