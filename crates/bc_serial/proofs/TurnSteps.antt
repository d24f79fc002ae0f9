-- Inside a window: what a use, or an entry, more leaves of it.
use Rattle.std.proofs.Common.{◌≡◌, ◌≢◌, ℕ, ◌<◌, ◌≤◌, Option, Some, None, List, [], ◌∷◌, ◌++◌, length, map, sym, ap, subst, ◌∙◌, arith}
use Rattle.std.specs.Prelude.{filter_map, option_map, IfSome}
use Rattle.std.specs.List.{AllByRecursion, cons_option}
use Rattle.std.proofs.Math.Logic.{⊎_elim}
use Rattle.std.proofs.lemmas.Bool.{cases_eq, cases_lt}
use Rattle.std.proofs.lemmas.Option.{none-some, same_Some}
use Rattle.std.proofs.lemmas.List.{append-nil, length-set}
use Rattle.std.proofs.lemmas.List.Elements.{filter_map-append}
use Rattle.bc_base.specs.Lists.{list_at}
use Rattle.bc_bio.specs.Windows.{TaggedBio}
use Rattle.bc_key.specs.declared.keys.KeyNo.{KeyNo}
use Rattle.bc_medium.specs.declared.entry.Entry.{Entry}
use Rattle.bc_medium.specs.declared.unit_name.UnitName.{UnitName}
use Rattle.bc_profile.specs.declared.event.Event.{Event}
use Rattle.bc_profile.specs.declared.uses.Use.TheVariants as uses
use Rattle.bc_profile.specs.OneCaller.{journal_of}
use Rattle.bc_profile.specs.SlotJournal.{slots_after}
use Rattle.bc_profile.specs.Programmings.{Holds, last_programming}
use Rattle.bc_script.specs.Script.{Script}
use Rattle.bc_script.specs.Windows as turns
use Rattle.bc_report.specs.Programmings.{InlineEntry}
use Rattle.bc_report.specs.SerialRun.{DeviceUse, uses_of_turn}
use Rattle.bc_compose.specs.SectionDone.{inline_of}
use Rattle.bc_compose.specs.OrderedHolds.{Pairs, Rises, slot_count_of}
use Rattle.bc_serial.specs.declared.open_hold.OpenHold.{OpenHold}
use Rattle.bc_serial.specs.Keyslots.{used_at}
use Rattle.bc_serial.specs.Standing.{CourseData}
use Rattle.bc_section.specs.Uses.{after_uses, NamesOwnUse, NamesUse}
use Rattle.bc_serial.specs.InTurn.{hold_open_after, under_hold, StillHolds, NoLater, InTurn, RunOpensHold, LeavesHolds}
use Rattle.bc_section.proofs.Lists.{list_at_past}
use Rattle.bc_serial.proofs.Extending.{same_events, after_more, used_here, used_elsewhere, no_later_more, own_appended, KeepNames, all_kept}
use Rattle.bc_base.proofs.Members.{all_append, all_of}

-- the uses of these bios, by device
abbrev pub uses_of_window : CourseData → List TaggedBio → ℕ → List DeviceUse
uses_of_window start bios device = uses_of_turn start.script device start.thread (turns.Window bios)

-- ---- units more

-- the keyslots were left as they are
pub leaves_step : (start old new : CourseData) (bios more : List TaggedBio) (made : List Entry) → new ≡ record old { left = new.left; journals = new.journals; opened = new.opened }
    → LeavesHolds old new
    → ((device : ℕ) → map (λ (u : DeviceUse). u.use') (uses_of_window start more device) ≡ map (λ (u : DeviceUse). u.use') (uses_of_window start bios device))
    → KeepNames start.script (list_at start.journals) (uses_of_window start bios) (uses_of_window start more)
    → hold_open_after start.script more ≡ hold_open_after start.script bios
    → InTurn start old bios made → InTurn start new more made
leaves_step start old new bios more made same l uses_same keep opens t = record {
  script_is = ap (λ (c : CourseData). c.script) same ∙ t.script_is;
  thread_is = ap (λ (c : CourseData). c.thread) same ∙ t.thread_is;
  begun_is = ap (λ (c : CourseData). c.begun) same ∙ t.begun_is;
  same_devices = ap length l.journals ∙ t.same_devices;
  uses = record {
    journals = λ device lt.
        ap (λ (js : List (List Event)). list_at js device) l.journals ∙ t.uses.journals device lt
        ∙ same_events start.script device (list_at start.journals device) (uses_of_window start bios device) (uses_of_window start more device) (sym (uses_same device));
    holds = all_kept start.script (list_at start.journals) (uses_of_window start bios) (uses_of_window start more) keep made t.uses.holds;
  };
  rises = t.rises;
  none_later = subst (λ (js : List (List Event)). AllByRecursion (λ (i : InlineEntry). NoLater (list_at js i.device) i.key i.event) (filter_map inline_of made)) (sym l.journals) t.none_later;
  opened = ap (option_map under_hold) l.opened ∙ t.opened ∙ sym opens;
  still =
      subst (λ (o : Option OpenHold). IfSome o (StillHolds new)) (sym l.opened)
      (subst (λ (script : Script). IfSome old.opened (λ hold. Holds (slot_count_of script hold.device) (list_at new.journals hold.device) hold.key hold.slot hold.event))
      (sym (ap (λ (c : CourseData). c.script) same))
      (subst (λ (js : List (List Event)). IfSome old.opened (λ hold. Holds (slot_count_of old.script hold.device) (list_at js hold.device) hold.key hold.slot hold.event)) (sym l.journals) t.still));
}

-- a hold was taken of a key on a device
pub takes_step : (start old new : CourseData) (bios more : List TaggedBio) (made : List Entry) (device : ℕ) (key : KeyNo) (names : List UnitName)
    → new ≡ record old { left = new.left; journals = new.journals; opened = new.opened }
    → RunOpensHold old new device key → device < length start.script.targets
    → ((other : ℕ) → other ≢ device → uses_of_window start more other ≡ uses_of_window start bios other)
    → uses_of_window start more device ≡ uses_of_window start bios device ++ record { use' = uses.Hold key; units = names } ∷ []
    → hold_open_after start.script more ≡ Some (device, key.0)
    → InTurn start old bios made → InTurn start new more made
takes_step start old new bios more made device key names same k within elsewhere here opens t = record {
  script_is = ap (λ (c : CourseData). c.script) same ∙ t.script_is;
  thread_is = ap (λ (c : CourseData). c.thread) same ∙ t.thread_is;
  begun_is = ap (λ (c : CourseData). c.begun) same ∙ t.begun_is;
  same_devices = long ∙ t.same_devices;
  uses = record {
    journals = λ other lt. ⊎_elim
        (λ (e : other ≡ device).
        subst (λ (d : ℕ). list_at new.journals d ≡ after_uses start.script d (list_at start.journals d) (uses_of_window start more d)) (sym e)
        (at_device
        ∙ ap (λ (l : List Event). after_uses start.script device l (taken ∷ [])) (t.uses.journals device within)
        ∙ sym (after_more start.script device (list_at start.journals device) (uses_of_window start bios device) (taken ∷ []))
        ∙ ap (λ (l : List DeviceUse). after_uses start.script device (list_at start.journals device) l) (sym here)))
        (λ (ne : other ≢ device).
        at_other other ne ∙ t.uses.journals other lt
        ∙ ap (λ (l : List DeviceUse). after_uses start.script other (list_at start.journals other) l) (sym (elsewhere other ne)))
        (cases_eq other device);
    holds = all_kept start.script (list_at start.journals) (uses_of_window start bios) (uses_of_window start more)
        (λ e other slot event h. ⊎_elim
        (λ (is : other ≡ device).
        subst (λ (l : List DeviceUse). NamesOwnUse start.script (list_at start.journals other) l e other slot event)
        (sym (ap (uses_of_window start more) is ∙ here ∙ ap (λ (d : ℕ). uses_of_window start bios d ++ taken ∷ []) (sym is)))
        (own_appended start.script (list_at start.journals other) (uses_of_window start bios other) taken e other slot event h))
        (λ (ne : other ≢ device).
        subst (λ (l : List DeviceUse). NamesOwnUse start.script (list_at start.journals other) l e other slot event) (sym (elsewhere other ne)) h)
        (cases_eq other device)) made t.uses.holds;
  };
  rises = t.rises;
  none_later =
      all_of (λ (i : InlineEntry). NoLater (list_at old.journals i.device) i.key i.event) (λ (i : InlineEntry). NoLater (list_at new.journals i.device) i.key i.event) (filter_map inline_of made)
      (λ i h. let g = goes_on i.device in subst (λ (l : List Event). NoLater l i.key i.event) (sym g.1) (no_later_more (list_at old.journals i.device) g.0 i.key i.event h)) t.none_later;
  opened = ap (option_map under_hold) k.opened ∙ sym opens;
  still =
      subst (λ (o : Option OpenHold). IfSome o (StillHolds new)) (sym k.opened)
      (subst (λ (script : Script). Holds (slot_count_of script device) (list_at new.journals device) key.0 k.slot k.event) (sym (ap (λ (c : CourseData). c.script) same)) k.holds);
}
  where
    taken : DeviceUse
    taken = record { use' = uses.Hold key; units = names }

    long : length new.journals ≡ length old.journals
    long = ap length k.journals ∙ length-set old.journals device _

    inside : device < length old.journals
    inside =
        ⊎_elim (λ (lt : device < length old.journals). lt)
        (λ (past : length old.journals ≤ device).
        absurd (none-some (k.slot, k.event) (sym (ap (last_programming key.0) (list_at_past new.journals device (subst (λ (n : ℕ). n ≤ device) (sym long) past))) ∙ k.holds.last)))
        (cases_lt device (length old.journals))

    at_device : list_at new.journals device ≡ after_uses start.script device (list_at old.journals device) (taken ∷ [])
    at_device =
        ap (λ (js : List (List Event)). list_at js device) (k.journals ∙ ap (λ (script : Script). used_at script device (uses.Hold key) old.journals) t.script_is)
        ∙ used_here start.script device (uses.Hold key) names old.journals inside

    at_other : (other : ℕ) → other ≢ device → list_at new.journals other ≡ list_at old.journals other
    at_other other ne = ap (λ (js : List (List Event)). list_at js other) k.journals ∙ used_elsewhere old.script device other (uses.Hold key) old.journals ne

    goes_on : (d : ℕ) → (added : List Event) × (list_at new.journals d ≡ list_at old.journals d ++ added)
    goes_on d =
        ⊎_elim
        (λ (e : d ≡ device). (
          journal_of (slots_after (slot_count_of start.script device) (list_at old.journals device)) (uses.Hold key ∷ []),
          ap (list_at new.journals) e ∙ at_device ∙ ap (λ (n : ℕ). list_at old.journals n ++ journal_of (slots_after (slot_count_of start.script device) (list_at old.journals device)) (uses.Hold key ∷ [])) (sym e),
        ))
        (λ (ne : d ≢ device). ([], at_other d ne ∙ sym (append-nil (list_at old.journals d))))
        (cases_eq d device)

-- ---- entries more

pairs_push : {X : Type 0} (R : X → X → Type 0) (xs : List X) (y : X) → Pairs R xs → AllByRecursion (λ x. R x y) xs → Pairs R (xs ++ y ∷ [])
pairs_push R [] y pairs all = (tt, tt)
pairs_push R (x ∷ xs) y pairs all = (all_append (R x) xs (y ∷ []) pairs.0 (all.0, tt), pairs_push R xs y pairs.1 all.1)

-- an entry that isn't inline
pub entry_aside : (start now : CourseData) (bios : List TaggedBio) (made : List Entry) (e : Entry) → NamesUse start.script (list_at start.journals) (uses_of_window start bios) e e.via
    → inline_of e ≡ None → InTurn start now bios made → InTurn start now bios (made ++ e ∷ [])
entry_aside start now bios made e named none t =
    let same : filter_map inline_of (made ++ e ∷ []) ≡ filter_map inline_of made =
    filter_map-append inline_of made (e ∷ []) ∙ ap (λ (o : Option InlineEntry). filter_map inline_of made ++ cons_option o []) none ∙ append-nil (filter_map inline_of made) in
    record {
      script_is = t.script_is;
      thread_is = t.thread_is;
      begun_is = t.begun_is;
      same_devices = t.same_devices;
      uses = record {
        journals = t.uses.journals;
        holds = all_append (λ e'. NamesUse start.script (list_at start.journals) (uses_of_window start bios) e' e'.via) made (e ∷ []) t.uses.holds (named, tt);
      };
      rises = subst (Pairs Rises) (sym same) t.rises;
      none_later = subst (AllByRecursion (λ (i : InlineEntry). NoLater (list_at now.journals i.device) i.key i.event)) (sym same) t.none_later;
      opened = t.opened;
      still = t.still;
    }

-- an inline entry, which names the last programming of its key
pub entry_inline : (start now : CourseData) (bios : List TaggedBio) (made : List Entry) (e : Entry) (i : InlineEntry) (slot : ℕ)
    → NamesUse start.script (list_at start.journals) (uses_of_window start bios) e e.via
    → inline_of e ≡ Some i → last_programming i.key (list_at now.journals i.device) ≡ Some (slot, i.event) → InTurn start now bios made → InTurn start now bios (made ++ e ∷ [])
entry_inline start now bios made e i slot named is last t =
    let same : filter_map inline_of (made ++ e ∷ []) ≡ filter_map inline_of made ++ i ∷ [] =
    filter_map-append inline_of made (e ∷ []) ∙ ap (λ (o : Option InlineEntry). filter_map inline_of made ++ cons_option o []) is in
    let within : i.event ≤ i.event = omega arith in
    record {
      script_is = t.script_is;
      thread_is = t.thread_is;
      begun_is = t.begun_is;
      same_devices = t.same_devices;
      uses = record {
        journals = t.uses.journals;
        holds = all_append (λ e'. NamesUse start.script (list_at start.journals) (uses_of_window start bios) e' e'.via) made (e ∷ []) t.uses.holds (named, tt);
      };
      rises = subst (Pairs Rises) (sym same)
          (pairs_push Rises (filter_map inline_of made) i t.rises
          (all_of (λ (j : InlineEntry). NoLater (list_at now.journals j.device) j.key j.event) (λ (j : InlineEntry). Rises j i) (filter_map inline_of made)
          (λ j h keys devices.
          let found : Some h.0 ≡ Some (slot, i.event) =
          sym h.1 ∙ ap (λ (k : ℕ). last_programming k (list_at now.journals j.device)) keys ∙ ap (λ (d : ℕ). last_programming i.key (list_at now.journals d)) devices ∙ last in
          subst (λ (p : ℕ × ℕ). j.event ≤ p.1) (same_Some h.0 (slot, i.event) found) h.2) t.none_later));
      none_later = subst (AllByRecursion (λ (j : InlineEntry). NoLater (list_at now.journals j.device) j.key j.event)) (sym same)
          (all_append (λ (j : InlineEntry). NoLater (list_at now.journals j.device) j.key j.event) (filter_map inline_of made) (i ∷ []) t.none_later
          (((slot, i.event), last, within), tt));
      opened = t.opened;
      still = t.still;
    }
