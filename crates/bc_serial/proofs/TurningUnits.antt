-- Inside a window: a unit of a bio is reached, and is attempted.
use Rattle.std.proofs.Common.{◌≡◌, ℕ, ◌+◌, ◌<◌, Bool, true, false, cond, Option, Some, None, List, [], ◌∷◌, ◌++◌, refl, sym, ap, subst, ◌∙◌}
use Rattle.std.specs.Prelude.{◌==◌, ◌&&◌, ◌||◌, option_and_then, IfSome}
use Rattle.std.specs.List.{list_any}
use Rattle.std.specs.Option.{option_map_or}
use Rattle.std.proofs.lemmas.Bool.{eq-eqb, and_from, or_parts, or_right}
use Rattle.std.proofs.lemmas.List.Folds.{list_any-append}
use Rattle.bc_base.specs.Lists.{Each, list_at}
use Rattle.bc_key.specs.declared.keys.KeyNo.{KeyNo}
use Rattle.bc_bio.specs.declared.context.Context.{Context}
use Rattle.bc_bio.specs.declared.extent.Extent.{Extent}
use Rattle.bc_bio.specs.Extent.{context_after}
use Rattle.bc_bio.specs.Windows.{TaggedBio}
use Rattle.bc_medium.specs.declared.entry.Entry.{Entry}
use Rattle.bc_medium.specs.declared.unit_name.UnitName.{UnitName}
use Rattle.bc_medium.specs.declared.via.Via.{Via}
use Rattle.bc_medium.specs.declared.via.Via.TheVariants as vias
use Rattle.bc_medium.specs.Entries.{name_of_entry}
use Rattle.bc_medium.specs.LawfulOrders.{is_same}
use Rattle.bc_profile.specs.declared.event.Event.{Event}
use Rattle.bc_profile.specs.declared.uses.Use.TheVariants as uses
use Rattle.bc_profile.specs.Programmings.{Holds, last_programming}
use Rattle.bc_script.specs.Script.{Script, IsScript}
use Rattle.bc_script.specs.Bios.{is_inline}
use Rattle.bc_report.specs.Programmings.{entry_by}
use Rattle.bc_report.specs.SerialRun.{inline_key}
use Rattle.bc_compose.specs.SectionDone.{inline_of}
use Rattle.bc_compose.specs.OrderedHolds.{slot_count_of}
use Rattle.bc_serial.specs.declared.open_hold.OpenHold.{OpenHold}
use Rattle.bc_serial.specs.Keyslots.{via_under}
use Rattle.bc_serial.specs.Standing.{CourseData, IsPerformableBio}
use Rattle.bc_section.specs.Uses.{after_uses, is_for, NamesOwnUse, NamesUse}
use Rattle.bc_serial.specs.InTurn.{StillHolds, InTurn, first_units_of, GoesInlineAt, IsNotInline, ReachesUnit, via_in}
use Rattle.bc_serial.proofs.TurnSteps.{uses_of_window, entry_aside, entry_inline}
use Rattle.bc_serial.proofs.OnDevice.{lies_on, found_at}
use Rattle.bc_serial.proofs.WindowNames.{name_free}
use Rattle.bc_serial.proofs.OneMore.{hold_from, device, aside, open_next, last_use, reached}

-- ---- the key of a bio

key_none : (script : Script) (op : ℕ) (bio : Extent) → bio.context ≡ None → inline_key script (first_units_of op bio 0 ∷ []) ≡ None
key_none script op bio is = ap (λ (c : Option Context). option_map_or (λ context. cond (is_inline script context.key) (Some context.key) None) c None) is

key_some : (script : Script) (op : ℕ) (bio : Extent) (under : Context) (b : Bool) → bio.context ≡ Some under → is_inline script under.key ≡ b
    → inline_key script (first_units_of op bio 0 ∷ []) ≡ cond b (Some under.key) None
key_some script op bio under b is inline =
    ap (λ (c : Option Context). option_map_or (λ context. cond (is_inline script context.key) (Some context.key) None) c None) is
    ∙ ap (λ (b' : Bool). cond b' (Some under.key) None) inline

-- ---- a unit is reached

pub unit_reached : (start old new : CourseData) (done : List TaggedBio) (op n : ℕ) (bio : Extent) (made : List Entry) → IsScript start.script → IsPerformableBio start.script bio → n < bio.units
    → InTurn start old (done ++ first_units_of op bio n ∷ []) made → ReachesUnit old new bio n → InTurn start new (done ++ first_units_of op bio (n + 1) ∷ []) made
unit_reached start old new done op n bio made rules performable lt t r = by bio.context refl
  where
    script : Script
    script = start.script

    by_key : (under : Context) → bio.context ≡ Some under → (b : Bool) → is_inline script under.key ≡ b → InTurn start new (done ++ first_units_of op bio (n + 1) ∷ []) made
    by_key under is false inline =
        aside start done op bio n (key_some script op bio under false is inline) old new made r.same
        (r.not_inline (subst (IsNotInline old.script) (sym is) (ap (λ (sc : Script). is_inline sc under.key) t.script_is ∙ inline))) t
    by_key under is true inline =
        let within = lies_on script bio n under rules performable lt inline in
        let at_device : GoesInlineAt old.script bio n under (device start done op bio n) =
        subst (λ (sc : Script). GoesInlineAt sc bio n under (device start done op bio n)) (sym t.script_is)
        (record { has_context = is; inline = inline; within = within; at = found_at script.targets _ within }) in
        reached start done op bio n under.key (key_some script op bio under true is inline) old new made r.same within
        (r.keeps under (device start done op bio n) at_device) (r.takes under (device start done op bio n) at_device) t

    by : (o : Option Context) → bio.context ≡ o → InTurn start new (done ++ first_units_of op bio (n + 1) ∷ []) made
    by None is = aside start done op bio n (key_none script op bio is) old new made r.same (r.not_inline (subst (IsNotInline old.script) (sym is) tt)) t
    by (Some under) is = by_key under is (is_inline script under.key) refl

-- ---- a unit is attempted

pub unit_attempted : (start old new : CourseData) (done : List TaggedBio) (op n : ℕ) (bio : Extent) (made : List Entry) (e : Entry) → IsScript start.script → IsPerformableBio start.script bio
    → n < bio.units → Each (λ tagged. tagged.tag < op) done → InTurn start old (done ++ first_units_of op bio n ∷ []) made → ReachesUnit old new bio n
    → name_of_entry e ≡ record { thread = start.thread; op = op; unit = n } → e.at.context ≡ context_after n bio.context → e.at.tag ≡ op → e.via ≡ via_in new e.at.context
    → InTurn start new (done ++ first_units_of op bio (n + 1) ∷ []) (made ++ e ∷ [])
unit_attempted start old new done op n bio made e rules performable lt below t r named context tag via = by bio.context refl
  where
    script : Script
    script = start.script

    more : List TaggedBio
    more = done ++ first_units_of op bio (n + 1) ∷ []

    journals : ℕ → List Event
    journals = list_at start.journals

    t' : InTurn start new more made
    t' = unit_reached start old new done op n bio made rules performable lt t r

    by_entry : (o : Option Context) (v : Via) → e.at.context ≡ o → e.via ≡ v → inline_of e ≡ option_and_then (λ context. entry_by e.at.tag context v) o
    by_entry o v is goes = ap (λ (c : Option Context). option_and_then (λ context. entry_by e.at.tag context e.via) c) is ∙ ap (λ (w : Via). option_and_then (λ context. entry_by e.at.tag context w) o) goes

    -- it goes by the open hold
    by_hold : (under under' : Context) → bio.context ≡ Some under → under'.key ≡ under.key → e.at.context ≡ Some under' → is_inline script under.key ≡ true → e.via ≡ via_under new.opened
        → InTurn start new more (made ++ e ∷ [])
    by_hold under under' is same_key has inline goes =
        let d = device start done op bio n in
        let keyed = key_some script op bio under true is inline in
        let within = lies_on script bio n under rules performable lt inline in
        let h = hold_from new.opened d under.key.0 (t'.opened ∙ open_next start done op bio n under.key keyed) in
        let hold = h.0 in
        let goes' : e.via ≡ vias.Inline hold.device hold.slot hold.event = goes ∙ ap via_under h.1 in
        let still : Holds (slot_count_of new.script hold.device) (list_at new.journals hold.device) hold.key hold.slot hold.event =
        subst (λ (o : Option OpenHold). IfSome o (StillHolds new)) h.1 t'.still in
        let l = last_use start done op bio n under.key keyed in
        let name : UnitName = record { thread = start.thread; op = op; unit = n } in
        let unit_is : list_any (is_same name) (l.names ++ name ∷ []) ≡ true =
        list_any-append (is_same name) l.names (name ∷ [])
        ∙ or_right (list_any (is_same name) l.names) (list_any (is_same name) (name ∷ []))
        (ap (λ (b : Bool). b || false) (and_from ((name.thread == name.thread) && (name.op == name.op)) (name.unit == name.unit)
        (and_from (name.thread == name.thread) (name.op == name.op) (eq-eqb name.thread name.thread refl) (eq-eqb name.op name.op refl)) (eq-eqb name.unit name.unit refl))) in
        let others : list_any (is_for name) l.first ≡ false =
        (or_parts (list_any (is_for name) l.first) (list_any (is_for name) l.rest)
        (sym (list_any-append (is_for name) l.first l.rest) ∙ ap (list_any (is_for name)) (sym l.among) ∙ name_free script d start.thread done op n bio name below refl refl)).0 in
        let own : NamesOwnUse script (journals d) (uses_of_window start more d) e d hold.slot hold.event = record {
          under = under';
          has_context = has;
          before = l.first;
          units = l.names ++ name ∷ [];
          after = [];
          among = l.is ∙ ap (λ (k : KeyNo). l.first ++ record { use' = uses.Hold k; units = l.names ++ name ∷ [] } ∷ []) (sym same_key);
          for_others = ap (λ (m : UnitName). list_any (is_for m) l.first) named ∙ others;
          for_it = ap (λ (m : UnitName). list_any (is_same m) (l.names ++ name ∷ [])) named ∙ unit_is;
          holds =
              subst (λ (k : KeyNo). Holds (slot_count_of script d) (after_uses script d (journals d) (l.first ++ record { use' = uses.Hold k; units = l.names ++ name ∷ [] } ∷ [])) k.0 hold.slot hold.event) (sym same_key)
              (subst (λ (js : List Event). Holds (slot_count_of script d) js under.key.0 hold.slot hold.event) (t'.uses.journals d within ∙ ap (after_uses script d (journals d)) l.is)
              (subst (λ (k : ℕ). Holds (slot_count_of script d) (list_at new.journals d) k hold.slot hold.event) h.3
              (subst (λ (x : ℕ). Holds (slot_count_of script x) (list_at new.journals x) hold.key hold.slot hold.event) h.2
              (subst (λ (sc : Script). Holds (slot_count_of sc hold.device) (list_at new.journals hold.device) hold.key hold.slot hold.event) t'.script_is still))));
        } in
        let own' : NamesOwnUse script (journals hold.device) (uses_of_window start more hold.device) e hold.device hold.slot hold.event =
        subst (λ (x : ℕ). NamesOwnUse script (journals x) (uses_of_window start more x) e x hold.slot hold.event) (sym h.2) own in
        entry_inline start new more made e (record { op = e.at.tag; key = under'.key.0; device = hold.device; event = hold.event }) hold.slot
        (subst (NamesUse script journals (uses_of_window start more) e) (sym goes') own')
        (by_entry (Some under') (vias.Inline hold.device hold.slot hold.event) has goes')
        (ap (λ (k : ℕ). last_programming k (list_at new.journals hold.device)) (ap (λ (k : KeyNo). k.0) same_key ∙ sym h.3) ∙ still.last) t'

    by_key : (under : Context) → bio.context ≡ Some under → e.at.context ≡ context_after n (Some under) → (b : Bool) → is_inline script under.key ≡ b → InTurn start new more (made ++ e ∷ [])
    by_key under is has b inline = go b inline (via ∙ ap (via_in new) has ∙ ap (λ (b' : Bool). cond b' (via_under new.opened) vias.Soft) (ap (λ (sc : Script). is_inline sc under.key) t'.script_is ∙ inline))
      where
        go : (b : Bool) → is_inline script under.key ≡ b → e.via ≡ cond b (via_under new.opened) vias.Soft → InTurn start new more (made ++ e ∷ [])
        go false inline goes =
            entry_aside start new more made e (subst (NamesUse script journals (uses_of_window start more) e) (sym goes) tt) (by_entry (context_after n (Some under)) vias.Soft has goes) t'
        go true inline goes = by_hold under (record { key = under.key; dun = under.dun + n }) is refl has inline goes

    by : (o : Option Context) → bio.context ≡ o → InTurn start new more (made ++ e ∷ [])
    by None is =
        let has : e.at.context ≡ None = context ∙ ap (context_after n) is in
        let goes : e.via ≡ vias.Plain = via ∙ ap (via_in new) has in
        entry_aside start new more made e (subst (NamesUse script journals (uses_of_window start more) e) (sym goes) tt) (by_entry None vias.Plain has goes) t'
    by (Some under) is = by_key under is (context ∙ ap (context_after n) is) (is_inline script under.key) refl
