-- Uses of a device, and one more, or one unit more for the last: what they leave, and which hold an entry names.
use Rattle.std.proofs.Common.{◌≡◌, ◌≢◌, ℕ, suc, ◌+◌, ◌<◌, ◌≤◌, ◌⊎◌, inl, inr, Bool, true, false, cond, Option, Some, None, List, [], ◌∷◌, ◌++◌, length, map, refl, sym, ap, subst, ◌∙◌, arith}
use Rattle.std.specs.Prelude.{◌==◌, filter_map}
use Rattle.std.specs.List.{AllByRecursion, list_any, last_or, enumerate_from, cons_option}
use Rattle.std.proofs.Math.Logic.{⊎_elim}
use Rattle.std.proofs.lemmas.Bool.{or_left}
use Rattle.std.proofs.lemmas.Option.{none-some, same_Some}
use Rattle.std.proofs.lemmas.List.{append_assoc, map-append, same_from_push, get_or-set_same, get_or-set_other}
use Rattle.std.proofs.lemmas.List.Sums.{fold-append}
use Rattle.std.proofs.lemmas.List.Folds.{list_any-append}
use Rattle.std.proofs.lemmas.List.Elements.{filter_map-append}
use Rattle.bc_base.specs.Lists.{list_at}
use Rattle.bc_medium.specs.declared.entry.Entry.{Entry}
use Rattle.bc_medium.specs.declared.unit_name.UnitName.{UnitName}
use Rattle.bc_medium.specs.declared.via.Via.{Via}
use Rattle.bc_medium.specs.declared.via.Via.TheVariants as vias
use Rattle.bc_medium.specs.Entries.{name_of_entry}
use Rattle.bc_medium.specs.LawfulOrders.{is_same}
use Rattle.bc_profile.specs.declared.event.Event.{Event}
use Rattle.bc_profile.specs.declared.event.Event.TheVariants as events
use Rattle.bc_profile.specs.declared.uses.Use.{Use}
use Rattle.bc_profile.specs.declared.uses.Use.TheVariants as uses
use Rattle.bc_profile.specs.SlotJournal.{Slots, opening, after_event, after_events, slots_after}
use Rattle.bc_profile.specs.OneCaller.{events_of_use, journal_of}
use Rattle.bc_profile.specs.Programmings.{Holds, programming_at, last_programming}
use Rattle.bc_profile.proofs.KeyLemmas.{last_append, enumerate-append}
use Rattle.bc_script.specs.Script.{Script}
use Rattle.bc_report.specs.SerialRun.{DeviceUse}
use Rattle.bc_compose.specs.OrderedHolds.{slot_count_of}
use Rattle.bc_section.specs.Uses.{after_uses, NamesOwnUse, NamesUse}
use Rattle.bc_serial.specs.Keyslots.{used_at}
use Rattle.bc_serial.specs.InTurn.{NoLater}

-- ---- journals

pub journal_append : (slots : Slots) (done more : List Use) → journal_of slots (done ++ more) ≡ journal_of slots done ++ journal_of (after_events slots (journal_of slots done)) more
journal_append slots [] more = refl
journal_append slots (use' ∷ done) more =
    let es = events_of_use slots use' in
    let now = after_events slots es in
    ap (λ (l : List Event). es ++ l) (journal_append now done more)
    ∙ sym (append_assoc es (journal_of now done) (journal_of (after_events now (journal_of now done)) more))
    ∙ ap (λ (s : Slots). (es ++ journal_of now done) ++ journal_of s more) (sym (fold-append after_event slots es (journal_of now done)))

-- what uses leave doesn't depend on the units that they are for
pub same_events : (script : Script) (device : ℕ) (journal : List Event) (xs ys : List DeviceUse) → map (λ (u : DeviceUse). u.use') xs ≡ map (λ (u : DeviceUse). u.use') ys
    → after_uses script device journal xs ≡ after_uses script device journal ys
same_events script device journal xs ys same = ap (λ (l : List Use). journal ++ journal_of (slots_after (slot_count_of script device) journal) l) same

-- uses after uses
pub after_more : (script : Script) (device : ℕ) (journal : List Event) (xs ys : List DeviceUse)
    → after_uses script device journal (xs ++ ys) ≡ after_uses script device (after_uses script device journal xs) ys
after_more script device journal xs ys =
    let f = λ (u : DeviceUse). u.use' in
    let count = slot_count_of script device in
    let now = slots_after count journal in
    let first = journal_of now (map f xs) in
    ap (λ (l : List Use). journal ++ journal_of now l) (map-append f xs ys)
    ∙ ap (λ (l : List Event). journal ++ l) (journal_append now (map f xs) (map f ys))
    ∙ sym (append_assoc journal first (journal_of (after_events now first) (map f ys)))
    ∙ ap (λ (s : Slots). (journal ++ first) ++ journal_of s (map f ys)) (sym (fold-append after_event (opening count) journal first))

pub used_here : (script : Script) (device : ℕ) (use' : Use) (units : List UnitName) (journals : List (List Event)) → device < length journals
    → list_at (used_at script device use' journals) device ≡ after_uses script device (list_at journals device) (record { use' = use'; units = units } ∷ [])
used_here script device use' units journals lt = get_or-set_same journals device (after_uses script device (list_at journals device) (record { use' = use'; units = [] } ∷ [])) [] lt

pub used_elsewhere : (script : Script) (device other : ℕ) (use' : Use) (journals : List (List Event)) → (other ≢ device)
    → list_at (used_at script device use' journals) other ≡ list_at journals other
used_elsewhere script device other use' journals ne =
    get_or-set_other journals device other (after_uses script device (list_at journals device) (record { use' = use'; units = [] } ∷ [])) [] ne

-- ---- the last programming

further : (n : ℕ) (es : List Event) (o : Option (ℕ × ℕ)) (found : ℕ × ℕ) → (o ≡ Some found) ⊎ ((n + 1 ≤ found.1) × (found.1 < n + 1 + length es))
    → (o ≡ Some found) ⊎ ((n ≤ found.1) × (found.1 < n + suc (length es)))
further n es o found h =
    ⊎_elim (λ (e : o ≡ Some found). inl e)
    (λ (w : (n + 1 ≤ found.1) × (found.1 < n + 1 + length es)). let lo = w.0 in let hi = w.1 in inr (omega arith, omega arith)) h

last_within : (key n : ℕ) (events' : List Event) (o : Option (ℕ × ℕ)) (found : ℕ × ℕ) → last_or o (filter_map (programming_at key) (enumerate_from n events')) ≡ Some found
    → (o ≡ Some found) ⊎ ((n ≤ found.1) × (found.1 < n + length events'))
last_within key n [] o found is = inl is
last_within key n (events.Program slot other skipped ∷ es) o found is =
    (elim (other == key) as (λ (b : Bool). last_or o (cons_option (cond b (Some (slot, n)) None) (filter_map (programming_at key) (enumerate_from (n + 1) es))) ≡ Some found
    → (o ≡ Some found) ⊎ ((n ≤ found.1) × (found.1 < n + suc (length es)))) [
      | true ↦ λ h. ⊎_elim
          (λ (e : Some (slot, n) ≡ Some found). let at' : n ≡ found.1 = ap (λ (p : ℕ × ℕ). p.1) (same_Some (slot, n) found e) in inr (omega arith, omega arith))
          (λ (w : (n + 1 ≤ found.1) × (found.1 < n + 1 + length es)). let lo = w.0 in let hi = w.1 in inr (omega arith, omega arith))
          (last_within key (n + 1) es (Some (slot, n)) found h)
      | false ↦ λ h. further n es o found (last_within key (n + 1) es o found h)
    ]) is
last_within key n (events.Idle slot ∷ es) o found is = further n es o found (last_within key (n + 1) es o found is)
last_within key n (events.Evict slot other ∷ es) o found is = further n es o found (last_within key (n + 1) es o found is)
last_within key n (events.Busy slot other refs ∷ es) o found is = further n es o found (last_within key (n + 1) es o found is)
last_within key n (events.Reset ∷ es) o found is = further n es o found (last_within key (n + 1) es o found is)

last_some : {X : Type 0} (x : X) (xs : List X) → (y : X) × (last_or (Some x) xs ≡ Some y)
last_some x [] = (x, refl)
last_some x (z ∷ zs) = last_some z zs

-- a longer journal programs no key earlier
pub no_later_more : (journal more : List Event) (key event : ℕ) → NoLater journal key event → NoLater (journal ++ more) key event
no_later_more journal more key event h =
    let found = h.0 in
    let le = h.2 in
    let rest = filter_map (programming_at key) (enumerate_from (length journal) more) in
    let split : last_programming key (journal ++ more) ≡ last_or (Some found) rest =
    ap (λ (l : List (ℕ × Event)). last_or None (filter_map (programming_at key) l)) (enumerate-append 0 (length journal) journal more (omega arith))
    ∙ ap (last_or None) (filter_map-append (programming_at key) (enumerate_from 0 journal) (enumerate_from (length journal) more))
    ∙ last_append None (filter_map (programming_at key) (enumerate_from 0 journal)) rest
    ∙ ap (λ (o : Option (ℕ × ℕ)). last_or o rest) h.1 in
    let r = last_some found rest in
    let later : event ≤ r.0.1 =
    ⊎_elim
    (λ (e : Some found ≡ Some r.0). subst (λ (p : ℕ × ℕ). event ≤ p.1) (same_Some found r.0 e) le)
    (λ (w : (length journal ≤ r.0.1) × (r.0.1 < length journal + length more)).
    ⊎_elim (λ (no : None ≡ Some found). absurd (none-some found no))
    (λ (v : (0 ≤ found.1) × (found.1 < 0 + length journal)). let a = w.0 in let b = v.1 in omega arith)
    (last_within key 0 journal None found h.1))
    (last_within key (length journal) more (Some found) r.0 r.1) in
    (r.0, split ∙ r.1, later)

-- ---- the hold that an entry names

pub own_appended : (script : Script) (journal : List Event) (done : List DeviceUse) (u : DeviceUse) (e : Entry) (device slot event : ℕ)
    → NamesOwnUse script journal done e device slot event → NamesOwnUse script journal (done ++ u ∷ []) e device slot event
own_appended script journal done u e device slot event o = record {
  under = o.under;
  has_context = o.has_context;
  before = o.before;
  units = o.units;
  after = o.after ++ u ∷ [];
  among = ap (λ (l : List DeviceUse). l ++ u ∷ []) o.among ∙ append_assoc o.before (record { use' = uses.Hold o.under.key; units = o.units } ∷ o.after) (u ∷ []);
  for_others = o.for_others;
  for_it = o.for_it;
  holds = o.holds;
}

-- the last element of a list
pub record Pushed (X : Type 0) (xs : List X) : Type 0 where
  pub front : List X
  pub last : X
  pub is : xs ≡ front ++ last ∷ []

pub pushed : {X : Type 0} (x : X) (xs : List X) → Pushed X (x ∷ xs)
pushed x [] = record { front = []; last = x; is = refl }
pushed {X} x (y ∷ ys) = let r = pushed y ys in record { front = x ∷ r.front; last = r.last; is = ap (λ (l : List X). x ∷ l) r.is }

pub own_extended : (script : Script) (journal : List Event) (first : List DeviceUse) (use' : Use) (names : List UnitName) (name : UnitName) (e : Entry) (device slot event : ℕ)
    → NamesOwnUse script journal (first ++ record { use' = use'; units = names } ∷ []) e device slot event
    → NamesOwnUse script journal (first ++ record { use' = use'; units = names ++ name ∷ [] } ∷ []) e device slot event
own_extended script journal first use' names name e device slot event o = by o.after o.among
  where
    here : DeviceUse
    here = record { use' = uses.Hold o.under.key; units = o.units }

    old : DeviceUse
    old = record { use' = use'; units = names }

    new : DeviceUse
    new = record { use' = use'; units = names ++ name ∷ [] }

    by : (after : List DeviceUse) → first ++ old ∷ [] ≡ o.before ++ here ∷ after → NamesOwnUse script journal (first ++ new ∷ []) e device slot event
    by [] among =
        let same = same_from_push first o.before old here among in
        let is_use : use' ≡ uses.Hold o.under.key = ap (λ (u : DeviceUse). u.use') same.1 in
        let is_names : names ≡ o.units = ap (λ (u : DeviceUse). u.units) same.1 in
        let new' : DeviceUse = record { use' = uses.Hold o.under.key; units = o.units ++ name ∷ [] } in
        let f = λ (u : DeviceUse). u.use' in
        record {
          under = o.under;
          has_context = o.has_context;
          before = o.before;
          units = o.units ++ name ∷ [];
          after = [];
          among = ap (λ (l : List DeviceUse). l ++ new ∷ []) same.0
              ∙ ap (λ (k : Use). o.before ++ record { use' = k; units = names ++ name ∷ [] } ∷ []) is_use
              ∙ ap (λ (l : List UnitName). o.before ++ record { use' = uses.Hold o.under.key; units = l ++ name ∷ [] } ∷ []) is_names;
          for_others = o.for_others;
          for_it = list_any-append (is_same (name_of_entry e)) o.units (name ∷ []) ∙ or_left (list_any (is_same (name_of_entry e)) o.units) (list_any (is_same (name_of_entry e)) (name ∷ [])) o.for_it;
          holds = subst (λ (l : List Event). Holds (slot_count_of script device) l o.under.key.0 slot event)
              (same_events script device journal (o.before ++ here ∷ []) (o.before ++ new' ∷ []) (map-append f o.before (here ∷ []) ∙ sym (map-append f o.before (new' ∷ [])))) o.holds;
        }
    by (u ∷ us) among =
        let r = pushed u us in
        let moved : first ++ old ∷ [] ≡ (o.before ++ here ∷ r.front) ++ r.last ∷ [] =
        among ∙ ap (λ (l : List DeviceUse). o.before ++ here ∷ l) r.is ∙ sym (append_assoc o.before (here ∷ r.front) (r.last ∷ [])) in
        let same = same_from_push first (o.before ++ here ∷ r.front) old r.last moved in
        record {
          under = o.under;
          has_context = o.has_context;
          before = o.before;
          units = o.units;
          after = r.front ++ new ∷ [];
          among = ap (λ (l : List DeviceUse). l ++ new ∷ []) same.0 ∙ append_assoc o.before (here ∷ r.front) (new ∷ []);
          for_others = o.for_others;
          for_it = o.for_it;
          holds = o.holds;
        }

-- ---- all uses

-- each entry that named its hold among the old uses names it among the new ones
abbrev pub KeepNames : Script → (ℕ → List Event) → (ℕ → List DeviceUse) → (ℕ → List DeviceUse) → Type 0
KeepNames script journals old new =
    (e : Entry) (device slot event : ℕ) → NamesOwnUse script (journals device) (old device) e device slot event → NamesOwnUse script (journals device) (new device) e device slot event

pub names_kept : (script : Script) (journals : ℕ → List Event) (old new : ℕ → List DeviceUse) → KeepNames script journals old new
    → (e : Entry) (via : Via) → NamesUse script journals old e via → NamesUse script journals new e via
names_kept script journals old new keep e (vias.Inline device slot event) h = keep e device slot event h
names_kept script journals old new keep e vias.Plain h = tt
names_kept script journals old new keep e vias.Soft h = tt

pub all_kept : (script : Script) (journals : ℕ → List Event) (old new : ℕ → List DeviceUse) → KeepNames script journals old new
    → (made : List Entry) → AllByRecursion (λ e. NamesUse script journals old e e.via) made → AllByRecursion (λ e. NamesUse script journals new e e.via) made
all_kept script journals old new keep [] all = tt
all_kept script journals old new keep (e ∷ es) all = (names_kept script journals old new keep e e.via all.0, all_kept script journals old new keep es all.1)

-- the same uses
pub keep_same : (script : Script) (journals : ℕ → List Event) (old new : ℕ → List DeviceUse) → ((device : ℕ) → new device ≡ old device) → KeepNames script journals old new
keep_same script journals old new same e device slot event h =
    subst (λ (l : List DeviceUse). NamesOwnUse script (journals device) l e device slot event) (sym (same device)) h
