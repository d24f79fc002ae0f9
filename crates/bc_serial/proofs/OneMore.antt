-- A window whose last bio has one unit more: what becomes of its holds, and which hold is for that unit.
use Rattle.std.proofs.Common.{◌≡◌, ◌≢◌, ℕ, ◌+◌, ◌<◌, Bool, true, false, Option, Some, None, List, [], ◌∷◌, ◌++◌, length, map, refl, sym, ap, subst, ◌∙◌}
use Rattle.std.specs.Prelude.{◌==◌, flat_map, option_map, option_and_then}
use Rattle.std.specs.List.{last_or}
use Rattle.std.specs.Option.{option_map_or}
use Rattle.std.proofs.Math.Logic.{⊎_elim}
use Rattle.std.proofs.lemmas.Bool.{true≢false, eq-eqb, eqb-true, and_parts, and_from, cases_eq, false_from_ne_true}
use Rattle.std.proofs.lemmas.Option.{none-some, same_Some}
use Rattle.std.proofs.lemmas.List.{append_assoc, append-nil, map-append}
use Rattle.bc_base.specs.Lists.{list_at}
use Rattle.bc_key.specs.declared.keys.KeyNo.{KeyNo}
use Rattle.bc_bio.specs.declared.extent.Extent.{Extent}
use Rattle.bc_bio.specs.Chunks.{joins_last}
use Rattle.bc_bio.specs.Windows.{TaggedBio, NamedUnit, units_of_request}
use Rattle.bc_medium.specs.declared.entry.Entry.{Entry}
use Rattle.bc_medium.specs.declared.unit_name.UnitName.{UnitName}
use Rattle.bc_profile.specs.declared.uses.Use.TheVariants as uses
use Rattle.bc_script.specs.Script.{keys_of}
use Rattle.bc_stack.specs.declared.target.Target.{Target}
use Rattle.bc_stack.specs.Pieces.{device_of, same_device}
use Rattle.bc_report.specs.SerialRun.{DeviceUse, inline_key, name_at, holds_for}
use Rattle.bc_serial.specs.declared.open_hold.OpenHold.{OpenHold}
use Rattle.bc_serial.specs.Keyslots.{is_open_for}
use Rattle.bc_serial.specs.Standing.{CourseData}
use Rattle.bc_section.specs.Uses.{NamesOwnUse}
use Rattle.bc_serial.specs.InTurn.{last_unit, hold_open_after, under_hold, InTurn, first_units_of, LeavesHolds, RunOpensHold}
use Rattle.bc_serial.proofs.Cutting.{last_push, joins_by_last}
use Rattle.bc_serial.proofs.Extending.{own_extended, KeepNames, keep_same}
use Rattle.bc_serial.proofs.Pieces.{holds_under, holds_none, holds_some, Extends, joined_here, joined_elsewhere, apart_here, apart_elsewhere}
use Rattle.bc_serial.proofs.Splitting.{Split, split_at, uses_window, open_window, unit_of_part, units_next}
use Rattle.bc_serial.proofs.TurnSteps.{uses_of_window, leaves_step, takes_step}

-- ---- the open hold

open_for_is : (opened : Option OpenHold) (device key : ℕ) → is_open_for opened device key ≡ true → option_map under_hold opened ≡ Some (device, key)
open_for_is None device key is = absurd (true≢false (sym is))
open_for_is (Some hold) device key is =
    let parts = and_parts (hold.device == device) (hold.key == key) is in
    ap (λ (d : ℕ). Some (d, hold.key)) (eqb-true hold.device device parts.0) ∙ ap (λ (k : ℕ). Some (device, k)) (eqb-true hold.key key parts.1)

is_open_from : (opened : Option OpenHold) (device key : ℕ) → option_map under_hold opened ≡ Some (device, key) → is_open_for opened device key ≡ true
is_open_from None device key is = absurd (none-some (device, key) is)
is_open_from (Some hold) device key is =
    let pair = same_Some (hold.device, hold.key) (device, key) is in
    and_from (hold.device == device) (hold.key == key) (eq-eqb hold.device device (ap (λ (p : ℕ × ℕ). p.0) pair)) (eq-eqb hold.key key (ap (λ (p : ℕ × ℕ). p.1) pair))

pub hold_from : (opened : Option OpenHold) (device key : ℕ) → option_map under_hold opened ≡ Some (device, key) → (hold : OpenHold) × (opened ≡ Some hold) × (hold.device ≡ device) × (hold.key ≡ key)
hold_from None device key is = absurd (none-some (device, key) is)
hold_from (Some hold) device key is =
    let pair = same_Some (hold.device, hold.key) (device, key) is in
    (hold, refl, ap (λ (p : ℕ × ℕ). p.0) pair, ap (λ (p : ℕ × ℕ). p.1) pair)

-- ---- the last unit

last_of_open : (targets : List Target) (key : ℕ) (o : Option NamedUnit) (device : ℕ) → option_map {U = ℕ × ℕ} (λ u. (device_of targets u, key)) o ≡ Some (device, key)
    → (last : NamedUnit) × (o ≡ Some last) × (device_of targets last ≡ device)
last_of_open targets key None device is = absurd (none-some (device, key) is)
last_of_open targets key (Some last) device is = (last, refl, ap (λ (p : ℕ × ℕ). p.0) (same_Some (device_of targets last, key) (device, key) is))

last_joined : (targets : List Target) (u : NamedUnit) (o : Option NamedUnit) → option_map_or (λ l. same_device targets l u) o false ≡ true
    → (last : NamedUnit) × (o ≡ Some last) × (same_device targets last u ≡ true)
last_joined targets u None is = absurd (true≢false (sym is))
last_joined targets u (Some last) is = (last, refl, is)

-- the last use is for the unit, and those before it were made before
pub record LastUse (key : KeyNo) (name : UnitName) (old new : List DeviceUse) : Type 0 where
  pub first : List DeviceUse
  pub names : List UnitName
  pub rest : List DeviceUse
  pub is : new ≡ first ++ record { use' = uses.Hold key; units = names ++ name ∷ [] } ∷ []
  pub among : old ≡ first ++ rest

-- ---- one unit more

module _ (start : CourseData) (done : List TaggedBio) (op : ℕ) (bio : Extent) (n : ℕ) where
  abbrev s : Split start.script op bio done
  s = split_at start.script op bio done

  abbrev bios : List TaggedBio
  bios = done ++ first_units_of op bio n ∷ []

  abbrev more : List TaggedBio
  more = done ++ first_units_of op bio (n + 1) ∷ []

  abbrev unit : NamedUnit
  unit = unit_of_part start.script op bio n

  abbrev pub device : ℕ
  device = device_of start.script.targets unit

  abbrev units : List NamedUnit
  units = units_of_request (keys_of start.script) (s.tail ++ first_units_of op bio n ∷ [])

  abbrev front : ℕ → List DeviceUse
  front d = flat_map (holds_for start.script d start.thread) s.front

  -- the key of the bio, if it goes inline
  abbrev key_of_part : Option KeyNo
  key_of_part = inline_key start.script (first_units_of op bio 0 ∷ [])

  abbrev open_under : List NamedUnit → Option KeyNo → Option (ℕ × ℕ)
  open_under us o = option_and_then (λ key. option_map {U = ℕ × ℕ} (λ u. (device_of start.script.targets u, key.0)) (last_unit us)) o

  -- no unit of it goes inline
  module _ (is : key_of_part ≡ None) where
    uses_none : (d : ℕ) → uses_of_window start more d ≡ uses_of_window start bios d
    uses_none d =
        uses_window start.script op bio done s d start.thread (n + 1)
        ∙ ap (λ (l : List DeviceUse). front d ++ l)
        (holds_none start.script d start.thread (s.tail ++ first_units_of op bio (n + 1) ∷ []) (s.key (n + 1) ∙ is) ∙ sym (holds_none start.script d start.thread (s.tail ++ first_units_of op bio n ∷ []) (s.key n ∙ is)))
        ∙ sym (uses_window start.script op bio done s d start.thread n)

    open_none : hold_open_after start.script more ≡ hold_open_after start.script bios
    open_none =
        open_window start.script op bio done s (n + 1)
        ∙ ap (open_under (units_of_request (keys_of start.script) (s.tail ++ first_units_of op bio (n + 1) ∷ []))) (s.key (n + 1) ∙ is)
        ∙ sym (open_window start.script op bio done s n ∙ ap (open_under units) (s.key n ∙ is))

    pub aside : (old new : CourseData) (made : List Entry) → new ≡ record old { left = new.left; journals = new.journals; opened = new.opened } → LeavesHolds old new
        → InTurn start old bios made → InTurn start new more made
    aside old new made same leaves t =
        leaves_step start old new bios more made same leaves (λ d. ap (map (λ (u : DeviceUse). u.use')) (uses_none d))
        (keep_same start.script (list_at start.journals) (uses_of_window start bios) (uses_of_window start more) uses_none) open_none t

  -- each of its units goes inline
  module _ (key : KeyNo) (is : key_of_part ≡ Some key) where
    abbrev name : UnitName
    name = name_at start.thread unit

    uses_now : (d : ℕ) → uses_of_window start bios d ≡ front d ++ holds_under start.script d start.thread key units
    uses_now d =
        uses_window start.script op bio done s d start.thread n
        ∙ ap (λ (l : List DeviceUse). front d ++ l) (holds_some start.script d start.thread (s.tail ++ first_units_of op bio n ∷ []) key (s.key n ∙ is))

    uses_next : (d : ℕ) → uses_of_window start more d ≡ front d ++ holds_under start.script d start.thread key (units ++ unit ∷ [])
    uses_next d =
        uses_window start.script op bio done s d start.thread (n + 1)
        ∙ ap (λ (l : List DeviceUse). front d ++ l)
        (holds_some start.script d start.thread (s.tail ++ first_units_of op bio (n + 1) ∷ []) key (s.key (n + 1) ∙ is)
        ∙ ap (holds_under start.script d start.thread key) (units_next start.script op bio s.tail n))

    open_now : hold_open_after start.script bios ≡ option_map {U = ℕ × ℕ} (λ u. (device_of start.script.targets u, key.0)) (last_or None units)
    open_now = open_window start.script op bio done s n ∙ ap (open_under units) (s.key n ∙ is)

    pub open_next : hold_open_after start.script more ≡ Some (device, key.0)
    open_next =
        open_window start.script op bio done s (n + 1)
        ∙ ap (open_under (units_of_request (keys_of start.script) (s.tail ++ first_units_of op bio (n + 1) ∷ []))) (s.key (n + 1) ∙ is)
        ∙ ap (λ (us : List NamedUnit). option_map {U = ℕ × ℕ} (λ u. (device_of start.script.targets u, key.0)) (last_or None us)) (units_next start.script op bio s.tail n)
        ∙ ap (option_map {U = ℕ × ℕ} (λ u. (device_of start.script.targets u, key.0))) (last_push None units unit)

    -- on the device of the last unit
    module _ (last : NamedUnit) (ends : last_or None units ≡ Some last) (same : same_device start.script.targets last unit ≡ true) where
      same_elsewhere : (d : ℕ) → d ≢ device → uses_of_window start more d ≡ uses_of_window start bios d
      same_elsewhere d ne =
          uses_next d ∙ ap (λ (l : List DeviceUse). front d ++ l) (joined_elsewhere start.script start.thread key units last unit ends same d ne) ∙ sym (uses_now d)

      extends_here : Extends key name (uses_of_window start bios device) (uses_of_window start more device)
      extends_here =
          let e = joined_here start.script start.thread key units last unit ends same in
          record {
            first = front device ++ e.first;
            names = e.names;
            was = uses_now device ∙ ap (λ (l : List DeviceUse). front device ++ l) e.was ∙ sym (append_assoc (front device) e.first (record { use' = uses.Hold key; units = e.names } ∷ []));
            is = uses_next device ∙ ap (λ (l : List DeviceUse). front device ++ l) e.is
                ∙ sym (append_assoc (front device) e.first (record { use' = uses.Hold key; units = e.names ++ name ∷ [] } ∷ []));
          }

      kept : KeepNames start.script (list_at start.journals) (uses_of_window start bios) (uses_of_window start more)
      kept e d slot event h =
          let x = extends_here in
          ⊎_elim
          (λ (here : d ≡ device).
          subst (λ (l : List DeviceUse). NamesOwnUse start.script (list_at start.journals d) l e d slot event) (sym (ap (uses_of_window start more) here ∙ x.is))
          (own_extended start.script (list_at start.journals d) x.first (uses.Hold key) x.names name e d slot event
          (subst (λ (l : List DeviceUse). NamesOwnUse start.script (list_at start.journals d) l e d slot event) (ap (uses_of_window start bios) here ∙ x.was) h)))
          (λ (ne : d ≢ device).
          subst (λ (l : List DeviceUse). NamesOwnUse start.script (list_at start.journals d) l e d slot event) (sym (same_elsewhere d ne)) h)
          (cases_eq d device)

      kept_uses : (d : ℕ) → map (λ (u : DeviceUse). u.use') (uses_of_window start more d) ≡ map (λ (u : DeviceUse). u.use') (uses_of_window start bios d)
      kept_uses d =
          let x = extends_here in
          let f = λ (u : DeviceUse). u.use' in
          ⊎_elim
          (λ (here : d ≡ device).
          ap (map f) (ap (uses_of_window start more) here ∙ x.is)
          ∙ map-append f x.first (record { use' = uses.Hold key; units = x.names ++ name ∷ [] } ∷ [])
          ∙ sym (map-append f x.first (record { use' = uses.Hold key; units = x.names } ∷ []))
          ∙ ap (map f) (sym (ap (uses_of_window start bios) here ∙ x.was)))
          (λ (ne : d ≢ device). ap (map f) (same_elsewhere d ne))
          (cases_eq d device)

      joined : (old new : CourseData) (made : List Entry) → new ≡ record old { left = new.left; journals = new.journals; opened = new.opened } → LeavesHolds old new
          → InTurn start old bios made → InTurn start new more made
      joined old new made same' leaves t =
          let at_last : device_of start.script.targets last ≡ device = eqb-true (device_of start.script.targets last) device same in
          leaves_step start old new bios more made same' leaves kept_uses kept
          (open_next ∙ sym (open_now ∙ ap (option_map {U = ℕ × ℕ} (λ u. (device_of start.script.targets u, key.0))) ends ∙ ap (λ (d : ℕ). Some (d, key.0)) at_last)) t

    -- on another device, or the first unit
    module _ (apart : joins_last (same_device start.script.targets) units unit ≡ false) where
      more_here : uses_of_window start more device ≡ uses_of_window start bios device ++ record { use' = uses.Hold key; units = name ∷ [] } ∷ []
      more_here =
          uses_next device ∙ ap (λ (l : List DeviceUse). front device ++ l) (apart_here start.script start.thread key units unit apart)
          ∙ sym (append_assoc (front device) (holds_under start.script device start.thread key units) (record { use' = uses.Hold key; units = name ∷ [] } ∷ []))
          ∙ ap (λ (l : List DeviceUse). l ++ record { use' = uses.Hold key; units = name ∷ [] } ∷ []) (sym (uses_now device))

      parted : (old new : CourseData) (made : List Entry) → new ≡ record old { left = new.left; journals = new.journals; opened = new.opened } → RunOpensHold old new device key
          → device < length start.script.targets → InTurn start old bios made → InTurn start new more made
      parted old new made same' takes within t =
          takes_step start old new bios more made device key (name ∷ []) same' takes within
          (λ d ne. uses_next d ∙ ap (λ (l : List DeviceUse). front d ++ l) (apart_elsewhere start.script start.thread key units unit apart d ne) ∙ sym (uses_now d))
          more_here open_next t

    -- the last use is for the unit
    pub last_use : LastUse key name (uses_of_window start bios device) (uses_of_window start more device)
    last_use = by (joins_last (same_device start.script.targets) units unit) refl
      where
        by : (b : Bool) → joins_last (same_device start.script.targets) units unit ≡ b → LastUse key name (uses_of_window start bios device) (uses_of_window start more device)
        by true together =
            let l = last_joined start.script.targets unit (last_or None units) (sym (joins_by_last (same_device start.script.targets) units unit) ∙ together) in
            let x = extends_here l.0 l.1 l.2 in
            record { first = x.first; names = x.names; rest = record { use' = uses.Hold key; units = x.names } ∷ []; is = x.is; among = x.was }
        by false apart =
            record { first = uses_of_window start bios device; names = []; rest = []; is = more_here apart; among = sym (append-nil (uses_of_window start bios device)) }

    -- the unit was reached
    pub reached : (old new : CourseData) (made : List Entry) → new ≡ record old { left = new.left; journals = new.journals; opened = new.opened } → device < length start.script.targets
        → (is_open_for old.opened device key.0 ≡ true → LeavesHolds old new) → (is_open_for old.opened device key.0 ≡ false → RunOpensHold old new device key)
        → InTurn start old bios made → InTurn start new more made
    reached old new made same within keeps takes t = by (is_open_for old.opened device key.0) refl
      where
        by : (b : Bool) → is_open_for old.opened device key.0 ≡ b → InTurn start new more made
        by true opened =
            let l = last_of_open start.script.targets key.0 (last_or None units) device (sym open_now ∙ sym t.opened ∙ open_for_is old.opened device key.0 opened) in
            joined l.0 l.1 (eq-eqb (device_of start.script.targets l.0) device l.2) old new made same (keeps opened) t
        by false opened =
            let apart = false_from_ne_true (joins_last (same_device start.script.targets) units unit)
            (λ together.
            let l = last_joined start.script.targets unit (last_or None units) (sym (joins_by_last (same_device start.script.targets) units unit) ∙ together) in
            let at_last : device_of start.script.targets l.0 ≡ device = eqb-true (device_of start.script.targets l.0) device l.2 in
            true≢false (sym (is_open_from old.opened device key.0
            (t.opened ∙ open_now ∙ ap (option_map {U = ℕ × ℕ} (λ u. (device_of start.script.targets u, key.0))) l.1 ∙ ap (λ (d : ℕ). Some (d, key.0)) at_last)) ∙ opened)) in
            parted apart old new made same (takes opened) within t
