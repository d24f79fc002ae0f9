-- The holds of a request with one data unit more: for one piece the last hold is for one unit more, or there is one more hold.
use Rattle.std.proofs.Common.{◌≡◌, ◌≢◌, ℕ, Bool, true, false, cond, Option, Some, None, List, [], ◌∷◌, ◌++◌, map, refl, sym, ap, ◌∙◌}
use Rattle.std.specs.Prelude.{◌==◌, ◌||◌, filter}
use Rattle.std.specs.List.{last_or}
use Rattle.std.specs.Option.{option_map_or}
use Rattle.std.proofs.lemmas.Bool.{eq-eqb, eqb-true, ne_eqb, or_left}
use Rattle.std.proofs.lemmas.Option.{none-some, same_Some}
use Rattle.std.proofs.lemmas.List.{append-nil, map-append}
use Rattle.std.proofs.lemmas.List.Elements.{filter-append}
use Rattle.std.proofs.lemmas.List.Folds.{list_any-append}
use Rattle.bc_bio.specs.Chunks.{joins_last, Linked}
use Rattle.bc_bio.specs.Windows.{TaggedBio, NamedUnit, units_of_request}
use Rattle.bc_key.specs.declared.keys.KeyNo.{KeyNo}
use Rattle.bc_medium.specs.declared.unit_name.UnitName.{UnitName}
use Rattle.bc_profile.specs.declared.uses.Use.TheVariants as uses
use Rattle.bc_script.specs.Script.{Script, keys_of}
use Rattle.bc_stack.specs.Pieces.{device_of, same_device, pieces_of}
use Rattle.bc_report.specs.SerialRun.{DeviceUse, inline_key, is_on, name_at, holds_for}
use Rattle.bc_serial.proofs.Cutting.{joins_by_last, Joined, joined_more, apart_more}

-- a hold for a piece
abbrev pub hold_of : ℕ → KeyNo → List NamedUnit → DeviceUse
hold_of thread key piece = record { use' = uses.Hold key; units = map (name_at thread) piece }

-- a hold of the key for each piece of these units that lies on the device
abbrev pub holds_under : Script → ℕ → ℕ → KeyNo → List NamedUnit → List DeviceUse
holds_under script device thread key units = map (hold_of thread key) (filter (is_on script device) (pieces_of script.targets units))

pub holds_none : (script : Script) (device thread : ℕ) (request : List TaggedBio) → inline_key script request ≡ None → holds_for script device thread request ≡ []
holds_none script device thread request is =
    ap (λ (o : Option KeyNo). option_map_or (λ key. holds_under script device thread key (units_of_request (keys_of script) request)) o []) is

pub holds_some : (script : Script) (device thread : ℕ) (request : List TaggedBio) (key : KeyNo) → inline_key script request ≡ Some key
    → holds_for script device thread request ≡ holds_under script device thread key (units_of_request (keys_of script) request)
holds_some script device thread request key is =
    ap (λ (o : Option KeyNo). option_map_or (λ key. holds_under script device thread key (units_of_request (keys_of script) request)) o []) is

-- the last use is for one unit more
pub record Extends (key : KeyNo) (name : UnitName) (old new : List DeviceUse) : Type 0 where
  pub first : List DeviceUse
  pub names : List UnitName
  pub was : old ≡ first ++ record { use' = uses.Hold key; units = names } ∷ []
  pub is : new ≡ first ++ record { use' = uses.Hold key; units = names ++ name ∷ [] } ∷ []

twice : (b : Bool) → (b || b) ≡ b
twice true = refl
twice false = refl

or_none : (b : Bool) → (b || false) ≡ b
or_none true = refl
or_none false = refl

module _ (script : Script) (thread : ℕ) (key : KeyNo) where
  -- units of which each lies on the device of the next one lie on the device of the last
  linked_on : (device : ℕ) (x : NamedUnit) (xs : List NamedUnit) (last : NamedUnit) → Linked (same_device script.targets) (x ∷ xs) → last_or None (x ∷ xs) ≡ Some last
      → (is_on script device (x ∷ xs) ≡ (device_of script.targets last == device)) × (device_of script.targets x ≡ device_of script.targets last)
  linked_on device x [] last linked ends =
      let same : x ≡ last = same_Some x last ends in
      (or_none (device_of script.targets x == device) ∙ ap (λ (u : NamedUnit). device_of script.targets u == device) same, ap (device_of script.targets) same)
  linked_on device x (y ∷ ys) last linked ends =
      let rest = linked_on device y ys last linked.1 ends in
      let same : device_of script.targets x ≡ device_of script.targets last = eqb-true (device_of script.targets x) (device_of script.targets y) linked.0 ∙ rest.1 in (
        ap (λ (b : Bool). (device_of script.targets x == device) || b) rest.0
            ∙ ap (λ (n : ℕ). (n == device) || (device_of script.targets last == device)) same
            ∙ twice (device_of script.targets last == device),
        same,
      )

  piece_on : (device : ℕ) (piece : List NamedUnit) (last : NamedUnit) → Linked (same_device script.targets) piece → last_or None piece ≡ Some last
      → is_on script device piece ≡ (device_of script.targets last == device)
  piece_on device [] last linked ends = absurd (none-some last ends)
  piece_on device (x ∷ xs) last linked ends = (linked_on device x xs last linked ends).0

  holds_push : (device : ℕ) (pieces : List (List NamedUnit)) (piece : List NamedUnit) → is_on script device piece ≡ true
      → map (hold_of thread key) (filter (is_on script device) (pieces ++ piece ∷ [])) ≡ map (hold_of thread key) (filter (is_on script device) pieces) ++ hold_of thread key piece ∷ []
  holds_push device pieces piece is =
      ap (map (hold_of thread key)) (filter-append (is_on script device) pieces (piece ∷ [])
      ∙ ap (λ (b : Bool). filter (is_on script device) pieces ++ cond b (piece ∷ []) []) is)
      ∙ map-append (hold_of thread key) (filter (is_on script device) pieces) (piece ∷ [])

  holds_skip : (device : ℕ) (pieces : List (List NamedUnit)) (piece : List NamedUnit) → is_on script device piece ≡ false
      → map (hold_of thread key) (filter (is_on script device) (pieces ++ piece ∷ [])) ≡ map (hold_of thread key) (filter (is_on script device) pieces)
  holds_skip device pieces piece is =
      ap (map (hold_of thread key)) (filter-append (is_on script device) pieces (piece ∷ [])
      ∙ ap (λ (b : Bool). filter (is_on script device) pieces ++ cond b (piece ∷ []) []) is
      ∙ append-nil (filter (is_on script device) pieces))

  -- a unit on the device of the last one
  module _ (units : List NamedUnit) (last u : NamedUnit) (ends : last_or None units ≡ Some last)
      (same : (device_of script.targets last == device_of script.targets u) ≡ true) where
    cut : Joined NamedUnit (same_device script.targets) units u
    cut = joined_more (same_device script.targets) units u
        (joins_by_last (same_device script.targets) units u ∙ ap (λ (o : Option NamedUnit). option_map_or (λ l. same_device script.targets l u) o false) ends ∙ same)

    old_on : (device : ℕ) → is_on script device cut.last ≡ (device_of script.targets last == device)
    old_on device = piece_on device cut.last last cut.linked (cut.ends ∙ ends)

    pub joined_here : Extends key (name_at thread u) (holds_under script (device_of script.targets u) thread key units) (holds_under script (device_of script.targets u) thread key (units ++ u ∷ []))
    joined_here =
        let device = device_of script.targets u in
        let on = old_on device ∙ same in
        record {
          first = map (hold_of thread key) (filter (is_on script device) cut.before);
          names = map (name_at thread) cut.last;
          was = ap (λ (ps : List (List NamedUnit)). map (hold_of thread key) (filter (is_on script device) ps)) cut.cut ∙ holds_push device cut.before cut.last on;
          is = ap (λ (ps : List (List NamedUnit)). map (hold_of thread key) (filter (is_on script device) ps)) cut.more
              ∙ holds_push device cut.before (cut.last ++ u ∷ [])
              (list_any-append (λ v. device_of script.targets v == device) cut.last (u ∷ []) ∙ or_left (is_on script device cut.last) (is_on script device (u ∷ [])) on)
              ∙ ap (λ (ns : List UnitName). map (hold_of thread key) (filter (is_on script device) cut.before) ++ record { use' = uses.Hold key; units = ns } ∷ [])
              (map-append (name_at thread) cut.last (u ∷ []));
        }

    pub joined_elsewhere : (device : ℕ) → device ≢ device_of script.targets u → holds_under script device thread key (units ++ u ∷ []) ≡ holds_under script device thread key units
    joined_elsewhere device ne =
        let is : device_of script.targets last ≡ device_of script.targets u = eqb-true (device_of script.targets last) (device_of script.targets u) same in
        let here : (device_of script.targets u == device) ≡ false = ne_eqb (device_of script.targets u) device (λ e. ne (sym e)) in
        let off = old_on device ∙ ap (λ (n : ℕ). n == device) is ∙ here in
        ap (λ (ps : List (List NamedUnit)). map (hold_of thread key) (filter (is_on script device) ps)) cut.more
        ∙ holds_skip device cut.before (cut.last ++ u ∷ [])
        (list_any-append (λ v. device_of script.targets v == device) cut.last (u ∷ [])
        ∙ ap (λ (b : Bool). b || is_on script device (u ∷ [])) off ∙ or_none (device_of script.targets u == device) ∙ here)
        ∙ sym (holds_skip device cut.before cut.last off)
        ∙ ap (λ (ps : List (List NamedUnit)). map (hold_of thread key) (filter (is_on script device) ps)) (sym cut.cut)

  -- a unit on another device, or the first one
  module _ (units : List NamedUnit) (u : NamedUnit) (apart : joins_last (same_device script.targets) units u ≡ false) where
    pub apart_here : holds_under script (device_of script.targets u) thread key (units ++ u ∷ [])
        ≡ holds_under script (device_of script.targets u) thread key units ++ hold_of thread key (u ∷ []) ∷ []
    apart_here =
        let device = device_of script.targets u in
        ap (λ (ps : List (List NamedUnit)). map (hold_of thread key) (filter (is_on script device) ps)) (apart_more (same_device script.targets) units u apart)
        ∙ holds_push device (pieces_of script.targets units) (u ∷ []) (or_none (device == device) ∙ eq-eqb device device refl)

    pub apart_elsewhere : (device : ℕ) → device ≢ device_of script.targets u → holds_under script device thread key (units ++ u ∷ []) ≡ holds_under script device thread key units
    apart_elsewhere device ne =
        ap (λ (ps : List (List NamedUnit)). map (hold_of thread key) (filter (is_on script device) ps)) (apart_more (same_device script.targets) units u apart)
        ∙ holds_skip device (pieces_of script.targets units) (u ∷ [])
        (or_none (device_of script.targets u == device) ∙ ne_eqb (device_of script.targets u) device (λ e. ne (sym e)))
