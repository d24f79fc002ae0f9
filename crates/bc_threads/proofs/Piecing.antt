-- The events that a window asks for: two for each of its operations that touches the device, as its pieces there are no more.
use Rattle.std.proofs.Common.{◌≡◌, ◌∙◌, ℕ, ◌*◌, ◌<◌, ◌≤◌, Bool, true, false, cond, List, [], ◌∷◌, length, map, refl, sym, ap, subst, arith, Option, Some, None}
use Rattle.std.specs.Prelude.{◌==◌, ◌||◌, count_by, sum_by, filter, flat_map}
use Rattle.std.specs.List.{AllByRecursion, AllZip, cons_option, list_any}
use Rattle.std.specs.Option.{option_map, option_map_or}
use Rattle.std.proofs.lemmas.List.{length-append}
use Rattle.std.proofs.lemmas.List.Elements.{filter-append}
use Rattle.std.proofs.lemmas.List.Sums.{sum_by-cons, sum_by-append}
use Rattle.bc_key.specs.declared.keys.KeyNo.{KeyNo}
use Rattle.bc_key.specs.KeyData.{KeyData}
use Rattle.bc_bio.specs.declared.bio.Bio.{Bio}
use Rattle.bc_bio.specs.declared.extent.Extent.{Extent}
use Rattle.bc_bio.specs.BioUnits.{extent_of}
use Rattle.bc_bio.specs.Laws.{UnitsHaveSizes, UnrefusedIsAccepted}
use Rattle.bc_bio.specs.Requests.{tagged_of}
use Rattle.bc_bio.specs.Windows.{TaggedBio, NamedUnit, requests_of}
use Rattle.bc_stack.specs.declared.target.Target.{Target}
use Rattle.bc_stack.specs.Pieces.{device_of}
use Rattle.bc_script.specs.declared.op.Op.{Op}
use Rattle.bc_script.specs.declared.op.Op.TheVariants as ops
use Rattle.bc_script.specs.Script.{Script, IsScript, keys_of}
use Rattle.bc_script.specs.Way.{way_of}
use Rattle.bc_script.specs.Windows as turns
use Rattle.bc_report.specs.Counts.{touches_any}
use Rattle.bc_report.specs.Holders.{is_way_on}
use Rattle.bc_profile.specs.declared.uses.Use.TheVariants as uses
use Rattle.bc_report.specs.SerialRun.{DeviceUse, name_at, holds_for, is_on, pieces_of_request, uses_of_turn}
use Rattle.bc_section.specs.SectionProgress.{IsAcceptedBio, MayBePlugged, numbered}
use Rattle.bc_section.specs.Uses.{op_bios}
use Rattle.bc_pieces.specs.Pieces.{is_piece_on, pieces_on}
use Rattle.bc_disk.specs.Submissions.{events_for, inline_key, inline_pieces}
use Rattle.bc_threads.specs.Demand.{events_asked, events_of_one}
use Rattle.bc_section.proofs.Holding.{hold_weight, holds_of, touched_by, window_holds, count_cons}
use Rattle.bc_threads.proofs.Past.{none_on}
use Rattle.bc_threads.proofs.WindowBios.{IsWindowBio}
use Rattle.bc_section.proofs.Numbered.{numbered_accepted}

-- the bios of a window by their tags are those of its operations
pub tagged_are : (script : Script) (section : List Op) (window : List ℕ) (taken : List Bio) → AllZip (IsWindowBio script section) window taken → map tagged_of taken ≡ op_bios (numbered section window)
tagged_are script section [] [] all = refl
tagged_are script section [] (bio ∷ taken) all = absurd all
tagged_are script section (o ∷ os) [] all = absurd all
tagged_are script section (o ∷ os) (bio ∷ taken) all =
    ap (λ (l : List TaggedBio). tagged_of bio ∷ l) (tagged_are script section os taken all.1)
    ∙ ap (λ (tag : ℕ). record { tag = tag; bio = extent_of bio } ∷ op_bios (numbered section os)) all.0.of.tag
    ∙ sym (ap (λ (e : Option Extent). cons_option (option_map (λ bio. record { tag = o; bio = bio }) e) (op_bios (numbered section os))) all.0.of.extent)
    ∙ sym (ap (λ (p : Option Op). op_bios (option_map_or (λ operation. (o, operation) ∷ numbered section os) p (numbered section os))) all.0.asked)

module _ (script : Script) (device thread : ℕ) where
  abbrev weigh : List DeviceUse → ℕ
  weigh done = sum_by (λ u. hold_weight (λ key. true) u.use') done

  pub on_le : (pieces : List (List NamedUnit)) → pieces_on script.targets device pieces ≤ length (filter (is_on script device) pieces)
  on_le [] = omega arith
  on_le ([] ∷ pieces) = on_le pieces
  on_le ((u ∷ us) ∷ pieces) = go (device_of script.targets u == device) (list_any (λ u. device_of script.targets u == device) us) (on_le pieces)
    where
      go : (a b : Bool) → pieces_on script.targets device pieces ≤ length (filter (is_on script device) pieces)
          → length (cond {A = List (List NamedUnit)} a ((u ∷ us) ∷ filter (is_piece_on script.targets device) pieces) (filter (is_piece_on script.targets device) pieces))
          ≤ length (cond {A = List (List NamedUnit)} (a || b) ((u ∷ us) ∷ filter (is_on script device) pieces) (filter (is_on script device) pieces))
      go true b le = omega (arith, le)
      go false true le = omega (arith, le)
      go false false le = le

  pub weigh_holds : (key : KeyNo) (pieces : List (List NamedUnit)) → weigh (holds_of script device thread key pieces) ≡ length pieces
  weigh_holds key [] = refl
  weigh_holds key (piece ∷ pieces) = let rest = weigh_holds key pieces in sum_by-cons (λ (u : DeviceUse). hold_weight (λ key. true) u.use') (record { use' = uses.Hold key; units = map (name_at thread) piece }) (holds_of script device thread key pieces) ∙ omega (arith, rest)

  of_request : (request : List TaggedBio) → pieces_on script.targets device (inline_pieces script.targets (keys_of script) request) ≤ weigh (holds_for script device thread request)
  of_request [] = omega arith
  of_request (tagged ∷ others) = go (inline_key script.targets (keys_of script) (tagged ∷ others))
    where
      pieces : List (List NamedUnit)
      pieces = pieces_of_request script (tagged ∷ others)

      go : (k : Option KeyNo) → pieces_on script.targets device (option_map_or (λ key. pieces) k []) ≤ weigh (option_map_or (λ key. holds_of script device thread key (filter (is_on script device) pieces)) k [])
      go None = omega arith
      go (Some key) = let le = on_le pieces in let same = weigh_holds key (filter (is_on script device) pieces) in omega (arith, le, same)

  of_requests : (requests : List (List TaggedBio)) → pieces_on script.targets device (flat_map (inline_pieces script.targets (keys_of script)) requests) ≤ weigh (flat_map (holds_for script device thread) requests)
  of_requests [] = omega arith
  of_requests (request ∷ requests) =
      let here = of_request request in let rest = of_requests requests in
      let pieces = inline_pieces script.targets (keys_of script) request in
      let others = flat_map (inline_pieces script.targets (keys_of script)) requests in
      let on = ap (λ (l : List (List NamedUnit)). length l) (filter-append (is_piece_on script.targets device) pieces others) ∙ length-append (filter (is_piece_on script.targets device) pieces) (filter (is_piece_on script.targets device) others) in
      let weights = sum_by-append (λ (u : DeviceUse). hold_weight (λ key. true) u.use') (holds_for script device thread request) (flat_map (holds_for script device thread) requests) in
      omega (arith, here, rest, on, weights)

  -- two for each accepted bio that touches the device
  pub asked_is : (acts : List (ℕ × Op)) → AllByRecursion (λ act. IsAcceptedBio script act.1) acts → events_asked script acts device ≡ 2 * count_by (touches_any script device) acts
  asked_is [] all = refl
  asked_is ((op, operation) ∷ acts) all =
      let one = sum_by-cons (events_of_one script device) (op, operation) acts in
      let count = count_cons (touches_any script device) (op, operation) acts in
      let rest = asked_is acts all.1 in let here = by_op operation all.0 in
      omega (arith, one, count, rest, here)
    where
      two : (b : Bool) → cond {A = ℕ} b 2 0 ≡ 2 * cond {A = ℕ} b 1 0
      two true = refl
      two false = refl

      by_op : (x : Op) → IsAcceptedBio script x → events_of_one script device (op, x) ≡ 2 * cond {A = ℕ} (touches_any script device (op, x)) 1 0
      by_op (ops.Write context sector units text) is = two (touches_any script device (op, ops.Write context sector units text))
      by_op (ops.Read context sector units) is = two (touches_any script device (op, ops.Read context sector units))
      by_op (ops.Evict key) is = absurd is
      by_op (ops.Reset other) is = absurd is
      by_op ops.Plug is = absurd is
      by_op ops.Unplug is = absurd is

  pub window_events : device < length script.targets → IsScript script → (section : List Op) (window : List ℕ) (taken : List Bio) (targets : List Target) (keys : List KeyData) → targets ≡ script.targets → keys ≡ keys_of script
      → AllByRecursion (MayBePlugged script section) window → AllZip (IsWindowBio script section) window taken → events_for targets keys taken device ≤ events_asked script (numbered section window) device
  window_events within rules section window taken targets keys same_targets same_keys may all =
      subst (λ (ts : List Target). events_for ts keys taken device ≤ events_asked script acts device) (sym same_targets)
      (subst (λ (k : List KeyData). events_for script.targets k taken device ≤ events_asked script acts device) (sym same_keys)
      (let few = of_requests (requests_of (keys_of script) (map tagged_of taken)) in
      let same = ap (λ (w : List TaggedBio). weigh (uses_of_turn script device thread (turns.Window w))) (tagged_are script section window taken all) in
      let holds = window_holds script device thread rules.devices.stack (λ key. true) (op_bios acts) in
      let touched = touched_by script device within (λ key. true) (λ u. is_way_on device (way_of script u.context u.sector)) (λ u context is passes way. way) acts accepted in
      let asked = asked_is acts accepted in
      omega (arith, few, same, holds, touched, asked)))
    where
      acts : List (ℕ × Op)
      acts = numbered section window

      accepted : AllByRecursion (λ act. IsAcceptedBio script act.1) acts
      accepted = numbered_accepted script section window may

  -- a window asks for none of a device that isn't there
  pub no_events : length script.targets ≤ device → IsScript script → UnrefusedIsAccepted → UnitsHaveSizes → (section : List Op) (window : List ℕ) (taken : List Bio) (targets : List Target) (keys : List KeyData) → targets ≡ script.targets → keys ≡ keys_of script
      → AllZip (IsWindowBio script section) window taken → (n : ℕ) → events_for targets keys taken device ≤ n
  no_events past rules laws sizes section window taken targets keys same_targets same_keys all n =
      subst (λ (ts : List Target). events_for ts keys taken device ≤ n) (sym same_targets)
      (subst (λ (k : List KeyData). events_for script.targets k taken device ≤ n) (sym same_keys)
      (let few = of_requests (requests_of (keys_of script) (map tagged_of taken)) in
      let holds = window_holds script device thread rules.devices.stack (λ key. true) (map tagged_of taken) in
      let none = none_on script section rules laws sizes device thread past window taken all in
      omega (arith, few, holds, none)))
