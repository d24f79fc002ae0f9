-- How many events of a window's holds there are by their key: programmings of it at most as many as the window's operations that
-- touch the device under it; and with the others of a window all bounds of its events.
use Rattle.std.proofs.Common.{◌≡◌, ◌∙◌, ℕ, suc, ◌+◌, ◌<◌, ◌≤◌, Bool, true, false, cond, List, [], ◌∷◌, length, map, refl, sym, ap, subst, arith, Option, Some, None}
use Rattle.std.specs.Prelude.{◌==◌, ◌&&◌, ◌||◌, count_by, sum_by, filter, flat_map, IsSomeAnd}
use Rattle.std.specs.List.{AllByRecursion, AllZip, range_with_len}
use Rattle.std.specs.Option.{option_map_or}
use Rattle.std.proofs.Math.Logic.{⊎_elim}
use Rattle.std.proofs.lemmas.Bool.{eqb-true, cases_lt}
use Rattle.std.proofs.lemmas.List.{length-append}
use Rattle.std.proofs.lemmas.List.Elements.{filter-append}
use Rattle.std.proofs.lemmas.List.Sums.{sum_by-append, sum_by-cons}
use Rattle.bc_key.specs.declared.keys.KeyNo.{KeyNo}
use Rattle.bc_key.specs.KeyData.{KeyData}
use Rattle.bc_bio.specs.declared.bio.Bio.{Bio}
use Rattle.bc_bio.specs.declared.context.Context.{Context}
use Rattle.bc_bio.specs.BioUnits.{context_wrapped}
use Rattle.bc_bio.specs.Chunks.{Linked, chunk_by, chunks_with}
use Rattle.bc_bio.specs.PlannedUnit.{PlannedUnit}
use Rattle.bc_bio.specs.Laws.{UnitsHaveSizes, UnrefusedIsAccepted}
use Rattle.bc_bio.specs.Requests.{tagged_of}
use Rattle.bc_bio.specs.Windows.{TaggedBio, NamedUnit, joins, named_unit, named_units, requests_of, units_of_request}
use Rattle.bc_stack.specs.declared.target.Target.{Target}
use Rattle.bc_stack.specs.Pieces.{pieces_of, same_device}
use Rattle.bc_profile.specs.declared.event.Event.{Event}
use Rattle.bc_profile.specs.declared.uses.Use.TheVariants as uses
use Rattle.bc_script.specs.declared.op.Op.{Op}
use Rattle.bc_script.specs.Script.{Script, IsScript, keys_of}
use Rattle.bc_script.specs.Bios.{is_inline}
use Rattle.bc_script.specs.Way.{way_of}
use Rattle.bc_script.specs.Windows as turns
use Rattle.bc_report.specs.Counts.{touches_under, touches_any, is_reset, is_programming_of, is_idle}
use Rattle.bc_report.specs.Evictions.{is_evict, is_busy}
use Rattle.bc_report.specs.Holders.{is_unit_under, is_way_on}
use Rattle.bc_report.specs.SerialRun.{DeviceUse, holds_for, is_on, name_at, uses_of_turn}
use Rattle.bc_compose.specs.SectionDone.{Bounds}
use Rattle.bc_section.specs.SectionProgress.{MayBePlugged, numbered}
use Rattle.bc_section.specs.Uses.{op_bios}
use Rattle.bc_section.proofs.Chunks.{chunks_linked}
use Rattle.bc_pieces.specs.Pieces.{at_device, is_piece_on, is_piece_under, pieces_on}
use Rattle.bc_pieces.specs.PieceEffects.{IsHoldOf, OneHold, events_on}
use Rattle.bc_disk.specs.Submissions.{inline_pieces, window_pieces}
use Rattle.bc_section.proofs.Ascending.{HasKeyOf, one_key}
use Rattle.bc_threads.proofs.Bounding.{few_of_holds, none_of_holds, of_hold, of_its_key}
use Rattle.bc_section.proofs.Holding.{hold_weight, holds_of, no_reset, touched_by, window_holds, count_append}
use Rattle.bc_threads.proofs.Piecing.{asked_is, no_events, on_le, tagged_are, window_events}
use Rattle.bc_threads.proofs.WindowBios.{IsWindowBio}
use Rattle.bc_base.proofs.Members.{in_of_map, in_of_flat_map, all_at, all_from_in}
use Rattle.bc_section.proofs.Numbered.{numbered_accepted}

-- ---- what is in the chunks of a list

all_chunks : {X : Type 0} (P : X → Type 0) (together : X → X → Bool) (xs : List X) → AllByRecursion P xs → AllByRecursion (AllByRecursion P) (chunk_by together xs)
all_chunks P together [] all = tt
all_chunks P together (x ∷ xs) all = put (chunk_by together xs) (all_chunks P together xs all.1)
  where
    put : (chunks : List (List _)) → AllByRecursion (AllByRecursion P) chunks → AllByRecursion (AllByRecursion P) (chunks_with together x chunks)
    put [] rest = ((all.0, tt), tt)
    put ([] ∷ chunks) rest = ((all.0, tt), rest)
    put ((y ∷ ys) ∷ chunks) rest = go (together x y)
      where
        go : (b : Bool) → AllByRecursion (AllByRecursion P) (cond {A = List (List _)} b ((x ∷ y ∷ ys) ∷ chunks) ((x ∷ []) ∷ (y ∷ ys) ∷ chunks))
        go true = ((all.0, rest.0), rest.1)
        go false = ((all.0, tt), rest)

-- ---- the key of each unit of a request

-- the unit is under this key
abbrev IsUnder : KeyNo → NamedUnit → Type 0
IsUnder key unit = IsSomeAnd unit.context (λ context. context.key ≡ key)

wrapped_under : (key : KeyNo) (i : ℕ) (context : Option Context) → IsSomeAnd context (λ c. c.key ≡ key) → IsSomeAnd (context_wrapped i context) (λ c. c.key ≡ key)
wrapped_under key i None has = absurd has
wrapped_under key i (Some c) has = has

units_under : (keys : List KeyData) (key : KeyNo) (bios : List TaggedBio) → AllByRecursion (HasKeyOf keys key) bios → AllByRecursion (IsUnder key) (units_of_request keys bios)
units_under keys key bios all = all_from_in (IsUnder key) (units_of_request keys bios) (λ u at'.
    let r = in_of_flat_map (named_units keys) bios u at' in
    let n = in_of_map (named_unit keys r.0) (range_with_len 0 r.0.bio.units) u r.2 in
    subst (IsUnder key) n.2 (wrapped_under key n.0 r.0.bio.context (all_at (HasKeyOf keys key) bios r.0 all r.1)))

-- a piece under another key isn't under this one
not_under : (key : KeyNo) (number : ℕ) (piece : List NamedUnit) → (key.0 == number) ≡ false → AllByRecursion (IsUnder key) piece → is_piece_under number piece ≡ false
not_under key number [] differ all = refl
not_under key number (u ∷ us) differ all = of_context u.context all.0
  where
    of_context : (o : Option Context) → IsSomeAnd o (λ c. c.key ≡ key) → option_map_or (λ c. c.key.0 == number) o false ≡ false
    of_context None has = absurd has
    of_context (Some c) has = ap (λ (k : KeyNo). k.0 == number) has ∙ differ

module _ (targets : List Target) (device number : ℕ) where
  -- the piece lies on the device and is under the key
  abbrev pub is_here : List NamedUnit → Bool
  is_here piece = is_piece_on targets device piece && is_piece_under number piece

  here_le : (pieces : List (List NamedUnit)) → length (filter is_here pieces) ≤ pieces_on targets device pieces
  here_le [] = omega arith
  here_le (piece ∷ pieces) = go (is_piece_on targets device piece) (is_piece_under number piece) (here_le pieces)
    where
      go : (a b : Bool) → length (filter is_here pieces) ≤ pieces_on targets device pieces
          → length (cond {A = List (List NamedUnit)} (a && b) (piece ∷ filter is_here pieces) (filter is_here pieces)) ≤ length (cond {A = List (List NamedUnit)} a (piece ∷ filter (is_piece_on targets device) pieces) (filter (is_piece_on targets device) pieces))
      go true true le = omega (arith, le)
      go true false le = omega (arith, le)
      go false b le = le

  and_none : (b : Bool) → (b && false) ≡ false
  and_none true = refl
  and_none false = refl

  none_here : (key : KeyNo) (pieces : List (List NamedUnit)) → (key.0 == number) ≡ false → AllByRecursion (AllByRecursion (IsUnder key)) pieces → length (filter is_here pieces) ≤ 0
  none_here key [] differ all = omega arith
  none_here key (piece ∷ pieces) differ all =
      subst (λ (b : Bool). length (cond {A = List (List NamedUnit)} b (piece ∷ filter is_here pieces) (filter is_here pieces)) ≤ 0)
      (sym (ap (λ (b : Bool). is_piece_on targets device piece && b) (not_under key number piece differ all.0) ∙ and_none (is_piece_on targets device piece)))
      (none_here key pieces differ all.1)

  -- no more programmings of the key than pieces here
  pub few_programmings : (pieces : List (List NamedUnit)) (holds : List OneHold) → AllZip (IsHoldOf targets) pieces holds → count_by (is_programming_of number) (events_on holds device) ≤ length (filter is_here pieces)
  few_programmings [] [] all = omega arith
  few_programmings [] (hold ∷ holds) all = absurd all
  few_programmings (piece ∷ pieces) [] all = absurd all
  few_programmings (piece ∷ pieces) (hold ∷ holds) all =
      let both = count_append (is_programming_of number) (at_device hold.device hold.made device) (events_on holds device) in
      let rest = few_programmings pieces holds all.1 in
      let here = go (device == hold.device) refl in omega (arith, both, rest, here)
    where
      grows : (b : Bool) (l : List (List NamedUnit)) → length l ≤ length (cond {A = List (List NamedUnit)} b (piece ∷ l) l)
      grows true l = omega arith
      grows false l = omega arith

      keyed : (b : Bool) → (hold.key == number) ≡ b → is_piece_on targets device piece ≡ true → count_by (is_programming_of number) hold.made + length (filter is_here pieces) ≤ length (filter is_here (piece ∷ pieces))
      keyed true is on =
          let one = of_hold (is_programming_of number) hold 1 0 (λ slot key skipped. at_most_one (key == number)) (λ slot. omega arith) in
          let under : is_piece_under number piece ≡ true = subst (λ (k : ℕ). is_piece_under k piece ≡ true) (eqb-true hold.key number is) all.0.under in
          let here : is_here piece ≡ true = ap (λ (b : Bool). b && is_piece_under number piece) on ∙ under in
          let more : length (filter is_here (piece ∷ pieces)) ≡ suc (length (filter is_here pieces)) =
          ap (λ (b : Bool). length (cond {A = List (List NamedUnit)} b (piece ∷ filter is_here pieces) (filter is_here pieces))) here in omega (arith, one, more)
        where
          at_most_one : (b : Bool) → cond {A = ℕ} b 1 0 ≤ 1
          at_most_one true = omega arith
          at_most_one false = omega arith
      keyed false is on =
          let none = own_key is in let le = grows (is_here piece) (filter is_here pieces) in omega (arith, none, le)
        where
          own_key : (hold.key == number) ≡ false → count_by (is_programming_of number) hold.made ≤ 0
          own_key is = of_its_key hold number is

      go : (b : Bool) → (device == hold.device) ≡ b → count_by (is_programming_of number) (at_device hold.device hold.made device) + length (filter is_here pieces) ≤ length (filter is_here (piece ∷ pieces))
      go false is =
          subst (λ (b : Bool). count_by (is_programming_of number) (cond {A = List Event} b hold.made []) + length (filter is_here pieces) ≤ length (filter is_here (piece ∷ pieces))) (sym is)
          (let le = grows (is_here piece) (filter is_here pieces) in omega (arith, le))
      go true is =
          subst (λ (b : Bool). count_by (is_programming_of number) (cond {A = List Event} b hold.made []) + length (filter is_here pieces) ≤ length (filter is_here (piece ∷ pieces))) (sym is)
          (keyed (hold.key == number) refl (subst (λ (d : ℕ). is_piece_on targets d piece ≡ true) (sym (eqb-true device hold.device is)) all.0.on_device))

module _ (script : Script) (device thread number : ℕ) where
  abbrev of_number : KeyNo → Bool
  of_number key = key.0 == number

  abbrev weigh : List DeviceUse → ℕ
  weigh done = sum_by (λ u. hold_weight of_number u.use') done

  -- each piece under the key weighs
  weigh_under : (key : KeyNo) (pieces : List (List NamedUnit)) → (key.0 == number) ≡ true → weigh (holds_of script device thread key pieces) ≡ length pieces
  weigh_under key [] is = refl
  weigh_under key (piece ∷ pieces) is =
      let one = sum_by-cons (λ (u : DeviceUse). hold_weight of_number u.use') (record { use' = uses.Hold key; units = map (name_at thread) piece }) (holds_of script device thread key pieces) in
      let here : cond {A = ℕ} (key.0 == number) 1 0 ≡ 1 = ap (λ (b : Bool). cond {A = ℕ} b 1 0) is in
      let rest = weigh_under key pieces is in omega (arith, one, here, rest)

  of_request : (request : List TaggedBio) → Linked (joins (keys_of script)) request → length (filter (is_here script.targets device number) (inline_pieces script.targets (keys_of script) request)) ≤ weigh (holds_for script device thread request)
  of_request [] linked = omega arith
  of_request (tagged ∷ others) linked = by_context tagged.bio.context refl
    where
      request : List TaggedBio
      request = tagged ∷ others

      pieces : List (List NamedUnit)
      pieces = pieces_of script.targets (units_of_request (keys_of script) request)

      by_key : (key : KeyNo) (b : Bool) → (key.0 == number) ≡ b → HasKeyOf (keys_of script) key tagged → length (filter (is_here script.targets device number) pieces) ≤ weigh (holds_of script device thread key (filter (is_on script device) pieces))
      by_key key true is has =
          let here = here_le script.targets device number pieces in
          let on = on_le script device thread pieces in
          let all = weigh_under key (filter (is_on script device) pieces) is in omega (arith, here, on, all)
      by_key key false is has =
          let none = none_here script.targets device number key pieces is
          (all_chunks (IsUnder key) (same_device script.targets) (units_of_request (keys_of script) request) (units_under (keys_of script) key request (one_key (keys_of script) key tagged others linked has))) in omega (arith, none)

      by_context : (o : Option Context) → tagged.bio.context ≡ o
          → length (filter (is_here script.targets device number) (option_map_or (λ key. pieces) (option_map_or (λ c. cond {A = Option KeyNo} (is_inline script c.key) (Some c.key) None) tagged.bio.context None) []))
          ≤ weigh (option_map_or (λ key. holds_of script device thread key (filter (is_on script device) pieces)) (option_map_or (λ c. cond {A = Option KeyNo} (is_inline script c.key) (Some c.key) None) tagged.bio.context None) [])
      by_context None is =
          subst (λ (o : Option Context). length (filter (is_here script.targets device number) (option_map_or (λ key. pieces) (option_map_or (λ c. cond {A = Option KeyNo} (is_inline script c.key) (Some c.key) None) o None) []))
          ≤ weigh (option_map_or (λ key. holds_of script device thread key (filter (is_on script device) pieces)) (option_map_or (λ c. cond {A = Option KeyNo} (is_inline script c.key) (Some c.key) None) o None) [])) (sym is) (omega arith)
      by_context (Some c) is =
          subst (λ (o : Option Context). length (filter (is_here script.targets device number) (option_map_or (λ key. pieces) (option_map_or (λ c. cond {A = Option KeyNo} (is_inline script c.key) (Some c.key) None) o None) []))
          ≤ weigh (option_map_or (λ key. holds_of script device thread key (filter (is_on script device) pieces)) (option_map_or (λ c. cond {A = Option KeyNo} (is_inline script c.key) (Some c.key) None) o None) [])) (sym is)
          (by_inline (is_inline script c.key))
        where
          by_inline : (b : Bool) → length (filter (is_here script.targets device number) (option_map_or (λ key. pieces) (cond {A = Option KeyNo} b (Some c.key) None) []))
              ≤ weigh (option_map_or (λ key. holds_of script device thread key (filter (is_on script device) pieces)) (cond {A = Option KeyNo} b (Some c.key) None) [])
          by_inline true = by_key c.key (c.key.0 == number) refl (subst (λ (o : Option Context). IsSomeAnd o (λ d. d.key ≡ c.key)) (sym is) refl)
          by_inline false = omega arith

  of_requests : (requests : List (List TaggedBio)) → AllByRecursion (Linked (joins (keys_of script))) requests → length (filter (is_here script.targets device number) (flat_map (inline_pieces script.targets (keys_of script)) requests)) ≤ weigh (flat_map (holds_for script device thread) requests)
  of_requests [] linked = omega arith
  of_requests (request ∷ requests) linked =
      let here = of_request request linked.0 in let rest = of_requests requests linked.1 in
      let pieces = inline_pieces script.targets (keys_of script) request in
      let others = flat_map (inline_pieces script.targets (keys_of script)) requests in
      let on = ap (λ (l : List (List NamedUnit)). length l) (filter-append (is_here script.targets device number) pieces others) ∙ length-append (filter (is_here script.targets device number) pieces) (filter (is_here script.targets device number) others) in
      let weights = sum_by-append (λ (u : DeviceUse). hold_weight of_number u.use') (holds_for script device thread request) (flat_map (holds_for script device thread) requests) in
      omega (arith, here, rest, on, weights)

  pub pieces_here : (window : List TaggedBio) → length (filter (is_here script.targets device number) (flat_map (inline_pieces script.targets (keys_of script)) (requests_of (keys_of script) window))) ≤ weigh (uses_of_turn script device thread (turns.Window window))
  pieces_here window = of_requests (requests_of (keys_of script) window) (chunks_linked (joins (keys_of script)) window)

-- ---- the bounds of a window's events

module _ (script : Script) (rules : IsScript script) (laws : UnrefusedIsAccepted) (sizes : UnitsHaveSizes) (section : List Op) (window : List ℕ) (taken : List Bio) (targets : List Target) (keys : List KeyData) (same_targets : targets ≡ script.targets) (same_keys : keys ≡ keys_of script)
    (may : AllByRecursion (MayBePlugged script section) window) (all : AllZip (IsWindowBio script section) window taken) where
  abbrev acts : List (ℕ × Op)
  acts = numbered section window

  -- a unit that goes inline on the device under the key counts for the key
  counts : (device number : ℕ) (u : PlannedUnit) (context : Context) → u.context ≡ Some context → (context.key.0 == number) ≡ true → is_way_on device (way_of script u.context u.sector) ≡ true → is_unit_under script number device u ≡ true
  counts device number u context is key way =
      ap (λ (b : Bool). option_map_or (λ context. context.key.0 == number) u.context false && b) way
      ∙ ap (λ (o : Option Context). option_map_or (λ context. context.key.0 == number) o false && true) is
      ∙ ap (λ (b : Bool). b && true) key

  pieces_key : (device number : ℕ) → length (filter (is_here targets device number) (window_pieces targets keys taken)) ≤ count_by (touches_under script device number) acts
  pieces_key device number = ⊎_elim
      (λ (within : device < length script.targets).
      subst (λ (ts : List Target). length (filter (is_here ts device number) (window_pieces ts keys taken)) ≤ count_by (touches_under script device number) acts) (sym same_targets)
      (subst (λ (k : List KeyData). length (filter (is_here script.targets device number) (window_pieces script.targets k taken)) ≤ count_by (touches_under script device number) acts) (sym same_keys)
      (let few = pieces_here script device 0 number (map tagged_of taken) in
      let same = ap (λ (w : List TaggedBio). weigh script device 0 number (uses_of_turn script device 0 (turns.Window w))) (tagged_are script section window taken all) in
      let holds = window_holds script device 0 rules.devices.stack (λ key. key.0 == number) (op_bios acts) in
      let touched = touched_by script device within (λ key. key.0 == number) (is_unit_under script number device) (counts device number) acts (numbered_accepted script section window may) in
      omega (arith, few, same, holds, touched))))
      (λ (past : length script.targets ≤ device).
      let le = here_le targets device number (window_pieces targets keys taken) in
      let none = no_events script device 0 past rules laws sizes section window taken targets keys same_targets same_keys all 0 in omega (arith, le, none))
      (cases_lt device (length script.targets))

  pieces_any : (device : ℕ) → pieces_on targets device (window_pieces targets keys taken) ≤ count_by (touches_any script device) acts
  pieces_any device = ⊎_elim
      (λ (within : device < length script.targets).
      let few = window_events script device 0 within rules section window taken targets keys same_targets same_keys may all in
      let asked = asked_is script device 0 acts (numbered_accepted script section window may) in omega (arith, few, asked))
      (λ (past : length script.targets ≤ device).
      let none = no_events script device 0 past rules laws sizes section window taken targets keys same_targets same_keys all 0 in omega (arith, none))
      (cases_lt device (length script.targets))

  pub bounds_are : (holds : List OneHold) → AllZip (IsHoldOf targets) (window_pieces targets keys taken) holds → Bounds script acts [] (events_on holds)
  bounds_are holds each = record {
    evicts = λ device key. none_of_holds (λ event. is_evict key event || is_busy key event) holds device (λ slot k skipped. omega arith) (λ slot. omega arith);
    busy = λ device key slot refs. omega arith;
    further = λ device key. none_of_holds (is_busy key) holds device (λ slot k skipped. omega arith) (λ slot. omega arith);
    resets = λ device.
        let none = none_of_holds is_reset holds device (λ slot k skipped. omega arith) (λ slot. omega arith) in
        let no = no_reset script device acts (numbered_accepted script section window may) in omega (arith, none, no);
    programmings = λ device key. let few = few_programmings targets device key (window_pieces targets keys taken) holds each in let le = pieces_key device key in omega (arith, few, le);
    idles = λ device. let few = few_of_holds is_idle targets device (window_pieces targets keys taken) holds each (λ slot k skipped. omega arith) (λ slot. omega arith) in let le = pieces_any device in omega (arith, few, le);
  }
