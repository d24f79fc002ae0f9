-- How many holds a window takes on a device: at most one for each bio of it that touches the device.
use Rattle.std.proofs.Common.{◌≡◌, ℕ, ◌+◌, ◌<◌, ◌≤◌, inl, inr, Bool, true, false, cond, List, [], ◌∷◌, ◌++◌, length, map, refl, sym, ap, subst, ◌∙◌, arith, Option, Some, None}
use Rattle.std.specs.Prelude.{◌==◌, ◌&&◌, ◌||◌, count_by, sum_by, filter, flat_map, is_none, is_some, IsSomeAnd, unwrap_or}
use Rattle.std.specs.List.{AllByRecursion, list_any, range_with_len, position_or_len, cons_option}
use Rattle.std.specs.Option.{option_map, option_map_or}
use Rattle.std.proofs.Math.Logic.{⊎_elim}
use Rattle.std.proofs.lemmas.Bool.{true≢false, eq-eqb, eqb-true, lt-ltb}
use Rattle.std.proofs.lemmas.List.Folds.{list_any-append}
use Rattle.std.proofs.lemmas.List.Sums.{sum_by-cons, sum_by-append}
use Rattle.bc_key.specs.declared.keys.KeyNo.{KeyNo}
use Rattle.bc_bio.specs.declared.context.Context.{Context}
use Rattle.bc_bio.specs.declared.extent.Extent.{Extent}
use Rattle.bc_bio.specs.declared.refusal.Refusal.{Refusal}
use Rattle.bc_bio.specs.Chunks.{Linked}
use Rattle.bc_bio.specs.Extent.{context_after}
use Rattle.bc_bio.specs.PlannedUnit.{PlannedUnit}
use Rattle.bc_bio.specs.Windows.{TaggedBio, NamedUnit, named_unit, named_units, units_of_request, joins, requests_of}
use Rattle.bc_stack.specs.Devices.{has_sector, device_at}
use Rattle.bc_stack.specs.Pieces.{device_of}
use Rattle.bc_stack.specs.Targets.{IsStack}
use Rattle.bc_profile.specs.declared.event.Event.{Event}
use Rattle.bc_profile.specs.declared.event.Event.TheVariants as events
use Rattle.bc_profile.specs.declared.uses.Use.{Use}
use Rattle.bc_profile.specs.declared.uses.Use.TheVariants as uses
use Rattle.bc_profile.specs.SlotJournal.{Slots, after_events}
use Rattle.bc_profile.specs.OneCaller.{slot_with, slot_for, first_idle, events_of_hold, events_of_eviction, events_of_use, journal_of}
use Rattle.bc_script.specs.declared.op.Op.{Op}
use Rattle.bc_script.specs.declared.op.Op.TheVariants as ops
use Rattle.bc_script.specs.Script.{Script, keys_of}
use Rattle.bc_script.specs.Bios.{bio_of, is_inline, refusal_of}
use Rattle.bc_script.specs.Plan.{unit_at, units_of, units_of_bio}
use Rattle.bc_script.specs.Way.{Way, soft, inline, way_of}
use Rattle.bc_script.specs.Windows as turns
use Rattle.bc_report.specs.Counts.{is_reset_of, is_programming_of, is_idle}
use Rattle.bc_report.specs.Holders.{is_way_on}
use Rattle.bc_report.specs.SerialRun.{DeviceUse, inline_key, is_on, name_at, pieces_of_request, holds_for, uses_of_turn}
use Rattle.bc_section.specs.SectionProgress.{IsAcceptedBio}
use Rattle.bc_section.specs.Uses.{op_bios}
use Rattle.bc_section.proofs.Ascending.{HasKeyOf, one_key, request_devices}
use Rattle.bc_section.proofs.Chunks.{chunks_linked, few_chunks}
use Rattle.bc_base.proofs.Members.{In, in_of_map, any_in, any_from}
use Rattle.bc_bio.proofs.ChunkLaws.{chunks_join}

pub count_cons : {X : Type 0} (test : X → Bool) (x : X) (xs : List X) → count_by test (x ∷ xs) ≡ cond {A = ℕ} (test x) 1 0 + count_by test xs
count_cons test x xs = sum_by-cons (λ (y : _). cond {A = ℕ} (test y) 1 0) x xs

pub count_append : {X : Type 0} (test : X → Bool) (xs ys : List X) → count_by test (xs ++ ys) ≡ count_by test xs + count_by test ys
count_append test xs ys = sum_by-append (λ (y : _). cond {A = ℕ} (test y) 1 0) xs ys

-- ---- what uses record

-- a weight of uses: one for each hold of a key that passes a test
abbrev pub hold_weight : (KeyNo → Bool) → Use → ℕ
hold_weight of_key (uses.Hold key) = cond {A = ℕ} (of_key key) 1 0
hold_weight of_key (uses.Evict key) = 0
hold_weight of_key uses.Reset = 0

-- no more events of a kind than the uses weigh
pub count_journal : (test : Event → Bool) (weight : Use → ℕ) → ((slots : Slots) (use' : Use) → count_by test (events_of_use slots use') ≤ weight use')
    → (slots : Slots) (done : List DeviceUse) → count_by test (journal_of slots (map (λ u. u.use') done)) ≤ sum_by (λ u. weight u.use') done
count_journal test weight few slots [] = omega arith
count_journal test weight few slots (u ∷ done) =
    let made = events_of_use slots u.use' in
    let later = journal_of (after_events slots made) (map (λ u. u.use') done) in
    let both = count_append test made later in
    let weights = sum_by-cons (λ (u : DeviceUse). weight u.use') u done in
    let here = few slots u.use' in
    let rest = count_journal test weight few (after_events slots made) done in
    omega (arith, both, weights, here, rest)

-- what is counted of a hold's events, and of an eviction's
count_hold : (test : Event → Bool) (slots : Slots) (key n m : ℕ) → cond {A = ℕ} (test (events.Program (first_idle slots) key [])) 1 0 ≤ n → cond {A = ℕ} (test (events.Idle (slot_for slots key))) 1 0 ≤ m
    → count_by test (events_of_hold slots key ++ events.Idle (slot_for slots key) ∷ []) ≤ n + m
count_hold test slots key n m programs idles = go (is_some (slot_with slots key))
  where
    go : (b : Bool) → count_by test (cond {A = List Event} b [] (events.Program (first_idle slots) key [] ∷ []) ++ events.Idle (slot_for slots key) ∷ []) ≤ n + m
    go true = let one = count_cons test (events.Idle (slot_for slots key)) [] in omega (arith, one, idles)
    go false =
        let two = count_cons test (events.Program (first_idle slots) key []) (events.Idle (slot_for slots key) ∷ []) in
        let one = count_cons test (events.Idle (slot_for slots key)) [] in omega (arith, one, two, programs, idles)

pub count_eviction : (test : Event → Bool) (slots : Slots) (key n : ℕ) → ((slot : ℕ) → cond {A = ℕ} (test (events.Evict slot key)) 1 0 ≤ n) → count_by test (events_of_eviction slots key) ≤ n
count_eviction test slots key n few = go (slot_with slots key)
  where
    go : (o : Option ℕ) → count_by test (option_map_or (λ slot. events.Evict slot key ∷ []) o []) ≤ n
    go None = omega arith
    go (Some slot) = let one = count_cons test (events.Evict slot key) [] in let le = few slot in omega (arith, one, le)

one_at_most : (b : Bool) → cond {A = ℕ} b 1 0 ≤ cond {A = ℕ} b 1 0
one_at_most b = omega arith

pub programs_at_most : (key : ℕ) (slots : Slots) (use' : Use) → count_by (is_programming_of key) (events_of_use slots use') ≤ hold_weight (λ other. other.0 == key) use'
programs_at_most key slots (uses.Hold other) =
    let few = count_hold (is_programming_of key) slots other.0 (cond {A = ℕ} (other.0 == key) 1 0) 0 (one_at_most (other.0 == key)) (omega arith) in omega (arith, few)
programs_at_most key slots (uses.Evict other) = count_eviction (is_programming_of key) slots other.0 0 (λ slot. omega arith)
programs_at_most key slots uses.Reset = omega arith

pub idles_at_most : (slots : Slots) (use' : Use) → count_by is_idle (events_of_use slots use') ≤ hold_weight (λ other. true) use'
idles_at_most slots (uses.Hold other) = count_hold is_idle slots other.0 0 1 (omega arith) (omega arith)
idles_at_most slots (uses.Evict other) = count_eviction is_idle slots other.0 0 (λ slot. omega arith)
idles_at_most slots uses.Reset = omega arith

-- a weight of uses other than holds
abbrev pub other_weight : Use → ℕ
other_weight (uses.Hold key) = 0
other_weight (uses.Evict key) = 1
other_weight uses.Reset = 1

at_most_one : (b : Bool) → cond {A = ℕ} b 1 0 ≤ 1
at_most_one true = omega arith
at_most_one false = omega arith

-- events that no hold makes
pub others_at_most : (test : Event → Bool) → ((slot key : ℕ) → test (events.Program slot key []) ≡ false) → ((slot : ℕ) → test (events.Idle slot) ≡ false)
    → (slots : Slots) (use' : Use) → count_by test (events_of_use slots use') ≤ other_weight use'
others_at_most test no_program no_idle slots (uses.Hold other) =
    count_hold test slots other.0 0 0
    (subst (λ (b : Bool). cond {A = ℕ} b 1 0 ≤ 0) (sym (no_program (first_idle slots) other.0)) (omega arith))
    (subst (λ (b : Bool). cond {A = ℕ} b 1 0 ≤ 0) (sym (no_idle (slot_for slots other.0))) (omega arith))
others_at_most test no_program no_idle slots (uses.Evict other) = count_eviction test slots other.0 1 (λ slot. at_most_one (test (events.Evict slot other.0)))
others_at_most test no_program no_idle slots uses.Reset = let one = count_cons test events.Reset [] in let le = at_most_one (test events.Reset) in omega (arith, one, le)

-- ---- the holds of a window

module _ (script : Script) (device thread : ℕ) where
  abbrev has_on : TaggedBio → Bool
  has_on tagged = list_any (λ u. device_of script.targets u == device) (named_units (keys_of script) tagged)

  -- a hold of the key for each of these pieces
  abbrev pub holds_of : KeyNo → List (List NamedUnit) → List DeviceUse
  holds_of key pieces = map (λ piece. record { use' = uses.Hold key; units = map (name_at thread) piece }) pieces

  -- where there is a key
  abbrev holds_if : List (List NamedUnit) → Option KeyNo → List DeviceUse
  holds_if pieces key = option_map_or (λ key. holds_of key pieces) key []

  -- the bio goes inline under a key that passes the test, and has a unit on the device
  abbrev pub holds_by : (KeyNo → Bool) → TaggedBio → Bool
  holds_by of_key tagged = option_map_or (λ context. is_inline script context.key && of_key context.key) tagged.bio.context false && has_on tagged

  module _ (stack : IsStack script.targets script.blocks) (of_key : KeyNo → Bool) where
    abbrev weigh : List DeviceUse → ℕ
    weigh done = sum_by (λ u. hold_weight of_key u.use') done

    -- the bios with a unit on the device are some, where the request has one there
    some_have : (bios : List TaggedBio) → AllByRecursion (λ tagged. holds_by of_key tagged ≡ has_on tagged) bios
        → cond {A = ℕ} (list_any (λ u. device_of script.targets u == device) (units_of_request (keys_of script) bios)) 1 0 ≤ count_by (holds_by of_key) bios
    some_have [] same = omega arith
    some_have (tagged ∷ bios) same =
        subst (λ (b : Bool). cond {A = ℕ} b 1 0 ≤ count_by (holds_by of_key) (tagged ∷ bios))
        (sym (list_any-append (λ u. device_of script.targets u == device) (named_units (keys_of script) tagged) (units_of_request (keys_of script) bios)))
        (let one = count_cons (holds_by of_key) tagged bios in
        let here : cond {A = ℕ} (holds_by of_key tagged) 1 0 ≡ cond {A = ℕ} (has_on tagged) 1 0 = ap (λ (b : Bool). cond {A = ℕ} b 1 0) same.0 in
        let both = either (has_on tagged) (list_any (λ u. device_of script.targets u == device) (units_of_request (keys_of script) bios)) in
        let rest = some_have bios same.1 in
        omega (arith, one, here, both, rest))
      where
        either : (a b : Bool) → cond {A = ℕ} (a || b) 1 0 ≤ cond {A = ℕ} a 1 0 + cond {A = ℕ} b 1 0
        either true b = omega arith
        either false b = omega arith

    weigh_pieces : (key : KeyNo) (pieces : List (List NamedUnit)) → weigh (holds_of key pieces) ≤ cond {A = ℕ} (of_key key) (length pieces) 0
    weigh_pieces key pieces = go (of_key key) refl pieces
      where
        go : (b : Bool) → of_key key ≡ b → (pieces : List (List NamedUnit)) → weigh (holds_of key pieces) ≤ cond {A = ℕ} (of_key key) (length pieces) 0
        go b is [] = omega arith
        go true is (piece ∷ pieces) =
            subst (λ (c : Bool). weigh (holds_of key (piece ∷ pieces)) ≤ cond {A = ℕ} c (length (piece ∷ pieces)) 0) (sym is)
            (let one = sum_by-cons (λ (u : DeviceUse). hold_weight of_key u.use') (record { use' = uses.Hold key; units = map (name_at thread) piece }) (holds_of key pieces) in
            let here : cond {A = ℕ} (of_key key) 1 0 ≡ 1 = ap (λ (c : Bool). cond {A = ℕ} c 1 0) is in
            let rest : weigh (holds_of key pieces) ≤ length pieces = subst (λ (c : Bool). weigh (holds_of key pieces) ≤ cond {A = ℕ} c (length pieces) 0) is (go true is pieces) in
            omega (arith, one, here, rest))
        go false is (piece ∷ pieces) =
            subst (λ (c : Bool). weigh (holds_of key (piece ∷ pieces)) ≤ cond {A = ℕ} c (length (piece ∷ pieces)) 0) (sym is)
            (let one = sum_by-cons (λ (u : DeviceUse). hold_weight of_key u.use') (record { use' = uses.Hold key; units = map (name_at thread) piece }) (holds_of key pieces) in
            let here : cond {A = ℕ} (of_key key) 1 0 ≡ 0 = ap (λ (c : Bool). cond {A = ℕ} c 1 0) is in
            let rest : weigh (holds_of key pieces) ≤ 0 = subst (λ (c : Bool). weigh (holds_of key pieces) ≤ cond {A = ℕ} c (length pieces) 0) is (go false is pieces) in
            omega (arith, one, here, rest))

    -- a request has one hold at most on the device, and only where one of its bios has a unit there
    request_holds : (bios : List TaggedBio) → Linked (joins (keys_of script)) bios → weigh (holds_for script device thread bios) ≤ count_by (holds_by of_key) bios
    request_holds [] linked = omega arith
    request_holds (tagged ∷ others) linked = by_context tagged.bio.context refl
      where
        bios : List TaggedBio
        bios = tagged ∷ others

        pieces : List (List NamedUnit)
        pieces = filter (is_on script device) (pieces_of_request script bios)

        few : length pieces ≤ cond {A = ℕ} (list_any (λ u. device_of script.targets u == device) (units_of_request (keys_of script) bios)) 1 0
        few = few_chunks (device_of script.targets) device (units_of_request (keys_of script) bios) (request_devices (keys_of script) script.targets script.blocks bios stack linked)

        weighed : (key : KeyNo) (b : Bool) → of_key key ≡ b → is_inline script key ≡ true → HasKeyOf (keys_of script) key tagged → cond {A = ℕ} b (length pieces) 0 ≤ count_by (holds_by of_key) bios
        weighed key false is inline' has = omega arith
        weighed key true is inline' has =
            let each = all_same bios (one_key (keys_of script) key tagged others linked has) in
            let some = some_have bios each in omega (arith, few, some)
          where
            same : (t : TaggedBio) (context : Option Context) → IsSomeAnd context (λ c. c.key ≡ key) → (option_map_or (λ c. is_inline script c.key && of_key c.key) context false && has_on t) ≡ has_on t
            same t None has = absurd has
            same t (Some c) has = ap (λ (k : KeyNo). (is_inline script k && of_key k) && has_on t) has ∙ ap (λ (b : Bool). (b && of_key key) && has_on t) inline' ∙ ap (λ (b : Bool). b && has_on t) is

            all_same : (ts : List TaggedBio) → AllByRecursion (HasKeyOf (keys_of script) key) ts → AllByRecursion (λ t. holds_by of_key t ≡ has_on t) ts
            all_same [] all = tt
            all_same (t ∷ ts) all = (same t t.bio.context all.0, all_same ts all.1)

        by_context : (context : Option Context) → tagged.bio.context ≡ context → weigh (holds_if pieces (option_map_or (λ c. cond {A = Option KeyNo} (is_inline script c.key) (Some c.key) None) tagged.bio.context None)) ≤ count_by (holds_by of_key) bios
        by_context None is =
            subst (λ (o : Option Context). weigh (holds_if pieces (option_map_or (λ c. cond {A = Option KeyNo} (is_inline script c.key) (Some c.key) None) o None)) ≤ count_by (holds_by of_key) bios) (sym is) (omega arith)
        by_context (Some c) is =
            subst (λ (o : Option Context). weigh (holds_if pieces (option_map_or (λ c. cond {A = Option KeyNo} (is_inline script c.key) (Some c.key) None) o None)) ≤ count_by (holds_by of_key) bios) (sym is) (by_inline (is_inline script c.key) refl)
          where
            by_inline : (b : Bool) → is_inline script c.key ≡ b → weigh (holds_if pieces (cond {A = Option KeyNo} (is_inline script c.key) (Some c.key) None)) ≤ count_by (holds_by of_key) bios
            by_inline false no' = subst (λ (b : Bool). weigh (holds_if pieces (cond {A = Option KeyNo} b (Some c.key) None)) ≤ count_by (holds_by of_key) bios) (sym no') (omega arith)
            by_inline true goes = subst (λ (b : Bool). weigh (holds_if pieces (cond {A = Option KeyNo} b (Some c.key) None)) ≤ count_by (holds_by of_key) bios) (sym goes)
                (let weight = weigh_pieces c.key pieces in
                let few' = weighed c.key (of_key c.key) refl goes (subst (λ (o : Option Context). IsSomeAnd o (λ d. d.key ≡ c.key)) (sym is) refl) in omega (arith, weight, few'))

    -- a window has no more holds on the device than bios that go inline there
    pub window_holds : (window : List TaggedBio) → weigh (uses_of_turn script device thread (turns.Window window)) ≤ count_by (holds_by of_key) window
    window_holds window =
        subst (λ (l : List TaggedBio). weigh (uses_of_turn script device thread (turns.Window window)) ≤ count_by (holds_by of_key) l) (chunks_join (joins (keys_of script)) window)
        (all_requests (requests_of (keys_of script) window) (chunks_linked (joins (keys_of script)) window))
      where
        all_requests : (requests : List (List TaggedBio)) → AllByRecursion (Linked (joins (keys_of script))) requests
            → weigh (flat_map (holds_for script device thread) requests) ≤ count_by (holds_by of_key) (flat_map (λ chunk. chunk) requests)
        all_requests [] linked = omega arith
        all_requests (request ∷ requests) linked =
            let here = request_holds request linked.0 in
            let rest = all_requests requests linked.1 in
            let weights = sum_by-append (λ (u : DeviceUse). hold_weight of_key u.use') (holds_for script device thread request) (flat_map (holds_for script device thread) requests) in
            let counts = count_append (holds_by of_key) request (flat_map (λ chunk. chunk) requests) in
            omega (arith, here, rest, weights, counts)

  -- every use that a window makes is a hold
  pub window_only_holds : (window : List TaggedBio) → sum_by (λ u. other_weight u.use') (uses_of_turn script device thread (turns.Window window)) ≡ 0
  window_only_holds window = all_requests (requests_of (keys_of script) window)
    where
      of_pieces : (key : KeyNo) (pieces : List (List NamedUnit)) → sum_by (λ u. other_weight u.use') (holds_of key pieces) ≡ 0
      of_pieces key [] = refl
      of_pieces key (piece ∷ pieces) =
          sum_by-cons (λ (u : DeviceUse). other_weight u.use') (record { use' = uses.Hold key; units = map (name_at thread) piece }) (holds_of key pieces)
          ∙ omega (arith, of_pieces key pieces)

      of_key : (key : Option KeyNo) (pieces : List (List NamedUnit))
          → sum_by (λ u. other_weight u.use') (holds_if pieces key) ≡ 0
      of_key None pieces = refl
      of_key (Some key) pieces = of_pieces key pieces

      all_requests : (requests : List (List TaggedBio)) → sum_by (λ u. other_weight u.use') (flat_map (holds_for script device thread) requests) ≡ 0
      all_requests [] = refl
      all_requests (request ∷ requests) =
          sum_by-append (λ (u : DeviceUse). other_weight u.use') (holds_for script device thread request) (flat_map (holds_for script device thread) requests)
          ∙ omega (arith, of_key (inline_key script request) (filter (is_on script device) (pieces_of_request script request)), all_requests requests)

-- ---- operations

in_map : {A B : Type 0} (f : A → B) (xs : List A) (x : A) → In x xs → In (f x) (map f xs)
in_map f [] x at' = absurd at'
in_map f (y ∷ ys) x at' = ⊎_elim (λ (e : y ≡ x). inl (ap f e)) (λ (more : In x ys). inr (in_map f ys x more)) at'

both_true : (a b : Bool) → (a && b) ≡ true → (a ≡ true) × (b ≡ true)
both_true true true is = (refl, refl)
both_true true false is = absurd (true≢false (sym is))
both_true false true is = absurd (true≢false (sym is))
both_true false false is = absurd (true≢false (sym is))

if_then : (a b : Bool) → (a ≡ true → b ≡ true) → cond {A = ℕ} a 1 0 ≤ cond {A = ℕ} b 1 0
if_then true b then' = subst (λ (c : Bool). 1 ≤ cond {A = ℕ} c 1 0) (sym (then' refl)) (omega arith)
if_then false b then' = omega arith

module _ (script : Script) (device : ℕ) (within : device < length script.targets) where
  -- an inline unit whose sector lies on the device goes by it
  way_on : (u : PlannedUnit) (context : Context) → u.context ≡ Some context → is_inline script context.key ≡ true → position_or_len (has_sector u.sector) script.targets ≡ device
      → is_way_on device (way_of script u.context u.sector) ≡ true
  way_on u context is inline' at' =
      let place = position_or_len (has_sector u.sector) script.targets in
      ap (λ (o : Option Context). is_way_on device (way_of script o u.sector)) is
      ∙ ap (λ (b : Bool). is_way_on device (cond {A = Way} b (inline (unwrap_or (device_at script.targets u.sector) 0)) soft)) inline'
      ∙ ap (λ (b : Bool). unwrap_or (cond {A = Option ℕ} b (Some place) None) 0 == device) (lt-ltb place (length script.targets) (omega (arith, within, at')))
      ∙ eq-eqb place device at'

  module _ (of_key : KeyNo → Bool) (test : PlannedUnit → Bool)
      (passes : (u : PlannedUnit) (context : Context) → u.context ≡ Some context → of_key context.key ≡ true → is_way_on device (way_of script u.context u.sector) ≡ true → test u ≡ true) where
    touched : (op : ℕ) (operation : Op) (bio : Extent) → bio_of operation ≡ Some bio → refusal_of script bio ≡ None → holds_by script device 0 of_key (record { tag = op; bio = bio }) ≡ true
        → list_any test (units_of script (op, operation)) ≡ true
    touched op operation bio is_bio unrefused holds =
        ap (λ (o : Option Extent). list_any test (option_map_or (units_of_bio script op operation) o [])) is_bio
        ∙ ap (λ (o : Option Refusal). list_any test (cond {A = List PlannedUnit} (is_none o) (map (unit_at (keys_of script) op operation bio) (range_with_len 0 bio.units)) [])) unrefused
        ∙ by_context bio.context refl
      where
        tagged : TaggedBio
        tagged = record { tag = op; bio = bio }

        parts : (option_map_or (λ context. is_inline script context.key && of_key context.key) bio.context false ≡ true) × (list_any (λ u. device_of script.targets u == device) (named_units (keys_of script) tagged) ≡ true)
        parts = both_true (option_map_or (λ context. is_inline script context.key && of_key context.key) bio.context false) (list_any (λ u. device_of script.targets u == device) (named_units (keys_of script) tagged)) holds

        by_context : (context : Option Context) → bio.context ≡ context → list_any test (map (unit_at (keys_of script) op operation bio) (range_with_len 0 bio.units)) ≡ true
        by_context None is = absurd (true≢false (sym parts.0 ∙ ap (λ (o : Option Context). option_map_or (λ context. is_inline script context.key && of_key context.key) o false) is))
        by_context (Some context) is =
            let key = both_true (is_inline script context.key) (of_key context.key) (ap (λ (o : Option Context). option_map_or (λ c. is_inline script c.key && of_key c.key) o false) (sym is) ∙ parts.0) in
            let found = any_in (λ u. device_of script.targets u == device) (named_units (keys_of script) tagged) parts.1 in
            let number = in_of_map (named_unit (keys_of script) tagged) (range_with_len 0 bio.units) found.0 found.1 in
            let unit : PlannedUnit = unit_at (keys_of script) op operation bio number.0 in
            let context_is : unit.context ≡ Some (record { key = context.key; dun = context.dun + number.0 }) = ap (context_after number.0) is in
            let place : position_or_len (has_sector unit.sector) script.targets ≡ device =
            ap (device_of script.targets) number.2 ∙ eqb-true (device_of script.targets found.0) device found.2 in
            any_from test (map (unit_at (keys_of script) op operation bio) (range_with_len 0 bio.units)) unit (in_map (unit_at (keys_of script) op operation bio) (range_with_len 0 bio.units) number.0 number.1)
            (passes unit (record { key = context.key; dun = context.dun + number.0 }) context_is key.1 (way_on unit (record { key = context.key; dun = context.dun + number.0 }) context_is key.0 place))

    -- no more bios go inline on the device than operations touch it
    pub touched_by : (acts : List (ℕ × Op)) → AllByRecursion (λ act. IsAcceptedBio script act.1) acts
        → count_by (holds_by script device 0 of_key) (op_bios acts) ≤ count_by (λ act. list_any test (units_of script act)) acts
    touched_by [] all = omega arith
    touched_by (act ∷ acts) all = by_bio (bio_of act.1) refl all.0 (touched_by acts all.1)
      where
        by_bio : (o : Option Extent) → bio_of act.1 ≡ o → IsSomeAnd (bio_of act.1) (λ bio. refusal_of script bio ≡ None)
            → count_by (holds_by script device 0 of_key) (op_bios acts) ≤ count_by (λ act. list_any test (units_of script act)) acts
            → count_by (holds_by script device 0 of_key) (op_bios (act ∷ acts)) ≤ count_by (λ act. list_any test (units_of script act)) (act ∷ acts)
        by_bio None is accepted rest = absurd (subst (λ (o : Option Extent). IsSomeAnd o (λ bio. refusal_of script bio ≡ None)) is accepted)
        by_bio (Some bio) is accepted rest =
            let tagged : TaggedBio = record { tag = act.0; bio = bio } in
            let bios : op_bios (act ∷ acts) ≡ tagged ∷ op_bios acts =
            ap (λ (o : Option Extent). cons_option (option_map (λ bio. record { tag = act.0; bio = bio }) o) (op_bios acts)) is in
            let one = count_cons (holds_by script device 0 of_key) tagged (op_bios acts) in
            let other = count_cons (λ act. list_any test (units_of script act)) act acts in
            let here = if_then (holds_by script device 0 of_key tagged) (list_any test (units_of script act))
            (touched act.0 act.1 bio is (subst (λ (o : Option Extent). IsSomeAnd o (λ bio. refusal_of script bio ≡ None)) is accepted)) in
            subst (λ (l : List TaggedBio). count_by (holds_by script device 0 of_key) l ≤ count_by (λ act. list_any test (units_of script act)) (act ∷ acts)) (sym bios)
            (omega (arith, one, other, here, rest))

-- bios reset nothing
pub no_reset : (script : Script) (device : ℕ) (acts : List (ℕ × Op)) → AllByRecursion (λ act. IsAcceptedBio script act.1) acts → count_by (is_reset_of device) acts ≡ 0
no_reset script device [] all = refl
no_reset script device (act ∷ acts) all =
    count_cons (is_reset_of device) act acts
    ∙ ap (λ (b : Bool). cond {A = ℕ} b 1 0 + count_by (is_reset_of device) acts) (none act.1 all.0)
    ∙ omega (arith, no_reset script device acts all.1)
  where
    none : (x : Op) → IsAcceptedBio script x → is_reset_of device (act.0, x) ≡ false
    none (ops.Reset other) is = absurd is
    none (ops.Evict key) is = refl
    none (ops.Write context sector units text) is = refl
    none (ops.Read context sector units) is = refl
    none ops.Plug is = refl
    none ops.Unplug is = refl
