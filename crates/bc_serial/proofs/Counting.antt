-- How many events a window, an eviction and a reset make on each device, as `Bounds` says it.
use Rattle.std.proofs.Common.{◌≡◌, ◌≢◌, ℕ, ◌+◌, ◌<◌, ◌≤◌, ◌⊎◌, Bool, true, false, cond, List, [], ◌∷◌, length, map, refl, sym, ap, subst, ◌∙◌, arith, Option}
use Rattle.std.specs.Prelude.{◌==◌, ◌&&◌, ◌||◌, count_by}
use Rattle.std.specs.List.{AllByRecursion}
use Rattle.std.specs.Option.{option_map_or}
use Rattle.std.proofs.Math.Logic.{⊎_elim}
use Rattle.std.proofs.lemmas.Bool.{eq-eqb, ne_eqb, cases_eq, cases_lt}
use Rattle.bc_key.specs.declared.keys.KeyNo.{KeyNo}
use Rattle.bc_bio.specs.declared.context.Context.{Context}
use Rattle.bc_profile.specs.declared.event.Event.{Event}
use Rattle.bc_profile.specs.declared.event.Event.TheVariants as events
use Rattle.bc_profile.specs.declared.uses.Use.{Use}
use Rattle.bc_profile.specs.SlotJournal.{Slots}
use Rattle.bc_profile.specs.OneCaller.{events_of_eviction, events_of_use, journal_of}
use Rattle.bc_script.specs.declared.op.Op.{Op}
use Rattle.bc_script.specs.declared.op.Op.TheVariants as ops
use Rattle.bc_script.specs.Script.{Script, IsScript}
use Rattle.bc_script.specs.Way.{way_of}
use Rattle.bc_script.specs.Windows as turns
use Rattle.bc_report.specs.declared.answer.Answer.TheVariants as answers
use Rattle.bc_report.specs.Counts.{is_reset_of, touches_under, touches_any, is_reset, is_programming_of, is_idle}
use Rattle.bc_report.specs.Evictions.{Eviction, is_evict, is_busy, names_busy}
use Rattle.bc_report.specs.Holders.{is_way_on, is_unit_under}
use Rattle.bc_report.specs.SerialRun.{DeviceUse, uses_of_turn}
use Rattle.bc_compose.specs.SectionDone.{Bounds}
use Rattle.bc_section.specs.SectionProgress.{IsAcceptedBio}
use Rattle.bc_section.specs.Uses.{op_bios}
use Rattle.bc_section.proofs.Holding.{count_cons, count_journal, count_eviction, hold_weight, other_weight, programs_at_most, idles_at_most, others_at_most, holds_by, window_holds, window_only_holds, touched_by, no_reset}

-- what a window makes, where each device records its uses and nothing else
pub window_bounds : (script : Script) (thread : ℕ) (acts : List (ℕ × Op)) → IsScript script → AllByRecursion (λ act. IsAcceptedBio script act.1) acts → (events : ℕ → List Event)
    → ((device : ℕ) → device < length script.targets → (slots : Slots) × (events device ≡ journal_of slots (map (λ u. u.use') (uses_of_turn script device thread (turns.Window (op_bios acts))))))
    → ((device : ℕ) → length script.targets ≤ device → events device ≡ [])
    → Bounds script acts [] events
window_bounds script thread acts rules accepted made inside outside = record {
  evicts = λ device key. no_others device (λ event. is_evict key event || is_busy key event) (λ slot key. refl) (λ slot. refl);
  busy = λ device key slot refs. omega arith;
  further = λ device key. no_others device (is_busy key) (λ slot key. refl) (λ slot. refl);
  resets = λ device. let none = no_others device is_reset (λ slot key. refl) (λ slot. refl) in let no = no_reset script device acts accepted in omega (arith, none, no);
  programmings = λ device key. few device (is_programming_of key) (λ other. other.0 == key) (programs_at_most key) (count_by (touches_under script device key) acts)
      (λ within. touched_by script device within (λ other. other.0 == key) (is_unit_under script key device)
      (λ u context is passes way. ap (λ (o : Option Context). option_map_or (λ c. c.key.0 == key) o false && is_way_on device (way_of script u.context u.sector)) is
      ∙ ap (λ (b : Bool). b && is_way_on device (way_of script u.context u.sector)) passes ∙ way) acts accepted);
  idles = λ device. few device is_idle (λ other. true) idles_at_most (count_by (touches_any script device) acts)
      (λ within. touched_by script device within (λ other. true) (λ u. is_way_on device (way_of script u.context u.sector)) (λ u context is passes way. way) acts accepted);
}
  where
    used : ℕ → List DeviceUse
    used device = uses_of_turn script device thread (turns.Window (op_bios acts))

    -- each event of this kind is of a hold
    few : (device : ℕ) (test : Event → Bool) (of_key : KeyNo → Bool) → ((slots : Slots) (use' : Use) → count_by test (events_of_use slots use') ≤ hold_weight of_key use')
        → (n : ℕ) → (device < length script.targets → count_by (holds_by script device 0 of_key) (op_bios acts) ≤ n) → count_by test (made device) ≤ n
    few device test of_key at_most n touched = ⊎_elim
        (λ (within : device < length script.targets).
        let is = inside device within in
        subst (λ (l : List Event). count_by test l ≤ n) (sym is.1)
        (let one = count_journal test (hold_weight of_key) at_most is.0 (used device) in
        let two = window_holds script device thread rules.devices.stack of_key (op_bios acts) in
        let three = touched within in omega (arith, one, two, three)))
        (λ (past : length script.targets ≤ device). subst (λ (l : List Event). count_by test l ≤ n) (sym (outside device past)) (omega arith))
        (cases_lt device (length script.targets))

    -- no event is of this kind, which holds don't make
    no_others : (device : ℕ) (test : Event → Bool) → ((slot key : ℕ) → test (events.Program slot key []) ≡ false) → ((slot : ℕ) → test (events.Idle slot) ≡ false) → count_by test (made device) ≤ 0
    no_others device test no_program no_idle = ⊎_elim
        (λ (within : device < length script.targets).
        let is = inside device within in
        subst (λ (l : List Event). count_by test l ≤ 0) (sym is.1)
        (let one = count_journal test other_weight (others_at_most test no_program no_idle) is.0 (used device) in
        let two = window_only_holds script device thread (op_bios acts) in omega (arith, one, two)))
        (λ (past : length script.targets ≤ device). subst (λ (l : List Event). count_by test l ≤ 0) (sym (outside device past)) (omega arith))
        (cases_lt device (length script.targets))

-- what an eviction makes that was answered so: where a slot has the key, it is emptied
pub eviction_bounds : (script : Script) (thread op : ℕ) (key : KeyNo) (events : ℕ → List Event)
    → ((device : ℕ) → (events device ≡ []) ⊎ ((slots : Slots) × (events device ≡ events_of_eviction slots key.0)))
    → Bounds script ((op, ops.Evict key) ∷ []) (record { thread = thread; op = op; key = key.0; answer = answers.Evicted } ∷ []) events
eviction_bounds script thread op key made is = record {
  evicts = λ device other.
      let one = few device (λ event. is_evict other event || is_busy other event) (cond {A = ℕ} (key.0 == other) 1 0)
      (λ slot. subst (λ (b : Bool). cond {A = ℕ} b 1 0 ≤ cond {A = ℕ} (key.0 == other) 1 0) (sym (or_false (key.0 == other))) (omega arith)) in
      let answered = count_cons (λ (e : Eviction). e.key == other) eviction [] in
      omega (arith, one, answered);
  busy = λ device other slot refs.
      let answered = count_cons (λ (e : Eviction). (e.key == other) && names_busy device slot refs e.answer) eviction [] in
      let none : cond {A = ℕ} ((key.0 == other) && false) 1 0 ≡ 0 = ap (λ (b : Bool). cond {A = ℕ} b 1 0) (and_false (key.0 == other)) in
      omega (arith, answered, none);
  further = λ device other. let none = few device (is_busy other) 0 (λ slot. omega arith) in omega (arith, none);
  resets = λ device. let none = few device is_reset 0 (λ slot. omega arith) in omega (arith, none);
  programmings = λ device other. let none = few device (is_programming_of other) 0 (λ slot. omega arith) in omega (arith, none);
  idles = λ device. let none = few device is_idle 0 (λ slot. omega arith) in omega (arith, none);
}
  where
    eviction : Eviction
    eviction = record { thread = thread; op = op; key = key.0; answer = answers.Evicted }

    or_false : (b : Bool) → (b || false) ≡ b
    or_false true = refl
    or_false false = refl

    and_false : (b : Bool) → (b && false) ≡ false
    and_false true = refl
    and_false false = refl

    few : (device : ℕ) (test : Event → Bool) (n : ℕ) → ((slot : ℕ) → cond {A = ℕ} (test (events.Evict slot key.0)) 1 0 ≤ n) → count_by test (made device) ≤ n
    few device test n le = ⊎_elim
        (λ (none : made device ≡ []). subst (λ (l : List Event). count_by test l ≤ n) (sym none) (omega arith))
        (λ (some : (slots : Slots) × (made device ≡ events_of_eviction slots key.0)). subst (λ (l : List Event). count_by test l ≤ n) (sym some.1) (count_eviction test some.0 key.0 n le))
        (is device)

-- what a reset makes: a reset of that device
pub reset_bounds : (script : Script) (op device : ℕ) (made : ℕ → List Event) → ((other : ℕ) → made other ≡ cond {A = List Event} (other == device) (events.Reset ∷ []) [])
    → Bounds script ((op, ops.Reset device) ∷ []) [] made
reset_bounds script op device made is = record {
  evicts = λ other key. none other (λ event. is_evict key event || is_busy key event) refl 0;
  busy = λ other key slot refs. omega arith;
  further = λ other key. none other (is_busy key) refl 0;
  resets = λ other.
      ap (count_by is_reset) (is other)
      ∙ one (other == device)
      ∙ ap (λ (b : Bool). cond {A = ℕ} b 1 0) (swapped other)
      ∙ sym (count_cons (is_reset_of other) (op, ops.Reset device) [] ∙ plus_none (cond {A = ℕ} (device == other) 1 0));
  programmings = λ other key. none other (is_programming_of key) refl (count_by (touches_under script other key) ((op, ops.Reset device) ∷ []));
  idles = λ other. none other is_idle refl (count_by (touches_any script other) ((op, ops.Reset device) ∷ []));
}
  where
    plus_none : (n : ℕ) → n + 0 ≡ n
    plus_none n = omega arith

    one : (b : Bool) → count_by is_reset (cond {A = List Event} b (events.Reset ∷ []) []) ≡ cond {A = ℕ} b 1 0
    one true = refl
    one false = refl

    swapped : (other : ℕ) → (other == device) ≡ (device == other)
    swapped other = ⊎_elim
        (λ (same : other ≡ device). eq-eqb other device same ∙ sym (eq-eqb device other (sym same)))
        (λ (differ : other ≢ device). ne_eqb other device differ ∙ sym (ne_eqb device other (λ e. differ (sym e))))
        (cases_eq other device)

    none : (other : ℕ) (test : Event → Bool) → test events.Reset ≡ false → (n : ℕ) → count_by test (made other) ≤ n
    none other test isn't n = subst (λ (l : List Event). count_by test l ≤ n) (sym (is other)) (go (other == device))
      where
        go : (b : Bool) → count_by test (cond {A = List Event} b (events.Reset ∷ []) []) ≤ n
        go true = let c = count_cons test events.Reset [] in let z : cond {A = ℕ} (test events.Reset) 1 0 ≡ 0 = ap (λ (b : Bool). cond {A = ℕ} b 1 0) isn't in omega (arith, c, z)
        go false = omega arith
