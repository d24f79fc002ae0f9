-- What evictions and resets of a disk that threads share tell of a thread's device.
use Rattle.std.proofs.Common.{◌≡◌, ◌≢◌, ℕ, zero, suc, ◌+◌, ◌<◌, ◌≤◌, ◌⊎◌, inl, inr, Bool, true, false, cond, List, [], ◌∷◌, length, append-nil, refl, sym, ap, subst, ◌∙◌, arith, Option, Some, None}
use Rattle.std.specs.Prelude.{◌==◌, ◌&&◌, ◌||◌, nat_lt, count_by, slice_get, IfSome, IsTrue}
use Rattle.std.specs.Option.{option_map_or}
use Rattle.std.proofs.Math.Logic.{⊎_elim}
use Rattle.std.proofs.lemmas.Bool.{true≢false, eq-eqb, ne_eqb, eqb-true, lt-ltb, ltb-true, cases_eq, cases_lt}
use Rattle.bc_base.specs.Lists.{list_at}
use Rattle.bc_base.specs.Sectors.{Sectors}
use Rattle.bc_key.specs.declared.keys.KeyNo.{KeyNo}
use Rattle.bc_medium.specs.declared.entry.Entry.{Entry}
use Rattle.bc_medium.specs.Growth.{Grows}
use Rattle.bc_stack.specs.declared.target.Target.{Target}
use Rattle.bc_profile.specs.declared.event.Event.{Event}
use Rattle.bc_profile.specs.declared.event.Event.TheVariants as events
use Rattle.bc_profile.specs.Story.{IsGone, events_of}
use Rattle.bc_script.specs.declared.op.Op.TheVariants as ops
use Rattle.bc_script.specs.Script.{Script}
use Rattle.bc_script.specs.Bios.{is_inline}
use Rattle.bc_report.specs.declared.answer.Answer.{Answer}
use Rattle.bc_report.specs.declared.answer.Answer.TheVariants as answers
use Rattle.bc_report.specs.Counts.{is_reset_of, touches_under, touches_any, is_reset, is_programming_of, is_idle}
use Rattle.bc_report.specs.Evictions.{Eviction, is_evict, is_busy, is_busy_with, names_busy, names_device, names_before, IsEvictionAnswer}
use Rattle.bc_report.specs.Programmings.{passes}
use Rattle.bc_compose.specs.SectionDone.{Bounds}
use Rattle.bc_compose.specs.OrderedHolds.{IsTakenOut}
use Rattle.bc_section.specs.SectionProgress.{Evicted, HasReset}
use Rattle.bc_pieces.specs.Pieces.{DeviceFacts, at_device}
use Rattle.bc_disk.specs.declared.eviction.Busy.{Busy}
use Rattle.bc_disk.specs.Evictions.{AddsEvents, AsksEach, EmptiesSlot, IsBefore, IsRefusedBy, Resets}
use Rattle.bc_threads.proofs.Events.{in_no_slot, notes_of_each}
use Rattle.bc_threads.proofs.Showing.{IsWayFor, shown}
use Rattle.bc_medium.proofs.Growing.{begins_itself, grows_none}
use Rattle.bc_section.proofs.Holding.{count_cons}
use Rattle.bc_threads.proofs.Submission.{not_alone}

or_false : (b : Bool) → (b || false) ≡ b
or_false true = refl
or_false false = refl

and_false : (b : Bool) → (b && false) ≡ false
and_false true = refl
and_false false = refl

no_more : (b : Bool) → b ≡ false → cond {A = ℕ} b 1 0 ≤ 0
no_more b is = subst (λ (c : Bool). cond {A = ℕ} c 1 0 ≤ 0) (sym is) (omega arith)

-- how a report says what an eviction came to
abbrev pub answer_by : Option Busy → Answer
answer_by None = answers.Evicted
answer_by (Some busy) = answers.Busy busy.device busy.slot busy.refs

module _ (script : Script) (thread : ℕ) (base : ℕ → Sectors) (old new : DeviceFacts) (way : IsWayFor script thread old) where
  -- events alone change neither the orders nor whose they are
  grows : (made : ℕ → List Event) → AddsEvents old new made → Grows old.access.shards thread old.access.seen new.access.seen []
  grows made adds = subst (λ (seen : List (List Entry)). Grows old.access.shards thread old.access.seen seen []) (sym (ap (λ a. a.seen) adds.access)) (grows_none old.access.shards thread old.access.seen)

  module _ (op : ℕ) (key : KeyNo) (refused : Option Busy) (asks : AsksEach old new key.0 refused) where
    abbrev made : ℕ → List Event
    made = asks.made

    abbrev eviction : Eviction
    eviction = record { thread = thread; op = op; key = key.0; answer = answer_by refused }

    of_empties : (device : ℕ) (test : Event → Bool) (n : ℕ) → ((slot : ℕ) → cond {A = ℕ} (test (events.Evict slot key.0)) 1 0 ≤ n)
        → EmptiesSlot (old.slots device) (list_at new.noted device) key.0 (made device) → count_by test (made device) ≤ n
    of_empties device test n evict empties = ⊎_elim
        (λ (none : made device ≡ []). subst (λ (l : List Event). count_by test l ≤ n) (sym none) (omega arith))
        (λ (one : (slot : ℕ) × (made device ≡ events.Evict slot key.0 ∷ [])).
        subst (λ (l : List Event). count_by test l ≤ n) (sym one.1)
        (let c = count_cons test (events.Evict one.0 key.0) [] in let le = evict one.0 in omega (arith, c, le)))
        empties.events

    of_refused : (device slot refs : ℕ) (test : Event → Bool) (n : ℕ) → cond {A = ℕ} (test (events.Busy slot key.0 refs)) 1 0 ≤ n
        → IsRefusedBy key.0 slot refs (made device) → count_by test (made device) ≤ n
    of_refused device slot refs test n busy is =
        subst (λ (l : List Event). count_by test l ≤ n) (sym is.event)
        (let c = count_cons test (events.Busy slot key.0 refs) [] in omega (arith, c, busy))

    -- at most so many events of a kind
    few : (device : ℕ) (test : Event → Bool) (n : ℕ) → ((slot : ℕ) → cond {A = ℕ} (test (events.Evict slot key.0)) 1 0 ≤ n)
        → ((slot refs : ℕ) → cond {A = ℕ} (test (events.Busy slot key.0 refs)) 1 0 ≤ n) → count_by test (made device) ≤ n
    few device test n evict busy = ⊎_elim
        (λ (within : device < length old.targets). ⊎_elim
        (λ (empties : EmptiesSlot (old.slots device) (list_at new.noted device) key.0 (made device)). of_empties device test n evict empties)
        (λ (is : (slot refs : ℕ) × IsRefusedBy key.0 slot refs (made device)). of_refused device is.0 is.1 test n (busy is.0 is.1) is.2)
        (asks.each device within))
        (λ (past : length old.targets ≤ device). subst (λ (l : List Event). count_by test l ≤ n) (sym (asks.others device past)) (omega arith))
        (cases_lt device (length old.targets))

    -- and before the first refusal none is refused
    few_before : (device : ℕ) (test : Event → Bool) (n : ℕ) → IsBefore device refused → ((slot : ℕ) → cond {A = ℕ} (test (events.Evict slot key.0)) 1 0 ≤ n) → count_by test (made device) ≤ n
    few_before device test n before evict = ⊎_elim
        (λ (within : device < length old.targets). of_empties device test n evict (asks.before device within before))
        (λ (past : length old.targets ≤ device). subst (λ (l : List Event). count_by test l ≤ n) (sym (asks.others device past)) (omega arith))
        (cases_lt device (length old.targets))

    abbrev answered : ℕ → (Answer → Bool) → ℕ
    answered other test = count_by (λ e. (e.key == other) && test e.answer) (eviction ∷ [])

    answered_is : (other : ℕ) (test : Answer → Bool) → answered other test ≡ cond {A = ℕ} ((key.0 == other) && test (answer_by refused)) 1 0
    answered_is other test = let c = count_cons (λ (e : Eviction). (e.key == other) && test e.answer) eviction [] in omega (arith, c)

    busy_has : (r : Option Busy) → refused ≡ r → (device other slot refs : ℕ)
        → cond {A = ℕ} ((key.0 == other) && names_busy device slot refs (answer_by r)) 1 0 ≤ count_by (is_busy_with other slot refs) (made device)
    busy_has None is device other slot refs =
        let none = no_more ((key.0 == other) && false) (and_false (key.0 == other)) in omega (arith, none)
    busy_has (Some busy) is device other slot refs = by_device (busy.device == device) refl
      where
        first : IsRefusedBy key.0 busy.slot busy.refs (made busy.device)
        first = (subst (λ (o : Option Busy). IfSome o (λ busy. (busy.device < length old.targets) × IsRefusedBy key.0 busy.slot busy.refs (made busy.device))) is asks.first).1

        none : (k s r : Bool) → cond {A = ℕ} (k && (false && s && r)) 1 0 ≤ 0
        none true true true = omega arith
        none true true false = omega arith
        none true false true = omega arith
        none true false false = omega arith
        none false true true = omega arith
        none false true false = omega arith
        none false false true = omega arith
        none false false false = omega arith

        one : (k s r : Bool) → cond {A = ℕ} (k && (true && s && r)) 1 0 ≤ cond {A = ℕ} (k && s && r) 1 0
        one true true true = omega arith
        one true true false = omega arith
        one true false true = omega arith
        one true false false = omega arith
        one false true true = omega arith
        one false true false = omega arith
        one false false true = omega arith
        one false false false = omega arith

        by_device : (b : Bool) → (busy.device == device) ≡ b
            → cond {A = ℕ} ((key.0 == other) && ((busy.device == device) && (busy.slot == slot) && (busy.refs == refs))) 1 0 ≤ count_by (is_busy_with other slot refs) (made device)
        by_device false differ = subst (λ (c : Bool). cond {A = ℕ} ((key.0 == other) && (c && (busy.slot == slot) && (busy.refs == refs))) 1 0 ≤ count_by (is_busy_with other slot refs) (made device)) (sym differ)
            (let le = none (key.0 == other) (busy.slot == slot) (busy.refs == refs) in omega (arith, le))
        by_device true same = subst (λ (c : Bool). cond {A = ℕ} ((key.0 == other) && (c && (busy.slot == slot) && (busy.refs == refs))) 1 0 ≤ count_by (is_busy_with other slot refs) (made device)) (sym same)
            (subst (λ (d : ℕ). cond {A = ℕ} ((key.0 == other) && (true && (busy.slot == slot) && (busy.refs == refs))) 1 0 ≤ count_by (is_busy_with other slot refs) (made d)) (eqb-true busy.device device same)
            (subst (λ (l : List Event). cond {A = ℕ} ((key.0 == other) && (true && (busy.slot == slot) && (busy.refs == refs))) 1 0 ≤ count_by (is_busy_with other slot refs) l) (sym first.event)
            (let le = one (key.0 == other) (busy.slot == slot) (busy.refs == refs) in
            let c = count_cons (is_busy_with other slot refs) (events.Busy busy.slot key.0 busy.refs) [] in omega (arith, le, c))))

    busy_further : (r : Option Busy) → refused ≡ r → (device other : ℕ)
        → count_by (is_busy other) (made device)
        ≤ cond {A = ℕ} ((key.0 == other) && names_device device (answer_by r)) 1 0 + cond {A = ℕ} ((key.0 == other) && names_before device (answer_by r)) 1 0
    busy_further None is device other =
        let none = few_before device (is_busy other) 0 (subst (IsBefore device) (sym is) tt) (λ slot. omega arith) in omega (arith, none)
    busy_further (Some busy) is device other = ⊎_elim
        (λ (before : device < busy.device). let none = few_before device (is_busy other) 0 (subst (IsBefore device) (sym is) before) (λ slot. omega arith) in omega (arith, none))
        (λ (from : busy.device ≤ device). ⊎_elim
        (λ (same : busy.device ≡ device). both (busy.device == device) (nat_lt busy.device device) (inl (eq-eqb busy.device device same)))
        (λ (differ : busy.device ≢ device). both (busy.device == device) (nat_lt busy.device device) (inr (lt-ltb busy.device device (later busy.device device from differ))))
        (cases_eq busy.device device))
        (cases_lt device busy.device)
      where
        later : (a b : ℕ) → a ≤ b → a ≢ b → a < b
        later a b le differ = ⊎_elim (λ (lt : a < b). lt) (λ (ge : b ≤ a). absurd (differ (omega (arith, le, ge)))) (cases_lt a b)

        one : count_by (is_busy other) (made device) ≤ cond {A = ℕ} (key.0 == other) 1 0
        one = few device (is_busy other) (cond {A = ℕ} (key.0 == other) 1 0) (λ slot. omega arith) (λ slot refs. omega arith)

        split : (k a b : Bool) → (a ≡ true) ⊎ (b ≡ true) → cond {A = ℕ} k 1 0 ≤ cond {A = ℕ} (k && a) 1 0 + cond {A = ℕ} (k && b) 1 0
        split false a b either = omega arith
        split true true b either = omega arith
        split true false true either = omega arith
        split true false false either = ⊎_elim (λ (e : false ≡ true). absurd (true≢false (sym e))) (λ (e : false ≡ true). absurd (true≢false (sym e))) either

        both : (a b : Bool) → (a ≡ true) ⊎ (b ≡ true) → count_by (is_busy other) (made device) ≤ cond {A = ℕ} ((key.0 == other) && a) 1 0 + cond {A = ℕ} ((key.0 == other) && b) 1 0
        both a b either = let le = split (key.0 == other) a b either in omega (arith, one, le)

    bounds : Bounds script ((op, ops.Evict key) ∷ []) (eviction ∷ []) made
    bounds = record {
      evicts = λ device other.
          let one = few device (λ event. is_evict other event || is_busy other event) (cond {A = ℕ} (key.0 == other) 1 0)
          (λ slot. subst (λ (b : Bool). cond {A = ℕ} b 1 0 ≤ cond {A = ℕ} (key.0 == other) 1 0) (sym (or_false (key.0 == other))) (omega arith))
          (λ slot refs. omega arith) in
          let c = count_cons (λ (e : Eviction). e.key == other) eviction [] in omega (arith, one, c);
      busy = λ device other slot refs.
          let a = answered_is other (names_busy device slot refs) in let le = busy_has refused refl device other slot refs in omega (arith, a, le);
      further = λ device other.
          let a = answered_is other (names_device device) in let b = answered_is other (names_before device) in let le = busy_further refused refl device other in omega (arith, a, b, le);
      resets = λ device. let none = few device is_reset 0 (λ slot. omega arith) (λ slot refs. omega arith) in omega (arith, none);
      programmings = λ device other. let none = few device (is_programming_of other) 0 (λ slot. omega arith) (λ slot refs. omega arith) in omega (arith, none);
      idles = λ device. let none = few device is_idle 0 (λ slot. omega arith) (λ slot refs. omega arith) in omega (arith, none);
    }

    valid : (r : Option Busy) → refused ≡ r → is_inline script key ≡ true → IsEvictionAnswer script key.0 (answer_by r)
    valid None is goes = tt
    valid (Some busy) is goes =
        (goes, subst (λ (ts : List Target). busy.device < length ts) way.targets (subst (λ (o : Option Busy). IfSome o (λ busy. (busy.device < length old.targets) × IsRefusedBy key.0 busy.slot busy.refs (made busy.device))) is asks.first).0)

    is_before : (r : Option Busy) (device : ℕ) → IsTrue (passes device (answer_by r)) → IsBefore device r
    is_before None device passed = tt
    is_before (Some busy) device passed = ltb-true device busy.device passed

    gone : (device : ℕ) → IsTrue (passes device (answer_by refused)) → IsTakenOut script old.noted new.noted device key.0
    gone device passed = record {
      front = list_at new.noted device;
      begins = (asks.adds.notes device).front;
      seen = begins_itself (list_at new.noted device);
      gone = ⊎_elim
          (λ (within : device < length script.targets).
          subst (λ (n : ℕ). IsGone n (list_at new.noted device) key.0) (way.slots device within)
          (asks.before device (subst (λ (ts : List Target). device < length ts) (sym way.targets) within) (is_before refused device passed)).gone)
          (λ (past : length script.targets ≤ device).
          subst (λ (n : ℕ). IsGone n (list_at new.noted device) key.0) (sym (none script.targets device past)) (in_no_slot (events_of (list_at new.noted device)) key.0))
          (cases_lt device (length script.targets));
    }
      where
        none : (targets : List Target) (device : ℕ) → length targets ≤ device → option_map_or (λ target. target.slots) (slice_get targets device) 0 ≡ 0
        none [] device past = refl
        none (t ∷ ts) zero past = absurd (omega (arith, past))
        none (t ∷ ts) (suc device) past = none ts device (omega (arith, past))

    -- an eviction of a key that goes inline
    pub evicted_inline : is_inline script key ≡ true → Evicted (shown script base thread old) (shown script base thread new) op key (answer_by refused)
    evicted_inline goes = record {
      events = made;
      same = ap (λ (n : ℕ). record (shown script base thread new) { shards = n }) asks.adds.same.shards;
      spare = omega arith;
      grows = grows made asks.adds;
      alone = λ alone. not_alone alone;
      notes = notes_of_each old.access.caller thread old.noted new.noted made way.caller asks.adds.notes;
      bounds = bounds;
      valid = valid refused refl goes;
      gone = λ device passed inline'. gone device passed;
      uses = λ alone. not_alone alone;
    }

  -- a reset
  pub has_reset : (op device : ℕ) → Resets old new device → HasReset (shown script base thread old) (shown script base thread new) op device
  has_reset op device resets = record {
    events = made;
    same = ap (λ (n : ℕ). record (shown script base thread new) { shards = n }) resets.same.shards;
    spare = omega arith;
    grows = grows made resets;
    alone = λ alone. not_alone alone;
    notes = notes_of_each old.access.caller thread old.noted new.noted made way.caller resets.notes;
    bounds = record {
      evicts = λ other key. none other (λ event. is_evict key event || is_busy key event) refl 0;
      busy = λ other key slot refs. omega arith;
      further = λ other key. none other (is_busy key) refl 0;
      resets = λ other.
          one (other == device)
          ∙ ap (λ (b : Bool). cond {A = ℕ} b 1 0) (swapped other)
          ∙ sym (count_cons (is_reset_of other) (op, ops.Reset device) [] ∙ plus_none (cond {A = ℕ} (device == other) 1 0));
      programmings = λ other key. none other (is_programming_of key) refl (count_by (touches_under script other key) ((op, ops.Reset device) ∷ []));
      idles = λ other. none other is_idle refl (count_by (touches_any script other) ((op, ops.Reset device) ∷ []));
    };
    uses = λ alone. not_alone alone;
  }
    where
      made : ℕ → List Event
      made = at_device device (events.Reset ∷ [])

      plus_none : (n : ℕ) → n + 0 ≡ n
      plus_none n = omega arith

      one : (b : Bool) → count_by is_reset (cond {A = List Event} b (events.Reset ∷ []) []) ≡ cond {A = ℕ} b 1 0
      one true = refl
      one false = refl

      swapped : (other : ℕ) → (other == device) ≡ (device == other)
      swapped other = ⊎_elim
          (λ (same : other ≡ device). eq-eqb other device same ∙ sym (eq-eqb device other (sym same)))
          (λ (differ : other ≢ device). ne_eqb other device differ ∙ sym (ne_eqb device other (λ e. differ (sym e))))
          (cases_eq other device)

      none : (other : ℕ) (test : Event → Bool) → test events.Reset ≡ false → (n : ℕ) → count_by test (made other) ≤ n
      none other test isn't n = go (other == device)
        where
          go : (b : Bool) → count_by test (cond {A = List Event} b (events.Reset ∷ []) []) ≤ n
          go true = let c = count_cons test events.Reset [] in let z : cond {A = ℕ} (test events.Reset) 1 0 ≡ 0 = ap (λ (b : Bool). cond {A = ℕ} b 1 0) isn't in omega (arith, c, z)
          go false = omega arith

-- an eviction of a key that doesn't go inline changes nothing
pub evicted_soft : (script : Script) (thread : ℕ) (base : ℕ → Sectors) (facts : DeviceFacts) (op : ℕ) (key : KeyNo) → is_inline script key ≡ false
    → Evicted (shown script base thread facts) (shown script base thread facts) op key answers.Evicted
evicted_soft script thread base facts op key soft = record {
  events = λ device. [];
  same = refl;
  spare = omega arith;
  grows = grows_none facts.access.shards thread facts.access.seen;
  alone = λ alone. not_alone alone;
  notes = record { fronts = λ device. begins_itself (list_at facts.noted device); adds = λ device. sym (append-nil _) };
  bounds = record {
    evicts = λ device other. omega arith;
    busy = λ device other slot refs.
        let c = count_cons (λ (e : Eviction). (e.key == other) && names_busy device slot refs e.answer) (record { thread = thread; op = op; key = key.0; answer = answers.Evicted }) [] in
        let none = no_more ((key.0 == other) && false) (and_false (key.0 == other)) in omega (arith, c, none);
    further = λ device other. omega arith;
    resets = λ device. refl;
    programmings = λ device other. omega arith;
    idles = λ device. omega arith;
  };
  valid = tt;
  gone = λ device passed inline'. absurd (true≢false (sym inline' ∙ soft));
  uses = λ alone. not_alone alone;
}
