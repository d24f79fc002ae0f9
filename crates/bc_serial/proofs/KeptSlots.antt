-- What the calls on the keyslots of a script's devices keep of them.
use Rattle.std.proofs.Common.{◌≡◌, ◌≢◌, ℕ, zero, suc, ◌+◌, ◌<◌, ◌≤◌, Bool, cond, List, [], ◌∷◌, ◌++◌, length, map, take, drop, get_or, refl, sym, ap, subst, ◌∙◌, arith, Option, Some, None}
use Rattle.std.specs.Prelude.{◌==◌, slice_get, slice_set, IsSomeAnd, is_some, unwrap_or, not, take_while, ◌^◌}
use Rattle.std.specs.List.{AllByRecursion, enumerate_from}
use Rattle.std.specs.Option.{option_map_or}
use Rattle.std.proofs.Math.Logic.{⊎_elim}
use Rattle.std.proofs.lemmas.Bool.{eq-eqb, ne_eqb, cases_eq}
use Rattle.std.proofs.lemmas.Option.{none-some, same_Some, get_or_from_slice_get}
use Rattle.std.proofs.lemmas.List.{append_assoc, append-nil, map-set, length-map, length-append, length-replicate}
use Rattle.std.proofs.lemmas.List.Sums.{take_while-cons}
use Rattle.std.proofs.Math.Seq.{take-append_seam}
use Rattle.bc_base.specs.Lists.{Each, At, AllAt, list_at}
use Rattle.bc_base.specs.Story.{StartsWith}
use Rattle.bc_key.specs.KeyData.{KeyData, IsValid}
use Rattle.bc_modes.specs.Capabilities.{Capabilities, capabilities_of}
use Rattle.bc_modes.specs.UnitCipher.{parts_of}
use Rattle.bc_stack.specs.declared.target.Target.{Target}
use Rattle.bc_stack.specs.Targets.{StackParts}
use Rattle.bc_profile.specs.declared.event.Event.{Event}
use Rattle.bc_profile.specs.declared.event.Event.TheVariants as events
use Rattle.bc_profile.specs.declared.uses.Use.{Use}
use Rattle.bc_profile.specs.declared.uses.Use.TheVariants as uses
use Rattle.bc_profile.specs.SlotJournal.{Slots, opening, after_event, after_events, slots_after, key_of, idle_order, Allowed, EachEvent, IsLawful}
use Rattle.bc_profile.specs.OneCaller.{events_of_use, events_of_hold, events_of_eviction, journal_of, slot_with, slot_for, first_idle}
use Rattle.bc_profile.specs.Programmings.{Holds}
use Rattle.bc_profile.specs.Solo.{SoloData, HasSpare, solo_with_events, slots_of as slots_in}
use Rattle.bc_profile.proofs.KeyLemmas.{last_push, slots_push, same_count, key_inside, slot_has, in_no_slot}
use Rattle.bc_script.specs.Script.{Script, IsScript, IsDevice, IsNamedKey, keys_of}
use Rattle.bc_script.specs.declared.named_key.NamedKey.{NamedKey}
use Rattle.bc_report.specs.Report.{IsEvent}
use Rattle.bc_compose.specs.OrderedHolds.{slot_count_of}
use Rattle.bc_serial.specs.declared.open_hold.OpenHold.{OpenHold}
use Rattle.bc_section.specs.Uses.{after_uses}
use Rattle.bc_serial.specs.Keyslots.{SlotCipherData, MeansItsWords, IsKeyslotsOf, IsOpenHold, IsKeyslots, held_on, giving_back, journal_in, used_at, used_each, evicted, max_events, MayEvict, row_of_key}
use Rattle.bc_section.proofs.Lists.{at_changed, at_one, at_map, at_of_map, at_exists, list_at_map, all_slice, all_by_place}
use Rattle.bc_base.proofs.Members.{all_append, at_set, length-set}

-- ---- places

pub at_read : {A : Type 0} (xs : List A) (k : ℕ) (x : A) → k < length xs → x ≡ get_or xs k x → At xs k x
at_read [] k x lt e = absurd (omega arith)
at_read (y ∷ ys) zero x lt e = ap (λ z. Some z) (sym e)
at_read (y ∷ ys) (suc k) x lt e = at_read ys k x (omega arith) e

pub at_below : {A : Type 0} (xs : List A) (k : ℕ) (x : A) → At xs k x → k < length xs
at_below [] k x at = absurd (none-some x at)
at_below (y ∷ ys) zero x at = omega arith
at_below (y ∷ ys) (suc k) x at = let lt = at_below ys k x at in omega (arith, lt)

-- an element that didn't change
pub at_other : {A : Type 0} (xs : List A) (k j : ℕ) (y z : A) → j ≢ k → At (slice_set xs k y) j z → At xs j z
at_other xs k j y z differ at = ⊎_elim (λ (here : (j ≡ k) × (z ≡ y)). absurd (differ here.0)) (λ (other : At xs j z). other) (at_changed xs k j y z at)

-- a changed element that maps to the same
pub map_same : {A B : Type 0} (f : A → B) (xs : List A) (k : ℕ) (x y : A) → At xs k x → f y ≡ f x → map f (slice_set xs k y) ≡ map f xs
map_same f [] k x y at same = refl
map_same f (z ∷ zs) zero x y at same = ap (λ w. w ∷ map f zs) (same ∙ ap f (sym (same_Some z x at)))
map_same f (z ∷ zs) (suc k) x y at same = ap (λ l. f z ∷ l) (map_same f zs k x y at same)

pub list_at_is : {A : Type 0} (xs : List (List A)) (k : ℕ) (x : List A) → At xs k x → list_at xs k ≡ x
list_at_is xs k x at = get_or_from_slice_get xs k x [] at

pub each_set : {A : Type 0} (P : A → Type 0) (xs : List A) (k : ℕ) (y : A) → AllByRecursion P xs → P y → AllByRecursion P (slice_set xs k y)
each_set P [] k y all is = tt
each_set P (x ∷ xs) zero y all is = (is, all.1)
each_set P (x ∷ xs) (suc k) y all is = (all.0, each_set P xs k y all.1 is)

starts_on : {E : Type 0} (story story' seen : List E) → StartsWith story seen → StartsWith story' story → StartsWith story' seen
starts_on story story' seen first more =
    (first.0 ++ more.0, more.1 ∙ ap (λ l. l ++ more.0) first.1 ∙ append_assoc seen first.0 more.0)

-- lists that begin so, of which one goes on
pub starts_more : {X E : Type 0} (f : X → List E) (xs : List X) (begun : ℕ → List E) (i : ℕ) (x y : X) → At xs i x → StartsWith (f y) (f x)
    → ((k : ℕ) → StartsWith (list_at (map f xs) k) (begun k)) → (k : ℕ) → StartsWith (list_at (map f (slice_set xs i y)) k) (begun k)
starts_more f [] begun i x y at more all k = absurd (none-some x at)
starts_more f (z ∷ zs) begun zero x y at more all zero =
    starts_on (f z) (f y) (begun 0) (all 0) (subst (λ w. StartsWith (f y) (f w)) (sym (same_Some z x at)) more)
starts_more f (z ∷ zs) begun zero x y at more all (suc k) = all (suc k)
starts_more f (z ∷ zs) begun (suc i) x y at more all zero = all 0
starts_more f (z ∷ zs) begun (suc i) x y at more all (suc k) = starts_more f zs (λ j. begun (suc j)) i x y at more (λ j. all (suc j)) k

-- an element that was written and read again
pub read_back : {A : Type 0} (xs : List A) (k : ℕ) (x y z : A) → At xs k x → z ≡ get_or (slice_set xs k y) k z → z ≡ y
read_back xs k x y z at read = read ∙ get_or_from_slice_get (slice_set xs k y) k y z (at_set xs k x y at)

pub mapped_at : {V B : Type 0} (f : V → B) (xs : List V) (i n : ℕ) (x : V) → length (map f xs) ≡ n → i < n → x ≡ get_or xs i x → At (map f xs) i (f x)
mapped_at f xs i n x long inside read = at_map f xs i x (at_read xs i x (omega (arith, inside, long, length-map xs f)) read)

-- a list that was lent whole and came back
pub written_back : {A : Type 0} (n : ℕ) (new old : List A) → length new ≡ n → take n (new ++ drop (length new) old) ≡ new
written_back n new old many = ap (λ k. take k (new ++ drop (length new) old)) (sym many) ∙ take-append_seam new (drop (length new) old)

-- ---- what a use records

pub held_here : (hold : OpenHold) → held_on (Some hold) hold.device ≡ Some hold.slot
held_here hold = ap (λ (b : Bool). cond b (Some hold.slot) None) (eq-eqb hold.device hold.device refl)

pub held_elsewhere : (hold : OpenHold) (device : ℕ) → device ≢ hold.device → held_on (Some hold) device ≡ None
held_elsewhere hold device other = ap (λ (b : Bool). cond b (Some hold.slot) None) (ne_eqb hold.device device (λ e. other (sym e)))

pub free_journal : (solo : SoloData) → solo.held ≡ None → journal_in solo ≡ solo.journal
free_journal solo free = ap (λ h. solo.journal ++ giving_back h) free ∙ append-nil solo.journal

-- a journal that goes on has no more events than fit
goes_on : (solo : SoloData) (more : List Event) (held : Option ℕ) (n : ℕ) → solo.held ≡ None → length (giving_back held) ≡ n → length (journal_in solo) + (length more + n) ≤ max_events
    → length (journal_in (solo_with_events solo more held)) ≤ max_events
goes_on solo more held n free back few =
    omega (arith, few, back, ap length (free_journal solo free), length-append (solo.journal ++ more) (giving_back held), length-append solo.journal more)

-- the journal of a device after a use, as it stands when its hold is given back
pub one_use : (script : Script) (i : ℕ) (solo : SoloData) (use' : Use) (more : List Event) (held : Option ℕ) (journal : List Event) → journal ≡ solo.journal → solo.count ≡ slot_count_of script i
    → more ++ giving_back held ≡ events_of_use (slots_in solo) use'
    → journal_in (solo_with_events solo more held) ≡ after_uses script i journal (record { use' = use'; units = [] } ∷ [])
one_use script i solo use' more held journal same count is =
    append_assoc solo.journal more (giving_back held)
    ∙ ap (λ l. solo.journal ++ l) (is ∙ ap (λ n. events_of_use (slots_after n solo.journal) use') count ∙ sym (append-nil (events_of_use (slots_after (slot_count_of script i) solo.journal) use')))
    ∙ ap (λ j. j ++ journal_of (slots_after (slot_count_of script i) j) (use' ∷ [])) (sym same)

pub slots_are : (script : Script) (i : ℕ) (target : Target) → At script.targets i target → slot_count_of script i ≡ target.slots
slots_are script i target at = ap (λ (o : Option Target). option_map_or (λ t. t.slots) o 0) at

pub use_of_one : (script : Script) (devices : List SoloData) (i : ℕ) (target : Target) (solo new : SoloData) (use' : Use) (more : List Event) (held : Option ℕ) → At script.targets i target → At devices i solo
    → solo.count ≡ target.slots → solo.held ≡ None → more ++ giving_back held ≡ events_of_use (slots_in solo) use' → new ≡ solo_with_events solo more held
    → map journal_in (slice_set devices i new) ≡ used_at script i use' (map journal_in devices)
use_of_one script devices i target solo new use' more held target_at solo_at count free is next =
    let journal : list_at (map journal_in devices) i ≡ solo.journal = list_at_map journal_in devices i solo solo_at ∙ free_journal solo free in
    map-set journal_in devices i new
    ∙ ap (slice_set (map journal_in devices) i)
    (ap journal_in next ∙ one_use script i solo use' more held (list_at (map journal_in devices) i) journal (count ∙ sym (slots_are script i target target_at)) is)

-- a device that a key can be taken out of, with as many slots as the script says
abbrev pub IsFree : Script → ℕ → SoloData → Type 0
IsFree script device solo = (solo.count ≡ slot_count_of script device) × (solo.held ≡ None)

pub use_of_each : (script : Script) (key : ℕ) (n : ℕ) (devices : List SoloData) → ((k : ℕ) (solo : SoloData) → At devices k solo → IsFree script (n + k) solo)
    → map journal_in (map (evicted key) devices)
    ≡ map (λ at. after_uses script at.0 at.1 (record { use' = uses.Evict (record { 0 = key }); units = [] } ∷ [])) (enumerate_from n (map journal_in devices))
use_of_each script key n [] all = refl
use_of_each script key n (solo ∷ devices) all =
    let zero_more : n + 0 ≡ n = omega arith in
    let free = subst (λ d. IsFree script d solo) zero_more (all 0 solo refl) in
    let here = one_use script n solo (uses.Evict (record { 0 = key })) (events_of_eviction (slots_in solo) key) None (journal_in solo) (free_journal solo free.1) free.0 (append-nil (events_of_eviction (slots_in solo) key)) in
    let rest = use_of_each script key (n + 1) devices (λ k other at. subst (λ d. IsFree script d other) (over n k) (all (suc k) other at)) in
    ap (λ j. j ∷ map journal_in (map (evicted key) devices)) here
    ∙ ap (λ l. after_uses script n (journal_in solo) (record { use' = uses.Evict (record { 0 = key }); units = [] } ∷ []) ∷ l) rest
  where
    over : (n k : ℕ) → n + suc k ≡ n + 1 + k
    over n k = omega arith

-- ---- holds

-- giving back a hold takes no key out of its slot
pub holds_idle : (count : ℕ) (journal : List Event) (key slot event idle : ℕ) → Holds count journal key slot event → Holds count (journal ++ events.Idle idle ∷ []) key slot event
holds_idle count journal key slot event idle holds = record {
  last = last_push key journal (events.Idle idle) ∙ holds.last;
  has_key = ap (λ s. key_of s slot) (slots_push count journal (events.Idle idle)) ∙ holds.has_key;
}

as_many : (s : Slots) (journal : List Event) → length (after_events s journal).keys ≡ length s.keys
as_many s [] = refl
as_many s (e ∷ es) = as_many (after_event s e) es ∙ same_count s e

pub held_inside : (count : ℕ) (journal : List Event) (key slot event : ℕ) → Holds count journal key slot event → slot < count
held_inside count journal key slot event holds =
    let inside = key_inside (slots_after count journal).keys slot key holds.has_key in
    let many = as_many (opening count) journal ∙ length-replicate {A = Option ℕ} count None in
    omega (arith, inside, many)

-- ---- the numbers of events

events_on : (solo : SoloData) (more : List Event) (held : Option ℕ) → solo.held ≡ None → Each IsEvent (journal_in solo) → Each IsEvent more → Each IsEvent (giving_back held)
    → Each IsEvent (journal_in (solo_with_events solo more held))
events_on solo more held free before new back =
    all_append IsEvent (solo.journal ++ more) (giving_back held) (all_append IsEvent solo.journal more (subst (Each IsEvent) (free_journal solo free) before) new) back

few_slots : (script : Script) (target : Target) (i n : ℕ) → IsScript script → At script.targets i target → n ≡ target.slots → n ≤ 32
few_slots script target i n rules at is = let most = (all_slice IsDevice script.targets i target rules.devices.each at).slots.most in omega (arith, most, is)

pub small_slot : (script : Script) (target : Target) (i n slot : ℕ) → IsScript script → At script.targets i target → n ≡ target.slots → slot < n → slot < 2 ^ 16
small_slot script target i n slot rules at is inside = let few = few_slots script target i n rules at is in let small : slot < 65536 = omega (arith, few, inside) in small

pub small_key : (script : Script) (key : ℕ) → IsScript script → key < length (keys_of script) → key < 2 ^ 16
small_key script key rules inside =
    let few : length script.keys ≤ 4096 = rules.keys.count in
    let many : length (keys_of script) ≡ length script.keys = length-map script.keys (λ named. named.key) in
    let small : key < 65536 = omega (arith, few, many, inside) in
    small

evict_events : (script : Script) (target : Target) (solo : SoloData) (i key : ℕ) → IsScript script → At script.targets i target → solo.count ≡ target.slots → key < 2 ^ 16
    → (o : Option ℕ) → slot_with (slots_in solo) key ≡ o → Each IsEvent (option_map_or (λ slot. events.Evict slot key ∷ []) o [])
evict_events script target solo i key rules at count small None is = tt
evict_events script target solo i key rules at count small (Some slot) is =
    let has = slot_has key (slots_in solo).keys slot is in
    let many = as_many (opening solo.count) solo.journal ∙ length-replicate {A = Option ℕ} solo.count None in
    ((small_slot script target i solo.count slot rules at count (let inside = has.0 in omega (arith, inside, many)), small), tt)

-- the events of a hold: their slot is that of the hold
pub hold_events : (slots : Slots) (key slot : ℕ) → slot ≡ slot_for slots key → slot < 2 ^ 16 → key < 2 ^ 16 → Each IsEvent (events_of_hold slots key)
hold_events slots key slot is small_slot small = by_slot (slot_with slots key) is
  where
    by_slot : (o : Option ℕ) → slot ≡ unwrap_or o (first_idle slots) → Each IsEvent (cond (is_some o) [] (events.Program (first_idle slots) key [] ∷ []))
    by_slot (Some other) same = tt
    by_slot None same = ((subst (λ n. n < 2 ^ 16) same small_slot, small, (omega arith, tt)), tt)

-- and there is one at most
pub few_of_hold : (slots : Slots) (key : ℕ) → length (events_of_hold slots key) ≤ 1
few_of_hold slots key = by_slot (slot_with slots key)
  where
    by_slot : (o : Option ℕ) → length (cond (is_some o) [] (events.Program (first_idle slots) key [] ∷ [])) ≤ 1
    by_slot (Some other) = omega arith
    by_slot None = omega arith

-- ---- events that may come

each_append : (s : Slots) (journal more : List Event) → EachEvent Allowed s journal → EachEvent Allowed (after_events s journal) more → EachEvent Allowed s (journal ++ more)
each_append s [] more before next = next
each_append s (e ∷ es) more before next = (before.0, each_append (after_event s e) es more before.1 next)

lawful_on : (solo : SoloData) (more : List Event) (held : Option ℕ) → solo.held ≡ None → IsLawful solo.count (journal_in solo) → EachEvent Allowed (slots_in solo) (more ++ giving_back held)
    → IsLawful solo.count (journal_in (solo_with_events solo more held))
lawful_on solo more held free before next =
    subst (IsLawful solo.count) (sym (append_assoc solo.journal more (giving_back held)))
    (each_append (opening solo.count) solo.journal (more ++ giving_back held) (subst (IsLawful solo.count) (free_journal solo free) before) next)

-- none comes before the first
none_first : (order : List ℕ) → [] ≡ take_while (λ other. not (other == get_or order 0 0)) order
none_first [] = refl
none_first (x ∷ xs) =
    sym (take_while-cons (λ other. not (other == x)) x xs ∙ ap (λ (b : Bool). cond (not b) (x ∷ take_while (λ other. not (other == x)) xs) []) (eq-eqb x x refl))

eviction_allowed : (slots : Slots) (key : ℕ) → EachEvent Allowed slots (events_of_eviction slots key ++ [])
eviction_allowed slots key = by_slot (slot_with slots key) refl
  where
    by_slot : (o : Option ℕ) → slot_with slots key ≡ o → EachEvent Allowed slots (option_map_or (λ slot. events.Evict slot key ∷ []) o [] ++ [])
    by_slot None is = tt
    by_slot (Some slot) is = ((slot_has key slots.keys slot is).1, tt)

-- a hold's events may come: its slot is programmed first, where no slot has the key
pub hold_allowed : (solo : SoloData) (key slot : ℕ) → slot ≡ slot_for (slots_in solo) key → slot < solo.count → EachEvent Allowed (slots_in solo) (events_of_hold (slots_in solo) key ++ events.Idle slot ∷ [])
hold_allowed solo key slot is inside = by_slot (slot_with slots key) refl is
  where
    slots : Slots
    slots = slots_in solo

    is_slot : slot < length slots.keys
    is_slot = let many = as_many (opening solo.count) solo.journal ∙ length-replicate {A = Option ℕ} solo.count None in omega (arith, inside, many)

    by_slot : (o : Option ℕ) → slot_with slots key ≡ o → slot ≡ unwrap_or o (first_idle slots)
        → EachEvent Allowed slots (cond (is_some o) [] (events.Program (first_idle slots) key [] ∷ []) ++ events.Idle slot ∷ [])
    by_slot (Some other) found same = (is_slot, tt)
    by_slot None none same = (
      record {
        is_slot = subst (λ n. n < length slots.keys) same is_slot;
        key_in_no_slot = in_no_slot key slots.keys none;
        skips_those_before = none_first (idle_order slots);
        found_held = λ k d less. absurd (omega (arith, less));
      },
      (subst (λ n. slot < n) (sym (length-set slots.keys (first_idle slots) (Some key))) is_slot, tt),
    )

-- ---- what the calls keep

-- a device and a key of the script
pub record Chosen (script : Script) (devices : List SoloData) (i key : ℕ) (solo : SoloData) : Type 0 where
  pub solo_at : At devices i solo
  pub target : Target
  pub target_at : At script.targets i target
  pub of : IsKeyslotsOf script None i target solo
  pub k : KeyData
  pub is_key : slice_get (keys_of script) key ≡ Some k
  pub valid : IsValid k.config k.raw

valid_key : (script : Script) (key : ℕ) (k : KeyData) → IsScript script → slice_get (keys_of script) key ≡ Some k → IsValid k.config k.raw
valid_key script key k rules is_key =
    let named = at_of_map (λ (n : NamedKey). n.key) script.keys key k is_key in
    subst (λ (z : KeyData). IsValid z.config z.raw) named.2 (all_slice IsNamedKey script.keys key named.0 rules.keys.each named.1).valid

module _ (script : Script) (stack : StackParts) (caps : List Capabilities) (devices : List SoloData) (ciphers : List (List (Option SlotCipherData))) (begun : List SoloData) where
  -- a device of the script
  pub device_of : (opened : Option OpenHold) (i : ℕ) (solo : SoloData) → IsKeyslots script stack caps devices ciphers begun opened → At devices i solo
      → (target : Target) × At script.targets i target × IsKeyslotsOf script opened i target solo
  device_of opened i solo is at =
      let below = at_below devices i solo at in
      let target = at_exists script.targets i (omega (arith, below, is.count)) in
      (target.0, target.1, is.each i target.0 target.1 solo at)

  pub next_each : (opened opened' : Option OpenHold) (i : ℕ) (solo : SoloData) (more : List Event) (held : Option ℕ) → At devices i solo → held ≡ held_on opened' i → length (journal_in (solo_with_events solo more held)) ≤ max_events → Each IsEvent (journal_in (solo_with_events solo more held))
      → IsLawful solo.count (journal_in (solo_with_events solo more held)) → ((k : ℕ) → k ≢ i → held_on opened' k ≡ held_on opened k)
      → ((k : ℕ) → AllAt script.targets k (λ t. AllAt devices k (IsKeyslotsOf script opened k t)))
      → (k : ℕ) → AllAt script.targets k (λ t. AllAt (slice_set devices i (solo_with_events solo more held)) k (IsKeyslotsOf script opened' k t))
  next_each opened opened' i solo more held solo_at here within ranges lawful others each k target target_at s s_at =
      ⊎_elim
      (λ (same : k ≡ i).
      let old = each k target target_at solo (subst (λ j. At devices j solo) (sym same) solo_at) in
      let new : solo_with_events solo more held ≡ s =
      at_one (slice_set devices i (solo_with_events solo more held)) i (solo_with_events solo more held) s (at_set devices i solo (solo_with_events solo more held) solo_at) (subst (λ j. At (slice_set devices i (solo_with_events solo more held)) j s) same s_at) in
      subst (IsKeyslotsOf script opened' k target) new (record { count = old.count; rows = old.rows; quota = old.quota; held = here ∙ ap (held_on opened') (sym same); within = within; ranges = ranges; lawful = lawful }))
      (λ (other : k ≢ i).
      let old = each k target target_at s (at_other devices i k (solo_with_events solo more held) s other s_at) in
      record { count = old.count; rows = old.rows; quota = old.quota; held = old.held ∙ sym (others k other); within = old.within; ranges = old.ranges; lawful = old.lawful })
      (cases_eq k i)

  -- the open hold is given back
  module _ (hold : OpenHold) (solo : SoloData) (is : IsKeyslots script stack caps devices ciphers begun (Some hold)) (solo_at : At devices hold.device solo) where
    pub held_is : solo.held ≡ Some hold.slot
    held_is = (device_of (Some hold) hold.device solo is solo_at).2.held ∙ held_here hold

    put_journal : journal_in (solo_with_events solo (events.Idle hold.slot ∷ []) None) ≡ journal_in solo
    put_journal = append-nil (solo.journal ++ events.Idle hold.slot ∷ []) ∙ ap (λ h. solo.journal ++ giving_back h) (sym held_is)

    pub put_journals : (new : SoloData) → new ≡ solo_with_events solo (events.Idle hold.slot ∷ []) None → map journal_in (slice_set devices hold.device new) ≡ map journal_in devices
    put_journals new next =
        map_same journal_in devices hold.device solo new solo_at
        (ap journal_in next ∙ put_journal)

    pub put_keeps : (new : SoloData) → new ≡ solo_with_events solo (events.Idle hold.slot ∷ []) None → IsKeyslots script stack caps (slice_set devices hold.device new) ciphers begun None
    put_keeps new next = record {
      rules = is.rules;
      stack_is = is.stack_is;
      caps_are = is.caps_are;
      count = length-set devices hold.device new ∙ is.count;
      each = subst (λ s. (k : ℕ) → AllAt script.targets k (λ t. AllAt (slice_set devices hold.device s) k (IsKeyslotsOf script None k t))) (sym next)
          (next_each (Some hold) None hold.device solo (events.Idle hold.slot ∷ []) None solo_at refl
          (subst (λ j. length j ≤ max_events) (sym put_journal) (device_of (Some hold) hold.device solo is solo_at).2.within)
          (subst (Each IsEvent) (sym put_journal) (device_of (Some hold) hold.device solo is solo_at).2.ranges)
          (subst (IsLawful solo.count) (sym put_journal) (device_of (Some hold) hold.device solo is solo_at).2.lawful) (λ k other. sym (held_elsewhere hold k other)) is.each);
      cipher_count = is.cipher_count;
      each_ciphers = is.each_ciphers;
      begun_count = is.begun_count ∙ sym (length-set devices hold.device new);
      begins = subst (λ l. (k : ℕ) → StartsWith (list_at l k) (list_at (map journal_in begun) k)) (sym (put_journals new next)) is.begins;
      open_is = tt;
    }

  module _ (is : IsKeyslots script stack caps devices ciphers begun None) where
    -- no hold is open
    pub free_is : (i : ℕ) (solo : SoloData) → At devices i solo → solo.held ≡ None
    free_is i solo at = (device_of None i solo is at).2.held

    pub chosen : (i key : ℕ) (solo : SoloData) → i < length script.targets → key < length (keys_of script) → solo ≡ get_or devices i solo → Chosen script devices i key solo
    chosen i key solo inside named read =
        let at = at_read devices i solo (let many = is.count in omega (arith, inside, many)) read in
        let of = device_of None i solo is at in
        let k = at_exists (keys_of script) key named in record {
          solo_at = at;
          target = of.0;
          target_at = of.1;
          of = of.2;
          k = k.0;
          is_key = k.1;
          valid = valid_key script key k.0 is.rules k.1;
        }

    pub has_row : (i key : ℕ) (solo : SoloData) → Chosen script devices i key solo → key < length (keys_of script) → key < length solo.rows
    has_row i key solo it inside =
        let rows : length solo.rows ≡ length (keys_of script) = ap length it.of.rows ∙ length-map (keys_of script) (row_of_key (capabilities_of it.target.caps)) in
        omega (arith, inside, rows)

    pub caps_is : (i : ℕ) (target : Target) (cap : Capabilities) → At script.targets i target → cap ≡ get_or caps i cap → cap ≡ capabilities_of target.caps
    caps_is i target cap target_at read =
        read ∙ get_or_from_slice_get caps i (capabilities_of target.caps) cap
        (subst (λ l. At l i (capabilities_of target.caps)) (sym is.caps_are) (at_map (λ (t : Target). capabilities_of t.caps) script.targets i target target_at))

    -- the room that is left of a device's journal
    pub has_spare : (i n : ℕ) (solo : SoloData) → At devices i solo → length (list_at (map journal_in devices) i) + n ≤ max_events → HasSpare solo n
    has_spare i n solo at room =
        let journal : length (list_at (map journal_in devices) i) ≡ length solo.journal = ap length (list_at_map journal_in devices i solo at ∙ free_journal solo (free_is i solo at)) in
        let quota = (device_of None i solo is at).2.quota in
        omega (arith, journal, room, quota)

    -- a key may be taken out of each device
    pub may_evict : (key : ℕ) → key < length (keys_of script) → ((i : ℕ) → i < length script.targets → length (list_at (map journal_in devices) i) + 1 ≤ max_events) → Each (MayEvict key) devices
    may_evict key inside room = all_by_place (MayEvict key) devices (λ k solo at.
        let of = device_of None k solo is at in
        let below = at_below script.targets k of.0 of.1 in record {
          free = of.2.held;
          row =
              let rows : length solo.rows ≡ length (keys_of script) = ap length of.2.rows ∙ length-map (keys_of script) (row_of_key (capabilities_of of.0.caps)) in
              omega (arith, inside, rows);
          spare = has_spare k 1 solo at (room k below);
        })

    pub evict_uses : (key : ℕ) → map journal_in (map (evicted key) devices) ≡ used_each script (uses.Evict (record { 0 = key })) (map journal_in devices)
    evict_uses key = use_of_each script key 0 devices (λ k solo at.
        let of = device_of None k solo is at in
        let none_before : k ≡ 0 + k = omega arith in
        subst (λ d. IsFree script d solo) none_before (of.2.count ∙ sym (slots_are script k of.0 of.1), of.2.held))

    -- a section begins
    pub begin_keeps : IsKeyslots script stack caps devices ciphers devices None
    begin_keeps = record {
      rules = is.rules;
      stack_is = is.stack_is;
      caps_are = is.caps_are;
      count = is.count;
      each = is.each;
      cipher_count = is.cipher_count;
      each_ciphers = is.each_ciphers;
      begun_count = refl;
      begins = λ k. ([], sym (append-nil (list_at (map journal_in devices) k)));
      open_is = tt;
    }

    -- a device recorded events, and holds no slot
    pub next_keeps : (i : ℕ) (solo new : SoloData) (more : List Event) → At devices i solo → new ≡ solo_with_events solo more None → length (journal_in solo) + (length more + 0) ≤ max_events → Each IsEvent more
        → EachEvent Allowed (slots_in solo) (more ++ []) → IsKeyslots script stack caps (slice_set devices i new) ciphers begun None
    next_keeps i solo new more at next few ranges allowed = record {
      rules = is.rules;
      stack_is = is.stack_is;
      caps_are = is.caps_are;
      count = length-set devices i new ∙ is.count;
      each = subst (λ s. (k : ℕ) → AllAt script.targets k (λ t. AllAt (slice_set devices i s) k (IsKeyslotsOf script None k t))) (sym next)
          (next_each None None i solo more None at refl (goes_on solo more None 0 (free_is i solo at) refl few)
          (events_on solo more None (free_is i solo at) (device_of None i solo is at).2.ranges ranges tt)
          (lawful_on solo more None (free_is i solo at) (device_of None i solo is at).2.lawful allowed) (λ k other. refl) is.each);
      cipher_count = is.cipher_count;
      each_ciphers = is.each_ciphers;
      begun_count = is.begun_count ∙ sym (length-set devices i new);
      begins = starts_more journal_in devices (λ k. list_at (map journal_in begun) k) i solo new at
          (more, ap journal_in next ∙ append-nil (solo.journal ++ more) ∙ ap (λ j. j ++ more) (sym (free_journal solo (free_is i solo at)))) is.begins;
      open_is = tt;
    }

    -- a hold is taken: the slot's cipher is the key's
    pub hold_keeps : (i key slot event : ℕ) (target : Target) (solo new : SoloData) (more : List Event) (kept : List (Option SlotCipherData)) (cipher : Option SlotCipherData) (k : KeyData)
        → At script.targets i target → At devices i solo → At ciphers i kept → slot < length kept → new ≡ solo_with_events solo more (Some slot) → length (journal_in solo) + (length more + 1) ≤ max_events → Each IsEvent more → slot < 2 ^ 16
        → EachEvent Allowed (slots_in solo) (more ++ events.Idle slot ∷ [])
        → MeansItsWords (capabilities_of target.caps) cipher → slice_get (keys_of script) key ≡ Some k → Holds new.count new.journal key slot event
        → IsSomeAnd cipher (λ c. c.parts ≡ parts_of k)
        → IsKeyslots script stack caps (slice_set devices i new) (slice_set ciphers i (slice_set kept slot cipher)) begun (Some (record { device = i; key = key; slot = slot; event = event }))
    hold_keeps i key slot event target solo new more kept cipher k target_at solo_at kept_at inside next few ranges small allowed keeps is_key holds parts = record {
      rules = is.rules;
      stack_is = is.stack_is;
      caps_are = is.caps_are;
      count = length-set devices i new ∙ is.count;
      each = subst (λ s. (k : ℕ) → AllAt script.targets k (λ t. AllAt (slice_set devices i s) k (IsKeyslotsOf script (Some hold) k t))) (sym next)
          (next_each None (Some hold) i solo more (Some slot) solo_at (sym (held_here hold)) (goes_on solo more (Some slot) 1 (free_is i solo solo_at) refl few)
          (events_on solo more (Some slot) (free_is i solo solo_at) (device_of None i solo is solo_at).2.ranges ranges (small, tt))
          (lawful_on solo more (Some slot) (free_is i solo solo_at) (device_of None i solo is solo_at).2.lawful allowed) (λ k other. held_elsewhere hold k other) is.each);
      cipher_count = length-set ciphers i (slice_set kept slot cipher) ∙ is.cipher_count;
      each_ciphers = next_ciphers;
      begun_count = is.begun_count ∙ sym (length-set devices i new);
      begins = starts_more journal_in devices (λ k. list_at (map journal_in begun) k) i solo new solo_at
          (more ++ events.Idle slot ∷ [], ap journal_in next ∙ append_assoc solo.journal more (events.Idle slot ∷ []) ∙ ap (λ j. j ++ (more ++ events.Idle slot ∷ [])) (sym (free_journal solo (free_is i solo solo_at)))) is.begins;
      open_is = opens cipher refl parts;
    }
      where
        hold : OpenHold
        hold = record { device = i; key = key; slot = slot; event = event }

        next_ciphers : (j : ℕ) → AllAt script.targets j (λ t. AllAt (slice_set ciphers i (slice_set kept slot cipher)) j (λ l. (length l ≡ t.slots) × Each (MeansItsWords (capabilities_of t.caps)) l))
        next_ciphers j t t_at l l_at =
            ⊎_elim
            (λ (same : j ≡ i).
            let new : slice_set kept slot cipher ≡ l =
            at_one (slice_set ciphers i (slice_set kept slot cipher)) i (slice_set kept slot cipher) l (at_set ciphers i kept (slice_set kept slot cipher) kept_at) (subst (λ n. At (slice_set ciphers i (slice_set kept slot cipher)) n l) same l_at) in
            let t_is : target ≡ t = at_one script.targets i target t target_at (subst (λ n. At script.targets n t) same t_at) in
            let old = is.each_ciphers i target target_at kept kept_at in
            subst (λ z. (length z ≡ t.slots) × Each (MeansItsWords (capabilities_of t.caps)) z) new
            (subst (λ (z : Target). (length (slice_set kept slot cipher) ≡ z.slots) × Each (MeansItsWords (capabilities_of z.caps)) (slice_set kept slot cipher)) t_is
            (length-set kept slot cipher ∙ old.0, each_set (MeansItsWords (capabilities_of target.caps)) kept slot cipher old.1 keeps)))
            (λ (other : j ≢ i). is.each_ciphers j t t_at l (at_other ciphers i j (slice_set kept slot cipher) l other l_at))
            (cases_eq j i)

        opens : (c : Option SlotCipherData) → cipher ≡ c → IsSomeAnd c (λ d. d.parts ≡ parts_of k)
            → IsOpenHold script (slice_set devices i new) (slice_set ciphers i (slice_set kept slot cipher)) hold
        opens None same none = absurd none
        opens (Some d) same has = record {
          key = k;
          is_key = is_key;
          solo = new;
          solo_at = at_set devices i solo new solo_at;
          holds = holds;
          kept = d;
          kept_at =
              let was = at_exists kept slot inside in
              ap (λ l. slice_get l slot) (list_at_is (slice_set ciphers i (slice_set kept slot cipher)) i (slice_set kept slot cipher) (at_set ciphers i kept (slice_set kept slot cipher) kept_at))
              ∙ at_set kept slot was.0 cipher was.1 ∙ ap (λ o. Some o) same;
          cipher = has;
        }

    -- a key is taken out of each device
    pub evict_keeps : (key : ℕ) (devices' : List SoloData) → devices' ≡ map (evicted key) devices → ((i : ℕ) (solo : SoloData) → At devices i solo → length (journal_in solo) + 1 ≤ max_events) → key < 2 ^ 16 → IsKeyslots script stack caps devices' ciphers begun None
    evict_keeps key devices' next few small = subst (λ l. IsKeyslots script stack caps l ciphers begun None) (sym next) (record {
      rules = is.rules;
      stack_is = is.stack_is;
      caps_are = is.caps_are;
      count = length-map devices (evicted key) ∙ is.count;
      each = λ k target target_at s s_at.
          let old = of_map devices k s s_at in
          let it = is.each k target target_at old.0 old.1 in
          subst (IsKeyslotsOf script None k target) old.2 (record { count = it.count; rows = it.rows; quota = it.quota; held = refl; within = within k old.0 old.1; ranges = ranges k target target_at old.0 old.1; lawful = lawful k target target_at old.0 old.1 });
      cipher_count = is.cipher_count;
      each_ciphers = is.each_ciphers;
      begun_count = is.begun_count ∙ sym (length-map devices (evicted key));
      begins = λ k. starts_all devices (λ j solo at. free_is j solo at) (λ j. list_at (map journal_in begun) j) is.begins k;
      open_is = tt;
    })
      where
        within : (i : ℕ) (solo : SoloData) → At devices i solo → length (journal_in (evicted key solo)) ≤ max_events
        within i solo at =
            let room = few i solo at in
            let one = one_event (slot_with (slots_in solo) key) in
            goes_on solo (events_of_eviction (slots_in solo) key) None 0 (free_is i solo at) refl (omega (arith, room, one))
          where
            one_event : (o : Option ℕ) → length (option_map_or (λ slot. events.Evict slot key ∷ []) o []) ≤ 1
            one_event None = omega arith
            one_event (Some slot) = omega arith

        ranges : (i : ℕ) (target : Target) → At script.targets i target → (solo : SoloData) → At devices i solo → Each IsEvent (journal_in (evicted key solo))
        ranges i target target_at solo at =
            events_on solo (events_of_eviction (slots_in solo) key) None (free_is i solo at) (is.each i target target_at solo at).ranges
            (evict_events script target solo i key is.rules target_at (is.each i target target_at solo at).count small (slot_with (slots_in solo) key) refl) tt

        lawful : (i : ℕ) (target : Target) → At script.targets i target → (solo : SoloData) → At devices i solo → IsLawful solo.count (journal_in (evicted key solo))
        lawful i target target_at solo at =
            lawful_on solo (events_of_eviction (slots_in solo) key) None (free_is i solo at) (is.each i target target_at solo at).lawful (eviction_allowed (slots_in solo) key)

        of_map : (xs : List SoloData) (k : ℕ) (s : SoloData) → At (map (evicted key) xs) k s → (x : SoloData) × At xs k x × (evicted key x ≡ s)
        of_map [] k s at = absurd (none-some s at)
        of_map (x ∷ xs) zero s at = (x, refl, same_Some (evicted key x) s at)
        of_map (x ∷ xs) (suc k) s at = of_map xs k s at

        starts_all : (xs : List SoloData) → ((j : ℕ) (solo : SoloData) → At xs j solo → solo.held ≡ None) → (seen : ℕ → List Event)
            → ((k : ℕ) → StartsWith (list_at (map journal_in xs) k) (seen k)) → (k : ℕ) → StartsWith (list_at (map journal_in (map (evicted key) xs)) k) (seen k)
        starts_all [] free seen all k = all k
        starts_all (x ∷ xs) free seen all zero =
            starts_on (journal_in x) (journal_in (evicted key x)) (seen 0) (all 0) (
              events_of_eviction (slots_in x) key,
              append-nil (x.journal ++ events_of_eviction (slots_in x) key) ∙ ap (λ j. j ++ events_of_eviction (slots_in x) key) (sym (free_journal x (free 0 x refl))),
            )
        starts_all (x ∷ xs) free seen all (suc k) = starts_all xs (λ j. free (suc j)) (λ j. seen (suc j)) (λ j. all (suc j)) k

-- ---- one more device of a list

pub one_evicted : (key i : ℕ) (all devices : List SoloData) (solo : SoloData) → i < length all → devices ≡ map (evicted key) (take i all) ++ drop i all → solo ≡ get_or devices i solo
    → slice_set devices i (evicted key solo) ≡ map (evicted key) (take (i + 1) all) ++ drop (i + 1) all
one_evicted key i all devices solo inside is read =
    ap (λ l. slice_set l i (evicted key solo)) is ∙ go i all inside (read ∙ ap (λ l. get_or l i solo) is)
  where
    go : (i : ℕ) (all : List SoloData) → i < length all → solo ≡ get_or (map (evicted key) (take i all) ++ drop i all) i solo
        → slice_set (map (evicted key) (take i all) ++ drop i all) i (evicted key solo) ≡ map (evicted key) (take (i + 1) all) ++ drop (i + 1) all
    go i [] inside read = absurd (omega arith)
    go zero (x ∷ xs) inside read = ap (λ s. evicted key s ∷ xs) read
    go (suc i) (x ∷ xs) inside read =
        let e : suc i + 1 ≡ suc (i + 1) = omega arith in
        ap (λ l. evicted key x ∷ l) (go i xs (omega arith) read) ∙ ap (λ n. map (evicted key) (take n (x ∷ xs)) ++ drop n (x ∷ xs)) (sym e)
