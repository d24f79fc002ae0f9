-- A disk that is taken apart, and closed.
use Rattle.std.proofs.Common.{◌≡◌, ℕ, zero, suc, ◌+◌, ◌<◌, Bool, true, false, List, [], ◌∷◌, ◌++◌, map, length, replicate, refl, sym, ap, ap₂, ◌∙◌, subst, arith, Option, Some, None, append_assoc, append-nil, length-append}
use Rattle.std.specs.Prelude.{slice_get, ◌==◌, ◌||◌}
use Rattle.std.specs.List.{AllZip, cons_option, fold, list_any, range_with_len}
use Rattle.std.proofs.lemmas.List.{map-append, reverse-append, length-reverse}
use Rattle.std.proofs.lemmas.Option.{none-some, same_Some}
use mathlib.Core.List.{reverse}
use Rattle.bc_base.specs.Lists.{Each, EachFrom, At}
use Rattle.bc_base.specs.Sectors.{Sectors}
use Rattle.bc_base.specs.Stores.{StoreCalls}
use Rattle.bc_base.proofs.Lists.{each_at, at_one}
use Rattle.bc_turn.specs.PassParts.{Pass, is_caller}
use Rattle.bc_turn.specs.Turning.{one_if, sum_of}
use Rattle.bc_medium.specs.declared.entry.Entry.{Entry}
use Rattle.bc_medium.specs.Medium.{Belongs, EachTwoFrom, IsEnd, MediumData, OpeningData, shards_of}
use Rattle.bc_profile.specs.declared.event.Event.{Event}
use Rattle.bc_profile.specs.declared.noted.Noted.{Noted}
use Rattle.bc_profile.specs.Story.{events_of}
use Rattle.bc_profile.specs.Passes.{IsClosedStory as IsEndOfSlots, IsFree, SlotFacts, IsOf}
use Rattle.bc_ufs.specs.Controllers.{ControllerData}
use Rattle.bc_disk.specs.Disks.{DiskData, IsDisk, IsPassOf, PassData}
use Rattle.bc_disk.specs.Dealing.{dealt}
use Rattle.bc_disk.specs.Closings.{AreAllPasses, IsClosedDisk, IsJournalOf, IsOpenDevice, IsSplit, OpenDeviceData, SplitData, devices_with, passes_on}
use Rattle.bc_base.proofs.Members.{zip_length}

-- ---- places

zip_there : {X Y : Type 0} (R : X → Y → Type 0) (xs : List X) (ys : List Y) (k : ℕ) (x : X) → AllZip R xs ys → At xs k x → (y : Y) × At ys k y × R x y
zip_there R [] ys k x all at = absurd (none-some x at)
zip_there R (z ∷ xs) [] k x all at = absurd all
zip_there R (z ∷ xs) (y ∷ ys) zero x all at = (y, refl, subst (λ w. R w y) (same_Some z x at) all.0)
zip_there R (z ∷ xs) (y ∷ ys) (suc k) x all at = zip_there R xs ys k x all.1 at

each_from_at : {A : Type 0} (P : ℕ → A → Type 0) (first : ℕ) (xs : List A) (k : ℕ) (x : A) → EachFrom P first xs → At xs k x → P (first + k) x
each_from_at P first [] k x each at = absurd (none-some x at)
each_from_at P first (y ∷ xs) zero x each at = let z : first ≡ first + 0 = omega arith in subst (λ n. P n x) z (subst (P first) (same_Some y x at) each.0)
each_from_at P first (y ∷ xs) (suc k) x each at = let z : first + 1 + k ≡ first + suc k = omega arith in subst (λ n. P n x) z (each_from_at P (first + 1) xs k x each.1 at)

each_from_more : {A : Type 0} (P : ℕ → A → Type 0) (first : ℕ) (xs : List A) (x : A) → EachFrom P first xs → P (first + length xs) x → EachFrom P first (xs ++ x ∷ [])
each_from_more P first [] x each is = ((let z : first + 0 ≡ first = omega arith in subst (λ n. P n x) z is), tt)
each_from_more P first (y ∷ xs) x each is = (each.0, each_from_more P (first + 1) xs x each.1 (let z : first + suc (length xs) ≡ first + 1 + length xs = omega arith in subst (λ n. P n x) z is))

-- one more of a mapped list, from its first place on
pub each_from_push : {V A : Type 0} (P : ℕ → A → Type 0) (items : V → A) (xs xs' : List V) (x : V) → xs' ≡ xs ++ x ∷ [] → EachFrom P 0 (map items xs) → P (length xs) (items x) → EachFrom P 0 (map items xs')
each_from_push P items xs xs' x push each is =
    subst (EachFrom P 0) (sym (ap (map items) push ∙ map-append items xs (x ∷ [])))
    (each_from_more P 0 (map items xs) (items x) each (let z : length xs ≡ 0 + length (map items xs) = (let e = length_map items xs in omega (arith, e)) in subst (λ n. P n (items x)) z is))
  where
    length_map : {V A : Type 0} (f : V → A) (xs : List V) → length (map f xs) ≡ length xs
    length_map f [] = refl
    length_map f (x ∷ xs) = ap suc (length_map f xs)

-- ---- what is left when all is closed

two_map : {A V C : Type 0} (P : ℕ → A → C → Type 0) (items : V → C) (first : ℕ) (xs : List A) (ys : List V) → EachTwoFrom (λ k x y. P k x (items y)) first xs ys → EachTwoFrom P first xs (map items ys)
two_map P items first [] [] each = tt
two_map P items first [] (y ∷ ys) each = absurd each
two_map P items first (x ∷ xs) [] each = absurd each
two_map P items first (x ∷ xs) (y ∷ ys) each = (each.0, two_map P items (first + 1) xs ys each.1)

pub all_closed : {S V : Type 0} (owns : S → ℕ → Bool) (contents : S → Option Sectors) (told : S → Option StoreCalls) (faults : S → ℕ) (disk : DiskData S) (passes : List (PassData S)) (medium : MediumData S) (units : List (Pass Entry (OpeningData S))) (stores : List S) (items : V → List Entry) (orders : List V) (journals : List (List Event))
    → medium ≡ disk.queue.medium → units ≡ map (λ pass. pass.units) passes → length stores ≡ shards_of medium → EachTwoFrom (λ shard store order. IsEnd owns contents told faults medium units shard store (items order)) 0 stores orders
    → length journals ≡ length disk.queue.controllers → EachFrom (IsJournalOf disk passes) 0 journals → IsClosedDisk owns contents told faults disk passes stores (map items orders) journals
all_closed {S} owns contents told faults disk passes medium units stores items orders journals medium_is units_is count ends one_for_each each = record {
  count = count ∙ ap (λ (m : MediumData S). shards_of m) medium_is;
  ends = subst (λ us. EachTwoFrom (IsEnd owns contents told faults disk.queue.medium us) 0 stores (map items orders)) units_is
      (subst (λ m. EachTwoFrom (IsEnd owns contents told faults m units) 0 stores (map items orders)) medium_is
      (two_map (IsEnd owns contents told faults medium units) items 0 stores orders ends));
  one_for_each = one_for_each;
  stories = λ device controller there journal at. let z : 0 + device ≡ device = omega arith in subst (λ n. IsJournalOf disk passes n journal) z (each_from_at (IsJournalOf disk passes) 0 journals device journal each at) controller there;
}

-- ---- taking apart

abbrev appended : {A : Type 0} → List (List A) → List (List A) → List (List A)
appended [] others = []
appended (list ∷ lists) [] = list ∷ lists
appended (list ∷ lists) (other ∷ others) = (list ++ other) ∷ appended lists others

pub length_dealt : {A : Type 0} (lists : List (List A)) (row : List A) → length (dealt lists row) ≡ length lists
length_dealt [] row = refl
length_dealt (list ∷ lists) [] = refl
length_dealt (list ∷ lists) (x ∷ row) = ap suc (length_dealt lists row)

appended_none : {A : Type 0} (f : ℕ → List A) (first : ℕ) (lists : List (List A)) → ((k : ℕ) → f k ≡ []) → lists ≡ appended lists (map f (range_with_len first (length lists)))
appended_none f first [] none = refl
appended_none f first (list ∷ lists) none = ap₂ (λ z zs. z ∷ zs) (sym (ap (λ l. list ++ l) (none first) ∙ append-nil list)) (appended_none f (first + 1) lists none)

appended_dealt : {A : Type 0} (f : ℕ → List A) (slots : List A) (first : ℕ) (lists : List (List A)) (row : List A) → length row ≡ length lists → ((k : ℕ) → slice_get row k ≡ slice_get slots (first + k))
    → appended (dealt lists row) (map f (range_with_len first (length lists))) ≡ appended lists (map (λ d. cons_option (slice_get slots d) (f d)) (range_with_len first (length lists)))
appended_dealt f slots first [] row long same = refl
appended_dealt f slots first (list ∷ lists) [] long same = absurd (omega (arith, long))
appended_dealt f slots first (list ∷ lists) (x ∷ row) long same =
    let z : first + 0 ≡ first = omega arith in
    let here : Some x ≡ slice_get slots first = same 0 ∙ ap (slice_get slots) z in
    ap₂ (λ w ws. w ∷ ws) (append_assoc list (x ∷ []) (f first) ∙ ap (λ o. list ++ cons_option o (f first)) here)
    (appended_dealt f slots (first + 1) lists row (omega (arith, long)) (λ k. same (suc k) ∙ (let e : first + suc k ≡ first + 1 + k = omega arith in ap (slice_get slots) e)))

empties : (f : ℕ → List SlotFacts) (first n : ℕ) → appended (replicate n []) (map f (range_with_len first n)) ≡ map f (range_with_len first n)
empties f first zero = refl
empties f first (suc n) = ap (λ l. f first ∷ l) (empties f (first + 1) n)

length_replicate : (n : ℕ) → length (replicate {A = List SlotFacts} n []) ≡ n
length_replicate zero = refl
length_replicate (suc n) = ap suc (length_replicate n)

module _ {S : Type 0} where
  fold_dealt : (lists : List (List SlotFacts)) (passes : List (PassData S)) → Each (λ pass. length pass.slots ≡ length lists) passes
      → fold dealt lists (map (λ pass. pass.slots) passes) ≡ appended lists (map (passes_on passes) (range_with_len 0 (length lists)))
  fold_dealt lists [] each = appended_none (passes_on {S = S} []) 0 lists (λ k. refl)
  fold_dealt lists (pass ∷ passes) each =
      let same = length_dealt lists pass.slots in
      fold_dealt (dealt lists pass.slots) passes (weaken passes each.1 (sym same))
      ∙ ap (λ n. appended (dealt lists pass.slots) (map (passes_on passes) (range_with_len 0 n))) same
      ∙ appended_dealt (passes_on passes) pass.slots 0 lists pass.slots each.0 (λ k. let z : k ≡ 0 + k = omega arith in ap (slice_get pass.slots) z)
    where
      weaken : {n m : ℕ} (ps : List (PassData S)) → Each (λ p. length p.slots ≡ n) ps → n ≡ m → Each (λ p. length p.slots ≡ m) ps
      weaken [] e is = tt
      weaken (p ∷ ps) e is = (e.0 ∙ is, weaken ps e.1 is)

  -- all passes are dealt: each device has its own
  pub all_dealt : (lists start : List (List SlotFacts)) (n : ℕ) (passes : List (PassData S)) → start ≡ replicate n [] → Each (λ pass. length pass.slots ≡ n) passes
      → lists ≡ fold dealt start (map (λ pass. pass.slots) passes) → lists ≡ map (passes_on passes) (range_with_len 0 n)
  all_dealt lists start n passes none each is =
      is ∙ ap (λ l. fold dealt l (map (λ pass. pass.slots) passes)) none
      ∙ fold_dealt (replicate n []) passes (subst (λ m. Each (λ (pass : PassData S). length pass.slots ≡ m) passes) (sym (length_replicate n)) each)
      ∙ ap (λ m. appended (replicate n []) (map (passes_on passes) (range_with_len 0 m))) (length_replicate n)
      ∙ empties (passes_on passes) 0 n

  -- ---- the parts may be closed

  pub as_many : (disk : DiskData S) (passes : List (PassData S)) → Each (IsPassOf disk) passes → Each (λ pass. length pass.slots ≡ length disk.queue.controllers) passes
  as_many disk [] each = tt
  as_many disk (pass ∷ passes) each = (zip_length (λ (controller : ControllerData) slots. IsOf controller.profile slots) disk.queue.controllers pass.slots each.0.pass.each, as_many disk passes each.1)

  all_free : (disk : DiskData S) (device : ℕ) (controller : ControllerData) → At disk.queue.controllers device controller → (passes : List (PassData S)) → Each (IsPassOf disk) passes → Each (IsFree controller.profile) (passes_on passes device)
  all_free disk device controller at [] each = tt
  all_free disk device controller at (pass ∷ passes) each =
      let found = zip_there (λ (c : ControllerData) slots. IsOf c.profile slots) disk.queue.controllers pass.slots device controller each.0.pass.each at in
      let free = each_at (λ (slots : SlotFacts). slots.hold ≡ None) pass.slots device found.0 each.0.free found.1 in
      subst (λ o. Each (IsFree controller.profile) (cons_option o (passes_on passes device))) (sym found.1) ((found.2, free), all_free disk device controller at passes each.1)

  same_any : (disk : DiskData S) (device : ℕ) (controller : ControllerData) (caller : ℕ) → At disk.queue.controllers device controller → (passes : List (PassData S)) → Each (IsPassOf disk) passes
      → list_any (λ pass. pass.caller == caller) passes ≡ list_any (λ slots. slots.caller == caller) (passes_on passes device)
  same_any disk device controller caller at [] each = refl
  same_any disk device controller caller at (pass ∷ passes) each =
      let found = zip_there (λ (c : ControllerData) slots. IsOf c.profile slots) disk.queue.controllers pass.slots device controller each.0.pass.each at in
      let same = each_at (λ (slots : SlotFacts). slots.caller ≡ pass.caller) pass.slots device found.0 each.0.callers found.1 in
      ap₂ (λ n b. (n == caller) || b) (sym same) (same_any disk device controller caller at passes each.1)
      ∙ ap (λ o. list_any (λ (slots : SlotFacts). slots.caller == caller) (cons_option o (passes_on passes device))) (sym found.1)

  all_belong : (disk : DiskData S) (passes : List (PassData S)) → Each (IsPassOf disk) passes → Each (Belongs disk.queue.medium) (map (λ pass. pass.units) passes)
  all_belong disk [] each = tt
  all_belong disk (pass ∷ passes) each = (each.0.pass.belongs, all_belong disk passes each.1)

  some_caller : (disk : DiskData S) (caller : ℕ) (passes : List (PassData S)) → Each (IsPassOf disk) passes → list_any (λ pass. pass.caller == caller) passes ≡ true → 0 < sum_of (is_caller caller) (map (λ pass. pass.units) passes)
  some_caller disk caller [] each any = absurd (false-true any)
    where
      false-true : false ≡ true → ⊥
      false-true e = subst (λ b. of b) e tt
        where
          of : Bool → Type 0
          of false = Unit {0}
          of true = ⊥
  some_caller disk caller (pass ∷ passes) each any = by (pass.caller == caller) refl (some_caller disk caller passes each.1)
    where
      by : (b : Bool) → (pass.caller == caller) ≡ b → (list_any (λ (p : PassData S). p.caller == caller) passes ≡ true → 0 < sum_of (is_caller caller) (map (λ p. p.units) passes)) → 0 < sum_of (is_caller caller) (map (λ p. p.units) (pass ∷ passes))
      by true is rest =
          let one : is_caller caller pass.units ≡ 1 = ap (λ n. one_if (n == caller)) each.0.pass.number ∙ ap one_if is in
          omega (arith, one)
      by false is rest =
          let some = rest (sym (ap (λ b. b || list_any (λ (p : PassData S). p.caller == caller) passes) is) ∙ any) in
          omega (arith, some)

  open_from : (owns : S → ℕ → Bool) (disk : DiskData S) (passes : List (PassData S)) → IsDisk owns disk → AreAllPasses disk passes → (first : ℕ) (controllers : List ControllerData) → ((k : ℕ) (controller : ControllerData) → At controllers k controller → At disk.queue.controllers (first + k) controller)
      → EachFrom (IsOpenDevice disk passes) first (devices_with controllers (map (passes_on passes) (range_with_len first (length controllers))))
  open_from owns disk passes is all first [] inside = tt
  open_from owns disk passes is all first (controller ∷ controllers) inside =
      let z : first + 0 ≡ first = omega arith in
      let at : At disk.queue.controllers first controller = subst (λ n. At disk.queue.controllers n controller) z (inside 0 controller refl) in
      let callers = each_at (λ (c : ControllerData). c.profile.turns.callers ≡ disk.queue.medium.turns.callers) disk.queue.controllers first controller is.callers at in (
        record {
          profile = λ other there. ap (λ (c : ControllerData). c.profile) (at_one disk.queue.controllers first controller other at there);
          passes_are = refl;
          may = record {
            free = all_free disk first controller at passes all.are_of;
            here = λ caller below. sym (same_any disk first controller caller at passes all.are_of) ∙ all.all caller (subst (λ n. caller < n) callers below);
          };
        },
        open_from owns disk passes is all (first + 1) controllers (λ k c there. let e : first + suc k ≡ first + 1 + k = omega arith in subst (λ n. At disk.queue.controllers n c) e (inside (suc k) c there)),
      )

  -- a disk that was taken apart is split
  pub taken_apart : (owns : S → ℕ → Bool) (disk : DiskData S) (passes : List (PassData S)) (controllers : List ControllerData) (split : SplitData S) (rows : List (List SlotFacts)) → IsDisk owns disk → AreAllPasses disk passes → controllers ≡ disk.queue.controllers
      → rows ≡ map (passes_on passes) (range_with_len 0 (length disk.queue.controllers)) → reverse split.devices ≡ devices_with controllers rows → split.medium ≡ disk.queue.medium → split.units ≡ map (λ pass. pass.units) passes → split.journals ≡ [] → length split.devices ≡ length disk.queue.controllers
      → IsSplit disk passes split
  taken_apart owns disk passes controllers split rows is all same rows_are devices medium units journals count = record {
    medium = medium;
    units = units;
    belong = all_belong disk passes all.are_of;
    all = λ caller below. some_caller disk caller passes all.are_of (all.all caller below);
    count = (let none : length split.journals ≡ 0 = ap length journals in omega (arith, none, count));
    journals = subst (EachFrom (IsJournalOf disk passes) 0) (sym journals) tt;
    devices = subst (λ (l : List (List Event)). EachFrom (IsOpenDevice disk passes) (length l) (reverse split.devices)) (sym journals)
        (subst (EachFrom (IsOpenDevice disk passes) 0) (sym (devices ∙ ap₂ devices_with same rows_are))
        (open_from owns disk passes is all 0 disk.queue.controllers (λ k c at. let z : k ≡ 0 + k = omega arith in subst (λ n. At disk.queue.controllers n c) z at)));
  }

  -- ---- one pass more is dealt

  pub slots_step : {V : Type 0} (items : V → List SlotFacts) (lists lists' : List V) (passes rest : List (PassData S)) (pass : PassData S) (row : List SlotFacts) (whole : List (List SlotFacts)) → passes ≡ rest ++ pass ∷ [] → map items lists' ≡ dealt (map items lists) row → row ≡ pass.slots
      → fold dealt (map items lists) (map (λ p. p.slots) (reverse passes)) ≡ whole → fold dealt (map items lists') (map (λ p. p.slots) (reverse rest)) ≡ whole
  slots_step items lists lists' passes rest pass row whole pop deals is was =
      ap (λ l. fold dealt l (map (λ p. p.slots) (reverse rest))) (deals ∙ ap (dealt (map items lists)) is)
      ∙ ap (λ l. fold dealt (map items lists) (map (λ p. p.slots) l)) (sym (ap reverse pop ∙ reverse-append rest (pass ∷ [])))
      ∙ was

  pub units_step : (done done' whole : List (Pass Entry (OpeningData S))) (passes rest : List (PassData S)) (pass : PassData S) (seat : Pass Entry (OpeningData S)) → passes ≡ rest ++ pass ∷ [] → done' ≡ done ++ seat ∷ [] → seat ≡ pass.units
      → done ++ map (λ p. p.units) (reverse passes) ≡ whole → done' ++ map (λ p. p.units) (reverse rest) ≡ whole
  units_step done done' whole passes rest pass seat pop push is was =
      ap (λ l. l ++ map (λ p. p.units) (reverse rest)) push
      ∙ append_assoc done (seat ∷ []) (map (λ p. p.units) (reverse rest))
      ∙ ap (λ s. done ++ s ∷ map (λ p. p.units) (reverse rest)) is
      ∙ ap (λ l. done ++ map (λ p. p.units) l) (sym (ap reverse pop ∙ reverse-append rest (pass ∷ [])))
      ∙ was

  -- ---- one device more is closed

  first_rest : (disk : DiskData S) (passes : List (PassData S)) (n : ℕ) (devices rest : List OpenDeviceData) (device : OpenDeviceData) → devices ≡ rest ++ device ∷ [] → EachFrom (IsOpenDevice disk passes) n (reverse devices)
      → IsOpenDevice disk passes n device × EachFrom (IsOpenDevice disk passes) (n + 1) (reverse rest)
  first_rest disk passes n devices rest device pop each = subst (EachFrom (IsOpenDevice disk passes) n) (ap reverse pop ∙ reverse-append rest (device ∷ [])) each

  pub close_step : {V : Type 0} (items : V → List Event) (disk : DiskData S) (passes : List (PassData S)) (devices rest : List OpenDeviceData) (device : OpenDeviceData) (journals journals' : List V) (journal : V) → devices ≡ rest ++ device ∷ [] → journals' ≡ journals ++ journal ∷ []
      → EachFrom (IsJournalOf disk passes) 0 (map items journals) → EachFrom (IsOpenDevice disk passes) (length journals) (reverse devices) → (story : List Noted) × (items journal ≡ events_of story) × IsEndOfSlots device.profile device.passes story
      → EachFrom (IsJournalOf disk passes) 0 (map items journals') × EachFrom (IsOpenDevice disk passes) (length journals') (reverse rest)
  close_step items disk passes devices rest device journals journals' journal pop push each unclosed story =
      let f = first_rest disk passes (length journals) devices rest device pop unclosed in
      let b = ap length push ∙ length-append journals (journal ∷ []) in
      let grown : length journals' ≡ length journals + 1 = omega (arith, b) in
      let here : IsJournalOf disk passes (length journals) (items journal) = λ controller at.
      (story.0, story.1, subst (λ p. IsEndOfSlots p (passes_on passes (length journals)) story.0) (f.0.profile controller at) (subst (λ ps. IsEndOfSlots device.profile ps story.0) f.0.passes_are story.2)) in
      (each_from_push (IsJournalOf disk passes) items journals journals' journal push each here, subst (λ n. EachFrom (IsOpenDevice disk passes) n (reverse rest)) (sym grown) f.1)

-- so many lists without elements are so many
pub rooms_count : {V A : Type 0} (items : V → List A) (lists : List V) (n : ℕ) → map items lists ≡ replicate n [] → length lists ≡ n
rooms_count {V} {A} items lists n is = sym (mapped lists) ∙ ap length is ∙ replicated n
  where
    mapped : (xs : List V) → length (map items xs) ≡ length xs
    mapped [] = refl
    mapped (x ∷ xs) = ap suc (mapped xs)

    replicated : (n : ℕ) → length (replicate {A = List A} n []) ≡ n
    replicated zero = refl
    replicated (suc n) = ap suc (replicated n)

-- as many devices as controllers
pub devices_count : (devices : List OpenDeviceData) (controllers : List ControllerData) (rows : List (List SlotFacts)) → reverse devices ≡ devices_with controllers rows → length rows ≡ length controllers → length devices ≡ length controllers
devices_count devices controllers rows is long = sym (length-reverse devices) ∙ ap length is ∙ many controllers rows long
  where
    many : (controllers : List ControllerData) (rows : List (List SlotFacts)) → length rows ≡ length controllers → length (devices_with controllers rows) ≡ length controllers
    many [] rows long = refl
    many (c ∷ controllers) [] long = absurd (omega (arith, long))
    many (c ∷ controllers) (row ∷ rows) long = ap suc (many controllers rows (omega (arith, long)))
