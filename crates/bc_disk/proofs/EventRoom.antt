-- The events that a caller may make still, after some.
use Rattle.std.proofs.Common.{◌≡◌, ℕ, zero, suc, ◌+◌, ◌-◌, ◌<◌, ◌≤◌, List, [], ◌∷◌, ◌++◌, length, map, refl, sym, ap, ◌∙◌, arith, Option, Some, None}
use Rattle.std.specs.Prelude.{slice_get}
use Rattle.std.specs.Option.{option_map_or}
use Rattle.std.proofs.lemmas.List.{length-append, length-map}
use Rattle.std.proofs.lemmas.Option.{none-some}
use Rattle.bc_base.specs.Lists.{At, list_at}
use Rattle.bc_base.specs.Story.{own}
use Rattle.bc_base.proofs.Lists.{each_at}
use Rattle.bc_turn.specs.PassParts.{Pass}
use Rattle.bc_medium.specs.declared.entry.Entry.{Entry}
use Rattle.bc_medium.specs.Medium.{OpeningData}
use Rattle.bc_profile.specs.declared.event.Event.{Event}
use Rattle.bc_profile.specs.declared.noted.Noted.{Noted}
use Rattle.bc_profile.specs.Passes.{IsOf, SlotFacts, base_in, made_by, quota_of}
use Rattle.bc_profile.specs.Story.{author_of, note, notes}
use Rattle.bc_ufs.specs.Controllers.{ControllerData}
use Rattle.bc_queue.specs.Queues.{HasEvents, QueueData}
use Rattle.bc_queue.proofs.Lists.{get_or_map}
use Rattle.bc_pieces.specs.ManyCallers.{IsReady}
use Rattle.bc_pieces.specs.Pieces.{NotesOn}
use Rattle.bc_pieces.proofs.Units.{at_within}
use Rattle.bc_disk.specs.Disks.{DiskData, events_left, pass_by}
use Rattle.bc_base.proofs.Members.{zip_length}

below : {X : Type 0} (xs : List X) (k : ℕ) (x : X) → At xs k x → k < length xs
below [] k x at = absurd (none-some x at)
below (y ∷ ys) zero x at = omega arith
below (y ∷ ys) (suc k) x at = let lt = below ys k x at in omega (arith, lt)

module _ {S : Type 0} (queue : QueueData S) (caller caller' : ℕ) (slots slots' : List SlotFacts) (units units' : Pass Entry (OpeningData S)) (ready : IsReady queue caller slots units) (ready' : IsReady queue caller' slots' units') (same : units'.caller ≡ units.caller) where
  same_caller : (device : ℕ) (s s' : SlotFacts) → At slots device s → At slots' device s' → s'.caller ≡ s.caller
  same_caller device s s' at at' =
      each_at (λ (p : SlotFacts). p.caller ≡ caller') slots' device s' ready'.callers at' ∙ sym ready'.pass.number ∙ same ∙ ready.pass.number ∙ sym (each_at (λ (p : SlotFacts). p.caller ≡ caller) slots device s ready.callers at)

  -- a pass's events, after some that its caller noted
  pub made_more : (device : ℕ) (s s' : SlotFacts) (made : List Event) → At slots device s → At slots' device s' → NotesOn units.caller (list_at (map (λ (p : SlotFacts). p.seen) slots) device) (list_at (map (λ (p : SlotFacts). p.seen) slots') device) made
      → length (made_by s') ≡ length (made_by s) + length made
  made_more device s s' made at at' noted =
      let seen = get_or_map (λ (p : SlotFacts). p.seen) slots device s [] at in
      let seen' = get_or_map (λ (p : SlotFacts). p.seen) slots' device s' [] at' in
      let is : s.caller ≡ units.caller = each_at (λ (p : SlotFacts). p.caller ≡ caller) slots device s ready.callers at ∙ sym ready.pass.number in
      let is' : s'.caller ≡ units.caller = same_caller device s s' at at' ∙ is in
      let adds : own author_of units.caller s'.seen ≡ own author_of units.caller s.seen ++ notes units.caller made =
      sym (ap (λ (l : List Noted). own author_of units.caller l) seen') ∙ noted.adds ∙ ap (λ (l : List Noted). own author_of units.caller l ++ notes units.caller made) seen in
      let mine : made_by s' ≡ own author_of units.caller s'.seen = ap (λ (c : ℕ). own author_of c s'.seen) is' in
      let was : made_by s ≡ own author_of units.caller s.seen = ap (λ (c : ℕ). own author_of c s.seen) is in
      let many = ap length mine ∙ ap length adds ∙ length-append (own author_of units.caller s.seen) (notes units.caller made) in
      let mapped : length (notes units.caller made) ≡ length made = length-map made (note units.caller) in
      let old = ap length was in
      omega (arith, many, mapped, old)

  quota_same : (device : ℕ) (controller : ControllerData) (s s' : SlotFacts) → At slots device s → At slots' device s' → quota_of (base_in controller.profile) s'.caller ≡ quota_of (base_in controller.profile) s.caller
  quota_same device controller s s' at at' = ap (quota_of (base_in controller.profile)) (same_caller device s s' at at')

  there' : (device : ℕ) (s : SlotFacts) → At slots device s → (s' : SlotFacts) × At slots' device s'
  there' device s at =
      let one = zip_length (λ (x : ControllerData) (p : SlotFacts). IsOf x.profile p) queue.controllers slots ready.pass.each in
      let other = zip_length (λ (x : ControllerData) (p : SlotFacts). IsOf x.profile p) queue.controllers slots' ready'.pass.each in
      let less = below slots device s at in
      at_within slots' device (omega (arith, one, other, less))

  there : (device : ℕ) (s' : SlotFacts) → At slots' device s' → (s : SlotFacts) × At slots device s
  there device s' at' =
      let one = zip_length (λ (x : ControllerData) (p : SlotFacts). IsOf x.profile p) queue.controllers slots ready.pass.each in
      let other = zip_length (λ (x : ControllerData) (p : SlotFacts). IsOf x.profile p) queue.controllers slots' ready'.pass.each in
      let less = below slots' device s' at' in
      at_within slots device (omega (arith, one, other, less))

  -- room for more events than were made leaves room for the others
  pub spare_after : (device more most : ℕ) (made : List Event) → NotesOn units.caller (list_at (map (λ (p : SlotFacts). p.seen) slots) device) (list_at (map (λ (p : SlotFacts). p.seen) slots') device) made
      → length made + more ≤ most → HasEvents queue slots device most → HasEvents queue slots' device more
  spare_after device more most made noted few has controller at s' at' =
      let old = there device s' at' in
      let spare = has controller at old.0 old.1 in
      let quota = quota_same device controller old.0 s' old.1 at' in
      let many = made_more device old.0 s' made old.1 at' noted in
      omega (arith, few, spare, quota, many)

-- what is left of a quota
abbrev left : Option ControllerData → Option SlotFacts → ℕ
left x o = option_map_or (λ (c : ControllerData). option_map_or (λ (p : SlotFacts). quota_of (base_in c.profile) p.caller - length (made_by p)) o 0) x 0

left_is : {S : Type 0} (disk : DiskData S) (caller : ℕ) (slots : List SlotFacts) (units : Pass Entry (OpeningData S)) (device : ℕ) (controller : ControllerData) (s : SlotFacts) → At disk.queue.controllers device controller → At slots device s
    → events_left disk (pass_by caller slots units) device ≡ quota_of (base_in controller.profile) s.caller - length (made_by s)
left_is disk caller slots units device controller s at here =
    ap (λ (o : Option ControllerData). option_map_or (λ (x : ControllerData). option_map_or (λ (p : SlotFacts). quota_of (base_in x.profile) p.caller - length (made_by p)) (slice_get slots device) 0) o 0) at
    ∙ ap (λ (o : Option SlotFacts). option_map_or (λ (p : SlotFacts). quota_of (base_in controller.profile) p.caller - length (made_by p)) o 0) here

-- so many events may be made as are left
pub has_events : {S : Type 0} (disk : DiskData S) (caller : ℕ) (slots : List SlotFacts) (units : Pass Entry (OpeningData S)) (device events : ℕ) → 1 ≤ events → events ≤ events_left disk (pass_by caller slots units) device → HasEvents disk.queue slots device events
has_events disk caller slots units device events some most controller at s here =
    let is = left_is disk caller slots units device controller s at here in
    omega (arith, some, most, is)

-- what is left after some
pub left_after : {S : Type 0} (disk : DiskData S) (caller caller' : ℕ) (slots slots' : List SlotFacts) (units units' : Pass Entry (OpeningData S)) → IsReady disk.queue caller slots units → IsReady disk.queue caller' slots' units' → units'.caller ≡ units.caller
    → (device most : ℕ) (made : List Event) → NotesOn units.caller (list_at (map (λ (p : SlotFacts). p.seen) slots) device) (list_at (map (λ (p : SlotFacts). p.seen) slots') device) made → length made ≤ most
    → events_left disk (pass_by caller slots units) device ≤ events_left disk (pass_by caller' slots' units') device + most
left_after {S} disk caller caller' slots slots' units units' ready ready' same device most made noted few = of_controller (slice_get disk.queue.controllers device) refl
  where
    of_slot : (controller : ControllerData) → At disk.queue.controllers device controller → (o : Option SlotFacts) → slice_get slots device ≡ o → left (Some controller) o ≤ events_left disk (pass_by caller' slots' units') device + most
    of_slot controller at None none = omega arith
    of_slot controller at (Some s) here =
        let now = there' disk.queue caller caller' slots slots' units units' ready ready' same device s here in
        let is' = left_is disk caller' slots' units' device controller now.0 at now.1 in
        let quota = quota_same disk.queue caller caller' slots slots' units units' ready ready' same device controller s now.0 here now.1 in
        let many = made_more disk.queue caller caller' slots slots' units units' ready ready' same device s now.0 made here now.1 noted in
        omega (arith, is', quota, many, few)

    of_controller : (x : Option ControllerData) → slice_get disk.queue.controllers device ≡ x → events_left disk (pass_by caller slots units) device ≤ events_left disk (pass_by caller' slots' units') device + most
    of_controller None none =
        let zero_left : events_left disk (pass_by caller slots units) device ≡ 0 = ap (λ (x : Option ControllerData). left x (slice_get slots device)) none in
        omega (arith, zero_left)
    of_controller (Some controller) at =
        let is : events_left disk (pass_by caller slots units) device ≡ left (Some controller) (slice_get slots device) = ap (λ (x : Option ControllerData). left x (slice_get slots device)) at in
        let most_left = of_slot controller at (slice_get slots device) refl in
        omega (arith, is, most_left)
