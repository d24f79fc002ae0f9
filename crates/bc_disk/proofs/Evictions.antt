-- Evictions and resets: one device's keyslots go on, and the others stay; and what all devices tell, one after the other.
use Rattle.std.proofs.Common.{◌≡◌, ◌≢◌, ℕ, ◌+◌, ◌-◌, ◌<◌, ◌≤◌, ◌⊎◌, inl, inr, Bool, true, cond, List, [], ◌∷◌, ◌++◌, length, map, set, get_or, append-nil, refl, sym, ap, subst, ◌∙◌, arith, Option, Some, None}
use Rattle.std.specs.Prelude.{◌==◌, IfSome, MatchOption, MatchResult, Result, Ok, Err, slice_get}
use Rattle.std.specs.Option.{option_map_or, option_or}
use Rattle.std.specs.Result.{result_err}
use Rattle.std.proofs.Math.Logic.{⊎_elim}
use Rattle.std.proofs.lemmas.Bool.{eq-eqb, ne_eqb, cases_eq, cases_lt}
use Rattle.std.proofs.lemmas.Option.{slice_get_within}
use Rattle.bc_base.specs.Lists.{At, list_at}
use Rattle.bc_base.specs.Sectors.{Sectors}
use Rattle.bc_base.specs.Story.{own}
use Rattle.bc_base.proofs.Lists.{at_one, at_read, each_at, each_set}
use Rattle.bc_key.specs.declared.keys.KeyNo.{KeyNo}
use Rattle.bc_key.specs.KeyData.{KeyData}
use Rattle.bc_profile.specs.declared.event.Event.{Event}
use Rattle.bc_profile.specs.declared.event.Event.TheVariants as events
use Rattle.bc_profile.specs.declared.noted.Noted.{Noted}
use Rattle.bc_profile.specs.Passes.{SlotFacts, Evicts, HasSpare, IsOf, Noticed, RefusesEviction, TakesOutOf, base_in, made_by, quota_of, slots_in}
use Rattle.bc_profile.specs.Story.{IsGone, author_of, notes}
use Rattle.bc_ufs.specs.Controllers.{ControllerData}
use Rattle.bc_queue.specs.Queues.{AreControllers, IsController}
use Rattle.bc_queue.proofs.Lists.{get_or_map, get_or_set_other, get_set_other, map-set}
use Rattle.bc_queue.proofs.Queues.{from_start, rows_length, zip_at, zip_set}
use Rattle.bc_pieces.specs.Pieces.{DeviceFacts, NotesOn, at_device}
use Rattle.bc_pieces.proofs.Telling.{notes_append}
use Rattle.bc_disk.specs.declared.eviction.Busy.{Busy}
use Rattle.bc_disk.specs.Disks.{DiskData, IsPassOf, PassData, events_left, facts_on, goes_inline, keys_in, pass_by}
use Rattle.bc_disk.specs.Evictions.{AddsAt, AddsEvents, AsksFirst, AsksOne, EmptiesSlot, HasAskedFor, IsBefore, IsRefusedBy, asks}
use Rattle.bc_base.proofs.Members.{at_set, zip_length}
use Rattle.bc_medium.proofs.Growing.{begins_itself, begins_trans}
use Rattle.bc_pieces.proofs.ManyCallers.{noticed_made}
use Rattle.bc_profile.specs.declared.book.Busy.{Busy as Found}

-- a controller has a row of each key
pub rows_here : (keys : List KeyData) (controllers : List ControllerData) (device : ℕ) (controller : ControllerData) → AreControllers keys controllers → At controllers device controller → length controller.profile.rows ≡ length keys
rows_here keys controllers device controller are at = rows_length keys device controller (from_start (IsController keys) controllers device controller are at)

-- ---- what one call notices

noticed_notes : (caller : ℕ) (old new : SlotFacts) (es : List Event) → old.caller ≡ caller → Noticed old new es → NotesOn caller old.seen new.seen es
noticed_notes caller old new es is n = record {
  front = begins_trans old.seen n.front new.seen n.begins (notes old.caller es, n.ends);
  adds =
      subst (λ c. own author_of c new.seen ≡ own author_of c old.seen ++ notes c es) is
      (sym (ap (λ c. own author_of c new.seen) n.caller) ∙ n.own_events);
}

notes_none : (caller : ℕ) (seen : List Noted) → NotesOn caller seen seen []
notes_none caller seen = record { front = begins_itself seen; adds = sym (append-nil (own author_of caller seen)) }

-- these events are those of the device itself, and no other has any
at_itself : (device : ℕ) (made : List Event) → at_device device made device ≡ made
at_itself device made = ap (λ (b : Bool). cond b made []) (eq-eqb device device refl)

at_another : (device other : ℕ) (made : List Event) → other ≢ device → at_device device made other ≡ []
at_another device other made differ = ap (λ (b : Bool). cond b made []) (ne_eqb other device differ)

-- ---- one device

-- the journals of these passes
abbrev seen_by_all : List SlotFacts → List (List Noted)
seen_by_all slots = map (λ (pass : SlotFacts). pass.seen) slots

seen_here : (slots : List SlotFacts) (device : ℕ) (pass : SlotFacts) → At slots device pass → list_at (seen_by_all slots) device ≡ pass.seen
seen_here slots device pass at = get_or_map (λ (p : SlotFacts). p.seen) slots device pass [] at

seen_elsewhere : (slots : List SlotFacts) (device other : ℕ) (after : SlotFacts) → other ≢ device → list_at (seen_by_all (set slots device after)) other ≡ list_at (seen_by_all slots) other
seen_elsewhere slots device other after differ =
    ap (λ l. list_at l other) (map-set (λ (p : SlotFacts). p.seen) slots device after)
    ∙ get_or_set_other (seen_by_all slots) device other after.seen [] differ

module _ {S : Type 0} (contents : S → Option Sectors) (disk : DiskData S) (pass : PassData S) (device : ℕ) (controller : ControllerData) (before : SlotFacts) where
  -- the pass's part of a device
  pub record HasPart : Type 0 where
    pub pass_is : IsPassOf disk pass
    pub controller_at : At disk.queue.controllers device controller
    pub before_at : At pass.slots device before
    pub is_of : IsOf controller.profile before
    pub free : before.hold ≡ None
    pub caller : before.caller ≡ pass.caller
    pub spare : HasSpare controller.profile before 1

  -- how many events more, of a part of one device
  abbrev left_by : ControllerData → SlotFacts → ℕ
  left_by c p = quota_of (base_in c.profile) p.caller - length (made_by p)

  left_at : (q : PassData S) (p : SlotFacts) → At disk.queue.controllers device controller → At q.slots device p → events_left disk q device ≡ left_by controller p
  left_at q p at here =
      ap (λ o. option_map_or (λ (c : ControllerData). option_map_or (left_by c) (slice_get q.slots device) 0) o 0) at
      ∙ ap (λ o. option_map_or (left_by controller) o 0) here

  pub has_part : IsPassOf disk pass → At disk.queue.controllers device controller → before ≡ get_or pass.slots device before → 1 ≤ events_left disk pass device → HasPart
  has_part is at read some =
      let long : length pass.slots ≡ length disk.queue.controllers = zip_length (λ (c : ControllerData) (p : SlotFacts). IsOf c.profile p) disk.queue.controllers pass.slots is.pass.each in
      let within : device < length disk.queue.controllers = slice_get_within disk.queue.controllers device controller at in
      let here : At pass.slots device before = at_read pass.slots device before (omega (arith, long, within)) read in
      let left = left_at pass before at here in record {
        pass_is = is;
        controller_at = at;
        before_at = here;
        is_of = zip_at (λ (c : ControllerData) (p : SlotFacts). IsOf c.profile p) disk.queue.controllers pass.slots device controller before is.pass.each at here;
        free = each_at (λ (p : SlotFacts). p.hold ≡ None) pass.slots device before is.free here;
        caller = each_at (λ (p : SlotFacts). p.caller ≡ pass.caller) pass.slots device before is.callers here;
        spare = omega (arith, some, left);
      }

  -- what the part noticed of a call that made an event at most
  pub record Goes (after : SlotFacts) : Type 0 where
    pub made : List Event
    pub few : length made ≤ 1
    pub noticed : Noticed before after made

  module _ (part : HasPart) (after : SlotFacts) (goes : Goes after) where
    -- the pass with its part as it is now
    abbrev now : PassData S
    now = pass_by pass.caller (set pass.slots device after) pass.units

    pub pass_now : IsOf controller.profile after → after.hold ≡ None → IsPassOf disk now
    pass_now is free = record {
      pass = record {
        belongs = part.pass_is.pass.belongs;
        number = part.pass_is.pass.number;
        each =
            zip_set (λ (c : ControllerData) (p : SlotFacts). IsOf c.profile p) disk.queue.controllers pass.slots device after part.pass_is.pass.each
            (λ c at. subst (λ (x : ControllerData). IsOf x.profile after) (at_one disk.queue.controllers device controller c part.controller_at at) is);
      };
      free = each_set (λ (p : SlotFacts). p.hold ≡ None) pass.slots device after part.pass_is.free free;
      callers = each_set (λ (p : SlotFacts). p.caller ≡ pass.caller) pass.slots device after part.pass_is.callers (goes.noticed.caller ∙ part.caller);
    }

    notes_at : (other : ℕ) → NotesOn pass.units.caller (list_at (seen_by_all pass.slots) other) (list_at (seen_by_all (set pass.slots device after)) other) (at_device device goes.made other)
    notes_at other = ⊎_elim here elsewhere (cases_eq other device)
      where
        here : other ≡ device → NotesOn pass.units.caller (list_at (seen_by_all pass.slots) other) (list_at (seen_by_all (set pass.slots device after)) other) (at_device device goes.made other)
        here same =
            subst (λ k. NotesOn pass.units.caller (list_at (seen_by_all pass.slots) k) (list_at (seen_by_all (set pass.slots device after)) k) (at_device device goes.made k)) (sym same)
            (subst (λ es. NotesOn pass.units.caller (list_at (seen_by_all pass.slots) device) (list_at (seen_by_all (set pass.slots device after)) device) es) (sym (at_itself device goes.made))
            (subst (λ l. NotesOn pass.units.caller l (list_at (seen_by_all (set pass.slots device after)) device) goes.made) (sym (seen_here pass.slots device before part.before_at))
            (subst (λ l. NotesOn pass.units.caller before.seen l goes.made) (sym (seen_here (set pass.slots device after) device after (at_set pass.slots device before after part.before_at)))
            (noticed_notes pass.units.caller before after goes.made (part.caller ∙ sym part.pass_is.pass.number) goes.noticed))))

        elsewhere : other ≢ device → NotesOn pass.units.caller (list_at (seen_by_all pass.slots) other) (list_at (seen_by_all (set pass.slots device after)) other) (at_device device goes.made other)
        elsewhere differ =
            subst (λ es. NotesOn pass.units.caller (list_at (seen_by_all pass.slots) other) (list_at (seen_by_all (set pass.slots device after)) other) es) (sym (at_another device other goes.made differ))
            (subst (λ l. NotesOn pass.units.caller (list_at (seen_by_all pass.slots) other) l []) (sym (seen_elsewhere pass.slots device other after differ))
            (notes_none pass.units.caller (list_at (seen_by_all pass.slots) other)))

    pub adds_at : AddsAt (facts_on contents disk pass) (facts_on contents disk now) device goes.made
    adds_at = record {
      adds = record {
        same = record { keys = refl; shards = refl; caller = refl; targets = refl; slots = refl };
        access = refl;
        notes = notes_at;
      };
      others = λ other differ. seen_elsewhere pass.slots device other after differ;
    }

    pub events_now : (other : ℕ) → events_left disk pass other ≤ events_left disk now other + cond (other == device) 1 0
    events_now other = ⊎_elim here elsewhere (cases_eq other device)
      where
        here : other ≡ device → events_left disk pass other ≤ events_left disk now other + cond (other == device) 1 0
        here same =
            let was = left_at pass before part.controller_at part.before_at in
            let is = left_at now after part.controller_at (at_set pass.slots device before after part.before_at) in
            let more = noticed_made before after goes.made goes.noticed in
            let quota : quota_of (base_in controller.profile) after.caller ≡ quota_of (base_in controller.profile) before.caller = ap (quota_of (base_in controller.profile)) goes.noticed.caller in
            let few = goes.few in
            let fewer : events_left disk pass device ≤ events_left disk now device + 1 = omega (arith, was, is, more, quota, few) in
            subst (λ k. events_left disk pass k ≤ events_left disk now k + cond (k == device) 1 0) (sym same)
            (subst (λ (b : Bool). events_left disk pass device ≤ events_left disk now device + cond b 1 0) (sym (eq-eqb device device refl)) fewer)

        elsewhere : other ≢ device → events_left disk pass other ≤ events_left disk now other + cond (other == device) 1 0
        elsewhere differ =
            let same : events_left disk now other ≡ events_left disk pass other = ap (λ o. option_map_or (λ (c : ControllerData). option_map_or (left_by c) o 0) (slice_get disk.queue.controllers other) 0) (get_set_other pass.slots device other after differ) in
            omega (arith, same)

  abbrev now_with : SlotFacts → PassData S
  now_with after = pass_by pass.caller (set pass.slots device after) pass.units

  slots_here : HasPart → (facts_on contents disk pass).slots device ≡ slots_in controller.profile
  slots_here part = ap (λ o. option_map_or (λ (c : ControllerData). slots_in c.profile) o 0) part.controller_at

  -- whichever way an eviction ends, it made an event at most
  pub goes_by : {T : Type 0} (after : SlotFacts) (key : ℕ) (r : Result T Found) → MatchResult r (λ x. Evicts (slots_in controller.profile) before after key) (λ busy. RefusesEviction (slots_in controller.profile) before after key busy.slot busy.refs) → Goes after
  goes_by after key (Ok x) evicts =
      ⊎_elim
      (λ (n : Noticed before after []). record { made = []; few = omega arith; noticed = n })
      (λ (t : (slot : ℕ) × TakesOutOf (slots_in controller.profile) before after key slot). record { made = events.Evict t.0 key ∷ []; few = omega arith; noticed = t.1.noticed })
      evicts.made
  goes_by after key (Err busy) refuses = record { made = events.Busy busy.slot key busy.refs ∷ []; few = omega arith; noticed = refuses.noticed }

  -- a device that was asked, and emptied the key's slot if one had it
  pub emptied : (after : SlotFacts) (key : ℕ) → HasPart → Evicts (slots_in controller.profile) before after key → AsksOne (facts_on contents disk pass) (facts_on contents disk (now_with after)) device key None
  emptied after key part evicts =
      ⊎_elim
      (λ (n : Noticed before after []). with_made [] (omega arith) n (inl refl))
      (λ (t : (slot : ℕ) × TakesOutOf (slots_in controller.profile) before after key slot). with_made (events.Evict t.0 key ∷ []) (omega arith) t.1.noticed (inr (t.0, refl)))
      evicts.made
    where
      gone : IsGone ((facts_on contents disk pass).slots device) (list_at (facts_on contents disk (now_with after)).noted device) key
      gone =
          subst (λ n. IsGone n (list_at (seen_by_all (set pass.slots device after)) device) key) (sym (slots_here part))
          (subst (λ l. IsGone (slots_in controller.profile) l key) (sym (seen_here (set pass.slots device after) device after (at_set pass.slots device before after part.before_at))) evicts.gone)

      with_made : (made : List Event) → length made ≤ 1 → Noticed before after made → (made ≡ []) ⊎ ((slot : ℕ) × (made ≡ events.Evict slot key ∷ [])) → AsksOne (facts_on contents disk pass) (facts_on contents disk (now_with after)) device key None
      with_made made few n is = record { made = made; adds = adds_at part after (record { made = made; few = few; noticed = n }); answer = record { events = is; gone = gone } }

  -- a device that was asked and refused
  pub refused : (after : SlotFacts) (key : ℕ) (busy : Busy) → HasPart → busy.device ≡ device → RefusesEviction (slots_in controller.profile) before after key busy.slot busy.refs
      → AsksOne (facts_on contents disk pass) (facts_on contents disk (now_with after)) device key (Some busy)
  refused after key busy part is r = record {
    made = events.Busy busy.slot key busy.refs ∷ [];
    adds = adds_at part after (record { made = events.Busy busy.slot key busy.refs ∷ []; few = omega arith; noticed = r.noticed });
    answer = (is, record { event = refl; referenced = r.referenced });
  }

-- ---- all devices

pub asks_none : (facts : DeviceFacts) (key : ℕ) → AsksFirst 0 facts facts key None
asks_none facts key = record {
  made = λ device. [];
  adds = record {
    same = record { keys = refl; shards = refl; caller = refl; targets = refl; slots = refl };
    access = refl;
    notes = λ device. notes_none facts.access.caller (list_at facts.noted device);
  };
  each = λ device below. absurd (omega (arith, below));
  before = λ device below earlier. absurd (omega (arith, below));
  first = tt;
  others = λ device from. refl;
}

module _ (count key : ℕ) (old mid new : DeviceFacts) (refused answer : Option Busy) (so_far : AsksFirst count old mid key refused) (one : AsksOne mid new count key answer) where
  all_made : ℕ → List Event
  all_made device = so_far.made device ++ at_device count one.made device

  made_elsewhere : (device : ℕ) → device ≢ count → so_far.made device ≡ all_made device
  unfolding all_made
  made_elsewhere device differ = sym (ap (λ es. so_far.made device ++ es) (at_another count device one.made differ) ∙ append-nil (so_far.made device))

  made_here : one.made ≡ all_made count
  unfolding all_made
  made_here = sym (ap (λ es. es ++ at_device count one.made count) (so_far.others count (omega arith)) ∙ at_itself count one.made)

  below_differs : (device : ℕ) → device < count → device ≢ count
  below_differs device below = λ same. absurd (omega (arith, below, same))

  -- what a device reported before stays
  empties_still : (device : ℕ) → device < count → EmptiesSlot (old.slots device) (list_at mid.noted device) key (so_far.made device) → EmptiesSlot (old.slots device) (list_at new.noted device) key (all_made device)
  empties_still device below is =
      subst (λ es. EmptiesSlot (old.slots device) (list_at new.noted device) key es) (made_elsewhere device (below_differs device below))
      (subst (λ l. EmptiesSlot (old.slots device) l key (so_far.made device)) (sym (one.adds.others device (below_differs device below))) is)

  refused_still : (device slot refs : ℕ) → device < count → IsRefusedBy key slot refs (so_far.made device) → IsRefusedBy key slot refs (all_made device)
  refused_still device slot refs below is = subst (IsRefusedBy key slot refs) (made_elsewhere device (below_differs device below)) is

  empties_here : EmptiesSlot (mid.slots count) (list_at new.noted count) key one.made → EmptiesSlot (old.slots count) (list_at new.noted count) key (all_made count)
  empties_here is =
      subst (λ es. EmptiesSlot (old.slots count) (list_at new.noted count) key es) made_here
      (subst (λ (f : ℕ → ℕ). EmptiesSlot (f count) (list_at new.noted count) key one.made) so_far.adds.same.slots is)

  refused_here : (slot refs : ℕ) → IsRefusedBy key slot refs one.made → IsRefusedBy key slot refs (all_made count)
  refused_here slot refs is = subst (IsRefusedBy key slot refs) made_here is

  at_end : (P : ℕ → Type 0) → ((device : ℕ) → device < count → P device) → P count → (device : ℕ) → device < count + 1 → P device
  at_end P earlier last device below =
      ⊎_elim (earlier device) (λ (from : count ≤ device). subst P (omega (arith, below, from)) last) (cases_lt device count)

  adds_all : AddsEvents old new all_made
  unfolding all_made
  adds_all = record {
    same = record {
      keys = one.adds.adds.same.keys ∙ so_far.adds.same.keys;
      shards = one.adds.adds.same.shards ∙ so_far.adds.same.shards;
      caller = one.adds.adds.same.caller ∙ so_far.adds.same.caller;
      targets = one.adds.adds.same.targets ∙ so_far.adds.same.targets;
      slots = one.adds.adds.same.slots ∙ so_far.adds.same.slots;
    };
    access = one.adds.adds.access ∙ so_far.adds.access;
    notes = λ device.
        notes_append old.access.caller (list_at old.noted device) (list_at mid.noted device) (list_at new.noted device) (so_far.made device) (at_device count one.made device)
        (so_far.adds.notes device)
        (subst (λ c. NotesOn c (list_at mid.noted device) (list_at new.noted device) (at_device count one.made device)) so_far.adds.same.caller (one.adds.adds.notes device));
  }

  abbrev Tells : ℕ → Type 0
  Tells device = EmptiesSlot (old.slots device) (list_at new.noted device) key (all_made device) ⊎ ((slot refs : ℕ) × IsRefusedBy key slot refs (all_made device))

  each_all : (device : ℕ) → device < count + 1 → Tells device
  each_all =
      at_end Tells
      (λ device below. ⊎_elim
      (λ (is : EmptiesSlot (old.slots device) (list_at mid.noted device) key (so_far.made device)). inl (empties_still device below is))
      (λ (is : (slot refs : ℕ) × IsRefusedBy key slot refs (so_far.made device)). inr (is.0, is.1, refused_still device is.0 is.1 below is.2))
      (so_far.each device below))
      (last answer one.answer)
    where
      last : (a : Option Busy) → MatchOption a (EmptiesSlot (mid.slots count) (list_at new.noted count) key one.made) (λ busy. (busy.device ≡ count) × IsRefusedBy key busy.slot busy.refs one.made) → Tells count
      last None is = inl (empties_here is)
      last (Some busy) is = inr (busy.slot, busy.refs, refused_here busy.slot busy.refs is.1)

  before_all : (device : ℕ) → device < count + 1 → IsBefore device (option_or refused answer) → EmptiesSlot (old.slots device) (list_at new.noted device) key (all_made device)
  before_all = go refused answer so_far.before so_far.first one.answer
    where
      go : (r a : Option Busy) → ((device : ℕ) → device < count → IsBefore device r → EmptiesSlot (old.slots device) (list_at mid.noted device) key (so_far.made device)) → IfSome r (λ busy. (busy.device < count) × IsRefusedBy key busy.slot busy.refs (so_far.made busy.device))
          → MatchOption a (EmptiesSlot (mid.slots count) (list_at new.noted count) key one.made) (λ busy. (busy.device ≡ count) × IsRefusedBy key busy.slot busy.refs one.made)
          → (device : ℕ) → device < count + 1 → IsBefore device (option_or r a) → EmptiesSlot (old.slots device) (list_at new.noted device) key (all_made device)
      go None None before first is device below earlier =
          at_end (λ d. EmptiesSlot (old.slots d) (list_at new.noted d) key (all_made d)) (λ d under. empties_still d under (before d under tt)) (empties_here is) device below
      go None (Some busy) before first is device below earlier =
          let under : device < count = omega (arith, earlier, is.0) in
          empties_still device under (before device under tt)
      go (Some busy) a before first is device below earlier =
          let under : device < count = omega (arith, earlier, first.0) in
          empties_still device under (before device under earlier)

  first_all : IfSome (option_or refused answer) (λ busy. (busy.device < count + 1) × IsRefusedBy key busy.slot busy.refs (all_made busy.device))
  first_all = go refused answer so_far.first one.answer
    where
      go : (r a : Option Busy) → IfSome r (λ busy. (busy.device < count) × IsRefusedBy key busy.slot busy.refs (so_far.made busy.device)) → MatchOption a (EmptiesSlot (mid.slots count) (list_at new.noted count) key one.made) (λ busy. (busy.device ≡ count) × IsRefusedBy key busy.slot busy.refs one.made)
          → IfSome (option_or r a) (λ busy. (busy.device < count + 1) × IsRefusedBy key busy.slot busy.refs (all_made busy.device))
      go None None first is = tt
      go None (Some busy) first is = (omega (arith, is.0), subst (λ d. IsRefusedBy key busy.slot busy.refs (all_made d)) (sym is.0) (refused_here busy.slot busy.refs is.1))
      go (Some busy) a first is = (omega (arith, first.0), refused_still busy.device busy.slot busy.refs first.0 first.1)

  others_all : (device : ℕ) → count + 1 ≤ device → all_made device ≡ []
  others_all device from =
      let differ : device ≢ count = (λ same. absurd (omega (arith, from, same))) in
      sym (made_elsewhere device differ) ∙ so_far.others device (omega (arith, from))

  -- the next device was asked
  pub asks_next : AsksFirst (count + 1) old new key (option_or refused answer)
  asks_next = record { made = all_made; adds = adds_all; each = each_all; before = before_all; first = first_all; others = others_all }

-- ---- what is left of the events

-- an eviction of a key that goes inline asks one event of each device
pub asks_one : {S : Type 0} (disk : DiskData S) (key : KeyNo) → goes_inline disk.targets (keys_in disk) key ≡ true → asks disk key ≡ 1
asks_one disk key inline = ap (λ (b : Bool). cond b 1 0) inline

-- a device's answer, as the first refusal would be
pub asked_by : {T : Type 0} (old new : DeviceFacts) (device key : ℕ) (r : Result T Busy) → MatchResult r (λ x. AsksOne old new device key None) (λ busy. AsksOne old new device key (Some busy)) → AsksOne old new device key (result_err r)
asked_by old new device key (Ok x) asks_it = asks_it
asked_by old new device key (Err busy) asks_it = asks_it

module _ {S : Type 0} (disk : DiskData S) where
  pub room_none : (pass : PassData S) → HasAskedFor disk pass pass 0
  room_none pass = record { left = λ device from. omega arith; spent = λ device. omega arith }

  pub room_next : (old mid new : PassData S) (count : ℕ) → HasAskedFor disk old mid count → ((other : ℕ) → events_left disk mid other ≤ events_left disk new other + cond (other == count) 1 0) → HasAskedFor disk old new (count + 1)
  room_next old mid new count has fewer = record {
    left = λ device from.
        let before = has.left device (omega (arith, from)) in
        let now = elsewhere device (λ same. absurd (omega (arith, from, same))) in
        omega (arith, before, now);
    spent = λ device. ⊎_elim (here device) (not_here device) (cases_eq device count);
  }
    where
      elsewhere : (device : ℕ) → device ≢ count → events_left disk mid device ≤ events_left disk new device + 0
      elsewhere device differ = subst (λ (b : Bool). events_left disk mid device ≤ events_left disk new device + cond b 1 0) (ne_eqb device count differ) (fewer device)

      here : (device : ℕ) → device ≡ count → events_left disk old device ≤ events_left disk new device + 1
      here device same =
          let before = has.left device (omega (arith, same)) in
          let now : events_left disk mid device ≤ events_left disk new device + 1 = subst (λ (b : Bool). events_left disk mid device ≤ events_left disk new device + cond b 1 0) (eq-eqb device count same) (fewer device) in
          omega (arith, before, now)

      not_here : (device : ℕ) → device ≢ count → events_left disk old device ≤ events_left disk new device + 1
      not_here device differ =
          let before = has.spent device in
          let now = elsewhere device differ in
          omega (arith, before, now)
