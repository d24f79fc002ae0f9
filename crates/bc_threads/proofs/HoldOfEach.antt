-- Each inline entry of a window has its hold, whose event programs the slot with the entry's key.
use Rattle.std.proofs.Common.{◌≡◌, ◌∙◌, ℕ, ◌<◌, Bool, true, false, cond, List, length, refl, sym, ap, subst, arith, Option, Some, None}
use Rattle.std.specs.Prelude.{filter_map, nat_lt, option_map, slice_get, IsSomeAnd}
use Rattle.std.specs.List.{position_or_len}
use Rattle.std.proofs.lemmas.Bool.{true≢false, ltb-true}
use Rattle.std.proofs.lemmas.Option.{none-some, same_Some}
use Rattle.bc_base.specs.Lists.{Each, list_at}
use Rattle.bc_base.specs.Story.{StartsWith}
use Rattle.bc_bio.specs.declared.context.Context.{Context}
use Rattle.bc_medium.specs.declared.entry.Entry.{Entry}
use Rattle.bc_medium.specs.declared.via.Via.{Via}
use Rattle.bc_medium.specs.declared.via.Via.TheVariants as vias
use Rattle.bc_profile.specs.declared.event.Event.{Event}
use Rattle.bc_profile.specs.Laws.{HoldsNameProgrammings, ProgrammingsStay}
use Rattle.bc_profile.specs.Story.{Holds, events_of}
use Rattle.bc_profile.specs.Story as story
use Rattle.bc_stack.specs.declared.target.Target.{Target}
use Rattle.bc_stack.specs.Devices.{device_at, has_sector}
use Rattle.bc_script.specs.Script.{Script}
use Rattle.bc_script.specs.Bios.{is_inline}
use Rattle.bc_report.specs.Programmings.{InlineEntry, IsProgramming}
use Rattle.bc_compose.specs.SectionDone.{NamesOwn, inline_of, key_of_entry}
use Rattle.bc_compose.specs.OrderedHolds.{HasHold, Held}
use Rattle.bc_section.proofs.Lists.{in_of_filter_map}
use Rattle.bc_pieces.specs.Pieces.{DeviceFacts}
use Rattle.bc_pieces.specs.PieceEffects.{HasHoldBetween, Rise}
use Rattle.bc_disk.specs.Disks.{goes_inline}
use Rattle.bc_disk.specs.Submissions.{GoesItsWay, HasItsHold, IsInline, IsUnderWay, IsWayOf}
use Rattle.bc_threads.proofs.Rising.{inline_parts, rises_are}
use Rattle.bc_threads.proofs.Showing.{IsWayFor, inline_of_script}
use Rattle.bc_base.proofs.Members.{all_at, all_from_in, all_of}

-- the parts of an inline way
abbrev device_in : Via → ℕ
device_in (vias.Inline device slot event) = device
device_in via = 0

abbrev event_in : Via → ℕ
event_in (vias.Inline device slot event) = event
event_in via = 0

abbrev goes_in : Via → Bool
goes_in (vias.Inline device slot event) = true
goes_in via = false

-- the device that has a sector is one of the disk
within : (targets : List Target) (sector device : ℕ) → device_at targets sector ≡ Some device → device < length targets
within targets sector device is = go (nat_lt (position_or_len (has_sector sector) targets) (length targets)) refl is
  where
    go : (b : Bool) → nat_lt (position_or_len (has_sector sector) targets) (length targets) ≡ b → cond {A = Option ℕ} b (Some (position_or_len (has_sector sector) targets)) None ≡ Some device → device < length targets
    go true below same = let lt = ltb-true (position_or_len (has_sector sector) targets) (length targets) below in let e = same_Some (position_or_len (has_sector sector) targets) device same in omega (arith, lt, e)
    go false below same = absurd (none-some device same)

-- an inline way is that of a key that goes inline
is_under : (b : Bool) (targets : List Target) (sector device slot event : ℕ) → IsUnderWay b targets sector (vias.Inline device slot event) → (b ≡ true) × (device_at targets sector ≡ Some device)
is_under true targets sector device slot event is = (refl, is)
is_under false targets sector device slot event is = absurd (true≢false (ap goes_in is))

module _ (script : Script) (thread : ℕ) (old new : DeviceFacts) (way : IsWayFor script thread old) (names : HoldsNameProgrammings) (stays : ProgrammingsStay) where
  abbrev HasIt : Entry → Type 0
  HasIt e = HasItsHold old.slots old.noted new.noted e

  abbrev GoesBy : Entry → Type 0
  GoesBy e = GoesItsWay old.targets old.access.keys e

  own : (e : Entry) (h : HasHoldBetween old.slots old.noted new.noted e) → NamesOwn new.noted (key_of_entry e) (vias.Inline h.device h.slot h.epoch)
  own e h = by_context e.at.context h.under
    where
      programs : story.Programs (list_at new.noted h.device) h.epoch h.slot h.key
      programs = (stays h.front (list_at new.noted h.device) h.epoch h.slot h.key h.seen (names (old.slots h.device) h.front h.key h.slot h.epoch h.holds)).0

      by_context : (o : Option Context) → IsSomeAnd o (λ c. c.key.0 ≡ h.key) → NamesOwn new.noted (option_map (λ context. context.key.0) o) (vias.Inline h.device h.slot h.epoch)
      by_context None under = absurd under
      by_context (Some c) under =
          subst (λ (k : ℕ). IsSomeAnd (slice_get (events_of (list_at new.noted h.device)) h.epoch) (IsProgramming h.slot k)) (sym under)
          (subst (λ (o : Option Event). IsSomeAnd o (IsProgramming h.slot h.key)) (sym programs.1) (refl, refl))

  own_key : (e : Entry) → HasIt e → NamesOwn new.noted (key_of_entry e) e.via
  own_key e has = by_via e.via refl
    where
      by_via : (via : Via) → e.via ≡ via → NamesOwn new.noted (key_of_entry e) via
      by_via (vias.Inline device slot event) is =
          let h = has (subst IsInline (sym is) tt) in subst (NamesOwn new.noted (key_of_entry e)) (sym h.way ∙ is) (own e h)
      by_via vias.Soft is = tt
      by_via vias.Plain is = tt

  has_hold : (e : Entry) (i : InlineEntry) → inline_of e ≡ Some i → GoesBy e → HasIt e → HasHold script old.noted new.noted i
  has_hold e i is goes has =
      let p = inline_parts e.at.tag e.at.context e.via i is in
      let h = has (subst IsInline (sym p.3) tt) in
      let same : vias.Inline h.device h.slot h.epoch ≡ vias.Inline i.device p.1 i.event = sym h.way ∙ p.3 in
      let device_is : h.device ≡ i.device = ap device_in same in
      let event_is : h.epoch ≡ i.event = ap event_in same in
      let under : p.0.key.0 ≡ h.key = subst (λ (o : Option Context). IsSomeAnd o (λ c. c.key.0 ≡ h.key)) p.2 h.under in
      let key_is : h.key ≡ i.key = sym under ∙ p.4 in
      let goes' : IsUnderWay (goes_inline old.targets old.access.keys p.0.key) old.targets e.at.sector (vias.Inline i.device p.1 i.event) =
      subst (IsUnderWay (goes_inline old.targets old.access.keys p.0.key) old.targets e.at.sector) p.3 (subst (λ (o : Option Context). IsWayOf old.targets old.access.keys o e.at.sector e.via) p.2 goes) in
      let u = is_under (goes_inline old.targets old.access.keys p.0.key) old.targets e.at.sector i.device p.1 i.event goes' in
      let inline' : is_inline script p.0.key ≡ true = sym (inline_of_script old.targets old.access.keys script p.0.key way.targets way.keys) ∙ u.0 in
      let lt : i.device < length script.targets = subst (λ (ts : List Target). i.device < length ts) way.targets (within old.targets e.at.sector i.device u.1) in
      record {
        is_inline = subst (λ (n : ℕ). is_inline script (record { 0 = n }) ≡ true) p.4 inline';
        front = h.front;
        slot = h.slot;
        begins = subst (λ (d : ℕ). StartsWith h.front (list_at old.noted d)) device_is h.begins;
        seen = subst (λ (d : ℕ). StartsWith (list_at new.noted d) h.front) device_is h.seen;
        holds = subst (λ (n : ℕ). Holds n h.front i.key h.slot i.event) (ap old.slots device_is ∙ way.slots i.device lt)
            (subst (λ (k : ℕ). Holds (old.slots h.device) h.front k h.slot i.event) key_is
            (subst (λ (x : ℕ). Holds (old.slots h.device) h.front h.key h.slot x) event_is h.holds));
      }

  pub held_are : (made : List Entry) → Each (GoesItsWay old.targets old.access.keys) made → Each (HasItsHold old.slots old.noted new.noted) made → Rise made → Held script old.noted new.noted made
  held_are made goes has rise = record {
    own_key = all_of HasIt (λ e. NamesOwn new.noted (key_of_entry e) e.via) made own_key has;
    holds = all_from_in (HasHold script old.noted new.noted) (filter_map inline_of made) (λ i at'.
        let r = in_of_filter_map inline_of made i at' in has_hold r.0 i r.2 (all_at GoesBy made r.0 goes r.1) (all_at HasIt made r.0 has r.1));
    rises = rises_are made rise;
  }
