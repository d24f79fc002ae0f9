-- Events of a caller on the devices, and how many there are of a kind.
use Rattle.std.proofs.Common.{◌≡◌, ℕ, ◌+◌, List, [], ◌∷◌, ◌++◌, refl, sym, ap, subst, ◌∙◌, arith, Some, None}
use Rattle.std.specs.Prelude.{All, slice_set}
use Rattle.bc_base.specs.Lists.{list_at}
use Rattle.bc_base.specs.Story.{own}
use Rattle.bc_profile.specs.declared.event.Event.{Event}
use Rattle.bc_profile.specs.declared.event.Event.TheVariants as events
use Rattle.bc_profile.specs.declared.noted.Noted.{Noted}
use Rattle.bc_profile.specs.SlotJournal.{Slots, InNoSlot, after_event, after_events, opening, slots_after}
use Rattle.bc_profile.specs.Story.{author_of, events_of, notes}
use Rattle.bc_compose.specs.OrderedHolds.{Notes}
use Rattle.bc_pieces.specs.Pieces.{NotesOn}
use Rattle.bc_section.proofs.Numbered.{events_of_append, events_of_notes}

-- the notes of each device are those of all
pub notes_of_each : (caller thread : ℕ) (old new : List (List Noted)) (made : ℕ → List Event) → caller ≡ thread
    → ((device : ℕ) → NotesOn caller (list_at old device) (list_at new device) (made device)) → Notes thread old new made
notes_of_each caller thread old new made is each = subst (λ (c : ℕ). Notes c old new made) is (record {
  fronts = λ device. (each device).front;
  adds = λ device.
      ap events_of (each device).adds
      ∙ events_of_append (own author_of caller (list_at old device)) (notes caller (made device))
      ∙ ap (λ l. events_of (own author_of caller (list_at old device)) ++ l) (events_of_notes caller (made device));
})

-- a device without slots has no key in any
pub in_no_slot : (journal : List Event) (key : ℕ) → InNoSlot (slots_after 0 journal) key
in_no_slot journal key = go (opening 0) refl journal
  where
    none : (slots : Slots) → slots.keys ≡ [] → InNoSlot slots key
    none slots is = subst (λ (l : List _). All (λ other. other ≡ Some key → ⊥) l) (sym is) (λ k d inside. absurd (omega (arith, inside)))

    step : (slots : Slots) (event : Event) → slots.keys ≡ [] → (after_event slots event).keys ≡ []
    step slots (events.Program slot k skipped) is = ap (λ (l : List _). slice_set l slot (Some k)) is
    step slots (events.Idle slot) is = is
    step slots (events.Evict slot k) is = ap (λ (l : List _). slice_set l slot None) is
    step slots (events.Busy slot k refs) is = is
    step slots events.Reset is = is

    go : (slots : Slots) → slots.keys ≡ [] → (journal : List Event) → InNoSlot (after_events slots journal) key
    go slots is [] = none slots is
    go slots is (event ∷ journal) = go (after_event slots event) (step slots event is) journal
