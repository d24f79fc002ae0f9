-- What uses of devices leave of the room of their journals.
use Rattle.std.proofs.Common.{ℕ, zero, suc, ◌-◌, ◌+◌, ◌*◌, ◌≤◌, Bool, true, false, cond, List, [], ◌∷◌, ◌++◌, length, set, ap, arith, Option, Some, None, length-append, append-nil}
use Rattle.std.specs.Prelude.{map, is_some}
use Rattle.std.specs.List.{enumerate_from}
use Rattle.std.specs.Option.{option_map_or}
use Rattle.bc_base.specs.Lists.{list_at}
use Rattle.bc_profile.specs.declared.event.Event.{Event}
use Rattle.bc_profile.specs.declared.event.Event.TheVariants as events
use Rattle.bc_profile.specs.declared.uses.Use.{Use}
use Rattle.bc_profile.specs.declared.uses.Use.TheVariants as uses
use Rattle.bc_profile.specs.OneCaller.{events_of_use, first_idle, slot_for, slot_with}
use Rattle.bc_profile.specs.SlotJournal.{Slots, slots_after}
use Rattle.bc_script.specs.Script.{Script}
use Rattle.bc_compose.specs.OrderedHolds.{slot_count_of}
use Rattle.bc_serial.specs.Keyslots.{max_events, used_at, used_each}
use Rattle.bc_serial.specs.Standing.{HaveRoom}
use Rattle.bc_section.specs.Uses.{after_uses}
use Rattle.bc_base.proofs.Members.{all_of}

-- a use records two events at most
few : (slots : Slots) (u : Use) → length (events_of_use slots u) ≤ 2
few slots (uses.Hold key) =
    (elim (is_some (slot_with slots key.0)) as (λ (b : Bool). length (cond b [] (events.Program (first_idle slots) key.0 [] ∷ []) ++ events.Idle (slot_for slots key.0) ∷ []) ≤ 2) [
      | true ↦ omega arith
      | false ↦ omega arith
    ])
few slots (uses.Evict key) =
    (elim (slot_with slots key.0) as (λ (o : Option ℕ). length (option_map_or (λ slot. events.Evict slot key.0 ∷ []) o []) ≤ 2) [
      | None ↦ omega arith
      | Some slot ↦ omega arith
    ])
few slots uses.Reset = omega arith

more : (script : Script) (device : ℕ) (journal : List Event) (u : Use) → length (after_uses script device journal (record { use' = u; units = [] } ∷ [])) ≤ length journal + 2
more script device journal u =
    let slots = slots_after (slot_count_of script device) journal in
    let at = few slots u in
    omega (arith, length-append journal (events_of_use slots u ++ []), ap length (append-nil (events_of_use slots u)))

pub have_less : (left : ℕ) (journals : List (List Event)) → HaveRoom left journals → HaveRoom (left - 1) journals
have_less left journals room =
    all_of (λ (j : List Event). length j + 2 * left ≤ max_events) (λ (j : List Event). length j + 2 * (left - 1) ≤ max_events) journals (λ j is. omega arith) room

set_room : (left : ℕ) (journals : List (List Event)) (device : ℕ) (journal : List Event) → 1 ≤ left → length journal ≤ length (list_at journals device) + 2
    → HaveRoom left journals → HaveRoom (left - 1) (set journals device journal)
set_room left [] device journal some most room = tt
set_room left (j ∷ js) zero journal some most room = let at = room.0 in (omega arith, have_less left js room.1)
set_room left (j ∷ js) (suc device) journal some most room = let at = room.0 in (omega arith, set_room left js device journal some most room.1)

pub room_at : (script : Script) (left : ℕ) (journals : List (List Event)) (device : ℕ) (u : Use) → 1 ≤ left → HaveRoom left journals → HaveRoom (left - 1) (used_at script device u journals)
room_at script left journals device u some room = set_room left journals device _ some (more script device (list_at journals device) u) room

each_room : (script : Script) (left first : ℕ) (journals : List (List Event)) (u : Use) → 1 ≤ left → HaveRoom left journals
    → HaveRoom (left - 1) (map (λ (at : ℕ × List Event). after_uses script at.0 at.1 (record { use' = u; units = [] } ∷ [])) (enumerate_from first journals))
each_room script left first [] u some room = tt
each_room script left first (j ∷ js) u some room =
    let at = room.0 in
    let most = more script first j u in (omega arith, each_room script left (first + 1) js u some room.1)

pub room_each : (script : Script) (left : ℕ) (journals : List (List Event)) (u : Use) → 1 ≤ left → HaveRoom left journals → HaveRoom (left - 1) (used_each script u journals)
room_each script left journals u some room = each_room script left 0 journals u some room
