-- Journals written out by hand, and computed from the definitions.
use Rattle.std.proofs.Common.{◌≡◌, ℕ, List, [], ◌∷◌, Option, Some, None, refl, arith}
use Rattle.std.specs.Prelude.{◌≢◌, All}
use Rattle.std.specs.List.{AllByRecursion}
use Rattle.std.proofs.lemmas.List.Elements.{All-from_recursion}
use Rattle.bc_profile.specs.declared.event.Event.{Event}
use Rattle.bc_profile.specs.declared.event.Event.TheVariants.{Program, Idle, Evict, Busy, Reset}
use Rattle.bc_profile.specs.declared.uses.Use.{Use}
use Rattle.bc_profile.specs.declared.uses.Use.TheVariants as uses
use Rattle.bc_profile.specs.SlotJournal.{Slots, InNoSlot, IsHeld, MayProgram, opening, slots_after, IsLawful, AllIdle, idle_order}
use Rattle.bc_profile.specs.Programmings.{last_programming}
use Rattle.bc_profile.specs.OneCaller.{journal_of}

abbrev hold : ℕ → Use
hold key = uses.Hold (record { 0 = key })

abbrev evict : ℕ → Use
evict key = uses.Evict (record { 0 = key })

abbrev program : ℕ → ℕ → Event
program slot key = Program slot key []

-- two slots and three keys
abbrev reprogrammed : List Event
reprogrammed = program 0 0 ∷ Idle 0 ∷ program 1 1 ∷ Idle 1 ∷ program 0 2 ∷ Idle 0 ∷ program 1 0 ∷ Idle 1 ∷ []

reprogramming : journal_of (opening 2) (hold 0 ∷ hold 1 ∷ hold 2 ∷ hold 0 ∷ []) ≡ reprogrammed
reprogramming = refl

-- the events that the four holds name
first_hold : last_programming 0 (program 0 0 ∷ Idle 0 ∷ []) ≡ Some (0, 0)
first_hold = refl

second_hold : last_programming 1 reprogrammed ≡ Some (1, 2)
second_hold = refl

third_hold : last_programming 2 reprogrammed ≡ Some (0, 4)
third_hold = refl

fourth_hold : last_programming 0 reprogrammed ≡ Some (1, 6)
fourth_hold = refl

-- the least recently idle slot is taken
least_recently_idle : journal_of (opening 2) (hold 0 ∷ hold 1 ∷ hold 0 ∷ hold 2 ∷ [])
    ≡ program 0 0 ∷ Idle 0 ∷ program 1 1 ∷ Idle 1 ∷ Idle 0 ∷ program 1 2 ∷ Idle 1 ∷ []
least_recently_idle = refl

-- an eviction of a key that no slot has records nothing
evictions : journal_of (opening 1) (hold 0 ∷ evict 0 ∷ evict 1 ∷ []) ≡ program 0 0 ∷ Idle 0 ∷ Evict 0 0 ∷ []
evictions = refl

-- a reset leaves each slot its key
reset : journal_of (opening 1) (hold 0 ∷ uses.Reset ∷ hold 0 ∷ []) ≡ program 0 0 ∷ Idle 0 ∷ Reset ∷ Idle 0 ∷ []
reset = refl

reset_names : last_programming 0 (program 0 0 ∷ Idle 0 ∷ Reset ∷ Idle 0 ∷ []) ≡ Some (0, 0)
reset_names = refl

-- a slot may be programmed where its key is in none of the slots
nowhere : (slots : Slots) (key : ℕ) → AllByRecursion (λ (other : Option ℕ). other ≢ Some key) slots.keys → InNoSlot slots key
nowhere slots key each = All-from_recursion (λ (other : Option ℕ). other ≢ Some key) slots.keys each

no_skips : (slots : Slots) → All (IsHeld slots) []
no_skips slots k d less = absurd (omega arith)

-- two callers: slot 0 is held while key 2 is programmed, so slot 1 is taken
abbrev two_callers : List Event
two_callers =
    program 0 0 ∷ Idle 0 ∷ program 1 1 ∷ Idle 1 ∷ Program 1 2 (record { slot = 0; refs = 1 } ∷ []) ∷ Idle 0 ∷ Idle 1 ∷ []

first : MayProgram (opening 2) 0 0 []
first = record {
  is_slot = omega arith;
  key_in_no_slot = nowhere (opening 2) 0 ((λ e. absurd cc), ((λ e. absurd cc), tt));
  skips_those_before = refl;
  found_held = no_skips (opening 2);
}

abbrev after_two : Slots
after_two = slots_after 2 (program 0 0 ∷ Idle 0 ∷ [])

second : MayProgram after_two 1 1 []
second = record {
  is_slot = omega arith;
  key_in_no_slot = nowhere after_two 1 ((λ e. absurd cc), ((λ e. absurd cc), tt));
  skips_those_before = refl;
  found_held = no_skips after_two;
}

abbrev after_four : Slots
after_four = slots_after 2 (program 0 0 ∷ Idle 0 ∷ program 1 1 ∷ Idle 1 ∷ [])

skips_the_held_one : MayProgram after_four 1 2 (record { slot = 0; refs = 1 } ∷ [])
skips_the_held_one = record {
  is_slot = omega arith;
  key_in_no_slot = nowhere after_four 2 ((λ e. absurd cc), ((λ e. absurd cc), tt));
  skips_those_before = refl;
  found_held = All-from_recursion (IsHeld after_four) (record { slot = 0; refs = 1 } ∷ []) (record { referenced = omega arith; keyed = refl }, tt);
}

skipped_slot : IsLawful 2 two_callers
skipped_slot =
    (first, (omega arith, (second, (omega arith, (skips_the_held_one, (omega arith, (omega arith, tt)))))))

skipped_slot_idle : AllIdle 2 two_callers
skipped_slot_idle = refl

-- what is on the list while slot 1 is held, and the idle order
while_held : slots_after 2 (program 0 0 ∷ Idle 0 ∷ program 1 1 ∷ []) ≡ record { keys = Some 0 ∷ Some 1 ∷ []; list = 0 ∷ [] }
while_held = refl

order_while_held : idle_order (slots_after 3 (program 0 0 ∷ program 1 1 ∷ Idle 1 ∷ [])) ≡ 2 ∷ 1 ∷ 0 ∷ []
order_while_held = refl

-- an eviction that found a reference
busy_eviction : IsLawful 2 (program 0 0 ∷ Busy 0 0 1 ∷ Idle 0 ∷ Idle 0 ∷ [])
busy_eviction = (first, ((refl, omega arith), (omega arith, (omega arith, tt))))

eviction_after_idle : IsLawful 2 (program 0 0 ∷ Idle 0 ∷ Idle 0 ∷ Evict 0 0 ∷ [])
eviction_after_idle = (first, (omega arith, (omega arith, (refl, tt))))

-- the eviction leaves the slot no key, and its place on the list
evicted_slot : slots_after 2 (program 0 0 ∷ Idle 0 ∷ Idle 0 ∷ Evict 0 0 ∷ []) ≡ record { keys = None ∷ None ∷ []; list = 1 ∷ 0 ∷ [] }
evicted_slot = refl

-- no journal programs a key that a slot has, nor any slot but the first
programmed_twice : IsLawful 2 (program 0 0 ∷ program 1 0 ∷ []) → ⊥
programmed_twice lawful = lawful.1.0.key_in_no_slot 0 None (omega arith) refl

not_empty : (slots : List ℕ) → [] ≡ 0 ∷ slots → ⊥
not_empty slots e = absurd cc

wrong_slot : IsLawful 2 (program 1 0 ∷ []) → ⊥
wrong_slot lawful = not_empty [] lawful.0.skips_those_before
