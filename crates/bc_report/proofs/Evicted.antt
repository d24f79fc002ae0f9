-- Evictions on two devices: what a serial run makes of them, when they are after an entry, and which `busy` events go with
-- their answers.
use Rattle.std.proofs.Common.{◌≡◌, ℕ, zero, suc, ◌+◌, ◌≤◌, Bool, true, false, cond, List, [], ◌∷◌, map, Some, refl, arith}
use Rattle.std.specs.Prelude.{◌==◌, ◌&&◌}
use Rattle.std.specs.List.{enumerate_from}
use Rattle.std.proofs.Math.Dec.{eqb-zero-suc}
use Rattle.bc_medium.specs.declared.via.Via.TheVariants as vias
use Rattle.bc_profile.specs.declared.event.Event.{Event}
use Rattle.bc_profile.specs.declared.event.Event.TheVariants.{Idle, Evict, Busy}
use Rattle.bc_script.specs.Script.{Script}
use Rattle.bc_report.specs.declared.answer.Answer.{Answer}
use Rattle.bc_report.specs.declared.answer.Answer.TheVariants as answers
use Rattle.bc_report.specs.Report.{Report}
use Rattle.bc_report.specs.Evictions.{Eviction, evictions_of, is_busy, is_busy_with, names_busy, names_device, names_before, count_answered, count_events, IsEvictionAnswer, EvictionsHold, BusyAnswersHold}
use Rattle.bc_report.specs.Programmings.{InlineEntry, InOrder, is_evicted_between}
use Rattle.bc_report.specs.SerialRun.{serial_journal, NamesHoldUnder}
use Rattle.bc_report.proofs.Journals.{device, script_of, write, evict, program, name}

-- a write over both devices, an eviction of its key, and the write once more
abbrev again : Script
again = script_of 2 true (device 0 1 1 1 ∷ device 1 1 1 1 ∷ []) (write 0 6 4 0 ∷ evict 0 ∷ write 0 6 4 0 ∷ [])

-- the key is taken out of both devices, and programmed again in both
journals : map (serial_journal again) (enumerate_from 0 again.targets)
    ≡ (program 0 0 ∷ Idle 0 ∷ Evict 0 0 ∷ program 0 0 ∷ Idle 0 ∷ []) ∷ (program 0 0 ∷ Idle 0 ∷ Evict 0 0 ∷ program 0 0 ∷ Idle 0 ∷ []) ∷ []
journals = refl

-- a unit before the eviction names event 0, and one after it event 3
before_it : NamesHoldUnder again (Some 0) (name 0 3) (vias.Inline 1 0 0)
before_it = refl

after_it : NamesHoldUnder again (Some 0) (name 2 3) (vias.Inline 1 0 3)
after_it = refl

-- ---- entries after an eviction

-- the report of such a run whose eviction had this answer
abbrev reported : Answer → Report
reported answer = record { threads = (answers.Wrote ∷ answer ∷ answers.Wrote ∷ []) ∷ []; shards = []; devices = [] }

abbrev evicted_as : Answer → List Eviction
evicted_as answer = evictions_of again (reported answer)

its_eviction : evicted_as answers.Evicted ≡ record { thread = 0; op = 1; key = 0; answer = answers.Evicted } ∷ []
its_eviction = refl

-- it took the key from both devices
on_device_0 : is_evicted_between (evicted_as answers.Evicted) 0 0 0 0 2 ≡ true
on_device_0 = refl

on_device_1 : is_evicted_between (evicted_as answers.Evicted) 0 0 1 0 2 ≡ true
on_device_1 = refl

-- refused by device 1 it took the key from device 0 alone, and refused by device 0 from none
before_the_refusal : is_evicted_between (evicted_as (answers.Busy 1 0 1)) 0 0 0 0 2 ≡ true
before_the_refusal = refl

at_the_refusal : is_evicted_between (evicted_as (answers.Busy 1 0 1)) 0 0 1 0 2 ≡ false
at_the_refusal = refl

behind_the_refusal : is_evicted_between (evicted_as (answers.Busy 0 0 1)) 0 0 1 0 2 ≡ false
behind_the_refusal = refl

-- another thread's eviction isn't meant, nor one of another key, nor one that isn't between the operations
not_of_thread_1 : is_evicted_between (evicted_as answers.Evicted) 1 0 0 0 2 ≡ false
not_of_thread_1 = refl

not_of_key_1 : is_evicted_between (evicted_as answers.Evicted) 0 1 0 0 2 ≡ false
not_of_key_1 = refl

not_from_1 : is_evicted_between (evicted_as answers.Evicted) 0 0 0 1 2 ≡ false
not_from_1 = refl

not_up_to_1 : is_evicted_between (evicted_as answers.Evicted) 0 0 0 0 1 ≡ false
not_up_to_1 = refl

-- an entry of an operation, on device 1 under key 0
abbrev entry : ℕ → ℕ → InlineEntry
entry op event = record { op = op; key = 0; device = 1; event = event }

rises : InOrder (evicted_as answers.Evicted) 0 (entry 0 0) (entry 2 3)
rises = record { never_earlier = λ key device. omega arith; later_after_eviction = λ key device evicted. omega arith }

must_rise : InOrder (evicted_as answers.Evicted) 0 (entry 0 0) (entry 2 0) → ⊥
must_rise is = let later = is.later_after_eviction refl refl refl in omega (arith, later)

may_stay : InOrder (evicted_as (answers.Busy 1 0 1)) 0 (entry 0 0) (entry 2 0)
may_stay = record { never_earlier = λ key device. omega arith; later_after_eviction = λ key device evicted. absurd cc }

may_not_fall : InOrder [] 0 (entry 0 3) (entry 2 0) → ⊥
may_not_fall is = let order = is.never_earlier refl refl in omega (arith, order)

-- ---- answers and events

-- an inline key may be refused by a device that there is
may_be_refused : IsEvictionAnswer again 0 (answers.Busy 1 0 1)
may_be_refused = (refl, omega arith)

no_device_2 : IsEvictionAnswer again 0 (answers.Busy 2 0 1) → ⊥
no_device_2 is = omega (arith, is.1)

-- a key that isn't inline may not: device 0 has no data units of 512 bytes
abbrev by_software : Script
by_software = script_of 2 true (device 0 1 1 8 ∷ device 1 1 1 1 ∷ []) (write 0 6 4 0 ∷ evict 0 ∷ [])

not_refused : IsEvictionAnswer by_software 0 (answers.Busy 1 0 1) → ⊥
not_refused is = let inline = is.0 in absurd cc

not_answered_otherwise : IsEvictionAnswer again 0 answers.Wrote → ⊥
not_answered_otherwise is = is

-- no eviction of a key that isn't inline is recorded
by_software_journals : map (serial_journal by_software) (enumerate_from 0 by_software.targets) ≡ [] ∷ [] ∷ []
by_software_journals = refl

-- both devices refused, and the answer names the first: the event of device 1 is a further one
abbrev both : List (List Event)
both = (Busy 0 0 1 ∷ []) ∷ (Busy 0 0 1 ∷ []) ∷ []

its_event : count_events both 0 (is_busy_with 0 0 1) ≡ count_answered (evicted_as (answers.Busy 0 0 1)) 0 (names_busy 0 0 1)
its_event = refl

further : count_events both 1 (is_busy 0) ≡ count_answered (evicted_as (answers.Busy 0 0 1)) 0 (names_before 1)
further = refl

one_event : (b c d : Bool) → 0 + cond {A = ℕ} (b && (true && c && d)) 1 0 ≤ 0 + cond {A = ℕ} (b && c && d) 1 0
one_event true true true = omega arith
one_event true true false = omega arith
one_event true false d = omega arith
one_event false c d = omega arith

no_answer : (b : Bool) (n : ℕ) → 0 + cond {A = ℕ} (b && false) 1 0 ≤ n
no_answer true n = omega arith
no_answer false n = omega arith

each_has_one : (device key slot refs : ℕ) → count_answered (evicted_as (answers.Busy 0 0 1)) key (names_busy device slot refs) ≤ count_events both device (is_busy_with key slot refs)
each_has_one zero key slot refs = one_event (0 == key) (0 == slot) (1 == refs)
each_has_one (suc zero) key slot refs = no_answer (0 == key) (count_events both 1 (is_busy_with key slot refs))
each_has_one (suc (suc device)) key slot refs = simp eqb-zero-suc (no_answer (0 == key) 0)

at_device_0 : (b : Bool) → 0 + cond {A = ℕ} b 1 0 ≤ 0 + cond {A = ℕ} (b && true) 1 0 + (0 + cond {A = ℕ} (b && false) 1 0)
at_device_0 true = omega arith
at_device_0 false = omega arith

at_device_1 : (b : Bool) → 0 + cond {A = ℕ} b 1 0 ≤ 0 + cond {A = ℕ} (b && false) 1 0 + (0 + cond {A = ℕ} (b && true) 1 0)
at_device_1 true = omega arith
at_device_1 false = omega arith

each_further : (device key : ℕ) → count_events both device (is_busy key)
    ≤ count_answered (evicted_as (answers.Busy 0 0 1)) key (names_device device) + count_answered (evicted_as (answers.Busy 0 0 1)) key (names_before device)
each_further zero key = at_device_0 (0 == key)
each_further (suc zero) key = at_device_1 (0 == key)
each_further (suc (suc device)) key = omega arith

both_refused : BusyAnswersHold (evicted_as (answers.Busy 0 0 1)) both
both_refused = record { each_has_its_event = each_has_one; further = each_further }

-- the event of device 0 has no eviction where the answer names device 1
without_eviction : BusyAnswersHold (evicted_as (answers.Busy 1 0 1)) both → ⊥
without_eviction hold = let most = hold.further 0 0 in omega (arith, most)

-- an answer has no event where the slot, the references or the device differ
other_slot : BusyAnswersHold (evicted_as (answers.Busy 0 1 1)) both → ⊥
other_slot hold = let event = hold.each_has_its_event 0 0 1 1 in omega (arith, event)

other_references : BusyAnswersHold (evicted_as (answers.Busy 0 0 2)) both → ⊥
other_references hold = let event = hold.each_has_its_event 0 0 0 2 in omega (arith, event)

other_device : BusyAnswersHold (evicted_as (answers.Busy 1 0 1)) ((Busy 0 0 1 ∷ []) ∷ [] ∷ []) → ⊥
other_device hold = let event = hold.each_has_its_event 1 0 0 1 in omega (arith, event)

-- two answers can't have one event, and an eviction can't have two on one device
abbrev twice : List Eviction
twice = record { thread = 0; op = 1; key = 0; answer = answers.Busy 0 0 1 } ∷ record { thread = 1; op = 0; key = 0; answer = answers.Busy 0 0 1 } ∷ []

one_event_for_two : BusyAnswersHold twice both → ⊥
one_event_for_two hold = let event = hold.each_has_its_event 0 0 0 1 in omega (arith, event)

two_events_for_one : EvictionsHold again (evicted_as answers.Evicted) ((Evict 0 0 ∷ Evict 0 0 ∷ []) ∷ []) → ⊥
two_events_for_one hold = let most = hold.events 0 0 in omega (arith, most)

-- an `evict` beside a `busy` counts too
one_of_each : EvictionsHold again (evicted_as answers.Evicted) ((Busy 0 0 1 ∷ Evict 0 0 ∷ []) ∷ []) → ⊥
one_of_each hold = let most = hold.events 0 0 in omega (arith, most)
