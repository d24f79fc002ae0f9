-- Two threads on one device: an eviction that was refused, and a slot that was passed over, with who may have held them.
use Rattle.std.proofs.Common.{◌≡◌, ◌≢◌, ℕ, zero, suc, ◌+◌, ◌<◌, ◌≤◌, Bool, true, false, cond, List, [], ◌∷◌, replicate, Option, Some, refl, arith}
use Rattle.std.specs.Prelude.{◌==◌, ◌&&◌, ◌||◌, IfSome, IsTrue, All, AllPairs, count_by, slice_index_or}
use Rattle.std.specs.List.{AllByRecursion, enumerate_from}
use Rattle.std.proofs.Math.Dec.{eqb-zero-suc}
use Rattle.std.proofs.lemmas.List.Elements.{All-from_recursion}
use Rattle.bc_key.specs.declared.config.DataUnit.TheVariants.{Bytes4096}
use Rattle.bc_stack.specs.declared.target.Target.{Target}
use Rattle.bc_medium.specs.declared.via.Via.TheVariants as vias
use Rattle.bc_medium.specs.LawfulOrders.{LawfulOrders}
use Rattle.bc_medium.specs.Outcome.{Run}
use Rattle.bc_profile.specs.declared.event.Event.{Event}
use Rattle.bc_profile.specs.declared.event.Event.TheVariants.{Program, Idle, Busy}
use Rattle.bc_profile.specs.declared.skips.Skip.{Skip}
use Rattle.bc_profile.specs.SlotJournal.{Slots, IsHeld, MayProgram, key_of, IsLawful, AllIdle, after_events, opening}
use Rattle.bc_script.specs.declared.op.Op.TheVariants as ops
use Rattle.bc_script.specs.declared.op.Text.TheVariants.{Fill}
use Rattle.bc_script.specs.Script.{Script}
use Rattle.bc_report.specs.declared.answer.Answer.TheVariants as answers
use Rattle.bc_report.specs.Report.{Report}
use Rattle.bc_script.specs.Plan.{plan_of}
use Rattle.bc_report.specs.declared.line.Line.{Line}
use Rattle.bc_report.specs.RunOf.{name_in, orders_of, run_of}
use Rattle.bc_report.specs.Ways.{HasWay, HaveWays}
use Rattle.bc_report.specs.Programmings.{NamesProgramming, InlineEntry, entries_in_order, InOrder, ProgrammingsHold}
use Rattle.bc_report.specs.Counts.{count_operations, is_reset_of, touches_under, touches_any, is_reset, is_programming_of, is_idle, CountsHold}
use Rattle.bc_report.specs.Evictions.{Eviction, evictions_of, is_evict, is_busy, is_busy_with, names_busy, names_device, names_before, count_answered, count_events, IsEvictionAnswer, EvictionsHold, BusyAnswersHold}
use Rattle.bc_report.proofs.Finite.{all_by_each, lawful_by_cases}
use Rattle.bc_report.specs.Holders.{HasHolders, HaveHolders, may_refuse, may_skip}
use Rattle.bc_report.proofs.Journals.{key_from, three_keys, under, device, write, evict, program}

-- ---- an eviction that was refused: thread 0 writes and reads, thread 1 evicts

abbrev wide : Target
wide = device 0 2 2 8

abbrev contended : Script
contended = record {
  blocks = 2;
  fallback = false;
  targets = wide ∷ [];
  keys = key_from (97 ∷ []) Bytes4096 0 ∷ [];
  faults = [];
  threads = (ops.Write (under 0 0) 0 1 (Fill 17) ∷ ops.Read (under 0 0) 0 1 ∷ []) ∷ (evict 0 ∷ []) ∷ [];
}

abbrev refused : List Event
refused = program 0 0 ∷ Busy 0 0 1 ∷ Idle 0 ∷ Idle 0 ∷ []

abbrev report : Report
report = record {
  threads = (answers.Wrote ∷ answers.ReadFill 17 ∷ []) ∷ (answers.Busy 0 0 1 ∷ []) ∷ [];
  shards = [];
  devices = refused ∷ [];
}

its_eviction : evictions_of contended report ≡ record { thread = 1; op = 0; key = 0; answer = answers.Busy 0 0 1 } ∷ []
its_eviction = refl

its_answer : count_answered (evictions_of contended report) 0 (names_busy 0 0 1) ≡ 1
its_answer = refl

may_be_busy : IsEvictionAnswer contended 0 (answers.Busy 0 0 1)
may_be_busy = (refl, omega arith)

-- thread 0 may have held the slot, and nobody a second time
holders : HaveHolders contended (refused ∷ [])
holders = (((λ k d within. absurd (omega arith)), (refl, (tt, (tt, tt)))), tt)

no_second_holder : may_refuse contended 0 0 2 ≡ false
no_second_holder = refl

-- the journal is lawful, and the slots are idle at its end
nowhere : (slots : Slots) (key : ℕ) → AllByRecursion (λ (other : Option ℕ). other ≢ Some key) slots.keys → All (λ (other : Option ℕ). other ≢ Some key) slots.keys
nowhere slots key all = All-from_recursion (λ (other : Option ℕ). other ≢ Some key) slots.keys all

refused_is_lawful : IsLawful 2 refused × AllIdle 2 refused
refused_is_lawful = (
  (
    record {
      is_slot = omega arith;
      key_in_no_slot = nowhere (opening 2) 0 ((λ e. absurd cc), ((λ e. absurd cc), tt));
      skips_those_before = refl;
      found_held = λ k d within. absurd (omega arith);
    },
    ((refl, omega arith), (omega arith, (omega arith, tt))),
  ),
  refl,
)

-- ---- the other points of that run, but for the bytes that it reads

abbrev line : ℕ → Line
line op = record { thread = 0; op = op; unit = 0; via = vias.Inline 0 0 0 }

abbrev listed : Report
listed = record { threads = report.threads; shards = (line 0 ∷ line 1 ∷ []) ∷ []; devices = refused ∷ [] }

abbrev zeros : List ℕ
zeros = replicate 8192 0

abbrev run : Run
run = run_of contended zeros listed

abbrev evictions : List Eviction
evictions = evictions_of contended listed

orders : LawfulOrders 1 (plan_of contended) contended.faults (orders_of listed)
orders = lawful_by_cases 1 _ _ _ refl refl ((refl, (refl, tt)), tt)

ways : HaveWays contended run listed.shards
ways = all_by_each (HasWay contended run) listed.shards ((refl, (refl, tt)), tt)

abbrev entries : List InlineEntry
entries = entries_in_order listed 0 (slice_index_or run.plan 0 [])

first_event : (k : ℕ) (d : InlineEntry) → k < 2 → (slice_index_or entries k d).event ≡ 0
first_event = All-from_recursion (λ e. e.event ≡ 0) entries (refl, (refl, tt))

in_order : AllPairs (InOrder evictions 0) entries
in_order i j d before within = record {
  never_earlier = λ key device. omega (arith, first_event i d (omega arith), first_event j d within);
  later_after_eviction = λ key device evicted. absurd cc;
}

programmings : ProgrammingsHold run (plan_of contended) listed evictions
programmings = record {
  own_key = all_by_each (λ line. NamesProgramming run listed.devices (name_in line) line.via) listed.shards (((refl, refl), ((refl, refl), tt)), tt);
  in_order = All-from_recursion (λ at. AllPairs (InOrder evictions at.0) (entries_in_order listed at.0 at.1)) (enumerate_from 0 run.plan)
      (in_order, ((λ i j d before within. absurd (omega arith)), tt));
}

one_each : (b : Bool) → 0 + cond {A = ℕ} b 1 0 + 0 + 0 ≤ 0 + cond {A = ℕ} b 1 0
one_each true = omega arith
one_each false = omega arith

at_most_one : (device key : ℕ) → count_events listed.devices device (λ event. is_evict key event || is_busy key event) ≤ count_by (λ e. e.key == key) evictions
at_most_one zero key = one_each (0 == key)
at_most_one (suc device) key = omega arith

evictions_hold : EvictionsHold contended evictions listed.devices
evictions_hold = record {
  answers = All-from_recursion (λ e. IsEvictionAnswer contended e.key e.answer) evictions (may_be_busy, tt);
  events = at_most_one;
}

its_own : (b c d : Bool) → 0 + cond {A = ℕ} (b && (true && c && d)) 1 0 ≤ 0 + cond {A = ℕ} (b && c && d) 1 0 + 0 + 0
its_own true true true = omega arith
its_own true true false = omega arith
its_own true false d = omega arith
its_own false c d = omega arith

no_answer : (b : Bool) → 0 + cond {A = ℕ} (b && false) 1 0 ≤ 0
no_answer true = omega arith
no_answer false = omega arith

each_has_its_event : (device key slot refs : ℕ) → count_answered evictions key (names_busy device slot refs) ≤ count_events listed.devices device (is_busy_with key slot refs)
each_has_its_event zero key slot refs = its_own (0 == key) (0 == slot) (1 == refs)
each_has_its_event (suc device) key slot refs = simp eqb-zero-suc (no_answer (0 == key))

none_further : (b : Bool) → 0 + cond {A = ℕ} b 1 0 + 0 + 0 ≤ 0 + cond {A = ℕ} (b && true) 1 0 + (0 + cond {A = ℕ} (b && false) 1 0)
none_further true = omega arith
none_further false = omega arith

further : (device key : ℕ) → count_events listed.devices device (is_busy key) ≤ count_answered evictions key (names_device device) + count_answered evictions key (names_before device)
further zero key = none_further (0 == key)
further (suc device) key = omega arith

busy_answers_hold : BusyAnswersHold evictions listed.devices
busy_answers_hold = record { each_has_its_event = each_has_its_event; further = further }

resets : (device : ℕ) → count_events listed.devices device is_reset ≡ count_operations contended (is_reset_of device)
resets zero = refl
resets (suc device) = refl

programmed : (device key : ℕ) → count_events listed.devices device (is_programming_of key) ≤ count_operations contended (touches_under contended device key)
programmed zero zero = omega arith
programmed zero (suc key) = simp eqb-zero-suc (omega arith)
programmed (suc device) key = omega arith

idles : (device : ℕ) → count_events listed.devices device is_idle ≤ count_operations contended (touches_any contended device)
idles zero = omega arith
idles (suc device) = omega arith

counts_hold : CountsHold contended listed.devices
counts_hold = record { resets = resets; programmings = programmed; idles = idles }

-- a thread alone has no holder beside it: its own bios don't count
abbrev alone : Script
alone = record {
  blocks = 2;
  fallback = false;
  targets = wide ∷ [];
  keys = key_from (97 ∷ []) Bytes4096 0 ∷ [];
  faults = [];
  threads = (ops.Write (under 0 0) 0 1 (Fill 17) ∷ evict 0 ∷ []) ∷ [];
}

none_beside_it : may_refuse alone 0 0 1 ≡ false
none_beside_it = refl

-- ---- a slot that was passed over: key 2 took slot 1, since slot 0 was found with one reference

abbrev before : List Event
before = program 0 0 ∷ Idle 0 ∷ program 1 1 ∷ Idle 1 ∷ []

abbrev skip : Skip
skip = record { slot = 0; refs = 1 }

skipped : MayProgram (after_events (opening 2) before) 1 2 (skip ∷ [])
skipped = record {
  is_slot = omega arith;
  key_in_no_slot = nowhere (after_events (opening 2) before) 2 ((λ e. absurd cc), ((λ e. absurd cc), tt));
  skips_those_before = refl;
  found_held = All-from_recursion (IsHeld (after_events (opening 2) before)) (skip ∷ []) (record { referenced = omega arith; keyed = refl }, tt);
}

-- thread 0 has bios under key 0, and thread 1 under keys 1 and 2
abbrev three : Script
three = record {
  blocks = 1;
  fallback = false;
  targets = device 0 1 2 1 ∷ [];
  keys = three_keys;
  faults = [];
  threads = (write 0 0 1 0 ∷ write 0 0 1 0 ∷ []) ∷ (write 1 0 1 0 ∷ write 2 0 1 0 ∷ []) ∷ [];
}

-- thread 0 may have held slot 0, and nobody a second time; nobody but thread 1 itself has a bio under key 1
skip_has_holders : HasHolders three 0 (after_events (opening 2) before) (Program 1 2 (skip ∷ []))
skip_has_holders =
    All-from_recursion (λ (s : Skip). IfSome (key_of (after_events (opening 2) before) s.slot) (λ key. IsTrue (may_skip three 0 2 key s.refs)))
    (skip ∷ []) (refl, tt)

no_second_beside_it : may_skip three 0 2 0 2 ≡ false
no_second_beside_it = refl

not_by_itself : may_skip three 0 2 1 1 ≡ false
not_by_itself = refl

-- nobody evicts key 0 there, so no eviction of it can have been refused
no_eviction : may_refuse three 0 0 1 ≡ false
no_eviction = refl
