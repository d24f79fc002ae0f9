-- A bio that is cut at the border of two devices: the ways of its units, and the whole run, which is lawful and serial. Its
-- bytes aren't computed here: the image that is left is the definition's.
use Rattle.std.proofs.Common.{◌≡◌, ◌≢◌, ℕ, zero, suc, ◌<◌, ◌≤◌, true, false, Bool, List, [], ◌∷◌, map, replicate, Option, Some, None, refl, arith}
use Rattle.std.specs.Prelude.{AllPairs, ◌||◌, slice_index_or, count_by}
use Rattle.std.specs.List.{enumerate_from}
use Rattle.std.proofs.Math.Dec.{eqb-zero-suc}
use Rattle.std.proofs.lemmas.List.Elements.{All-from_recursion}
use Rattle.bc_bio.specs.declared.access.Access.TheVariants as access
use Rattle.bc_bio.specs.declared.extent.Extent.{Extent}
use Rattle.bc_bio.specs.declared.refusal.Refusal.TheVariants as refusals
use Rattle.bc_bio.specs.PlannedUnit.{PlannedUnit}
use Rattle.bc_medium.specs.declared.via.Via.TheVariants as vias
use Rattle.bc_medium.specs.Outcome.{Run, final_image}
use Rattle.bc_profile.specs.declared.event.Event.{Event}
use Rattle.bc_profile.specs.declared.event.Event.TheVariants.{Idle}
use Rattle.bc_profile.specs.SlotJournal.{MayProgram, opening, IsLawful, AllIdle}
use Rattle.bc_script.specs.Script.{Script}
use Rattle.bc_script.specs.Bios.{refusal_of}
use Rattle.bc_script.specs.Plan.{plan_of}
use Rattle.bc_script.specs.Way.{Way, soft, inline, way_of}
use Rattle.bc_report.specs.declared.answer.Answer.TheVariants as answers
use Rattle.bc_report.specs.declared.line.Line.{Line}
use Rattle.bc_report.specs.Report.{Report}
use Rattle.bc_report.specs.RunOf.{name_in, run_of}
use Rattle.bc_report.specs.Ways.{HasWay}
use Rattle.bc_report.specs.Evictions.{is_evict, is_busy}
use Rattle.bc_report.specs.Programmings.{InlineEntry, InOrder, NamesProgramming, entries_in_order}
use Rattle.bc_report.specs.Counts.{is_reset, is_reset_of, is_programming_of, is_idle, touches_under, touches_any, count_operations, CountsHold}
use Rattle.bc_report.specs.SerialRun.{serial_journal, NamesHold, IsSerial, IsSerialRun}
use Rattle.bc_report.specs.LawfulRun.{LawfulButHolders, HoldersAreKnown}
use Rattle.bc_report.proofs.Finite.{all_by_each, lawful_by_cases}
use Rattle.bc_report.proofs.Journals.{under, device, script_of, write, program, two, with_reset_of_1}

-- the way of a unit
abbrev way_in_plan : Script → PlannedUnit → Way
way_in_plan script u = way_of script u.context u.sector

-- units 0 and 1 lie on device 0, units 2 and 3 on device 1
ways : map (map (way_in_plan two)) (plan_of two) ≡ (inline 0 ∷ inline 0 ∷ inline 1 ∷ inline 1 ∷ []) ∷ []
ways = refl

-- unit 2 has number 2, and the others theirs
contexts : map (map (λ (u : PlannedUnit). u.context)) (plan_of two) ≡ (under 0 0 ∷ under 0 1 ∷ under 0 2 ∷ under 0 3 ∷ []) ∷ []
contexts = refl

-- ---- devices of which one doesn't support the key: masks 9 and 8

abbrev partly : Bool → Script
partly fallback = script_of 2 fallback (device 0 1 1 9 ∷ device 1 1 1 8 ∷ []) (write 0 6 4 0 ∷ [])

soft_ways : map (map (way_in_plan (partly true))) (plan_of (partly true)) ≡ (soft ∷ soft ∷ soft ∷ soft ∷ []) ∷ []
soft_ways = refl

empty_journals : map (serial_journal (partly true)) (enumerate_from 0 (partly true).targets) ≡ [] ∷ [] ∷ []
empty_journals = refl

abbrev bio : Extent
bio = record { access = access.Write; context = under 0 0; sector = 6; units = 4 }

supported : refusal_of (partly true) bio ≡ None
supported = refl

unsupported : refusal_of (partly false) bio ≡ Some refusals.Unsupported
unsupported = refl

unplanned : plan_of (partly false) ≡ [] ∷ []
unplanned = refl

-- ---- the whole run, on two shards

abbrev line : ℕ → ℕ → Line
line unit number = record { thread = 0; op = 0; unit = unit; via = vias.Inline number 0 0 }

abbrev journal : List Event
journal = program 0 0 ∷ Idle 0 ∷ []

abbrev report : Report
report = record {
  threads = (answers.Wrote ∷ []) ∷ [];
  shards = (line 0 0 ∷ line 1 0 ∷ []) ∷ (line 2 1 ∷ line 3 1 ∷ []) ∷ [];
  devices = journal ∷ journal ∷ [];
}

abbrev zeros : List ℕ
zeros = replicate 8192 0

abbrev run : Run
run = run_of two zeros report

abbrev entries : List InlineEntry
entries = entries_in_order report 0 (slice_index_or run.plan 0 [])

first_event : (k : ℕ) (d : InlineEntry) → k < 4 → (slice_index_or entries k d).event ≡ 0
first_event = All-from_recursion (λ e. e.event ≡ 0) entries (refl, (refl, (refl, (refl, tt))))

in_order : AllPairs (InOrder [] 0) entries
in_order i j d before within = record {
  never_earlier = λ key device. omega (arith, first_event i d (omega arith), first_event j d within);
  later_after_eviction = λ key device evicted. absurd cc;
}

resets : (device : ℕ) → count_by is_reset (slice_index_or report.devices device []) ≡ count_operations two (is_reset_of device)
resets zero = refl
resets (suc zero) = refl
resets (suc (suc device)) = refl

programmings : (device key : ℕ) → count_by (is_programming_of key) (slice_index_or report.devices device []) ≤ count_operations two (touches_under two device key)
programmings zero zero = omega arith
programmings zero (suc key) = simp eqb-zero-suc (omega arith)
programmings (suc zero) zero = omega arith
programmings (suc zero) (suc key) = simp eqb-zero-suc (omega arith)
programmings (suc (suc device)) key = omega arith

idles : (device : ℕ) → count_by is_idle (slice_index_or report.devices device []) ≤ count_operations two (touches_any two device)
idles zero = omega arith
idles (suc zero) = omega arith
idles (suc (suc device)) = omega arith

counts_hold : CountsHold two report.devices
counts_hold = record { resets = resets; programmings = programmings; idles = idles }

-- resets are counted on their own devices
resets_of_0 : count_operations with_reset_of_1 (is_reset_of 0) ≡ 0
resets_of_0 = refl

resets_of_1 : count_operations with_reset_of_1 (is_reset_of 1) ≡ 1
resets_of_1 = refl

-- the bio over both devices is one bio on each; one of block 0 is on device 0 alone, under its own key
on_device_0 : count_operations two (touches_any two 0) ≡ 1
on_device_0 = refl

on_device_1 : count_operations two (touches_any two 1) ≡ 1
on_device_1 = refl

abbrev block_0 : Script
block_0 = script_of 2 true (device 0 1 1 1 ∷ device 1 1 1 1 ∷ []) (write 1 0 2 0 ∷ [])

on_its_device : count_operations block_0 (touches_under block_0 0 1) ≡ 1
on_its_device = refl

not_under_another_key : count_operations block_0 (touches_under block_0 0 0) ≡ 0
not_under_another_key = refl

not_on_device_1 : count_operations block_0 (touches_under block_0 1 1) ≡ 0
not_on_device_1 = refl

none_on_device_1 : count_operations block_0 (touches_any block_0 1) ≡ 0
none_on_device_1 = refl

-- a bio that goes by software is on no device
none_by_software : count_operations (partly true) (touches_any (partly true) 0) ≡ 0
none_by_software = refl

may_program : MayProgram (opening 1) 0 0 []
may_program = record {
  is_slot = omega arith;
  key_in_no_slot = All-from_recursion (λ (other : Option ℕ). other ≢ Some 0) (None ∷ []) ((λ e. absurd cc), tt);
  skips_those_before = refl;
  found_held = λ k d within. absurd (omega arith);
}

lawful : IsLawful 1 journal
lawful = (may_program, (omega arith, tt))

idle : AllIdle 1 journal
idle = refl

no_evictions : (device key : ℕ) → count_by (λ event. is_evict key event || is_busy key event) (slice_index_or report.devices device []) ≤ 0
no_evictions zero key = omega arith
no_evictions (suc zero) key = omega arith
no_evictions (suc (suc device)) key = omega arith

no_busy : (device key : ℕ) → count_by (is_busy key) (slice_index_or report.devices device []) ≤ 0
no_busy zero key = omega arith
no_busy (suc zero) key = omega arith
no_busy (suc (suc device)) key = omega arith

but_holders : LawfulButHolders two zeros 2 report (final_image run)
but_holders = record {
  orders = lawful_by_cases 2 _ _ _ refl refl ((refl, tt), ((refl, tt), tt));
  answers = ((refl, tt), tt);
  image_left = refl;
  ways = all_by_each (HasWay two run) report.shards ((refl, (refl, tt)), ((refl, (refl, tt)), tt));
  journals = (lawful, (lawful, tt));
  programmings = record {
    own_key = all_by_each (λ line. NamesProgramming run report.devices (name_in line) line.via) report.shards (((refl, refl), ((refl, refl), tt)), (((refl, refl), ((refl, refl), tt)), tt));
    in_order = All-from_recursion (λ at. AllPairs (InOrder [] at.0) (entries_in_order report at.0 at.1)) (enumerate_from 0 run.plan) (in_order, tt);
  };
  evictions = record { answers = λ k d within. absurd (omega arith); events = no_evictions };
  busy_answers = record { each_has_its_event = λ device key slot refs. omega arith; further = no_busy };
  counts = counts_hold;
}

known : HoldersAreKnown two report
known = record {
  holders = (((λ k d within. absurd (omega arith)), (tt, tt)), (((λ k d within. absurd (omega arith)), (tt, tt)), tt));
  all_idle = (idle, (idle, tt));
}

is_serial : IsSerial two run report
is_serial = record {
  section_after_section = refl;
  journals = refl;
  holds = all_by_each (λ line. NamesHold two run (name_in line) line.via) report.shards ((refl, (refl, tt)), ((refl, (refl, tt)), tt));
}

pub is_serial_run : IsSerialRun two zeros 2 report (final_image run)
is_serial_run = record { lawful = record { but_holders = but_holders; holders = known }; serial = is_serial }
