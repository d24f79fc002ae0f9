-- What a thread knows when its section is done can be known: a section that writes one data unit by a device, evicts its key,
-- writes the unit again, and resets the device, whose one slot is programmed twice. The two entries name the two programmings.
use Rattle.std.proofs.Common.{◌≡◌, ℕ, zero, suc, ◌+◌, ◌<◌, ◌≤◌, false, List, [], ◌∷◌, replicate, refl, arith, Some}
use Rattle.std.specs.Prelude.{◌==◌, ◌||◌, filter, filter_map, count_by, AllPairs, Option}
use Rattle.std.proofs.lemmas.Bool.{ne_eqb}
use Rattle.std.specs.List.{range_with_len, enumerate_from}
use Rattle.bc_base.specs.Lists.{list_at}
use Rattle.bc_base.specs.Story.{own}
use Rattle.bc_key.specs.declared.config.Mode.TheVariants.{Aes256Xts}
use Rattle.bc_key.specs.declared.config.DataUnit.TheVariants.{Bytes512}
use Rattle.bc_bio.specs.declared.access.Access.TheVariants.{Write}
use Rattle.bc_bio.specs.declared.context.Context.{Context}
use Rattle.bc_stack.specs.declared.target.Target.{Target}
use Rattle.bc_medium.specs.declared.entry.Entry.{Entry}
use Rattle.bc_medium.specs.declared.via.Via.TheVariants as vias
use Rattle.bc_medium.specs.KeyedDisk.{Sectors}
use Rattle.bc_medium.specs.Entries.{caller_of}
use Rattle.bc_medium.specs.Growth.{lies_in}
use Rattle.bc_medium.specs.Outcome.{Wrote}
use Rattle.bc_profile.specs.declared.event.Event.{Event}
use Rattle.bc_profile.specs.declared.event.Event.TheVariants.{Program, Idle, Evict, Reset}
use Rattle.bc_profile.specs.declared.noted.Noted.{Noted}
use Rattle.bc_profile.specs.Story.{notes}
use Rattle.bc_script.specs.declared.named_key.NamedKey.{NamedKey}
use Rattle.bc_script.specs.declared.op.Op.{Op}
use Rattle.bc_script.specs.declared.op.Op.TheVariants as ops
use Rattle.bc_script.specs.declared.op.Text.TheVariants.{Fill}
use Rattle.bc_script.specs.Script.{Script}
use Rattle.bc_report.specs.declared.answer.Answer.{Answer}
use Rattle.bc_report.specs.declared.answer.Answer.TheVariants as answers
use Rattle.bc_report.specs.Counts.{is_reset_of, touches_under, touches_any, is_reset, is_programming_of, is_idle}
use Rattle.bc_report.specs.Evictions.{Eviction, evictions_in, is_evict, is_busy, is_busy_with, names_busy, names_device, names_before, count_answered}
use Rattle.bc_report.specs.Programmings.{InOrder}
use Rattle.bc_compose.specs.SectionDone.{inline_of, own_events, SectionDone}

abbrev key : NamedKey
key = record {
  name = 97 ∷ [];
  key = record { config = record { mode = Aes256Xts; unit = Bytes512; dun_bytes = 8 }; raw = range_with_len 0 64 };
}

abbrev device : Target
device = record { first = 0; blocks = 1; slots = 1; caps = record { xts = 1; essiv = 0; max_dun_bytes = 8 } }

abbrev under_it : Option Context
under_it = Some (record { key = record { 0 = 0 }; dun = 5 })

abbrev section : List Op
section = ops.Write under_it 3 1 (Fill 7) ∷ ops.Evict (record { 0 = 0 }) ∷ ops.Write under_it 3 1 (Fill 8) ∷ ops.Reset 0 ∷ []

abbrev script : Script
script = record {
  blocks = 1;
  fallback = false;
  targets = device ∷ [];
  keys = key ∷ [];
  faults = [];
  threads = section ∷ [];
}

abbrev replies : List Answer
replies = answers.Wrote ∷ answers.Evicted ∷ answers.Wrote ∷ answers.Reset ∷ []

-- the entry of operation number op, which wrote this byte throughout and names this event
abbrev entry : ℕ → ℕ → ℕ → Entry
entry op byte event = record {
  at = record { caller = 0; tag = op; unit = 0; sector = 3; context = under_it };
  access = Write;
  via = vias.Inline 0 0 event;
  plain = Some (replicate 512 byte);
  failed = false;
}

abbrev made : List Entry
made = entry 0 7 0 ∷ entry 2 8 3 ∷ []

abbrev journal : List Noted
journal = notes 0 (Program 0 0 [] ∷ Idle 0 ∷ Evict 0 0 ∷ Program 0 0 [] ∷ Idle 0 ∷ Reset ∷ [])

abbrev evictions : List Eviction
evictions = evictions_in (0, (section, replies))

abbrev operations : List (ℕ × Op)
operations = enumerate_from 0 section

abbrev events : ℕ → List Event
events d = own_events 0 (journal ∷ []) d

-- ---- counts of events: the device is number 0, and the key too

no_other : (k : ℕ) → (0 == suc k) ≡ false
no_other k = ne_eqb 0 (suc k) (λ e. omega arith)

evicts : (d k : ℕ) → count_by (λ event. is_evict k event || is_busy k event) (events d) ≤ count_by (λ e. e.key == k) evictions
evicts zero zero = omega arith
evicts zero (suc k) = rw (no_other k) (omega arith)
evicts (suc d) k = omega arith

busy : (d k slot refs : ℕ) → count_answered evictions k (names_busy d slot refs) ≤ count_by (is_busy_with k slot refs) (events d)
busy d zero slot refs = omega arith
busy d (suc k) slot refs = rw (no_other k) (omega arith)

further : (d k : ℕ) → count_by (is_busy k) (events d) ≤ count_answered evictions k (names_device d) + count_answered evictions k (names_before d)
further zero k = omega arith
further (suc d) k = omega arith

resets : (d : ℕ) → count_by is_reset (events d) ≡ count_by (is_reset_of d) operations
resets zero = refl
resets (suc d) = rw (no_other d) refl

programmings : (d k : ℕ) → count_by (is_programming_of k) (events d) ≤ count_by (touches_under script d k) operations
programmings zero zero = omega arith
programmings zero (suc k) = rw (no_other k) (omega arith)
programmings (suc d) k = omega arith

idles : (d : ℕ) → count_by is_idle (events d) ≤ count_by (touches_any script d) operations
idles zero = omega arith
idles (suc d) = omega arith

-- ---- the section

-- the second entry names a later event, since the key was evicted between them
in_order : AllPairs (InOrder evictions 0) (filter_map inline_of made)
in_order zero (suc zero) d lt within = record {
  never_earlier = λ keys devices. omega arith;
  later_after_eviction = λ keys devices between. omega arith;
}
in_order zero zero d lt within = absurd (omega arith)
in_order zero (suc (suc j)) d lt within = absurd (omega arith)
in_order (suc i) zero d lt within = absurd (omega arith)
in_order (suc i) (suc j) d lt within = absurd (omega arith)

all_own : (shard : ℕ) → shard < 1 → own caller_of 0 (list_at (made ∷ []) shard) ≡ filter (lies_in 1 shard) made
all_own zero within = refl
all_own (suc shard) within = absurd (omega arith)

section_done : (disk : Sectors) → SectionDone script 1 (λ shard. disk) 0 section (made ∷ []) (journal ∷ []) replies made
section_done disk = record {
  attempts = (record { unit = refl; access = refl; written = λ _ _. refl }, (record { unit = refl; access = refl; written = λ _ _. refl }, tt));
  entries = all_own;
  ways = (refl, (refl, tt));
  answers = ((Wrote, (refl, ((0, refl), tt)), refl), (tt, ((Wrote, (refl, ((1, refl), tt)), refl), (refl, tt))));
  own_key = ((refl, refl), ((refl, refl), tt));
  in_order = in_order;
  eviction_answers = (tt, tt);
  bounds = record {
    evicts = evicts;
    busy = busy;
    further = further;
    resets = resets;
    programmings = programmings;
    idles = idles;
  };
}
