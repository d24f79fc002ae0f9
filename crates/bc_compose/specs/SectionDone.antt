-- What a thread knows when its section is done: the points of a lawful run, of its own operations,
-- entries and events alone, over the orders and the journals as far as it has seen them. Each stays
-- true when an order or a journal goes on by others.
use Rattle.std.specs.Prelude.{◌≡◌, ℕ, ◌+◌, ◌<◌, ◌≤◌, ◌==◌, ◌||◌, List, [], filter, filter_map, flat_map, count_by, slice_get, AllPairs, Option, MatchOption, IsSomeAnd, option_map, option_and_then, ⊤}
use Rattle.std.specs.List.{enumerate_from, AllZip}
use Rattle.bc_base.specs.Lists.{Each, At, list_at}
use Rattle.bc_base.specs.Story.{own}
use Rattle.bc_bio.specs.declared.access.Access.{Access}
use Rattle.bc_bio.specs.declared.access.Access.TheVariants.{Read, Write}
use Rattle.bc_bio.specs.PlannedUnit.{PlannedUnit}
use Rattle.bc_medium.specs.declared.entry.Entry.{Entry}
use Rattle.bc_medium.specs.declared.via.Via.{Via}
use Rattle.bc_medium.specs.declared.via.Via.TheVariants as vias
use Rattle.bc_medium.specs.KeyedDisk.{Sectors, Faulted, Written, Text}
use Rattle.bc_medium.specs.Entries.{caller_of}
use Rattle.bc_medium.specs.Growth.{lies_in, Attempts, Knows}
use Rattle.bc_medium.specs.Outcome.{BioAnswer, Wrote, Bytes, Fault}
use Rattle.bc_profile.specs.declared.event.Event.{Event}
use Rattle.bc_profile.specs.declared.noted.Noted.{Noted}
use Rattle.bc_profile.specs.Story.{author_of, events_of}
use Rattle.bc_script.specs.declared.op.Op.{Op}
use Rattle.bc_script.specs.Script.{Script, keys_of}
use Rattle.bc_script.specs.Bios.{bio_of, refusal_of}
use Rattle.bc_script.specs.Plan.{units_of, units_of_section}
use Rattle.bc_script.specs.Way.{way_of}
use Rattle.bc_report.specs.declared.answer.Answer.{Answer}
use Rattle.bc_report.specs.declared.answer.Answer.TheVariants as answers
use Rattle.bc_report.specs.Answers.{answer_of_outcome, IsOwnWord}
use Rattle.bc_report.specs.Counts.{is_reset_of, touches_under, touches_any, is_reset, is_programming_of, is_idle}
use Rattle.bc_report.specs.Evictions.{Eviction, evictions_in, is_evict, is_busy, is_busy_with, names_busy, names_device, names_before, count_answered, IsEvictionAnswer}
use Rattle.bc_report.specs.Programmings.{IsProgramming, InlineEntry, entry_by, InOrder}
use Rattle.bc_report.specs.Ways.{way_in}

-- the number of the key that an entry's unit went under, if it went under one
abbrev pub key_of_entry : Entry → Option ℕ
key_of_entry e = option_map (λ context. context.key.0) e.at.context

-- an entry as an inline one, if it is
abbrev pub inline_of : Entry → Option InlineEntry
inline_of e = option_and_then (λ context. entry_by e.at.tag context e.via) e.at.context

-- the entry says the way of its unit
abbrev pub SaysItsWay : Script → Entry → Type 0
SaysItsWay script e = way_in e.via ≡ way_of script e.at.context e.at.sector

-- where the way is inline, the device's journal has there a programming of the slot with this key
abbrev pub NamesOwn : List (List Noted) → Option ℕ → Via → Type 0
NamesOwn noted key (vias.Inline device slot event) =
    IsSomeAnd key (λ k. IsSomeAnd (slice_get (events_of (list_at noted device)) event) (IsProgramming slot k))
NamesOwn noted key _ = ⊤

-- a thread's events on a device
abbrev pub own_events : ℕ → List (List Noted) → ℕ → List Event
own_events thread noted device = events_of (own author_of thread (list_at noted device))

-- How many events there are, by the operations and the evictions that made them. Every bound adds
-- up over calls.
pub record Bounds (script : Script) (operations : List (ℕ × Op)) (evictions : List Eviction) (events : ℕ → List Event)
    : Type 0 where
  pub evicts : (device key : ℕ) → count_by (λ event. is_evict key event || is_busy key event) (events device)
      ≤ count_by (λ e. e.key == key) evictions
  pub busy : (device key slot refs : ℕ) → count_answered evictions key (names_busy device slot refs)
      ≤ count_by (is_busy_with key slot refs) (events device)
  pub further : (device key : ℕ) → count_by (is_busy key) (events device)
      ≤ count_answered evictions key (names_device device) + count_answered evictions key (names_before device)
  pub resets : (device : ℕ) → count_by is_reset (events device) ≡ count_by (is_reset_of device) operations
  pub programmings : (device key : ℕ) → count_by (is_programming_of key) (events device)
      ≤ count_by (touches_under script device key) operations
  pub idles : (device : ℕ) → count_by is_idle (events device) ≤ count_by (touches_any script device) operations

-- bios of the script on so many shards, which had these sectors at the opening
module _ (script : Script) (shards : ℕ) (base : ℕ → Sectors) where
  -- what the thread knows of its bio of these units: that each was written, or read, or that one
  -- met a fault
  abbrev pub IsBioAnswer : ℕ → List (List Entry) → Access → List PlannedUnit → BioAnswer → Type 0
  IsBioAnswer thread seen access units Wrote =
      (access ≡ Write) × Each (λ u. Knows (keys_of script) shards base thread seen u Written) units
  IsBioAnswer thread seen access units (Bytes bytes) =
      (access ≡ Read) × (texts : List (List ℕ))
      × AllZip (λ u text. Knows (keys_of script) shards base thread seen u (Text text)) units texts
      × (bytes ≡ flat_map (λ text. text) texts)
  IsBioAnswer thread seen access units (Fault unit) =
      (place : ℕ) × (u : PlannedUnit) × At units place u × (u.unit ≡ unit)
      × Knows (keys_of script) shards base thread seen u Faulted

  -- what operation number op is answered; what an eviction may be answered, the points on evictions
  -- say
  abbrev pub IsReply : ℕ → List (List Entry) → ℕ × Op → Answer → Type 0
  IsReply thread seen (op, operation) answer =
      MatchOption (bio_of operation) (IsOwnWord operation answer)
      (λ bio. MatchOption (refusal_of script bio)
      ((outcome : BioAnswer) × IsBioAnswer thread seen bio.access (units_of script (op, operation)) outcome
      × (answer ≡ answer_of_outcome outcome))
      (λ refusal. answer ≡ answers.Refused refusal))

  -- the section is done: `seen` is what its thread has seen of the orders and `noted` of the
  -- journals, and `made` are its entries on all shards
  pub record SectionDone (thread : ℕ) (section : List Op) (seen : List (List Entry)) (noted : List (List Noted))
      (replies : List Answer) (made : List Entry) : Type 0 where
    -- its entries are its attempted units, each once, in the plan's order
    pub attempts : Attempts thread [] (units_of_section script section) made
    -- they are all that it has in the orders
    pub entries : (shard : ℕ) → shard < shards
        → own caller_of thread (list_at seen shard) ≡ filter (lies_in shards shard) made
    pub ways : Each (SaysItsWay script) made
    pub answers : AllZip (IsReply thread seen) (enumerate_from 0 section) replies
    -- its inline entries name programmings of their own keys, in order
    pub own_key : Each (λ e. NamesOwn noted (key_of_entry e) e.via) made
    pub in_order : AllPairs (InOrder (evictions_in (thread, (section, replies))) thread) (filter_map inline_of made)
    -- its evictions are answered as they may be
    pub eviction_answers : Each (λ e. IsEvictionAnswer script e.key e.answer)
        (evictions_in (thread, (section, replies)))
    -- it has as many events as its operations and evictions make
    pub bounds : Bounds script (enumerate_from 0 section) (evictions_in (thread, (section, replies)))
        (own_events thread noted)
