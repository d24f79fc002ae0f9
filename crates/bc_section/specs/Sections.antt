-- What carrying out operations of a section does, as its thread's device shows it; and what
-- sections do that follow one another.
use Rattle.std.specs.Prelude.{◌≡◌, ℕ, ◌+◌, ◌<◌, ◌≤◌, Bool, IsTrue, List, [], ◌∷◌, ◌++◌}
use Rattle.std.specs.Prelude.{length, map, filter, flat_map, sum_by}
use Rattle.std.specs.List.{enumerate_from, AllZip}
use Rattle.bc_base.specs.Lists.{Each, EachFrom, list_at}
use Rattle.bc_base.specs.Story.{StartsWith, IsFront}
use Rattle.bc_medium.specs.declared.entry.Entry.{Entry}
use Rattle.bc_medium.specs.KeyedDisk.{Sectors}
use Rattle.bc_medium.specs.Entries.{caller_of}
use Rattle.bc_medium.specs.Growth.{lies_in, Grows, Attempts}
use Rattle.bc_profile.specs.declared.event.Event.{Event}
use Rattle.bc_profile.specs.declared.noted.Noted.{Noted}
use Rattle.bc_profile.specs.Story.{author_of, events_of}
use Rattle.bc_script.specs.declared.op.Op.{Op}
use Rattle.bc_script.specs.declared.op.Op.TheVariants as ops
use Rattle.bc_script.specs.Script.{Script, unit_count}
use Rattle.bc_script.specs.Plan.{units_of}
use Rattle.bc_report.specs.declared.answer.Answer.{Answer}
use Rattle.bc_report.specs.Report.{IsAnswer}
use Rattle.bc_report.specs.SerialRun.{uses_of_section}
use Rattle.bc_compose.specs.SectionDone.{SaysItsWay, IsReply, SectionDone}
use Rattle.bc_section.specs.Uses.{MakesUses}

-- a thread's device: of which script, over how many shards, which sectors each of them had at the
-- opening, whose it is, what its thread has seen of the orders and of the journals, what the
-- journals were when its section began, whether no other thread comes between, and how many data
-- units, evictions and resets more fit
pub record DeviceData : Type 0 where
  pub script : Script
  pub shards : ℕ
  pub base : ℕ → Sectors
  pub thread : ℕ
  pub seen : List (List Entry)
  pub noted : List (List Noted)
  pub begun : List (List Event)
  pub alone : Bool
  pub spare : ℕ

-- the orders went on by just these entries
abbrev pub GoOnBy : ℕ → List (List Entry) → List (List Entry) → List Entry → Type 0
GoOnBy shards old new made =
    (shard : ℕ) → list_at new shard ≡ list_at old shard ++ filter (lies_in shards shard) made

-- how much an operation takes of what fits: one for each data unit of its bio, one for an eviction
-- or a reset
abbrev pub cost : Op → ℕ
cost (ops.Evict key) = 1
cost (ops.Reset device) = 1
cost operation = unit_count operation

-- how much these operations take
abbrev pub cost_in : List (ℕ × Op) → ℕ
cost_in operations = sum_by (λ operation. cost operation.1) operations

-- how much a section takes
abbrev pub cost_of_section : List Op → ℕ
cost_of_section section = sum_by cost section

-- the journal of a device as far as the thread has seen it
abbrev pub journal_seen : DeviceData → ℕ → List Event
journal_seen d device = events_of (list_at d.noted device)

-- these operations were carried out with these answers: their attempted units, each once and in
-- order, were added to the orders, each by its way
pub record Carries (old new : DeviceData) (operations : List (ℕ × Op)) (answers : List Answer) : Type 0 where
  pub made : List Entry
  pub same : new ≡ record old { seen = new.seen; noted = new.noted; spare = new.spare }
  pub spare : old.spare ≤ new.spare + cost_in operations
  pub grows : Grows old.shards old.thread old.seen new.seen made
  pub alone : IsTrue old.alone → GoOnBy old.shards old.seen new.seen made
  pub attempts : Attempts old.thread [] (flat_map (units_of old.script) operations) made
  pub ways : Each (SaysItsWay old.script) made
  pub replies : AllZip (IsReply old.script old.shards old.base old.thread new.seen) operations answers
  pub ranges : Each IsAnswer answers

-- one operation was carried out
abbrev pub CarriesOne : DeviceData → DeviceData → ℕ × Op → Answer → Type 0
CarriesOne old new operation answer = Carries old new (operation ∷ []) (answer ∷ [])

-- sections were carried out, one after the other, from untouched orders and journals: for each what
-- its thread knows then, and what it added; and the stories of the devices, in which each event has
-- the thread that made it
pub record SectionsDone (old now : DeviceData) (sections : List (List Op)) (answers : List (List Answer)) : Type 0 where
  pub made : List (List Entry)
  pub seen : List (List (List Entry))
  pub noted : List (List (List Noted))
  pub stories : List (List Noted)
  pub same : now ≡ record old {
    thread = now.thread;
    seen = now.seen;
    noted = now.noted;
    begun = now.begun;
    spare = now.spare;
  }
  pub each_made : length made ≡ length sections
  pub each_seen : length seen ≡ length sections
  pub each_noted : length noted ≡ length sections
  pub each_answered : length answers ≡ length sections
  pub each_done : (t : ℕ) → t < length sections
      → SectionDone old.script old.shards old.base t (list_at sections t) (list_at seen t) (list_at noted t)
      (list_at answers t) (list_at made t)
  pub callers : EachFrom (λ t es. Each (λ e. caller_of e ≡ t) es) 0 made
  pub fronts : (t shard : ℕ) → t < length sections
      → StartsWith (list_at now.seen shard) (list_at (list_at seen t) shard)
  pub orders : (shard : ℕ) → list_at now.seen shard ≡ flat_map (filter (lies_in old.shards shard)) made
  pub told : (t device : ℕ) → t < length sections
      → IsFront author_of t (list_at (list_at noted t) device) (list_at stories device)
  pub authors : (device : ℕ) → Each (λ n. author_of n < length sections) (list_at stories device)
  pub journals : map events_of stories ≡ map events_of now.noted
  pub uses : MakesUses old.script (λ device. []) (journal_seen now)
      (λ device. flat_map (uses_of_section old.script device) (enumerate_from 0 sections)) (flat_map (λ es. es) made)
  pub ranges : Each (Each IsAnswer) answers
