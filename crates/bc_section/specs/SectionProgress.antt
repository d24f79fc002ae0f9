-- How far a section has been carried out, where a plug may hold bios back; and what each call of a
-- device tells.
use Rattle.std.specs.Prelude.{◌≡◌, ◌⊎◌, ℕ, ◌+◌, ◌<◌, ◌≤◌, ◌==◌, true, false, Bool, IsTrue, List, [], ◌∷◌, ◌++◌}
use Rattle.std.specs.Prelude.{length, map, flat_map, take, drop, filter, filter_map, slice_get}
use Rattle.std.specs.Prelude.{Option, Some, None, IsSomeAnd}
use Rattle.std.specs.List.{enumerate_from, list_any}
use Rattle.std.specs.Option.{option_map, option_map_or}
use Rattle.bc_base.specs.Lists.{Each, list_at}
use Rattle.bc_base.specs.Story.{StartsWith}
use Rattle.bc_key.specs.declared.keys.KeyNo.{KeyNo}
use Rattle.bc_bio.specs.Windows.{TaggedBio}
use Rattle.bc_medium.specs.declared.entry.Entry.{Entry}
use Rattle.bc_medium.specs.Growth.{Grows, Attempts}
use Rattle.bc_profile.specs.declared.event.Event.{Event}
use Rattle.bc_script.specs.declared.op.Op.{Op}
use Rattle.bc_script.specs.declared.op.Op.TheVariants as ops
use Rattle.bc_script.specs.Script.{Script}
use Rattle.bc_script.specs.Bios.{bio_of, refusal_of}
use Rattle.bc_script.specs.Plan.{units_of}
use Rattle.bc_script.specs.Windows.{Step, Turn, step_of, turns_from}
use Rattle.bc_script.specs.Windows as turns
use Rattle.bc_report.specs.declared.answer.Answer.{Answer}
use Rattle.bc_report.specs.Evictions.{Eviction, IsEvictionAnswer}
use Rattle.bc_report.specs.Programmings.{passes}
use Rattle.bc_report.specs.Report.{IsAnswer}
use Rattle.bc_report.specs.SerialRun.{DeviceUse, uses_of_turn, uses_of_section}
use Rattle.bc_compose.specs.SectionDone.{SaysItsWay, Bounds, IsReply, SectionDone}
use Rattle.bc_compose.specs.OrderedHolds.{Pairs, Notes, GoesInline, IsTakenOut, Held}
use Rattle.bc_compose.specs.ThreadWork.{is_act, Acted}
use Rattle.bc_section.specs.Sections.{DeviceData, GoOnBy, journal_seen, cost_in, cost_of_section}
use Rattle.bc_section.specs.Uses.{MakesUses, op_bios}

-- ---- operations by their numbers

-- these operations of a section, each with its number
abbrev pub numbered : List Op → List ℕ → List (ℕ × Op)
numbered section [] = []
numbered section (o ∷ os) =
    option_map_or (λ operation. (o, operation) ∷ numbered section os) (slice_get section o) (numbered section os)

-- the operations that are still to be acted on
abbrev pub still : Script → List Op → ℕ → List (ℕ × Op)
still script section op = filter (is_act script) (enumerate_from op (drop op section))

-- the operation submits a bio, which isn't refused
abbrev pub IsAcceptedBio : Script → Op → Type 0
IsAcceptedBio script operation = IsSomeAnd (bio_of operation) (λ bio. refusal_of script bio ≡ None)

-- the operation with this number does
abbrev pub MayBePlugged : Script → List Op → ℕ → Type 0
MayBePlugged script section o = IsSomeAnd (slice_get section o) (IsAcceptedBio script)

-- the eviction of an operation that has this answer
abbrev pub eviction_by : ℕ → ℕ → ℕ → Option (Option Answer) → Option Eviction
eviction_by thread op key (Some (Some answer)) =
    Some (record { thread = thread; op = op; key = key; answer = answer })
eviction_by thread op key _ = None

-- an operation as an eviction, if it is one and has its answer
abbrev pub eviction_of : ℕ → List (Option Answer) → ℕ × Op → Option Eviction
eviction_of thread answers (op, ops.Evict key) = eviction_by thread op key.0 (slice_get answers op)
eviction_of thread answers (op, _) = None

-- the evictions before this operation
abbrev pub evictions_before : ℕ → List Op → ℕ → List (Option Answer) → List Eviction
evictions_before thread section op answers =
    filter_map (eviction_of thread answers) (enumerate_from 0 (take op section))

-- what is left to do of a section: what is held back, and then the operations from number op on
abbrev pub left_of : List Op → ℕ → List ℕ → List (ℕ × Op)
left_of section op pending = numbered section pending ++ enumerate_from op (drop op section)

-- answers, as a report says them
abbrev pub answers_by : {A : Type 0} → (A → Answer) → List (Option A) → List (Option Answer)
answers_by answer answers = map (option_map answer) answers

-- ---- what calls of a device tell

-- the device made the uses of a turn, where no other thread comes between
abbrev pub MakesTurn : DeviceData → DeviceData → Turn → List Entry → Type 0
MakesTurn old new turn made =
    IsTrue old.alone → MakesUses old.script (journal_seen old) (journal_seen new)
    (λ device. uses_of_turn old.script device old.thread turn) made

-- the operation has its answer
pub record Settled (device : DeviceData) (section : List Op) (answers : List (Option Answer)) (op : ℕ) : Type 0 where
  pub operation : Op
  pub answer : Answer
  pub asked : slice_get section op ≡ Some operation
  pub told : slice_get answers op ≡ Some (Some answer)
  pub replied : IsReply device.script device.shards device.base device.thread device.seen (op, operation) answer
  pub range : IsAnswer answer

-- nothing but what was seen has changed
abbrev pub SeesMore : DeviceData → DeviceData → Type 0
SeesMore old new = new ≡ record old { seen = new.seen; noted = new.noted; spare = new.spare }

-- the bios of these operations were submitted
pub record Submitted (old new : DeviceData) (acts : List (ℕ × Op)) : Type 0 where
  pub made : List Entry
  pub events : ℕ → List Event
  pub same : SeesMore old new
  pub spare : old.spare ≤ new.spare + cost_in acts
  pub grows : Grows old.shards old.thread old.seen new.seen made
  pub alone : IsTrue old.alone → GoOnBy old.shards old.seen new.seen made
  pub attempts : Attempts old.thread [] (flat_map (units_of old.script) acts) made
  pub ways : Each (SaysItsWay old.script) made
  pub notes : Notes old.thread old.noted new.noted events
  pub bounds : Bounds old.script acts [] events
  pub held : Held old.script old.noted new.noted made
  pub uses : MakesTurn old new (turns.Window (op_bios acts)) made

-- a key was evicted with this answer, as operation number op
pub record Evicted (old new : DeviceData) (op : ℕ) (key : KeyNo) (answer : Answer) : Type 0 where
  pub events : ℕ → List Event
  pub same : SeesMore old new
  pub spare : old.spare ≤ new.spare + 1
  pub grows : Grows old.shards old.thread old.seen new.seen []
  pub alone : IsTrue old.alone → GoOnBy old.shards old.seen new.seen []
  pub notes : Notes old.thread old.noted new.noted events
  pub bounds : Bounds old.script ((op, ops.Evict key) ∷ [])
      (record { thread = old.thread; op = op; key = key.0; answer = answer } ∷ []) events
  pub valid : IsEvictionAnswer old.script key.0 answer
  pub gone : (device : ℕ) → IsTrue (passes device answer) → GoesInline old.script key.0
      → IsTakenOut old.script old.noted new.noted device key.0
  pub uses : MakesTurn old new (turns.Evict key) []

-- a device was reset, as operation number op
pub record HasReset (old new : DeviceData) (op device : ℕ) : Type 0 where
  pub events : ℕ → List Event
  pub same : SeesMore old new
  pub spare : old.spare ≤ new.spare + 1
  pub grows : Grows old.shards old.thread old.seen new.seen []
  pub alone : IsTrue old.alone → GoOnBy old.shards old.seen new.seen []
  pub notes : Notes old.thread old.noted new.noted events
  pub bounds : Bounds old.script ((op, ops.Reset device) ∷ []) [] events
  pub uses : MakesTurn old new (turns.Reset device) []

-- ---- the loop

-- what operations from number op on mean for windows
abbrev pub steps_from : Script → List Op → ℕ → List Step
steps_from script section op = filter_map (step_of script) (enumerate_from op (drop op section))

-- the turns that are left, where these bios are held back: in a plug more may be held back with
-- them
abbrev pub turns_left : Bool → List TaggedBio → List Step → List Turn
turns_left true bios steps = turns_from (Some bios) steps
turns_left false bios steps = turns.Window bios ∷ turns_from None steps

-- the uses that they make of a device
abbrev pub uses_left : Script → ℕ → ℕ → Bool → List TaggedBio → List Step → List DeviceUse
uses_left script device thread plugged bios steps =
    flat_map (uses_of_turn script device thread) (turns_left plugged bios steps)

-- what is held back is submitted now, before these steps: whatever follows begins another window
abbrev pub WindowEnds : Script → ℕ → Bool → List TaggedBio → List Step → Type 0
WindowEnds script thread plugged bios steps =
    (device : ℕ) → uses_left script device thread plugged bios steps
    ≡ uses_of_turn script device thread (turns.Window bios) ++ uses_left script device thread plugged [] steps

-- nothing is held back where no plug is open
abbrev pub HoldsNone : Bool → List ℕ → Type 0
HoldsNone plugged pending = plugged ≡ false → pending ≡ []

-- the uses of a section so far, of operations below `next`, with which those that are left are all
-- of them
pub record HasUsed (start now : DeviceData) (section : List Op) (op next : ℕ) (plugged : Bool) (pending : List ℕ)
    (made : List Entry) : Type 0 where
  pub done : ℕ → List DeviceUse
  pub makes : MakesUses start.script (journal_seen start) (journal_seen now) done made
  pub before : (device : ℕ) → Each (λ u. Each (λ name. name.op < next) u.units) (done device)
  pub whole : (device : ℕ) → uses_of_section start.script device (start.thread, section)
      ≡ done device ++ uses_left start.script device start.thread plugged (op_bios (numbered section pending))
      (steps_from start.script section op)

-- operations below `op` were acted on, are held back, or are answered by themselves; whether a plug
-- is open then
pub record Reached (start now : DeviceData) (section : List Op) (op : ℕ) (plugged : Bool) (pending : List ℕ)
    (answers : List (Option Answer)) : Type 0 where
  pub acts : List (ℕ × Op)
  pub next : ℕ
  pub made : List Entry
  pub same : SeesMore start now
  pub spare : start.spare ≤ now.spare + cost_in acts
  pub alone : IsTrue start.alone → GoOnBy start.shards start.seen now.seen made
  pub acted : Acted start.script start.shards start.thread start.seen acts next now.seen now.noted made
      (evictions_before start.thread section op answers)
  pub next_below : next ≤ op
  pub held_back : Each (λ o. (next ≤ o) × (o < op) × MayBePlugged start.script section o) pending
  pub ascend : Pairs (λ first second. first < second) pending
  pub complete : acts ++ numbered section pending ≡ filter (is_act start.script) (enumerate_from 0 (take op section))
  pub eviction_answers : Each (λ e. IsEvictionAnswer start.script e.key e.answer)
      (evictions_before start.thread section op answers)
  pub long : length answers ≡ length section
  pub used : IsTrue start.alone → HasUsed start now section op next plugged pending made
  pub settled : (o : ℕ) → o < op
      → (list_any (λ held. held == o) pending ≡ true) ⊎ Settled now section answers o

-- a whole section was carried out with these answers
pub record CarriesSection (old new : DeviceData) (section : List Op) (answers : List Answer) : Type 0 where
  pub made : List Entry
  pub same : SeesMore old new
  pub spare : old.spare ≤ new.spare + cost_of_section section
  pub alone : IsTrue old.alone → GoOnBy old.shards old.seen new.seen made
  pub fronts : (shard : ℕ) → StartsWith (list_at new.seen shard) (list_at old.seen shard)
  pub done : SectionDone old.script old.shards old.base old.thread section new.seen new.noted answers made
  pub uses : IsTrue old.alone → MakesUses old.script (journal_seen old) (journal_seen new)
      (λ device. uses_of_section old.script device (old.thread, section)) made
  pub ranges : Each IsAnswer answers
