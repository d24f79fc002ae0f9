-- What a run did, as its report says: for each thread what its operations were answered, for each
-- shard its entries in order, for each device the events of its keyslots in order; and the ranges
-- that every report keeps.
use Rattle.std.specs.Prelude.{◌≡◌, ◌^◌, ◌<◌, ◌≤◌, List, length, ⊤}
use Rattle.std.specs.List.{AllByRecursion}
use Rattle.hex.specs.Hex.{IsBytes}
use Rattle.bc_report.specs.declared.limits.TheConstants.{MAX_THREADS, MAX_SHARDS, MAX_DEVICES}
use Rattle.bc_medium.specs.declared.via.Via.{Via}
use Rattle.bc_medium.specs.declared.via.Via.TheVariants.{Inline}
use Rattle.bc_profile.specs.declared.limits.TheConstants.{MAX_SLOTS}
use Rattle.bc_profile.specs.declared.skips.Skip.{Skip}
use Rattle.bc_profile.specs.declared.event.Event.{Event}
use Rattle.bc_profile.specs.declared.event.Event.TheVariants as events
use Rattle.bc_report.specs.declared.answer.Answer.{Answer}
use Rattle.bc_report.specs.declared.answer.Answer.TheVariants as answers
use Rattle.bc_report.specs.declared.line.Line.{Line}

-- for each thread the answers of its operations, for each shard its entries, for each device its
-- events
pub record Report : Type 0 where
  pub threads : List (List Answer)
  pub shards : List (List Line)
  pub devices : List (List Event)

-- ---- ranges: each number is in the range of its field's type

-- the numbers of an answer
abbrev pub IsAnswer : Answer → Type 0
IsAnswer (answers.ReadFill byte) = byte < 256
IsAnswer (answers.ReadSum digest) = IsBytes digest × (length digest ≡ 32)
IsAnswer (answers.Fault unit) = unit < 2 ^ 32
IsAnswer (answers.Busy device slot refs) = (device < 2 ^ 8) × (slot < 2 ^ 16) × (refs < 2 ^ 16)
IsAnswer _ = ⊤

-- the numbers of a way
abbrev pub IsVia : Via → Type 0
IsVia (Inline device slot event) = (device < 2 ^ 8) × (slot < 2 ^ 16) × (event < 2 ^ 32)
IsVia _ = ⊤

-- the numbers of an entry
pub record IsEntry (entry : Line) : Type 0 where
  pub thread : entry.thread < 2 ^ 16
  pub op : entry.op < 2 ^ 32
  pub unit : entry.unit < 2 ^ 32
  pub via : IsVia entry.via

-- the numbers of a slot that was passed over
abbrev pub IsSkip : Skip → Type 0
IsSkip skip = (skip.slot < 2 ^ 16) × (skip.refs < 2 ^ 16)

-- no more of them than a device has slots
abbrev pub AreSkips : List Skip → Type 0
AreSkips skips = (length skips ≤ MAX_SLOTS) × AllByRecursion IsSkip skips

-- the numbers of an event
abbrev pub IsEvent : Event → Type 0
IsEvent (events.Program slot key skipped) = (slot < 2 ^ 16) × (key < 2 ^ 16) × AreSkips skipped
IsEvent (events.Idle slot) = slot < 2 ^ 16
IsEvent (events.Evict slot key) = (slot < 2 ^ 16) × (key < 2 ^ 16)
IsEvent (events.Busy slot key refs) = (slot < 2 ^ 16) × (key < 2 ^ 16) × (refs < 2 ^ 16)
IsEvent events.Reset = ⊤

-- the lines of a part that begins with their count
pub record IsPart {X : Type 0} (Valid : X → Type 0) (lines : List X) : Type 0 where
  pub count : length lines < 2 ^ 32
  pub each : AllByRecursion Valid lines

-- what holds of every report
pub record IsReport (report : Report) : Type 0 where
  pub few_threads : length report.threads ≤ MAX_THREADS
  pub few_shards : length report.shards ≤ MAX_SHARDS
  pub few_devices : length report.devices ≤ MAX_DEVICES
  pub answers : AllByRecursion (AllByRecursion IsAnswer) report.threads
  pub entries : AllByRecursion (IsPart IsEntry) report.shards
  pub events : AllByRecursion (IsPart IsEvent) report.devices
