-- Programmings: an inline entry names an event that programs its slot with its own key, and later
-- entries of a thread name no earlier event.
use Rattle.std.specs.Prelude.{◌≡◌, ℕ, ◌<◌, ◌≤◌, Bool, true, false, ◌&&◌, ◌==◌, nat_lt, List, [], flat_map, filter_map, find, All, AllPairs, Option, Some, None, IsTrue, IsSomeAnd, option_map, option_and_then, slice_get, slice_index_or, ⊤}
use Rattle.std.specs.List.{list_any, enumerate_from}
use Rattle.bc_bio.specs.declared.context.Context.{Context}
use Rattle.bc_bio.specs.PlannedUnit.{PlannedUnit}
use Rattle.bc_medium.specs.declared.unit_name.UnitName.{UnitName}
use Rattle.bc_medium.specs.declared.via.Via.{Via}
use Rattle.bc_medium.specs.declared.via.Via.TheVariants as vias
use Rattle.bc_medium.specs.LawfulOrders.{unit_name_of, is_same}
use Rattle.bc_medium.specs.Outcome.{Run}
use Rattle.bc_profile.specs.declared.event.Event.{Event}
use Rattle.bc_profile.specs.declared.event.Event.TheVariants as events
use Rattle.bc_report.specs.declared.answer.Answer.{Answer}
use Rattle.bc_report.specs.declared.answer.Answer.TheVariants as answers
use Rattle.bc_report.specs.Evictions.{Eviction}
use Rattle.bc_report.specs.Report.{Report}
use Rattle.bc_report.specs.RunOf.{name_in, own_key}

-- the event programs the slot with the key
abbrev pub IsProgramming : ℕ → ℕ → Event → Type 0
IsProgramming slot key (events.Program s k skipped) = (s ≡ slot) × (k ≡ key)
IsProgramming slot key _ = ⊥

-- an inline entry's event is a programming of its slot with its own key
abbrev pub NamesProgramming : Run → List (List Event) → UnitName → Via → Type 0
NamesProgramming run devices name (vias.Inline device slot event) =
    IsSomeAnd (own_key run name)
    (λ key. IsSomeAnd (slice_get (slice_index_or devices device []) event) (IsProgramming slot key))
NamesProgramming run devices name _ = ⊤

-- the way that the report says of a unit
abbrev pub via_of : Report → UnitName → Option Via
via_of report name =
    option_map (λ line. line.via) (find (λ line. is_same (name_in line) name) (flat_map (λ lines. lines) report.shards))

-- an inline entry of a thread: the numbers of its operation and its key, and the device and the
-- event that it names
pub record InlineEntry : Type 0 where
  pub op : ℕ
  pub key : ℕ
  pub device : ℕ
  pub event : ℕ

-- the entry of a unit with this context that went this way, if that was inline
abbrev pub entry_by : ℕ → Context → Via → Option InlineEntry
entry_by op context (vias.Inline device slot event) =
    Some (record { op = op; key = context.key.0; device = device; event = event })
entry_by op context _ = None

-- the entry of a unit of the plan, if it has one and went inline
abbrev pub entry_of : Report → ℕ → PlannedUnit → Option InlineEntry
entry_of report thread u =
    option_and_then (λ via. option_and_then (λ context. entry_by u.tag context via) u.context)
    (via_of report (unit_name_of thread u))

-- a thread's inline entries, in the order in which it issued them
abbrev pub entries_in_order : Report → ℕ → List PlannedUnit → List InlineEntry
entries_in_order report thread issued = filter_map (entry_of report thread) issued

-- an eviction with this answer took the key from this device: it was answered `evicted`, or `busy`
-- at a later device
abbrev pub passes : ℕ → Answer → Bool
passes device answers.Evicted = true
passes device (answers.Busy d slot refs) = nat_lt device d
passes device _ = false

-- between two operations the thread evicted the key from the device
abbrev pub is_evicted_between : List Eviction → ℕ → ℕ → ℕ → ℕ → ℕ → Bool
is_evicted_between evictions thread key device first second =
    list_any
    (λ e. (e.thread == thread) && (e.key == key) && nat_lt first e.op && nat_lt e.op second && passes device e.answer)
    evictions

-- of two entries under one key on one device: the later one names no earlier event, and a later
-- event where the thread evicted the key between them
pub record InOrder (evictions : List Eviction) (thread : ℕ) (first second : InlineEntry) : Type 0 where
  pub never_earlier : first.key ≡ second.key → first.device ≡ second.device → first.event ≤ second.event
  pub later_after_eviction : first.key ≡ second.key → first.device ≡ second.device
      → IsTrue (is_evicted_between evictions thread first.key first.device first.op second.op)
      → first.event < second.event

-- the entries of a run's report; `issued` is what each thread issued, in its order
pub record ProgrammingsHold (run : Run) (issued : List (List PlannedUnit)) (report : Report)
    (evictions : List Eviction) : Type 0 where
  pub own_key : All (All (λ line. NamesProgramming run report.devices (name_in line) line.via)) report.shards
  pub in_order : All (λ at. AllPairs (InOrder evictions at.0) (entries_in_order report at.0 at.1))
      (enumerate_from 0 issued)
