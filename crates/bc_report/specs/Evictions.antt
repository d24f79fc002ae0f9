-- Evictions: what they are answered, and how many events they make on each device.
use Rattle.std.specs.Prelude.{ℕ, ◌+◌, ◌<◌, ◌≤◌, Bool, false, ◌&&◌, ◌||◌, ◌==◌, nat_lt, List, [], flat_map, zip, count_by, length, All, Option, Some, None, slice_index_or, IsTrue, ⊤}
use Rattle.std.specs.List.{enumerate_from, filter_map}
use Rattle.bc_profile.specs.declared.event.Event.{Event}
use Rattle.bc_profile.specs.declared.event.Event.TheVariants as events
use Rattle.bc_script.specs.declared.op.Op.{Op}
use Rattle.bc_script.specs.declared.op.Op.TheVariants as ops
use Rattle.bc_script.specs.Script.{Script}
use Rattle.bc_script.specs.Bios.{is_inline}
use Rattle.bc_report.specs.declared.answer.Answer.{Answer}
use Rattle.bc_report.specs.declared.answer.Answer.TheVariants as answers
use Rattle.bc_report.specs.Report.{Report}

-- one eviction of a run: its thread, the number of its operation, the key's number, and what it was
-- answered
pub record Eviction : Type 0 where
  pub thread : ℕ
  pub op : ℕ
  pub key : ℕ
  pub answer : Answer

-- an operation of a thread as an eviction, if it is one
abbrev pub eviction_in : ℕ → ℕ × (Op × Answer) → Option Eviction
eviction_in thread (op, (ops.Evict key, answer)) =
    Some (record { thread = thread; op = op; key = key.0; answer = answer })
eviction_in thread (op, (_, answer)) = None

-- the evictions of a thread
abbrev pub evictions_in : ℕ × (List Op × List Answer) → List Eviction
evictions_in (thread, (section, answers)) = filter_map (eviction_in thread) (enumerate_from 0 (zip section answers))

-- all evictions of a run
abbrev pub evictions_of : Script → Report → List Eviction
evictions_of script report = flat_map evictions_in (enumerate_from 0 (zip script.threads report.threads))

-- the event is an eviction of the key
abbrev pub is_evict : ℕ → Event → Bool
is_evict key (events.Evict slot other) = other == key
is_evict key _ = false

-- the event is a refused eviction of the key
abbrev pub is_busy : ℕ → Event → Bool
is_busy key (events.Busy slot other refs) = other == key
is_busy key _ = false

-- it is the refusal with this slot and these references
abbrev pub is_busy_with : ℕ → ℕ → ℕ → Event → Bool
is_busy_with key slot refs (events.Busy s other n) = (other == key) && (s == slot) && (n == refs)
is_busy_with key slot refs _ = false

-- the answer is the refusal of this device, with this slot and these references
abbrev pub names_busy : ℕ → ℕ → ℕ → Answer → Bool
names_busy device slot refs (answers.Busy d s n) = (d == device) && (s == slot) && (n == refs)
names_busy device slot refs _ = false

-- the answer is a refusal of this device
abbrev pub names_device : ℕ → Answer → Bool
names_device device (answers.Busy d s n) = d == device
names_device device _ = false

-- the answer is a refusal of a device before this one
abbrev pub names_before : ℕ → Answer → Bool
names_before device (answers.Busy d s n) = nat_lt d device
names_before device _ = false

-- how many evictions of a key were answered so
abbrev pub count_answered : List Eviction → ℕ → (Answer → Bool) → ℕ
count_answered evictions key test = count_by (λ e. (e.key == key) && test e.answer) evictions

-- how many events of a device pass a test
abbrev pub count_events : List (List Event) → ℕ → (Event → Bool) → ℕ
count_events devices device test = count_by test (slice_index_or devices device [])

-- what an eviction may be answered: one of a key that isn't inline `evicted`, one of an inline key
-- also `busy` at a device of the script
abbrev pub IsEvictionAnswer : Script → ℕ → Answer → Type 0
IsEvictionAnswer script key answers.Evicted = ⊤
IsEvictionAnswer script key (answers.Busy device slot refs) =
    IsTrue (is_inline script (record { 0 = key })) × (device < length script.targets)
IsEvictionAnswer script key _ = ⊥

-- evictions are answered as they may be, and each makes at most one event on a device
pub record EvictionsHold (script : Script) (evictions : List Eviction) (devices : List (List Event)) : Type 0 where
  pub answers : All (λ e. IsEvictionAnswer script e.key e.answer) evictions
  pub events : (device key : ℕ)
      → count_events devices device (λ event. is_evict key event || is_busy key event)
      ≤ count_by (λ e. e.key == key) evictions

-- each `busy` answer has an event of its own; each further `busy` event has an eviction that a
-- device before refused
pub record BusyAnswersHold (evictions : List Eviction) (devices : List (List Event)) : Type 0 where
  pub each_has_its_event : (device key slot refs : ℕ)
      → count_answered evictions key (names_busy device slot refs)
      ≤ count_events devices device (is_busy_with key slot refs)
  pub further : (device key : ℕ)
      → count_events devices device (is_busy key)
      ≤ count_answered evictions key (names_device device) + count_answered evictions key (names_before device)
