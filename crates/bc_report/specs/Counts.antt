-- How many events there are on a device, by the operations of the script.
use Rattle.std.specs.Prelude.{◌≡◌, ℕ, ◌≤◌, Bool, true, false, ◌==◌, List, count_by, sum_by}
use Rattle.std.specs.List.{list_any, enumerate_from}
use Rattle.bc_profile.specs.declared.event.Event.{Event}
use Rattle.bc_profile.specs.declared.event.Event.TheVariants as events
use Rattle.bc_script.specs.declared.op.Op.{Op}
use Rattle.bc_script.specs.declared.op.Op.TheVariants as ops
use Rattle.bc_script.specs.Script.{Script}
use Rattle.bc_script.specs.Plan.{units_of}
use Rattle.bc_script.specs.Way.{way_of}
use Rattle.bc_report.specs.Evictions.{count_events}
use Rattle.bc_report.specs.Holders.{is_way_on, touches}

-- how many operations of the script pass a test; each is given with its number
abbrev pub count_operations : Script → (ℕ × Op → Bool) → ℕ
count_operations script test = sum_by (λ section. count_by test (enumerate_from 0 section)) script.threads

-- the operation is a reset of the device
abbrev pub is_reset_of : ℕ → ℕ × Op → Bool
is_reset_of device (op, ops.Reset other) = other == device
is_reset_of device _ = false

-- the operation has an accepted inline bio under the key that touches the device
abbrev pub touches_under : Script → ℕ → ℕ → ℕ × Op → Bool
touches_under script device key operation = touches script key device (units_of script operation)

-- the operation has an accepted inline bio, under any key, that touches the device
abbrev pub touches_any : Script → ℕ → ℕ × Op → Bool
touches_any script device operation =
    list_any (λ u. is_way_on device (way_of script u.context u.sector)) (units_of script operation)

-- the event is a reset
abbrev pub is_reset : Event → Bool
is_reset events.Reset = true
is_reset _ = false

-- the event programs the key
abbrev pub is_programming_of : ℕ → Event → Bool
is_programming_of key (events.Program slot other skipped) = other == key
is_programming_of key _ = false

-- the event is that a slot became idle
abbrev pub is_idle : Event → Bool
is_idle (events.Idle slot) = true
is_idle _ = false

-- the resets are as many as the script asks for; programmings and idle slots are at most as many as
-- its inline bios
pub record CountsHold (script : Script) (devices : List (List Event)) : Type 0 where
  pub resets : (device : ℕ) → count_events devices device is_reset ≡ count_operations script (is_reset_of device)
  pub programmings : (device key : ℕ)
      → count_events devices device (is_programming_of key) ≤ count_operations script (touches_under script device key)
  pub idles : (device : ℕ) → count_events devices device is_idle ≤ count_operations script (touches_any script device)
