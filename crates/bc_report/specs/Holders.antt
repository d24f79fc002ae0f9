-- Who may have held a slot that an eviction or a programming found with references.
use Rattle.std.specs.Prelude.{ℕ, Bool, false, not, ◌&&◌, ◌==◌, nat_le, List, count_by, All, IsTrue, IfSome, ⊤}
use Rattle.std.specs.List.{list_any, enumerate_from, AllZip}
use Rattle.std.specs.Option.{option_map_or}
use Rattle.bc_bio.specs.PlannedUnit.{PlannedUnit}
use Rattle.bc_profile.specs.declared.event.Event.{Event}
use Rattle.bc_profile.specs.declared.event.Event.TheVariants as events
use Rattle.bc_profile.specs.SlotJournal.{Slots, opening, key_of, EachEvent}
use Rattle.bc_script.specs.declared.op.Op.{Op}
use Rattle.bc_script.specs.declared.op.Op.TheVariants as ops
use Rattle.bc_script.specs.Script.{Script}
use Rattle.bc_script.specs.Plan.{plan_of}
use Rattle.bc_script.specs.Way.{Way, way_of, inline}

-- the way is inline by this device
abbrev pub is_way_on : ℕ → Way → Bool
is_way_on device (inline other) = other == device
is_way_on device _ = false

-- the unit goes inline under this key by this device
abbrev pub is_unit_under : Script → ℕ → ℕ → PlannedUnit → Bool
is_unit_under script key device u =
    option_map_or (λ context. context.key.0 == key) u.context false
    && is_way_on device (way_of script u.context u.sector)

-- of these units, those of an accepted inline bio under the key touch the device
abbrev pub touches : Script → ℕ → ℕ → List PlannedUnit → Bool
touches script key device units = list_any (is_unit_under script key device) units

-- the operation is an eviction of the key
abbrev pub is_eviction_of : ℕ → Op → Bool
is_eviction_of key (ops.Evict other) = other.0 == key
is_eviction_of key _ = false

-- the section has an eviction of the key
abbrev pub evicts : ℕ → List Op → Bool
evicts key section = list_any (is_eviction_of key) section

-- how many threads other than this one have such a bio
abbrev pub count_others : Script → ℕ → ℕ → ℕ → ℕ
count_others script key device thread =
    count_by (λ other. not (other.0 == thread) && touches script key device other.1) (enumerate_from 0 (plan_of script))

-- some thread evicts the key, and so many others have a bio under it on the device
abbrev pub may_refuse : Script → ℕ → ℕ → ℕ → Bool
may_refuse script device key refs =
    list_any (λ section. evicts key section.1 && nat_le refs (count_others script key device section.0))
    (enumerate_from 0 script.threads)

-- some thread has a bio under the key that is programmed, and so many others one under the key of
-- the slot
abbrev pub may_skip : Script → ℕ → ℕ → ℕ → ℕ → Bool
may_skip script device programmed key refs =
    list_any
    (λ units. touches script programmed device units.1 && nat_le refs (count_others script key device units.0))
    (enumerate_from 0 (plan_of script))

-- what an event needs, where these slots are before it
abbrev pub HasHolders : Script → ℕ → Slots → Event → Type 0
HasHolders script device slots (events.Busy slot key refs) = IsTrue (may_refuse script device key refs)
HasHolders script device slots (events.Program slot programmed skipped) =
    All
    (λ skip. IfSome (key_of slots skip.slot) (λ key. IsTrue (may_skip script device programmed key skip.refs)))
    skipped
HasHolders script device slots _ = ⊤

-- each event of each device has it
abbrev pub HaveHolders : Script → List (List Event) → Type 0
HaveHolders script devices =
    AllZip (λ target events. EachEvent (HasHolders script target.0) (opening target.1.slots) events)
    (enumerate_from 0 script.targets) devices
