-- What one caller does, section after section: which uses it makes of each device, and which hold
-- an inline entry names. Script, image and number of shards decide such a run.
use Rattle.std.specs.Prelude.{◌≡◌, ℕ, ◌+◌, Bool, ◌==◌, List, [], ◌∷◌, map, filter, flat_map, length, take, Option, Some, None, slice_get, All, IsSomeAnd, ⊤, if◌then◌else◌}
use Rattle.std.specs.List.{enumerate_from, range_with_len, list_any, position_or_len}
use Rattle.std.specs.Option.{option_map_or}
use Rattle.bc_key.specs.declared.keys.KeyNo.{KeyNo}
use Rattle.bc_bio.specs.Windows.{TaggedBio, NamedUnit, units_of_request, requests_of}
use Rattle.bc_stack.specs.declared.target.Target.{Target}
use Rattle.bc_stack.specs.Pieces.{device_of, pieces_of}
use Rattle.bc_medium.specs.declared.unit_name.UnitName.{UnitName}
use Rattle.bc_medium.specs.declared.via.Via.{Via}
use Rattle.bc_medium.specs.declared.via.Via.TheVariants as vias
use Rattle.bc_medium.specs.LawfulOrders.{attempted_on, is_same}
use Rattle.bc_medium.specs.Outcome.{Run}
use Rattle.bc_profile.specs.declared.event.Event.{Event}
use Rattle.bc_profile.specs.declared.uses.Use.{Use}
use Rattle.bc_profile.specs.declared.uses.Use.TheVariants as uses
use Rattle.bc_profile.specs.SlotJournal.{opening}
use Rattle.bc_profile.specs.OneCaller.{journal_of}
use Rattle.bc_profile.specs.Programmings.{last_programming}
use Rattle.bc_script.specs.declared.op.Op.{Op}
use Rattle.bc_script.specs.Script.{Script, keys_of}
use Rattle.bc_script.specs.Bios.{is_inline}
use Rattle.bc_script.specs.Plan.{plan_of}
use Rattle.bc_script.specs.Windows.{Turn, turns_of}
use Rattle.bc_script.specs.Windows as turns
use Rattle.bc_report.specs.Report.{Report}
use Rattle.bc_report.specs.RunOf.{name_in, orders_of, own_key, run_of}
use Rattle.bc_report.specs.LawfulRun.{LawfulRun}

-- ---- the uses of a device

-- one use of a device, and the units for which a hold is taken
pub record DeviceUse : Type 0 where
  pub use' : Use
  pub units : List UnitName

-- the key of a request, if it goes inline
abbrev pub inline_key : Script → List TaggedBio → Option KeyNo
inline_key script [] = None
inline_key script (tagged ∷ others) =
    option_map_or (λ context. if is_inline script context.key then Some context.key else None) tagged.bio.context None

-- a piece lies on the device
abbrev pub is_on : Script → ℕ → List NamedUnit → Bool
is_on script device piece = list_any (λ u. device_of script.targets u == device) piece

-- a thread's unit, by name
abbrev pub name_at : ℕ → NamedUnit → UnitName
name_at thread u = record { thread = thread; op = u.tag; unit = u.unit }

-- the pieces of a request: its units, cut where the device changes
abbrev pub pieces_of_request : Script → List TaggedBio → List (List NamedUnit)
pieces_of_request script request = pieces_of script.targets (units_of_request (keys_of script) request)

-- a hold for each piece that an inline request has on the device
abbrev pub holds_for : Script → ℕ → ℕ → List TaggedBio → List DeviceUse
holds_for script device thread request =
    option_map_or
    (λ key. map (λ piece. record { use' = uses.Hold key; units = map (name_at thread) piece })
    (filter (is_on script device) (pieces_of_request script request)))
    (inline_key script request) []

-- what a turn of a thread makes of the device
abbrev pub uses_of_turn : Script → ℕ → ℕ → Turn → List DeviceUse
uses_of_turn script device thread (turns.Window bios) =
    flat_map (holds_for script device thread) (requests_of (keys_of script) bios)
uses_of_turn script device thread (turns.Evict key) =
    if is_inline script key then record { use' = uses.Evict key; units = [] } ∷ [] else []
uses_of_turn script device thread (turns.Reset other) =
    if other == device then record { use' = uses.Reset; units = [] } ∷ [] else []

-- what the section of a thread makes of it
abbrev pub uses_of_section : Script → ℕ → ℕ × List Op → List DeviceUse
uses_of_section script device (thread, section) = flat_map (uses_of_turn script device thread) (turns_of script section)

-- the uses of a device: those of section 0, then those of section 1, and so on
abbrev pub uses_of : Script → ℕ → List DeviceUse
uses_of script device = flat_map (uses_of_section script device) (enumerate_from 0 script.threads)

-- ---- journals and holds

-- what uses record on a device
abbrev pub journal_by : Target → List DeviceUse → List Event
journal_by target done = journal_of (opening target.slots) (map (λ u. u.use') done)

-- the journal of a device
abbrev pub serial_journal : Script → ℕ × Target → List Event
serial_journal script (device, target) = journal_by target (uses_of script device)

-- the uses up to the hold that is taken for a unit
abbrev pub uses_through : Script → ℕ → UnitName → List DeviceUse
uses_through script device name =
    take (position_or_len (λ u. list_any (is_same name) u.units) (uses_of script device) + 1) (uses_of script device)

-- where a unit under this key went inline, its entry names the slot of its hold, and the event that
-- programmed it
abbrev pub NamesHoldUnder : Script → Option ℕ → UnitName → Via → Type 0
NamesHoldUnder script under name (vias.Inline device slot event) =
    IsSomeAnd under (λ key. IsSomeAnd (slice_get script.targets device) (λ target.
    last_programming key (journal_by target (uses_through script device name)) ≡ Some (slot, event)))
NamesHoldUnder script under name via = ⊤

-- a unit's entry does, under the unit's own key
abbrev pub NamesHold : Script → Run → UnitName → Via → Type 0
NamesHold script run name via = NamesHoldUnder script (own_key run name) name via

-- ---- the run

-- section after section, each thread's attempted units on a shard
abbrev pub serial_order : Script → Report → ℕ → List UnitName
serial_order script report shard =
    flat_map
    (attempted_on (length report.shards) (plan_of script) script.faults
    (orders_of report) shard)
    (range_with_len 0 (length script.threads))

-- beside a lawful run, what makes the whole report a function of script, image and shards: the
-- sections follow one another, each journal is that of the device's uses, and each inline entry
-- names its own hold
pub record IsSerial (script : Script) (run : Run) (report : Report) : Type 0 where
  pub section_after_section :
      orders_of report ≡ map (serial_order script report) (range_with_len 0 (length report.shards))
  pub journals : report.devices ≡ map (serial_journal script) (enumerate_from 0 script.targets)
  pub holds : All (All (λ line. NamesHold script run (name_in line) line.via)) report.shards

-- this report and this image are left by a lawful run that goes section after section
pub record IsSerialRun (script : Script) (image : List ℕ) (shards : ℕ) (report : Report) (left : List ℕ)
    : Type 0 where
  pub lawful : LawfulRun script image shards report left
  pub serial : IsSerial script (run_of script image report) report
