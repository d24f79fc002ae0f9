-- What carrying out a request over the devices of a disk does, whatever a caller's way to them: the pieces of the
-- request, one after the other, each by its device under one hold of its key.
use Rattle.std.specs.Prelude.{◌≡◌, ℕ, ◌+◌, ◌<◌, ◌≤◌, ◌==◌, Bool, false, List, [], ◌∷◌, ◌++◌, filter, length, take, drop}
use Rattle.std.specs.Prelude.{slice_get, sum_by, Option, Some, if◌then◌else◌}
use Rattle.std.specs.Option.{option_map, option_map_or}
use Rattle.bc_base.specs.Lists.{Each, list_at}
use Rattle.bc_base.specs.Story.{own, StartsWith}
use Rattle.bc_key.specs.KeyData.{KeyData}
use Rattle.bc_bio.specs.declared.context.Context.{Context}
use Rattle.bc_bio.specs.Windows.{NamedUnit, count_units, units_of_request}
use Rattle.bc_bio.specs.Requests.{RequestParts, tagged_bios, unit_in}
use Rattle.bc_medium.specs.Layout.{shard_of}
use Rattle.bc_medium.specs.declared.via.Via.{Via}
use Rattle.bc_medium.specs.declared.via.Via.TheVariants as ways
use Rattle.bc_profile.specs.declared.event.Event.{Event}
use Rattle.bc_profile.specs.declared.event.Event.TheVariants as events
use Rattle.bc_profile.specs.declared.noted.Noted.{Noted}
use Rattle.bc_profile.specs.declared.skips.Skip.{Skip}
use Rattle.bc_profile.specs.Story.{Holds, author_of, notes}
use Rattle.bc_stack.specs.declared.target.Target.{Target}
use Rattle.bc_stack.specs.Pieces.{device_of, LiesOnDevice, pieces_of}
use Rattle.bc_queue.specs.RequestUnits.{named_at}
use Rattle.bc_queue.specs.Carrying.{AccessFacts, CarriesOut, IsPerformableUnit}
use Rattle.bc_queue.specs.Queues.{IsUnderKey}

-- a caller's way to the devices of a disk: its way to the data units, where that of a unit is left open; the devices'
-- parts of the disk, how many keyslots each device has, and the journal of each as far as the caller has seen it
pub record DeviceFacts : Type 0 where
  pub access : AccessFacts
  pub targets : List Target
  pub slots : ℕ → ℕ
  pub noted : List (List Noted)

-- the way to the data units that go so
abbrev pub access_by : Via → DeviceFacts → AccessFacts
access_by via facts = record facts.access { via = via }

-- the same caller on the same disk
pub record SameDisk (old new : DeviceFacts) : Type 0 where
  pub keys : new.access.keys ≡ old.access.keys
  pub shards : new.access.shards ≡ old.access.shards
  pub caller : new.access.caller ≡ old.access.caller
  pub targets : new.targets ≡ old.targets
  pub slots : new.slots ≡ old.slots

-- the data units of a request
abbrev pub request_units : List KeyData → RequestParts → List NamedUnit
request_units keys request = units_of_request keys (tagged_bios request.bios)

-- its pieces
abbrev pub pieces_in : List KeyData → List Target → RequestParts → List (List NamedUnit)
pieces_in keys targets request = pieces_of targets (request_units keys request)

-- how many of these units lie in a shard
abbrev pub named_on : ℕ → ℕ → List NamedUnit → ℕ
named_on shards shard units = length (filter (λ u. shard_of shards u.sector == shard) units)

-- whether a piece lies on this device: where its first unit does
abbrev pub is_piece_on : List Target → ℕ → List NamedUnit → Bool
is_piece_on targets device [] = false
is_piece_on targets device (unit ∷ units) = device_of targets unit == device

-- whether a piece is under the key with this number: what its first unit is under
abbrev pub is_piece_under : ℕ → List NamedUnit → Bool
is_piece_under key [] = false
is_piece_under key (unit ∷ units) = option_map_or (λ context. context.key.0 == key) unit.context false

-- how many of these pieces lie on a device
abbrev pub pieces_on : List Target → ℕ → List (List NamedUnit) → ℕ
pieces_on targets device pieces = length (filter (is_piece_on targets device) pieces)

-- so many of its units, from this number on
abbrev pub piece_part : List KeyData → RequestParts → ℕ → ℕ → List NamedUnit
piece_part keys request first count = take count (drop first (request_units keys request))

-- unit number n of a request lies on this device
abbrev pub IsOnDevice : List KeyData → List Target → RequestParts → ℕ → ℕ → Type 0
IsOnDevice keys targets request n device =
    option_map (device_of targets) (slice_get (request_units keys request) n) ≡ Some device

-- what one hold adds to a device's journal: at most the programming of the slot with the key, and then that it is idle
pub record AreOfOneHold (key slot : ℕ) (made : List Event) : Type 0 where
  pub skipped : List Skip
  pub programs : ℕ
  pub idles : ℕ
  pub one_program : programs ≤ 1
  pub one_idle : idles ≤ 1
  pub events : made ≡ take programs (events.Program slot key skipped ∷ []) ++ take idles (events.Idle slot ∷ [])

-- of this caller the journal of a device goes on by just these events
pub record NotesOn (caller : ℕ) (old new : List Noted) (made : List Event) : Type 0 where
  pub front : StartsWith new old
  pub adds : own author_of caller new ≡ own author_of caller old ++ notes caller made

-- these events on one device, and none on the others
abbrev pub at_device : ℕ → List Event → ℕ → List Event
at_device device made other = if other == device then made else []

-- A piece of a request was carried out by its device: it took one hold of the piece's key, also where all of its units
-- were passed over, and each entry names the device, the hold's slot and the event that programmed it.
pub record CarriesPiece (old new : DeviceFacts) (before after : RequestParts) (first device count : ℕ) : Type 0 where
  pub same : SameDisk old new
  pub under : Context
  pub first_context : (named_at old.access.keys before.bios first).context ≡ Some under
  pub slot : ℕ
  pub epoch : ℕ
  pub carries : CarriesOut (access_by (ways.Inline device slot epoch) old)
      (access_by (ways.Inline device slot epoch) new) before after first count
  pub keyed : Each (IsUnderKey under.key.0) carries.made
  pub made : List Event
  pub one_hold : AreOfOneHold under.key.0 slot made
  pub notes : (other : ℕ) → NotesOn old.access.caller (list_at old.noted other) (list_at new.noted other)
      (at_device device made other)
  pub front : List Noted
  pub begins : StartsWith front (list_at old.noted device)
  pub seen : StartsWith (list_at new.noted device) front
  pub holds : Holds (old.slots device) front under.key.0 slot epoch

-- the first piece of what is left of a request was carried out by the device that has all its units, and the way tells
-- this of it
pub record CarriesFirst (Exact : DeviceFacts → DeviceFacts → ℕ → List NamedUnit → Type 0) (keys : List KeyData)
    (targets : List Target) (old new : DeviceFacts) (before after : RequestParts) (first : ℕ) (piece : List NamedUnit)
    : Type 0 where
  pub device : ℕ
  pub has_device : device < length targets
  pub on_device : (n : ℕ) → first ≤ n → n < first + length piece → IsOnDevice keys targets before n device
  pub some : 1 ≤ length piece
  pub piece_is : piece ≡ piece_part keys before first (length piece)
  pub carries : CarriesPiece old new before after first device (length piece)
  pub exact : Exact old new device piece

-- pieces of a request, from unit number `first` on, were carried out one after the other
abbrev pub CarriesPieces : (DeviceFacts → DeviceFacts → ℕ → List NamedUnit → Type 0) → List KeyData → List Target
    → DeviceFacts → DeviceFacts → RequestParts → RequestParts → ℕ → List (List NamedUnit) → Type 0
CarriesPieces Exact keys targets old new before after first [] = (new ≡ old) × (after ≡ before)
CarriesPieces Exact keys targets old new before after first (piece ∷ pieces) =
    (mid : DeviceFacts) × (now : RequestParts) × CarriesFirst Exact keys targets old mid before now first piece
    × CarriesPieces Exact keys targets mid new now after (first + length piece) pieces

-- each unit of a request lies on a device, has its bytes, and is one that this device takes
pub record GoesByDevices (keys : List KeyData) (targets : List Target) (Takes : ℕ → ℕ → Option Context → Type 0)
    (request : RequestParts) : Type 0 where
  pub located : (n : ℕ) → n < count_units (tagged_bios request.bios)
      → LiesOnDevice keys targets (tagged_bios request.bios) n
  pub taken : (n device : ℕ) → n < count_units (tagged_bios request.bios) → IsOnDevice keys targets request n device
      → IsPerformableUnit keys (Takes device) request.bios n

-- Private: of a request the units below this number were carried out by pieces, and those from there on are as they
-- were.
pub record HasCarried (Exact : DeviceFacts → DeviceFacts → ℕ → List NamedUnit → Type 0) (keys : List KeyData)
    (targets : List Target) (old now : DeviceFacts) (before after : RequestParts) (first : ℕ) : Type 0 where
  pub done : List (List NamedUnit)
  pub within : first ≤ count_units (tagged_bios before.bios)
  pub carried : CarriesPieces Exact keys targets old now before after 0 done
  pub reaches : sum_by length done ≡ first
  pub whole : pieces_in keys targets before ≡ done ++ pieces_of targets (drop first (request_units keys before))
  pub keys_are : now.access.keys ≡ keys
  pub targets_are : now.targets ≡ targets
  pub bios : tagged_bios after.bios ≡ tagged_bios before.bios
  pub left : (n : ℕ) → first ≤ n → unit_in after.bios n ≡ unit_in before.bios n
