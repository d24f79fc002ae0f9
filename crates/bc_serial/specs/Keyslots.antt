-- What contracts see of the keyslots of a script's devices, for one caller. A hold may be open: it
-- was taken, and is given back by the next call that takes one. The journals are seen as they stand
-- when the open hold is given back.
use Rattle.std.specs.Prelude.{◌≡◌, ℕ, ◌+◌, ◌*◌, ◌<◌, ◌≤◌, ◌==◌, ◌&&◌, Bool, false, List, [], ◌∷◌, ◌++◌, length, drop}
use Rattle.std.specs.Prelude.{map, zip, slice_get, slice_set, Option, Some, None, IfSome, IsSomeAnd, Ok}
use Rattle.std.specs.Prelude.{option_and_then, if◌then◌else◌}
use Rattle.std.specs.List.{enumerate_from}
use Rattle.std.specs.Option.{unwrap_or, option_map_or}
use Rattle.bc_base.specs.Lists.{Each, At, AllAt, list_at}
use Rattle.bc_base.specs.Story.{StartsWith}
use Rattle.bc_key.specs.KeyData.{KeyData}
use Rattle.bc_modes.specs.Capabilities.{Capabilities, capabilities_of}
use Rattle.bc_modes.specs.Entries.{entry_words, read_words}
use Rattle.bc_modes.specs.UnitCipher.{CipherParts, parts_of}
use Rattle.bc_stack.specs.declared.target.Target.{Target}
use Rattle.bc_stack.specs.Targets.{StackParts}
use Rattle.bc_profile.specs.declared.event.Event.{Event}
use Rattle.bc_profile.specs.declared.event.Event.TheVariants as events
use Rattle.bc_profile.specs.declared.noted.Noted.{Noted}
use Rattle.bc_profile.specs.Story.{notes}
use Rattle.bc_medium.specs.declared.via.Via.{Via}
use Rattle.bc_medium.specs.declared.via.Via.TheVariants as vias
use Rattle.bc_profile.specs.declared.uses.Use.{Use}
use Rattle.bc_profile.specs.declared.uses.Use.TheVariants as uses
use Rattle.bc_profile.specs.Programmings.{Holds}
use Rattle.bc_profile.specs.Rows.{cleared}
use Rattle.bc_profile.specs.SlotJournal.{IsLawful}
use Rattle.bc_profile.specs.OneCaller.{events_of_eviction}
use Rattle.bc_profile.specs.SlotJournal.{InNoSlot, slots_after}
use Rattle.bc_profile.specs.Solo.{SoloData, HasSpare, solo_with_events, slots_of as slots_in}
use Rattle.bc_script.specs.Script.{Script, IsScript, keys_of, max_ops, max_units}
use Rattle.bc_report.specs.Report.{IsEvent}
use Rattle.bc_compose.specs.OrderedHolds.{slot_count_of}
use Rattle.bc_serial.specs.declared.open_hold.OpenHold.{OpenHold}
use Rattle.bc_section.specs.Uses.{after_uses}

-- the script's devices, the journal of each, what each journal was when the section began, and the
-- hold that is open
pub record KeyslotsData : Type 0 where
  pub script : Script
  pub journals : List (List Event)
  pub begun : List (List Event)
  pub opened : Option OpenHold

-- the most events that a device may record: two for each data unit, and one for each operation
abbrev pub max_events : ℕ
max_events = 2 * (max_units + max_ops)

-- the register row of a key: its entry, where the device supports it, and else zeros
abbrev pub row_of_key : Capabilities → KeyData → List ℕ
row_of_key caps key = unwrap_or (entry_words key caps) cleared

-- the rows of a device, by key
abbrev pub rows_of : Script → Target → List (List ℕ)
rows_of script target = map (row_of_key (capabilities_of target.caps)) (keys_of script)

-- the slot that is held on a device
abbrev pub held_on : Option OpenHold → ℕ → Option ℕ
held_on opened device = option_and_then (λ hold. if hold.device == device then Some hold.slot else None) opened

-- what giving back the hold of a slot, if one is held, records
abbrev pub giving_back : Option ℕ → List Event
giving_back held = option_map_or (λ slot. events.Idle slot ∷ []) held []

-- the journal of a device as it stands when its hold is given back
abbrev pub journal_in : SoloData → List Event
journal_in solo = solo.journal ++ giving_back solo.held

-- the story of a device for a thread whose section began with these events: those before are
-- others'
abbrev pub story_of : ℕ → List Event × List Event → List Noted
story_of thread (begun, journal) = notes (thread + 1) begun ++ notes thread (drop (length begun) journal)

-- the stories of the devices
abbrev pub stories_of : ℕ → List (List Event) → List (List Event) → List (List Noted)
stories_of thread begun journals = map (story_of thread) (zip begun journals)

-- a journal was replaced by what it is after a use, and the others are as they were
abbrev pub used_at : Script → ℕ → Use → List (List Event) → List (List Event)
used_at script device use' journals =
    slice_set journals device
    (after_uses script device (list_at journals device) (record { use' = use'; units = [] } ∷ []))

-- each device was used so
abbrev pub used_each : Script → Use → List (List Event) → List (List Event)
used_each script use' journals =
    map (λ at. after_uses script at.0 at.1 (record { use' = use'; units = [] } ∷ [])) (enumerate_from 0 journals)

-- no slot of a device has the key
abbrev pub HaveNotKey : Script → List (List Event) → ℕ → Type 0
HaveNotKey script journals key = (device : ℕ) → device < length script.targets
    → InNoSlot (slots_after (slot_count_of script device) (list_at journals device)) key

-- a hold of the key was taken on the device: the open one is that hold
pub record OpensHold (old new : KeyslotsData) (device key : ℕ) : Type 0 where
  pub slot : ℕ
  pub event : ℕ
  pub records : new ≡ record old {
    journals = used_at old.script device (uses.Hold (record { 0 = key })) old.journals;
    opened = Some (record { device = device; key = key; slot = slot; event = event });
  }
  pub holds : Holds (slot_count_of old.script device) (list_at new.journals device) key slot event

-- the hold that is open is of this key
abbrev pub IsOpenFor : Option OpenHold → ℕ → Type 0
IsOpenFor opened key = IsSomeAnd opened (λ hold. hold.key ≡ key)

-- the hold that is open is of this key on this device
abbrev pub is_open_for : Option OpenHold → ℕ → ℕ → Bool
is_open_for opened device key = option_map_or (λ hold. (hold.device == device) && (hold.key == key)) opened false

-- how a unit goes under the open hold
abbrev pub via_under : Option OpenHold → Via
via_under None = vias.Plain
via_under (Some hold) = vias.Inline hold.device hold.slot hold.event

-- the device's journal has room for so many events more
abbrev pub JournalHasRoom : KeyslotsData → ℕ → ℕ → Type 0
JournalHasRoom keyslots device events = length (list_at keyslots.journals device) + events ≤ max_events

-- ---- Private: what its contracts speak of

-- a device with its keyslots: as many as the script says, with the rows of the script's keys; one
-- is held where a hold is open on the device; its journal is lawful, with no more events than may
-- be recorded, and their numbers are in their ranges
pub record IsKeyslotsOf (script : Script) (opened : Option OpenHold) (device : ℕ) (target : Target) (solo : SoloData)
    : Type 0 where
  pub count : solo.count ≡ target.slots
  pub rows : solo.rows ≡ rows_of script target
  pub quota : solo.quota ≡ max_events
  pub held : solo.held ≡ held_on opened device
  pub within : length (journal_in solo) ≤ max_events
  pub ranges : Each IsEvent (journal_in solo)
  pub lawful : IsLawful solo.count (journal_in solo)

-- a key can be taken out of a device: no slot is held, the key has a row, and an event more fits
pub record MayEvict (key : ℕ) (solo : SoloData) : Type 0 where
  pub free : solo.held ≡ None
  pub row : key < length solo.rows
  pub spare : HasSpare solo 1

-- no slot of the device has the key
abbrev pub IsRidOf : ℕ → SoloData → Type 0
IsRidOf key solo = InNoSlot (slots_in solo) key

-- the device after a key was taken out
abbrev pub evicted : ℕ → SoloData → SoloData
evicted key solo = solo_with_events solo (events_of_eviction (slots_in solo) key) None

-- words that stood in a slot's registers, and the parts of the cipher that they mean
pub record SlotCipherData : Type 0 where
  pub words : List ℕ
  pub parts : CipherParts

-- the cipher, if there is one, is what its words mean to a device with these capabilities
abbrev pub MeansItsWords : Capabilities → Option SlotCipherData → Type 0
MeansItsWords caps kept = IfSome kept (λ c. read_words c.words caps ≡ Ok c.parts)

-- the open hold is of a key of the script, on a device whose slot has the key; the slot's cipher is
-- the key's
pub record IsOpenHold (script : Script) (devices : List SoloData) (ciphers : List (List (Option SlotCipherData)))
    (hold : OpenHold) : Type 0 where
  pub key : KeyData
  pub is_key : slice_get (keys_of script) hold.key ≡ Some key
  pub solo : SoloData
  pub solo_at : At devices hold.device solo
  pub holds : Holds solo.count solo.journal hold.key hold.slot hold.event
  pub kept : SlotCipherData
  pub kept_at : slice_get (list_at ciphers hold.device) hold.slot ≡ Some (Some kept)
  pub cipher : kept.parts ≡ parts_of key

-- what the keyslots of a script keep
pub record IsKeyslots (script : Script) (stack : StackParts) (caps : List Capabilities) (devices : List SoloData)
    (ciphers : List (List (Option SlotCipherData))) (begun : List SoloData) (opened : Option OpenHold) : Type 0 where
  pub rules : IsScript script
  pub stack_is : stack ≡ record { targets = script.targets; blocks = script.blocks }
  pub caps_are : caps ≡ map (λ target. capabilities_of target.caps) script.targets
  pub count : length devices ≡ length script.targets
  pub each : (device : ℕ)
      → AllAt script.targets device (λ target. AllAt devices device (IsKeyslotsOf script opened device target))
  pub cipher_count : length ciphers ≡ length script.targets
  pub each_ciphers : (device : ℕ) → AllAt script.targets device (λ target. AllAt ciphers device
      (λ kept. (length kept ≡ target.slots) × Each (MeansItsWords (capabilities_of target.caps)) kept))
  pub begun_count : length begun ≡ length devices
  pub begins : (device : ℕ)
      → StartsWith (list_at (map journal_in devices) device) (list_at (map journal_in begun) device)
  pub open_is : IfSome opened (λ hold. IsOpenHold script devices ciphers hold)

-- the parts are those of the cipher of the hold's key
abbrev pub IsCipherOf : List KeyData → Option OpenHold → CipherParts → Type 0
IsCipherOf keys opened parts =
    IsSomeAnd opened (λ hold. IsSomeAnd (slice_get keys hold.key) (λ key. parts ≡ parts_of key))
