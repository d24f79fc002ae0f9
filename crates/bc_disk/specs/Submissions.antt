-- What a submission of bios does, whichever way they go: inline by their devices, by software, or in the clear.
use Rattle.std.specs.Prelude.{◌≡◌, ℕ, ◌+◌, ◌*◌, ◌≤◌, Bool, true, false, List, [], ◌∷◌, map, flat_map, Option, Some}
use Rattle.std.specs.Prelude.{None, MatchOption, ⊤, if◌then◌else◌}
use Rattle.std.specs.Option.{option_map_or}
use Rattle.std.specs.List.{AllZip}
use Rattle.bc_base.specs.Lists.{Each, list_at}
use Rattle.bc_base.specs.Sectors.{Sectors}
use Rattle.bc_key.specs.declared.keys.KeyNo.{KeyNo}
use Rattle.bc_key.specs.KeyData.{KeyData}
use Rattle.bc_bio.specs.declared.bio.Bio.{Bio}
use Rattle.bc_bio.specs.declared.context.Context.{Context}
use Rattle.bc_bio.specs.declared.marked_bio.MarkedBio.{MarkedBio}
use Rattle.bc_bio.specs.declared.reply.Reply.{Reply}
use Rattle.bc_bio.specs.declared.reply.Reply.TheVariants as replies
use Rattle.bc_bio.specs.BioUnits.{extent_of}
use Rattle.bc_bio.specs.Conditions.{AreFull, HasKey}
use Rattle.bc_bio.specs.Windows.{NamedUnit, TaggedBio, requests_of, units_of_request}
use Rattle.bc_bio.specs.Requests.{RequestParts, reply_of, tagged_bios, tagged_of, unmarked}
use Rattle.bc_medium.specs.declared.entry.Entry.{Entry}
use Rattle.bc_medium.specs.declared.via.Via.{Via}
use Rattle.bc_medium.specs.declared.via.Via.TheVariants as ways
use Rattle.bc_medium.specs.Growth.{Attempts, Grows}
use Rattle.bc_profile.specs.declared.noted.Noted.{Noted}
use Rattle.bc_stack.specs.declared.target.Target.{Target}
use Rattle.bc_stack.specs.Devices.{device_at}
use Rattle.bc_stack.specs.Pieces.{pieces_of}
use Rattle.bc_queue.specs.RequestUnits.{count_units_on}
use Rattle.bc_queue.specs.declared.plug.TheConstants.{MAX_PLUGGED}
use Rattle.bc_queue.specs.Plugs.{PlugParts, count_bios}
use Rattle.bc_queue.specs.Carrying.{AccessFacts}
use Rattle.bc_queue.specs.Laws.{TagsDiffer}
use Rattle.bc_pieces.specs.Pieces.{DeviceFacts, NotesOn, SameDisk, pieces_on}
use Rattle.bc_pieces.specs.PieceEffects.{HasHoldBetween, IsHoldOf, OneHold, Rise, events_on}
use Rattle.bc_pieces.specs.Becoming.{Becomes, planned_units}
use Rattle.bc_pieces.specs.AttemptedRequest.{HasNoFault, IsWholeRequest}
use Rattle.bc_disk.specs.declared.disk.PlugBack.{PlugBack}
use Rattle.bc_disk.specs.declared.disk.PlugBack.TheVariants as backs
use Rattle.bc_disk.specs.declared.submission.Way.{Way}
use Rattle.bc_disk.specs.declared.submission.Way.TheVariants as goings
use Rattle.bc_disk.specs.Disks.{DiskData, PassData, facts_on, goes_inline, keys_in, refusal_on}

-- ---- the pieces of requests

-- the key of a request, if it goes inline
abbrev pub inline_key : List Target → List KeyData → List TaggedBio → Option KeyNo
inline_key targets keys [] = None
inline_key targets keys (tagged ∷ others) =
    option_map_or (λ context. if goes_inline targets keys context.key then Some context.key else None)
    tagged.bio.context None

-- the pieces of a request that goes inline; another one has none
abbrev pub inline_pieces : List Target → List KeyData → List TaggedBio → List (List NamedUnit)
inline_pieces targets keys request =
    option_map_or (λ key. pieces_of targets (units_of_request keys request)) (inline_key targets keys request) []

-- the pieces of the requests of a window
abbrev pub window_pieces : List Target → List KeyData → List Bio → List (List NamedUnit)
window_pieces targets keys bios = flat_map (inline_pieces targets keys) (requests_of keys (map tagged_of bios))

-- ---- ways

-- inline, by the device of the sector
abbrev pub IsInlineAt : List Target → ℕ → Via → Type 0
IsInlineAt targets sector (ways.Inline device slot event) = device_at targets sector ≡ Some device
IsInlineAt targets sector via = ⊥

-- under a key that goes inline, or by software
abbrev pub IsUnderWay : Bool → List Target → ℕ → Via → Type 0
IsUnderWay true targets sector via = IsInlineAt targets sector via
IsUnderWay false targets sector via = via ≡ ways.Soft

-- the way of a unit with this context at this sector
abbrev pub IsWayOf : List Target → List KeyData → Option Context → ℕ → Via → Type 0
IsWayOf targets keys None sector via = via ≡ ways.Plain
IsWayOf targets keys (Some context) sector via =
    IsUnderWay (goes_inline targets keys context.key) targets sector via

-- the entry's unit went its way
abbrev pub GoesItsWay : List Target → List KeyData → Entry → Type 0
GoesItsWay targets keys e = IsWayOf targets keys e.at.context e.at.sector e.via

-- Private: how the units of a request go whose first one has this context.
abbrev pub IsWayFor : List Target → List KeyData → Option Context → Way → Type 0
IsWayFor targets keys context goings.Plain = context ≡ None
IsWayFor targets keys context goings.Soft =
    (c : Context) × (context ≡ Some c) × (goes_inline targets keys c.key ≡ false)
IsWayFor targets keys context goings.Inline =
    (c : Context) × (context ≡ Some c) × (goes_inline targets keys c.key ≡ true)

-- the way is inline
abbrev pub IsInline : Via → Type 0
IsInline (ways.Inline device slot event) = ⊤
IsInline via = ⊥

-- an inline entry has its hold, between two states of the journals
abbrev pub HasItsHold : (ℕ → ℕ) → List (List Noted) → List (List Noted) → Entry → Type 0
HasItsHold slots old new e = IsInline e.via → HasHoldBetween slots old new e

-- ---- what is added

-- The caller's entries go on by just these, each by the way of its unit; its events by those of one hold for each
-- piece; each inline entry has its hold, and none names an earlier event than one before it.
pub record Adds (old new : DeviceFacts) (pieces : List (List NamedUnit)) : Type 0 where
  pub same : SameDisk old new
  pub made : List Entry
  pub holds : List OneHold
  pub one_for_each : AllZip (IsHoldOf old.targets) pieces holds
  pub grows : Grows old.access.shards old.access.caller old.access.seen new.access.seen made
  pub ways : Each (GoesItsWay old.targets old.access.keys) made
  pub notes : (device : ℕ) → NotesOn old.access.caller (list_at old.noted device) (list_at new.noted device)
      (events_on holds device)
  pub held : Each (HasItsHold old.slots old.noted new.noted) made
  pub rises : Rise made

-- a request was carried out as a whole
pub record CarriesRequest (old new : DeviceFacts) (before after : RequestParts) : Type 0 where
  pub adds : Adds old new (inline_pieces old.targets old.access.keys (tagged_bios before.bios))
  pub whole : HasNoFault before.bios → IsWholeRequest old.access new.access before after adds.made
  pub bios : tagged_bios after.bios ≡ tagged_bios before.bios
  pub room : after.spare ≡ before.spare

-- what a bio is answered: what became of it
abbrev pub RepliesTo : AccessFacts → List (List Entry) → Bio → Reply → Type 0
RepliesTo facts seen bio reply =
    (after : MarkedBio) × Becomes facts seen (unmarked bio) after × (reply ≡ reply_of after)

-- Bios were submitted as a window, and answered. Where no two of them have one tag, the entries are those of their
-- units that are to be attempted, each once, in their order.
pub record Submits (old new : DeviceFacts) (bios : List Bio) (answers : List Reply) : Type 0 where
  pub adds : Adds old new (window_pieces old.targets old.access.keys bios)
  pub attempts : TagsDiffer (map tagged_of bios)
      → Attempts old.access.caller [] (flat_map (planned_units old.access.keys) bios) adds.made
  pub replies : AllZip (RepliesTo old.access new.access.seen) bios answers

-- ---- conditions

-- a disk takes the bio: it doesn't refuse it, and its units have their bytes
pub record IsTaken {S : Type 0} (disk : DiskData S) (bio : Bio) : Type 0 where
  pub key : HasKey (keys_in disk) bio.context
  pub unrefused : refusal_on disk (extent_of bio) ≡ None
  pub full : AreFull (keys_in disk) bio

-- the bios of a plug or a request, without their marks
abbrev pub bare_bios : List MarkedBio → List Bio
bare_bios bios = map (λ marked. marked.bio) bios

-- none of these bios has met a fault, and the disk takes each of them
abbrev pub AreTaken : {S : Type 0} → DiskData S → List MarkedBio → Type 0
AreTaken disk bios = Each (λ marked. (marked.fault ≡ None) × IsTaken disk marked.bio) bios

-- why a bio wasn't plugged: the disk refuses it, or else the plug is full; and the bio is given back
abbrev pub IsPlugBack : {S : Type 0} → DiskData S → PlugParts → Bio → PlugBack → Type 0
IsPlugBack disk plug bio (backs.Refused refusal back) = (refusal_on disk (extent_of bio) ≡ Some refusal) × (back ≡ bio)
IsPlugBack disk plug bio (backs.Full back) =
    (refusal_on disk (extent_of bio) ≡ None) × (count_bios plug.requests ≡ MAX_PLUGGED) × (back ≡ bio)

-- the caller may have an entry more for each unit of these bios on its shard
abbrev pub HasEntriesFor : DeviceFacts → List Bio → Type 0
HasEntriesFor facts bios =
    (shard : ℕ) → count_units_on facts.access.shards shard (flat_map (planned_units facts.access.keys) bios)
    ≤ facts.access.spare shard

-- the caller's room has become less by those entries at most
abbrev pub LeavesEntries : DeviceFacts → DeviceFacts → List Bio → Type 0
LeavesEntries old new bios =
    (shard : ℕ) → old.access.spare shard
    ≤ new.access.spare shard + count_units_on old.access.shards shard (flat_map (planned_units old.access.keys) bios)

-- two events for each piece of the bios on a device
abbrev pub events_for : List Target → List KeyData → List Bio → ℕ → ℕ
events_for targets keys bios device = 2 * pieces_on targets device (window_pieces targets keys bios)

-- two events for each piece of a request on a device, where it goes inline
abbrev pub inline_events : {S : Type 0} → DiskData S → List TaggedBio → ℕ → ℕ
inline_events disk request device =
    2 * pieces_on disk.targets device (inline_pieces disk.targets (keys_in disk) request)

-- a bio was answered: it was refused, and nothing changed; or it was submitted alone
abbrev pub AnswersBio :
    {S : Type 0} → (S → Option Sectors) → DiskData S → PassData S → PassData S → Bio → Reply → Type 0
AnswersBio contents disk old new bio reply =
    MatchOption (refusal_on disk (extent_of bio))
    (Submits (facts_on contents disk old) (facts_on contents disk new) (bio ∷ []) (reply ∷ []))
    (λ refusal. (reply ≡ replies.Refused refusal bio) × (new ≡ old))
