-- A run put together from its sections: what each thread knows, and what the closed shards and
-- devices tell. Such a run is lawful but for who held a slot; where its sections follow one another
-- it is the one serial run, which is lawful whole.
use Rattle.std.specs.Prelude.{◌≡◌, ℕ, ◌*◌, ◌<◌, ◌≤◌, List, [], map, filter, flat_map, length, All, ⊤}
use Rattle.std.specs.List.{range_with_len, enumerate_from}
use Rattle.bc_base.specs.Lists.{Each, list_at}
use Rattle.bc_medium.specs.declared.entry.Entry.{Entry}
use Rattle.bc_medium.specs.KeyedDisk.{Sectors}
use Rattle.bc_medium.specs.Entries.{name_of_entry}
use Rattle.bc_medium.specs.Growth.{lies_in}
use Rattle.bc_medium.specs.Outcome.{Run}
use Rattle.bc_profile.specs.declared.event.Event.{Event}
use Rattle.bc_profile.specs.declared.event.Event.TheVariants as events
use Rattle.bc_profile.specs.declared.noted.Noted.{Noted}
use Rattle.bc_profile.specs.Story.{events_of}
use Rattle.bc_script.specs.Script.{Script, IsScript}
use Rattle.bc_report.specs.Report.{Report}
use Rattle.bc_report.specs.RunOf.{run_of}
use Rattle.bc_report.specs.LawfulRun.{LawfulButHolders, HoldersAreKnown, LawfulRun}
use Rattle.bc_report.specs.SerialRun.{NamesHoldUnder, serial_journal, IsSerial, IsSerialRun}
use Rattle.bc_compose.specs.SectionDone.{key_of_entry, SectionDone}
use Rattle.bc_compose.specs.ClosedOrders.{ShardsClosed, StoresClosed, DevicesClosed, IsReported}

-- all sections of a script are done over this image on so many shards, and the shards are closed
-- with these orders
pub record AreSectionsOf (script : Script) (image : List ℕ) (shards : ℕ) (report : Report) (left : List ℕ)
    (made : ℕ → List Entry) (orders : List (List Entry)) (journals : List (List Noted)) : Type 0 where
  pub base : ℕ → Sectors
  pub seen : ℕ → List (List Entry)
  pub noted : ℕ → List (List Noted)
  pub rules : IsScript script
  pub some : 1 ≤ shards
  pub whole : length image ≡ 4096 * script.blocks
  pub answered : length report.threads ≡ length script.threads
  pub sections : (t : ℕ) → t < length script.threads
      → SectionDone script shards base t (list_at script.threads t) (seen t) (noted t) (list_at report.threads t)
      (made t)
  pub shards_closed : ShardsClosed script.faults shards (length script.threads) seen orders
  pub stores_closed : StoresClosed script shards base image orders left
  pub devices_closed : DevicesClosed script (length script.threads) noted journals
  pub reported : IsReported orders journals report

-- in each order the entries of thread 0 come first, then those of thread 1, and so on
abbrev pub FollowOneAnother : ℕ → ℕ → (ℕ → List Entry) → List (List Entry) → Type 0
FollowOneAnother shards threads made orders =
    (shard : ℕ) → shard < shards
    → list_at orders shard ≡ flat_map (λ t. filter (lies_in shards shard) (made t)) (range_with_len 0 threads)

-- the entry names the slot of its own hold, and the event that programmed it, as the uses of its
-- device up to that hold have it
abbrev pub NamesItsHold : Script → Entry → Type 0
NamesItsHold script e = NamesHoldUnder script (key_of_entry e) (name_of_entry e) e.via

-- each journal is that of the device's uses by one caller, and each entry of each thread names its
-- own hold
pub record AreUses (script : Script) (threads : ℕ) (made : ℕ → List Entry) (journals : List (List Noted)) : Type 0 where
  pub journals_are : map events_of journals ≡ map (serial_journal script) (enumerate_from 0 script.targets)
  pub holds : (t : ℕ) → t < threads → Each (NamesItsHold script) (made t)

-- sections that are done make a run that is lawful but for who held a slot
abbrev pub SectionsMakeALawfulRun : Type 0
SectionsMakeALawfulRun =
    (script : Script) (image : List ℕ) (shards : ℕ) (report : Report) (left : List ℕ)
    (made : ℕ → List Entry) (orders : List (List Entry)) (journals : List (List Noted))
    → AreSectionsOf script image shards report left made orders journals
    → LawfulButHolders script image shards report left

-- and the serial one where they follow one another and each journal is that of one caller's uses
abbrev pub SectionsInTurnMakeASerialRun : Type 0
SectionsInTurnMakeASerialRun =
    (script : Script) (image : List ℕ) (shards : ℕ) (report : Report) (left : List ℕ)
    (made : ℕ → List Entry) (orders : List (List Entry)) (journals : List (List Noted))
    → AreSectionsOf script image shards report left made orders journals
    → FollowOneAnother shards (length script.threads) made orders
    → AreUses script (length script.threads) made journals
    → IsSerial script (run_of script image report) report

-- in a serial run no slot is found with references, and every slot is idle at the end
abbrev pub SerialRunsHaveKnownHolders : Type 0
SerialRunsHaveKnownHolders =
    (script : Script) (run : Run) (report : Report)
    → IsScript script → IsSerial script run report → HoldersAreKnown script report

-- two serial runs of one script, over one image, with as many shards, have one report and leave one
-- image
abbrev pub SerialRunsAgree : Type 0
SerialRunsAgree =
    (script : Script) (image : List ℕ) (shards : ℕ) (one other : Report) (left other_left : List ℕ)
    → IsScript script
    → IsSerialRun script image shards one left → IsSerialRun script image shards other other_left
    → (one ≡ other) × (left ≡ other_left)

-- an event found no slot with references: it isn't a refusal, nor a programming that passed over a
-- slot
abbrev pub FindsNone : Event → Type 0
FindsNone (events.Program slot key skipped) = skipped ≡ []
FindsNone (events.Busy slot key refs) = ⊥
FindsNone _ = ⊤

-- in a lawful run of one section no event finds a slot with references
abbrev pub OneSectionFindsNone : Type 0
OneSectionFindsNone =
    (script : Script) (image : List ℕ) (shards : ℕ) (report : Report) (left : List ℕ)
    → length script.threads ≡ 1 → LawfulRun script image shards report left
    → All (All FindsNone) report.devices
