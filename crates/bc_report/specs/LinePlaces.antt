-- Where a report's lines stand, and which line may follow. The contracts of private functions speak
-- of this; no public one does.
use Rattle.std.specs.Prelude.{◌≡◌, ℕ, suc, zero, ◌+◌, ◌-◌, ◌^◌, ◌<◌, if◌then◌else◌, List, [], ◌∷◌, codes}
use Rattle.std.specs.Str.{bytes_eq}
use Rattle.bc_text.specs.Lines.{TextLine}
use Rattle.bc_report.specs.declared.sort.Sort.{Sort}
use Rattle.bc_report.specs.declared.sort.Sort.TheVariants as sorts
use Rattle.bc_report.specs.declared.answer.Answer.{Answer}
use Rattle.bc_report.specs.declared.line.Line.{Line}
use Rattle.bc_profile.specs.declared.event.Event.{Event}
use Rattle.bc_report.specs.declared.limits.TheConstants.{MAX_THREADS, MAX_SHARDS, MAX_DEVICES}
use Rattle.bc_report.specs.Report.{IsAnswer, IsEntry, IsEvent}
use Rattle.bc_report.specs.ReportText.{answer_line, entry_line, event_line, thread_line, shard_line, device_line, head_line, foot_line}

-- Before the head; in a thread, with how many have begun; between whole parts, with how many
-- threads, shards and devices have begun; in a shard or a device, with the number of lines that it
-- still needs at the end; after the foot.
pub data LinePlace : Type 0 where
  Head : LinePlace
  InThread : ℕ → LinePlace
  Between : ℕ → ℕ → ℕ → LinePlace
  InShard : ℕ → ℕ → ℕ → LinePlace
  InDevice : ℕ → ℕ → ℕ → ℕ → LinePlace
  Foot : LinePlace

-- a shard that needs so many more entries
abbrev pub line_place_in_shard : ℕ → ℕ → ℕ → LinePlace
line_place_in_shard threads shards zero = Between threads shards 0
line_place_in_shard threads shards (suc owed) = InShard threads shards (suc owed)

-- a device that needs so many more events
abbrev pub line_place_in_device : ℕ → ℕ → ℕ → ℕ → LinePlace
line_place_in_device threads shards devices zero = Between threads shards devices
line_place_in_device threads shards devices (suc owed) = InDevice threads shards devices (suc owed)

-- what a line is by its first field, between parts
abbrev pub sort_of_word : List ℕ → Sort
sort_of_word word =
    if bytes_eq word (codes "thread") then sorts.Thread
    else (if bytes_eq word (codes "shard") then sorts.Shard
    else (if bytes_eq word (codes "device") then sorts.Device
    else (if bytes_eq word (codes "end") then sorts.End else sorts.Other)))

-- the sort of a line, by its first field
abbrev pub sort_of_line : TextLine → Sort
sort_of_line [] = sorts.Other
sort_of_line (word ∷ fields) = sort_of_word word

-- the line is an answer's
abbrev pub SaysAnswer : TextLine → Type 0
SaysAnswer line = (answer : Answer) × IsAnswer answer × (line ≡ answer_line answer)

-- the line is an entry's
abbrev pub SaysEntry : TextLine → Type 0
SaysEntry line = (entry : Line) × IsEntry entry × (line ≡ entry_line entry)

-- the line is an event's
abbrev pub SaysEvent : TextLine → Type 0
SaysEvent line = (event : Event) × IsEvent event × (line ≡ event_line event)

-- the line begins the next thread
abbrev pub BeginsThread : ℕ → TextLine → LinePlace → Type 0
BeginsThread threads line next =
    (threads < MAX_THREADS) × (line ≡ thread_line threads) × (next ≡ InThread (threads + 1))

-- the line begins the next shard
abbrev pub BeginsShard : ℕ → ℕ → TextLine → LinePlace → Type 0
BeginsShard threads shards line next =
    (shards < MAX_SHARDS) × ((count : ℕ) × (count < 2 ^ 32) × (line ≡ shard_line shards count)
    × (next ≡ line_place_in_shard threads (shards + 1) count))

-- the line begins the next device
abbrev pub BeginsDevice : ℕ → ℕ → ℕ → TextLine → LinePlace → Type 0
BeginsDevice threads shards devices line next =
    (devices < MAX_DEVICES)
    × ((count : ℕ) × (count < 2 ^ 32) × (line ≡ device_line devices count)
    × (next ≡ line_place_in_device threads shards (devices + 1) count))

-- a line of this sort follows between parts, and then the lines stand so
abbrev pub Follows : ℕ → ℕ → ℕ → Sort → TextLine → LinePlace → Type 0
Follows threads shards devices sorts.Thread line next = (shards ≡ 0) × (devices ≡ 0) × BeginsThread threads line next
Follows threads shards devices sorts.Shard line next = (devices ≡ 0) × BeginsShard threads shards line next
Follows threads shards devices sorts.Device line next = BeginsDevice threads shards devices line next
Follows threads shards devices sorts.End line next = (line ≡ foot_line) × (next ≡ Foot)
Follows threads shards devices sorts.Other line next = ⊥

-- a line of this sort follows in a thread
abbrev pub FollowsInThread : ℕ → Sort → TextLine → LinePlace → Type 0
FollowsInThread threads sorts.Other line next = SaysAnswer line × (next ≡ InThread threads)
FollowsInThread threads sort line next = Follows threads 0 0 sort line next

-- the line follows, and then the lines stand so
abbrev pub Goes : LinePlace → TextLine → LinePlace → Type 0
Goes Head line next = (line ≡ head_line) × (next ≡ Between 0 0 0)
Goes (InThread threads) line next = FollowsInThread threads (sort_of_line line) line next
Goes (Between threads shards devices) line next = Follows threads shards devices (sort_of_line line) line next
Goes (InShard threads shards owed) line next = SaysEntry line × (next ≡ line_place_in_shard threads shards (owed - 1))
Goes (InDevice threads shards devices owed) line next = SaysEvent line
    × (next ≡ line_place_in_device threads shards devices (owed - 1))
Goes Foot line next = ⊥

-- the line follows nowhere
abbrev pub IsStuck : LinePlace → TextLine → Type 0
IsStuck at line = (next : LinePlace) → Goes at line next → ⊥

-- the same place with the thread whole
abbrev pub whole_at : LinePlace → LinePlace
whole_at (InThread threads) = Between threads 0 0
whole_at at = at
