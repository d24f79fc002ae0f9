-- The text of a report, by its lines: the head, for each thread its answers, for each shard its
-- entries, for each device its events, and the foot. Each sort of line is one definition.
use Rattle.std.specs.Prelude.{◌≡◌, ℕ, List, [], ◌∷◌, ◌++◌, codes, length, map, flat_map}
use Rattle.std.specs.List.{enumerate_from}
use Rattle.std.specs.Fmt.{decimal}
use Rattle.hex.specs.Hex.{encode_lower}
use Rattle.bc_text.specs.Lines.{TextLine, lines_text}
use Rattle.bc_text.specs.Fields.{byte_text}
use Rattle.bc_bio.specs.declared.refusal.BioError.TheVariants.{Empty, Misaligned, Outside, DunRange}
use Rattle.bc_bio.specs.declared.refusal.Refusal.{Refusal}
use Rattle.bc_bio.specs.declared.refusal.Refusal.TheVariants.{Bio, Unsupported}
use Rattle.bc_medium.specs.declared.via.Via.{Via}
use Rattle.bc_medium.specs.declared.via.Via.TheVariants.{Plain, Soft, Inline}
use Rattle.bc_profile.specs.declared.skips.Skip.{Skip}
use Rattle.bc_profile.specs.declared.event.Event.{Event}
use Rattle.bc_profile.specs.declared.event.Event.TheVariants as events
use Rattle.bc_report.specs.declared.answer.Answer.{Answer}
use Rattle.bc_report.specs.declared.answer.Answer.TheVariants.{Wrote, ReadFill, ReadSum, Fault, Refused, Evicted, Busy, Reset, Plug, Unplug}
use Rattle.bc_report.specs.declared.line.Line.{Line}
use Rattle.bc_report.specs.Report.{Report, IsReport}

-- ---- a line for each answer

-- why a bio was refused, in one word
abbrev pub refusal_word : Refusal → List ℕ
refusal_word (Bio Empty) = codes "empty"
refusal_word (Bio Misaligned) = codes "misaligned"
refusal_word (Bio Outside) = codes "outside"
refusal_word (Bio DunRange) = codes "dun"
refusal_word Unsupported = codes "unsupported"

-- what an operation was answered
abbrev pub answer_line : Answer → TextLine
answer_line Wrote = codes "done" ∷ []
answer_line (ReadFill byte) = codes "done" ∷ codes "fill" ∷ byte_text byte ∷ []
answer_line (ReadSum digest) = codes "done" ∷ codes "sha256" ∷ encode_lower digest ∷ []
answer_line (Fault unit) = codes "fault" ∷ decimal unit ∷ []
answer_line (Refused refusal) = codes "refused" ∷ refusal_word refusal ∷ []
answer_line Evicted = codes "evicted" ∷ []
answer_line (Busy device slot refs) = codes "busy" ∷ decimal device ∷ decimal slot ∷ decimal refs ∷ []
answer_line Reset = codes "reset" ∷ []
answer_line Plug = codes "plug" ∷ []
answer_line Unplug = codes "unplug" ∷ []

-- ---- a line for each entry

-- the way of a data unit: an inline one names its device, its slot, and the event that programmed
-- the slot
abbrev pub via_fields : Via → TextLine
via_fields Plain = codes "plain" ∷ []
via_fields Soft = codes "soft" ∷ []
via_fields (Inline device slot event) = codes "inline" ∷ decimal device ∷ decimal slot ∷ decimal event ∷ []

-- the thread, the operation and the unit, and its way
abbrev pub entry_line : Line → TextLine
entry_line entry = decimal entry.thread ∷ decimal entry.op ∷ decimal entry.unit ∷ via_fields entry.via

-- ---- a line for each event

-- a slot that was passed over, and the references found on it
abbrev pub skip_field : Skip → List ℕ
skip_field skip = decimal skip.slot ++ (codes ":" ++ decimal skip.refs)

-- the slots that were passed over, where there are any
abbrev pub skip_fields : List Skip → TextLine
skip_fields [] = []
skip_fields (skip ∷ skips) = codes "skip" ∷ map skip_field (skip ∷ skips)

-- the line of an event
abbrev pub event_line : Event → TextLine
event_line (events.Program slot key skipped) = codes "program" ∷ decimal slot ∷ decimal key ∷ skip_fields skipped
event_line (events.Idle slot) = codes "idle" ∷ decimal slot ∷ []
event_line (events.Evict slot key) = codes "evict" ∷ decimal slot ∷ decimal key ∷ []
event_line (events.Busy slot key refs) = codes "busy" ∷ decimal slot ∷ decimal key ∷ decimal refs ∷ []
event_line events.Reset = codes "reset" ∷ []

-- ---- the parts, each with its number, from 0

-- a thread's first line
abbrev pub thread_line : ℕ → TextLine
thread_line number = codes "thread" ∷ decimal number ∷ []

-- a shard's first line, with the number of lines that follow in its part
abbrev pub shard_line : ℕ → ℕ → TextLine
shard_line number count = codes "shard" ∷ decimal number ∷ decimal count ∷ []

-- a device's first line, with the number of lines that follow in its part
abbrev pub device_line : ℕ → ℕ → TextLine
device_line number count = codes "device" ∷ decimal number ∷ decimal count ∷ []

-- a thread and its answers
abbrev pub thread_lines : ℕ × List Answer → List TextLine
thread_lines (number, answers) = thread_line number ∷ map answer_line answers

-- a shard and its entries
abbrev pub shard_lines : ℕ × List Line → List TextLine
shard_lines (number, entries) = shard_line number (length entries) ∷ map entry_line entries

-- a device and its events
abbrev pub device_lines : ℕ × List Event → List TextLine
device_lines (number, events) = device_line number (length events) ∷ map event_line events

-- all threads
abbrev pub all_threads : List (List Answer) → List TextLine
all_threads threads = flat_map thread_lines (enumerate_from 0 threads)

-- all shards
abbrev pub all_shards : List (List Line) → List TextLine
all_shards shards = flat_map shard_lines (enumerate_from 0 shards)

-- all devices
abbrev pub all_devices : List (List Event) → List TextLine
all_devices devices = flat_map device_lines (enumerate_from 0 devices)

-- ---- the whole text

-- the first line, with the version
abbrev pub head_line : TextLine
head_line = codes "report" ∷ codes "1" ∷ []

-- the last line
abbrev pub foot_line : TextLine
foot_line = codes "end" ∷ []

-- the lines of a report
abbrev pub report_lines : Report → List TextLine
report_lines report =
    head_line ∷ (all_threads report.threads ++ (all_shards report.shards
    ++ (all_devices report.devices ++ foot_line ∷ [])))

-- the one text of a report
abbrev pub report_text : Report → List ℕ
report_text report = lines_text (report_lines report)

-- the text is this report's
pub record SaysReport (text : List ℕ) (report : Report) : Type 0 where
  pub valid : IsReport report
  pub text_is : text ≡ report_text report
