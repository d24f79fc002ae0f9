-- A report that is being read: what the lines say that have been read so far. The contracts of
-- private functions speak of this; no public one does.
use Rattle.std.specs.Prelude.{◌≡◌, ℕ, ◌+◌, ◌-◌, ◌^◌, ◌<◌, ◌≤◌, List, [], ◌∷◌, ◌++◌, length, map, ⊤}
use Rattle.std.specs.List.{AllByRecursion}
use Rattle.bc_text.specs.Lines.{TextLine, nothing}
use Rattle.bc_report.specs.declared.part.Part.{Part}
use Rattle.bc_report.specs.declared.part.Part.TheVariants as parts
use Rattle.bc_report.specs.declared.answer.Answer.{Answer}
use Rattle.bc_report.specs.declared.line.Line.{Line}
use Rattle.bc_profile.specs.declared.event.Event.{Event}
use Rattle.bc_report.specs.declared.report_error.ReportError.{ReportError}
use Rattle.bc_report.specs.declared.report_error.ReportError.TheVariants as errors
use Rattle.bc_report.specs.declared.unread.Unread.{Unread}
use Rattle.bc_report.specs.declared.unread.Unread.TheVariants as unread
use Rattle.bc_report.specs.declared.limits.TheConstants.{MAX_THREADS, MAX_SHARDS, MAX_DEVICES}
use Rattle.bc_report.specs.Report.{Report, IsReport, IsAnswer, IsEntry, IsEvent, IsPart}
use Rattle.bc_report.specs.ReportText.{entry_line, event_line, thread_lines, shard_line, device_line, all_threads, all_shards, all_devices, head_line, foot_line, report_lines}
use Rattle.bc_report.specs.LinePlaces.{LinePlace, Head, InThread, Between, Foot, line_place_in_shard, line_place_in_device, Goes, IsStuck}

-- the part that is being read, the parts that are whole, the lines of the one that isn't, and how
-- many it still needs
pub record Progress : Type 0 where
  pub part : Part
  pub threads : List (List Answer)
  pub shards : List (List Line)
  pub devices : List (List Event)
  pub answers : List Answer
  pub entries : List Line
  pub events : List Event
  pub owed : ℕ

-- ---- the lines that have been read

-- a shard whose lines have been read so far
abbrev pub shard_begun : Progress → List TextLine
shard_begun p = shard_line (length p.shards) (length p.entries + p.owed) ∷ map entry_line p.entries

-- a device whose lines have been read so far
abbrev pub device_begun : Progress → List TextLine
device_begun p = device_line (length p.devices) (length p.events + p.owed) ∷ map event_line p.events

-- the lines read while this part is being read
abbrev pub read_in : Part → Progress → List TextLine
read_in parts.Head p = []
read_in parts.Between p = head_line ∷ (all_threads p.threads ++ (all_shards p.shards ++ all_devices p.devices))
read_in parts.Answers p = head_line ∷ (all_threads p.threads ++ thread_lines (length p.threads, p.answers))
read_in parts.Entries p = head_line ∷ (all_threads p.threads ++ (all_shards p.shards ++ shard_begun p))
read_in parts.Events p = head_line ∷ (all_threads p.threads
    ++ (all_shards p.shards ++ (all_devices p.devices ++ device_begun p)))
read_in parts.Foot p =
    head_line ∷ (all_threads p.threads ++ (all_shards p.shards ++ (all_devices p.devices ++ foot_line ∷ [])))

-- all lines that have been read
abbrev pub lines_read : Progress → List TextLine
lines_read p = read_in p.part p

-- where they stand
abbrev pub line_place_in : Part → Progress → LinePlace
line_place_in parts.Head p = Head
line_place_in parts.Between p = Between (length p.threads) (length p.shards) (length p.devices)
line_place_in parts.Answers p = InThread (length p.threads + 1)
line_place_in parts.Entries p = line_place_in_shard (length p.threads) (length p.shards + 1) p.owed
line_place_in parts.Events p = line_place_in_device (length p.threads) (length p.shards) (length p.devices + 1) p.owed
line_place_in parts.Foot p = Foot

-- where the part that is being read stands
abbrev pub line_place_of : Progress → LinePlace
line_place_of p = line_place_in p.part p

-- ---- what holds of them

-- whole parts, with room for so many more
pub record AreWhole (threads : List (List Answer)) (shards : List (List Line)) (devices : List (List Event))
    (more_threads more_shards more_devices : ℕ) : Type 0 where
  pub few_threads : length threads + more_threads ≤ MAX_THREADS
  pub few_shards : length shards + more_shards ≤ MAX_SHARDS
  pub few_devices : length devices + more_devices ≤ MAX_DEVICES
  pub answers : AllByRecursion (AllByRecursion IsAnswer) threads
  pub entries : AllByRecursion (IsPart IsEntry) shards
  pub events : AllByRecursion (IsPart IsEvent) devices

-- a part that isn't whole
pub record IsBegunPart {X : Type 0} (Valid : X → Type 0) (lines : List X) (owed : ℕ) : Type 0 where
  pub count : length lines + owed < 2 ^ 32
  pub each : AllByRecursion Valid lines

-- the rules of a report, as far as it has been read
abbrev pub RulesIn : Part → Progress → Type 0
RulesIn parts.Head p = (p.threads ≡ []) × (p.shards ≡ []) × (p.devices ≡ [])
RulesIn parts.Between p = AreWhole p.threads p.shards p.devices 0 0 0
RulesIn parts.Answers p = AreWhole p.threads p.shards p.devices 1 0 0 × AllByRecursion IsAnswer p.answers
    × (p.shards ≡ []) × (p.devices ≡ [])
RulesIn parts.Entries p = AreWhole p.threads p.shards p.devices 0 1 0 × IsBegunPart IsEntry p.entries p.owed
    × (p.devices ≡ [])
RulesIn parts.Events p = AreWhole p.threads p.shards p.devices 0 0 1 × IsBegunPart IsEvent p.events p.owed
RulesIn parts.Foot p = AreWhole p.threads p.shards p.devices 0 0 0

-- the rules of what has been read
abbrev pub IsProgress : Progress → Type 0
IsProgress p = RulesIn p.part p

-- this part is being read, and its rules hold
pub record IsIn (part : Part) (p : Progress) : Type 0 where
  pub part_is : p.part ≡ part
  pub rules : RulesIn part p

-- ---- what a line adds

-- the head has been read
abbrev pub after_head : Progress → Progress
after_head p = record p { part = parts.Between }

-- one answer more of the thread
abbrev pub with_answer : Progress → Answer → Progress
with_answer p answer = record p { answers = p.answers ++ answer ∷ [] }

-- one entry more of the shard, and one fewer to come
abbrev pub with_entry : Progress → Line → Progress
with_entry p entry = record p { entries = p.entries ++ entry ∷ []; owed = p.owed - 1 }

-- one event more of the device, and one fewer to come
abbrev pub with_event : Progress → Event → Progress
with_event p event = record p { events = p.events ++ event ∷ []; owed = p.owed - 1 }

-- a thread begins
abbrev pub with_thread : Progress → Progress
with_thread p = record p { part = parts.Answers; answers = [] }

-- a shard begins, of so many entries
abbrev pub with_shard : Progress → ℕ → Progress
with_shard p count = record p { part = parts.Entries; entries = []; owed = count }

-- a device begins, of so many events
abbrev pub with_device : Progress → ℕ → Progress
with_device p count = record p { part = parts.Events; events = []; owed = count }

-- the last line has been read
abbrev pub with_foot : Progress → Progress
with_foot p = record p { part = parts.Foot }

-- the thread that is being read is whole
abbrev pub thread_closed : Progress → Progress
thread_closed p = record p { part = parts.Between; threads = p.threads ++ p.answers ∷ []; answers = [] }

-- the shard that is being read is whole
abbrev pub shard_closed : Progress → Progress
shard_closed p = record p { part = parts.Between; shards = p.shards ++ p.entries ∷ []; entries = [] }

-- the device that is being read is whole
abbrev pub device_closed : Progress → Progress
device_closed p = record p { part = parts.Between; devices = p.devices ++ p.events ∷ []; events = [] }

-- the report whose parts are whole
abbrev pub report_read : Progress → Report
report_read p = record { threads = p.threads; shards = p.shards; devices = p.devices }

-- ---- what a reader of reports answers

-- the line has been read
pub record TookReportLine (old : Progress) (line : TextLine) (new : Progress) : Type 0 where
  pub lines : lines_read new ≡ lines_read old ++ line ∷ []
  pub goes : Goes (line_place_of old) line (line_place_of new)
  pub rules : IsProgress new

-- the line isn't read: no report has it there, or the process was out of memory
abbrev pub RefusesLine : Progress → TextLine → Unread → Type 0
RefusesLine p line unread.Bad = IsStuck (line_place_of p) line
RefusesLine p line unread.Memory = ⊤

-- the report whose lines have all been read, and which has nothing after them
pub record IsWholeReport (p : Progress) (rest : TextLine) (report : Report) : Type 0 where
  pub valid : IsReport report
  pub lines : report_lines report ≡ lines_read p
  pub rest_is : rest ≡ nothing

-- the report isn't whole, or something stands after it
abbrev pub IsNotWhole : Progress → TextLine → Type 0
IsNotWhole p rest = line_place_of p ≡ Foot → rest ≡ nothing → ⊥

-- the error names the next line, which isn't read, or the process was out of memory
abbrev pub TakesNone : Progress → TextLine → ℕ → ReportError → Type 0
TakesNone p line number (errors.Bad named) = (named ≡ number) × IsStuck (line_place_of p) line
TakesNone p line number errors.Memory = ⊤

-- the error names the next line, since the report isn't whole, or something stands after it
abbrev pub EndsNone : Progress → TextLine → ℕ → ReportError → Type 0
EndsNone p rest number (errors.Bad named) = (named ≡ number) × IsNotWhole p rest
EndsNone p rest number errors.Memory = ⊤
