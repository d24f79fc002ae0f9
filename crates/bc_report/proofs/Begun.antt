-- Some report begins with the lines of a report that has been read so far.
use Rattle.std.proofs.Common.{◌≡◌, ℕ, zero, suc, ◌≤◌, List, [], ◌∷◌, ◌++◌, refl, sym, ap, subst, ◌∙◌, append_assoc, append-nil, arith}
use Rattle.std.specs.List.{AllByRecursion}
use Rattle.bc_text.specs.Lines.{TextLine}
use Rattle.bc_profile.specs.declared.event.Event.TheVariants as events
use Rattle.bc_report.specs.declared.part.Part.{Part}
use Rattle.bc_report.specs.declared.part.Part.TheVariants as parts
use Rattle.bc_medium.specs.declared.via.Via.TheVariants as vias
use Rattle.bc_report.specs.declared.line.Line.{Line}
use Rattle.bc_report.specs.Report.{IsReport, IsAnswer, IsEntry, IsEvent, IsPart}
use Rattle.bc_report.specs.ReportText.{entry_line, event_line, all_threads, all_shards, all_devices, head_line, foot_line}
use Rattle.bc_report.specs.ReportErrors.{BeginsReport}
use Rattle.bc_report.specs.Progress.{Progress, lines_read, read_in, AreWhole, IsBegunPart, IsProgress, IsIn, with_entry, with_event, thread_closed, shard_closed, device_closed, report_read}
use Rattle.bc_report.proofs.Taken.{all_push, length_push, one_more, lines_in, entry_rules, event_rules, took_entry, took_event, thread_lines_stay, shard_lines_stay, device_lines_stay}

-- a report begins with what begins its beginning
pub begins_prefix : (a b : List TextLine) → BeginsReport (a ++ b) → BeginsReport a
begins_prefix a b begins = record { report = begins.report; valid = begins.valid; others = b ++ begins.others; lines_are = begins.lines_are ∙ append_assoc a b begins.others }

whole_report : (p : Progress) → AreWhole p.threads p.shards p.devices 0 0 0 → IsReport (report_read p)
whole_report p w = record {
  few_threads = omega (arith, w.few_threads);
  few_shards = omega (arith, w.few_shards);
  few_devices = omega (arith, w.few_devices);
  answers = w.answers;
  entries = w.entries;
  events = w.events;
}

begins_between : (p : Progress) → AreWhole p.threads p.shards p.devices 0 0 0 → BeginsReport (read_in parts.Between p)
begins_between p w =
    let t = all_threads p.threads in
    let s = all_shards p.shards in
    let d = all_devices p.devices in
    record {
      report = report_read p;
      valid = whole_report p w;
      others = foot_line ∷ [];
      lines_are = ap (λ (ls : List TextLine). head_line ∷ (t ++ ls)) (sym (append_assoc s d (foot_line ∷ []))) ∙ sym (one_more head_line foot_line t (s ++ d));
    }

nothing_is : AreWhole [] [] [] 0 0 0
nothing_is = record { few_threads = omega arith; few_shards = omega arith; few_devices = omega arith; answers = tt; entries = tt; events = tt }

empty : Progress
empty = record { part = parts.Between; threads = []; shards = []; devices = []; answers = []; entries = []; events = []; owed = 0 }

begins_nothing : BeginsReport []
unfolding empty
begins_nothing = begins_prefix [] (read_in parts.Between empty) (begins_between empty nothing_is)

thread_whole : (p : Progress) → IsIn parts.Answers p → AreWhole (thread_closed p).threads p.shards p.devices 0 0 0
thread_whole p i =
    let r = i.rules.0 in
    record {
      few_threads = omega (arith, r.few_threads, length_push p.threads p.answers);
      few_shards = r.few_shards;
      few_devices = r.few_devices;
      answers = all_push (AllByRecursion IsAnswer) p.threads p.answers r.answers i.rules.1;
      entries = r.entries;
      events = r.events;
    }

none_owed : {X : Type 0} (P : X → Type 0) (xs : List X) (owed : ℕ) → owed ≡ 0 → IsBegunPart P xs owed → IsPart P xs
none_owed P xs owed none b = record { count = omega (arith, b.count); each = b.each }

shard_whole : (p : Progress) → IsIn parts.Entries p → p.owed ≡ 0 → AreWhole p.threads (shard_closed p).shards p.devices 0 0 0
shard_whole p i none =
    let r = i.rules.0 in
    record {
      few_threads = r.few_threads;
      few_shards = omega (arith, r.few_shards, length_push p.shards p.entries);
      few_devices = r.few_devices;
      answers = r.answers;
      entries = all_push (IsPart IsEntry) p.shards p.entries r.entries (none_owed IsEntry p.entries p.owed none i.rules.1);
      events = r.events;
    }

device_whole : (p : Progress) → IsIn parts.Events p → p.owed ≡ 0 → AreWhole p.threads p.shards (device_closed p).devices 0 0 0
device_whole p i none =
    let r = i.rules.0 in
    record {
      few_threads = r.few_threads;
      few_shards = r.few_shards;
      few_devices = omega (arith, r.few_devices, length_push p.devices p.events);
      answers = r.answers;
      entries = r.entries;
      events = all_push (IsPart IsEvent) p.devices p.events r.events (none_owed IsEvent p.events p.owed none i.rules.1);
    }

-- an entry, and an event, that may stand anywhere
some_entry : Line
some_entry = record { thread = 0; op = 0; unit = 0; via = vias.Plain }

is_entry : IsEntry some_entry
unfolding some_entry
is_entry = record { thread = omega arith; op = omega arith; unit = omega arith; via = tt }

begins_shard : (owed : ℕ) (p : Progress) → IsIn parts.Entries p → p.owed ≡ owed → BeginsReport (lines_read p)
begins_shard zero p i none = subst BeginsReport (shard_lines_stay p i none) (begins_between (shard_closed p) (shard_whole p i none))
begins_shard (suc owed) p i some =
    let needs : 1 ≤ p.owed = omega arith in
    let q = with_entry p some_entry in
    let took = took_entry p q (entry_line some_entry) some_entry i needs is_entry refl refl in
    let j : IsIn parts.Entries q = record { part_is = i.part_is; rules = entry_rules p some_entry i needs is_entry } in
    begins_prefix (lines_read p) (entry_line some_entry ∷ []) (subst BeginsReport took.lines (begins_shard owed q j (omega arith)))

begins_device : (owed : ℕ) (p : Progress) → IsIn parts.Events p → p.owed ≡ owed → BeginsReport (lines_read p)
begins_device zero p i none = subst BeginsReport (device_lines_stay p i none) (begins_between (device_closed p) (device_whole p i none))
begins_device (suc owed) p i some =
    let needs : 1 ≤ p.owed = omega arith in
    let q = with_event p events.Reset in
    let took = took_event p q (event_line events.Reset) events.Reset i needs tt refl refl in
    let j : IsIn parts.Events q = record { part_is = i.part_is; rules = event_rules p events.Reset i needs tt } in
    begins_prefix (lines_read p) (event_line events.Reset ∷ []) (subst BeginsReport took.lines (begins_device owed q j (omega arith)))

begins_whole : (p : Progress) → AreWhole p.threads p.shards p.devices 0 0 0 → BeginsReport (read_in parts.Foot p)
begins_whole p w = record { report = report_read p; valid = whole_report p w; others = []; lines_are = sym (append-nil (read_in parts.Foot p)) }

begins_in : (part : Part) (p : Progress) → IsIn part p → BeginsReport (lines_read p)
begins_in parts.Head p i = subst BeginsReport (sym (lines_in parts.Head p i)) begins_nothing
begins_in parts.Between p i = subst BeginsReport (sym (lines_in parts.Between p i)) (begins_between p i.rules)
begins_in parts.Answers p i = subst BeginsReport (thread_lines_stay p i) (begins_between (thread_closed p) (thread_whole p i))
begins_in parts.Entries p i = begins_shard p.owed p i refl
begins_in parts.Events p i = begins_device p.owed p i refl
begins_in parts.Foot p i = subst BeginsReport (sym (lines_in parts.Foot p i)) (begins_whole p i.rules)

pub begins : (p : Progress) → IsProgress p → BeginsReport (lines_read p)
begins p rules = begins_in p.part p (record { part_is = refl; rules = rules })
