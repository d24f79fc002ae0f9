-- Each line of a report is one: its fields have no space and no line feed.
use Rattle.std.proofs.Common.{ℕ, ◌+◌, ◌<◌, ◌≤◌, ◌^◌, List, [], ◌∷◌, ◌++◌, length, map, refl, arith}
use Rattle.std.specs.Prelude.{codes}
use Rattle.std.specs.Fmt.{decimal}
use Rattle.std.specs.List.{AllByRecursion, flat_map, enumerate_from}
use Rattle.bc_text.specs.Lines.{TextLine, IsField, IsLine, space}
use Rattle.bc_text.proofs.FieldLaws.{IsField-from_test, IsField-decimal}
use Rattle.bc_bio.specs.declared.refusal.BioError.TheVariants.{Empty, Misaligned, Outside, DunRange}
use Rattle.bc_bio.specs.declared.refusal.Refusal.{Refusal}
use Rattle.bc_bio.specs.declared.refusal.Refusal.TheVariants.{Bio, Unsupported}
use Rattle.bc_profile.specs.declared.skips.Skip.{Skip}
use Rattle.bc_profile.specs.declared.event.Event.{Event}
use Rattle.bc_profile.specs.declared.event.Event.TheVariants as events
use Rattle.bc_medium.specs.declared.via.Via.{Via}
use Rattle.bc_medium.specs.declared.via.Via.TheVariants.{Plain, Soft, Inline}
use Rattle.bc_report.specs.declared.answer.Answer.{Answer}
use Rattle.bc_report.specs.declared.answer.Answer.TheVariants as answers
use Rattle.bc_report.specs.declared.line.Line.{Line}
use Rattle.bc_report.specs.Report.{Report, IsReport, IsAnswer, IsVia, IsEntry, IsSkip, IsEvent, IsPart}
use Rattle.bc_report.specs.ReportText.{refusal_word, answer_line, via_fields, entry_line, skip_field, skip_fields, event_line, thread_lines, shard_lines, device_lines, all_threads, all_shards, all_devices, report_lines}
use Rattle.bc_script.proofs.Fields.{one_byte}
use Rattle.bc_script.proofs.LineFields.{IsField-encode_lower}

-- ---- fields

IsField-append : (a b : List ℕ) → IsField a → IsField b → IsField (a ++ b)
IsField-append [] b p q = q
IsField-append (x ∷ a) b p q = (p.0, IsField-append a b p.1 q)

number : (n : ℕ) → n < 2 ^ 32 → IsField (decimal n)
number n small = IsField-decimal n (omega arith)

-- ---- lines

refusal_field : (r : Refusal) → IsField (refusal_word r)
refusal_field (Bio Empty) = IsField-from_test (codes "empty") refl
refusal_field (Bio Misaligned) = IsField-from_test (codes "misaligned") refl
refusal_field (Bio Outside) = IsField-from_test (codes "outside") refl
refusal_field (Bio DunRange) = IsField-from_test (codes "dun") refl
refusal_field Unsupported = IsField-from_test (codes "unsupported") refl

answer_fields : (a : Answer) → IsAnswer a → IsLine (answer_line a)
answer_fields answers.Wrote is = (omega arith, (IsField-from_test (codes "done") refl, tt))
answer_fields (answers.ReadFill byte) is = (omega arith, (IsField-from_test (codes "done") refl, (IsField-from_test (codes "fill") refl, (IsField-encode_lower (byte ∷ []) (one_byte byte is), tt))))
answer_fields (answers.ReadSum digest) is = (omega arith, (IsField-from_test (codes "done") refl, (IsField-from_test (codes "sha256") refl, (IsField-encode_lower digest is.0, tt))))
answer_fields (answers.Fault unit) is = (omega arith, (IsField-from_test (codes "fault") refl, (number unit is, tt)))
answer_fields (answers.Refused refusal) is = (omega arith, (IsField-from_test (codes "refused") refl, (refusal_field refusal, tt)))
answer_fields answers.Evicted is = (omega arith, (IsField-from_test (codes "evicted") refl, tt))
answer_fields (answers.Busy device slot refs) is =
    (omega arith, (IsField-from_test (codes "busy") refl, (number device (omega (arith, is.0)), (number slot (omega (arith, is.1)), (number refs (omega (arith, is.2)), tt)))))
answer_fields answers.Reset is = (omega arith, (IsField-from_test (codes "reset") refl, tt))
answer_fields answers.Plug is = (omega arith, (IsField-from_test (codes "plug") refl, tt))
answer_fields answers.Unplug is = (omega arith, (IsField-from_test (codes "unplug") refl, tt))

via_are : (v : Via) → IsVia v → AllByRecursion IsField (via_fields v)
via_are Plain is = (IsField-from_test (codes "plain") refl, tt)
via_are Soft is = (IsField-from_test (codes "soft") refl, tt)
via_are (Inline device slot event) is = (IsField-from_test (codes "inline") refl, (number device (omega (arith, is.0)), (number slot (omega (arith, is.1)), (number event is.2, tt))))

entry_fields : (e : Line) → IsEntry e → IsLine (entry_line e)
entry_fields e is = (omega arith, (number e.thread (omega (arith, is.thread)), (number e.op is.op, (number e.unit is.unit, via_are e.via is.via))))

skip_is : (skip : Skip) → IsSkip skip → IsField (skip_field skip)
skip_is skip is =
    IsField-append (decimal skip.slot) (codes ":" ++ decimal skip.refs) (number skip.slot (omega (arith, is.0)))
    (IsField-append (codes ":") (decimal skip.refs) (IsField-from_test (codes ":") refl) (number skip.refs (omega (arith, is.1))))

skips_are : (skips : List Skip) → AllByRecursion IsSkip skips → AllByRecursion IsField (map skip_field skips)
skips_are [] is = tt
skips_are (skip ∷ skips) is = (skip_is skip is.0, skips_are skips is.1)

skip_fields_are : (skips : List Skip) → AllByRecursion IsSkip skips → AllByRecursion IsField (skip_fields skips)
skip_fields_are [] is = tt
skip_fields_are (skip ∷ skips) is = (IsField-from_test (codes "skip") refl, skips_are (skip ∷ skips) is)

event_fields : (e : Event) → IsEvent e → IsLine (event_line e)
event_fields (events.Program slot key skipped) is =
    (omega arith, (IsField-from_test (codes "program") refl, (number slot (omega (arith, is.0)), (number key (omega (arith, is.1)), skip_fields_are skipped is.2.1))))
event_fields (events.Idle slot) is = (omega arith, (IsField-from_test (codes "idle") refl, (number slot (omega (arith, is)), tt)))
event_fields (events.Evict slot key) is = (omega arith, (IsField-from_test (codes "evict") refl, (number slot (omega (arith, is.0)), (number key (omega (arith, is.1)), tt))))
event_fields (events.Busy slot key refs) is =
    (omega arith, (IsField-from_test (codes "busy") refl, (number slot (omega (arith, is.0)), (number key (omega (arith, is.1)), (number refs (omega (arith, is.2)), tt)))))
event_fields events.Reset is = (omega arith, (IsField-from_test (codes "reset") refl, tt))

-- ---- parts

all_append : (a b : List TextLine) → AllByRecursion IsLine a → AllByRecursion IsLine b → AllByRecursion IsLine (a ++ b)
all_append [] b p q = q
all_append (l ∷ a) b p q = (p.0, all_append a b p.1 q)

each_line : {X : Type 0} (Valid : X → Type 0) (line_of : X → TextLine) → ((x : X) → Valid x → IsLine (line_of x)) → (xs : List X) → AllByRecursion Valid xs → AllByRecursion IsLine (map line_of xs)
each_line Valid line_of is [] h = tt
each_line Valid line_of is (x ∷ xs) h = (is x h.0, each_line Valid line_of is xs h.1)

thread_are : (n : ℕ) (ts : List (List Answer)) → n + length ts ≤ 16 → AllByRecursion (AllByRecursion IsAnswer) ts → AllByRecursion IsLine (flat_map thread_lines (enumerate_from n ts))
thread_are n [] few h = tt
thread_are n (t ∷ ts) few h =
    all_append (thread_lines (n, t)) (flat_map thread_lines (enumerate_from (n + 1) ts))
    ((omega arith, (IsField-from_test (codes "thread") refl, (number n (omega arith), tt))), each_line IsAnswer answer_line answer_fields t h.0)
    (thread_are (n + 1) ts (omega arith) h.1)

shard_are : (n : ℕ) (ss : List (List Line)) → n + length ss ≤ 64 → AllByRecursion (IsPart IsEntry) ss → AllByRecursion IsLine (flat_map shard_lines (enumerate_from n ss))
shard_are n [] few h = tt
shard_are n (s ∷ ss) few h =
    all_append (shard_lines (n, s)) (flat_map shard_lines (enumerate_from (n + 1) ss))
    ((omega arith, (IsField-from_test (codes "shard") refl, (number n (omega arith), (number (length s) h.0.count, tt)))), each_line IsEntry entry_line entry_fields s h.0.each)
    (shard_are (n + 1) ss (omega arith) h.1)

device_are : (n : ℕ) (ds : List (List Event)) → n + length ds ≤ 8 → AllByRecursion (IsPart IsEvent) ds → AllByRecursion IsLine (flat_map device_lines (enumerate_from n ds))
device_are n [] few h = tt
device_are n (d ∷ ds) few h =
    all_append (device_lines (n, d)) (flat_map device_lines (enumerate_from (n + 1) ds))
    ((omega arith, (IsField-from_test (codes "device") refl, (number n (omega arith), (number (length d) h.0.count, tt)))), each_line IsEvent event_line event_fields d h.0.each)
    (device_are (n + 1) ds (omega arith) h.1)

-- the lines of a report are lines
pub report_lines_are_lines : (r : Report) → IsReport r → AllByRecursion IsLine (report_lines r)
report_lines_are_lines r is = (
  (omega arith, (IsField-from_test (codes "report") refl, (IsField-from_test (codes "1") refl, tt))),
  all_append (all_threads r.threads) _ (thread_are 0 r.threads (omega (arith, is.few_threads)) is.answers)
      (all_append (all_shards r.shards) _ (shard_are 0 r.shards (omega (arith, is.few_shards)) is.entries)
      (all_append (all_devices r.devices) _ (device_are 0 r.devices (omega (arith, is.few_devices)) is.events)
      ((omega arith, (IsField-from_test (codes "end") refl, tt)), tt))),
)
