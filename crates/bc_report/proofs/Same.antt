-- Two reports with one text are one report, and no report's text begins another's.
use Rattle.std.proofs.Common.{◌≡◌, ◌≢◌, ℕ, ◌+◌, ◌<◌, ◌^◌, List, [], ◌∷◌, ◌++◌, length, map, refl, sym, ap, subst, ◌∙◌, append_assoc, append-nil, arith, inl, inr}
use Rattle.std.specs.Prelude.{codes, if◌then◌else◌, unwrap_or, Result}
use Rattle.std.specs.Result.{result_ok}
use Rattle.std.specs.Str.{bytes_eq}
use Rattle.std.specs.Str.Parse.{digits_value}
use Rattle.std.specs.Fmt.{decimal}
use Rattle.std.specs.List.{AllByRecursion, flat_map, enumerate_from}
use Rattle.std.proofs.lemmas.Fmt.{decimal_injective, decimal_is_IsNumeral}
use Rattle.std.proofs.lemmas.Bool.{cases_lt}
use Rattle.hex.specs.Hex.{encode_lower, IsBytes}
use Rattle.hex.specs.Hex.{decode_of}
use Rattle.hex.specs.declared.error.FromHexError.{FromHexError}
use Rattle.hex.proofs.HexLemmas.{decode_of-encode_lower}
use Rattle.bc_text.specs.Lines.{TextLine, lines_text, parts_at}
use Rattle.bc_text.proofs.LineLaws.{lines_text-begins, parts_at-cons, parts_at-one}
use Rattle.bc_text.proofs.Sorts.{same_reading}
use Rattle.bc_report.specs.declared.sort.Sort.{Sort}
use Rattle.bc_report.specs.declared.sort.Sort.TheVariants as sorts
use Rattle.bc_report.specs.LinePlaces.{sort_of_line}
use Rattle.bc_report.specs.ReportErrors.{BeginsReport, IsFirstBad}
use Rattle.bc_bio.specs.declared.refusal.BioError.TheVariants.{Empty, Misaligned, Outside, DunRange}
use Rattle.bc_bio.specs.declared.refusal.Refusal.{Refusal}
use Rattle.bc_bio.specs.declared.refusal.Refusal.TheVariants.{Bio, Unsupported}
use Rattle.bc_profile.specs.declared.skips.Skip.{Skip}
use Rattle.bc_profile.specs.declared.event.Event.{Event}
use Rattle.bc_profile.specs.declared.event.Event.TheVariants as events
use Rattle.bc_medium.specs.declared.via.Via.{Via}
use Rattle.bc_medium.specs.declared.via.Via.TheVariants as vias
use Rattle.bc_report.specs.declared.answer.Answer.{Answer}
use Rattle.bc_report.specs.declared.answer.Answer.TheVariants as answers
use Rattle.bc_report.specs.declared.line.Line.{Line}
use Rattle.bc_report.specs.Report.{Report, IsReport, IsAnswer, IsVia, IsEntry, IsSkip, IsEvent, IsPart}
use Rattle.bc_report.specs.ReportText.{refusal_word, answer_line, via_fields, entry_line, skip_field, event_line, thread_lines, shard_lines, device_lines, all_threads, all_shards, all_devices, head_line, foot_line, report_lines, report_text}
use Rattle.bc_report.proofs.NoValue.{without_colon}
use Rattle.bc_report.proofs.Walks.{answer_sort}
use Rattle.bc_report.proofs.LineFields.{report_lines_are_lines}
use Rattle.bc_report.proofs.Begun.{begins_prefix}
use Rattle.bc_script.proofs.Fields.{one_byte}

-- ---- fields

same_number : (m n : ℕ) → m < 2 ^ 32 → n < 2 ^ 32 → decimal m ≡ decimal n → m ≡ n
same_number m n p q e = decimal_injective m n (omega arith) (omega arith) e

-- the number, and the bytes, that a field says
abbrev value : List ℕ → ℕ
value field = digits_value 10 field

value-decimal : (n : ℕ) → n < 2 ^ 32 → value (decimal n) ≡ n
value-decimal n small = (decimal_is_IsNumeral n (omega arith)).1

abbrev bytes_in : List ℕ → List ℕ
bytes_in field = unwrap_or (result_ok (decode_of field)) []

bytes_in-encode_lower : (bytes : List ℕ) → IsBytes bytes → bytes_in (encode_lower bytes) ≡ bytes
bytes_in-encode_lower bytes is = ap (λ (r : Result (List ℕ) FromHexError). unwrap_or (result_ok r) []) (decode_of-encode_lower bytes is)

abbrev first_in : List ℕ → ℕ
first_in [] = 0
first_in (b ∷ bs) = b

-- ---- what an answer's line says

abbrev refusal_in : List ℕ → Refusal
refusal_in word =
    if bytes_eq word (codes "empty") then Bio Empty
    else (if bytes_eq word (codes "misaligned") then Bio Misaligned
    else (if bytes_eq word (codes "outside") then Bio Outside
    else (if bytes_eq word (codes "dun") then Bio DunRange else Unsupported)))

refusal_in-word : (r : Refusal) → refusal_in (refusal_word r) ≡ r
refusal_in-word (Bio Empty) = refl
refusal_in-word (Bio Misaligned) = refl
refusal_in-word (Bio Outside) = refl
refusal_in-word (Bio DunRange) = refl
refusal_in-word Unsupported = refl

abbrev answer_in : TextLine → Answer
answer_in (w ∷ []) =
    if bytes_eq w (codes "done") then answers.Wrote
    else (if bytes_eq w (codes "evicted") then answers.Evicted
    else (if bytes_eq w (codes "reset") then answers.Reset
    else (if bytes_eq w (codes "plug") then answers.Plug else answers.Unplug)))
answer_in (w ∷ f ∷ []) = if bytes_eq w (codes "fault") then answers.Fault (value f) else answers.Refused (refusal_in f)
answer_in (w ∷ f ∷ g ∷ []) = if bytes_eq f (codes "fill") then answers.ReadFill (first_in (bytes_in g)) else answers.ReadSum (bytes_in g)
answer_in (w ∷ f ∷ g ∷ h ∷ []) = answers.Busy (value f) (value g) (value h)
answer_in _ = answers.Wrote

answer_in-line : (a : Answer) → IsAnswer a → answer_in (answer_line a) ≡ a
answer_in-line answers.Wrote is = refl
answer_in-line (answers.ReadFill byte) is = ap (λ (bytes : List ℕ). answers.ReadFill (first_in bytes)) (bytes_in-encode_lower (byte ∷ []) (one_byte byte is))
answer_in-line (answers.ReadSum digest) is = ap (λ (bytes : List ℕ). answers.ReadSum bytes) (bytes_in-encode_lower digest is.0)
answer_in-line (answers.Fault unit) is = ap (λ (n : ℕ). answers.Fault n) (value-decimal unit is)
answer_in-line (answers.Refused refusal) is = ap (λ (r : Refusal). answers.Refused r) (refusal_in-word refusal)
answer_in-line answers.Evicted is = refl
answer_in-line (answers.Busy device slot refs) is =
    let d = value-decimal device (omega (arith, is.0)) in
    let s = value-decimal slot (omega (arith, is.1)) in
    let r = value-decimal refs (omega (arith, is.2)) in
    λ i. answers.Busy (d i) (s i) (r i)
answer_in-line answers.Reset is = refl
answer_in-line answers.Plug is = refl
answer_in-line answers.Unplug is = refl

-- ---- what an entry's line says

abbrev via_in : TextLine → Via
via_in (w ∷ []) = if bytes_eq w (codes "plain") then vias.Plain else vias.Soft
via_in (w ∷ d ∷ s ∷ e ∷ []) = vias.Inline (value d) (value s) (value e)
via_in _ = vias.Plain

via_in-fields : (v : Via) → IsVia v → via_in (via_fields v) ≡ v
via_in-fields vias.Plain is = refl
via_in-fields vias.Soft is = refl
via_in-fields (vias.Inline device slot event) is =
    let d = value-decimal device (omega (arith, is.0)) in
    let s = value-decimal slot (omega (arith, is.1)) in
    let e = value-decimal event is.2 in
    λ i. vias.Inline (d i) (s i) (e i)

abbrev entry_in : TextLine → Line
entry_in (t ∷ o ∷ u ∷ via) = record { thread = value t; op = value o; unit = value u; via = via_in via }
entry_in _ = record { thread = 0; op = 0; unit = 0; via = vias.Plain }

entry_in-line : (e : Line) → IsEntry e → entry_in (entry_line e) ≡ e
entry_in-line e is =
    let t = value-decimal e.thread (omega (arith, is.thread)) in
    let o = value-decimal e.op is.op in
    let u = value-decimal e.unit is.unit in
    let v = via_in-fields e.via is.via in
    λ i. record { thread = t i; op = o i; unit = u i; via = v i }

-- ---- what an event's line says

abbrev skip_of : List (List ℕ) → Skip
skip_of (s ∷ r ∷ []) = record { slot = value s; refs = value r }
skip_of _ = record { slot = 0; refs = 0 }

abbrev skip_in : List ℕ → Skip
skip_in field = skip_of (parts_at 58 field)

skip_in-field : (skip : Skip) → IsSkip skip → skip_in (skip_field skip) ≡ skip
skip_in-field skip is =
    let parts =
    parts_at-cons 58 (decimal skip.slot) (decimal skip.refs) (without_colon skip.slot is.0)
    ∙ ap (λ (ps : List (List ℕ)). decimal skip.slot ∷ ps) (parts_at-one 58 (decimal skip.refs) (without_colon skip.refs is.1)) in
    let s = value-decimal skip.slot (omega (arith, is.0)) in
    let r = value-decimal skip.refs (omega (arith, is.1)) in
    ap skip_of parts ∙ (λ i. record { slot = s i; refs = r i })

skips_in-fields : (skips : List Skip) → AllByRecursion IsSkip skips → map skip_in (map skip_field skips) ≡ skips
skips_in-fields [] is = refl
skips_in-fields (skip ∷ skips) is = let s = skip_in-field skip is.0 in let more = skips_in-fields skips is.1 in λ i. s i ∷ more i

abbrev event_in : TextLine → Event
event_in (w ∷ s ∷ []) = events.Idle (value s)
event_in (w ∷ s ∷ k ∷ []) = if bytes_eq w (codes "evict") then events.Evict (value s) (value k) else events.Program (value s) (value k) []
event_in (w ∷ s ∷ k ∷ n ∷ []) = events.Busy (value s) (value k) (value n)
event_in (w ∷ s ∷ k ∷ n ∷ x ∷ xs) = events.Program (value s) (value k) (map skip_in (x ∷ xs))
event_in _ = events.Reset

event_in-line : (e : Event) → IsEvent e → event_in (event_line e) ≡ e
event_in-line (events.Program slot key []) is =
    let s = value-decimal slot (omega (arith, is.0)) in
    let k = value-decimal key (omega (arith, is.1)) in
    λ i. events.Program (s i) (k i) []
event_in-line (events.Program slot key (x ∷ xs)) is =
    let s = value-decimal slot (omega (arith, is.0)) in
    let k = value-decimal key (omega (arith, is.1)) in
    let skips = skips_in-fields (x ∷ xs) is.2.1 in
    λ i. events.Program (s i) (k i) (skips i)
event_in-line (events.Idle slot) is = ap (λ (n : ℕ). events.Idle n) (value-decimal slot (omega (arith, is)))
event_in-line (events.Evict slot key) is =
    let s = value-decimal slot (omega (arith, is.0)) in
    let k = value-decimal key (omega (arith, is.1)) in
    λ i. events.Evict (s i) (k i)
event_in-line (events.Busy slot key refs) is =
    let s = value-decimal slot (omega (arith, is.0)) in
    let k = value-decimal key (omega (arith, is.1)) in
    let n = value-decimal refs (omega (arith, is.2)) in
    λ i. events.Busy (s i) (k i) (n i)
event_in-line events.Reset is = refl

-- a line is that of one value
one_value : {X : Type 0} (Valid : X → Type 0) (line_of : X → TextLine) (value_in : TextLine → X) → ((x : X) → Valid x → value_in (line_of x) ≡ x) → (x y : X) → Valid x → Valid y → line_of x ≡ line_of y → x ≡ y
one_value Valid line_of value_in inverse x y p q e = sym (inverse x p) ∙ ap value_in e ∙ inverse y q

-- ---- parts

-- the sort of the first of the lines
abbrev first_sort : List TextLine → Sort
first_sort [] = sorts.End
first_sort (l ∷ ls) = sort_of_line l

-- no answer follows
abbrev EndsThread : List TextLine → Type 0
EndsThread lines = first_sort lines ≡ sorts.Other → ⊥

answer_goes : (a : Answer) (rest : List TextLine) → IsAnswer a → EndsThread (answer_line a ∷ rest) → ⊥
answer_goes a rest valid ends = ends (answer_sort a)

-- no part of this sort follows
abbrev EndsSort : Sort → List TextLine → Type 0
EndsSort sort lines = first_sort lines ≡ sort → ⊥

first_and_others : (x y : TextLine) (a b : List TextLine) → x ∷ a ≡ y ∷ b → (x ≡ y) × (a ≡ b)
first_and_others x y a b e = (cc, cc)

thread_is_no_other : sorts.Thread ≡ sorts.Other → ⊥
thread_is_no_other e = cc

ends_thread : (n : ℕ) (ts : List (List Answer)) (rest : List TextLine) → EndsThread rest → EndsThread (flat_map thread_lines (enumerate_from n ts) ++ rest)
ends_thread n [] rest ends = ends
ends_thread n (t ∷ ts) rest ends = thread_is_no_other

same_threads : (n : ℕ) (ts us : List (List Answer)) (a b : List TextLine) → AllByRecursion (AllByRecursion IsAnswer) ts → AllByRecursion (AllByRecursion IsAnswer) us
    → EndsThread a → EndsThread b → EndsSort sorts.Thread a → EndsSort sorts.Thread b
    → flat_map thread_lines (enumerate_from n ts) ++ a ≡ flat_map thread_lines (enumerate_from n us) ++ b → (ts ≡ us) × (a ≡ b)
same_threads n [] [] a b p q ea eb sa sb e = (refl, e)
same_threads n [] (u ∷ us) a b p q ea eb sa sb e = absurd (sa (ap first_sort e))
same_threads n (t ∷ ts) [] a b p q ea eb sa sb e = absurd (sb (ap first_sort (sym e)))
same_threads n (t ∷ ts) (u ∷ us) a b p q ea eb sa sb e =
    let x = flat_map thread_lines (enumerate_from (n + 1) ts) in
    let y = flat_map thread_lines (enumerate_from (n + 1) us) in
    let tails = (first_and_others _ _ _ _ e).1 in
    let lines : map answer_line t ++ (x ++ a) ≡ map answer_line u ++ (y ++ b) = sym (append_assoc (map answer_line t) x a) ∙ tails ∙ append_assoc (map answer_line u) y b in
    let here = same_reading Answer answer_line IsAnswer EndsThread (one_value IsAnswer answer_line answer_in answer_in-line) answer_goes t u (x ++ a) (y ++ b) p.0 q.0 (ends_thread (n + 1) ts a ea) (ends_thread (n + 1) us b eb) lines in
    let more = same_threads (n + 1) ts us a b p.1 q.1 ea eb sa sb here.1 in
    (λ i. here.0 i ∷ more.0 i, more.1)

-- as many lines, and what follows them
same_lines : {X : Type 0} (Valid : X → Type 0) (line_of : X → TextLine) → ((x y : X) → Valid x → Valid y → line_of x ≡ line_of y → x ≡ y) → (xs ys : List X) (a b : List TextLine) → length xs ≡ length ys
    → AllByRecursion Valid xs → AllByRecursion Valid ys → map line_of xs ++ a ≡ map line_of ys ++ b → (xs ≡ ys) × (a ≡ b)
same_lines Valid line_of one [] [] a b n p q e = (refl, e)
same_lines Valid line_of one [] (y ∷ ys) a b n p q e = absurd (omega arith)
same_lines Valid line_of one (x ∷ xs) [] a b n p q e = absurd (omega arith)
same_lines Valid line_of one (x ∷ xs) (y ∷ ys) a b n p q e =
    let parts = first_and_others (line_of x) (line_of y) (map line_of xs ++ a) (map line_of ys ++ b) e in
    let here = one x y p.0 q.0 parts.0 in
    let more = same_lines Valid line_of one xs ys a b (omega arith) p.1 q.1 parts.1 in
    (λ i. here i ∷ more.0 i, more.1)

third_field : (a b c d m n : List ℕ) → a ∷ b ∷ m ∷ [] ≡ c ∷ d ∷ n ∷ [] → m ≡ n
third_field a b c d m n e = cc

same_shards : (n : ℕ) (ss us : List (List Line)) (a b : List TextLine) → AllByRecursion (IsPart IsEntry) ss → AllByRecursion (IsPart IsEntry) us → EndsSort sorts.Shard a → EndsSort sorts.Shard b
    → flat_map shard_lines (enumerate_from n ss) ++ a ≡ flat_map shard_lines (enumerate_from n us) ++ b → (ss ≡ us) × (a ≡ b)
same_shards n [] [] a b p q sa sb e = (refl, e)
same_shards n [] (u ∷ us) a b p q sa sb e = absurd (sa (ap first_sort e))
same_shards n (s ∷ ss) [] a b p q sa sb e = absurd (sb (ap first_sort (sym e)))
same_shards n (s ∷ ss) (u ∷ us) a b p q sa sb e =
    let x = flat_map shard_lines (enumerate_from (n + 1) ss) in
    let y = flat_map shard_lines (enumerate_from (n + 1) us) in
    let parts = first_and_others _ _ _ _ e in
    let count = same_number (length s) (length u) p.0.count q.0.count (third_field _ _ _ _ _ _ parts.0) in
    let lines : map entry_line s ++ (x ++ a) ≡ map entry_line u ++ (y ++ b) = sym (append_assoc (map entry_line s) x a) ∙ parts.1 ∙ append_assoc (map entry_line u) y b in
    let here = same_lines IsEntry entry_line (one_value IsEntry entry_line entry_in entry_in-line) s u (x ++ a) (y ++ b) count p.0.each q.0.each lines in
    let more = same_shards (n + 1) ss us a b p.1 q.1 sa sb here.1 in
    (λ i. here.0 i ∷ more.0 i, more.1)

same_devices : (n : ℕ) (ds us : List (List Event)) (a b : List TextLine) → AllByRecursion (IsPart IsEvent) ds → AllByRecursion (IsPart IsEvent) us → EndsSort sorts.Device a → EndsSort sorts.Device b
    → flat_map device_lines (enumerate_from n ds) ++ a ≡ flat_map device_lines (enumerate_from n us) ++ b → (ds ≡ us) × (a ≡ b)
same_devices n [] [] a b p q sa sb e = (refl, e)
same_devices n [] (u ∷ us) a b p q sa sb e = absurd (sa (ap first_sort e))
same_devices n (d ∷ ds) [] a b p q sa sb e = absurd (sb (ap first_sort (sym e)))
same_devices n (d ∷ ds) (u ∷ us) a b p q sa sb e =
    let x = flat_map device_lines (enumerate_from (n + 1) ds) in
    let y = flat_map device_lines (enumerate_from (n + 1) us) in
    let parts = first_and_others _ _ _ _ e in
    let count = same_number (length d) (length u) p.0.count q.0.count (third_field _ _ _ _ _ _ parts.0) in
    let lines : map event_line d ++ (x ++ a) ≡ map event_line u ++ (y ++ b) = sym (append_assoc (map event_line d) x a) ∙ parts.1 ∙ append_assoc (map event_line u) y b in
    let here = same_lines IsEvent event_line (one_value IsEvent event_line event_in event_in-line) d u (x ++ a) (y ++ b) count p.0.each q.0.each lines in
    let more = same_devices (n + 1) ds us a b p.1 q.1 sa sb here.1 in
    (λ i. here.0 i ∷ more.0 i, more.1)

-- ---- the whole

-- the lines after the threads, and what follows the foot
abbrev after_threads : Report → List TextLine → List TextLine
after_threads r rest = all_shards r.shards ++ (all_devices r.devices ++ foot_line ∷ rest)

ends_threads : (s : List (List Line)) (d : List (List Event)) (rest : List TextLine) → let after = all_shards s ++ (all_devices d ++ foot_line ∷ rest) in EndsThread after × EndsSort sorts.Thread after
ends_threads [] [] rest = ((λ e. cc), (λ e. cc))
ends_threads [] (d ∷ ds) rest = ((λ e. cc), (λ e. cc))
ends_threads (s ∷ ss) d rest = ((λ e. cc), (λ e. cc))

ends_shards : (d : List (List Event)) (rest : List TextLine) → EndsSort sorts.Shard (all_devices d ++ foot_line ∷ rest)
ends_shards [] rest = λ e. cc
ends_shards (d ∷ ds) rest = λ e. cc

ends_devices : (rest : List TextLine) → EndsSort sorts.Device (foot_line ∷ rest)
ends_devices rest = λ e. cc

regroup : (r : Report) (rest : List TextLine) → report_lines r ++ rest ≡ head_line ∷ (all_threads r.threads ++ after_threads r rest)
regroup r rest =
    let t = all_threads r.threads in
    let s = all_shards r.shards in
    let d = all_devices r.devices in
    ap (λ (ls : List TextLine). head_line ∷ ls)
    (append_assoc t (s ++ (d ++ foot_line ∷ [])) rest ∙ ap (λ (ls : List TextLine). t ++ ls) (append_assoc s (d ++ foot_line ∷ []) rest ∙ ap (λ (ls : List TextLine). s ++ ls) (append_assoc d (foot_line ∷ []) rest)))

begins_no_other : (a b : Report) (c : List TextLine) → IsReport a → IsReport b → report_lines a ++ c ≡ report_lines b ++ [] → (a ≡ b) × (c ≡ [])
begins_no_other a b c p q e =
    let lines = (first_and_others _ _ _ _ (sym (regroup a c) ∙ e ∙ regroup b [])).1 in
    let ea = ends_threads a.shards a.devices c in
    let eb = ends_threads b.shards b.devices [] in
    let threads = same_threads 0 a.threads b.threads (after_threads a c) (after_threads b []) p.answers q.answers ea.0 eb.0 ea.1 eb.1 lines in
    let shards = same_shards 0 a.shards b.shards (all_devices a.devices ++ foot_line ∷ c) (all_devices b.devices ++ foot_line ∷ []) p.entries q.entries (ends_shards a.devices c) (ends_shards b.devices []) threads.1 in
    let devices = same_devices 0 a.devices b.devices (foot_line ∷ c) (foot_line ∷ []) p.events q.events (ends_devices c) (ends_devices []) shards.1 in
    (λ i. record { threads = threads.0 i; shards = shards.0 i; devices = devices.0 i }, (first_and_others _ _ _ _ devices.1).1)

pub no_text_begins_another : (a b : Report) (more : List ℕ) → IsReport a → IsReport b → report_text a ++ more ≡ report_text b → (a ≡ b) × (more ≡ [])
no_text_begins_another a b more p q e =
    let r = lines_text-begins (report_lines a) (report_lines b) more (report_lines_are_lines a p) (report_lines_are_lines b q) e in
    let same = begins_no_other a b r.0 p q (sym r.1 ∙ sym (append-nil (report_lines b))) in
    (same.0, r.2 ∙ ap lines_text same.1)

pub one_report : (a b : Report) → IsReport a → IsReport b → report_text a ≡ report_text b → a ≡ b
one_report a b p q e = (no_text_begins_another a b [] p q (append-nil (report_text a) ∙ e)).0

-- ---- one line is the first that no report has there

-- of two prefixes of a list, each with an element after it, the shorter with its element begins the longer
shorter : (xs ys : List TextLine) (x y : TextLine) (a b : List TextLine) → xs ++ x ∷ a ≡ ys ++ y ∷ b → length xs < length ys → (c : List TextLine) × (ys ≡ (xs ++ x ∷ []) ++ c) × (a ≢ [])
shorter [] [] x y a b e lt = absurd (omega arith)
shorter (z ∷ zs) [] x y a b e lt = absurd (omega arith)
shorter [] (v ∷ vs) x y a b e lt =
    let parts = first_and_others x v a (vs ++ y ∷ b) e in
    (vs, (λ i. sym parts.0 i ∷ vs), λ none. some vs y b (sym parts.1 ∙ none))
  where
    some : (vs : List TextLine) (y : TextLine) (b : List TextLine) → vs ++ y ∷ b ≡ [] → ⊥
    some [] y b f = cc
    some (v ∷ vs) y b f = cc
shorter (z ∷ zs) (v ∷ vs) x y a b e lt =
    let parts = first_and_others z v (zs ++ x ∷ a) (vs ++ y ∷ b) e in
    let r = shorter zs vs x y a b parts.1 (omega arith) in
    (r.0, (λ i. sym parts.0 i ∷ r.1 i), r.2)

not_before : (text : List ℕ) (m n : ℕ) (p : IsFirstBad text m) (q : IsFirstBad text n) → m < n → ⊥
not_before text m n p q lt =
    let r = shorter p.above q.above p.here q.here p.below q.below (sym p.lines_are ∙ q.lines_are) (omega (arith, p.number, q.number)) in
    p.impossible r.2 (begins_prefix (p.above ++ p.here ∷ []) r.0 (subst BeginsReport r.1 q.possible))

pub one_first_bad : (text : List ℕ) (m n : ℕ) → IsFirstBad text m → IsFirstBad text n → m ≡ n
one_first_bad text m n p q =
    elim (cases_lt m n) [
      | inl before ↦ absurd (not_before text m n p q before)
      | inr after ↦ elim (cases_lt n m) [
        | inl before ↦ absurd (not_before text n m q p before)
        | inr same ↦ omega arith
      ]
    ]
