-- The way of a report's lines, from the head to the foot. Lines have one way at most.
use Rattle.std.proofs.Common.{◌≡◌, ℕ, zero, suc, ◌+◌, ◌<◌, ◌≤◌, ◌^◌, List, [], ◌∷◌, ◌++◌, length, map, refl, sym, ap, subst, ◌∙◌, arith, add-one, sub-one}
use Rattle.std.specs.Prelude.{codes}
use Rattle.std.specs.Fmt.{decimal}
use Rattle.std.specs.List.{AllByRecursion, flat_map, enumerate_from}
use Rattle.std.proofs.lemmas.Fmt.{decimal_injective}
use Rattle.bc_text.specs.Lines.{TextLine}
use Rattle.bc_profile.specs.declared.event.Event.{Event}
use Rattle.bc_report.specs.declared.sort.Sort.{Sort}
use Rattle.bc_report.specs.declared.sort.Sort.TheVariants as sorts
use Rattle.bc_report.specs.declared.answer.Answer.{Answer}
use Rattle.bc_report.specs.declared.answer.Answer.TheVariants as answers
use Rattle.bc_report.specs.declared.line.Line.{Line}
use Rattle.bc_report.specs.Report.{Report, IsReport, IsAnswer, IsEntry, IsEvent, IsPart}
use Rattle.bc_report.specs.ReportText.{answer_line, entry_line, event_line, thread_line, thread_lines, shard_line, shard_lines, device_line, device_lines, all_threads, all_shards, all_devices, foot_line, report_lines}
use Rattle.bc_report.specs.LinePlaces.{LinePlace, Head, InThread, Between, InShard, InDevice, Foot, line_place_in_shard, line_place_in_device, sort_of_line, Goes, Follows, FollowsInThread, BeginsShard, BeginsDevice}

-- the lines lead from one place to another
abbrev pub Walk : LinePlace → List TextLine → LinePlace → Type 0
Walk from [] to = from ≡ to
Walk from (line ∷ lines) to = (next : LinePlace) × Goes from line next × Walk next lines to

pub walk_append : (a b : List TextLine) (from mid to : LinePlace) → Walk from a mid → Walk mid b to → Walk from (a ++ b) to
walk_append [] b from mid to p q = subst (λ (x : LinePlace). Walk x b to) (sym p) q
walk_append (l ∷ a) b from mid to p q = (p.0, p.1, walk_append a b p.0 mid to p.2 q)

pub walk_split : (a b : List TextLine) (from to : LinePlace) → Walk from (a ++ b) to → (mid : LinePlace) × Walk from a mid × Walk mid b to
walk_split [] b from to w = (from, refl, w)
walk_split (l ∷ a) b from to w = let r = walk_split a b w.0 to w.2 in (r.0, (w.0, w.1, r.1), r.2)

-- ---- one way at most

third : (a b c d : List ℕ) (m n : List ℕ) → a ∷ b ∷ m ∷ [] ≡ c ∷ d ∷ n ∷ [] → m ≡ n
third a b c d m n e = cc

same_counts : (a b c d : List ℕ) (m n : ℕ) → m < 2 ^ 32 → n < 2 ^ 32 → a ∷ b ∷ decimal m ∷ [] ≡ c ∷ d ∷ decimal n ∷ [] → m ≡ n
same_counts a b c d m n p q e = decimal_injective m n (omega arith) (omega arith) (third a b c d (decimal m) (decimal n) e)

one_shard : (t s : ℕ) (line : TextLine) (x y : LinePlace) → BeginsShard t s line x → BeginsShard t s line y → x ≡ y
one_shard t s line x y p q =
    let same = same_counts (codes "shard") (decimal s) (codes "shard") (decimal s) p.1.0 q.1.0 p.1.1 q.1.1 (sym p.1.2 ∙ q.1.2) in
    p.1.3 ∙ ap (line_place_in_shard t (s + 1)) same ∙ sym q.1.3

one_device : (t s d : ℕ) (line : TextLine) (x y : LinePlace) → BeginsDevice t s d line x → BeginsDevice t s d line y → x ≡ y
one_device t s d line x y p q =
    let same = same_counts (codes "device") (decimal d) (codes "device") (decimal d) p.1.0 q.1.0 p.1.1 q.1.1 (sym p.1.2 ∙ q.1.2) in
    p.1.3 ∙ ap (line_place_in_device t s (d + 1)) same ∙ sym q.1.3

one_follows : (t s d : ℕ) (sort : Sort) (line : TextLine) (x y : LinePlace) → Follows t s d sort line x → Follows t s d sort line y → x ≡ y
one_follows t s d sorts.Thread line x y p q = p.2.2 ∙ sym q.2.2
one_follows t s d sorts.Shard line x y p q = one_shard t s line x y p.1 q.1
one_follows t s d sorts.Device line x y p q = one_device t s d line x y p q
one_follows t s d sorts.End line x y p q = p.1 ∙ sym q.1
one_follows t s d sorts.Other line x y p q = absurd p

one_in_thread : (t : ℕ) (sort : Sort) (line : TextLine) (x y : LinePlace) → FollowsInThread t sort line x → FollowsInThread t sort line y → x ≡ y
one_in_thread t sorts.Thread line x y p q = one_follows t 0 0 sorts.Thread line x y p q
one_in_thread t sorts.Shard line x y p q = one_follows t 0 0 sorts.Shard line x y p q
one_in_thread t sorts.Device line x y p q = one_follows t 0 0 sorts.Device line x y p q
one_in_thread t sorts.End line x y p q = one_follows t 0 0 sorts.End line x y p q
one_in_thread t sorts.Other line x y p q = p.1 ∙ sym q.1

one_place : (from : LinePlace) (line : TextLine) (x y : LinePlace) → Goes from line x → Goes from line y → x ≡ y
one_place Head line x y p q = p.1 ∙ sym q.1
one_place (InThread t) line x y p q = one_in_thread t (sort_of_line line) line x y p q
one_place (Between t s d) line x y p q = one_follows t s d (sort_of_line line) line x y p q
one_place (InShard t s owed) line x y p q = p.1 ∙ sym q.1
one_place (InDevice t s d owed) line x y p q = p.1 ∙ sym q.1
one_place Foot line x y p q = absurd p

pub one_walk : (lines : List TextLine) (from x y : LinePlace) → Walk from lines x → Walk from lines y → x ≡ y
one_walk [] from x y p q = sym p ∙ q
one_walk (line ∷ lines) from x y p q =
    let same = one_place from line p.0 q.0 p.1 q.1 in
    one_walk lines q.0 x y (subst (λ (a : LinePlace). Walk a lines x) same p.2) q.2

-- ---- the lines of a report

pub answer_sort : (a : Answer) → sort_of_line (answer_line a) ≡ sorts.Other
answer_sort answers.Wrote = refl
answer_sort (answers.ReadFill byte) = refl
answer_sort (answers.ReadSum digest) = refl
answer_sort (answers.Fault unit) = refl
answer_sort (answers.Refused refusal) = refl
answer_sort answers.Evicted = refl
answer_sort (answers.Busy device slot refs) = refl
answer_sort answers.Reset = refl
answer_sort answers.Plug = refl
answer_sort answers.Unplug = refl

goes_answer : (t : ℕ) (a : Answer) → IsAnswer a → Goes (InThread t) (answer_line a) (InThread t)
goes_answer t a valid =
    let f : FollowsInThread t sorts.Other (answer_line a) (InThread t) = ((a, valid, refl), refl) in
    subst (λ (s : Sort). FollowsInThread t s (answer_line a) (InThread t)) (sym (answer_sort a)) f

walk_answers : (t : ℕ) (xs : List Answer) → AllByRecursion IsAnswer xs → Walk (InThread t) (map answer_line xs) (InThread t)
walk_answers t [] h = refl
walk_answers t (a ∷ xs) h = (InThread t, goes_answer t a h.0, walk_answers t xs h.1)

-- where the lines stand after so many threads; and after so many shards; and after so many devices
abbrev thread_place : ℕ → LinePlace
thread_place zero = Between 0 0 0
thread_place (suc t) = InThread (suc t)

abbrev shard_place : ℕ → ℕ → LinePlace
shard_place t zero = thread_place t
shard_place t (suc s) = Between t (suc s) 0

abbrev device_place : ℕ → ℕ → ℕ → LinePlace
device_place t s zero = shard_place t s
device_place t s (suc d) = Between t s (suc d)

thread_next : (t : ℕ) → InThread (t + 1) ≡ thread_place (t + 1)
thread_next t = rw add-one refl

shard_next : (t s : ℕ) → Between t (s + 1) 0 ≡ shard_place t (s + 1)
shard_next t s = rw add-one refl

device_next : (t s d : ℕ) → Between t s (d + 1) ≡ device_place t s (d + 1)
device_next t s d = rw add-one refl

goes_thread : (t : ℕ) → t < 16 → Goes (thread_place t) (thread_line t) (InThread (t + 1))
goes_thread zero small = (refl, refl, (small, refl, refl))
goes_thread (suc t) small = (refl, refl, (small, refl, refl))

goes_shard : (t s count : ℕ) → s < 64 → count < 2 ^ 32 → Goes (shard_place t s) (shard_line s count) (line_place_in_shard t (s + 1) count)
goes_shard zero zero count small fits = (refl, (small, (count, fits, refl, refl)))
goes_shard (suc t) zero count small fits = (refl, (small, (count, fits, refl, refl)))
goes_shard t (suc s) count small fits = (refl, (small, (count, fits, refl, refl)))

goes_device : (t s d count : ℕ) → d < 8 → count < 2 ^ 32 → Goes (device_place t s d) (device_line d count) (line_place_in_device t s (d + 1) count)
goes_device zero zero zero count small fits = (small, (count, fits, refl, refl))
goes_device (suc t) zero zero count small fits = (small, (count, fits, refl, refl))
goes_device t (suc s) zero count small fits = (small, (count, fits, refl, refl))
goes_device t s (suc d) count small fits = (small, (count, fits, refl, refl))

goes_foot : (t s d : ℕ) → Goes (device_place t s d) foot_line Foot
goes_foot zero zero zero = (refl, refl)
goes_foot (suc t) zero zero = (refl, refl)
goes_foot t (suc s) zero = (refl, refl)
goes_foot t s (suc d) = (refl, refl)

walk_entries : (t s : ℕ) (es : List Line) → AllByRecursion IsEntry es → Walk (line_place_in_shard t s (length es)) (map entry_line es) (Between t s 0)
walk_entries t s [] h = refl
walk_entries t s (e ∷ es) h = (line_place_in_shard t s (length es), ((e, h.0, refl), rw sub-one refl), walk_entries t s es h.1)

walk_events : (t s d : ℕ) (es : List Event) → AllByRecursion IsEvent es → Walk (line_place_in_device t s d (length es)) (map event_line es) (Between t s d)
walk_events t s d [] h = refl
walk_events t s d (e ∷ es) h = (line_place_in_device t s d (length es), ((e, h.0, refl), rw sub-one refl), walk_events t s d es h.1)

none_more : (n : ℕ) → n ≡ n + 0
none_more n = omega arith

shift : (n m : ℕ) → (n + 1) + m ≡ n + suc m
shift n m = omega arith

walk_threads : (n : ℕ) (ts : List (List Answer)) → n + length ts ≤ 16 → AllByRecursion (AllByRecursion IsAnswer) ts → Walk (thread_place n) (flat_map thread_lines (enumerate_from n ts)) (thread_place (n + length ts))
walk_threads n [] few h = ap thread_place (none_more n)
walk_threads n (t ∷ ts) few h =
    let others = flat_map thread_lines (enumerate_from (n + 1) ts) in
    let rest = walk_threads (n + 1) ts (omega arith) h.1 in
    let from = subst (λ (a : LinePlace). Walk a others (thread_place (n + 1 + length ts))) (sym (thread_next n)) rest in
    let to = subst (λ (a : LinePlace). Walk (InThread (n + 1)) others a) (ap thread_place (shift n (length ts))) from in
    (InThread (n + 1), goes_thread n (omega arith), walk_append (map answer_line t) others (InThread (n + 1)) (InThread (n + 1)) (thread_place (n + suc (length ts))) (walk_answers (n + 1) t h.0) to)

walk_shards : (t n : ℕ) (ss : List (List Line)) → n + length ss ≤ 64 → AllByRecursion (IsPart IsEntry) ss → Walk (shard_place t n) (flat_map shard_lines (enumerate_from n ss)) (shard_place t (n + length ss))
walk_shards t n [] few h = ap (shard_place t) (none_more n)
walk_shards t n (s ∷ ss) few h =
    let others = flat_map shard_lines (enumerate_from (n + 1) ss) in
    let rest = walk_shards t (n + 1) ss (omega arith) h.1 in
    let from = subst (λ (a : LinePlace). Walk a others (shard_place t (n + 1 + length ss))) (sym (shard_next t n)) rest in
    let to = subst (λ (a : LinePlace). Walk (Between t (n + 1) 0) others a) (ap (shard_place t) (shift n (length ss))) from in
    (line_place_in_shard t (n + 1) (length s), goes_shard t n (length s) (omega arith) h.0.count, walk_append (map entry_line s) others (line_place_in_shard t (n + 1) (length s)) (Between t (n + 1) 0) (shard_place t (n + suc (length ss))) (walk_entries t (n + 1) s h.0.each) to)

walk_devices : (t s n : ℕ) (ds : List (List Event)) → n + length ds ≤ 8 → AllByRecursion (IsPart IsEvent) ds → Walk (device_place t s n) (flat_map device_lines (enumerate_from n ds)) (device_place t s (n + length ds))
walk_devices t s n [] few h = ap (device_place t s) (none_more n)
walk_devices t s n (d ∷ ds) few h =
    let others = flat_map device_lines (enumerate_from (n + 1) ds) in
    let rest = walk_devices t s (n + 1) ds (omega arith) h.1 in
    let from = subst (λ (a : LinePlace). Walk a others (device_place t s (n + 1 + length ds))) (sym (device_next t s n)) rest in
    let to = subst (λ (a : LinePlace). Walk (Between t s (n + 1)) others a) (ap (device_place t s) (shift n (length ds))) from in
    (line_place_in_device t s (n + 1) (length d), goes_device t s n (length d) (omega arith) h.0.count, walk_append (map event_line d) others (line_place_in_device t s (n + 1) (length d)) (Between t s (n + 1)) (device_place t s (n + suc (length ds))) (walk_events t s (n + 1) d h.0.each) to)

-- the lines of a report lead from the head to the foot
pub report_walk : (r : Report) → IsReport r → Walk Head (report_lines r) Foot
report_walk r is =
    let t = 0 + length r.threads in
    let s = 0 + length r.shards in
    let d = 0 + length r.devices in
    let few : (0 + length r.threads ≤ 16) × (0 + length r.shards ≤ 64) × (0 + length r.devices ≤ 8) = (omega (arith, is.few_threads), omega (arith, is.few_shards), omega (arith, is.few_devices)) in
    let foot : Walk (device_place t s d) (foot_line ∷ []) Foot = (Foot, goes_foot t s d, refl) in
    let devices = walk_append (all_devices r.devices) (foot_line ∷ []) (device_place t s 0) (device_place t s d) Foot (walk_devices t s 0 r.devices few.2 is.events) foot in
    let shards = walk_append (all_shards r.shards) _ (shard_place t 0) (shard_place t s) Foot (walk_shards t 0 r.shards few.1 is.entries) devices in
    let threads = walk_append (all_threads r.threads) _ (thread_place 0) (thread_place t) Foot (walk_threads 0 r.threads few.0 is.answers) shards in
    (Between 0 0 0, (refl, refl), threads)
