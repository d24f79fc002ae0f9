-- What a line adds to a report that is being read.
use Rattle.std.proofs.Common.{◌≡◌, ℕ, zero, suc, ◌+◌, ◌-◌, ◌≤◌, List, [], ◌∷◌, ◌++◌, length, map, refl, sym, ap, subst, ◌∙◌, append_assoc, append-nil, arith, length-append}
use Rattle.std.specs.List.{AllByRecursion, flat_map, enumerate_from}
use Rattle.std.proofs.lemmas.List.{map_push}
use Rattle.std.proofs.lemmas.List.Concat.{flat_map-append}
use Rattle.bc_text.specs.Lines.{TextLine}
use Rattle.bc_profile.specs.declared.event.Event.{Event}
use Rattle.bc_report.specs.declared.part.Part.{Part}
use Rattle.bc_report.specs.declared.part.Part.TheVariants as parts
use Rattle.bc_report.specs.declared.line.Line.{Line}
use Rattle.bc_report.specs.Report.{IsEntry, IsEvent}
use Rattle.bc_report.specs.ReportText.{entry_line, event_line, thread_lines, shard_lines, device_lines, shard_line, device_line, all_threads, all_shards, all_devices, head_line}
use Rattle.bc_report.specs.LinePlaces.{LinePlace, Between, line_place_in_shard, line_place_in_device, Goes, SaysEntry, SaysEvent}
use Rattle.bc_report.specs.Progress.{Progress, lines_read, read_in, line_place_of, line_place_in, IsBegunPart, RulesIn, IsProgress, IsIn, TookReportLine, with_entry, with_event, thread_closed, shard_closed, device_closed}
use Rattle.bc_report.proofs.Printed.{enumerate_from-push}

-- ---- lists

pub all_push : {X : Type 0} (P : X → Type 0) (xs : List X) (x : X) → AllByRecursion P xs → P x → AllByRecursion P (xs ++ x ∷ [])
all_push P [] x h p = (p, tt)
all_push P (y ∷ ys) x h p = (h.0, all_push P ys x h.1 p)

pub length_push : {X : Type 0} (xs : List X) (x : X) → length (xs ++ x ∷ []) ≡ length xs + 1
length_push xs x = length-append xs (x ∷ [])

-- one part more
pub parts_push : {X : Type 0} (f : ℕ × X → List TextLine) (xs : List X) (y : X) → flat_map f (enumerate_from 0 (xs ++ y ∷ [])) ≡ flat_map f (enumerate_from 0 xs) ++ f (length xs, y)
parts_push {X} f xs y =
    let place : 0 + length xs ≡ length xs = omega arith in
    ap (flat_map f) (enumerate_from-push 0 xs y ∙ ap (λ (m : ℕ). enumerate_from 0 xs ++ (m, y) ∷ []) place)
    ∙ flat_map-append f (enumerate_from 0 xs) ((length xs, y) ∷ []) ∙ ap (λ (t : List TextLine). flat_map f (enumerate_from 0 xs) ++ t) (append-nil (f (length xs, y)))

-- ---- where a report that is being read stands

pub lines_in : (part : Part) (p : Progress) → IsIn part p → lines_read p ≡ read_in part p
lines_in part p i = ap (λ (x : Part). read_in x p) i.part_is

pub place_in : (part : Part) (p : Progress) → IsIn part p → line_place_of p ≡ line_place_in part p
place_in part p i = ap (λ (x : Part). line_place_in x p) i.part_is

pub rules_of : (part : Part) (p : Progress) → IsIn part p → IsProgress p
rules_of part p i = subst (λ (x : Part). RulesIn x p) (sym i.part_is) i.rules

-- ---- an entry, an event more

pub one_more : (h x : TextLine) (t m : List TextLine) → (h ∷ (t ++ m)) ++ x ∷ [] ≡ h ∷ (t ++ (m ++ x ∷ []))
one_more h x t m = ap (λ (ls : List TextLine). h ∷ ls) (append_assoc t m (x ∷ []))

still_owed : {X : Type 0} (P : X → Type 0) (xs : List X) (x : X) (owed : ℕ) → 1 ≤ owed → IsBegunPart P xs owed → P x → IsBegunPart P (xs ++ x ∷ []) (owed - 1)
still_owed P xs x owed some b valid = record { count = omega (arith, b.count, length_push xs x); each = all_push P xs x b.each valid }

same_count : {X : Type 0} (xs : List X) (x : X) (owed : ℕ) → 1 ≤ owed → length (xs ++ x ∷ []) + (owed - 1) ≡ length xs + owed
same_count xs x owed some = omega (arith, length_push xs x)

pub entry_rules : (p : Progress) (entry : Line) → IsIn parts.Entries p → 1 ≤ p.owed → IsEntry entry → RulesIn parts.Entries (with_entry p entry)
entry_rules p entry i some valid = (i.rules.0, still_owed IsEntry p.entries entry p.owed some i.rules.1 valid, i.rules.2)

pub entry_progress : (p : Progress) (entry : Line) → IsIn parts.Entries p → 1 ≤ p.owed → IsEntry entry → IsProgress (with_entry p entry)
entry_progress p entry i some valid = subst (λ (x : Part). RulesIn x (with_entry p entry)) (sym i.part_is) (entry_rules p entry i some valid)

goes_entry : (threads shards owed : ℕ) (line : TextLine) → 1 ≤ owed → SaysEntry line → Goes (line_place_in_shard threads shards owed) line (line_place_in_shard threads shards (owed - 1))
goes_entry threads shards zero line some says = absurd (omega arith)
goes_entry threads shards (suc owed) line some says = (says, refl)

pub took_entry : (p new : Progress) (line : TextLine) (entry : Line) → IsIn parts.Entries p → 1 ≤ p.owed → IsEntry entry → line ≡ entry_line entry → new ≡ with_entry p entry → TookReportLine p line new
took_entry p new line entry i some valid says is =
    let q = with_entry p entry in
    let j : IsIn parts.Entries q = record { part_is = i.part_is; rules = entry_rules p entry i some valid } in
    let before = all_shards p.shards in
    let head = shard_line (length p.shards) (length p.entries + p.owed) in
    let read : lines_read q ≡ lines_read p ++ line ∷ [] =
    lines_in parts.Entries q j
    ∙ ap (λ (n : ℕ). head_line ∷ (all_threads p.threads ++ (before ++ (shard_line (length p.shards) n ∷ map entry_line (p.entries ++ entry ∷ []))))) (same_count p.entries entry p.owed some)
    ∙ ap (λ (ls : List TextLine). head_line ∷ (all_threads p.threads ++ (before ++ (head ∷ ls)))) (map_push entry_line p.entries entry)
    ∙ ap (λ (ls : List TextLine). head_line ∷ (all_threads p.threads ++ ls)) (sym (append_assoc before (head ∷ map entry_line p.entries) (entry_line entry ∷ [])))
    ∙ sym (one_more head_line (entry_line entry) (all_threads p.threads) (before ++ (head ∷ map entry_line p.entries)))
    ∙ ap (λ (l : TextLine). read_in parts.Entries p ++ l ∷ []) (sym says)
    ∙ ap (λ (ls : List TextLine). ls ++ line ∷ []) (sym (lines_in parts.Entries p i)) in
    let took : TookReportLine p line q = record {
      lines = read;
      goes =
          subst (λ (a : LinePlace). Goes (line_place_of p) line a) (sym (place_in parts.Entries q j))
          (subst (λ (a : LinePlace). Goes a line (line_place_in parts.Entries q)) (sym (place_in parts.Entries p i))
          (goes_entry (length p.threads) (length p.shards + 1) p.owed line some (entry, valid, says)));
      rules = entry_progress p entry i some valid;
    } in
    subst (λ (r : Progress). TookReportLine p line r) (sym is) took

pub event_rules : (p : Progress) (event : Event) → IsIn parts.Events p → 1 ≤ p.owed → IsEvent event → RulesIn parts.Events (with_event p event)
event_rules p event i some valid = (i.rules.0, still_owed IsEvent p.events event p.owed some i.rules.1 valid)

pub event_progress : (p : Progress) (event : Event) → IsIn parts.Events p → 1 ≤ p.owed → IsEvent event → IsProgress (with_event p event)
event_progress p event i some valid = subst (λ (x : Part). RulesIn x (with_event p event)) (sym i.part_is) (event_rules p event i some valid)

goes_event : (threads shards devices owed : ℕ) (line : TextLine) → 1 ≤ owed → SaysEvent line → Goes (line_place_in_device threads shards devices owed) line (line_place_in_device threads shards devices (owed - 1))
goes_event threads shards devices zero line some says = absurd (omega arith)
goes_event threads shards devices (suc owed) line some says = (says, refl)

pub took_event : (p new : Progress) (line : TextLine) (event : Event) → IsIn parts.Events p → 1 ≤ p.owed → IsEvent event → line ≡ event_line event → new ≡ with_event p event → TookReportLine p line new
took_event p new line event i some valid says is =
    let q = with_event p event in
    let j : IsIn parts.Events q = record { part_is = i.part_is; rules = event_rules p event i some valid } in
    let shards = all_shards p.shards in
    let before = all_devices p.devices in
    let head = device_line (length p.devices) (length p.events + p.owed) in
    let read : lines_read q ≡ lines_read p ++ line ∷ [] =
    lines_in parts.Events q j
    ∙ ap (λ (n : ℕ). head_line ∷ (all_threads p.threads ++ (shards ++ (before ++ (device_line (length p.devices) n ∷ map event_line (p.events ++ event ∷ [])))))) (same_count p.events event p.owed some)
    ∙ ap (λ (ls : List TextLine). head_line ∷ (all_threads p.threads ++ (shards ++ (before ++ (head ∷ ls))))) (map_push event_line p.events event)
    ∙ ap (λ (ls : List TextLine). head_line ∷ (all_threads p.threads ++ (shards ++ ls))) (sym (append_assoc before (head ∷ map event_line p.events) (event_line event ∷ [])))
    ∙ ap (λ (ls : List TextLine). head_line ∷ (all_threads p.threads ++ ls)) (sym (append_assoc shards (before ++ (head ∷ map event_line p.events)) (event_line event ∷ [])))
    ∙ sym (one_more head_line (event_line event) (all_threads p.threads) (shards ++ (before ++ (head ∷ map event_line p.events))))
    ∙ ap (λ (l : TextLine). read_in parts.Events p ++ l ∷ []) (sym says)
    ∙ ap (λ (ls : List TextLine). ls ++ line ∷ []) (sym (lines_in parts.Events p i)) in
    let took : TookReportLine p line q = record {
      lines = read;
      goes =
          subst (λ (a : LinePlace). Goes (line_place_of p) line a) (sym (place_in parts.Events q j))
          (subst (λ (a : LinePlace). Goes a line (line_place_in parts.Events q)) (sym (place_in parts.Events p i))
          (goes_event (length p.threads) (length p.shards) (length p.devices + 1) p.owed line some (event, valid, says)));
      rules = event_progress p event i some valid;
    } in
    subst (λ (r : Progress). TookReportLine p line r) (sym is) took

-- ---- a part is whole

no_more : (t : List TextLine) (s : List (List Line)) (d : List (List Event)) → s ≡ [] → d ≡ [] → t ++ (all_shards s ++ all_devices d) ≡ t
no_more t s d p q = rw (p, q) (append-nil t)

none_after : (s : List TextLine) (d : List (List Event)) → d ≡ [] → s ++ all_devices d ≡ s
none_after s d q = rw q (append-nil s)

-- the lines stay
pub thread_lines_stay : (p : Progress) → IsIn parts.Answers p → lines_read (thread_closed p) ≡ lines_read p
thread_lines_stay p i =
    ap (λ (ls : List TextLine). head_line ∷ ls) (no_more (all_threads (p.threads ++ p.answers ∷ [])) p.shards p.devices i.rules.2 i.rules.3 ∙ parts_push thread_lines p.threads p.answers)
    ∙ sym (lines_in parts.Answers p i)

no_count : (n owed : ℕ) → owed ≡ 0 → n ≡ n + owed
no_count n owed none = omega arith

pub shard_lines_stay : (p : Progress) → IsIn parts.Entries p → p.owed ≡ 0 → lines_read (shard_closed p) ≡ lines_read p
shard_lines_stay p i none =
    ap (λ (ls : List TextLine). head_line ∷ (all_threads p.threads ++ ls)) (none_after (all_shards (p.shards ++ p.entries ∷ [])) p.devices i.rules.2 ∙ parts_push shard_lines p.shards p.entries)
    ∙ ap (λ (n : ℕ). head_line ∷ (all_threads p.threads ++ (all_shards p.shards ++ (shard_line (length p.shards) n ∷ map entry_line p.entries)))) (no_count (length p.entries) p.owed none)
    ∙ sym (lines_in parts.Entries p i)

pub device_lines_stay : (p : Progress) → IsIn parts.Events p → p.owed ≡ 0 → lines_read (device_closed p) ≡ lines_read p
device_lines_stay p i none =
    ap (λ (ls : List TextLine). head_line ∷ (all_threads p.threads ++ (all_shards p.shards ++ ls))) (parts_push device_lines p.devices p.events)
    ∙ ap (λ (n : ℕ). head_line ∷ (all_threads p.threads ++ (all_shards p.shards ++ (all_devices p.devices ++ (device_line (length p.devices) n ∷ map event_line p.events))))) (no_count (length p.events) p.owed none)
    ∙ sym (lines_in parts.Events p i)

-- the place stays, but for an answer
pub thread_place : (p : Progress) → IsIn parts.Answers p → line_place_of (thread_closed p) ≡ Between (length p.threads + 1) 0 0
thread_place p i = places (length (p.threads ++ p.answers ∷ [])) (length p.threads + 1) p.shards p.devices (length_push p.threads p.answers) i.rules.2 i.rules.3
  where
    places : (m n : ℕ) (s : List (List Line)) (d : List (List Event)) → m ≡ n → s ≡ [] → d ≡ [] → Between m (length s) (length d) ≡ Between n 0 0
    places m n s d e p q = rw (e, p, q) refl

pub shard_place : (p : Progress) → IsIn parts.Entries p → p.owed ≡ 0 → line_place_of (shard_closed p) ≡ line_place_of p
shard_place p i none =
    places (length p.threads) (length (p.shards ++ p.entries ∷ [])) (length p.shards + 1) p.owed p.devices (length_push p.shards p.entries) none i.rules.2 ∙ sym (place_in parts.Entries p i)
  where
    places : (t m n owed : ℕ) (d : List (List Event)) → m ≡ n → owed ≡ 0 → d ≡ [] → Between t m (length d) ≡ line_place_in_shard t n owed
    places t m n owed d e p q = rw (e, p, q) refl

pub device_place : (p : Progress) → IsIn parts.Events p → p.owed ≡ 0 → line_place_of (device_closed p) ≡ line_place_of p
device_place p i none =
    places (length p.threads) (length p.shards) (length (p.devices ++ p.events ∷ [])) (length p.devices + 1) p.owed (length_push p.devices p.events) none ∙ sym (place_in parts.Events p i)
  where
    places : (t s m n owed : ℕ) → m ≡ n → owed ≡ 0 → Between t s m ≡ line_place_in_device t s n owed
    places t s m n owed e p = rw (e, p) refl
