-- Two serial runs of one script over one image, with as many shards, have one report and leave one image.
use Rattle.std.proofs.Common.{◌≡◌, ℕ, zero, suc, ◌+◌, ◌≤◌, inl, inr, Bool, false, true, cond, List, [], ◌∷◌, length, map, drop, get_or, refl, sym, ap, subst, ◌∙◌, arith, Option, Some, None}
use Rattle.std.specs.Prelude.{◌==◌, ◌&&◌, flat_map, filter_map, zip, count_by, slice_get, slice_index_or, IsSomeAnd, All}
use Rattle.std.specs.List.{range_with_len, enumerate_from, AllZip, AllByRecursion, cons_option}
use Rattle.std.proofs.Math.Logic.{⊎_elim}
use Rattle.std.proofs.lemmas.Bool.{eq-eqb}
use Rattle.std.proofs.lemmas.Option.{none-some, same_Some}
use Rattle.std.proofs.lemmas.List.{length-map}
use Rattle.std.proofs.lemmas.List.Sums.{sum_by-cons}
use Rattle.std.proofs.lemmas.List.Elements.{recursion_from_All}
use Rattle.bc_bio.specs.PlannedUnit.{PlannedUnit}
use Rattle.bc_stack.specs.declared.target.Target.{Target}
use Rattle.bc_medium.specs.declared.unit_name.UnitName.{UnitName}
use Rattle.bc_medium.specs.declared.via.Via.{Via}
use Rattle.bc_medium.specs.declared.via.Via.TheVariants as vias
use Rattle.bc_medium.specs.LawfulOrders.{attempted_on}
use Rattle.bc_medium.specs.Outcome.{Run, unit_named, final_image}
use Rattle.bc_profile.specs.declared.event.Event.{Event}
use Rattle.bc_profile.specs.declared.event.Event.TheVariants as events
use Rattle.bc_profile.specs.SlotJournal.{Slots, opening, after_event, EachEvent}
use Rattle.bc_profile.specs.Programmings.{last_programming}
use Rattle.bc_script.specs.declared.op.Op.{Op}
use Rattle.bc_script.specs.declared.op.Op.TheVariants as ops
use Rattle.bc_script.specs.Script.{Script, keys_of}
use Rattle.bc_script.specs.Plan.{plan_of}
use Rattle.bc_script.specs.Way.{way_of}
use Rattle.bc_report.specs.declared.answer.Answer.{Answer}
use Rattle.bc_report.specs.declared.answer.Answer.TheVariants as answers
use Rattle.bc_report.specs.declared.line.Line.{Line}
use Rattle.bc_report.specs.Report.{Report}
use Rattle.bc_report.specs.RunOf.{name_in, orders_of, own_key, run_of}
use Rattle.bc_report.specs.Answers.{IsAnswerTo, AreAnswersTo, HasAnswers}
use Rattle.bc_report.specs.Evictions.{Eviction, eviction_in, evictions_in, evictions_of, is_busy_with, names_busy, count_answered, IsEvictionAnswer, BusyAnswersHold}
use Rattle.bc_report.specs.Ways.{HasWay, HaveWays, way_in}
use Rattle.bc_report.specs.SerialRun.{uses_of, journal_by, serial_journal, uses_through, NamesHoldUnder, NamesHold, IsSerialRun}
use Rattle.bc_compose.specs.ComposedRun.{SerialRunsAgree, FindsNone}
use Rattle.bc_compose.proofs.Holders.{each_of_uses, use_finds_none}
use Rattle.bc_compose.proofs.OneOrder.{InSections, one_order}
use Rattle.bc_base.proofs.Members.{In, in_append_left, in_append_right, all_at, all_of}

-- ---- counts and lists

in_first : {X : Type 0} (o : Option X) (xs : List X) (x : X) → o ≡ Some x → In x (cons_option o xs)
in_first None xs x is = absurd (none-some x is)
in_first (Some y) xs x is = inl (same_Some y x is)

in_rest : {X : Type 0} (o : Option X) (xs : List X) (x : X) → In x xs → In x (cons_option o xs)
in_rest None xs x at' = at'
in_rest (Some y) xs x at' = inr at'

count_none : {X : Type 0} (p : X → Bool) (xs : List X) → ((x : X) → In x xs → p x ≡ false) → count_by p xs ≡ 0
count_none p [] none = refl
count_none p (x ∷ xs) none =
    let here = ap (λ (b : Bool). cond {A = ℕ} b 1 0) (none x (inl refl)) in
    let rest = count_none p xs (λ y at'. none y (inr at')) in
    let sum = sum_by-cons (λ y. cond (p y) 1 0) x xs in omega (arith, here, rest, sum)

count_some : {X : Type 0} (p : X → Bool) (xs : List X) (x : X) → In x xs → p x ≡ true → 1 ≤ count_by p xs
count_some p [] x at' pass = absurd at'
count_some p (y ∷ ys) x at' pass =
    let sum = sum_by-cons (λ z. cond (p z) 1 0) y ys in
    ⊎_elim
    (λ (is : y ≡ x). let here = ap (λ (b : Bool). cond {A = ℕ} b 1 0) (ap p is ∙ pass) in omega (arith, here, sum))
    (λ (more : In x ys). let rest = count_some p ys x more pass in omega (arith, rest, sum))
    at'

-- ---- answers

-- an eviction was answered by its own word
abbrev Evicts : Eviction → Type 0
Evicts e = e.answer ≡ answers.Evicted

abbrev AllEvicted : List Eviction → Type 0
AllEvicted evictions = (e : Eviction) → In e evictions → Evicts e

module _ (script : Script) (run : Run) (thread : ℕ) where
  -- the evictions of these operations
  abbrev evictions_from : ℕ → List Op → List Answer → List Eviction
  evictions_from op section xs = filter_map (eviction_in thread) (enumerate_from op (zip section xs))

  answers_agree : (op : ℕ) (operation : Op) (x y : Answer) → IsAnswerTo script run thread (op, operation) x → IsAnswerTo script run thread (op, operation) y
      → ((e : Eviction) → eviction_in thread (op, (operation, x)) ≡ Some e → Evicts e) → ((e : Eviction) → eviction_in thread (op, (operation, y)) ≡ Some e → Evicts e) → x ≡ y
  answers_agree op (ops.Write context sector units text) x y p q ex ey = p ∙ sym q
  answers_agree op (ops.Read context sector units) x y p q ex ey = p ∙ sym q
  answers_agree op (ops.Evict key) x y p q ex ey = ex _ refl ∙ sym (ey _ refl)
  answers_agree op (ops.Reset device) x y p q ex ey = p ∙ sym q
  answers_agree op ops.Plug x y p q ex ey = p ∙ sym q
  answers_agree op ops.Unplug x y p q ex ey = p ∙ sym q

  section_agrees : (op : ℕ) (section : List Op) (xs ys : List Answer)
      → AllZip (IsAnswerTo script run thread) (enumerate_from op section) xs → AllZip (IsAnswerTo script run thread) (enumerate_from op section) ys
      → AllEvicted (evictions_from op section xs) → AllEvicted (evictions_from op section ys) → xs ≡ ys
  section_agrees op [] [] [] p q ex ey = refl
  section_agrees op [] [] (y ∷ ys) p q ex ey = absurd q
  section_agrees op [] (x ∷ xs) ys p q ex ey = absurd p
  section_agrees op (operation ∷ section) [] ys p q ex ey = absurd p
  section_agrees op (operation ∷ section) (x ∷ xs) [] p q ex ey = absurd q
  section_agrees op (operation ∷ section) (x ∷ xs) (y ∷ ys) p q ex ey =
      let this = λ (z : Answer). eviction_in thread (op, (operation, z)) in
      let rest = λ (zs : List Answer). evictions_from (op + 1) section zs in
      ap (λ (z : Answer). z ∷ xs)
      (answers_agree op operation x y p.0 q.0 (λ e is. ex e (in_first (this x) (rest xs) e is)) (λ e is. ey e (in_first (this y) (rest ys) e is)))
      ∙ ap (λ (l : List Answer). y ∷ l)
      (section_agrees (op + 1) section xs ys p.1 q.1 (λ e more. ex e (in_rest (this x) (rest xs) e more)) (λ e more. ey e (in_rest (this y) (rest ys) e more)))

threads_agree : (script : Script) (run : Run) (first : ℕ) (sections : List (List Op)) (xss yss : List (List Answer))
    → AllZip (AreAnswersTo script run) (enumerate_from first sections) xss → AllZip (AreAnswersTo script run) (enumerate_from first sections) yss
    → AllEvicted (flat_map evictions_in (enumerate_from first (zip sections xss))) → AllEvicted (flat_map evictions_in (enumerate_from first (zip sections yss))) → xss ≡ yss
threads_agree script run first [] [] [] p q ex ey = refl
threads_agree script run first [] [] (ys ∷ yss) p q ex ey = absurd q
threads_agree script run first [] (xs ∷ xss) yss p q ex ey = absurd p
threads_agree script run first (section ∷ sections) [] yss p q ex ey = absurd p
threads_agree script run first (section ∷ sections) (xs ∷ xss) [] p q ex ey = absurd q
threads_agree script run first (section ∷ sections) (xs ∷ xss) (ys ∷ yss) p q ex ey =
    let mine = λ (zs : List Answer). evictions_in (first, (section, zs)) in
    let rest = λ (zss : List (List Answer)). flat_map evictions_in (enumerate_from (first + 1) (zip sections zss)) in
    ap (λ (z : List Answer). z ∷ xss)
    (section_agrees script run first 0 section xs ys p.0 q.0 (λ e at'. ex e (in_append_left (mine xs) (rest xss) e at')) (λ e at'. ey e (in_append_left (mine ys) (rest yss) e at')))
    ∙ ap (λ (l : List (List Answer)). ys ∷ l)
    (threads_agree script run (first + 1) sections xss yss p.1 q.1 (λ e at'. ex e (in_append_right (mine xs) (rest xss) e at')) (λ e at'. ey e (in_append_right (mine ys) (rest yss) e at')))

-- ---- evictions

-- a serial run's journals have no refusal, so no eviction is answered by one
none_refused : (key slot refs : ℕ) (slots : Slots) (journal : List Event) → EachEvent (λ _ event. FindsNone event) slots journal → count_by (is_busy_with key slot refs) journal ≡ 0
none_refused key slot refs slots journal each = count_none (is_busy_with key slot refs) journal (go slots journal each)
  where
    passes_none : (event : Event) → FindsNone event → is_busy_with key slot refs event ≡ false
    passes_none (events.Program s k skipped) none = refl
    passes_none (events.Busy s k n) none = absurd none
    passes_none (events.Idle s) none = refl
    passes_none (events.Evict s k) none = refl
    passes_none events.Reset none = refl

    go : (slots : Slots) (journal : List Event) → EachEvent (λ _ event. FindsNone event) slots journal → (event : Event) → In event journal → is_busy_with key slot refs event ≡ false
    go slots [] each event at' = absurd at'
    go slots (e ∷ journal) each event at' =
        ⊎_elim (λ (is : e ≡ event). subst (λ x. is_busy_with key slot refs x ≡ false) is (passes_none e each.0))
        (λ (more : In event journal). go (after_event slots e) journal each.1 event more) at'

none_refused_on : (key slot refs : ℕ) (script : Script) (first : ℕ) (targets : List Target) (device : ℕ)
    → count_by (is_busy_with key slot refs) (slice_index_or (map (serial_journal script) (enumerate_from first targets)) device []) ≡ 0
none_refused_on key slot refs script first [] device = refl
none_refused_on key slot refs script first (target ∷ targets) zero =
    none_refused key slot refs (opening target.slots) (serial_journal script (first, target))
    (each_of_uses (λ _ event. FindsNone event) use_finds_none (opening target.slots) (map (λ u. u.use') (uses_of script first)))
none_refused_on key slot refs script first (target ∷ targets) (suc device) = none_refused_on key slot refs script (first + 1) targets device

-- what an eviction of a serial run is answered
all_evicted : (script : Script) (evictions : List Eviction) (devices : List (List Event)) → devices ≡ map (serial_journal script) (enumerate_from 0 script.targets)
    → AllByRecursion (λ e. IsEvictionAnswer script e.key e.answer) evictions → BusyAnswersHold evictions devices → AllEvicted evictions
all_evicted script evictions devices are allowed busy e at' =
    go e.answer refl (all_at (λ x. IsEvictionAnswer script x.key x.answer) evictions e allowed at')
  where
    counted : (device slot refs : ℕ) → e.answer ≡ answers.Busy device slot refs → 1 ≤ count_answered evictions e.key (names_busy device slot refs)
    counted device slot refs is =
        count_some (λ x. (x.key == e.key) && names_busy device slot refs x.answer) evictions e at'
        (ap (λ (a : Answer). (e.key == e.key) && names_busy device slot refs a) is
        ∙ rw (eq-eqb e.key e.key refl, eq-eqb device device refl, eq-eqb slot slot refl, eq-eqb refs refs refl) refl)

    go : (answer : Answer) → e.answer ≡ answer → IsEvictionAnswer script e.key answer → answer ≡ answers.Evicted
    go answers.Evicted is may = refl
    go (answers.Busy device slot refs) is may =
        let one = counted device slot refs is in
        let has = busy.each_has_its_event device e.key slot refs in
        let none = ap (λ ds. count_by (is_busy_with e.key slot refs) (slice_index_or ds device [])) are ∙ none_refused_on e.key slot refs script 0 script.targets device in
        absurd (omega (arith, one, has, none))
    go answers.Wrote is may = absurd may
    go (answers.ReadFill byte) is may = absurd may
    go (answers.ReadSum digest) is may = absurd may
    go (answers.Fault unit) is may = absurd may
    go (answers.Refused refusal) is may = absurd may
    go answers.Reset is may = absurd may
    go answers.Plug is may = absurd may
    go answers.Unplug is may = absurd may

evicted : (script : Script) (image : List ℕ) (shards : ℕ) (report : Report) (left : List ℕ) → IsSerialRun script image shards report left → AllEvicted (evictions_of script report)
evicted script image shards report left run =
    all_evicted script (evictions_of script report) report.devices run.serial.journals
    (recursion_from_All (λ e. IsEvictionAnswer script e.key e.answer) (evictions_of script report) run.lawful.but_holders.evictions.answers)
    run.lawful.but_holders.busy_answers

-- ---- entries

-- two ways of one kind, by one device, under one key: the hold decides the slot and the event
vias_agree : (script : Script) (under : Option ℕ) (name : UnitName) (v w : Via) → way_in v ≡ way_in w → NamesHoldUnder script under name v → NamesHoldUnder script under name w → v ≡ w
vias_agree script under name vias.Plain vias.Plain same hv hw = refl
vias_agree script under name vias.Plain vias.Soft same hv hw = cc
vias_agree script under name vias.Plain (vias.Inline d s n) same hv hw = cc
vias_agree script under name vias.Soft vias.Plain same hv hw = cc
vias_agree script under name vias.Soft vias.Soft same hv hw = refl
vias_agree script under name vias.Soft (vias.Inline d s n) same hv hw = cc
vias_agree script under name (vias.Inline d s n) vias.Plain same hv hw = cc
vias_agree script under name (vias.Inline d s n) vias.Soft same hv hw = cc
vias_agree script under name (vias.Inline d s n) (vias.Inline d' s' n') same hv hw =
    let devices : d ≡ d' = cc in
    one_hold under devices hv hw
  where
    by_hold : (target : Option Target) (found : Target → Option (ℕ × ℕ)) → IsSomeAnd target (λ t. found t ≡ Some (s, n)) → IsSomeAnd target (λ t. found t ≡ Some (s', n')) → ◌≡◌ {A = ℕ × ℕ} (s, n) (s', n')
    by_hold None found hv hw = absurd hv
    by_hold (Some t) found hv hw = same_Some (s, n) (s', n') (sym hv ∙ hw)

    one_hold : (under : Option ℕ) → d ≡ d' → NamesHoldUnder script under name (vias.Inline d s n) → NamesHoldUnder script under name (vias.Inline d' s' n') → vias.Inline d s n ≡ vias.Inline d' s' n'
    one_hold None devices hv hw = absurd hv
    one_hold (Some key) devices hv hw =
        let hold = by_hold (slice_get script.targets d') (λ target. last_programming key (journal_by target (uses_through script d' name)))
        (subst (λ (x : ℕ). NamesHoldUnder script (Some key) name (vias.Inline x s n)) devices hv) hw in
        ap (λ (x : ℕ). vias.Inline x s n) devices
        ∙ ap (λ (at' : ℕ × ℕ). vias.Inline d' at'.0 at'.1) hold

-- an entry's way is that of the unit with its name
ways_agree : (script : Script) (found : Option PlannedUnit) (v w : Via) → IsSomeAnd found (λ u. way_in v ≡ way_of script u.context u.sector)
    → IsSomeAnd found (λ u. way_in w ≡ way_of script u.context u.sector) → way_in v ≡ way_in w
ways_agree script None v w p q = absurd p
ways_agree script (Some u) v w p q = p ∙ sym q

-- an entry is its name and its way
abbrev line_with : UnitName → Via → Line
line_with name via = record { thread = name.thread; op = name.op; unit = name.unit; via = via }

module _ (script : Script) (run : Run) where
  -- what a serial run says of an entry
  abbrev IsTold : Line → Type 0
  IsTold line = HasWay script run line × NamesHold script run (name_in line) line.via

  lines_agree : (xs ys : List Line) → map name_in xs ≡ map name_in ys → AllByRecursion IsTold xs → AllByRecursion IsTold ys → xs ≡ ys
  lines_agree [] [] same p q = refl
  lines_agree [] (y ∷ ys) same p q = absurd (omega (arith, ap length same))
  lines_agree (x ∷ xs) [] same p q = absurd (omega (arith, ap length same))
  lines_agree (x ∷ xs) (y ∷ ys) same p q =
      let names : name_in x ≡ name_in y = ap (λ (l : List UnitName). get_or l 0 (name_in x)) same in
      let told : HasWay script run (line_with (name_in y) x.via) × NamesHold script run (name_in y) x.via =
      subst (λ (n : UnitName). HasWay script run (line_with n x.via) × NamesHold script run n x.via) names p.0 in
      let vias : x.via ≡ y.via =
      vias_agree script (own_key run (name_in y)) (name_in y) x.via y.via
      (ways_agree script (unit_named run (name_in y)) x.via y.via told.0 q.0.0) told.1 q.0.1 in
      ap (λ (n : UnitName). line_with n x.via ∷ xs) names
      ∙ ap (λ (v : Via). line_with (name_in y) v ∷ xs) vias
      ∙ ap (λ (l : List Line). y ∷ l) (lines_agree xs ys (ap (drop 1) same) p.1 q.1)

  shards_agree : (xs ys : List (List Line)) → map (map name_in) xs ≡ map (map name_in) ys
      → AllByRecursion (λ lines. AllByRecursion IsTold lines) xs → AllByRecursion (λ lines. AllByRecursion IsTold lines) ys → xs ≡ ys
  shards_agree [] [] same p q = refl
  shards_agree [] (y ∷ ys) same p q = absurd (omega (arith, ap length same))
  shards_agree (x ∷ xs) [] same p q = absurd (omega (arith, ap length same))
  shards_agree (x ∷ xs) (y ∷ ys) same p q =
      ap (λ (l : List Line). l ∷ xs) (lines_agree x y (ap (λ (l : List (List UnitName)). get_or l 0 []) same) p.0 q.0)
      ∙ ap (λ (l : List (List Line)). y ∷ l) (shards_agree xs ys (ap (drop 1) same) p.1 q.1)

  told_by_recursion : (xs : List (List Line)) → HaveWays script run xs → All (All (λ line. NamesHold script run (name_in line) line.via)) xs
      → AllByRecursion (λ lines. AllByRecursion IsTold lines) xs
  told_by_recursion xs ways holds =
      all_of (All IsTold) (λ lines. AllByRecursion IsTold lines) xs (λ lines all. recursion_from_All IsTold lines all)
      (recursion_from_All (All IsTold) xs (λ k d inside i e within. (ways k d inside i e within, holds k d inside i e within)))

-- ---- orders

in_sections : (script : Script) (image : List ℕ) (shards : ℕ) (report : Report) (left : List ℕ)
    → IsSerialRun script image shards report left → InSections script shards (orders_of report)
in_sections script image shards report left run =
    let count : length report.shards ≡ shards = sym (length-map report.shards (map name_in)) ∙ run.lawful.but_holders.orders.one_for_each_shard in
    run.serial.section_after_section
    ∙ ap (λ (n : ℕ). map (λ shard. flat_map (attempted_on n (plan_of script) script.faults (orders_of report) shard) (range_with_len 0 (length script.threads))) (range_with_len 0 n)) count

-- ---- the law

pub serial_runs_agree : SerialRunsAgree
serial_runs_agree script image shards one other left other_left rules p q =
    let orders : orders_of one ≡ orders_of other =
    one_order script shards (orders_of one) (orders_of other) (in_sections script image shards one left p) (in_sections script image shards other other_left q) in
    let runs : run_of script image one ≡ run_of script image other =
    ap (λ (os : List (List UnitName)). record { image = image; keys = keys_of script; plan = plan_of script; faults = script.faults; orders = os }) orders in
    let run = run_of script image other in
    let threads : one.threads ≡ other.threads =
    threads_agree script run 0 script.threads one.threads other.threads
    (subst (λ (r : Run). HasAnswers script r one.threads) runs p.lawful.but_holders.answers) q.lawful.but_holders.answers
    (evicted script image shards one left p) (evicted script image shards other other_left q) in
    let shards_are : one.shards ≡ other.shards =
    shards_agree script run one.shards other.shards orders
    (subst (λ (r : Run). AllByRecursion (λ lines. AllByRecursion (IsTold script r) lines) one.shards) runs
    (told_by_recursion script (run_of script image one) one.shards p.lawful.but_holders.ways p.serial.holds))
    (told_by_recursion script run other.shards q.lawful.but_holders.ways q.serial.holds) in
    let devices : one.devices ≡ other.devices = p.serial.journals ∙ sym q.serial.journals in (
      ap (λ (ts : List (List Answer)). record { threads = ts; shards = one.shards; devices = one.devices }) threads
          ∙ ap (λ (ss : List (List Line)). record { threads = other.threads; shards = ss; devices = one.devices }) shards_are
          ∙ ap (λ ds. record { threads = other.threads; shards = other.shards; devices = ds }) devices,
      p.lawful.but_holders.image_left ∙ ap final_image runs ∙ sym q.lawful.but_holders.image_left,
    )
