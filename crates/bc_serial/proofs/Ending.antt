-- A run ends: the shards are closed, and the sections make a lawful run.
use Rattle.std.proofs.Common.{◌≡◌, ℕ, zero, suc, ◌+◌, ◌*◌, ◌/◌, ◌<◌, ◌≤◌, ◌^◌, ◌⊎◌, Bool, true, false, cond, List, [], ◌∷◌, ◌++◌, length, map, take, refl, sym, ap, subst, ◌∙◌, arith, not, Option, Some}
use Rattle.std.specs.Prelude.{◌==◌, ◌||◌, filter, flat_map, Contains, slice_get, slice_index_or, nat_lt, option_map, IsSomeAnd}
use Rattle.std.specs.Option.{option_map_or}
use Rattle.std.specs.List.{AllByRecursion, range_with_len, enumerate_from, list_any, position_or_len}
use Rattle.std.proofs.Math.Logic.{⊎_elim}
use Rattle.std.proofs.lemmas.Bool.{eq-eqb, ne_eqb, true≢false, cases_lt, and_right, ltb-true, false_from_ne_true}
use Rattle.std.proofs.lemmas.Option.{none-some, same_Some}
use Rattle.std.proofs.lemmas.List.{length-map}
use Rattle.std.proofs.lemmas.List.Elements.{filter-append}
use Rattle.bc_base.specs.Lists.{At, AllAt, Each, EachFrom, list_at}
use Rattle.bc_base.specs.Story.{own, StartsWith}
use Rattle.bc_base.specs.RamStores.{RamData, HaveAllSectors, owns, contents, sector_within}
use Rattle.bc_key.specs.KeyData.{KeyData}
use Rattle.bc_medium.specs.declared.entry.Entry.{Entry}
use Rattle.bc_medium.specs.Layout.{shard_of}
use Rattle.bc_medium.specs.KeyedDisk.{Sectors, image_sectors, meets_fault}
use Rattle.bc_medium.specs.Entries.{caller_of, left_by, name_of_entry}
use Rattle.bc_medium.specs.declared.via.Via.{Via}
use Rattle.bc_medium.specs.declared.via.Via.TheVariants as vias
use Rattle.bc_bio.specs.declared.context.Context.{Context}
use Rattle.bc_profile.specs.declared.uses.Use.TheVariants as made
use Rattle.bc_profile.specs.SlotJournal.{opening, IsLawful}
use Rattle.bc_profile.specs.OneCaller.{journal_of}
use Rattle.bc_profile.specs.Programmings.{last_programming}
use Rattle.bc_profile.specs.Story.{events_of}
use Rattle.bc_medium.specs.Growth.{lies_in}
use Rattle.bc_medium.specs.ShardOrder.{ShardData, HasKeys, IsOrder, Leaves}
use Rattle.bc_medium.specs.Shards.{AllLeft, HaveKeys}
use Rattle.bc_script.specs.Script.{Script, IsScript, keys_of, max_threads}
use Rattle.bc_stack.specs.declared.target.Target.{Target}
use Rattle.bc_report.specs.LawfulRun.{HaveLawfulJournals}
use Rattle.bc_report.specs.SerialRun.{DeviceUse, NamesHoldUnder, journal_by, serial_journal, uses_of, uses_of_section, uses_through}
use Rattle.bc_report.specs.declared.answer.Answer.{Answer}
use Rattle.bc_report.specs.declared.line.Line.{Line}
use Rattle.bc_report.specs.Report.{Report, IsReport, IsEntry, IsEvent, IsPart}
use Rattle.bc_compose.specs.SectionDone.{SectionDone, key_of_entry}
use Rattle.bc_compose.specs.ClosedOrders.{ShardsClosed, StoresClosed, DevicesClosed, report_line_of}
use Rattle.bc_compose.specs.ComposedRun.{AreSectionsOf, FollowOneAnother, AreUses, NamesItsHold}
use Rattle.bc_section.specs.Sections.{DeviceData, SectionsDone, journal_seen}
use Rattle.bc_serial.specs.Keyslots.{KeyslotsData}
use Rattle.bc_section.specs.Uses.{after_uses, is_for, NamesUse, MakesUses}
use Rattle.bc_section.specs.Openings.{planned_on}
use Rattle.bc_serial.specs.Standing.{ShardStands, IsCourse, CourseData, HasBegun, own_device, sectors_at, IsBegun}
use Rattle.bc_section.proofs.Lists.{list_at_past, all_slice, all_by_place, filter_all, filter_none, at_exists, at_map, at_of_map, list_at_map, by_places}
use Rattle.bc_serial.proofs.Sectioning.{events_at, events_are, same_by_places}
use Rattle.bc_section.proofs.Using.{holds_within}
use Rattle.bc_serial.proofs.Turns.{callers_below}
use Rattle.bc_base.proofs.Members.{In, in_append_left, in_append_right, in_of_filter, in_of_flat_map, same_tests, all_at, all_from_in, zip_length}
use Rattle.bc_section.proofs.Faults.{nothing_behind, fail_at, met_planned, planned_met}

-- ---- planned faults

-- ---- entries of one caller among those of all

own_of_turns : (shards shard n : ℕ) (made : List (List Entry)) → EachFrom (λ t es. AllByRecursion (λ e. caller_of e ≡ t) es) n made → (t : ℕ) → t < length made
    → own caller_of (n + t) (flat_map (filter (lies_in shards shard)) made) ≡ filter (lies_in shards shard) (list_at made t)
own_of_turns shards shard n [] all t lt = absurd (omega arith)
own_of_turns shards shard n (es ∷ made) all zero lt =
    let keep = filter (lies_in shards shard) in
    filter-append (λ e. caller_of e == n + 0) (keep es) (flat_map keep made)
    ∙ ap (λ l. l ++ own caller_of (n + 0) (flat_map keep made))
    (filter_all (λ e. caller_of e == n + 0) (keep es) (λ e at. let by : caller_of e ≡ n = all_at (λ (x : Entry). caller_of x ≡ n) es e all.0 (in_of_filter (lies_in shards shard) es e at).0 in eq-eqb (caller_of e) (n + 0) (omega arith)))
    ∙ ap (λ l. keep es ++ l)
    (filter_none (λ e. caller_of e == n + 0) (flat_map keep made)
    (λ e at. let r = in_of_flat_map keep made e at in let b = (callers_below (n + 1) made all.1 r.0 e r.1 (in_of_filter (lies_in shards shard) r.0 e r.2).0).0 in ne_eqb (caller_of e) (n + 0) (λ same. omega arith)))
    ∙ append_nil (keep es)
  where
    append_nil : {X : Type 0} (xs : List X) → xs ++ [] ≡ xs
    append_nil [] = refl
    append_nil (x ∷ xs) = ap (λ l. x ∷ l) (append_nil xs)
own_of_turns shards shard n (es ∷ made) all (suc t) lt =
    let keep = filter (lies_in shards shard) in
    filter-append (λ e. caller_of e == n + suc t) (keep es) (flat_map keep made)
    ∙ ap (λ l. l ++ own caller_of (n + suc t) (flat_map keep made))
    (filter_none (λ e. caller_of e == n + suc t) (keep es) (λ e at. let by : caller_of e ≡ n = all_at (λ (x : Entry). caller_of x ≡ n) es e all.0 (in_of_filter (lies_in shards shard) es e at).0 in ne_eqb (caller_of e) (n + suc t) (λ same. omega arith)))
    ∙ ap (λ m. own caller_of m (flat_map keep made)) (over n t)
    ∙ own_of_turns shards shard (n + 1) made all.1 t (omega arith)
  where
    over : (n t : ℕ) → n + suc t ≡ n + 1 + t
    over n t = omega arith

-- ---- holds

through_is : (p : DeviceUse → Bool) (before : List DeviceUse) (hold : DeviceUse) (after : List DeviceUse) → list_any p before ≡ false → p hold ≡ true
    → take (position_or_len p (before ++ hold ∷ after) + 1) (before ++ hold ∷ after) ≡ before ++ hold ∷ []
through_is p before hold after none here = ap (λ (n : ℕ). take (n + 1) (before ++ hold ∷ after)) (place before none) ∙ taken before
  where
    place : (xs : List DeviceUse) → list_any p xs ≡ false → position_or_len p (xs ++ hold ∷ after) ≡ length xs
    place [] none = ap (λ (b : Bool). cond {A = ℕ} (not b) (1 + position_or_len p after) 0) here
    place (x ∷ xs) none =
        (elim (p x) as (λ (b : Bool). (b || list_any p xs) ≡ false → cond {A = ℕ} (not b) (1 + position_or_len p (xs ++ hold ∷ after)) 0 ≡ suc (length xs)) [
          | true ↦ λ is. absurd (true≢false is)
          | false ↦ λ is. omega (arith, place xs is)
        ]) none

    taken : (xs : List DeviceUse) → take (length xs + 1) (xs ++ hold ∷ after) ≡ xs ++ hold ∷ []
    taken [] = refl
    taken (x ∷ xs) = ap (λ (n : ℕ). take n (x ∷ xs ++ hold ∷ after)) (over (length xs)) ∙ ap (λ (l : List DeviceUse). x ∷ l) (taken xs)
      where
        over : (n : ℕ) → suc n + 1 ≡ suc (n + 1)
        over n = omega arith

slots_at : (targets : List Target) (device : ℕ) (target : Target) → At targets device target → option_map_or (λ (t : Target). t.slots) (slice_get targets device) 0 ≡ target.slots
slots_at targets device target at = ap (λ (o : Option Target). option_map_or (λ (t : Target). t.slots) o 0) at

-- an entry that names its own hold among the uses of all sections names it
names_its_hold : (script : Script) (e : Entry) (via : Via) → NamesUse script (λ device. []) (uses_of script) e via → NamesHoldUnder script (key_of_entry e) (name_of_entry e) via
names_its_hold script e vias.Plain is = tt
names_its_hold script e vias.Soft is = tt
names_its_hold script e (vias.Inline device slot event) is =
    let hold : DeviceUse = record { use' = made.Hold is.under.key; units = is.units } in
    let done : List DeviceUse = is.before ++ hold ∷ [] in
    let inside = holds_within script device (after_uses script device [] done) is.under.key.0 slot event is.holds in
    let target = at_exists script.targets device inside in
    let through : uses_through script device (name_of_entry e) ≡ done =
    ap (λ (l : List DeviceUse). take (position_or_len (is_for (name_of_entry e)) l + 1) l) is.among ∙ through_is (is_for (name_of_entry e)) is.before hold is.after is.for_others is.for_it in
    let last : last_programming is.under.key.0 (journal_by target.0 (uses_through script device (name_of_entry e))) ≡ Some (slot, event) =
    ap (λ (l : List DeviceUse). last_programming is.under.key.0 (journal_by target.0 l)) through
    ∙ ap (λ (n : ℕ). last_programming is.under.key.0 (journal_of (opening n) (map (λ u. u.use') done))) (sym (slots_at script.targets device target.0 target.1)) ∙ is.holds.last in
    subst (λ (o : Option Context). NamesHoldUnder script (option_map (λ (c : Context). c.key.0) o) (name_of_entry e) (vias.Inline device slot event)) (sym is.has_context)
    (subst (λ (o : Option Target). IsSomeAnd o (λ t. last_programming is.under.key.0 (journal_by t (uses_through script device (name_of_entry e))) ≡ Some (slot, event))) (sym target.1) last)

-- ---- lists

length_numbered : {X Y : Type 0} (f : ℕ × X → Y) (n : ℕ) (xs : List X) → length (map f (enumerate_from n xs)) ≡ length xs
length_numbered f n [] = refl
length_numbered f n (x ∷ xs) = ap suc (length_numbered f (n + 1) xs)

numbered_at : {X Y : Type 0} (f : ℕ × X → List Y) (n : ℕ) (xs : List X) (k : ℕ) (x : X) → At xs k x → list_at (map f (enumerate_from n xs)) k ≡ f (n + k, x)
numbered_at f n [] k x at = absurd (none-some x at)
numbered_at f n (y ∷ xs) zero x at = ap (λ (m : ℕ). f (m, y)) (none n) ∙ ap (λ (z : _). f (n + 0, z)) (same_Some y x at)
  where
    none : (n : ℕ) → n ≡ n + 0
    none n = omega arith
numbered_at f n (y ∷ xs) (suc k) x at = numbered_at f (n + 1) xs k x at ∙ ap (λ (m : ℕ). f (m, x)) (over n k)
  where
    over : (n m : ℕ) → n + 1 + m ≡ n + suc m
    over n m = omega arith

in_one : {X : Type 0} (lists : List (List X)) (t : ℕ) (x : X) → In x (list_at lists t) → In x (flat_map (λ l. l) lists)
in_one [] t x at = absurd at
in_one (l ∷ lists) zero x at = in_append_left l (flat_map (λ l. l) lists) x at
in_one (l ∷ lists) (suc t) x at = in_append_right l (flat_map (λ l. l) lists) x (in_one lists t x at)

-- ---- the whole run

module _ (script : Script) (rules : IsScript script) (image : List ℕ) (n : ℕ) (some : 1 ≤ n) (few : n ≤ 64) (whole : length image ≡ 4096 * script.blocks)
    (v0 v1 : CourseData) (begun : IsBegun script image n v0) (answers : List (List Answer)) (done : SectionsDone (own_device v0) (own_device v1) script.threads answers)
    (has : HasBegun v1.begun v1.journals) (keys : List KeyData) (keyslots : KeyslotsData) (course : IsCourse v1.script keys v1.shards keyslots v1.left) (stores : List RamData) (orders : List (List Entry))
    (stores_are : stores ≡ map (λ s. s.store) v1.shards) (orders_are : orders ≡ map (λ s. s.entries) v1.shards)
    (closed : Each (λ s. IsOrder (λ (r : RamData) m. owns r m) (λ (r : RamData). Some (contents r)) (λ (r : RamData). Some (record { plan = r.calls.fails; calls = r.calls.calls })) (λ (r : RamData). r.calls.faults)
    s.start s.keys s.store s.entries) v1.shards)
    (all_left : AllLeft (λ (r : RamData). Some (contents r)) v1.shards) where
  script_is : v1.script ≡ script
  script_is = ap (λ (d : DeviceData). d.script) done.same ∙ begun.script_is

  count : length v1.shards ≡ n
  count = ap (λ (d : DeviceData). d.shards) done.same ∙ begun.shards_are

  base_is : sectors_at v1.shards ≡ sectors_at v0.shards
  base_is = ap (λ (d : DeviceData). d.base) done.same

  stands : (k : ℕ) (s : ShardData RamData) → At v1.shards k s → ShardStands script n v1.left k s
  stands k s at = subst (λ m. ShardStands script m v1.left k s) count (subst (λ (c : Script). ShardStands c (length v1.shards) v1.left k s) script_is (course.stand k s at))

  order_at : (k : ℕ) (s : ShardData RamData) → At v1.shards k s → IsOrder (λ (r : RamData) m. owns r m) (λ (r : RamData). Some (contents r)) (λ (r : RamData). Some (record { plan = r.calls.fails; calls = r.calls.calls })) (λ (r : RamData). r.calls.faults)
      s.start s.keys s.store s.entries
  order_at k s at = all_slice (λ (s : ShardData RamData). IsOrder (λ (r : RamData) m. owns r m) (λ (r : RamData). Some (contents r)) (λ (r : RamData). Some (record { plan = r.calls.fails; calls = r.calls.calls })) (λ (r : RamData). r.calls.faults)
      s.start s.keys s.store s.entries) v1.shards k s closed at

  store_count : length stores ≡ n
  store_count = ap length stores_are ∙ length-map v1.shards (λ s. s.store) ∙ count

  -- the stores can be joined
  pub have_all : HaveAllSectors script.blocks stores
  have_all = record {
    some = subst (λ m. 1 ≤ m) (sym store_count) some;
    each = λ s inside store at.
        let k = shard_of (length stores) s in
        let r = at_of_map (λ (z : ShardData RamData). z.store) v1.shards k store (subst (λ l. At l k store) stores_are at) in
        subst (λ (z : RamData). owns z s ≡ true) r.2
        ((order_at k r.0 r.1).owned s ∙ (stands k r.0 r.1).owned s inside (ap (λ m. shard_of m s) (sym store_count)));
  }

  pub orders_few : Each (λ order. length order < 2 ^ 32) orders
  orders_few = subst (Each (λ order. length order < 2 ^ 32)) (sym orders_are)
      (all_by_place (λ order. length order < 2 ^ 32) (map (λ s. s.entries) v1.shards)
      (λ k order at. let r = at_of_map (λ (s : ShardData RamData). s.entries) v1.shards k order at in
      let f = (stands k r.0 r.1).few in subst (λ l. length l < 2 ^ 32) r.2 (omega arith)))

  list_of : (k : ℕ) (s : ShardData RamData) → At v1.shards k s → list_at orders k ≡ s.entries
  list_of k s at = ap (λ l. list_at l k) orders_are ∙ list_at_map (λ (s : ShardData RamData). s.entries) v1.shards k s at

  base_of : (k : ℕ) (s : ShardData RamData) → At v1.shards k s → sectors_at v0.shards k ≡ contents s.start
  base_of k s at = ap (λ (b : ℕ → Sectors). b k) (sym base_is) ∙ read v1.shards k s at
    where
      read : (xs : List (ShardData RamData)) (k : ℕ) (z : ShardData RamData) → At xs k z → sectors_at xs k ≡ contents z.start
      read [] k z at = absurd (none-some z at)
      read (x ∷ xs) zero z at = ap (λ (y : ShardData RamData). contents y.start) (same_Some x z at)
      read (x ∷ xs) (suc k) z at = read xs k z at

  have_keys : HaveKeys (keys_of script) v1.shards
  have_keys = all_by_place (HasKeys (keys_of script)) v1.shards (λ k s at. (stands k s at).keys)

  left_of : (k : ℕ) (s : ShardData RamData) → At v1.shards k s → (sector : ℕ) → contents s.store sector ≡ left_by (keys_of script) (contents s.start) s.entries sector
  left_of k s at = all_slice (λ (s : ShardData RamData). Leaves (keys_of script) (Some (contents s.start)) s.entries (Some (contents s.store))) v1.shards k s (all_left (keys_of script) have_keys) at

  seen_of : ℕ → List (List Entry)
  seen_of t = slice_index_or done.seen t []

  abbrev pub made_of : ℕ → List Entry
  made_of t = list_at done.made t

  shards_closed : ShardsClosed script.faults n (length script.threads) (λ t. list_at done.seen t) orders
  shards_closed = record {
    one_for_each = ap length orders_are ∙ length-map v1.shards (λ s. s.entries) ∙ count;
    fronts = λ caller shard lt inside. record {
      begins = subst (λ l. StartsWith (list_at l shard) (list_at (list_at done.seen caller) shard)) (sym orders_are) (done.fronts caller shard lt);
      own_entries =
          ap (λ l. own caller_of caller (list_at l shard)) orders_are ∙ ap (own caller_of caller) (done.orders shard)
          ∙ ap (λ m. own caller_of m (flat_map (filter (lies_in (length v0.shards) shard)) done.made)) (zero_first caller)
          ∙ own_of_turns (length v0.shards) shard 0 done.made done.callers caller (let e = done.each_made in omega arith)
          ∙ sym ((done.each_done caller lt).entries shard (let e = begun.shards_are in omega arith));
    };
    no_strangers = λ shard inside.
        all_from_in (λ e. caller_of e < length script.threads) (list_at orders shard)
        (λ e at.
        let r = in_of_flat_map (filter (lies_in (length v0.shards) shard)) done.made e (subst (In e) (ap (λ l. list_at l shard) orders_are ∙ done.orders shard) at) in
        let b = (callers_below 0 done.made done.callers r.0 e r.1 (in_of_filter (lies_in (length v0.shards) shard) r.0 e r.2).0).1 in
        let m = done.each_made in omega arith);
    planned = λ shard place e inside at.
        let s = at_exists v1.shards shard (let c = count in omega arith) in
        let calls = (order_at shard s.0 s.1).calls.0 in
        let fails = fail_at s.0.start.calls.fails 0 s.0.entries place e calls (subst (λ l. At l place e) (list_of shard s.0 s.1) at) in
        let plan : s.0.start.calls.fails ≡ planned_on script.faults shard = ap (λ c. c.fails) (stands shard s.0 s.1).planned in
        same_tests e.failed (meets_fault script.faults shard place)
        (λ failed. planned_met script.faults shard place (subst (λ l. Contains l place) plan (subst (Contains s.0.start.calls.fails) (sym (zero_first place)) (fails.0 failed))))
        (λ met. fails.1 (subst (Contains s.0.start.calls.fails) (zero_first place) (subst (λ l. Contains l place) (sym plan) (met_planned script.faults shard place met))));
  }
    where
      zero_first : (n : ℕ) → n ≡ 0 + n
      zero_first n = omega arith

  module _ (left : List ℕ) (left_long : length left ≡ 4096 * script.blocks)
      (left_is : (s : ℕ) → s < 8 * script.blocks → AllAt stores (shard_of (length stores) s) (λ store. image_sectors left s ≡ contents store s))
      (lines : List (List Line)) (lines_are : lines ≡ map (map report_line_of) orders) (lines_fit : Each (IsPart IsEntry) lines)
      (have_lawful : HaveLawfulJournals keyslots.script.targets v1.journals) (events_fit : Each (IsPart IsEvent) v1.journals) where
    abbrev report : Report
    report = record { threads = answers; shards = lines; devices = v1.journals }

    stores_closed : StoresClosed script n (sectors_at v0.shards) image orders left
    stores_closed = record {
      opening = begun.opening;
      closing = λ s.
          let k = shard_of n s in
          let within : k < n = omega arith in
          let z = at_exists v1.shards k (let c = count in omega arith) in
          let there : At stores k z.0.store = subst (λ l. At l k z.0.store) (sym stores_are) (at_map (λ (y : ShardData RamData). y.store) v1.shards k z.0 z.1) in
          let held : contents z.0.store s ≡ left_by (keys_of script) (sectors_at v0.shards k) (list_at orders k) s =
          left_of k z.0 z.1 s
          ∙ ap (λ (d : Sectors). left_by (keys_of script) d z.0.entries s) (sym (base_of k z.0 z.1))
          ∙ ap (λ l. left_by (keys_of script) (sectors_at v0.shards k) l s) (sym (list_of k z.0 z.1)) in
          ⊎_elim
          (λ (inside : s < 8 * script.blocks). left_is s inside z.0.store (subst (λ m. At stores (shard_of m s) z.0.store) (sym store_count) there) ∙ held)
          (λ (behind : 8 * script.blocks ≤ s).
          nothing_behind left script.blocks s left_long behind
          ∙ sym (empty_behind z.0 k s (stands k z.0 z.1) ((order_at k z.0 z.1).owned s) behind) ∙ held)
          (cases_lt s (8 * script.blocks));
      size = left_long ∙ sym whole;
    }
      where
        empty_behind : (z : ShardData RamData) (k s : ℕ) → ShardStands script n v1.left k z → owns z.store s ≡ owns z.start s → 8 * script.blocks ≤ s → contents z.store s ≡ []
        empty_behind z k s is same behind =
            let start : owns z.start s ≡ false = none_behind z.start s (subst (λ b. 8 * b ≤ s) (sym is.blocks) behind) in
            ap (λ (b : Bool). cond b (image_sectors z.store.bytes (sector_within z.store.shards s)) []) (same ∙ start)
          where
            none_behind : (r : RamData) (s : ℕ) → 8 * r.blocks ≤ s → owns r s ≡ false
            none_behind r s le = and_right (shard_of r.shards s == r.shard) (nat_lt (s / 8) r.blocks) (false_from_ne_true (nat_lt (s / 8) r.blocks) (λ t. let lt = ltb-true (s / 8) r.blocks t in absurd (omega arith)))

    lawful : HaveLawfulJournals script.targets v1.journals
    lawful = subst (λ (s : Script). HaveLawfulJournals s.targets v1.journals) (course.same_script ∙ script_is) have_lawful

    journals_are : map events_of done.stories ≡ v1.journals
    journals_are = done.journals ∙ events_are v1.thread v1.begun v1.journals has

    devices_closed : DevicesClosed script (length script.threads) (λ t. list_at done.noted t) done.stories
    devices_closed = record {
      fronts = λ caller device lt. done.told caller device lt;
      no_strangers = done.authors;
      lawful = subst (HaveLawfulJournals script.targets) (sym journals_are) lawful;
    }

    made_uses : MakesUses script (λ device. []) (journal_seen (own_device v1)) (uses_of script) (flat_map (λ es. es) done.made)
    made_uses = subst (λ (s : Script). MakesUses s (λ device. []) (journal_seen (own_device v1)) (λ device. flat_map (uses_of_section s device) (enumerate_from 0 script.threads)) (flat_map (λ es. es) done.made)) begun.script_is done.uses

    pub uses : AreUses script (length script.threads) made_of done.stories
    uses = record {
      journals_are = journals_are ∙ same_by_places v1.journals (map (serial_journal script) (enumerate_from 0 script.targets))
          (zip_length (λ target events. IsLawful target.slots events) script.targets v1.journals lawful ∙ sym (length_numbered (serial_journal script) 0 script.targets))
          (λ device. ⊎_elim
          (λ (inside : device < length script.targets).
          let target = at_exists script.targets device inside in
          sym (events_at v1.thread v1.begun v1.journals has device) ∙ made_uses.journals device inside
          ∙ ap (λ (n : ℕ). journal_of (opening n) (map (λ u. u.use') (uses_of script device))) (slots_at script.targets device target.0 target.1)
          ∙ ap (λ (n : ℕ). serial_journal script (n, target.0)) (zero_first device) ∙ sym (numbered_at (serial_journal script) 0 script.targets device target.0 target.1))
          (λ (outside : length script.targets ≤ device).
          let one = zip_length (λ target events. IsLawful target.slots events) script.targets v1.journals lawful in
          let other = length_numbered (serial_journal script) 0 script.targets in
          list_at_past v1.journals device (omega arith) ∙ sym (list_at_past (map (serial_journal script) (enumerate_from 0 script.targets)) device (omega arith)))
          (cases_lt device (length script.targets)));
      holds = λ t lt.
          all_from_in (NamesItsHold script) (made_of t)
          (λ e at. names_its_hold script e e.via (all_at (λ e. NamesUse script (λ device. []) (uses_of script) e e.via) (flat_map (λ es. es) done.made) e made_uses.holds (in_one done.made t e at)));
    }
      where
        zero_first : (n : ℕ) → n ≡ 0 + n
        zero_first n = omega arith

    pub are_sections : AreSectionsOf script image n report left made_of orders done.stories
    are_sections = record {
      base = sectors_at v0.shards;
      seen = λ t. list_at done.seen t;
      noted = λ t. list_at done.noted t;
      rules = rules;
      some = some;
      whole = whole;
      answered = done.each_answered;
      sections = λ t lt.
          subst (λ m. SectionDone script m (sectors_at v0.shards) t (list_at script.threads t) (list_at done.seen t) (list_at done.noted t) (list_at answers t) (list_at done.made t)) begun.shards_are
          (subst (λ (c : Script). SectionDone c (length v0.shards) (sectors_at v0.shards) t (list_at script.threads t) (list_at done.seen t) (list_at done.noted t) (list_at answers t) (list_at done.made t)) begun.script_is (done.each_done t lt));
      shards_closed = shards_closed;
      stores_closed = stores_closed;
      devices_closed = devices_closed;
      reported = record { shards = lines_are; devices = sym journals_are };
    }

    pub follow : FollowOneAnother n (length script.threads) made_of orders
    follow shard inside =
        ap (λ l. list_at l shard) orders_are ∙ done.orders shard
        ∙ sym (by_places (filter (lies_in (length v0.shards) shard)) done.made)
        ∙ ap (λ m. flat_map (λ t. filter (lies_in (length v0.shards) shard) (made_of t)) (range_with_len 0 m)) done.each_made
        ∙ ap (λ m. flat_map (λ t. filter (lies_in m shard) (made_of t)) (range_with_len 0 (length script.threads))) begun.shards_are

    pub is_report : IsReport report
    is_report = record {
      few_threads = let c : length script.threads ≤ max_threads = rules.threads.count in let a = done.each_answered in omega arith;
      few_shards = omega (arith, ap length lines_are, length-map orders (map report_line_of), ap length orders_are, length-map v1.shards (λ (s : ShardData RamData). s.entries), count);
      few_devices = let c = rules.devices.stack.few in let z = zip_length (λ target events. IsLawful target.slots events) script.targets v1.journals lawful in omega arith;
      answers = done.ranges;
      entries = lines_fit;
      events = events_fit;
    }
