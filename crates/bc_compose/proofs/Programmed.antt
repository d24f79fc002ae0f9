-- The point on programmings: what an entry names in the journal that its thread has seen stands in the report, and the entries
-- of a thread in the plan's order are those that it made.
use Rattle.std.proofs.Common.{◌≡◌, ℕ, ◌-◌, ◌/◌, ◌<◌, inl, inr, Bool, true, false, cond, List, [], ◌∷◌, ◌++◌, length, map, refl, sym, ap, subst, ◌∙◌, arith, Option, Some, None}
use Rattle.std.specs.Prelude.{◌==◌, ◌&&◌, nat_lt, filter, filter_map, flat_map, slice_get, zip, All, AllPairs, IsSomeAnd, option_and_then}
use Rattle.std.specs.List.{AllZip, list_any, enumerate_from, cons_option}
use Rattle.std.specs.Option.{option_map}
use Rattle.std.proofs.lemmas.Bool.{true≢false, eq-eqb, eqb-true, and_parts, false_from_ne_true}
use Rattle.std.proofs.lemmas.Option.{none-some, same_Some}
use Rattle.std.proofs.lemmas.Nat.{mod_below}
use Rattle.std.proofs.lemmas.List.{length-map, map-append}
use Rattle.std.proofs.lemmas.List.Elements.{All-from_recursion}
use Rattle.bc_base.specs.Lists.{list_at}
use Rattle.bc_bio.specs.declared.context.Context.{Context}
use Rattle.bc_bio.specs.PlannedUnit.{PlannedUnit}
use Rattle.bc_bio.specs.Laws.{UnitsHaveSizes, UnitsLieInBlocks, UnrefusedIsAccepted}
use Rattle.bc_medium.specs.declared.entry.Entry.{Entry}
use Rattle.bc_medium.specs.declared.unit_name.UnitName.{UnitName}
use Rattle.bc_medium.specs.declared.via.Via.{Via}
use Rattle.bc_medium.specs.declared.via.Via.TheVariants as vias
use Rattle.bc_medium.specs.Layout.{shard_of}
use Rattle.bc_medium.specs.Entries.{caller_of, name_of_entry}
use Rattle.bc_medium.specs.Growth.{attempted_by, failed_names, IsEntryOf}
use Rattle.bc_medium.specs.LawfulOrders.{unit_name_of, is_same, is_attempted}
use Rattle.bc_medium.specs.Outcome.{Run}
use Rattle.bc_profile.specs.declared.event.Event.{Event}
use Rattle.bc_profile.specs.declared.noted.Noted.{Noted}
use Rattle.bc_profile.specs.Story.{event_in, events_of}
use Rattle.bc_script.specs.declared.op.Op.{Op}
use Rattle.bc_script.specs.declared.op.Op.TheVariants as ops
use Rattle.bc_script.specs.Script.{Script}
use Rattle.bc_script.specs.Plan.{plan_of}
use Rattle.bc_report.specs.declared.answer.Answer.{Answer}
use Rattle.bc_report.specs.declared.line.Line.{Line}
use Rattle.bc_report.specs.Report.{Report}
use Rattle.bc_report.specs.RunOf.{name_in, run_of, own_key}
use Rattle.bc_report.specs.Evictions.{Eviction, eviction_in, evictions_of}
use Rattle.bc_report.specs.Programmings.{IsProgramming, NamesProgramming, via_of, InlineEntry, entry_by, entry_of, entries_in_order, passes, InOrder, ProgrammingsHold}
use Rattle.bc_compose.specs.SectionDone.{key_of_entry, inline_of, NamesOwn}
use Rattle.bc_compose.specs.ClosedOrders.{report_line_of}
use Rattle.bc_compose.specs.ComposedRun.{AreSectionsOf}
use Rattle.bc_compose.proofs.Lists.{in_map, slice_get_append}
use Rattle.bc_compose.proofs.Flat.{in_flat, in_of_flat, numbered}
use Rattle.bc_compose.proofs.Distinct.{same_names, same_itself, distinct_same, find_some, find_none}
use Rattle.bc_compose.proofs.Orders.{named, at_map, in_of_filter_map}
use Rattle.bc_compose.proofs.Whole.{few, the_run, run_is, has_made, made_of, own_key_is, stands_there, made_distinct, each_line}
use Rattle.bc_compose.proofs.Counted.{device_at_is, own_evictions, eviction_from}
use Rattle.bc_base.proofs.Members.{In, in_of_map, in_of_filter, beside, any_in, any_from, all_at, all_from_in}

module _ (sizes : UnitsHaveSizes) (blocks : UnitsLieInBlocks) (unrefused : UnrefusedIsAccepted)
    (script : Script) (image : List ℕ) (shards : ℕ) (report : Report) (left : List ℕ) (made : ℕ → List Entry) (orders : List (List Entry)) (journals : List (List Noted))
    (done : AreSectionsOf script image shards report left made orders journals) where
  abbrev callers : ℕ
  callers = length script.threads

  abbrev plan : List (List PlannedUnit)
  plan = plan_of script

  -- ---- programmings

  -- what a caller has seen of a journal stands in the report
  noted_stays : (t d e : ℕ) (event : Event) → t < callers → slice_get (events_of (list_at (done.noted t) d)) e ≡ Some event → slice_get (list_at report.devices d) e ≡ Some event
  noted_stays t d e event there is =
      let begins = (done.devices_closed.fronts t d there).begins in
      let story : list_at report.devices d ≡ events_of (list_at (done.noted t) d) ++ events_of begins.0 =
      device_at_is sizes blocks unrefused script image shards report left made orders journals done d ∙ ap events_of begins.1 ∙ map-append event_in (list_at (done.noted t) d) begins.0 in
      subst (λ l. slice_get l e ≡ Some event) (sym story) (slice_get_append (events_of (list_at (done.noted t) d)) (events_of begins.0) e event is)

  names_it : (t : ℕ) (name : UnitName) (key : Option ℕ) (via : Via) → t < callers → own_key (the_run sizes blocks unrefused script image shards report left made orders journals done) name ≡ key → NamesOwn (done.noted t) key via → NamesProgramming (the_run sizes blocks unrefused script image shards report left made orders journals done) report.devices name via
  names_it t name key (vias.Inline d s ev) there is named' =
      subst (λ (o : Option ℕ). IsSomeAnd o (λ k. IsSomeAnd (slice_get (list_at report.devices d) ev) (IsProgramming s k))) (sym is)
      (go key named')
    where
      go : (key : Option ℕ) → IsSomeAnd key (λ k. IsSomeAnd (slice_get (events_of (list_at (done.noted t) d)) ev) (IsProgramming s k)) → IsSomeAnd key (λ k. IsSomeAnd (slice_get (list_at report.devices d) ev) (IsProgramming s k))
      go None h = h
      go (Some k) h =
          (elim (slice_get (events_of (list_at (done.noted t) d)) ev) as (λ (o : Option Event). slice_get (events_of (list_at (done.noted t) d)) ev ≡ o → IsSomeAnd o (IsProgramming s k) → IsSomeAnd (slice_get (list_at report.devices d) ev) (IsProgramming s k)) [
            | None ↦ λ _ h'. absurd h'
            | Some n ↦ λ at' h'. subst (λ (o : Option Event). IsSomeAnd o (IsProgramming s k)) (sym (noted_stays t d ev n there at')) h'
          ]) refl h
  names_it t name key vias.Plain there is named' = tt
  names_it t name key vias.Soft there is named' = tt

  own_keys_hold : All (All (λ line. NamesProgramming (the_run sizes blocks unrefused script image shards report left made orders journals done) report.devices (name_in line) line.via)) report.shards
  own_keys_hold =
      each_line sizes blocks unrefused script image shards report left made orders journals done (λ line. NamesProgramming (the_run sizes blocks unrefused script image shards report left made orders journals done) report.devices (name_in line) line.via)
      (λ s e within at'.
      let m = made_of sizes blocks unrefused script image shards report left made orders journals done s e within at' in
      names_it (caller_of e) (name_of_entry e) (key_of_entry e) e.via m.0 (own_key_is sizes blocks unrefused script image shards report left made orders journals done s e within at')
      (all_at (λ x. NamesOwn (done.noted (caller_of e)) (key_of_entry x) x.via) (made (caller_of e)) e (done.sections (caller_of e) m.0).own_key m.1))

  -- ---- the entries of a thread in the plan's order

  abbrev all_lines : List Line
  all_lines = flat_map (λ lines. lines) report.shards

  line_in : (t : ℕ) (e : Entry) → t < callers → In e (made t) → In (report_line_of e) all_lines
  line_in t e there at' =
      let s = shard_of shards e.at.sector in
      let within : s < shards = mod_below (e.at.sector / 8) shards (omega (arith, done.some)) in
      let here = stands_there sizes blocks unrefused script image shards report left made orders journals done t e there at' s within (eq-eqb s s refl) in
      in_flat report.shards s (report_line_of e) (subst (In (report_line_of e)) (sym (ap (λ l. list_at l s) done.reported.shards ∙ at_map report_line_of orders s)) (in_map report_line_of (list_at orders s) e here))

  line_from : (line : Line) → In line all_lines → (e : Entry) × (report_line_of e ≡ line) × (caller_of e < callers) × In e (made (caller_of e))
  line_from line at' =
      let r = in_of_flat report.shards line at' in
      let e = in_of_map report_line_of (list_at orders r.0) line (subst (In line) (ap (λ l. list_at l r.0) done.reported.shards ∙ at_map report_line_of orders r.0) r.2) in
      let long : length report.shards ≡ shards = ap length done.reported.shards ∙ length-map orders (map report_line_of) ∙ done.shards_closed.one_for_each in
      let lt = r.1 in
      let m = made_of sizes blocks unrefused script image shards report left made orders journals done r.0 e.0 (omega arith) e.1 in
      (e.0, e.2, m.0, m.1)

  -- a made entry's line is the one of its unit's name
  via_is : (t : ℕ) (u : PlannedUnit) (e : Entry) → t < callers → In u (list_at plan t) → IsEntryOf t u e → In e (made t) → via_of report (unit_name_of t u) ≡ Some e.via
  via_is t u e there at' is at'' =
      let test = λ (line : Line). is_same (name_in line) (unit_name_of t u) in
      let name : name_of_entry e ≡ unit_name_of t u = named t u e is in
      let r = find_some test all_lines (report_line_of e) (line_in t e there at'') (subst (λ n. is_same n (unit_name_of t u) ≡ true) (sym name) (same_itself (unit_name_of t u))) in
      let f = line_from r.0 r.1 in
      let same : name_of_entry f.0 ≡ name_of_entry e = ap name_in f.1 ∙ same_names (name_in r.0) (unit_name_of t u) r.2 ∙ sym name in
      let mine : caller_of f.0 ≡ t = ap (λ (n : UnitName). n.thread) (same ∙ name) in
      let both : f.0 ≡ e = distinct_same name_of_entry (made t) f.0 e (made_distinct sizes blocks unrefused script image shards report left made orders journals done t there) (subst (λ c. In f.0 (made c)) mine f.3) at'' same in
      ap (option_map (λ (line : Line). line.via)) r.3
      ∙ ap (λ (line : Line). Some line.via) (sym f.1)
      ∙ ap (λ (x : Entry). Some x.via) both

  no_via : (t : ℕ) (u : PlannedUnit) → t < callers → In u (list_at plan t) → is_attempted (failed_names (made t)) (unit_name_of t u) ≡ false → via_of report (unit_name_of t u) ≡ None
  no_via t u there at' not' =
      let test = λ (line : Line). is_same (name_in line) (unit_name_of t u) in
      ap (option_map (λ (line : Line). line.via))
      (find_none test all_lines
      (λ line here. false_from_ne_true (test line)
      (λ passes.
      let f = line_from line here in
      let name : name_of_entry f.0 ≡ unit_name_of t u = ap name_in f.1 ∙ same_names (name_in line) (unit_name_of t u) passes in
      let mine : caller_of f.0 ≡ t = ap (λ (n : UnitName). n.thread) name in
      let r = beside (IsEntryOf t) (attempted_by t (failed_names (made t)) (list_at plan t)) (made t) f.0 (has_made sizes blocks unrefused script image shards report left made orders journals done t there).attempts (subst (λ c. In f.0 (made c)) mine f.3) in
      let b = in_of_filter (λ v. is_attempted (failed_names (made t)) (unit_name_of t v)) (list_at plan t) r.0 r.1 in
      true≢false (sym b.1 ∙ ap (is_attempted (failed_names (made t))) (sym (named t r.0 f.0 r.2) ∙ name) ∙ not'))))

  entry_is : (t : ℕ) (u : PlannedUnit) (e : Entry) → IsEntryOf t u e → via_of report (unit_name_of t u) ≡ Some e.via → entry_of report t u ≡ inline_of e
  entry_is t u e is via =
      ap (option_and_then (λ via. option_and_then (λ (context : Context). entry_by u.tag context via) u.context)) via
      ∙ ap (λ (x : ℕ × Option Context). option_and_then (λ (context : Context). entry_by x.0 context e.via) x.1) (λ i. (sym (ap (λ x. x.tag) is.unit) i, sym (ap (λ x. x.context) is.unit) i))

  in_plans_order : (t : ℕ) → t < callers → entries_in_order report t (list_at plan t) ≡ filter_map inline_of (made t)
  in_plans_order t there = go (list_at plan t) (made t) (λ u at'. at') (λ e at'. at') (has_made sizes blocks unrefused script image shards report left made orders journals done t there).attempts
    where
      first_made : (u : PlannedUnit) (us : List PlannedUnit) (es : List Entry) → In u (list_at plan t) → ((e : Entry) → In e es → In e (made t))
          → ((rest : List Entry) → ((e : Entry) → In e rest → In e (made t)) → AllZip (IsEntryOf t) (filter (λ v. is_attempted (failed_names (made t)) (unit_name_of t v)) us) rest → filter_map (entry_of report t) us ≡ filter_map inline_of rest)
          → AllZip (IsEntryOf t) (u ∷ filter (λ v. is_attempted (failed_names (made t)) (unit_name_of t v)) us) es → filter_map (entry_of report t) (u ∷ us) ≡ filter_map inline_of es
      first_made u us [] here made' later all = absurd all
      first_made u us (e ∷ es) here made' later all =
          ap (λ (o : Option _). cons_option o (filter_map (entry_of report t) us)) (entry_is t u e all.0 (via_is t u e there here all.0 (made' e (inl refl))))
          ∙ ap (cons_option (inline_of e)) (later es (λ x at'. made' x (inr at')) all.1)

      go : (us : List PlannedUnit) (es : List Entry) → ((u : PlannedUnit) → In u us → In u (list_at plan t)) → ((e : Entry) → In e es → In e (made t))
          → AllZip (IsEntryOf t) (filter (λ u. is_attempted (failed_names (made t)) (unit_name_of t u)) us) es → filter_map (entry_of report t) us ≡ filter_map inline_of es
      go [] [] planned' made' all = refl
      go [] (e ∷ es) planned' made' all = absurd all
      go (u ∷ us) es planned' made' all =
          (elim (is_attempted (failed_names (made t)) (unit_name_of t u)) as (λ (b : Bool). is_attempted (failed_names (made t)) (unit_name_of t u) ≡ b
          → AllZip (IsEntryOf t) (cond b (u ∷ filter (λ v. is_attempted (failed_names (made t)) (unit_name_of t v)) us) (filter (λ v. is_attempted (failed_names (made t)) (unit_name_of t v)) us)) es → filter_map (entry_of report t) (u ∷ us) ≡ filter_map inline_of es) [
            | true ↦ λ _ all'. first_made u us es (planned' u (inl refl)) made' (λ rest made'' all''. go us rest (λ v at'. planned' v (inr at')) made'' all'') all'
            | false ↦ λ is all'.
                ap (λ (o : Option _). cons_option o (filter_map (entry_of report t) us))
                (ap (option_and_then (λ via. option_and_then (λ (context : Context). entry_by u.tag context via) u.context)) (no_via t u there (planned' u (inl refl)) is))
                ∙ go us es (λ v at'. planned' v (inr at')) made' all'
          ]) refl all

  by_own_thread : (t : ℕ) (e : Eviction) → In e (own_evictions sizes blocks unrefused script image shards report left made orders journals done t) → e.thread ≡ t
  by_own_thread t e at' = go (enumerate_from 0 (zip (list_at script.threads t) (list_at report.threads t))) at'
    where
      one_thread : (x : ℕ × (Op × Answer)) (f : Eviction) → eviction_in t x ≡ Some f → f.thread ≡ t
      one_thread (op, (ops.Evict key, answer)) f is = sym (ap (λ (g : Eviction). g.thread) (same_Some _ f is))
      one_thread (op, (ops.Write c s n x, answer)) f is = absurd (none-some f is)
      one_thread (op, (ops.Read c s n, answer)) f is = absurd (none-some f is)
      one_thread (op, (ops.Reset d, answer)) f is = absurd (none-some f is)
      one_thread (op, (ops.Plug, answer)) f is = absurd (none-some f is)
      one_thread (op, (ops.Unplug, answer)) f is = absurd (none-some f is)

      go : (xs : List (ℕ × (Op × Answer))) → In e (filter_map (eviction_in t) xs) → e.thread ≡ t
      go xs h = let r = in_of_filter_map (eviction_in t) xs e h in one_thread r.0 e r.2

  -- an eviction of the thread between two entries, which passed their device
  abbrev is_between : ℕ → InlineEntry → InlineEntry → Eviction → Bool
  is_between t first second e = (e.thread == t) && (e.key == first.key) && nat_lt first.op e.op && nat_lt e.op second.op && passes first.device e.answer

  still_in_order : (t : ℕ) (first second : InlineEntry) → InOrder (own_evictions sizes blocks unrefused script image shards report left made orders journals done t) t first second → InOrder (evictions_of script report) t first second
  still_in_order t first second order = record {
    never_earlier = order.never_earlier;
    later_after_eviction = λ keys devices between. order.later_after_eviction keys devices
        (own_any between);
  }
    where
      mine : (e : Eviction) → is_between t first second e ≡ true → e.thread ≡ t
      mine e is =
          eqb-true e.thread t
          (and_parts (e.thread == t) (e.key == first.key)
          (and_parts ((e.thread == t) && (e.key == first.key)) (nat_lt first.op e.op)
          (and_parts ((e.thread == t) && (e.key == first.key) && nat_lt first.op e.op) (nat_lt e.op second.op)
          (and_parts ((e.thread == t) && (e.key == first.key) && nat_lt first.op e.op && nat_lt e.op second.op) (passes first.device e.answer) is).0).0).0).0

      own_any : list_any (is_between t first second) (evictions_of script report) ≡ true → list_any (is_between t first second) (own_evictions sizes blocks unrefused script image shards report left made orders journals done t) ≡ true
      own_any any =
          let r = any_in (is_between t first second) (evictions_of script report) any in
          let f = eviction_from sizes blocks unrefused script image shards report left made orders journals done r.0 r.1 in
          let same : f.0 ≡ t = sym (by_own_thread f.0 r.0 f.2) ∙ mine r.0 r.2 in
          any_from (is_between t first second) (own_evictions sizes blocks unrefused script image shards report left made orders journals done t) r.0 (subst (λ k. In r.0 (own_evictions sizes blocks unrefused script image shards report left made orders journals done k)) same f.2) r.2

  pub programmings_hold : ProgrammingsHold (run_of script image report) plan report (evictions_of script report)
  programmings_hold = subst (λ (run : Run). ProgrammingsHold run plan report (evictions_of script report)) (run_is sizes blocks unrefused script image shards report left made orders journals done) (record {
    own_key = own_keys_hold;
    in_order =
        All-from_recursion (λ at'. AllPairs (InOrder (evictions_of script report) at'.0) (entries_in_order report at'.0 at'.1)) (enumerate_from 0 plan)
        (all_from_in (λ at'. AllPairs (InOrder (evictions_of script report) at'.0) (entries_in_order report at'.0 at'.1)) (enumerate_from 0 plan)
        (λ x at'.
        let r = numbered 0 plan x at' in
        let lt = r.0 in
        let there : x.0 < callers = omega (arith, few sizes blocks unrefused script image shards report left made orders journals done) in
        let n : x.0 ≡ x.0 - 0 = omega arith in
        subst (λ us. AllPairs (InOrder (evictions_of script report) x.0) (entries_in_order report x.0 us)) (ap (list_at plan) n ∙ r.1)
        (subst (AllPairs (InOrder (evictions_of script report) x.0)) (sym (in_plans_order x.0 there))
        (λ i j d a b. still_in_order x.0 _ _ ((done.sections x.0 there).in_order i j d a b)))));
  })
