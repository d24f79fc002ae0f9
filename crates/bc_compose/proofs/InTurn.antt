-- Sections that follow one another make a serial run: each order is, section after section, the thread's attempted units, and
-- an entry that names its own hold does so under its unit's key.
use Rattle.std.proofs.Common.{◌≡◌, ℕ, zero, suc, ◌+◌, ◌<◌, ◌≤◌, Bool, true, false, cond, List, [], ◌∷◌, ◌++◌, length, map, refl, sym, ap, subst, ◌∙◌, arith, Option}
use Rattle.std.specs.Prelude.{◌==◌, filter, flat_map, All}
use Rattle.std.specs.List.{range_with_len}
use Rattle.std.proofs.lemmas.List.{length-map, map-append}
use Rattle.bc_base.specs.Lists.{list_at}
use Rattle.bc_bio.specs.PlannedUnit.{PlannedUnit}
use Rattle.bc_bio.specs.Laws.{UnitsHaveSizes, UnitsLieInBlocks, UnrefusedIsAccepted}
use Rattle.bc_medium.specs.declared.entry.Entry.{Entry}
use Rattle.bc_medium.specs.declared.unit_name.UnitName.{UnitName}
use Rattle.bc_medium.specs.Entries.{caller_of, name_of_entry}
use Rattle.bc_medium.specs.Growth.{lies_in}
use Rattle.bc_medium.specs.LawfulOrders.{entries_of, attempted_on}
use Rattle.bc_medium.specs.Outcome.{Run}
use Rattle.bc_profile.specs.declared.noted.Noted.{Noted}
use Rattle.bc_script.specs.Script.{Script}
use Rattle.bc_script.specs.Plan.{plan_of}
use Rattle.bc_report.specs.Report.{Report}
use Rattle.bc_report.specs.RunOf.{name_in, orders_of, run_of}
use Rattle.bc_report.specs.SerialRun.{NamesHold, NamesHoldUnder, serial_order, IsSerial}
use Rattle.bc_compose.specs.ClosedOrders.{report_line_of}
use Rattle.bc_compose.specs.ComposedRun.{AreSectionsOf, FollowOneAnother, NamesItsHold, AreUses}
use Rattle.bc_compose.proofs.Orders.{at_map, own_order}
use Rattle.bc_compose.proofs.Whole.{few, has_made, the_run, run_is, orders_are, made_of, own_key_is, each_line}
use Rattle.bc_base.proofs.Members.{all_at}

module _ (sizes : UnitsHaveSizes) (blocks : UnitsLieInBlocks) (unrefused : UnrefusedIsAccepted)
    (script : Script) (image : List ℕ) (shards : ℕ) (report : Report) (left : List ℕ) (made : ℕ → List Entry) (orders : List (List Entry)) (journals : List (List Noted))
    (done : AreSectionsOf script image shards report left made orders journals) where
  abbrev callers : ℕ
  callers = length script.threads

  abbrev plan : List (List PlannedUnit)
  plan = plan_of script

  count : length report.shards ≡ shards
  count = ap length done.reported.shards ∙ length-map orders (map report_line_of) ∙ done.shards_closed.one_for_each

  module _ (follow : FollowOneAnother shards callers made orders) where
    -- a thread's part of an order is its attempted units
    part_is : (shard t : ℕ) → shard < shards → t < callers
        → map name_of_entry (filter (lies_in shards shard) (made t)) ≡ attempted_on shards plan script.faults (map (map name_of_entry) orders) shard t
    part_is shard t within there =
        ap (map name_of_entry) (sym ((done.shards_closed.fronts t shard there within).own_entries ∙ (done.sections t there).entries shard within))
        ∙ sym (own_entries_of t (list_at orders shard))
        ∙ ap (entries_of t) (sym (at_map name_of_entry orders shard))
        ∙ own_order script.faults shards callers done.some plan (few sizes blocks unrefused script image shards report left made orders journals done) done.seen made orders done.shards_closed (has_made sizes blocks unrefused script image shards report left made orders journals done) shard t within there
      where
        own_entries_of : (t : ℕ) (es : List Entry) → entries_of t (map name_of_entry es) ≡ map name_of_entry (filter (λ e. e.at.caller == t) es)
        own_entries_of t [] = refl
        own_entries_of t (e ∷ es) =
            elim (e.at.caller == t) as (λ (b : Bool). cond b (name_of_entry e ∷ entries_of t (map name_of_entry es)) (entries_of t (map name_of_entry es)) ≡ map name_of_entry (cond b (e ∷ filter (λ x. x.at.caller == t) es) (filter (λ x. x.at.caller == t) es))) [
              | true ↦ ap (λ l. name_of_entry e ∷ l) (own_entries_of t es)
              | false ↦ own_entries_of t es
            ]

    parts_are : (shard first n : ℕ) → shard < shards → first + n ≤ callers
        → map name_of_entry (flat_map (λ t. filter (lies_in shards shard) (made t)) (range_with_len first n))
        ≡ flat_map (attempted_on shards plan script.faults (map (map name_of_entry) orders) shard) (range_with_len first n)
    parts_are shard first zero within bound = refl
    parts_are shard first (suc n) within bound =
        map-append name_of_entry (filter (lies_in shards shard) (made first)) (flat_map (λ t. filter (lies_in shards shard) (made t)) (range_with_len (first + 1) n))
        ∙ ap (λ l. l ++ map name_of_entry (flat_map (λ t. filter (lies_in shards shard) (made t)) (range_with_len (first + 1) n))) (part_is shard first within (omega arith))
        ∙ ap (λ l. attempted_on shards plan script.faults (map (map name_of_entry) orders) shard first ++ l) (parts_are shard (first + 1) n within (omega arith))

    order_is : (shard : ℕ) → shard < shards → list_at (map (map name_of_entry) orders) shard ≡ serial_order script report shard
    order_is shard within =
        at_map name_of_entry orders shard
        ∙ ap (map name_of_entry) (follow shard within)
        ∙ parts_are shard 0 callers within (omega arith)
        ∙ ap (λ (os : List (List UnitName)). flat_map (attempted_on shards plan script.faults os shard) (range_with_len 0 callers)) (sym (orders_are sizes blocks unrefused script image shards report left made orders journals done))
        ∙ ap (λ (n : ℕ). flat_map (attempted_on n plan script.faults (orders_of report) shard) (range_with_len 0 callers)) (sym count)

    pub orders_in_turn : orders_of report ≡ map (serial_order script report) (range_with_len 0 (length report.shards))
    orders_in_turn =
        orders_are sizes blocks unrefused script image shards report left made orders journals done
        ∙ lists_from_each (serial_order script report) (map (map name_of_entry) orders) 0 (λ i s e lt.
        let same : i ≡ s = omega arith in
        subst (λ n. list_at (map (map name_of_entry) orders) n ≡ serial_order script report s) (sym same)
        (order_is s (let l = length-map orders (map name_of_entry) in let o = done.shards_closed.one_for_each in omega (arith, same))))
        ∙ ap (λ (n : ℕ). map (serial_order script report) (range_with_len 0 n)) (length-map orders (map name_of_entry) ∙ done.shards_closed.one_for_each ∙ sym count)
      where
        lists_from_each : (F : ℕ → List UnitName) (xss : List (List UnitName)) (first : ℕ) → ((i s : ℕ) → first + i ≡ s → i < length xss → list_at xss i ≡ F s)
            → xss ≡ map F (range_with_len first (length xss))
        lists_from_each F [] first each = refl
        lists_from_each F (xs ∷ xss) first each =
            ap (λ l. l ∷ xss) (each 0 first (omega arith) (omega arith))
            ∙ ap (λ l. F first ∷ l) (lists_from_each F xss (first + 1) (λ i s e lt. each (suc i) s (omega arith) (omega arith)))

    module _ (uses : AreUses script callers made journals) where
      -- an entry that names its own hold does so under its unit's key
      holds_are : All (All (λ line. NamesHold script (run_of script image report) (name_in line) line.via)) report.shards
      holds_are =
          subst (λ (run : Run). All (All (λ line. NamesHold script run (name_in line) line.via)) report.shards) (run_is sizes blocks unrefused script image shards report left made orders journals done)
          (each_line sizes blocks unrefused script image shards report left made orders journals done (λ line. NamesHold script (the_run sizes blocks unrefused script image shards report left made orders journals done) (name_in line) line.via)
          (λ s e within at'.
          let m = made_of sizes blocks unrefused script image shards report left made orders journals done s e within at' in
          subst (λ (key : Option ℕ). NamesHoldUnder script key (name_of_entry e) e.via) (sym (own_key_is sizes blocks unrefused script image shards report left made orders journals done s e within at'))
          (all_at (NamesItsHold script) (made (caller_of e)) e (uses.holds (caller_of e) m.0) m.1)))

      pub is_serial : IsSerial script (run_of script image report) report
      is_serial = record {
        section_after_section = orders_in_turn;
        journals = done.reported.devices ∙ uses.journals_are;
        holds = holds_are;
      }
