-- From what each thread knows when its section is done, and what the closed shards tell: the run that the report is of, and
-- its orders, answers, image and ways.
use Rattle.std.proofs.Common.{◌≡◌, ℕ, zero, suc, ◌+◌, ◌*◌, ◌/◌, ◌<◌, true, List, [], ◌∷◌, length, map, refl, sym, ap, subst, ◌∙◌, arith, Option, Some, None}
use Rattle.std.specs.Prelude.{◌==◌, filter, All, MatchOption, IsSomeAnd, option_and_then}
use Rattle.std.specs.List.{AllZip, enumerate_from}
use Rattle.std.specs.Option.{option_map, option_map_or}
use Rattle.std.proofs.lemmas.List.{length-map}
use Rattle.std.proofs.lemmas.List.Elements.{All-from_recursion}
use Rattle.bc_base.specs.Lists.{list_at}
use Rattle.bc_bio.specs.declared.access.Access.TheVariants.{Read, Write}
use Rattle.bc_bio.specs.declared.context.Context.{Context}
use Rattle.bc_bio.specs.declared.refusal.Refusal.{Refusal}
use Rattle.bc_bio.specs.declared.extent.Extent.{Extent}
use Rattle.bc_bio.specs.Extent.{unit_sectors}
use Rattle.bc_bio.specs.PlannedUnit.{PlannedUnit}
use Rattle.bc_bio.specs.Laws.{UnitsHaveSizes, UnitsLieInBlocks, UnrefusedIsAccepted}
use Rattle.bc_medium.specs.declared.entry.Entry.{Entry}
use Rattle.bc_medium.specs.declared.unit_name.UnitName.{UnitName}
use Rattle.bc_medium.specs.Layout.{shard_of}
use Rattle.bc_medium.specs.KeyedDisk.{Sectors}
use Rattle.bc_medium.specs.Entries.{caller_of, name_of_entry}
use Rattle.bc_medium.specs.Growth.{attempted_by, failed_names, IsEntryOf, lies_in}
use Rattle.bc_medium.specs.LawfulOrders.{LawfulOrders}
use Rattle.bc_medium.specs.Outcome.{Run, final_image, bio_answer, BioAnswer}
use Rattle.bc_profile.specs.declared.noted.Noted.{Noted}
use Rattle.bc_script.specs.declared.op.Op.{Op}
use Rattle.bc_script.specs.declared.op.Op.TheVariants as ops
use Rattle.bc_script.specs.Script.{Script, keys_of}
use Rattle.bc_script.specs.Bios.{refusal_of}
use Rattle.bc_script.specs.Plan.{plan_of, units_of, units_of_section}
use Rattle.bc_script.specs.Way.{way_of}
use Rattle.bc_report.specs.declared.answer.Answer.{Answer}
use Rattle.bc_report.specs.declared.answer.Answer.TheVariants as answers
use Rattle.bc_report.specs.declared.line.Line.{Line}
use Rattle.bc_report.specs.Report.{Report}
use Rattle.bc_report.specs.RunOf.{name_in, orders_of, run_of, own_key}
use Rattle.bc_report.specs.Answers.{answer_of_outcome, answer_of_bio, IsAnswerTo, AreAnswersTo, HasAnswers}
use Rattle.bc_report.specs.Ways.{way_in, HasWay, HaveWays}
use Rattle.bc_compose.specs.SectionDone.{key_of_entry, IsReply, IsBioAnswer, SaysItsWay}
use Rattle.bc_compose.specs.ClosedOrders.{report_line_of}
use Rattle.bc_compose.specs.ComposedRun.{AreSectionsOf}
use Rattle.bc_compose.proofs.Flat.{zip_from_each, zip_weaker, stands_at}
use Rattle.bc_compose.proofs.Names.{Apart}
use Rattle.bc_compose.proofs.Distinct.{Distinct}
use Rattle.bc_compose.proofs.Units.{apart_section, own_units, ops_of}
use Rattle.bc_compose.proofs.Placed.{one_shard}
use Rattle.bc_compose.proofs.Along.{Known}
use Rattle.bc_compose.proofs.Orders.{HasMade, lawful_orders, made_by, stands}
use Rattle.bc_compose.proofs.Answered.{known, distinct_made, bio_answered, image_left}
use Rattle.bc_base.proofs.Members.{map-map, In, in_of_map, all_at, all_from_in}

module _ (sizes : UnitsHaveSizes) (blocks : UnitsLieInBlocks) (unrefused : UnrefusedIsAccepted)
    (script : Script) (image : List ℕ) (shards : ℕ) (report : Report) (left : List ℕ) (made : ℕ → List Entry) (orders : List (List Entry)) (journals : List (List Noted))
    (done : AreSectionsOf script image shards report left made orders journals) where
  abbrev pub callers : ℕ
  callers = length script.threads

  abbrev pub plan : List (List PlannedUnit)
  plan = plan_of script

  abbrev pub seen : ℕ → List (List Entry)
  seen = done.seen

  abbrev pub base : ℕ → Sectors
  base = done.base

  plan_at : (t : ℕ) → list_at plan t ≡ units_of_section script (list_at script.threads t)
  plan_at t = go script.threads t
    where
      go : (sections : List (List Op)) (t : ℕ) → list_at (map (units_of_section script) sections) t ≡ units_of_section script (list_at sections t)
      go [] t = refl
      go (section ∷ sections) zero = refl
      go (section ∷ sections) (suc t) = go sections t

  pub few : length plan ≡ callers
  few = length-map script.threads (units_of_section script)

  pub has_made : (t : ℕ) → t < callers → HasMade shards t (list_at plan t) (seen t) (made t)
  has_made t there = record {
    attempts = subst (λ us. AllZip (IsEntryOf t) (attempted_by t (failed_names (made t)) us) (made t)) (sym (plan_at t)) (done.sections t there).attempts;
    entries = (done.sections t there).entries;
  }

  pub apart : (t : ℕ) → t < callers → Apart (list_at plan t)
  apart t there = subst Apart (sym (plan_at t)) (apart_section script (list_at script.threads t))

  pub one : (t : ℕ) (u : PlannedUnit) → t < callers → In u (list_at plan t) → (i : ℕ) → i < unit_sectors (keys_of script) u.context
      → shard_of shards (u.sector + i) ≡ shard_of shards u.sector
  one t u there at' = one_shard sizes blocks unrefused script done.rules shards t u there (subst (In u) (plan_at t) at')

  -- the run along the entries
  abbrev pub the_run : Run
  the_run = record { image = image; keys = keys_of script; plan = plan_of script; faults = script.faults; orders = map (map name_of_entry) orders }

  pub orders_are : orders_of report ≡ map (map name_of_entry) orders
  orders_are =
      ap (map (map name_in)) done.reported.shards
      ∙ map-map (map report_line_of) (map name_in) orders
      ∙ (λ i. map (λ order. map-map report_line_of name_in order i) orders)

  pub run_is : the_run ≡ run_of script image report
  run_is = ap (λ (os : List (List UnitName)). record { image = image; keys = keys_of script; plan = plan_of script; faults = script.faults; orders = os }) (sym orders_are)

  -- ---- orders, answers, image

  pub orders_hold : LawfulOrders shards plan script.faults (orders_of report)
  orders_hold = subst (LawfulOrders shards plan script.faults) (sym orders_are) (lawful_orders script.faults shards callers done.some plan few seen made orders done.shards_closed has_made)

  reply_holds : (t op : ℕ) (operation : Op) (bio : Extent) (answer : Answer) → t < callers → In (op, operation) (enumerate_from 0 (list_at script.threads t))
      → MatchOption (refusal_of script bio) ((b : BioAnswer) × IsBioAnswer script shards base t (seen t) bio.access (units_of script (op, operation)) b × (answer ≡ answer_of_outcome b)) (λ refusal. answer ≡ answers.Refused refusal)
      → answer ≡ answer_of_bio script the_run t op bio
  reply_holds t op operation bio answer there at' =
      elim (refusal_of script bio) as (λ (o : Option Refusal).
      MatchOption o ((b : BioAnswer) × IsBioAnswer script shards base t (seen t) bio.access (units_of script (op, operation)) b × (answer ≡ answer_of_outcome b)) (λ refusal. answer ≡ answers.Refused refusal)
      → answer ≡ option_map_or answers.Refused o (answer_of_outcome (bio_answer the_run bio.access t op))) [
        | None ↦ λ is.
            is.2 ∙ ap answer_of_outcome
            (bio_answered script script.faults shards callers done.some plan few seen made orders done.shards_closed has_made image base done.stores_closed.opening apart one t op bio.access (units_of script (op, operation)) is.0 there
            (ap (filter (λ u. u.tag == op)) (plan_at t) ∙ own_units script 0 (list_at script.threads t) (op, operation) at')
            (ops_of script op operation) is.1)
        | Some refusal ↦ λ is. is
      ]

  is_answer : (t op : ℕ) (operation : Op) (answer : Answer) → t < callers → In (op, operation) (enumerate_from 0 (list_at script.threads t))
      → IsReply script shards base t (seen t) (op, operation) answer → IsAnswerTo script the_run t (op, operation) answer
  is_answer t op (ops.Write context sector units text) answer there at' is =
      reply_holds t op (ops.Write context sector units text) (record { access = Write; context = context; sector = sector; units = units }) answer there at' is
  is_answer t op (ops.Read context sector units) answer there at' is =
      reply_holds t op (ops.Read context sector units) (record { access = Read; context = context; sector = sector; units = units }) answer there at' is
  is_answer t op (ops.Evict key) answer there at' is = is
  is_answer t op (ops.Reset device) answer there at' is = is
  is_answer t op ops.Plug answer there at' is = is
  is_answer t op ops.Unplug answer there at' is = is

  pub answers_hold : HasAnswers script (run_of script image report) report.threads
  answers_hold =
      subst (λ (run : Run). HasAnswers script run report.threads) run_is
      (zip_from_each (AreAnswersTo script the_run) 0 script.threads report.threads done.answered
      (λ i t e lt.
      let same : i ≡ t = omega arith in
      subst (λ n. AllZip (IsAnswerTo script the_run t) (enumerate_from 0 (list_at script.threads n)) (list_at report.threads n)) (sym same)
      (let there : t < callers = omega arith in
      zip_weaker (IsReply script shards base t (seen t)) (IsAnswerTo script the_run t) (enumerate_from 0 (list_at script.threads t)) (list_at report.threads t)
      (λ x answer at' is. is_answer t x.0 x.1 answer there at' is) (done.sections t there).answers)))

  long : length image ≡ 512 * (length image / 512)
  long =
      let n : 4096 * script.blocks ≡ 512 * (8 * script.blocks) = omega arith in
      omega (arith, done.whole)

  pub image_holds : left ≡ final_image (run_of script image report)
  image_holds =
      image_left script script.faults shards callers done.some plan few seen made orders done.shards_closed has_made image base done.stores_closed.opening apart one left done.stores_closed (done.stores_closed.size ∙ long)
      ∙ ap final_image run_is

  -- ---- an entry of the orders

  entry_known : (s : ℕ) (e : Entry) → s < shards → In e (list_at orders s) → Known the_run shards s e
  entry_known s e within at' = known script script.faults shards callers done.some plan few seen made orders done.shards_closed has_made image base done.stores_closed.opening apart one s e within at'

  -- the thread that made it
  pub made_of : (s : ℕ) (e : Entry) → s < shards → In e (list_at orders s) → (caller_of e < callers) × In e (made (caller_of e))
  made_of s e within at' =
      let m = made_by script.faults shards callers done.some plan few seen made orders done.shards_closed has_made s e within at' in
      (m.0, m.1)

  -- the key of its unit
  pub own_key_is : (s : ℕ) (e : Entry) → s < shards → In e (list_at orders s) → own_key the_run (name_of_entry e) ≡ key_of_entry e
  own_key_is s e within at' =
      let k = entry_known s e within at' in
      ap (option_and_then (λ (u : PlannedUnit). option_map (λ (context : Context). context.key.0) u.context)) k.1
      ∙ ap (option_map (λ (context : Context). context.key.0)) (sym (ap (λ x. x.context) k.2.unit))

  -- what a thread made stands in the order of its shard
  pub stands_there : (t : ℕ) (e : Entry) → t < callers → In e (made t) → (s : ℕ) → s < shards → lies_in shards s e ≡ true → In e (list_at orders s)
  stands_there t e there at' s within lies = stands script.faults shards callers done.some plan few seen made orders done.shards_closed has_made t e there at' s within lies

  -- no two of its entries have one name
  pub made_distinct : (t : ℕ) → t < callers → Distinct name_of_entry (made t)
  made_distinct t there = distinct_made script script.faults shards callers done.some plan few seen made orders done.shards_closed has_made image base done.stores_closed.opening apart one t there

  -- what holds of the line of each entry holds of each line
  pub each_line : (P : Line → Type 0) → ((s : ℕ) (e : Entry) → s < shards → In e (list_at orders s) → P (report_line_of e)) → All (All P) report.shards
  each_line P f =
      subst (All (All P)) (sym done.reported.shards)
      (All-from_recursion (All P) (map (map report_line_of) orders)
      (all_from_in (All P) (map (map report_line_of) orders)
      (λ lines at'.
      let r = in_of_map (map report_line_of) orders lines at' in
      let l = stands_at orders r.0 r.1 in
      subst (All P) r.2
      (All-from_recursion P (map report_line_of r.0)
      (all_from_in P (map report_line_of r.0)
      (λ line at''.
      let e = in_of_map report_line_of r.0 line at'' in
      subst P e.2 (f l.0 e.0 (subst (λ n. l.0 < n) done.shards_closed.one_for_each l.1) (subst (In e.0) (sym l.2) e.1))))))))

  -- ---- ways

  -- an entry of the orders says its way
  entry_way : (s : ℕ) (e : Entry) → s < shards → In e (list_at orders s) → SaysItsWay script e
  entry_way s e within at' =
      let m = made_of s e within at' in
      all_at (SaysItsWay script) (made e.at.caller) e (done.sections e.at.caller m.0).ways m.1

  pub ways_hold : HaveWays script (run_of script image report) report.shards
  ways_hold =
      subst (λ (run : Run). HaveWays script run report.shards) run_is
      (each_line (HasWay script the_run)
      (λ s e within at'.
      let k = entry_known s e within at' in
      subst (λ (o : Option PlannedUnit). IsSomeAnd o (λ u. way_in e.via ≡ way_of script u.context u.sector)) (sym k.1)
      (entry_way s e within at' ∙ ap (λ x. way_of script x.context x.sector) k.2.unit)))
