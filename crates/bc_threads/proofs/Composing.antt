-- A run by a thread for each section ends: the disk is closed, and the sections make a lawful run.
use Rattle.std.proofs.Common.{◌≡◌, ℕ, suc, ◌+◌, ◌*◌, ◌/◌, ◌<◌, ◌≤◌, true, List, [], ◌∷◌, length, map, refl, sym, ap, subst, ◌∙◌, arith, Option, Some}
use Rattle.std.specs.Prelude.{◌==◌, Contains, slice_get}
use Rattle.std.specs.Option.{option_map_or, option_and_then, unwrap_or}
use Rattle.std.specs.List.{AllByRecursion}
use Rattle.std.proofs.Math.Logic.{⊎_elim}
use Rattle.std.proofs.lemmas.Bool.{eq-eqb, cases_lt}
use Rattle.std.proofs.lemmas.Option.{slice_get_within}
use Rattle.std.proofs.lemmas.List.{length-map}
use Rattle.bc_base.specs.Lists.{At, AllAt, Each, list_at}
use Rattle.bc_base.specs.Story.{own, IsFront}
use Rattle.bc_base.specs.RamStores.{RamData, HaveAllSectors, IsShardOf, owns, contents}
use Rattle.bc_base.specs.Sectors.{Sectors}
use Rattle.bc_key.specs.KeyData.{KeyData}
use Rattle.bc_turn.specs.PassParts.{CellData}
use Rattle.bc_medium.specs.declared.entry.Entry.{Entry}
use Rattle.bc_medium.specs.Layout.{shard_of}
use Rattle.bc_medium.specs.KeyedDisk.{image_sectors, meets_fault}
use Rattle.bc_medium.specs.Entries.{caller_of, left_by}
use Rattle.bc_medium.specs.Medium.{IsEnd, OpeningData, seen_by, shards_of}
use Rattle.bc_medium.specs.ShardOrder.{FailAsPlanned, IsOrder}
use Rattle.bc_profile.specs.declared.event.Event.{Event}
use Rattle.bc_profile.specs.declared.noted.Noted.{Noted}
use Rattle.bc_profile.specs.Passes.{IsClosedStory as IsEndOfSlots, IsOf, SlotFacts}
use Rattle.bc_profile.specs.SlotJournal.{IsLawful}
use Rattle.bc_profile.specs.Story.{author_of, events_of}
use Rattle.bc_ufs.specs.Controllers.{ControllerData}
use Rattle.bc_stack.specs.declared.target.Target.{Target}
use Rattle.bc_script.specs.declared.op.Op.{Op}
use Rattle.bc_script.specs.Script.{Script, keys_of, max_threads}
use Rattle.bc_report.specs.declared.answer.Answer.{Answer}
use Rattle.bc_report.specs.declared.line.Line.{Line}
use Rattle.bc_report.specs.LawfulRun.{HaveLawfulJournals, LawfulButHolders}
use Rattle.bc_report.specs.Report.{Report, IsAnswer, IsEntry, IsEvent, IsPart, IsReport}
use Rattle.bc_compose.specs.SectionDone.{SectionDone}
use Rattle.bc_compose.specs.ClosedOrders.{DevicesClosed, ShardsClosed, StoresClosed, report_line_of}
use Rattle.bc_compose.specs.ComposedRun.{SectionsMakeALawfulRun}
use Rattle.bc_section.specs.Openings.{IsOpening, planned_on}
use Rattle.bc_section.proofs.Lists.{all_by_place, all_slice, at_exists, at_map, at_of_map, at_one, list_at_map, list_at_past}
use Rattle.bc_disk.specs.Disks.{DiskData, IsPassOf, PassData}
use Rattle.bc_disk.specs.Closings.{AreAllPasses, IsClosedDisk, passes_on}
use Rattle.bc_threads.specs.Quotas.{sections_of, unit_row}
use Rattle.bc_threads.specs.Runs.{AreCarriedOut, IsSectionCarriedOut, IsOpenedFor, contents_told}
use Rattle.bc_threads.specs.SharedDevice.{base_on}
use Rattle.bc_threads.proofs.Apart.{any_at, choose, few_from, list_at_is, of_some, two_at, two_long, zip_by_place, zip_length}
use Rattle.bc_threads.proofs.Faults.{empty_behind}
use Rattle.bc_threads.proofs.Opening.{calls_told, is_owned}
use Rattle.bc_threads.proofs.Ready.{shards_are}
use Rattle.bc_base.proofs.Members.{same_tests}
use Rattle.bc_section.proofs.Faults.{not_behind, nothing_behind, fail_at, met_planned, planned_met}

counted : (threads : List (List Op)) → 0 < length threads → length (sections_of threads) ≡ length threads
counted [] some = absurd (omega arith)
counted (section ∷ sections) some = refl

zero_first : (n : ℕ) → n ≡ 0 + n
zero_first n = omega arith

-- what a shard was, and what is left of it
record ShardEnd (script : Script) (image : List ℕ) (n : ℕ) (disk : DiskData RamData) (passes : List (PassData RamData)) (stores : List RamData) (orders : List (List Entry)) (k : ℕ) : Type 0 where
  pub store : RamData
  pub store_at : At stores k store
  pub order : List Entry
  pub order_at : At orders k order
  pub cell : CellData (OpeningData RamData)
  pub cell_at : At disk.queue.medium.turns.cells k cell
  pub opening : IsOpening script image n k cell.base.store
  pub is_order : IsOrder (λ (r : RamData) m. owns r m) contents_told calls_told (λ (r : RamData). r.calls.faults) cell.base.store (Some disk.queue.medium.keys.keys) store order
  pub fronts : Each (λ pass. IsFront caller_of pass.caller (list_at (seen_by pass) k) order) (map (λ pass. pass.units) passes)
  pub strangers : (caller : ℕ) → disk.queue.medium.turns.callers ≤ caller → own caller_of caller order ≡ []

module _ (script : Script) (image : List ℕ) (n : ℕ) (disk : DiskData RamData) (opened passes : List (PassData RamData)) (answers : List (List Answer))
    (is : IsOpenedFor script image n disk opened) (done : AreCarriedOut script disk opened passes answers) where
  shards : shards_of disk.queue.medium ≡ n
  shards = shards_are script image n disk opened is

  rows : length (map (unit_row script n) (sections_of script.threads)) ≡ length (sections_of script.threads)
  rows = length-map (sections_of script.threads) (unit_row script n)

  pass_count : length passes ≡ length (sections_of script.threads)
  pass_count = done.pass_for_each ∙ is.opened.pass_for_each ∙ rows

  callers : disk.queue.medium.turns.callers ≡ length (sections_of script.threads)
  callers = is.opened.callers_are ∙ rows

  pass_at : (t : ℕ) → t < length script.threads → (pass : PassData RamData) × At passes t pass
  pass_at t lt = let count = pass_count in let same = counted script.threads (omega arith) in at_exists passes t (omega arith)

  carried : (t : ℕ) → t < length script.threads → (pass : PassData RamData) → At passes t pass → (before : PassData RamData) × IsSectionCarriedOut script disk t (list_at answers t) before pass
  carried t lt pass at =
      let same = counted script.threads (omega arith) in
      let count = pass_count in
      let each = done.pass_for_each in
      let before = at_exists opened t (omega arith) in
      (before.0, done.each t lt before.0 before.1 pass at)

  is_pass : (k : ℕ) (pass : PassData RamData) → At passes k pass → IsPassOf disk pass × (pass.caller ≡ k)
  is_pass k pass at = cases script.threads refl
    where
      cases : (threads : List (List Op)) → script.threads ≡ threads → IsPassOf disk pass × (pass.caller ≡ k)
      cases [] none = let new = is.opened.are_new k pass (subst (λ l. At l k pass) (done.none none) at) in (new.pass_of, new.caller_is)
      cases (section ∷ sections) some =
          let long : length script.threads ≡ suc (length sections) = ap length some in
          let here = slice_get_within passes k pass at in
          let count = pass_count in
          let same = counted script.threads (omega arith) in
          let lt : k < length script.threads = omega arith in
          let c = carried k lt pass at in (c.1.pass_of, c.1.caller)

  pub all_passes : AreAllPasses disk passes
  all_passes = record {
    are_of = all_by_place (IsPassOf disk) passes (λ k pass at. (is_pass k pass at).0);
    all = λ caller lt.
        let count = pass_count in
        let same = callers in
        let pass = at_exists passes caller (omega arith) in
        any_at (λ pass. pass.caller == caller) passes caller pass.0 pass.1 (eq-eqb pass.0.caller caller (is_pass caller pass.0 pass.1).1);
  }

  units_by : (t : ℕ) (pass : PassData RamData) → At passes t pass → pass.units.caller ≡ t
  units_by t pass at = let p = is_pass t pass at in p.0.pass.number ∙ p.1

  owned_at : (k : ℕ) (store : RamData) → IsShardOf image k n store → (sector : ℕ) → sector < 8 * script.blocks → shard_of n sector ≡ k → owns store sector ≡ true
  owned_at = is_owned script is.rules image n is.some is.few is.whole is.stores is.openings

  abbrev seen : ℕ → List (List Entry)
  seen t = option_map_or (λ (pass : PassData RamData). seen_by pass.units) (slice_get passes t) []

  abbrev noted : ℕ → List (List Noted)
  noted t = option_map_or (λ (pass : PassData RamData). map (λ (p : SlotFacts). p.seen) pass.slots) (slice_get passes t) []

  seen_is : (t : ℕ) (pass : PassData RamData) → At passes t pass → seen t ≡ seen_by pass.units
  seen_is t pass at = ap (λ (o : Option (PassData RamData)). option_map_or (λ (pass : PassData RamData). seen_by pass.units) o []) at

  noted_is : (t : ℕ) (pass : PassData RamData) → At passes t pass → noted t ≡ map (λ (p : SlotFacts). p.seen) pass.slots
  noted_is t pass at = ap (λ (o : Option (PassData RamData)). option_map_or (λ (pass : PassData RamData). map (λ (p : SlotFacts). p.seen) pass.slots) o []) at

  -- what a thread did
  made_done : (t : ℕ) → (made : List Entry) × (t < length script.threads → SectionDone script n (base_on contents_told disk) t (list_at script.threads t) (seen t) (noted t) (list_at answers t) made)
  made_done t = ⊎_elim (λ (lt : t < length script.threads). here lt) (λ (past : length script.threads ≤ t). ([], λ (lt : t < length script.threads). absurd (omega arith))) (cases_lt t (length script.threads))
    where
      here : t < length script.threads → (made : List Entry) × (t < length script.threads → SectionDone script n (base_on contents_told disk) t (list_at script.threads t) (seen t) (noted t) (list_at answers t) made)
      here lt =
          let pass = pass_at t lt in
          let c = carried t lt pass.0 pass.1 in (
            c.1.carries.made,
            λ again.
                subst (λ (l : List (List Entry)). SectionDone script n (base_on contents_told disk) t (list_at script.threads t) l (noted t) (list_at answers t) c.1.carries.made) (sym (seen_is t pass.0 pass.1))
                (subst (λ (l : List (List Noted)). SectionDone script n (base_on contents_told disk) t (list_at script.threads t) (seen_by pass.0.units) l (list_at answers t) c.1.carries.made) (sym (noted_is t pass.0 pass.1))
                (subst (λ (m : ℕ). SectionDone script m (base_on contents_told disk) t (list_at script.threads t) (seen_by pass.0.units) (map (λ (p : SlotFacts). p.seen) pass.0.slots) (list_at answers t) c.1.carries.made) shards c.1.carries.done)),
          )

  abbrev made_of : ℕ → List Entry
  made_of t = (made_done t).0

  base_is : (k : ℕ) (cell : CellData (OpeningData RamData)) → At disk.queue.medium.turns.cells k cell → base_on contents_told disk k ≡ contents cell.base.store
  base_is k cell at = ap (λ (o : Option (CellData (OpeningData RamData))). unwrap_or (option_and_then (λ (cell : CellData (OpeningData RamData)). contents_told cell.base.store) o) (λ sector. [])) at

  module _ (stores : List RamData) (orders : List (List Entry)) (events : List (List Event))
      (closed : IsClosedDisk (λ (r : RamData) m. owns r m) contents_told calls_told (λ (r : RamData). r.calls.faults) disk passes stores orders events) where
    abbrev End : ℕ → RamData → List Entry → Type 0
    End k store order = IsEnd (λ (r : RamData) m. owns r m) contents_told calls_told (λ (r : RamData). r.calls.faults) disk.queue.medium (map (λ pass. pass.units) passes) k store order

    store_count : length stores ≡ n
    store_count = closed.count ∙ shards

    order_count : length orders ≡ n
    order_count = two_long End 0 stores orders closed.ends ∙ store_count

    shard_end : (k : ℕ) → k < n → ShardEnd script image n disk passes stores orders k
    shard_end k inside =
        let stores_long = store_count in
        let orders_long = order_count in
        let cells_long : length disk.queue.medium.turns.cells ≡ n = shards in
        let store = at_exists stores k (omega arith) in
        let order = at_exists orders k (omega arith) in
        let cell = at_exists disk.queue.medium.turns.cells k (omega arith) in
        let end = two_at End stores orders closed.ends k store.0 order.0 store.1 order.1 in
        record {
          store = store.0;
          store_at = store.1;
          order = order.0;
          order_at = order.1;
          cell = cell.0;
          cell_at = cell.1;
          opening = is.openings.each k cell.0.base.store
              (subst (λ (l : List RamData). At l k cell.0.base.store) is.opened.stores_are (at_map (λ (cell : CellData (OpeningData RamData)). cell.base.store) disk.queue.medium.turns.cells k cell.0 cell.1));
          is_order = end.order cell.0 cell.1;
          fronts = end.fronts;
          strangers = end.no_strangers;
        }

    -- the stores can be joined
    pub have_all : HaveAllSectors script.blocks stores
    have_all = record {
      some = let c = store_count in let s = is.some in omega arith;
      each = λ s inside store at.
          let k = shard_of (length stores) s in
          let here = slice_get_within stores k store at in
          let c = store_count in
          let z = shard_end k (omega arith) in
          subst (λ (r : RamData). owns r s ≡ true) (at_one stores k z.store store z.store_at at)
          (z.is_order.owned s ∙ owned_at k z.cell.base.store z.opening.holds s inside (ap (λ (m : ℕ). shard_of m s) (sym c)));
    }

    front_at : (shard : ℕ) (z : ShardEnd script image n disk passes stores orders shard) (t : ℕ) (pass : PassData RamData) → At passes t pass → IsFront caller_of t (list_at (seen_by pass.units) shard) z.order
    front_at shard z t pass at =
        subst (λ (m : ℕ). IsFront caller_of m (list_at (seen_by pass.units) shard) z.order) (units_by t pass at)
        (all_slice (λ pass. IsFront caller_of pass.caller (list_at (seen_by pass) shard) z.order) (map (λ pass. pass.units) passes) t pass.units z.fronts (at_map (λ pass. pass.units) passes t pass at))

    none_by : (shard : ℕ) (z : ShardEnd script image n disk passes stores orders shard) (c : ℕ) → length script.threads ≤ c → own caller_of c z.order ≡ []
    none_by shard z c past = cases script.threads refl
      where
        cases : (threads : List (List Op)) → script.threads ≡ threads → own caller_of c z.order ≡ []
        cases [] none =
            ⊎_elim
            (λ (first : c < 1).
            let count = pass_count in
            let one : length (sections_of script.threads) ≡ 1 = ap (λ l. length (sections_of l)) none in
            let pass = at_exists passes c (omega arith) in
            let new = is.opened.are_new c pass.0 (subst (λ l. At l c pass.0) (done.none none) pass.1) in
            (front_at shard z c pass.0 pass.1).own_entries ∙ ap (own caller_of c) (new.no_entries shard))
            (λ (other : 1 ≤ c).
            let one : length (sections_of script.threads) ≡ 1 = ap (λ l. length (sections_of l)) none in
            let same = callers in z.strangers c (omega arith))
            (cases_lt c 1)
        cases (section ∷ sections) some =
            let long : length script.threads ≡ suc (length sections) = ap length some in
            let count = counted script.threads (omega arith) in
            let same = callers in z.strangers c (omega arith)

    shards_closed : ShardsClosed script.faults n (length script.threads) seen orders
    shards_closed = record {
      one_for_each = order_count;
      fronts = λ caller shard lt inside.
          let z = shard_end shard inside in
          let pass = pass_at caller lt in
          subst (λ (l : List (List Entry)). IsFront caller_of caller (list_at l shard) (list_at orders shard)) (sym (seen_is caller pass.0 pass.1))
          (subst (λ (l : List Entry). IsFront caller_of caller (list_at (seen_by pass.0.units) shard) l) (sym (list_at_is orders shard z.order z.order_at))
          (front_at shard z caller pass.0 pass.1));
      no_strangers = λ shard inside.
          let z = shard_end shard inside in
          subst (Each (λ e. caller_of e < length script.threads)) (sym (list_at_is orders shard z.order z.order_at)) (few_from caller_of z.order (length script.threads) (none_by shard z));
      planned = λ shard place e inside at.
          let z = shard_end shard inside in
          let calls : FailAsPlanned z.cell.base.store.calls.fails 0 z.order = z.is_order.calls.0 in
          let fails = fail_at z.cell.base.store.calls.fails 0 z.order place e calls (subst (λ l. At l place e) (list_at_is orders shard z.order z.order_at) at) in
          let plan : z.cell.base.store.calls.fails ≡ planned_on script.faults shard = ap (λ c. c.fails) z.opening.calls in
          same_tests e.failed (meets_fault script.faults shard place)
          (λ failed. planned_met script.faults shard place (subst (λ l. Contains l place) plan (subst (Contains z.cell.base.store.calls.fails) (sym (zero_first place)) (fails.0 failed))))
          (λ met. fails.1 (subst (Contains z.cell.base.store.calls.fails) (zero_first place) (subst (λ l. Contains l place) (sym plan) (met_planned script.faults shard place met))));
    }

    blocks_of : (k : ℕ) (store : RamData) → IsShardOf image k n store → store.blocks ≡ script.blocks
    blocks_of k store holds = let whole = is.whole in let blocks : store.blocks ≡ length image / 4096 = holds.blocks_are in omega arith

    stores_closed : (left : List ℕ) → length left ≡ 4096 * script.blocks → ((s : ℕ) → s < 8 * script.blocks → AllAt stores (shard_of (length stores) s) (λ store. image_sectors left s ≡ contents store s))
        → StoresClosed script n (base_on contents_told disk) image orders left
    stores_closed left left_long left_is = record {
      opening = λ s.
          let some = is.some in
          let k = shard_of n s in
          let within : k < n = omega arith in
          let z = shard_end k within in
          ap (λ (b : Sectors). b s) (base_is k z.cell z.cell_at)
          ∙ ⊎_elim
          (λ (inside : s < 8 * script.blocks). z.opening.holds.holds s (owned_at k z.cell.base.store z.opening.holds s inside refl))
          (λ (behind : 8 * script.blocks ≤ s).
          not_behind z.cell.base.store script.blocks s (blocks_of k z.cell.base.store z.opening.holds) behind ∙ sym (nothing_behind image script.blocks s is.whole behind))
          (cases_lt s (8 * script.blocks));
      closing = λ s.
          let some = is.some in
          let k = shard_of n s in
          let within : k < n = omega arith in
          let z = shard_end k within in
          let leaves : (s : ℕ) → contents z.store s ≡ left_by disk.queue.medium.keys.keys (contents z.cell.base.store) z.order s = z.is_order.leaves in
          let held : contents z.store s ≡ left_by (keys_of script) (base_on contents_told disk k) (list_at orders k) s =
          leaves s
          ∙ ap (λ (ks : List KeyData). left_by ks (contents z.cell.base.store) z.order s) is.opened.keys_are
          ∙ ap (λ (d : Sectors). left_by (keys_of script) d z.order s) (sym (base_is k z.cell z.cell_at))
          ∙ ap (λ l. left_by (keys_of script) (base_on contents_told disk k) l s) (sym (list_at_is orders k z.order z.order_at)) in
          ⊎_elim
          (λ (inside : s < 8 * script.blocks). left_is s inside z.store (subst (λ (m : ℕ). At stores (shard_of m s) z.store) (sym store_count) z.store_at) ∙ held)
          (λ (behind : 8 * script.blocks ≤ s).
          nothing_behind left script.blocks s left_long behind
          ∙ sym (empty_behind z.store z.cell.base.store script.blocks s (z.is_order.owned s) (blocks_of k z.cell.base.store z.opening.holds) behind) ∙ held)
          (cases_lt s (8 * script.blocks));
      size = left_long ∙ sym is.whole;
    }

    chosen : (stories : List (List Noted)) × (events ≡ map events_of stories)
        × ((device : ℕ) → AllAt disk.queue.controllers device (λ controller. AllAt stories device (λ story. IsEndOfSlots controller.profile (passes_on passes device) story)))
    chosen = choose events_of (λ device controller story. IsEndOfSlots controller.profile (passes_on passes device) story) disk.queue.controllers events closed.one_for_each closed.stories

    abbrev stories : List (List Noted)
    stories = chosen.0

    story_count : length stories ≡ length disk.queue.controllers
    story_count = sym (length-map stories events_of) ∙ ap length (sym chosen.1) ∙ closed.one_for_each

    slots_count : (t : ℕ) (pass : PassData RamData) → At passes t pass → length pass.slots ≡ length disk.queue.controllers
    slots_count t pass at = zip_length (λ (controller : ControllerData) (slots : SlotFacts). IsOf controller.profile slots) disk.queue.controllers pass.slots (is_pass t pass at).0.pass.each

    story_front : (device t : ℕ) (pass : PassData RamData) → At passes t pass → (controller : ControllerData) → At disk.queue.controllers device controller → (story : List Noted) → At stories device story
        → IsFront author_of t (list_at (map (λ (p : SlotFacts). p.seen) pass.slots) device) story
    story_front device t pass at controller cat story sat =
        let here = slice_get_within disk.queue.controllers device controller cat in
        let count = slots_count t pass at in
        let slots = at_exists pass.slots device (omega arith) in
        let end = chosen.2 device controller cat story sat in
        let by : slots.0.caller ≡ t = all_slice (λ (p : SlotFacts). p.caller ≡ pass.caller) pass.slots device slots.0 (is_pass t pass at).0.callers slots.1 ∙ (is_pass t pass at).1 in
        subst (λ (l : List Noted). IsFront author_of t l story) (sym (list_at_map (λ (p : SlotFacts). p.seen) pass.slots device slots.0 slots.1))
        (subst (λ (m : ℕ). IsFront author_of m slots.0.seen story) by
        (of_some (λ (p : PassData RamData). slice_get p.slots device) (λ (p : SlotFacts). IsFront author_of p.caller p.seen story) passes t pass slots.0 at slots.1 end.fronts))

    none_noted : (device : ℕ) (controller : ControllerData) → At disk.queue.controllers device controller → (story : List Noted) → At stories device story → (c : ℕ) → length script.threads ≤ c → own author_of c story ≡ []
    none_noted device controller cat story sat c past = cases script.threads refl
      where
        slot_callers : controller.profile.turns.callers ≡ length (sections_of script.threads)
        slot_callers = all_slice (λ (z : ControllerData). z.profile.turns.callers ≡ length (map (unit_row script n) (sections_of script.threads))) disk.queue.controllers device controller is.opened.slot_callers cat ∙ rows

        cases : (threads : List (List Op)) → script.threads ≡ threads → own author_of c story ≡ []
        cases [] none =
            ⊎_elim
            (λ (first : c < 1).
            let count = pass_count in
            let one : length (sections_of script.threads) ≡ 1 = ap (λ l. length (sections_of l)) none in
            let pass = at_exists passes c (omega arith) in
            let new = is.opened.are_new c pass.0 (subst (λ l. At l c pass.0) (done.none none) pass.1) in
            (story_front device c pass.0 pass.1 controller cat story sat).own_entries ∙ ap (own author_of c) (new.no_events device))
            (λ (other : 1 ≤ c).
            let one : length (sections_of script.threads) ≡ 1 = ap (λ l. length (sections_of l)) none in
            let same = slot_callers in (chosen.2 device controller cat story sat).strangers c (omega arith))
            (cases_lt c 1)
        cases (section ∷ sections) some =
            let long : length script.threads ≡ suc (length sections) = ap length some in
            let count = counted script.threads (omega arith) in
            let same = slot_callers in (chosen.2 device controller cat story sat).strangers c (omega arith)

    lawful_journals : HaveLawfulJournals script.targets (map events_of stories)
    lawful_journals =
        zip_by_place (λ (target : Target) (events : List Event). IsLawful target.slots events) script.targets (map events_of stories)
        (length-map stories events_of ∙ story_count ∙ is.opened.one_for_each ∙ ap length is.opened.targets_are)
        (λ k target tat journal jat.
        let story = at_of_map events_of stories k journal jat in
        let here = slice_get_within stories k story.0 story.1 in
        let count = story_count in
        let controller = at_exists disk.queue.controllers k (omega arith) in
        let end = chosen.2 k controller.0 controller.1 story.0 story.1 in
        subst (λ (l : List Event). IsLawful target.slots l) story.2
        (subst (λ (m : ℕ). IsLawful m (events_of story.0)) (is.opened.slots_are k target tat controller.0 controller.1) end.lawful))

    devices_closed : DevicesClosed script (length script.threads) noted stories
    devices_closed = record {
      fronts = λ caller device lt.
          let pass = pass_at caller lt in
          subst (λ (l : List (List Noted)). IsFront author_of caller (list_at l device) (list_at stories device)) (sym (noted_is caller pass.0 pass.1))
          (⊎_elim
          (λ (inside : device < length disk.queue.controllers).
          let count = story_count in
          let controller = at_exists disk.queue.controllers device inside in
          let story = at_exists stories device (omega arith) in
          subst (λ (l : List Noted). IsFront author_of caller (list_at (map (λ (p : SlotFacts). p.seen) pass.0.slots) device) l) (sym (list_at_is stories device story.0 story.1))
          (story_front device caller pass.0 pass.1 controller.0 controller.1 story.0 story.1))
          (λ (outside : length disk.queue.controllers ≤ device).
          let count = story_count in
          let slots = slots_count caller pass.0 pass.1 in
          let long = length-map pass.0.slots (λ (p : SlotFacts). p.seen) in
          subst (λ (l : List Noted). IsFront author_of caller l (list_at stories device)) (sym (list_at_past (map (λ (p : SlotFacts). p.seen) pass.0.slots) device (omega arith)))
          (subst (λ (l : List Noted). IsFront author_of caller [] l) (sym (list_at_past stories device (omega arith))) (record { begins = ([], refl); own_entries = refl })))
          (cases_lt device (length disk.queue.controllers)));
      no_strangers = λ device.
          ⊎_elim
          (λ (inside : device < length disk.queue.controllers).
          let count = story_count in
          let controller = at_exists disk.queue.controllers device inside in
          let story = at_exists stories device (omega arith) in
          subst (Each (λ e. author_of e < length script.threads)) (sym (list_at_is stories device story.0 story.1)) (few_from author_of story.0 (length script.threads) (none_noted device controller.0 controller.1 story.0 story.1)))
          (λ (outside : length disk.queue.controllers ≤ device).
          let count = story_count in
          subst (Each (λ e. author_of e < length script.threads)) (sym (list_at_past stories device (omega arith))) tt)
          (cases_lt device (length disk.queue.controllers));
      lawful = lawful_journals;
    }

    pub is_report : (lines : List (List Line)) → lines ≡ map (map report_line_of) orders → Each (IsPart IsEntry) lines → Each (IsPart IsEvent) events → IsReport (record { threads = answers; shards = lines; devices = events })
    is_report lines lines_are lines_fit events_fit = record {
      few_threads = let c : length script.threads ≤ max_threads = is.rules.threads.count in let a = done.answered in omega arith;
      few_shards = let few = is.few in let long = ap length lines_are in let mapped = length-map orders (map report_line_of) in let count = order_count in omega arith;
      few_devices = let few = is.rules.devices.stack.few in let one = closed.one_for_each in let count = is.opened.one_for_each in let same = ap length is.opened.targets_are in omega arith;
      answers = all_by_place (AllByRecursion IsAnswer) answers (λ k said at.
          let here = slice_get_within answers k said at in
          let count = done.answered in
          let lt : k < length script.threads = omega arith in
          let pass = pass_at k lt in
          subst (AllByRecursion IsAnswer) (list_at_is answers k said at) (carried k lt pass.0 pass.1).1.carries.ranges);
      entries = lines_fit;
      events = events_fit;
    }

    pub is_lawful : SectionsMakeALawfulRun → (left : List ℕ) → length left ≡ 4096 * script.blocks → ((s : ℕ) → s < 8 * script.blocks → AllAt stores (shard_of (length stores) s) (λ store. image_sectors left s ≡ contents store s))
        → (lines : List (List Line)) → lines ≡ map (map report_line_of) orders → LawfulButHolders script image n (record { threads = answers; shards = lines; devices = events }) left
    is_lawful law left left_long left_is lines lines_are = law script image n (record { threads = answers; shards = lines; devices = events }) left made_of orders stories (record {
      base = base_on contents_told disk;
      seen = seen;
      noted = noted;
      rules = is.rules;
      some = is.some;
      whole = is.whole;
      answered = done.answered;
      sections = λ t lt. (made_done t).1 lt;
      shards_closed = shards_closed;
      stores_closed = stores_closed left left_long left_is;
      devices_closed = devices_closed;
      reported = record { shards = lines_are; devices = chosen.1 };
    })

    -- the same, of what the parts were made to be
    pub is_report_as : (lines : List (List Line)) (journals : List (List Event)) → lines ≡ map (map report_line_of) orders → Each (IsPart IsEntry) lines → journals ≡ events → Each (IsPart IsEvent) journals
        → IsReport (record { threads = answers; shards = lines; devices = journals })
    is_report_as lines journals lines_are lines_fit journals_are journals_fit =
        subst (λ (l : List (List Event)). IsReport (record { threads = answers; shards = lines; devices = l })) (sym journals_are) (is_report lines lines_are lines_fit (subst (Each (IsPart IsEvent)) journals_are journals_fit))

    pub is_lawful_as : (lines : List (List Line)) (journals : List (List Event)) → lines ≡ map (map report_line_of) orders → journals ≡ events → SectionsMakeALawfulRun
        → (left : List ℕ) (lent : List RamData) (blocks : ℕ) → lent ≡ stores → blocks ≡ script.blocks → length left ≡ 4096 * blocks → ((s : ℕ) → s < 8 * blocks → AllAt lent (shard_of (length lent) s) (λ store. image_sectors left s ≡ contents store s))
        → (report : Report) → report ≡ record { threads = answers; shards = lines; devices = journals } → LawfulButHolders script image n report left
    is_lawful_as lines journals lines_are journals_are law left lent blocks lent_is blocks_is left_long left_is report report_is =
        subst (λ (r : Report). LawfulButHolders script image n r left) (sym report_is)
        (subst (λ (l : List (List Event)). LawfulButHolders script image n (record { threads = answers; shards = lines; devices = l }) left) (sym journals_are)
        (is_lawful law left (left_long ∙ ap (λ (b : ℕ). 4096 * b) blocks_is)
        (subst (λ (b : ℕ). (s : ℕ) → s < 8 * b → AllAt stores (shard_of (length stores) s) (λ store. image_sectors left s ≡ contents store s)) blocks_is
        (subst (λ (l : List RamData). (s : ℕ) → s < 8 * blocks → AllAt l (shard_of (length l) s) (λ store. image_sectors left s ≡ contents store s)) lent_is left_is))
        lines lines_are))
