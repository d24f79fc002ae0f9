-- Where each thread's data units lie in blocks of its own, all lawful orders leave one image: that of the units of all
-- threads, thread after thread.
use Rattle.std.proofs.Common.{◌≡◌, ℕ, ◌%◌, ◌/◌, ◌<◌, ◌≤◌, Bool, false, List, [], map, length, refl, sym, ap, ◌∙◌, arith, Some, IfSome}
use Rattle.std.specs.Prelude.{◌==◌, filter, filter_map, flat_map, find}
use Rattle.std.proofs.lemmas.Bool.{eq-eqb, eqb-true, eqb-false, false_from_ne_true}
use Rattle.std.proofs.lemmas.Nat.{mod_below}
use Rattle.std.proofs.lemmas.Option.{IfSome_then}
use Rattle.bc_base.specs.Lists.{Each, list_at}
use Rattle.bc_base.specs.Layout.{block_of, shard_of}
use Rattle.bc_key.specs.KeyData.{KeyData}
use Rattle.bc_bio.specs.PlannedUnit.{PlannedUnit}
use Rattle.bc_medium.specs.declared.unit_name.UnitName.{UnitName}
use Rattle.bc_medium.specs.KeyedDisk.{Sectors, image_sectors, bytes_at, disk_along}
use Rattle.bc_medium.specs.LawfulOrders.{LawfulOrders, unit_name_of, is_attempted, entries_of}
use Rattle.bc_medium.specs.Outcome.{Run, is_named, unit_named, units_on, disk_of, final_image}
use Rattle.bc_made.proofs.Along.{StaysIn, along_block, lies_at}
use Rattle.bc_made.proofs.Lists.{each_filter, each_filter_map, each_flat, each_weaker, filter_all, filter_flat, filter_map_names, filter_map_within, filter_within, found}
use Rattle.bc_made.proofs.Names.{Rising, finds_each}

-- the unit lies in a block of this thread, and changes no sector of another block
pub record IsOwn (keys : List KeyData) (home : ℕ → ℕ) (thread : ℕ) (u : PlannedUnit) : Type 0 where
  pub at_home : home (block_of u.sector) ≡ thread
  pub stays : StaysIn keys u

-- each thread's units are such, and its operations' numbers rise
pub record IsOwnPlan (keys : List KeyData) (home : ℕ → ℕ) (thread : ℕ) (units : List PlannedUnit) : Type 0 where
  pub own : Each (IsOwn keys home thread) units
  pub rising : Rising 0 units

module _ (keys : List KeyData) (image : List ℕ) (plan : List (List PlannedUnit)) (orders : List (List UnitName)) (shards : ℕ) (some : 1 ≤ shards)
    (lawful : LawfulOrders shards plan [] orders) (home : ℕ → ℕ) (owned : (t : ℕ) → IsOwnPlan keys home t (list_at plan t)) where
  abbrev pub quiet_run : Run
  quiet_run = record { image = image; keys = keys; plan = plan; faults = []; orders = orders }

  -- what a name finds is a unit of its thread
  named_own : (name : UnitName) → IfSome (unit_named quiet_run name) (IsOwn keys home name.thread)
  named_own name = found (IsOwn keys home name.thread) (is_named name) (list_at plan name.thread) (owned name.thread).own

  named_stays : (name : UnitName) → IfSome (unit_named quiet_run name) (StaysIn keys)
  named_stays name =
      IfSome_then (unit_named quiet_run name) {P = IsOwn keys home name.thread} {Q = StaysIn keys} (named_own name) (λ u own. own.stays)

  -- a unit of another thread lies in another block
  elsewhere : (block thread : ℕ) (u : PlannedUnit) → (thread ≡ home block → ⊥) → IsOwn keys home thread u → lies_at block u ≡ false
  elsewhere block thread u other own =
      false_from_ne_true (lies_at block u) (λ here. other (sym own.at_home ∙ ap home (eqb-true (block_of u.sector) block here)))

  -- the units of a block in its shard's order are those of the thread that has the block, as it issued them
  module _ (shard block : ℕ) (within : shard < shards) (in_shard : block % shards ≡ shard) where
    abbrev order : List UnitName
    order = list_at orders shard

    abbrev thread : ℕ
    thread = home block

    abbrev issued : List PlannedUnit
    issued = list_at plan thread

    abbrev on_shard : PlannedUnit → Bool
    on_shard = λ u. shard_of shards u.sector == shard

    by_thread : filter (lies_at block) (units_on quiet_run shard) ≡ filter (lies_at block) (filter_map (unit_named quiet_run) (entries_of thread order))
    by_thread =
        filter_map_within (lies_at block) (λ name. name.thread == home block) (unit_named quiet_run)
        (λ name other. IfSome_then (unit_named quiet_run name) {P = IsOwn keys home name.thread} {Q = λ u. lies_at block u ≡ false} (named_own name)
        (λ u own. elsewhere block name.thread u (eqb-false name.thread (home block) other) own))
        (list_at orders shard)

    entries_are : entries_of thread order ≡ map (unit_name_of thread) (filter on_shard issued)
    entries_are =
        lawful.as_issued shard (home block) within
        ∙ filter_all (is_attempted []) (λ name. refl) (map (unit_name_of (home block)) (filter (λ u. shard_of shards u.sector == shard) (list_at plan (home block))))

    found_again : filter_map (unit_named quiet_run) (map (unit_name_of thread) (filter on_shard issued)) ≡ filter on_shard issued
    found_again =
        let on : PlannedUnit → Bool = λ u. shard_of shards u.sector == shard in
        filter_map_names (unit_named quiet_run) (unit_name_of (home block)) (filter on (list_at plan (home block)))
        (each_filter (λ u. find (is_named (unit_name_of (home block) u)) (list_at plan (home block)) ≡ Some u) on (list_at plan (home block))
        (finds_each (home block) 0 (list_at plan (home block)) (owned (home block)).rising))

    no_other_shard : filter (lies_at block) (filter on_shard issued) ≡ filter (lies_at block) issued
    no_other_shard =
        filter_within (lies_at block) (λ u. shard_of shards u.sector == shard)
        (λ u here. eq-eqb (shard_of shards u.sector) shard (ap (λ (b : ℕ). b % shards) (eqb-true (block_of u.sector) block here) ∙ in_shard))
        (list_at plan (home block))

    pub units_in_block : filter (lies_at block) (units_on quiet_run shard) ≡ filter (lies_at block) (list_at plan (home block))
    units_in_block =
        by_thread
        ∙ ap (λ (names : List UnitName). filter (lies_at block) (filter_map (unit_named quiet_run) names)) entries_are
        ∙ ap (filter (lies_at block)) found_again
        ∙ no_other_shard

  -- and so are those of the block among all units
  pub units_in_turn : (block : ℕ) → filter (lies_at block) (flat_map (λ units. units) plan) ≡ filter (lies_at block) (list_at plan (home block))
  units_in_turn block =
      filter_flat (lies_at block) plan (home block)
      (λ t other. each_weaker (IsOwn keys home t) (λ u. lies_at block u ≡ false) (λ u own. elsewhere block t u other own) (list_at plan t) (owned t).own)

  -- each sector
  sector_is : (s : ℕ) → disk_of quiet_run (shard_of (length orders) s) s ≡ disk_along keys [] 0 0 (image_sectors image) (flat_map (λ units. units) plan) s
  sector_is s =
      let shard = shard_of shards s in
      let block = block_of s in
      let first = image_sectors image in
      ap (λ (m : ℕ). disk_of quiet_run (shard_of m s) s) lawful.one_for_each_shard
      ∙ along_block keys s (units_on quiet_run shard) (each_filter_map (StaysIn keys) (unit_named quiet_run) named_stays (list_at orders shard)) shard 0 0 0 first first refl
      ∙ ap (λ (us : List PlannedUnit). disk_along keys [] 0 0 first us s)
      (units_in_block shard block (mod_below block shards (omega arith)) refl ∙ sym (units_in_turn block))
      ∙ sym (along_block keys s (flat_map (λ units. units) plan)
      (each_flat (StaysIn keys) plan (λ t. each_weaker (IsOwn keys home t) (StaysIn keys) (λ u own. own.stays) (list_at plan t) (owned t).own)) 0 0 0 0 first first refl)

  pub one_image : final_image quiet_run ≡ bytes_at (disk_along keys [] 0 0 (image_sectors image) (flat_map (λ units. units) plan)) 0 (length image / 512)
  one_image = ap (λ (disk : Sectors). bytes_at disk 0 (length image / 512)) (λ i s. sector_is s i)
