-- A section asks for no more than its quotas.
use Rattle.std.proofs.Common.{◌≡◌, ℕ, zero, suc, ◌+◌, ◌*◌, ◌≤◌, Bool, true, false, cond, List, [], ◌∷◌, length, map, refl, sym, ap, ◌∙◌, arith}
use Rattle.std.specs.Prelude.{◌==◌, filter, flat_map, is_none, sum_by}
use Rattle.std.specs.List.{enumerate_from, range_with_len}
use Rattle.std.proofs.lemmas.List.{length-append}
use Rattle.std.proofs.lemmas.List.Elements.{filter-append}
use Rattle.std.proofs.lemmas.List.Sums.{sum_by-cons}
use Rattle.bc_key.specs.KeyData.{KeyData}
use Rattle.bc_bio.specs.declared.access.Access.TheVariants as access
use Rattle.bc_bio.specs.declared.extent.Extent.{Extent}
use Rattle.bc_bio.specs.Extent.{unit_sectors}
use Rattle.bc_bio.specs.PlannedUnit.{PlannedUnit}
use Rattle.bc_medium.specs.Layout.{shard_of}
use Rattle.bc_queue.specs.RequestUnits.{count_units_on}
use Rattle.bc_script.specs.declared.op.Op.{Op}
use Rattle.bc_script.specs.declared.op.Op.TheVariants as ops
use Rattle.bc_script.specs.Script.{Script, keys_of}
use Rattle.bc_script.specs.Bios.{is_inline, refusal_of}
use Rattle.bc_script.specs.Plan.{unit_at, units_of, units_of_bio}
use Rattle.bc_report.specs.Counts.{touches_any}
use Rattle.bc_threads.specs.Demand.{entries_asked, events_asked, events_of_one}
use Rattle.bc_threads.specs.Quotas.{unit_quota, units_from}
use Rattle.bc_threads.specs.Quotas.{units_of_op_on as quota_on}

-- the units of a bio that lie in a shard, counted one by one
on_range : (keys : List KeyData) (op : ℕ) (operation : Op) (bio : Extent) (shards shard a m : ℕ) → count_units_on shards shard (map (unit_at keys op operation bio) (range_with_len a m))
    ≡ sum_by (λ i. cond (shard_of shards (bio.sector + i * unit_sectors keys bio.context) == shard) 1 0) (range_with_len a m)
on_range keys op operation bio shards shard a zero = refl
on_range keys op operation bio shards shard a (suc m) =
    one (shard_of shards (bio.sector + a * unit_sectors keys bio.context) == shard) (unit_at keys op operation bio a) (filter (λ u. shard_of shards u.sector == shard) (map (unit_at keys op operation bio) (range_with_len (a + 1) m)))
    ∙ ap (λ (k : ℕ). cond (shard_of shards (bio.sector + a * unit_sectors keys bio.context) == shard) 1 0 + k) (on_range keys op operation bio shards shard (a + 1) m)
    ∙ sym (sum_by-cons (λ i. cond (shard_of shards (bio.sector + i * unit_sectors keys bio.context) == shard) 1 0) a (range_with_len (a + 1) m))
  where
    one : (b : Bool) (u : PlannedUnit) (us : List PlannedUnit) → length (cond b (u ∷ us) us) ≡ cond b 1 0 + length us
    one true u us = omega arith
    one false u us = omega arith

bio_most : (script : Script) (shards shard op : ℕ) (operation : Op) (bio : Extent) → count_units_on shards shard (units_of_bio script op operation bio) ≤ units_from shards shard bio.sector (unit_sectors (keys_of script) bio.context) bio.units
bio_most script shards shard op operation bio = taken (is_none (refusal_of script bio))
  where
    taken : (b : Bool) → count_units_on shards shard (cond b (map (unit_at (keys_of script) op operation bio) (range_with_len 0 bio.units)) []) ≤ units_from shards shard bio.sector (unit_sectors (keys_of script) bio.context) bio.units
    taken true = let same = on_range (keys_of script) op operation bio shards shard 0 bio.units in omega arith
    taken false = omega arith

one_most : (script : Script) (shards shard op : ℕ) (operation : Op) → count_units_on shards shard (units_of script (op, operation)) ≤ quota_on script shards shard operation
one_most script shards shard op (ops.Write context sector units text) = bio_most script shards shard op (ops.Write context sector units text) (record { access = access.Write; context = context; sector = sector; units = units })
one_most script shards shard op (ops.Read context sector units) = bio_most script shards shard op (ops.Read context sector units) (record { access = access.Read; context = context; sector = sector; units = units })
one_most script shards shard op (ops.Evict key) = omega arith
one_most script shards shard op (ops.Reset device) = omega arith
one_most script shards shard op ops.Plug = omega arith
one_most script shards shard op ops.Unplug = omega arith

pub entries_most : (script : Script) (shards shard k : ℕ) (section : List Op) → entries_asked script shards (enumerate_from k section) shard ≤ unit_quota script shards shard section
entries_most script shards shard k [] = omega arith
entries_most script shards shard k (operation ∷ section) =
    both (count_units_on shards shard (units_of script (k, operation))) (count_units_on shards shard (flat_map (units_of script) (enumerate_from (k + 1) section))) (quota_on script shards shard operation) (unit_quota script shards shard section) _ _
    (ap length (filter-append (λ u. shard_of shards u.sector == shard) (units_of script (k, operation)) (flat_map (units_of script) (enumerate_from (k + 1) section)))
    ∙ length-append (filter (λ u. shard_of shards u.sector == shard) (units_of script (k, operation))) (filter (λ u. shard_of shards u.sector == shard) (flat_map (units_of script) (enumerate_from (k + 1) section))))
    (sum_by-cons (quota_on script shards shard) operation section) (one_most script shards shard k operation) (entries_most script shards shard (k + 1) section)
  where
    both : (a b c d s t : ℕ) → s ≡ a + b → t ≡ c + d → a ≤ c → b ≤ d → s ≤ t
    both a b c d s t left right first second = omega arith

at_most : (b : Bool) (n : ℕ) → n ≤ 2 → cond {A = ℕ} b n 0 ≤ 2
at_most true n few = few
at_most false n few = omega arith

two_most : (script : Script) (device op : ℕ) (operation : Op) → events_of_one script device (op, operation) ≤ 2
two_most script device op (ops.Write context sector units text) = at_most (touches_any script device (op, ops.Write context sector units text)) 2 (omega arith)
two_most script device op (ops.Read context sector units) = at_most (touches_any script device (op, ops.Read context sector units)) 2 (omega arith)
two_most script device op (ops.Evict key) = at_most (is_inline script key) 1 (omega arith)
two_most script device op (ops.Reset other) = at_most (other == device) 1 (omega arith)
two_most script device op ops.Plug = at_most (touches_any script device (op, ops.Plug)) 2 (omega arith)
two_most script device op ops.Unplug = at_most (touches_any script device (op, ops.Unplug)) 2 (omega arith)

pub events_most : (script : Script) (device k : ℕ) (section : List Op) → events_asked script (enumerate_from k section) device ≤ 2 * length section
events_most script device k [] = omega arith
events_most script device k (operation ∷ section) =
    both (events_of_one script device (k, operation)) (events_asked script (enumerate_from (k + 1) section) device) (length section) _ (sum_by-cons (events_of_one script device) (k, operation) (enumerate_from (k + 1) section))
    (two_most script device k operation) (events_most script device (k + 1) section)
  where
    both : (a b n s : ℕ) → s ≡ a + b → a ≤ 2 → b ≤ 2 * n → s ≤ 2 * suc n
    both a b n s is first second = omega arith
