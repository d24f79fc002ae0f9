-- The keyed disk along the names of a shard's order is what its entries leave and tell.
use Rattle.std.proofs.Common.{◌≡◌, ℕ, zero, suc, ◌+◌, ◌<◌, Bool, true, false, cond, List, [], ◌∷◌, ◌++◌, map, refl, sym, ap, subst, ◌∙◌, arith, Option, Some}
use Rattle.std.specs.Prelude.{filter_map, slice_get, zip}
use Rattle.std.specs.List.{AllByRecursion, cons_option}
use Rattle.std.specs.Option.{option_map_or}
use Rattle.bc_bio.specs.declared.access.Access.{Access}
use Rattle.bc_bio.specs.declared.access.Access.TheVariants.{Read, Write}
use Rattle.bc_bio.specs.declared.context.Context.{Context}
use Rattle.bc_bio.specs.Extent.{unit_sectors}
use Rattle.bc_bio.specs.PlannedUnit.{PlannedUnit}
use Rattle.bc_medium.specs.declared.entry.Entry.{Entry}
use Rattle.bc_medium.specs.declared.unit_name.UnitName.{UnitName}
use Rattle.bc_medium.specs.Layout.{shard_of}
use Rattle.bc_medium.specs.KeyedDisk.{Sectors, UnitAnswer, Faulted, Text, bytes_at, with_bytes, enciphered, deciphered, meets_fault, accessed, performed, disk_along, answers_along}
use Rattle.bc_medium.specs.Entries.{name_of_entry, entry_unit, performed_by, left_by, told_by}
use Rattle.bc_medium.specs.Outcome.{Run, unit_named}
use Rattle.bc_medium.specs.Growth.{IsEntryOf}

bytes_at-agree : (a b : Sectors) (first count : ℕ) → ((i : ℕ) → i < count → a (first + i) ≡ b (first + i)) → bytes_at a first count ≡ bytes_at b first count
bytes_at-agree a b first zero same = refl
bytes_at-agree a b first (suc count) same =
    let here : a first ≡ b first = let e : first + 0 ≡ first = omega arith in subst (λ s. a s ≡ b s) e (same 0 (omega arith)) in
    let more : bytes_at a (first + 1) count ≡ bytes_at b (first + 1) count = bytes_at-agree a b (first + 1) count (λ i lt.
    let e : first + suc i ≡ first + 1 + i = omega arith in subst (λ s. a s ≡ b s) e (same (suc i) (omega arith))) in
    ap (λ (l : List ℕ). l ++ bytes_at a (first + 1) count) here ∙ ap (λ (l : List ℕ). b first ++ l) more

module _ (run : Run) (shards shard : ℕ) where
  -- two disks have the same bytes in the shard
  abbrev pub Agree : Sectors → Sectors → Type 0
  Agree a b = (s : ℕ) → shard_of shards s ≡ shard → a s ≡ b s

  abbrev pub LiesIn : PlannedUnit → Type 0
  LiesIn u = (i : ℕ) → i < unit_sectors run.keys u.context → shard_of shards (u.sector + i) ≡ shard

  -- the entry is a unit of the plan, which lies in the shard
  abbrev pub Known : Entry → Type 0
  Known e = (u : PlannedUnit) × (unit_named run (name_of_entry e) ≡ Some u) × IsEntryOf e.at.caller u e × LiesIn u

  -- units that differ in the bytes of a read alone do the same
  same_access : (act : Access) (a b : Sectors) (first : ℕ) (context : Option Context) (u v : PlannedUnit) → u.sector ≡ first → u.context ≡ context → v.sector ≡ first → v.context ≡ context
      → (act ≡ Write → u.bytes ≡ v.bytes) → Agree a b → ((i : ℕ) → i < unit_sectors run.keys context → shard_of shards (first + i) ≡ shard)
      → Agree (accessed act run.keys a u).disk (accessed act run.keys b v).disk × ((accessed act run.keys a u).answer ≡ (accessed act run.keys b v).answer)
  same_access Write a b first context u v us uc vs vc bytes same lies = (
    (λ s p.
        ap (λ (x : List ℕ). with_bytes (λ _. x) u.sector (enciphered run.keys u.context u.bytes) s) (same s p)
        ∙ ap (λ (n : ℕ). with_bytes b n (enciphered run.keys u.context u.bytes) s) (us ∙ sym vs)
        ∙ ap (λ (c : Option Context). with_bytes b v.sector (enciphered run.keys c u.bytes) s) (uc ∙ sym vc)
        ∙ ap (λ (l : List ℕ). with_bytes b v.sector (enciphered run.keys v.context l) s) (bytes refl)),
    refl,
  )
  same_access Read a b first context u v us uc vs vc bytes same lies = (
    same,
    ap (λ (n : ℕ). Text (deciphered run.keys u.context (bytes_at a n (unit_sectors run.keys u.context)))) us
        ∙ ap (λ (c : Option Context). Text (deciphered run.keys c (bytes_at a first (unit_sectors run.keys c)))) uc
        ∙ ap (λ (raw : List ℕ). Text (deciphered run.keys context raw)) (bytes_at-agree a b first (unit_sectors run.keys context) (λ i lt. same (first + i) (lies i lt)))
        ∙ sym (ap (λ (n : ℕ). Text (deciphered run.keys v.context (bytes_at b n (unit_sectors run.keys v.context)))) vs
        ∙ ap (λ (c : Option Context). Text (deciphered run.keys c (bytes_at b first (unit_sectors run.keys c)))) vc),
  )

  same_step : (a b : Sectors) (place : ℕ) (u : PlannedUnit) (e : Entry) → IsEntryOf e.at.caller u e → LiesIn u → e.failed ≡ meets_fault run.faults shard place → Agree a b
      → Agree (performed run.keys run.faults shard place a u).disk (performed_by run.keys b e).disk × ((performed run.keys run.faults shard place a u).answer ≡ (performed_by run.keys b e).answer)
  same_step a b place u e is lies failed same =
      subst (λ (t : Bool). Agree (cond t (record { disk = a; answer = Faulted }) (accessed u.access run.keys a u)).disk (performed_by run.keys b e).disk
      × ((cond t (record { disk = a; answer = Faulted }) (accessed u.access run.keys a u)).answer ≡ (performed_by run.keys b e).answer)) failed
      ((elim e.failed as (λ (t : Bool). e.failed ≡ t → Agree (cond t (record { disk = a; answer = Faulted }) (accessed u.access run.keys a u)).disk (cond t (record { disk = b; answer = Faulted }) (accessed e.access run.keys b (entry_unit e))).disk
      × ((cond t (record { disk = a; answer = Faulted }) (accessed u.access run.keys a u)).answer ≡ (cond t (record { disk = b; answer = Faulted }) (accessed e.access run.keys b (entry_unit e))).answer)) [
        | true ↦ λ _. (same, refl)
        | false ↦ λ went.
            subst (λ (act : Access). Agree (accessed u.access run.keys a u).disk (accessed act run.keys b (entry_unit e)).disk × ((accessed u.access run.keys a u).answer ≡ (accessed act run.keys b (entry_unit e)).answer)) (sym is.access)
            (same_access u.access a b u.sector u.context u (entry_unit e) refl refl (ap (λ x. x.sector) is.unit) (ap (λ x. x.context) is.unit)
            (λ writes. sym (ap (λ (o : Option (List ℕ)). option_map_or (λ bytes. bytes) o []) (is.written went writes))) same lies)
      ]) refl)

  pub along : (a b : Sectors) (place : ℕ) (es : List Entry) → Agree a b → AllByRecursion Known es
      → ((i : ℕ) (e : Entry) → slice_get es i ≡ Some e → e.failed ≡ meets_fault run.faults shard (place + i))
      → Agree (disk_along run.keys run.faults shard place a (filter_map (unit_named run) (map name_of_entry es))) (left_by run.keys b es)
      × (zip (map name_of_entry es) (answers_along run.keys run.faults shard place a (filter_map (unit_named run) (map name_of_entry es))) ≡ told_by run.keys b es)
  along a b place [] same known failed = (same, refl)
  along a b place (e ∷ es) same known failed =
      let u = known.0.0 in
      let us = filter_map (unit_named run) (map name_of_entry es) in
      let now = performed run.keys run.faults shard place a u in
      let then = performed_by run.keys b e in
      let first : place + 0 ≡ place = omega arith in
      let both = same_step a b place u e known.0.2 known.0.3 (failed 0 e refl ∙ ap (meets_fault run.faults shard) first) same in
      let rest = along now.disk then.disk (place + 1) es both.0 known.1
      (λ i x is. failed (suc i) x is ∙ (let n : place + suc i ≡ place + 1 + i = omega arith in ap (meets_fault run.faults shard) n)) in
      subst (λ (o : Option PlannedUnit). Agree (disk_along run.keys run.faults shard place a (cons_option o us)) (left_by run.keys then.disk es)
      × (zip (name_of_entry e ∷ map name_of_entry es) (answers_along run.keys run.faults shard place a (cons_option o us)) ≡ (name_of_entry e, then.answer) ∷ told_by run.keys then.disk es))
      (sym known.0.1) (
        rest.0,
        ap (λ (x : UnitAnswer). (name_of_entry e, x) ∷ zip (map name_of_entry es) (answers_along run.keys run.faults shard (place + 1) now.disk us)) both.1
            ∙ ap (λ (l : List (UnitName × UnitAnswer)). (name_of_entry e, then.answer) ∷ l) rest.1,
      )
