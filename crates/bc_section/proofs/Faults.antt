-- Planned faults: which places of an order are planned to fail, and which calls met one.
use Rattle.std.proofs.Common.{◌≡◌, ℕ, ◌-◌, ◌*◌, ◌/◌, ◌≤◌, Bool, true, false, cond, [], refl, ap, ◌∙◌, arith, ◌+◌, List, ◌∷◌, length, drop, length-drop, length-take, suc, zero, ◌⊎◌, inl, inr, subst, map, sym}
use Rattle.std.specs.Prelude.{◌==◌, ◌&&◌, nat_lt, Contains, ◌↔◌, ◌||◌, filter}
use Rattle.std.proofs.lemmas.Bool.{ltb-true, false_from_ne_true, eqb-true, true≢false, eq-eqb}
use Rattle.bc_base.specs.RamStores.{RamData, contents, sector_within}
use Rattle.bc_medium.specs.Layout.{shard_of}
use Rattle.bc_medium.specs.KeyedDisk.{image_sectors, meets_fault}
use Rattle.std.proofs.lemmas.Option.{none-some, same_Some}
use Rattle.bc_base.specs.Lists.{At}
use Rattle.bc_medium.specs.declared.entry.Entry.{Entry}
use Rattle.bc_medium.specs.ShardOrder.{FailAsPlanned}
use Rattle.bc_section.specs.Openings.{planned_on}
use Rattle.std.proofs.Math.Logic.{⊎_elim}

pub not_behind : (store : RamData) (blocks s : ℕ) → store.blocks ≡ blocks → 8 * blocks ≤ s → contents store s ≡ []
not_behind store blocks s is behind =
    let no : nat_lt (s / 8) store.blocks ≡ false = false_from_ne_true (nat_lt (s / 8) store.blocks) (λ t. let lt = ltb-true (s / 8) store.blocks t in absurd (omega arith)) in
    ap (λ (b : Bool). cond ((shard_of store.shards s == store.shard) && b) (image_sectors store.bytes (sector_within store.shards s)) []) no
    ∙ ap (λ (b : Bool). cond b (image_sectors store.bytes (sector_within store.shards s)) []) (and_false (shard_of store.shards s == store.shard))
  where
    and_false : (b : Bool) → (b && false) ≡ false
    and_false true = refl
    and_false false = refl

-- what lies after the disk
pub nothing_behind : (image : List ℕ) (blocks s : ℕ) → length image ≡ 4096 * blocks → 8 * blocks ≤ s → image_sectors image s ≡ []
nothing_behind image blocks s whole behind =
    let none : length (image_sectors image s) ≡ 0 =
    omega (arith, length-take (512 * s + 512 - 512 * s) (drop (512 * s) image), length-drop (512 * s) image) in
    empty (image_sectors image s) none
  where
    empty : {X : Type 0} (xs : List X) → length xs ≡ 0 → xs ≡ []
    empty [] e = refl
    empty (x ∷ xs) e = absurd (omega arith)

pub contains_next : (x n : ℕ) (xs : List ℕ) → Contains xs n → Contains (x ∷ xs) n
contains_next x n xs c = let lt = c.1 in (suc c.0, omega arith, c.2)

pub contains_parts : (x n : ℕ) (xs : List ℕ) → Contains (x ∷ xs) n → (x ≡ n) ⊎ Contains xs n
contains_parts x n xs (zero, lt, e) = inl e
contains_parts x n xs (suc k, lt, e) = inr (k, omega arith, e)

pub fail_at : (plan : List ℕ) (first : ℕ) (es : List Entry) (place : ℕ) (e : Entry) → FailAsPlanned plan first es → At es place e → (e.failed ≡ true) ↔ Contains plan (first + place)
fail_at plan first [] place e all at = absurd (none-some e at)
fail_at plan first (x ∷ es) zero e all at = subst (λ n. (e.failed ≡ true) ↔ Contains plan n) (none first) (subst (λ (z : Entry). (z.failed ≡ true) ↔ Contains plan first) (same_Some x e at) all.0)
  where
    none : (n : ℕ) → n ≡ n + 0
    none n = omega arith
fail_at plan first (x ∷ es) (suc place) e all at = subst (λ n. (e.failed ≡ true) ↔ Contains plan n) (over first place) (fail_at plan (first + 1) es place e all.1 at)
  where
    over : (n m : ℕ) → n + 1 + m ≡ n + suc m
    over n m = omega arith

pub met_planned : (faults : List (ℕ × ℕ)) (shard place : ℕ) → meets_fault faults shard place ≡ true → Contains (planned_on faults shard) place
met_planned [] shard place e = absurd (true≢false (sym e))
met_planned (f ∷ faults) shard place e =
    let rest : meets_fault faults shard place ≡ true → Contains (planned_on faults shard) place = met_planned faults shard place in
    (elim (f.0 == shard) as (λ (b : Bool). (f.0 == shard) ≡ b → Contains (map (λ fault. fault.1) (filter (λ fault. fault.0 == shard) (f ∷ faults))) place) [
      | true ↦ λ here. subst (λ l. Contains (map (λ fault. fault.1) l) place) (sym (kept here)) (first rest (f.1 == place) refl here)
      | false ↦ λ other. subst (λ l. Contains (map (λ fault. fault.1) l) place) (sym (kept other)) (rest (sym (ap (λ (b : Bool). (b && (f.1 == place)) || meets_fault faults shard place) other) ∙ e))
    ]) refl
  where
    kept : {b : Bool} → (f.0 == shard) ≡ b → filter (λ fault. fault.0 == shard) (f ∷ faults) ≡ cond b (f ∷ filter (λ fault. fault.0 == shard) faults) (filter (λ fault. fault.0 == shard) faults)
    kept e = ap (λ (b : Bool). cond b (f ∷ filter (λ fault. fault.0 == shard) faults) (filter (λ fault. fault.0 == shard) faults)) e

    first : (meets_fault faults shard place ≡ true → Contains (planned_on faults shard) place) → (b : Bool) → (f.1 == place) ≡ b → (f.0 == shard) ≡ true → Contains (f.1 ∷ planned_on faults shard) place
    first rest true is here = (0, omega arith, eqb-true f.1 place is)
    first rest false is here =
        contains_next f.1 place (planned_on faults shard) (rest
        (sym (ap (λ (b : Bool). (b && (f.1 == place)) || meets_fault faults shard place) here ∙ ap (λ (b : Bool). b || meets_fault faults shard place) is) ∙ e))

pub planned_met : (faults : List (ℕ × ℕ)) (shard place : ℕ) → Contains (planned_on faults shard) place → meets_fault faults shard place ≡ true
planned_met [] shard place c = let lt = c.1 in absurd (omega arith)
planned_met (f ∷ faults) shard place c =
    (elim (f.0 == shard) as (λ (b : Bool). (f.0 == shard) ≡ b → meets_fault (f ∷ faults) shard place ≡ true) [
      | true ↦ λ here. ⊎_elim
          (λ (e : f.1 ≡ place). ap (λ (b : Bool). (b && (f.1 == place)) || meets_fault faults shard place) here ∙ ap (λ (b : Bool). b || meets_fault faults shard place) (eq-eqb f.1 place e))
          (λ (more : Contains (planned_on faults shard) place). or_right ((f.0 == shard) && (f.1 == place)) (planned_met faults shard place more))
          (contains_parts f.1 place (planned_on faults shard) (subst (λ l. Contains (map (λ fault. fault.1) l) place) (kept here) c))
      | false ↦ λ other. or_right ((f.0 == shard) && (f.1 == place)) (planned_met faults shard place (subst (λ l. Contains (map (λ fault. fault.1) l) place) (passed other) c))
    ]) refl
  where
    or_right : (a : Bool) {b : Bool} → b ≡ true → (a || b) ≡ true
    or_right true e = refl
    or_right false e = e

    kept : (f.0 == shard) ≡ true → filter (λ fault. fault.0 == shard) (f ∷ faults) ≡ f ∷ filter (λ fault. fault.0 == shard) faults
    kept e = ap (λ (b : Bool). cond b (f ∷ filter (λ fault. fault.0 == shard) faults) (filter (λ fault. fault.0 == shard) faults)) e

    passed : (f.0 == shard) ≡ false → filter (λ fault. fault.0 == shard) (f ∷ faults) ≡ filter (λ fault. fault.0 == shard) faults
    passed e = ap (λ (b : Bool). cond b (f ∷ filter (λ fault. fault.0 == shard) faults) (filter (λ fault. fault.0 == shard) faults)) e
