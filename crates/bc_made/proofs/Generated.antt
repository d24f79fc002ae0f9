-- The data units of a generated script: each thread's lie in 64 blocks of its own, and no bio is refused for lack of a
-- device, so that the number of keyslots plays no part.
use Rattle.std.proofs.Common.{◌≡◌, ℕ, zero, suc, ◌+◌, ◌-◌, ◌*◌, ◌/◌, ◌%◌, ◌≤◌, Bool, true, false, cond, ◌&&◌, List, [], ◌∷◌, ◌++◌, map, length, refl, sym, ap, ◌∙◌, subst, arith, Option, Some, None}
use Rattle.std.specs.Prelude.{◌==◌, flat_map, is_none, nat_le, nat_lt, slice_range}
use Rattle.std.specs.List.{range_with_len, enumerate_from}
use Rattle.std.specs.Option.{option_map_or}
use Rattle.std.proofs.Math.Logic.{⊎_elim}
use Rattle.std.proofs.Math.ListN.{length-replicate}
use Rattle.std.proofs.lemmas.Bool.{and_parts, eq-eqb, false_from_ne_true, leb-true, ltb-true, or_right, true≢false}
use Rattle.std.proofs.lemmas.Nat.{mod_below}
use Rattle.bc_base.specs.Lists.{Each, list_at}
use Rattle.bc_base.specs.Layout.{block_of}
use Rattle.bc_base.proofs.Lists.{each_append}
use Rattle.bc_key.specs.DataUnits.{IsUnitSize}
use Rattle.bc_key.specs.KeyData.{KeyData}
use Rattle.bc_key.specs.KeyList.{key_at}
use Rattle.bc_modes.specs.Laws.{EncipheringKeepsLength}
use Rattle.bc_modes.specs.UnitCipher.{enc}
use Rattle.bc_bio.specs.declared.access.Access.{Access}
use Rattle.bc_bio.specs.declared.access.Access.TheVariants.{Read, Write}
use Rattle.bc_bio.specs.declared.context.Context.{Context}
use Rattle.bc_bio.specs.declared.extent.Extent.{Extent}
use Rattle.bc_bio.specs.declared.refusal.Refusal.{Refusal}
use Rattle.bc_bio.specs.declared.refusal.Refusal.TheVariants as refusals
use Rattle.bc_bio.specs.declared.refusal.BioError.{BioError}
use Rattle.bc_bio.specs.Check.{check_of}
use Rattle.bc_bio.specs.Extent.{unit_sectors}
use Rattle.bc_bio.specs.Laws.{UnitsHaveSizes}
use Rattle.bc_bio.specs.PlannedUnit.{PlannedUnit}
use Rattle.bc_medium.specs.KeyedDisk.{accessed, enciphered}
use Rattle.bc_stack.specs.declared.target.Target.{Target}
use Rattle.bc_script.specs.declared.op.Op.{Op}
use Rattle.bc_script.specs.Bios.{bio_of, is_inline, refusal_of, unsupported_of}
use Rattle.bc_script.specs.GeneratedScript.{generated_byte, generated_context, generated_pair, generated_read, generated_section, generated_sector, generated_threads, generated_write}
use Rattle.bc_script.specs.Plan.{plan_of, unit_at, units_of, units_of_bio, units_of_section}
use Rattle.bc_script.specs.Script.{Script, keys_of, sectors_in}
use Rattle.bc_made.proofs.Along.{StaysIn}
use Rattle.bc_made.proofs.Lists.{at_range}
use Rattle.bc_made.proofs.Names.{Rising, lower}
use Rattle.bc_made.proofs.OneImage.{IsOwn, IsOwnPlan}

-- the thread that has a block
abbrev pub home_of : ℕ → ℕ
home_of block = block / 64

-- ---- one data unit

at_most_eight : (k : ℕ) → IsUnitSize k → k ≤ 8
at_most_eight k size =
    ⊎_elim (λ (e : k ≡ 1). omega arith)
    (⊎_elim (λ (e : k ≡ 2). omega arith) (⊎_elim (λ (e : k ≡ 4). omega arith) (λ (e : k ≡ 8). omega arith))) size

-- an enciphered text is as long
length-enciphered : EncipheringKeepsLength → (keys : List KeyData) (context : Option Context) (text : List ℕ) → length text % 16 ≡ 0
    → length (enciphered keys context text) ≡ length text
length-enciphered law keys None text whole = refl
length-enciphered law keys (Some context) text whole =
    elim (key_at keys context.key) as (λ (o : Option KeyData). length (option_map_or (λ key. enc key context.dun text) o text) ≡ length text) [
      | None ↦ refl
      | Some key ↦ law key context.dun text whole
    ]

-- no sector of another block is among the sectors of a unit at the start of a block
not_among : (first s size count : ℕ) → first % 8 ≡ 0 → count ≡ 512 * size → size ≤ 8 → (block_of first == block_of s) ≡ false
    → (nat_le first s && nat_lt (512 * (s - first)) count) ≡ false
not_among first s size count starts long few other =
    false_from_ne_true (nat_le first s && nat_lt (512 * (s - first)) count) (λ among.
    let parts = and_parts (nat_le first s) (nat_lt (512 * (s - first)) count) among in
    let low = leb-true first s parts.0 in
    let high = ltb-true (512 * (s - first)) count parts.1 in
    let here : block_of first ≡ block_of s = omega arith in
    true≢false (sym (eq-eqb (block_of first) (block_of s) here) ∙ other))

-- so the unit changes no sector of another block
stays_in_block : EncipheringKeepsLength → (keys : List KeyData) (u : PlannedUnit) (size : ℕ) → u.sector % 8 ≡ 0 → length u.bytes ≡ 512 * size → size ≤ 8
    → StaysIn keys u
stays_in_block law keys u size starts long few disk s other = by_access u.access
  where
    by_access : (access : Access) → (accessed access keys disk u).disk s ≡ disk s
    by_access Read = refl
    by_access Write =
        let bytes = enciphered keys u.context u.bytes in
        let as_long = length-enciphered law keys u.context u.bytes (omega arith) in
        ap (λ (b : Bool). cond b (slice_range bytes (512 * (s - u.sector)) (512 * (s - u.sector) + 512)) (disk s))
        (not_among u.sector s size (length bytes) starts (as_long ∙ long) few other)

-- ---- the units of a thread

maybe_one : (P : PlannedUnit → Type 0) (b : Bool) (u : PlannedUnit) → P u → Each P (cond b (u ∷ []) [])
maybe_one P true u here = (here, tt)
maybe_one P false u here = tt

rising_by_one : (low : ℕ) (b : Bool) (u : PlannedUnit) (us : List PlannedUnit) → u.tag ≡ low → Rising (low + 1) us → Rising low (cond b (u ∷ []) [] ++ us)
rising_by_one low true u us is rising = (omega arith, subst (λ (m : ℕ). Rising (m + 1) us) (sym is) rising)
rising_by_one low false u us is rising = lower (low + 1) low us (omega arith) rising

module _ (law : EncipheringKeepsLength) (sizes : UnitsHaveSizes) (script : Script) (n thread : ℕ) where
  abbrev keys : List KeyData
  keys = keys_of script

  abbrev bio_at : Access → ℕ → Extent
  bio_at access j = record { access = access; context = Some (generated_context thread j); sector = generated_sector n thread j; units = 1 }

  abbrev written : ℕ → ℕ → PlannedUnit
  written op j = unit_at keys op (generated_write n thread j) (bio_at Write j) 0

  abbrev read : ℕ → ℕ → PlannedUnit
  read op j = unit_at keys op (generated_read n thread j) (bio_at Read j) 0

  own_write : (op j : ℕ) → IsOwn keys home_of thread (written op j)
  own_write op j =
      let below = mod_below (7 * j + n) 64 (omega arith) in
      let size = unit_sectors keys (Some (generated_context thread j)) in record {
        at_home = omega arith;
        stays = stays_in_block law keys (written op j) size (omega arith) (length-replicate (512 * size) (generated_byte thread j)) (at_most_eight size (sizes keys (Some (generated_context thread j))));
      }

  own_read : (op j : ℕ) → IsOwn keys home_of thread (read op j)
  own_read op j =
      let below = mod_below (7 * j + n) 64 (omega arith) in
      record { at_home = omega arith; stays = stays_in_block law keys (read op j) 0 (omega arith) refl (omega arith) }

  abbrev pairs : ℕ → ℕ → ℕ → List PlannedUnit
  pairs op first k = flat_map (units_of script) (enumerate_from op (flat_map (generated_pair n thread) (range_with_len first k)))

  own_pairs : (op first k : ℕ) → Each (IsOwn keys home_of thread) (pairs op first k)
  own_pairs op first zero = tt
  own_pairs op first (suc k) =
      let after = pairs (op + 1 + 1) (first + 1) k in
      each_append (IsOwn keys home_of thread) (units_of script (op, generated_write n thread first)) (units_of script (op + 1, generated_read n thread first) ++ after)
      (maybe_one (IsOwn keys home_of thread) (is_none (refusal_of script (bio_at Write first))) (written op first) (own_write op first))
      (each_append (IsOwn keys home_of thread) (units_of script (op + 1, generated_read n thread first)) after
      (maybe_one (IsOwn keys home_of thread) (is_none (refusal_of script (bio_at Read first))) (read (op + 1) first) (own_read (op + 1) first))
      (own_pairs (op + 1 + 1) (first + 1) k))

  rising_pairs : (op first k : ℕ) → Rising op (pairs op first k)
  rising_pairs op first zero = tt
  rising_pairs op first (suc k) =
      let after = pairs (op + 1 + 1) (first + 1) k in
      rising_by_one op (is_none (refusal_of script (bio_at Write first))) (written op first) (units_of script (op + 1, generated_read n thread first) ++ after) refl
      (rising_by_one (op + 1) (is_none (refusal_of script (bio_at Read first))) (read (op + 1) first) after refl
      (rising_pairs (op + 1 + 1) (first + 1) k))

  pub own_section : IsOwnPlan keys home_of thread (units_of_section script (generated_section n thread))
  own_section = record { own = own_pairs 0 0 n; rising = rising_pairs 0 0 n }

-- each thread's plan is its own
pub own_plans : EncipheringKeepsLength → UnitsHaveSizes → (script : Script) (n : ℕ) → script.threads ≡ map (generated_section n) (range_with_len 0 generated_threads)
    → (t : ℕ) → IsOwnPlan (keys_of script) home_of t (list_at (plan_of script) t)
own_plans law sizes script n threads_are t =
    let IsOne : ℕ → List PlannedUnit → Type 0 = IsOwnPlan (keys_of script) home_of in
    subst (λ (threads : List (List Op)). IsOwnPlan (keys_of script) home_of t (list_at (map (units_of_section script) threads) t)) (sym threads_are)
    (at_range IsOne (units_of_section script) (generated_section n) (own_section law sizes script n) (λ i. record { own = tt; rising = tt })
    0 generated_threads t t (omega arith))

-- ---- without devices

-- with the fallback on, each bio that is well formed is supported
supported : (script : Script) (context : Option Context) → script.fallback ≡ true → unsupported_of script context ≡ None
supported script None on = refl
supported script (Some context) on =
    ap (λ (b : Bool). cond b None (Some refusals.Unsupported)) (or_right (is_inline script context.key) script.fallback on)

-- so the devices play no part in the plan
module _ (script : Script) (targets : List Target) (on : script.fallback ≡ true) where
  abbrev other : Script
  other = record script { targets = targets }

  same_refusals : (bio : Extent) → refusal_of script bio ≡ refusal_of other bio
  same_refusals bio =
      ap (option_map_or (λ (error : BioError). Some (refusals.Bio error)) (check_of (keys_of script) (sectors_in script) bio))
      (supported script bio.context on ∙ sym (supported other bio.context on))

  same_bios : (op : ℕ) (operation : Op) (bio : Extent) → units_of_bio script op operation bio ≡ units_of_bio other op operation bio
  same_bios op operation bio =
      ap (λ (r : Option Refusal). cond (is_none r) (map (unit_at (keys_of script) op operation bio) (range_with_len 0 bio.units)) []) (same_refusals bio)

  same_units : (x : ℕ × Op) → units_of script x ≡ units_of other x
  same_units x = ap (λ (units : Extent → List PlannedUnit). option_map_or units (bio_of x.1) []) (λ i bio. same_bios x.0 x.1 bio i)

  pub plan_for_any : plan_of script ≡ plan_of (record script { targets = targets })
  plan_for_any =
      ap (λ (units : ℕ × Op → List PlannedUnit). map (λ (section : List Op). flat_map units (enumerate_from 0 section)) script.threads) (λ i x. same_units x i)
