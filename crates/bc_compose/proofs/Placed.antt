-- Each data unit of a script lies in one shard.
use Rattle.std.proofs.Common.{◌≡◌, ℕ, zero, suc, ◌+◌, ◌%◌, ◌<◌, ◌≤◌, List, [], ◌∷◌, length, map, refl, sym, ap, subst, arith, Option, Some, None}
use Rattle.std.specs.Prelude.{flat_map}
use Rattle.std.specs.List.{enumerate_from, range_with_len, AllByRecursion}
use Rattle.std.specs.Option.{option_map_or}
use Rattle.std.proofs.lemmas.Option.{none-some, same_Some}
use Rattle.bc_base.specs.Lists.{list_at}
use Rattle.bc_key.specs.KeyData.{KeyData}
use Rattle.bc_bio.specs.declared.context.Context.{Context}
use Rattle.bc_bio.specs.declared.refusal.BioError.{BioError}
use Rattle.bc_bio.specs.declared.refusal.Refusal.{Refusal}
use Rattle.bc_bio.specs.declared.refusal.Refusal.TheVariants as refusals
use Rattle.bc_bio.specs.declared.extent.Extent.{Extent}
use Rattle.bc_bio.specs.Extent.{unit_sectors, context_after}
use Rattle.bc_bio.specs.PlannedUnit.{PlannedUnit}
use Rattle.bc_bio.specs.Check.{check_of}
use Rattle.bc_bio.specs.Conditions.{HasKey}
use Rattle.bc_bio.specs.Laws.{UnitsHaveSizes, UnitsLieInBlocks, UnrefusedIsAccepted}
use Rattle.bc_medium.specs.Layout.{shard_of}
use Rattle.bc_script.specs.declared.op.Op.{Op}
use Rattle.bc_script.specs.declared.op.Op.TheVariants as ops
use Rattle.bc_script.specs.Script.{Script, IsScript, IsContext, IsOp, IsSection, device_count, keys_of, sectors_in}
use Rattle.bc_script.specs.Bios.{bio_of, unsupported_of, refusal_of}
use Rattle.bc_script.specs.Plan.{unit_at, units_of, units_of_section}
use Rattle.bc_compose.proofs.Units.{by_bio}
use Rattle.bc_base.proofs.Members.{In, all_at, all_append}

-- a bio that isn't refused is well formed
no_error : (o : Option BioError) (other : Option Refusal) → option_map_or (λ error. Some (refusals.Bio error)) o other ≡ None → o ≡ None
no_error None other e = refl
no_error (Some error) other e = absurd (none-some (refusals.Bio error) (sym e))

has_key : (keys : List KeyData) (context : Option Context) → IsContext keys context → HasKey keys context
has_key keys None rule = tt
has_key keys (Some context) rule = rule.0

-- the key of an operation's bio is one of the keys
key_of_bio : (devices : ℕ) (keys : List KeyData) (operation : Op) (bio : Extent) → IsOp devices keys operation → bio_of operation ≡ Some bio → HasKey keys bio.context
key_of_bio devices keys (ops.Write context sector units text) bio rule is =
    subst (λ (b : Extent). HasKey keys b.context) (same_Some _ bio is) (has_key keys context rule.0.context_is)
key_of_bio devices keys (ops.Read context sector units) bio rule is =
    subst (λ (b : Extent). HasKey keys b.context) (same_Some _ bio is) (has_key keys context rule.context_is)
key_of_bio devices keys (ops.Evict key) bio rule is = absurd (none-some bio is)
key_of_bio devices keys (ops.Reset device) bio rule is = absurd (none-some bio is)
key_of_bio devices keys ops.Plug bio rule is = absurd (none-some bio is)
key_of_bio devices keys ops.Unplug bio rule is = absurd (none-some bio is)

-- the units of a context and of those that follow are of one size
pub sectors_after : (keys : List KeyData) (context : Option Context) (i : ℕ) → unit_sectors keys (context_after i context) ≡ unit_sectors keys context
sectors_after keys None i = refl
sectors_after keys (Some context) i = refl

pub all_within : {A : Type 0} (P : A → Type 0) (f : ℕ → A) (first n bound : ℕ) → first + n ≤ bound → ((i : ℕ) → i < bound → P (f i)) → AllByRecursion P (map f (range_with_len first n))
all_within P f first zero bound within each = tt
all_within P f first (suc n) bound within each = (each first (omega arith), all_within P f (first + 1) n bound (omega arith) each)

section_rules : (devices : ℕ) (keys : List KeyData) (sections : List (List Op)) (t : ℕ) → AllByRecursion (IsSection devices keys) sections → AllByRecursion (IsOp devices keys) (list_at sections t)
section_rules devices keys [] t all = tt
section_rules devices keys (section ∷ sections) zero all = all.0.each
section_rules devices keys (section ∷ sections) (suc t) all = section_rules devices keys sections t all.1

module _ (sizes : UnitsHaveSizes) (blocks : UnitsLieInBlocks) (unrefused : UnrefusedIsAccepted) (script : Script) (rules : IsScript script) (shards : ℕ) where
  abbrev keys : List KeyData
  keys = keys_of script

  abbrev devices : ℕ
  devices = device_count script

  abbrev LiesInOne : PlannedUnit → Type 0
  LiesInOne u = (i : ℕ) → i < unit_sectors keys u.context → shard_of shards (u.sector + i) ≡ shard_of shards u.sector

  aligned : (operation : Op) (bio : Extent) → IsOp devices keys operation → bio_of operation ≡ Some bio → refusal_of script bio ≡ None → bio.sector % unit_sectors keys bio.context ≡ 0
  aligned operation bio rule is accepted =
      let most : script.blocks ≤ 16384 = rules.blocks.1 in
      (unrefused keys (sectors_in script) bio (key_of_bio devices keys operation bio rule is) (omega arith)
      (no_error (check_of keys (sectors_in script) bio) (unsupported_of script bio.context) accepted)).aligned

  of_operation : (op : ℕ) (operation : Op) → IsOp devices keys operation → AllByRecursion LiesInOne (units_of script (op, operation))
  of_operation op operation rule =
      by_bio (AllByRecursion LiesInOne) script op operation tt
      (λ bio is accepted. all_within LiesInOne (unit_at keys op operation bio) 0 bio.units bio.units (omega arith)
      (λ i within j inside. ap (λ (b : ℕ). b % shards)
      (blocks keys bio i j (aligned operation bio rule is accepted) (subst (λ (m : ℕ). j < m) (sectors_after keys bio.context i) inside))))

  of_operations : (op : ℕ) (section : List Op) → AllByRecursion (IsOp devices keys) section → AllByRecursion LiesInOne (flat_map (units_of script) (enumerate_from op section))
  of_operations op [] all = tt
  of_operations op (operation ∷ section) all =
      all_append LiesInOne (units_of script (op, operation)) (flat_map (units_of script) (enumerate_from (op + 1) section)) (of_operation op operation all.0) (of_operations (op + 1) section all.1)

  pub one_shard : (t : ℕ) (u : PlannedUnit) → t < length script.threads → In u (units_of_section script (list_at script.threads t)) → LiesInOne u
  one_shard t u there at' =
      all_at LiesInOne (units_of_section script (list_at script.threads t)) u
      (of_operations 0 (list_at script.threads t) (section_rules devices keys script.threads t rules.threads.each)) at'
