-- The units of a request of bios that a disk takes: where they lie, and that they have their bytes.
use Rattle.std.proofs.Common.{◌≡◌, ℕ, suc, ◌+◌, ◌-◌, ◌*◌, ◌/◌, ◌%◌, ◌^◌, ◌<◌, ◌≤◌, Bool, true, false, cond, List, [], ◌∷◌, length, get_or, refl, sym, ap, subst, ◌∙◌, arith, Option, Some, None}
use Rattle.std.specs.Prelude.{nat_lt, slice_get, IsSomeAnd, option_and_then}
use Rattle.std.specs.Option.{option_map_or}
use Rattle.std.proofs.lemmas.Bool.{ltb-true, ltb-false}
use Rattle.std.proofs.lemmas.List.Sums.{sum_by-cons}
use Rattle.std.proofs.lemmas.Option.{none-some, slice_get-get_or}
use Rattle.bc_base.specs.Lists.{At}
use Rattle.bc_base.proofs.Lists.{each_at}
use Rattle.bc_base.specs.Stores.{IsPiece}
use Rattle.bc_key.specs.KeyData.{KeyData}
use Rattle.bc_bio.specs.declared.bio.Bio.{Bio}
use Rattle.bc_bio.specs.declared.unit.Unit.{Unit}
use Rattle.bc_bio.specs.declared.context.Context.{Context}
use Rattle.bc_bio.specs.declared.marked_bio.MarkedBio.{MarkedBio}
use Rattle.bc_bio.specs.declared.refusal.BioError.{BioError}
use Rattle.bc_bio.specs.declared.refusal.Refusal.{Refusal}
use Rattle.bc_bio.specs.declared.refusal.Refusal.TheVariants as refusals
use Rattle.bc_bio.specs.declared.unit_place.UnitPlace.{UnitPlace}
use Rattle.bc_bio.specs.BioUnits.{context_wrapped, extent_of}
use Rattle.bc_bio.specs.Check.{check_of}
use Rattle.bc_bio.specs.Conditions.{HasKey, IsAccepted, IsFull}
use Rattle.bc_bio.specs.Extent.{sector_at, unit_sectors}
use Rattle.bc_bio.specs.Laws.{UnitsHaveSizes, UnitsLieInBlocks, UnrefusedIsAccepted}
use Rattle.bc_bio.specs.PlannedUnit.{PlannedUnit}
use Rattle.bc_bio.specs.Requests.{place_in, tagged_bios, unit_in}
use Rattle.bc_bio.specs.Windows.{count_units, TaggedBio}
use Rattle.bc_medium.specs.Medium.{OwnsSectors, shards_of}
use Rattle.bc_queue.specs.RequestUnits.{named_at}
use Rattle.bc_pieces.proofs.Becoming.{planned_is}
use Rattle.bc_pieces.proofs.Units.{at_within}
use Rattle.bc_disk.specs.Disks.{DiskData, keys_in, supports_context}
use Rattle.bc_disk.specs.Submissions.{AreTaken, IsTaken}

-- ---- a unit of a request, by its bio

record InBio (bios : List MarkedBio) (place : UnitPlace) : Type 0 where
  marked : MarkedBio
  at : At bios place.bio marked
  less : place.unit < length marked.bio.units

in_bio : (bios : List MarkedBio) (n : ℕ) → n < count_units (tagged_bios bios) → InBio bios (place_in bios n)
in_bio [] n below = absurd (omega (arith, below))
in_bio (m ∷ bios) n below = of_bool (nat_lt n (length m.bio.units)) refl (in_bio bios (n - length m.bio.units))
  where
    of_bool : (b : Bool) → nat_lt n (length m.bio.units) ≡ b → (n - length m.bio.units < count_units (tagged_bios bios) → InBio bios (place_in bios (n - length m.bio.units)))
        → InBio (m ∷ bios) (cond b (record { bio = 0; unit = n }) (record { bio = (place_in bios (n - length m.bio.units)).bio + 1; unit = (place_in bios (n - length m.bio.units)).unit }))
    of_bool true is rest = record { marked = m; at = refl; less = ltb-true n (length m.bio.units) is }
    of_bool false is rest =
        let past : length m.bio.units ≤ n = ltb-false n (length m.bio.units) is in
        let sum : count_units (tagged_bios (m ∷ bios)) ≡ length m.bio.units + count_units (tagged_bios bios) = sum_by-cons (λ (x : TaggedBio). x.bio.units) (Rattle.bc_bio.specs.Requests.tagged_of m.bio) (tagged_bios bios) in
        let there = rest (omega (arith, past, sum, below)) in
        let next : (place_in bios (n - length m.bio.units)).bio + 1 ≡ suc (place_in bios (n - length m.bio.units)).bio = omega arith in
        record { marked = there.marked; at = ap (slice_get (m ∷ bios)) next ∙ there.at; less = there.less }

-- ---- what no test leaves

both_none : (o : Option BioError) (rest : Option Refusal) → option_map_or (λ error. Some (refusals.Bio error)) o rest ≡ None → (o ≡ None) × (rest ≡ None)
both_none None rest is = (refl, is)
both_none (Some e) rest is = absurd (none-some (refusals.Bio e) (sym is))

passes : (b : Bool) (refusal : Refusal) → cond b None (Some refusal) ≡ None → b ≡ true
passes true refusal is = refl
passes false refusal is = absurd (none-some refusal (sym is))

wrapped_sectors : (keys : List KeyData) (i : ℕ) (o : Option Context) → unit_sectors keys (context_wrapped i o) ≡ unit_sectors keys o
wrapped_sectors keys i None = refl
wrapped_sectors keys i (Some c) = refl

wrapped_has : (keys : List KeyData) (i : ℕ) (o : Option Context) → HasKey keys o → HasKey keys (context_wrapped i o)
wrapped_has keys i None has = tt
wrapped_has keys i (Some c) has = has

has_bytes : (sectors k : ℕ) (units : List Unit) → k < length units → ((k' : ℕ) (d : Unit) → k' < length units → IsFull sectors (get_or units k' d)) → IsSomeAnd (slice_get units k) (IsFull sectors)
has_bytes sectors k units less full =
    let here = at_within units k less in
    let is = slice_get-get_or units k here.0 less in
    subst (λ (o : Option Unit). IsSomeAnd o (IsFull sectors)) (sym is) (full k here.0 less)

sectors_some : (n : ℕ) → Rattle.bc_key.specs.DataUnits.IsUnitSize n → 1 ≤ n
sectors_some n size =
    Rattle.std.proofs.Math.Logic.⊎_elim (λ e. omega (arith, e)) (λ r. Rattle.std.proofs.Math.Logic.⊎_elim (λ e. omega (arith, e))
    (λ r'. Rattle.std.proofs.Math.Logic.⊎_elim (λ e. omega (arith, e)) (λ e. omega (arith, e)) r') r) size

ends_within : (first i count size end : ℕ) → i < count → first + count * size ≤ end → (first + i * size) + size ≤ end
ends_within first i count size end less within =
    let up : (i + 1) * size ≤ count * size = grind arith in
    let more : (i + 1) * size ≡ i * size + size = grind arith in
    omega (arith, up, more, within)

module _ {S : Type 0} (owns : S → ℕ → Bool) (disk : DiskData S) (sizes : UnitsHaveSizes) (in_blocks : UnitsLieInBlocks) (accepted : UnrefusedIsAccepted) (small : disk.blocks < 2 ^ 29)
    (owned : (sector : ℕ) → sector < 8 * disk.blocks → OwnsSectors owns disk.queue.medium sector 1) where
  -- sectors of one block are of one shard
  owns_all : (sector count : ℕ) → 1 ≤ count → ((j : ℕ) → j < count → (sector + j) / 8 ≡ sector / 8) → sector + count ≤ 8 * disk.blocks → OwnsSectors owns disk.queue.medium sector count
  owns_all sector count some block within cell at = record {
    some = some;
    owned = λ j less.
        let here : At disk.queue.medium.turns.cells (((sector + j) / 8) % shards_of disk.queue.medium) cell =
        subst (λ (b : ℕ). At disk.queue.medium.turns.cells (b % shards_of disk.queue.medium) cell) (sym (block j less)) at in
        let one : IsPiece (owns cell.base.store) (sector + j) 1 = owned (sector + j) (omega (arith, less, within)) cell here in
        let same : (sector + j) + 0 ≡ sector + j = omega arith in
        subst (λ (k : ℕ). owns cell.base.store k ≡ true) same (one.owned 0 (omega arith));
  }

  pub accepted_is : (bio : Bio) → IsTaken disk bio → IsAccepted (keys_in disk) (8 * disk.blocks) (extent_of bio)
  accepted_is bio taken =
      accepted (keys_in disk) (8 * disk.blocks) (extent_of bio) taken.key (omega (arith, small))
      (both_none (check_of (keys_in disk) (8 * disk.blocks) (extent_of bio)) (cond (supports_context disk bio.context) None (Some refusals.Unsupported)) taken.unrefused).0

  supports_it : (bio : Bio) → IsTaken disk bio → supports_context disk bio.context ≡ true
  supports_it bio taken =
      passes (supports_context disk bio.context) refusals.Unsupported
      (both_none (check_of (keys_in disk) (8 * disk.blocks) (extent_of bio)) (cond (supports_context disk bio.context) None (Some refusals.Unsupported)) taken.unrefused).1

  -- what a disk knows of a unit of a request of bios that it takes
  pub record UnitTaken (bios : List MarkedBio) (n : ℕ) : Type 0 where
    pub full : IsSomeAnd (unit_in bios n) (IsFull (unit_sectors (keys_in disk) (named_at (keys_in disk) bios n).context))
    pub sectors : OwnsSectors owns disk.queue.medium (named_at (keys_in disk) bios n).sector (unit_sectors (keys_in disk) (named_at (keys_in disk) bios n).context)
    pub inside : (named_at (keys_in disk) bios n).sector < 8 * disk.blocks
    pub key : HasKey (keys_in disk) (named_at (keys_in disk) bios n).context

  pub unit_taken : (bios : List MarkedBio) → AreTaken disk bios → (n : ℕ) → n < count_units (tagged_bios bios) → UnitTaken bios n
  unit_taken bios all n below =
      let keys = keys_in disk in
      let here = in_bio bios n below in
      let bio = here.marked.bio in
      let i = (place_in bios n).unit in
      let taken : IsTaken disk bio = (each_at (λ (m : MarkedBio). (m.fault ≡ None) × IsTaken disk m.bio) bios (place_in bios n).bio here.marked all here.at).1 in
      let is_accepted = accepted_is bio taken in
      let planned = planned_is keys bios n (place_in bios n).bio i here.marked refl here.at below in
      let sector : (named_at keys bios n).sector ≡ sector_at keys (extent_of bio) i = ap (λ (p : PlannedUnit). p.sector) planned in
      let context : (named_at keys bios n).context ≡ context_wrapped i bio.context = ap (λ (p : PlannedUnit). p.context) planned in
      let size : unit_sectors keys (named_at keys bios n).context ≡ unit_sectors keys bio.context = ap (unit_sectors keys) context ∙ wrapped_sectors keys i bio.context in
      let some = sectors_some (unit_sectors keys bio.context) (sizes keys bio.context) in
      let ends : sector_at keys (extent_of bio) i + unit_sectors keys bio.context ≤ 8 * disk.blocks =
      ends_within bio.sector i (length bio.units) (unit_sectors keys bio.context) (8 * disk.blocks) here.less is_accepted.inside in
      let unit : unit_in bios n ≡ slice_get bio.units i = ap (λ (o : Option MarkedBio). option_and_then (λ (m : MarkedBio). slice_get m.bio.units i) o) here.at in
      let owning : OwnsSectors owns disk.queue.medium (sector_at keys (extent_of bio) i) (unit_sectors keys bio.context) =
      owns_all (sector_at keys (extent_of bio) i) (unit_sectors keys bio.context) some (λ j less. in_blocks keys (extent_of bio) i j is_accepted.aligned less) ends in
      record {
        full = subst (λ (o : Option Unit). IsSomeAnd o (IsFull (unit_sectors keys (named_at keys bios n).context))) (sym unit)
            (subst (λ (s : ℕ). IsSomeAnd (slice_get bio.units i) (IsFull s)) (sym size) (has_bytes (unit_sectors keys bio.context) i bio.units here.less taken.full));
        sectors = subst (λ (s : ℕ). OwnsSectors owns disk.queue.medium s (unit_sectors keys (named_at keys bios n).context)) (sym sector)
            (subst (λ (s : ℕ). OwnsSectors owns disk.queue.medium (sector_at keys (extent_of bio) i) s) (sym size) owning);
        inside = omega (arith, sector, some, ends);
        key = subst (HasKey keys) (sym context) (wrapped_has keys i bio.context taken.key);
      }
