-- The size of a data unit and the block that it lies in; and what the tests of a bio leave.
use Rattle.std.proofs.Common.{◌≡◌, inl, inr, ⊎_elim, ℕ, ◌+◌, ◌*◌, ◌/◌, ◌%◌, ◌<◌, ◌≤◌, Bool, true, false, not, cond, eqb, nat_le, Option, Some, None, refl, sym, subst, arith}
use Rattle.std.specs.Option.{option_map_or}
use Rattle.std.proofs.lemmas.Bool.{eqb-true, leb-true}
use Rattle.bc_key.specs.KeyData.{KeyData}
use Rattle.bc_key.specs.KeyList.{key_at}
use Rattle.bc_key.specs.declared.config.DataUnit.{DataUnit}
use Rattle.bc_key.specs.declared.config.DataUnit.TheVariants.{Bytes512, Bytes1024, Bytes2048, Bytes4096}
use Rattle.bc_key.specs.DataUnits.{sectors_of, IsUnitSize}
use Rattle.bc_bio.specs.declared.refusal.BioError.{BioError}
use Rattle.bc_bio.specs.declared.refusal.BioError.TheVariants as errors
use Rattle.bc_bio.specs.Extent.{unit_sectors, end_of}
use Rattle.bc_bio.specs.Check.{numbers_fit}
use Rattle.bc_bio.specs.Laws.{UnitsHaveSizes, UnitsLieInBlocks, UnrefusedIsAccepted}

-- ---- a data unit has 1, 2, 4 or 8 sectors

size_of_unit : (unit : DataUnit) → IsUnitSize (sectors_of unit)
size_of_unit Bytes512 = inl refl
size_of_unit Bytes1024 = inr (inl refl)
size_of_unit Bytes2048 = inr (inr (inl refl))
size_of_unit Bytes4096 = inr (inr (inr refl))

size_under : (key : Option KeyData) → IsUnitSize (option_map_or (λ key. sectors_of key.config.unit) key 1)
size_under None = inl refl
size_under (Some key) = size_of_unit key.config.unit

pub units_have_sizes : UnitsHaveSizes
units_have_sizes keys None = inl refl
units_have_sizes keys (Some context) = size_under (key_at keys context.key)

-- ---- so an aligned one lies in one block

block_1 : (x i j : ℕ) → j < 1 → (x + i * 1 + j) / 8 ≡ (x + i * 1) / 8
block_1 x i j lt = omega arith

block_2 : (x i j : ℕ) → x % 2 ≡ 0 → j < 2 → (x + i * 2 + j) / 8 ≡ (x + i * 2) / 8
block_2 x i j whole lt = omega arith

block_4 : (x i j : ℕ) → x % 4 ≡ 0 → j < 4 → (x + i * 4 + j) / 8 ≡ (x + i * 4) / 8
block_4 x i j whole lt = omega arith

block_8 : (x i j : ℕ) → x % 8 ≡ 0 → j < 8 → (x + i * 8 + j) / 8 ≡ (x + i * 8) / 8
block_8 x i j whole lt = omega arith

one_block : (n x i j : ℕ) → IsUnitSize n → x % n ≡ 0 → j < n → (x + i * n + j) / 8 ≡ (x + i * n) / 8
one_block n x i j size whole lt =
    let at : (m : ℕ) → n ≡ m → ((x % m ≡ 0) → j < m → (x + i * m + j) / 8 ≡ (x + i * m) / 8) → (x + i * n + j) / 8 ≡ (x + i * n) / 8 =
    λ m e there. subst (λ (k : ℕ). (x + i * k + j) / 8 ≡ (x + i * k) / 8) (sym e) (there (subst (λ (k : ℕ). x % k ≡ 0) e whole) (subst (λ (k : ℕ). j < k) e lt)) in
    ⊎_elim (λ e. at 1 e (λ _ lt'. block_1 x i j lt'))
    (λ r. ⊎_elim (λ e. at 2 e (block_2 x i j))
    (λ r'. ⊎_elim (λ e. at 4 e (block_4 x i j)) (λ e. at 8 e (block_8 x i j)) r') r) size

pub units_lie_in_blocks : UnitsLieInBlocks
units_lie_in_blocks keys bio i j aligned within =
    one_block (unit_sectors keys bio.context) bio.sector i j (units_have_sizes keys bio.context) aligned within

-- ---- what the tests leave

-- a test that would refuse, and doesn't
passed : (test : Bool) (error : BioError) (rest : Option BioError) → cond test (Some error) rest ≡ None → (test ≡ false) × (rest ≡ None)
passed true error rest e = absurd cc
passed false error rest e = (refl, e)

not_false : (b : Bool) → not b ≡ false → b ≡ true
not_false true e = refl
not_false false e = absurd cc

pub unrefused_is_accepted : UnrefusedIsAccepted
unrefused_is_accepted keys sectors bio key disk none =
    let first = passed (eqb bio.units 0) errors.Empty _ none in
    let second = passed (not (eqb (bio.sector % unit_sectors keys bio.context) 0)) errors.Misaligned _ first.1 in
    let third = passed (not (nat_le (end_of keys bio) sectors)) errors.Outside _ second.1 in
    let fourth = passed (not (numbers_fit keys bio.context bio.units)) errors.DunRange None third.1 in
    let end : end_of keys bio ≤ sectors = leb-true (end_of keys bio) sectors (not_false _ third.0) in
    record {
      some = some_of bio.units first.0;
      aligned = eqb-true (bio.sector % unit_sectors keys bio.context) 0 (not_false _ second.0);
      inside = end;
      fits = not_false _ fourth.0;
      placed = record { key = key; end = omega arith };
    }
  where
    some_of : (n : ℕ) → eqb n 0 ≡ false → 1 ≤ n
    some_of n e = grind arith
