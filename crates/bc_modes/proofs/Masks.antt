-- A controller's capability for a data unit: where it stands, and that its mask is not empty.
use Rattle.std.proofs.Common.{◌≡◌, ℕ, suc, List, [], ◌∷◌, ◌++◌, ap, true, false, Some, sym, subst}
use Rattle.std.specs.Prelude.{slice_get, ◌==◌}
use Rattle.bc_modes.specs.declared.ufs_caps.Capability.{Capability}
use Rattle.std.proofs.lemmas.Bool.{true≢false, ne_eqb}
use Rattle.bc_key.specs.declared.config.DataUnit.{DataUnit}
use Rattle.bc_key.specs.declared.config.DataUnit.TheVariants.{Bytes512, Bytes1024, Bytes2048, Bytes4096}
use Rattle.bc_key.specs.DataUnits.{bit_of}
use Rattle.bc_key.specs.Support.{has_bits}

pub place : (first second : List Capability) (capability : Capability) → second ≡ capability ∷ [] → (k : ℕ) × (slice_get (first ++ second) k ≡ Some capability)
place [] second capability is = (0, ap (λ (l : List Capability). slice_get l 0) is)
place (c ∷ cs) second capability is = let r = place cs second capability is in (suc r.0, r.1)

pub no_bits : (unit : DataUnit) → has_bits 0 (bit_of unit) ≡ true → ⊥
no_bits Bytes512 e = absurd (true≢false (sym e))
no_bits Bytes1024 e = absurd (true≢false (sym e))
no_bits Bytes2048 e = absurd (true≢false (sym e))
no_bits Bytes4096 e = absurd (true≢false (sym e))

-- a mask with a data unit's bit isn't empty
pub some_bits : (mask : ℕ) (unit : DataUnit) → has_bits mask (bit_of unit) ≡ true → (mask == 0) ≡ false
some_bits mask unit has = ne_eqb mask 0 (λ none. no_bits unit (subst (λ n. has_bits n (bit_of unit) ≡ true) none has))
