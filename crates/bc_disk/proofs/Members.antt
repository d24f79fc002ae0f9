-- Membership, and the tests of elements.
use Rattle.std.proofs.Common.{◌≡◌, ℕ, zero, suc, ◌+◌, ◌<◌, ◌⊎◌, List, [], ◌∷◌, ◌++◌, length, ap, ◌∙◌, arith}
use Rattle.std.specs.Prelude.{slice_get}
use Rattle.std.proofs.Math.Logic.{⊎_elim}
use Rattle.std.proofs.lemmas.Option.{none-some}
use Rattle.bc_base.specs.Lists.{At}
use Rattle.bc_base.proofs.Members.{In}

-- ---- membership

-- ---- filters

-- ---- places

pub in_at : {X : Type 0} (xs : List X) (x : X) → In x xs → (k : ℕ) × At xs k x
in_at [] x at = absurd at
in_at {X} (y ∷ ys) x at = ⊎_elim (λ (e : y ≡ x). (zero, ap (λ (z : X). Rattle.std.proofs.Common.Some z) e)) (λ (more : In x ys). let r = in_at ys x more in (suc r.0, r.1)) at

pub at_behind : {X : Type 0} (xs ys : List X) (k : ℕ) (y : X) → At ys k y → At (xs ++ ys) (length xs + k) y
at_behind [] ys k y at = let same : 0 + k ≡ k = omega arith in ap (slice_get ys) same ∙ at
at_behind (x ∷ xs) ys k y at = let same : length (x ∷ xs) + k ≡ suc (length xs + k) = omega arith in ap (slice_get (x ∷ xs ++ ys)) same ∙ at_behind xs ys k y at

pub at_below : {X : Type 0} (xs : List X) (k : ℕ) (x : X) → At xs k x → k < length xs
at_below [] k x at = absurd (none-some x at)
at_below (y ∷ ys) zero x at = omega arith
at_below (y ∷ ys) (suc k) x at = let lt = at_below ys k x at in omega (arith, lt)
