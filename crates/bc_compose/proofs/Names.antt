-- Units with distinct names are found by their names.
use Rattle.std.proofs.Common.{◌≡◌, ℕ, Bool, false, cond, List, [], ◌∷◌, refl, ap, subst, ◌∙◌, Some}
use Rattle.std.specs.Prelude.{◌==◌, ◌&&◌, find}
use Rattle.std.specs.List.{AllByRecursion}
use Rattle.std.proofs.Math.Logic.{⊎_elim}
use Rattle.std.proofs.lemmas.Bool.{eq-eqb}
use Rattle.bc_bio.specs.PlannedUnit.{PlannedUnit}
use Rattle.bc_medium.specs.LawfulOrders.{unit_name_of}
use Rattle.bc_medium.specs.Outcome.{is_named}
use Rattle.bc_base.proofs.Members.{In, all_at}

-- one unit has another's name
abbrev pub shares : PlannedUnit → PlannedUnit → Bool
shares u v = (u.tag == v.tag) && (u.unit == v.unit)

-- no later unit has the name of an earlier one
abbrev pub Apart : List PlannedUnit → Type 0
Apart [] = Unit {0}
Apart (u ∷ us) = AllByRecursion (λ v. shares u v ≡ false) us × Apart us

-- a name finds its unit
pub finds : (thread : ℕ) (us : List PlannedUnit) (u : PlannedUnit) → Apart us → In u us → find (is_named (unit_name_of thread u)) us ≡ Some u
finds thread [] u apart at = absurd at
finds thread (v ∷ vs) u apart at =
    ⊎_elim
    (λ (e : v ≡ u). subst (λ w. find (is_named (unit_name_of thread w)) (v ∷ vs) ≡ Some w) e (rw (eq-eqb v.tag v.tag refl, eq-eqb v.unit v.unit refl) refl))
    (λ (more : In u vs).
    ap (λ (b : Bool). cond b (Some v) (find (is_named (unit_name_of thread u)) vs)) (all_at (λ w. shares v w ≡ false) vs u apart.0 more)
    ∙ finds thread vs u apart.1 more)
    at
