-- Data units whose operations' numbers rise are found by their names.
use Rattle.std.proofs.Common.{◌≡◌, ℕ, ◌+◌, ◌≤◌, Bool, cond, List, [], ◌∷◌, refl, ap, ◌∙◌, arith, Some}
use Rattle.std.specs.Prelude.{◌==◌, find}
use Rattle.std.proofs.lemmas.Bool.{eq-eqb, ne_eqb, and_left}
use Rattle.bc_base.specs.Lists.{Each}
use Rattle.bc_base.proofs.Lists.{each_both}
use Rattle.bc_bio.specs.PlannedUnit.{PlannedUnit}
use Rattle.bc_medium.specs.LawfulOrders.{unit_name_of}
use Rattle.bc_medium.specs.Outcome.{is_named}

-- the units' operations have rising numbers, from this one on
abbrev pub Rising : ℕ → List PlannedUnit → Type 0
Rising low [] = Unit {0}
Rising low (u ∷ us) = (low ≤ u.tag) × Rising (u.tag + 1) us

pub lower : (low less : ℕ) (us : List PlannedUnit) → less ≤ low → Rising low us → Rising less us
lower low less [] le rising = tt
lower low less (u ∷ us) le rising = let first = rising.0 in (omega arith, rising.1)

later : (low : ℕ) (us : List PlannedUnit) → Rising low us → Each (λ u. low ≤ u.tag) us
later low [] rising = tt
later low (u ∷ us) rising =
    let first = rising.0 in (first, later low us (lower (u.tag + 1) low us (omega arith) rising.1))

-- each name finds its unit
pub finds_each : (thread low : ℕ) (us : List PlannedUnit) → Rising low us → Each (λ u. find (is_named (unit_name_of thread u)) us ≡ Some u) us
finds_each thread low [] rising = tt
finds_each thread low (u ∷ us) rising = (
  rw (eq-eqb u.tag u.tag refl, eq-eqb u.unit u.unit refl) refl,
  each_both (λ v. find (is_named (unit_name_of thread v)) us ≡ Some v) (λ v. u.tag + 1 ≤ v.tag) (λ v. find (is_named (unit_name_of thread v)) (u ∷ us) ≡ Some v)
      (λ v there above. ap (λ (b : Bool). cond b (Some u) (find (is_named (unit_name_of thread v)) us))
      (and_left (u.tag == v.tag) (u.unit == v.unit) (ne_eqb u.tag v.tag (λ e. omega arith))) ∙ there)
      us (finds_each thread (u.tag + 1) us rising.1) (later (u.tag + 1) us rising.1),
)
