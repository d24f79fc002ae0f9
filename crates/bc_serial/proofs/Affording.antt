-- What fits: operations that a device affords, before and after some of them were acted on.
use Rattle.std.proofs.Common.{◌≡◌, ℕ, ◌+◌, ◌≤◌, List, [], ◌∷◌, ◌++◌, map, refl, sym, ap, ◌∙◌, arith, Option}
use Rattle.std.specs.Option.{option_map}
use Rattle.std.proofs.Math.Path.{fun_ext}
use Rattle.std.proofs.lemmas.Iterator.Adapters.{option_map_id}
use Rattle.std.proofs.lemmas.List.{map-id}
use Rattle.std.proofs.lemmas.List.Sums.{sum_by-append, sum_by-cons}
use Rattle.bc_script.specs.declared.op.Op.{Op}
use Rattle.bc_report.specs.declared.answer.Answer.{Answer}
use Rattle.bc_section.specs.Sections.{cost, cost_in}
use Rattle.bc_section.specs.SectionProgress.{answers_by}

abbrev cost_of : ℕ × Op → ℕ
cost_of operation = cost operation.1

pub first_fits : (operation : ℕ × Op) (after : List (ℕ × Op)) (left : ℕ) → cost_in (operation ∷ after) ≤ left → cost operation.1 ≤ left
first_fits operation after left fits = omega (arith, fits, sum_by-cons cost_of operation after)

pub front_fits : (before after : List (ℕ × Op)) (left : ℕ) → cost_in (before ++ after) ≤ left → cost_in before ≤ left
front_fits before after left fits = omega (arith, fits, sum_by-append cost_of before after)

-- those before were acted on, for what they cost
pub after_fits : (before after : List (ℕ × Op)) (old new : ℕ) → old ≤ new + cost_in before → cost_in (before ++ after) ≤ old → cost_in after ≤ new
after_fits before after old new paid fits = omega (arith, paid, fits, sum_by-append cost_of before after)

-- the first one was
pub next_fits : (operation : ℕ × Op) (after : List (ℕ × Op)) (old new : ℕ) → old ≤ new + cost operation.1 → cost_in (operation ∷ after) ≤ old → cost_in after ≤ new
next_fits operation after old new paid fits = omega (arith, paid, fits, sum_by-cons cost_of operation after)

-- one of them was left out
pub others_fit : (before after : List (ℕ × Op)) (operation : ℕ × Op) (left : ℕ) → cost_in (before ++ operation ∷ after) ≤ left → cost_in (before ++ after) ≤ left
others_fit before after operation left fits = omega (arith, fits, sum_by-append cost_of before (operation ∷ after), sum_by-cons cost_of operation after, sum_by-append cost_of before after)

-- an answer that a report says as it is
pub answers_as_they_are : (answers : List (Option Answer)) → answers_by (λ told. told) answers ≡ answers
answers_as_they_are answers =
    let same : option_map (λ (told : Answer). told) ≡ (λ (o : Option Answer). o) = fun_ext option_map_id in
    ap (λ (f : Option Answer → Option Answer). map f answers) same ∙ map-id answers
