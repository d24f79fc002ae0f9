-- The least number of a plan that is so much or more.
use Rattle.std.proofs.Common.{◌≡◌, ℕ, ◌+◌, ◌<◌, ◌≤◌, true, false, List, [], ◌∷◌, ◌++◌, Option, Some, None, ap, arith}
use Rattle.std.specs.Prelude.{◌&&◌, nat_le, nat_lt, if◌then◌else◌, Contains}
use Rattle.std.specs.Option.{option_map_or}
use Rattle.std.proofs.Math.Logic.{⊎_elim}
use Rattle.std.proofs.lemmas.Bool.{cases_lt}
use Rattle.std.proofs.lemmas.Bool.Decides.{nat_tests}
use Rattle.std.proofs.lemmas.List.Elements.{Contains-append_left, Contains-push, Contains-push_cases}
use Rattle.bc_base.specs.RamStores.{PlansNext}

-- with one number more
pub IsNext-push : (plan : List ℕ) (n from : ℕ) (next : Option ℕ) → PlansNext plan from next
    → PlansNext (plan ++ n ∷ []) from (if nat_le from n && option_map_or (λ m. nat_lt n m) next true then Some n else next)
IsNext-push plan n from None is =
    ⊎_elim
    (λ (below : n < from).
    let test : (nat_le from n && true) ≡ false = grind (arith, nat_tests) in
    rw test (λ m has. ⊎_elim (λ (old : Contains plan m). is m old) (λ (new : n ≡ m). omega arith) (Contains-push_cases plan n m has)))
    (λ (above : from ≤ n).
    let test : (nat_le from n && true) ≡ true = grind (arith, nat_tests) in
    rw test (Contains-push plan n, above, λ m has le. ⊎_elim (λ (old : Contains plan m). let b = is m old in omega arith) (λ (new : n ≡ m). omega arith) (Contains-push_cases plan n m has)))
    (cases_lt n from)
IsNext-push plan n from (Some next) is =
    ⊎_elim
    (λ (below : n < from).
    let test : (nat_le from n && nat_lt n next) ≡ false = grind (arith, nat_tests) in
    rw test (Contains-append_left plan (n ∷ []) next is.0, is.1, λ m has le. ⊎_elim (λ (old : Contains plan m). is.2 m old le) (λ (new : n ≡ m). omega arith) (Contains-push_cases plan n m has)))
    (λ (above : from ≤ n). ⊎_elim
    (λ (less : n < next).
    let test : (nat_le from n && nat_lt n next) ≡ true = grind (arith, nat_tests) in
    rw test (Contains-push plan n, above, λ m has le. ⊎_elim (λ (old : Contains plan m). let b = is.2 m old le in omega arith) (λ (new : n ≡ m). omega arith) (Contains-push_cases plan n m has)))
    (λ (more : next ≤ n).
    let test : (nat_le from n && nat_lt n next) ≡ false = grind (arith, nat_tests) in
    rw test (Contains-append_left plan (n ∷ []) next is.0, is.1, λ m has le. ⊎_elim (λ (old : Contains plan m). is.2 m old le) (λ (new : n ≡ m). omega arith) (Contains-push_cases plan n m has)))
    (cases_lt n next))
    (cases_lt n from)

-- a number that isn't the next one isn't in the plan
pub IsNext-none : (plan : List ℕ) (from : ℕ) (next : Option ℕ) → PlansNext plan from next → (next ≡ Some from → ⊥) → Contains plan from → ⊥
IsNext-none plan from None is not has = let l = is from has in omega arith
IsNext-none plan from (Some next) is not has =
    let above = is.1 in let below = is.2 from has (omega arith) in
    let same : next ≡ from = omega arith in
    not (ap (λ (n : ℕ). Some n) same)

-- the next one stays when that number has gone by
pub IsNext-later : (plan : List ℕ) (from later : ℕ) (next : Option ℕ) → PlansNext plan from next → (next ≡ Some from → ⊥) → from ≤ later → later ≤ from + 1 → PlansNext plan later next
IsNext-later plan from later None is not le small = λ n has. let l = is n has in omega arith
IsNext-later plan from later (Some next) is not le small =
    let above = is.1 in
    let apart : next ≡ from → ⊥ = λ same. not (ap (λ (n : ℕ). Some n) same) in
    (is.0, omega arith, λ n has up. is.2 n has (omega arith))
