-- Targets that pass each test make a stack.
use Rattle.std.proofs.Common.{◌≡◌, ℕ, ◌≤◌, ◌==◌, Bool, true, false, cond, List, [], ◌∷◌, length, Option, Some, None, All, arith}
use Rattle.std.specs.Prelude.{nat_lt}
use Rattle.std.proofs.lemmas.Bool.{eqb-true, ne_eqb}
use Rattle.std.proofs.lemmas.Bool.Decides.{nat_tests}
use Rattle.bc_stack.specs.declared.stack.TheConstants.{MAX_DEVICES}
use Rattle.bc_stack.specs.declared.target.Target.{Target}
use Rattle.bc_stack.specs.declared.stack_error.StackError.TheVariants.{Gap, Empty, TooMany}
use Rattle.bc_stack.specs.Devices.{end_of_target}
use Rattle.bc_stack.specs.Targets.{refusal_from, stack_error_of, HasSlots, LieBetween, IsStack}

-- a test that refuses was not met
not_refused : {E : Type 0} (test : Bool) (error : E) (others : Option E) → cond test (Some error) others ≡ None → (test ≡ false) × (others ≡ None)
not_refused true error others h = absurd cc
not_refused false error others h = (cc, h)

-- a test without which there is a refusal was met
was_met : {E : Type 0} (test : Bool) (error : E) (others : Option E) → cond test others (Some error) ≡ None → (test ≡ true) × (others ≡ None)
was_met true error others h = (cc, h)
was_met false error others h = absurd cc

lie_between : (first : ℕ) (targets : List Target) (blocks : ℕ) → refusal_from first targets blocks ≡ None → LieBetween first blocks targets
lie_between first [] blocks h = eqb-true first blocks (was_met (first == blocks) Gap None h).0
lie_between first (target ∷ targets) blocks h =
    let some = not_refused (target.blocks == 0) Empty _ h in
    let row = was_met (target.first == first) Gap (refusal_from (end_of_target target) targets blocks) some.1 in
    let not_empty : 1 ≤ target.blocks = grind (arith, nat_tests, some.0) in
    (eqb-true target.first first row.0, not_empty, lie_between (end_of_target target) targets blocks row.1)

pub stack_stands : (targets : List Target) (blocks : ℕ) → All HasSlots targets → stack_error_of targets blocks ≡ None → IsStack targets blocks
stack_stands [] blocks slots h = record { few = omega arith; cover = tt; slots = slots }
stack_stands (target ∷ targets) blocks slots h =
    let some : (length (target ∷ targets) == 0) ≡ false = ne_eqb (length (target ∷ targets)) 0 (λ e. omega arith) in
    let few = not_refused (nat_lt MAX_DEVICES (length (target ∷ targets))) TooMany (refusal_from 0 (target ∷ targets) blocks) (rw some at h) in
    let least : length (target ∷ targets) ≤ MAX_DEVICES = grind (arith, nat_tests, few.0) in
    record { few = least; cover = lie_between 0 (target ∷ targets) blocks few.1; slots = slots }
