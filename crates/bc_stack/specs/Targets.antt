-- Which targets make a stack, and the first test that other targets fail.
-- They lie one after the other over the whole disk.
use Rattle.std.specs.Prelude.{◌≡◌, ℕ, ◌≤◌, ◌==◌, nat_lt, List, [], ◌∷◌, length, Option, Some, None, All, if◌then◌else◌}
use Rattle.bc_stack.specs.declared.stack.TheConstants.{MAX_DEVICES}
use Rattle.bc_stack.specs.declared.target.Target.{Target}
use Rattle.bc_stack.specs.declared.stack_error.StackError.{StackError}
use Rattle.bc_stack.specs.declared.stack_error.StackError.TheVariants.{Gap, Empty, TooMany, Memory}
use Rattle.bc_stack.specs.Devices.{end_of_target}

-- what a stack is made of: its targets, and how many blocks its disk has
pub record StackParts : Type 0 where
  pub targets : List Target
  pub blocks : ℕ

-- why the targets that follow this block make no stack over so many blocks, if they make none
abbrev pub refusal_from : ℕ → List Target → ℕ → Option StackError
refusal_from first [] blocks = if first == blocks then None else Some Gap
refusal_from first (target ∷ targets) blocks =
    if target.blocks == 0 then Some Empty
    else (if target.first == first then refusal_from (end_of_target target) targets blocks
    else Some Gap)

-- why these targets make no stack over so many blocks, if they make none
abbrev pub stack_error_of : List Target → ℕ → Option StackError
stack_error_of targets blocks =
    if length targets == 0 then None
    else (if nat_lt MAX_DEVICES (length targets) then Some TooMany
    else refusal_from 0 targets blocks)

-- the error is the first test that fails, or there was no memory for targets that pass
abbrev pub IsRefusal : List Target → ℕ → StackError → Type 0
IsRefusal targets blocks Memory = stack_error_of targets blocks ≡ None
IsRefusal targets blocks Gap = stack_error_of targets blocks ≡ Some Gap
IsRefusal targets blocks Empty = stack_error_of targets blocks ≡ Some Empty
IsRefusal targets blocks TooMany = stack_error_of targets blocks ≡ Some TooMany

-- a target has 1 to 32 keyslots
pub record HasSlots (target : Target) : Type 0 where
  pub least : 1 ≤ target.slots
  pub most : target.slots ≤ 32

-- the targets lie one after the other from one block to another, and each has blocks
abbrev pub LieBetween : ℕ → ℕ → List Target → Type 0
LieBetween first end [] = first ≡ end
LieBetween first end (target ∷ targets) =
    (target.first ≡ first) × (1 ≤ target.blocks) × LieBetween (end_of_target target) end targets

-- there are no targets, or they cover all blocks
abbrev pub CoverAll : ℕ → List Target → Type 0
CoverAll blocks [] = Unit {0}
CoverAll blocks (target ∷ targets) = LieBetween 0 blocks (target ∷ targets)

-- the targets make a stack over so many blocks
pub record IsStack (targets : List Target) (blocks : ℕ) : Type 0 where
  pub few : length targets ≤ MAX_DEVICES
  pub cover : CoverAll blocks targets
  pub slots : All HasSlots targets
