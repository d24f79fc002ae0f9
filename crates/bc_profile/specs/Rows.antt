-- The registers of the slots: a slot has the register row of its key, and is clear where it has
-- none.
use Rattle.std.specs.Prelude.{ℕ, ◌<◌, List, All, replicate, Option, Some, None, slice_index_or}
use Rattle.std.specs.Option.{option_map_or}
use Rattle.bc_profile.specs.declared.limits.TheConstants.{ROW_WORDS}

-- a slot that is clear
abbrev pub cleared : List ℕ
cleared = replicate ROW_WORDS 0

-- the registers of a slot that has this key, or none; the key's row is at its number
abbrev pub row_of : List (List ℕ) → Option ℕ → List ℕ
row_of rows has = option_map_or (λ key. slice_index_or rows key cleared) has cleared

-- the key is one of those that have a row
abbrev pub HasRow : ℕ → Option ℕ → Type 0
HasRow count None = Unit {0}
HasRow count (Some key) = key < count

-- each slot's key is
abbrev pub HaveRows : ℕ → List (Option ℕ) → Type 0
HaveRows count keys = All (HasRow count) keys
