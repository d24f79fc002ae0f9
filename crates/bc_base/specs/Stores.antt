-- What one call of a store does, as far as the store tells its bytes, its calls and its plan.
use Rattle.std.specs.Prelude.{◌≡◌, ◌↔◌, ℕ, ◌+◌, ◌*◌, ◌/◌, ◌<◌, ◌≤◌, Bool, true, List, length, Option, Some, None, IfSome, IsSomeAnd, Contains}
use Rattle.bc_base.specs.Memory.{next_count}
use Rattle.bc_base.specs.Sectors.{Sectors, bytes_at, with_bytes}

-- the calls that a store tells: the numbers, from 0, of those that fail, and how many there were
pub record StoreCalls : Type 0 where
  pub plan : List ℕ
  pub calls : ℕ

-- so many sectors from this one on, one at least, which all belong to the store
pub record IsPiece (owns : ℕ → Bool) (first count : ℕ) : Type 0 where
  pub some : 1 ≤ count
  pub owned : (i : ℕ) → i < count → owns (first + i) ≡ true

-- the bytes of whole sectors from this one on, which all belong to the store
pub record IsPieceOf (owns : ℕ → Bool) (first : ℕ) (bytes : List ℕ) : Type 0 where
  pub whole : length bytes ≡ 512 * (length bytes / 512)
  pub piece : IsPiece owns first (length bytes / 512)

-- each sector holds what it held
abbrev pub HoldsSame : Option Sectors → Option Sectors → Type 0
HoldsSame None now = now ≡ None
HoldsSame (Some disk) now = IsSomeAnd now (λ held. (s : ℕ) → held s ≡ disk s)

-- the sectors from this one on were set to these bytes, and no other sector changed
abbrev pub Sets : Option Sectors → Option Sectors → ℕ → List ℕ → Type 0
Sets None now first bytes = now ≡ None
Sets (Some disk) now first bytes = IsSomeAnd now (λ held. (s : ℕ) → held s ≡ with_bytes disk first bytes s)

-- these are the bytes of the sectors from this one on
abbrev pub ReadsSectors : Option Sectors → ℕ → List ℕ → Type 0
ReadsSectors held first bytes = IfSome held (λ disk. bytes ≡ bytes_at disk first (length bytes / 512))

-- one call more, which failed exactly where its number is in the plan
abbrev pub MakesCall : Option StoreCalls → Option StoreCalls → Type 0 → Type 0
MakesCall None now Fails = now ≡ None
MakesCall (Some before) now Fails =
    IsSomeAnd now (λ after. (after.plan ≡ before.plan) × (after.calls ≡ next_count before.calls)
    × (Fails ↔ Contains before.plan before.calls))
