-- What a visit does to a tally, and when a pass may visit it.
use Rattle.std.specs.Prelude.{◌≡◌, ℕ, ◌<◌, ◌^◌, List, ◌++◌, length, false}
use Rattle.bc_base.specs.Lists.{Each, AllAt}
use Rattle.bc_turn.specs.PassParts.{Pass, TurnsData, IsOf}

-- the marks that were there, and then some of this caller
pub record AddsMarks (caller : ℕ) (old new : List ℕ) : Type 0 where
  pub more : List ℕ
  pub marks : new ≡ old ++ more
  pub by_caller : Each (λ mark. mark ≡ caller) more
  pub few : length old < 2 ^ 62 → length new < 2 ^ 62

-- the pass is one of these turns, of which there is one at least, and doesn't hold the first cell
abbrev pub IsReadyPass : {B : Type 0} → TurnsData B → Pass ℕ B → Type 0
IsReadyPass turns pass = IsOf turns pass × (0 < length turns.cells) × AllAt pass.parts 0 (λ part. part.holds ≡ false)
