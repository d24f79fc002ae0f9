-- Stories: lists of entries that each name a caller, of which a caller has seen a prefix.
use Rattle.std.specs.Prelude.{◌≡◌, ℕ, ◌==◌, List, ◌++◌, filter}

-- the entries of one caller
abbrev pub own : {E : Type 0} → (E → ℕ) → ℕ → List E → List E
own by caller story = filter (λ entry. by entry == caller) story

-- the story begins with what was seen
abbrev pub StartsWith : {E : Type 0} → List E → List E → Type 0
StartsWith {E} story seen = (more : List E) × (story ≡ seen ++ more)

-- what was seen is a prefix of the story that has all of its caller's entries
pub record IsFront {E : Type 0} (by : E → ℕ) (caller : ℕ) (seen story : List E) : Type 0 where
  pub begins : StartsWith story seen
  pub own_entries : own by caller story ≡ own by caller seen
