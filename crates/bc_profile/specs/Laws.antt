-- The laws of holds, by the prefixes of the story that a pass has seen: each front begins the next
-- one, and `before` is an earlier one.
use Rattle.std.specs.Prelude.{ℕ, ◌<◌, ◌≤◌, List, length}
use Rattle.bc_base.specs.Story.{StartsWith}
use Rattle.bc_profile.specs.declared.noted.Noted.{Noted}
use Rattle.bc_profile.specs.Story.{Holds, IsGone, Programs}

-- a hold names an event that programmed its slot with its key
abbrev pub HoldsNameProgrammings : Type 0
HoldsNameProgrammings =
    (count : ℕ) (front : List Noted) (key slot epoch : ℕ) → Holds count front key slot epoch
    → Programs front epoch slot key

-- what an event of a prefix programmed, it programmed in each later front; and it is one of the
-- events of the front
abbrev pub ProgrammingsStay : Type 0
ProgrammingsStay =
    (before front : List Noted) (epoch slot key : ℕ) → StartsWith front before
    → Programs before epoch slot key → Programs front epoch slot key × (epoch < length before)

-- a later hold of a key names no earlier event than any that programmed the key in a prefix that was
-- seen before
abbrev pub LaterHoldsNameLater : Type 0
LaterHoldsNameLater =
    (count : ℕ) (before front : List Noted) (key slot epoch other earlier : ℕ) → StartsWith front before
    → Programs before earlier other key → Holds count front key slot epoch → earlier ≤ epoch

-- a hold of a key that was gone at the end of an earlier prefix names an event after that prefix
abbrev pub HoldsAfterEvictions : Type 0
HoldsAfterEvictions =
    (count : ℕ) (before front : List Noted) (key slot epoch : ℕ) → StartsWith front before
    → IsGone count before key → Holds count front key slot epoch → length before ≤ epoch
