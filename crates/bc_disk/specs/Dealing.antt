-- Private: lists of which each gets an element more, and lists that are joined place by place.
use Rattle.std.specs.Prelude.{ℕ, List, [], ◌∷◌, ◌++◌, map}
use Rattle.bc_turn.specs.PassParts.{Pass}
use Rattle.bc_medium.specs.declared.entry.Entry.{Entry}
use Rattle.bc_medium.specs.Medium.{OpeningData}
use Rattle.bc_profile.specs.Passes.{SlotFacts, new_pass}
use Rattle.bc_ufs.specs.Controllers.{ControllerData}
use Rattle.bc_disk.specs.Disks.{PassData, pass_by}

-- each list with the element of its place more
abbrev pub dealt : {A : Type 0} → List (List A) → List A → List (List A)
dealt [] row = []
dealt (list ∷ lists) [] = list ∷ lists
dealt (list ∷ lists) (x ∷ row) = (list ++ x ∷ []) ∷ dealt lists row

-- the passes that have these parts, place by place
abbrev pub passes_with : {S : Type 0} → List (List SlotFacts) → List (Pass Entry (OpeningData S)) → List (PassData S)
passes_with [] units = []
passes_with (slots ∷ rows) [] = []
passes_with (slots ∷ rows) (units ∷ rest) = pass_by units.caller slots units ∷ passes_with rows rest

-- the new passes of a caller, one of each device's keyslots
abbrev pub new_slots : List ControllerData → ℕ → List SlotFacts
new_slots controllers caller = map (λ controller. new_pass controller.profile caller) controllers
