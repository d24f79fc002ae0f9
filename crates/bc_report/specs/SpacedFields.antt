-- Fields that follow the first one of a line. The contracts of private functions speak of these; no
-- public one does.
use Rattle.std.specs.Prelude.{ℕ, List, ◌∷◌, flat_map}
use Rattle.bc_text.specs.Lines.{TextLine, space}

-- each field with a space before it
abbrev pub spaced : TextLine → List ℕ
spaced fields = flat_map (λ field. space ∷ field) fields
