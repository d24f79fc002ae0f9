-- What stands after the last line feed of a whole text.
use Rattle.std.proofs.Common.{◌≡◌, true, false, [], ◌∷◌, refl, ap, sym, ◌∙◌}
use Rattle.bc_text.specs.Lines.{TextLine, nothing, is_nothing}

pub is_the_nothing : (line : TextLine) → is_nothing line ≡ true → line ≡ nothing
is_the_nothing [] h = absurd cc
is_the_nothing ([] ∷ []) h = refl
is_the_nothing ((b ∷ bs) ∷ []) h = absurd cc
is_the_nothing ([] ∷ f ∷ fs) h = absurd cc
is_the_nothing ((b ∷ bs) ∷ f ∷ fs) h = absurd cc

pub is_not_nothing : (line : TextLine) → is_nothing line ≡ false → line ≡ nothing → ⊥
is_not_nothing line h e = no (sym (ap is_nothing e) ∙ h)
  where
    no : true ≡ false → ⊥
    no f = absurd cc
