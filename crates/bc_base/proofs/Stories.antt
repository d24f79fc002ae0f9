-- Laws on prefixes and on own entries.
use Rattle.std.proofs.Common.{◌≡◌, ◌≢◌, ℕ, ◌≤◌, List, [], ◌∷◌, ◌++◌, length, append-nil, length-append, refl, sym, ap, ◌∙◌, arith}
use Rattle.std.specs.Prelude.{◌==◌}
use Rattle.std.proofs.lemmas.Bool.{ne_eqb}
use Rattle.std.proofs.lemmas.List.{append_assoc}
use Rattle.std.proofs.lemmas.List.Elements.{filter-append}
use Rattle.bc_base.specs.Lists.{Each}
use Rattle.bc_base.specs.Story.{own, StartsWith}

module _ {E : Type 0} where
  pub begins_itself : (story : List E) → StartsWith story story
  begins_itself story = ([], sym (append-nil story))

  pub begins_more : (story seen more : List E) → StartsWith story seen → StartsWith (story ++ more) seen
  begins_more story seen more begins = (begins.0 ++ more, ap (λ l. l ++ more) begins.1 ∙ append_assoc seen begins.0 more)

  pub begins_trans : (first second third : List E) → StartsWith second first → StartsWith third second → StartsWith third first
  begins_trans first second third begins more =
      (begins.0 ++ more.0, more.1 ∙ ap (λ l. l ++ more.0) begins.1 ∙ append_assoc first begins.0 more.0)

  pub begins_length : (story seen : List E) → StartsWith story seen → length seen ≤ length story
  begins_length story seen begins = let l = ap length begins.1 ∙ length-append seen begins.0 in omega arith

  pub own-append : (by : E → ℕ) (caller : ℕ) (first second : List E) → own by caller (first ++ second) ≡ own by caller first ++ own by caller second
  own-append by caller first second = filter-append (λ e. by e == caller) first second

  -- none of one caller's entries are another's
  pub own_other : (by : E → ℕ) (caller other : ℕ) (story : List E) → Each (λ e. by e ≡ other) story → other ≢ caller → own by caller story ≡ []
  own_other by caller other [] each apart = refl
  own_other by caller other (e ∷ story) each apart =
      rw (ne_eqb (by e) caller (λ same. apart (sym each.0 ∙ same))) (own_other by caller other story each.1 apart)
