-- Entries of callers, quotas, and prefixes of a story.
use Rattle.std.proofs.Common.{◌≡◌, ◌≢◌, ℕ, ◌+◌, ◌-◌, ◌<◌, ◌≤◌, List, [], ◌∷◌, ◌++◌, length, set, get_or, refl, sym, ap, ◌∙◌, subst, arith, eq-eqb, ne_eqb, append-nil}
use Rattle.std.specs.Prelude.{sum, ◌==◌}
use Rattle.std.proofs.lemmas.List.{append_assoc, get_or_past, get_or-set_same, get_or-set_other}
use Rattle.std.proofs.lemmas.List.Elements.{filter-append}
use mathlib.Core.Logic.{dite}
use native.Mathlib.Decide.{dec_lt, ℕ_discrete}
use Rattle.bc_base.specs.Lists.{Each}
use Rattle.bc_base.specs.Story.{own, StartsWith}
use Rattle.bc_base.proofs.Members.{sum-set}

module _ {E : Type 0} where
  pub begins_itself : (story : List E) → StartsWith story story
  begins_itself story = ([], sym (append-nil story))

  pub begins_trans : (first second third : List E) → StartsWith second first → StartsWith third second → StartsWith third first
  begins_trans first second third begins more =
      (begins.0 ++ more.0, more.1 ∙ ap (λ l. l ++ more.0) begins.1 ∙ append_assoc first begins.0 more.0)

  pub own-append : (by : E → ℕ) (caller : ℕ) (first second : List E) → own by caller (first ++ second) ≡ own by caller first ++ own by caller second
  own-append by caller first second = filter-append (λ e. by e == caller) first second

  pub own-each : (by : E → ℕ) (c : ℕ) (xs : List E) → Each (λ x. by x ≡ c) xs → own by c xs ≡ xs
  own-each by c [] e = refl
  own-each by c (x ∷ xs) e = rw (eq-eqb (by x) c e.0) (ap (λ l. x ∷ l) (own-each by c xs e.1))

  pub own_other : (by : E → ℕ) (caller other : ℕ) (story : List E) → Each (λ e. by e ≡ other) story → other ≢ caller → own by caller story ≡ []
  own_other by caller other [] each apart = refl
  own_other by caller other (e ∷ story) each apart =
      rw (ne_eqb (by e) caller (λ same. apart (sym each.0 ∙ same))) (own_other by caller other story each.1 apart)

-- ---- callers that keep within their quotas leave room

module _ {E : Type 0} (by : E → ℕ) where
  within_less : (es : List E) (q : List ℕ) (c n : ℕ) → c < length q → n ≤ get_or q c 0 → ((d : ℕ) → d ≢ c → length (own by d es) ≤ get_or q d 0) → length (own by c es) ≤ n → (d : ℕ) → length (own by d es) ≤ get_or (set q c n) d 0
  within_less es q c n inside le others own_part d = dite (ℕ_discrete d c)
      (λ e. let s = get_or-set_same q c n 0 inside in subst (λ m. length (own by m es) ≤ get_or (set q c n) m 0) (sym e) (omega arith))
      (λ ne. let s = get_or-set_other q c d n 0 ne in let o = others d ne in omega arith)

  inside_of : (q : List ℕ) (c : ℕ) → 0 < get_or q c 0 → c < length q
  inside_of q c l = dite (dec_lt c (length q)) (λ k. k) (λ no. let z = get_or_past q c 0 (omega arith) in absurd (omega arith))

  pub fits : (es : List E) (q : List ℕ) → ((c : ℕ) → length (own by c es) ≤ get_or q c 0) → length es ≤ sum q
  fits [] q w = omega arith
  fits (e ∷ es) q w =
      let c : ℕ = by e in let n : ℕ = get_or q c 0 - 1 in
      let here : own by c (e ∷ es) ≡ e ∷ own by c es = rw (eq-eqb c c refl) refl in
      let one = w c in let l = ap length here in
      let inside : c < length q = inside_of q c (omega arith) in
      let s = sum-set q c n inside in
      let rest = fits es (set q c n) (within_less es q c n inside (omega arith) (λ d ne. subst (λ l. length l ≤ get_or q d 0) (rw (ne_eqb c d (λ h. ne (sym h))) refl) (w d)) (omega arith)) in omega arith

  pub leaves_room : (es : List E) (q : List ℕ) (c : ℕ) → ((d : ℕ) → length (own by d es) ≤ get_or q d 0) → length (own by c es) < get_or q c 0 → length es < sum q
  leaves_room es q c w less =
      let n : ℕ = get_or q c 0 - 1 in
      let inside : c < length q = inside_of q c (omega arith) in
      let s = sum-set q c n inside in
      let rest = fits es (set q c n) (within_less es q c n inside (omega arith) (λ d ne. w d) (omega arith)) in omega arith
