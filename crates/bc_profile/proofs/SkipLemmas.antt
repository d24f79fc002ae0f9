-- The slots that a programming skips: those before the first one of the idle order that isn't held.
use Rattle.std.proofs.Common.{◌≡◌, ℕ, Bool, true, false, cond, List, [], ◌∷◌, refl, sym, ap, ◌∙◌, Some}
use Rattle.std.specs.Prelude.{◌==◌, not, find, take_while}
use Rattle.std.proofs.lemmas.Bool.{true≢false, eq-eqb, ne_eqb}
use Rattle.std.proofs.lemmas.Option.{none-some, same_Some}
use Rattle.std.proofs.lemmas.List.Sums.{take_while-cons}

-- the first one that isn't held isn't held
pub first_free : (held : ℕ → Bool) (order : List ℕ) (slot : ℕ) → find (λ o. not (held o)) order ≡ Some slot → held slot ≡ false
first_free held [] slot e = absurd (none-some slot e)
first_free held (x ∷ xs) slot e =
    (elim (held x) as (λ (b : Bool). held x ≡ b → cond (not b) (Some x) (find (λ o. not (held o)) xs) ≡ Some slot → held slot ≡ false) [
      | true ↦ λ _ e'. first_free held xs slot e'
      | false ↦ λ is e'. ap held (sym (same_Some x slot e')) ∙ is
    ]) refl e

-- so those that are held before it are those before it, without a thought of whether the order has a slot twice
pub skipped : (held : ℕ → Bool) (order : List ℕ) (slot : ℕ) → find (λ o. not (held o)) order ≡ Some slot → take_while held order ≡ take_while (λ o. not (o == slot)) order
skipped held [] slot e = absurd (none-some slot e)
skipped held (x ∷ xs) slot e =
    take_while-cons held x xs
    ∙ (elim (held x) as (λ (b : Bool). held x ≡ b → cond (not b) (Some x) (find (λ o. not (held o)) xs) ≡ Some slot → cond b (x ∷ take_while held xs) [] ≡ cond (not (x == slot)) (x ∷ take_while (λ o. not (o == slot)) xs) []) [
      | true ↦ λ is e'.
          ap (λ (l : List ℕ). x ∷ l) (skipped held xs slot e')
          ∙ sym (ap (λ (t : Bool). cond (not t) (x ∷ take_while (λ o. not (o == slot)) xs) []) (ne_eqb x slot (λ same. true≢false (sym is ∙ ap held same ∙ first_free held xs slot e'))))
      | false ↦ λ _ e'. sym (ap (λ (t : Bool). cond (not t) (x ∷ take_while (λ o. not (o == slot)) xs) []) (eq-eqb x slot (same_Some x slot e')))
    ]) refl e
    ∙ sym (take_while-cons (λ o. not (o == slot)) x xs)
