-- Lists that grow by one element at their end.
use Rattle.std.proofs.Common.{◌≡◌, ℕ, zero, suc, ◌+◌, ◌<◌, ◌⊎◌, inl, inr, List, [], ◌∷◌, ◌++◌, length, map, take, get_or, refl, sym, ap, subst, ◌∙◌}
use Rattle.std.specs.List.{AllByRecursion}
use Rattle.std.proofs.Math.Logic.{⊎_elim}
use Rattle.std.proofs.lemmas.Option.{none-some, same_Some}
use Rattle.std.proofs.lemmas.List.{map_push}
use Rattle.bc_base.specs.Lists.{At, AllAt}
use Rattle.bc_section.proofs.Lists.{take_next}
use Rattle.bc_base.proofs.Members.{all_append}

-- what stands in a list with one element more
pub at_push : {A : Type 0} (xs : List A) (y : A) (k : ℕ) (z : A) → At (xs ++ y ∷ []) k z → ((k ≡ length xs) × (y ≡ z)) ⊎ At xs k z
at_push [] y zero z at = inl (refl, same_Some y z at)
at_push [] y (suc k) z at = absurd (none-some z at)
at_push (x ∷ xs) y zero z at = inr at
at_push (x ∷ xs) y (suc k) z at = ⊎_elim (λ (last : (k ≡ length xs) × (y ≡ z)). inl (ap suc last.0, last.1)) (λ (before : At xs k z). inr before) (at_push xs y k z at)

pub places_more : {A : Type 0} (P : ℕ → A → Type 0) (xs ys : List A) (y : A) (n : ℕ) → ys ≡ xs ++ y ∷ [] → length xs ≡ n → ((k : ℕ) → AllAt xs k (P k)) → P n y → (k : ℕ) → AllAt ys k (P k)
places_more P xs ys y n more long all last k z at =
    ⊎_elim (λ (end : (k ≡ length xs) × (y ≡ z)). subst (λ j. P j z) (sym (end.0 ∙ long)) (subst (P n) end.1 last)) (λ (before : At xs k z). all k z before)
    (at_push xs y k z (subst (λ l. At l k z) more at))

pub places_none : {A : Type 0} (P : ℕ → A → Type 0) (xs : List A) → xs ≡ [] → (k : ℕ) → AllAt xs k (P k)
places_none P xs none k z at = absurd (none-some z (subst (λ l. At l k z) none at))

-- elements that are mapped one by one
pub map_more : {A B : Type 0} (f : A → B) (xs : List A) (i : ℕ) (x : A) (ys ys' : List B) (y : B) → i < length xs → x ≡ get_or xs i x → ys ≡ map f (take i xs) → y ≡ f x → ys' ≡ ys ++ y ∷ []
    → ys' ≡ map f (take (i + 1) xs)
map_more f xs i x ys ys' y lt read before is more =
    more ∙ ap (λ l. l ++ y ∷ []) before ∙ ap (λ z. map f (take i xs) ++ z ∷ []) is ∙ sym (map_push f (take i xs) x) ∙ ap (map f) (sym (take_next xs i x lt read))

pub each_more : {A : Type 0} (P : A → Type 0) (ys ys' : List A) (y : A) → ys' ≡ ys ++ y ∷ [] → AllByRecursion P ys → P y → AllByRecursion P ys'
each_more P ys ys' y more all last = subst (AllByRecursion P) (sym more) (all_append P ys (y ∷ []) all (last, tt))
