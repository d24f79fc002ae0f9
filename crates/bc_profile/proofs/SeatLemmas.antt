-- Passes that are moved from one list to another.
use Rattle.std.proofs.Common.{◌≡◌, List, [], ◌∷◌, ◌++◌, map, refl, sym, ap, ◌∙◌}
use Rattle.std.proofs.lemmas.List.{append_assoc, map-append, reverse-append, reverse-reverse}
use mathlib.Core.List.{reverse}

module _ {A B : Type 0} (f : A → B) where
  pub one_moved : (done done' whole : List B) (left left' : List A) (x : A) → left ≡ left' ++ x ∷ [] → done' ≡ done ++ f x ∷ [] → done ++ map f (reverse left) ≡ whole → done' ++ map f (reverse left') ≡ whole
  one_moved done done' whole left left' x pop push moved =
      ap (λ l. l ++ map f (reverse left')) push
      ∙ append_assoc done (f x ∷ []) (map f (reverse left'))
      ∙ ap (λ l. done ++ map f l) (sym (ap reverse pop ∙ reverse-append left' (x ∷ [])))
      ∙ moved

  pub none_moved : (done : List B) (all left : List A) → done ≡ [] → left ≡ reverse all → done ++ map f (reverse left) ≡ map f all
  none_moved done all left none round = ap (λ l. l ++ map f (reverse left)) none ∙ ap (λ l. map f (reverse l)) round ∙ ap (map f) (reverse-reverse all)

map-self : {A : Type 0} (xs : List A) → map (λ x. x) xs ≡ xs
map-self [] = refl
map-self (x ∷ xs) = ap (λ l. x ∷ l) (map-self xs)

module _ {A B : Type 0} (f : A → B) where
  pub one_back : (done done' : List A) (whole left left' : List B) (x : A) (y : B) → left ≡ left' ++ y ∷ [] → f x ≡ y → done' ≡ done ++ x ∷ [] → map f done ++ reverse left ≡ whole → map f done' ++ reverse left' ≡ whole
  one_back done done' whole left left' x y pop same push moved =
      ap (λ l. map f l ++ reverse left') push ∙ ap (λ l. l ++ reverse left') (map-append f done (x ∷ []))
      ∙ append_assoc (map f done) (f x ∷ []) (reverse left')
      ∙ ap (λ z. map f done ++ z ∷ reverse left') same
      ∙ ap (λ l. map f done ++ l) (sym (ap reverse pop ∙ reverse-append left' (y ∷ [])))
      ∙ moved

  pub none_back : (done : List A) (all left : List B) → done ≡ [] → left ≡ reverse all → map f done ++ reverse left ≡ all
  none_back done all left none round = ap (λ l. map f l ++ reverse left) none ∙ ap reverse round ∙ reverse-reverse all
