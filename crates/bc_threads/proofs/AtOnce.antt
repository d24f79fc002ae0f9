-- Lists whose elements were changed at once, each at its place.
use Rattle.std.proofs.Common.{◌≡◌, ℕ, suc, ◌<◌, List, [], ◌∷◌, length, get_or, subst, arith}
use Rattle.std.specs.List.{AllZip}

pub zip_from_places : {A : Type 0} (R : A → A → Type 0) (xs ys : List A) → length ys ≡ length xs → ((i : ℕ) (d : A) → i < length xs → R (get_or xs i d) (get_or ys i d)) → AllZip R xs ys
zip_from_places R [] [] long each = tt
zip_from_places R [] (y ∷ ys) long each = absurd (omega arith)
zip_from_places R (x ∷ xs) [] long each = absurd (omega arith)
zip_from_places R (x ∷ xs) (y ∷ ys) long each = (each 0 x (omega arith), zip_from_places R xs ys (omega arith) (λ i d lt. each (suc i) d (omega arith)))

pub moved : {A : Type 0} (R : A → A → Type 0) (a x b y : A) → a ≡ x → b ≡ y → R a b → R x y
moved R a x b y before after is = subst (λ z. R z y) before (subst (R a) after is)
