-- Words on lists for contracts that speak of one element of several: of one shard, one cell or one pass.
-- The words for whole lists (`All`, `AllZip`, `slice_set`, `map`) are std's.
use Rattle.std.specs.Prelude.{◌≡◌, ℕ, ◌+◌, List, [], ◌∷◌, slice_get, slice_set, slice_index_or, Some, ⊤}
use Rattle.std.specs.List.{AllByRecursion}

-- P holds of each element: std's word, by a shorter name
abbrev pub Each : {A : Type 0} → (A → Type 0) → List A → Type 0
Each P xs = AllByRecursion P xs

-- each element is such at its place, counted from this place on
abbrev pub EachFrom : {A : Type 0} → (ℕ → A → Type 0) → ℕ → List A → Type 0
EachFrom P place [] = ⊤
EachFrom P place (x ∷ xs) = P place x × EachFrom P (place + 1) xs

-- x stands at this place
abbrev pub At : {A : Type 0} → List A → ℕ → A → Type 0
At xs place x = slice_get xs place ≡ Some x

-- whatever stands at this place is such
abbrev pub AllAt : {A : Type 0} → List A → ℕ → (A → Type 0) → Type 0
AllAt {A} xs place P = (x : A) → At xs place x → P x

-- the element at this place changed, in such a way, and no other
abbrev pub ChangesAt : {A : Type 0} → List A → List A → ℕ → (A → A → Type 0) → Type 0
ChangesAt {A} xs ys place R = (x : A) × (y : A) × At xs place x × (ys ≡ slice_set xs place y) × R x y

-- the list at this place; an empty one where there is no such place
abbrev pub list_at : {A : Type 0} → List (List A) → ℕ → List A
list_at lists place = slice_index_or lists place []
