-- Lists of which each gets an element more, and lists that are joined place by place.
use Rattle.std.proofs.Common.{◌≡◌, ℕ, zero, suc, ◌+◌, ◌-◌, ◌≤◌, List, [], ◌∷◌, ◌++◌, map, length, take, drop, set, replicate, refl, sym, ap, ap₂, ◌∙◌, subst, arith, Some, length-append}
use Rattle.std.proofs.lemmas.Option.{none-some, same_Some}
use Rattle.bc_base.specs.Lists.{Each, At}
use Rattle.bc_disk.specs.Dealing.{dealt}

pub replicate_push : {A : Type 0} (n : ℕ) (x : A) → replicate (n + 1) x ≡ replicate n x ++ x ∷ []
replicate_push n x = let z : n + 1 ≡ suc n = omega arith in ap (λ k. replicate k x) z ∙ more n
  where
    more : (k : ℕ) → replicate (suc k) x ≡ replicate k x ++ x ∷ []
    more zero = refl
    more (suc k) = ap (λ l. x ∷ l) (more k)

pub dealt_none : {A : Type 0} (lists : List (List A)) → dealt lists [] ≡ lists
dealt_none [] = refl
dealt_none (list ∷ lists) = refl

dealt_step : {A : Type 0} (lists : List (List A)) (row : List A) (list : List A) (x : A) → At lists (length row) list → dealt (set lists (length row) (list ++ x ∷ [])) row ≡ dealt lists (row ++ x ∷ [])
dealt_step [] row list x at = absurd (none-some list at)
dealt_step (first ∷ lists) [] list x at = ap₂ (λ z zs. (z ++ x ∷ []) ∷ zs) (sym (same_Some first list at)) (sym (dealt_none lists))
dealt_step (first ∷ lists) (y ∷ row) list x at = ap (λ zs. (first ++ y ∷ []) ∷ zs) (dealt_step lists row list x at)

map_set : {A B : Type 0} (f : A → B) (xs : List A) (k : ℕ) (y : A) → map f (set xs k y) ≡ set (map f xs) k (f y)
map_set f [] k y = refl
map_set f (x ∷ xs) zero y = refl
map_set f (x ∷ xs) (suc k) y = ap (λ l. f x ∷ l) (map_set f xs k y)

pub length_set : {A : Type 0} (xs : List A) (k : ℕ) (y : A) → length (set xs k y) ≡ length xs
length_set [] k y = refl
length_set (x ∷ xs) zero y = refl
length_set (x ∷ xs) (suc k) y = ap suc (length_set xs k y)

at_map : {A B : Type 0} (f : A → B) (xs : List A) (k : ℕ) (x : A) → At xs k x → At (map f xs) k (f x)
at_map f [] k x at = absurd (none-some x at)
at_map f (y ∷ xs) zero x at = ap (λ z. Some (f z)) (same_Some y x at)
at_map f (y ∷ xs) (suc k) x at = at_map f xs k x at

-- dealing the last of a row
pub dealt_last : {V A : Type 0} (items : V → List A) (lists : List V) (row rest : List A) (x : A) (place : ℕ) (old new : V) (whole : List (List A)) → place ≡ length row → row ≡ rest ++ x ∷ [] → At lists (place - 1) old → items new ≡ items old ++ x ∷ []
    → dealt (map items lists) row ≡ whole → dealt (map items (set lists (place - 1) new)) rest ≡ whole
dealt_last {V} {A} items lists row rest x place old new whole long pop at push was =
    let k : place - 1 ≡ length rest = let a = ap length pop ∙ length-append rest (x ∷ []) in omega arith in
    let here : At (map items lists) (length rest) (items old) = subst (λ n. At (map items lists) n (items old)) k (at_map items lists (place - 1) old at) in
    ap (λ l. dealt l rest) (map_set items lists (place - 1) new)
    ∙ ap₂ (λ (n : ℕ) (z : List A). dealt (set (map items lists) n z) rest) k push
    ∙ dealt_step (map items lists) rest (items old) x here
    ∙ ap (dealt (map items lists)) (sym pop)
    ∙ was

module _ {V : Type 0} (P Q : V → Type 0) where
  step_at : (lists : List V) (k : ℕ) (new : V) → ((old : V) → At lists k old → P old → Q new) → Each P (take (suc k) lists) × Each Q (drop (suc k) lists) → Each P (take k (set lists k new)) × Each Q (drop k (set lists k new))
  step_at [] zero new f e = (tt, tt)
  step_at [] (suc k) new f e = (tt, tt)
  step_at (x ∷ xs) zero new f e = (tt, (f x refl e.0.0, e.1))
  step_at (x ∷ xs) (suc k) new f e = let r = step_at xs k new f (e.0.1, e.1) in ((e.0.0, r.0), r.1)

  -- one place more is such
  pub room_step : (lists : List V) (place : ℕ) (new : V) → 1 ≤ place → ((old : V) → At lists (place - 1) old → P old → Q new) → Each P (take place lists) × Each Q (drop place lists) → Each P (take (place - 1) (set lists (place - 1) new)) × Each Q (drop (place - 1) (set lists (place - 1) new))
  room_step lists place new some f e =
      let z : place ≡ suc (place - 1) = omega arith in
      step_at lists (place - 1) new f (subst (λ n. Each P (take n lists) × Each Q (drop n lists)) z e)

  whole : (lists : List V) → Each P lists → Each P (take (length lists) lists) × Each Q (drop (length lists) lists)
  whole [] e = (tt, tt)
  whole (x ∷ xs) e = let r = whole xs e.1 in ((e.0, r.0), r.1)

  -- none is such yet
  pub room_whole : (lists : List V) (place : ℕ) → place ≡ length lists → Each P lists → Each P (take place lists) × Each Q (drop place lists)
  room_whole lists place is e = subst (λ n. Each P (take n lists) × Each Q (drop n lists)) (sym is) (whole lists e)

  -- each is
  pub room_all : (lists : List V) (place : ℕ) → place ≡ 0 → Each P (take place lists) × Each Q (drop place lists) → Each Q lists
  room_all lists place none e = (subst (λ n. Each P (take n lists) × Each Q (drop n lists)) none e).1

below_at : {V : Type 0} (P : V → Type 0) (lists : List V) (k : ℕ) (x : V) → Each P (take (suc k) lists) → At lists k x → P x
below_at P [] k x e at = absurd (none-some x at)
below_at P (y ∷ ys) zero x e at = subst P (same_Some y x at) e.0
below_at P (y ∷ ys) (suc k) x e at = below_at P ys k x e.1 at

-- the last of the first ones is such
pub last_below : {V : Type 0} (P : V → Type 0) (lists : List V) (place : ℕ) (x : V) → 1 ≤ place → Each P (take place lists) → At lists (place - 1) x → P x
last_below P lists place x some e at = let z : place ≡ suc (place - 1) = omega arith in below_at P lists (place - 1) x (subst (λ n. Each P (take n lists)) z e) at
