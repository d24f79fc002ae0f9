-- Laws on the elements of a list at their places.
use Rattle.std.proofs.Common.{◌≡◌, ℕ, zero, suc, ◌<◌, List, [], ◌∷◌, ◌++◌, length, map, set, get_or, refl, sym, ap, ◌∙◌, subst, Some}
use mathlib.Core.List.{reverse}
use Rattle.std.proofs.lemmas.List.{reverse-append}
use Rattle.std.proofs.lemmas.Option.{none-some, same_Some, slice_get_read}
use Rattle.bc_base.specs.Lists.{Each, At, AllAt}

module _ {A : Type 0} where
  pub each_front : (P : A → Type 0) (xs ys : List A) → Each P (xs ++ ys) → Each P xs
  each_front P [] ys each = tt
  each_front P (x ∷ xs) ys each = (each.0, each_front P xs ys each.1)

  pub each_back : (P : A → Type 0) (xs ys : List A) → Each P (xs ++ ys) → Each P ys
  each_back P [] ys each = each
  each_back P (x ∷ xs) ys each = each_back P xs ys each.1

  pub each_append : (P : A → Type 0) (xs ys : List A) → Each P xs → Each P ys → Each P (xs ++ ys)
  each_append P [] ys each more = more
  each_append P (x ∷ xs) ys each more = (each.0, each_append P xs ys each.1 more)

  pub each_reverse : (P : A → Type 0) (xs : List A) → Each P xs → Each P (reverse xs)
  each_reverse P [] each = tt
  each_reverse P (x ∷ xs) each = subst (Each P) (sym (reverse-append (x ∷ []) xs)) (each_append P (reverse xs) (x ∷ []) (each_reverse P xs each.1) (each.0, tt))

  pub each_both : (P Q R : A → Type 0) → ((x : A) → P x → Q x → R x) → (xs : List A) → Each P xs → Each Q xs → Each R xs
  each_both P Q R both [] each other = tt
  each_both P Q R both (x ∷ xs) each other = (both x each.0 other.0, each_both P Q R both xs each.1 other.1)

  pub each_set : (P : A → Type 0) (xs : List A) (place : ℕ) (x : A) → Each P xs → P x → Each P (set xs place x)
  each_set P [] place x each is = tt
  each_set P (y ∷ xs) zero x each is = (is, each.1)
  each_set P (y ∷ xs) (suc place) x each is = (each.0, each_set P xs place x each.1 is)

  pub each_at : (P : A → Type 0) (xs : List A) (place : ℕ) (x : A) → Each P xs → At xs place x → P x
  each_at P [] place x each at = absurd (none-some x at)
  each_at P (y ∷ xs) zero x each at = subst P (same_Some y x at) each.0
  each_at P (y ∷ xs) (suc place) x each at = each_at P xs place x each.1 at

  -- an element that is read at a place below the length stands there
  pub at_read : (xs : List A) (place : ℕ) (x : A) → place < length xs → x ≡ get_or xs place x → At xs place x
  at_read xs place x inside is = slice_get_read xs (length xs) place x refl inside is

  -- one thing stands at a place
  pub at_one : (xs : List A) (place : ℕ) (x y : A) → At xs place x → At xs place y → x ≡ y
  at_one xs place x y at also = same_Some x y (sym at ∙ also)

  -- what is said of the element at a place is said of whatever stands there
  pub all_at : (xs : List A) (place : ℕ) (x : A) (P : A → Type 0) → At xs place x → P x → AllAt xs place P
  all_at xs place x P at is = λ y also. subst P (at_one xs place x y at also) is

pub at_map : {A B : Type 0} (f : A → B) (xs : List A) (place : ℕ) (x : A) → At xs place x → At (map f xs) place (f x)
at_map f [] place x at = absurd (none-some x at)
at_map f (y ∷ xs) zero x at = ap (λ (z : _). Some (f z)) (same_Some y x at)
at_map f (y ∷ xs) (suc place) x at = at_map f xs place x at
