-- The outcomes of a section, taken out of their options.
use Rattle.std.proofs.Common.{◌≡◌, ◌∙◌, ℕ, zero, suc, ◌+◌, ◌<◌, ◌≤◌, List, [], ◌∷◌, ◌++◌, length, map, drop, take, refl, sym, ap, arith, Option, Some, None}
use Rattle.std.specs.Prelude.{slice_get, slice_set}
use Rattle.std.proofs.lemmas.List.{map-append}
use Rattle.std.proofs.lemmas.Option.{get_or_from_slice_get, none-some, same_Some, slice_get_within}
use Rattle.bc_base.specs.Lists.{At}
use Rattle.bc_section.proofs.Lists.{take_next}
use Rattle.bc_section.proofs.Reaching.{get_set_other, length_set}

module _ {X : Type 0} where
  -- these have been taken out, and those from this place on are as they were
  pub record AreOut (all now : List (Option X)) (i : ℕ) (out : List X) : Type 0 where
    pub taken : map (λ x. Some x) out ≡ take i all
    pub rest : (k : ℕ) → i ≤ k → slice_get now k ≡ slice_get all k
    pub long : length now ≡ length all
    pub many : length out ≡ i

  pub one_out : (all now : List (Option X)) (i : ℕ) (out : List X) (x : X) → AreOut all now i out → At now i (Some x) → AreOut all (slice_set now i None) (i + 1) (out ++ x ∷ [])
  one_out all now i out x is at' =
      let there : slice_get all i ≡ Some (Some x) = sym (is.rest i (omega arith)) ∙ at' in
      let lt : i < length all = slice_get_within all i (Some x) there in
      let next : take (i + 1) all ≡ take i all ++ Some x ∷ [] = take_next all i (Some x) lt (sym (get_or_from_slice_get all i (Some x) (Some x) there)) in
      let one : length (out ++ x ∷ []) ≡ length out + 1 = length_more out x in
      let many = is.many in
      record {
        taken = map-append (λ y. Some y) out (x ∷ []) ∙ ap (λ (l : List (Option X)). l ++ Some x ∷ []) is.taken ∙ sym next;
        rest = λ k past. get_set_other now i k None (λ e. omega (arith, e, past)) ∙ is.rest k (omega (arith, past));
        long = length_set now i None ∙ is.long;
        many = omega (arith, one, many);
      }
    where
      length_more : (xs : List X) (x : X) → length (xs ++ x ∷ []) ≡ length xs + 1
      length_more [] x = refl
      length_more (y ∷ ys) x = let r = length_more ys x in omega (arith, r)

  -- each of them is there, where they are some outcomes
  pub all_there : (replies : List X) (k : ℕ) → k < length (map (λ (x : X). Some x) replies) → (x : X) × At (map (λ (x : X). Some x) replies) k (Some x)
  all_there [] k lt = absurd (omega (arith, lt))
  all_there (x ∷ replies) zero lt = (x, refl)
  all_there (x ∷ replies) (suc k) lt = all_there replies k (omega (arith, lt))

  -- options of the same are the same
  pub same_out : (xs ys : List X) → map (λ (x : X). Some x) xs ≡ map (λ (x : X). Some x) ys → xs ≡ ys
  same_out [] [] is = refl
  same_out [] (y ∷ ys) is = absurd (none-some (Some y) (ap (λ (l : List (Option X)). slice_get l 0) is))
  same_out (x ∷ xs) [] is = absurd (none-some (Some x) (sym (ap (λ (l : List (Option X)). slice_get l 0) is)))
  same_out (x ∷ xs) (y ∷ ys) is =
      let head : x ≡ y = same_Some x y (same_Some (Some x) (Some y) (ap (λ (l : List (Option X)). slice_get l 0) is)) in
      let tail = same_out xs ys (ap (λ (l : List (Option X)). drop 1 l) is) in
      ap (λ (z : X). z ∷ xs) head ∙ ap (λ (l : List X). y ∷ l) tail
