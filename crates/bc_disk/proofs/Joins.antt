-- Lists that are joined place by place, from their ends; and what is known of each place of a list that grows.
use Rattle.std.proofs.Common.{◌≡◌, ℕ, zero, suc, ◌+◌, ◌<◌, List, [], ◌∷◌, ◌++◌, map, length, take, refl, sym, ap, ap₂, ◌∙◌, subst, arith, append_assoc, length-append}
use Rattle.std.specs.Prelude.{slice_index_or}
use Rattle.std.specs.List.{range_with_len}
use Rattle.std.proofs.lemmas.List.{map-append, reverse-append}
use Rattle.std.proofs.lemmas.Option.{none-some, same_Some}
use mathlib.Core.List.{reverse}
use Rattle.bc_base.specs.Lists.{At, AllAt}
use Rattle.bc_turn.specs.PassParts.{Pass}
use Rattle.bc_medium.specs.declared.entry.Entry.{Entry}
use Rattle.bc_medium.specs.Medium.{OpeningData, quotas_of_shard}
use Rattle.bc_profile.specs.Passes.{ProfileData, SlotFacts, new_pass}
use Rattle.bc_ufs.specs.Controllers.{ControllerData}
use Rattle.bc_disk.specs.Disks.{PassData, pass_by}
use Rattle.bc_disk.specs.Dealing.{dealt, new_slots, passes_with}
use Rattle.bc_disk.specs.Closings.{devices_with}
use Rattle.bc_medium.proofs.Openings.{there}

-- one more went from the end of what is joined to the beginning of what was turned round
pub moved_back : {A : Type 0} (all front done done' whole : List A) (x : A) → all ≡ front ++ x ∷ [] → done' ≡ done ++ x ∷ [] → all ++ reverse done ≡ whole → front ++ reverse done' ≡ whole
moved_back all front done done' whole x split push was =
    ap (λ l. front ++ l) (ap reverse push ∙ reverse-append done (x ∷ []))
    ∙ sym (append_assoc front (x ∷ []) (reverse done))
    ∙ ap (λ l. l ++ reverse done) (sym split)
    ∙ was

devices_end : (controllers : List ControllerData) (rows : List (List SlotFacts)) (controller : ControllerData) (row : List SlotFacts) → length rows ≡ length controllers
    → devices_with (controllers ++ controller ∷ []) (rows ++ row ∷ []) ≡ devices_with controllers rows ++ record { profile = controller.profile; passes = row } ∷ []
devices_end [] [] controller row long = refl
devices_end [] (r ∷ rows) controller row long = absurd (omega (arith, long))
devices_end (c ∷ controllers) [] controller row long = absurd (omega (arith, long))
devices_end (c ∷ controllers) (r ∷ rows) controller row long = ap (λ l. record { profile = c.profile; passes = r } ∷ l) (devices_end controllers rows controller row (omega (arith, long)))

pub devices_last : {V : Type 0} (items : V → List SlotFacts) (controllers rest : List ControllerData) (lists left : List V) (controller : ControllerData) (list : V) (profile : ProfileData) → controllers ≡ rest ++ controller ∷ [] → lists ≡ left ++ list ∷ [] → length lists ≡ length controllers → profile ≡ controller.profile
    → devices_with controllers (map items lists) ≡ devices_with rest (map items left) ++ record { profile = profile; passes = items list } ∷ []
devices_last items controllers rest lists left controller list profile pop pop2 long is =
    let a = ap length pop ∙ length-append rest (controller ∷ []) in let b = ap length pop2 ∙ length-append left (list ∷ []) in
    ap₂ devices_with pop (ap (map items) pop2 ∙ map-append items left (list ∷ []))
    ∙ devices_end rest (map items left) controller (items list) (length_map items left ∙ (let z : length left ≡ length rest = omega arith in z))
    ∙ ap (λ p. devices_with rest (map items left) ++ record { profile = p; passes = items list } ∷ []) (sym is)
  where
    length_map : {V A : Type 0} (f : V → A) (xs : List V) → length (map f xs) ≡ length xs
    length_map f [] = refl
    length_map f (x ∷ xs) = ap suc (length_map f xs)

module _ {S : Type 0} where
  passes_end : (rows : List (List SlotFacts)) (all : List (Pass Entry (OpeningData S))) (row : List SlotFacts) (units : Pass Entry (OpeningData S)) → length rows ≡ length all
      → passes_with (rows ++ row ∷ []) (all ++ units ∷ []) ≡ passes_with rows all ++ pass_by units.caller row units ∷ []
  passes_end [] [] row units long = refl
  passes_end [] (u ∷ all) row units long = absurd (omega (arith, long))
  passes_end (r ∷ rows) [] row units long = absurd (omega (arith, long))
  passes_end (r ∷ rows) (u ∷ all) row units long = ap (λ l. pass_by u.caller r u ∷ l) (passes_end rows all row units (omega (arith, long)))

  pub passes_last : {V : Type 0} (items : V → List SlotFacts) (lists left : List V) (all rest : List (Pass Entry (OpeningData S))) (list : V) (units : Pass Entry (OpeningData S)) (pass : PassData S) → lists ≡ left ++ list ∷ [] → all ≡ rest ++ units ∷ [] → length lists ≡ length all → pass ≡ pass_by units.caller (items list) units
      → passes_with (map items lists) all ≡ passes_with (map items left) rest ++ pass ∷ []
  passes_last items lists left all rest list units pass pop pop2 long is =
      let a = ap length pop ∙ length-append left (list ∷ []) in let b = ap length pop2 ∙ length-append rest (units ∷ []) in
      ap₂ passes_with (ap (map items) pop ∙ map-append items left (list ∷ [])) pop2
      ∙ passes_end (map items left) rest (items list) units (length_map items left ∙ (let z : length left ≡ length rest = omega arith in z))
      ∙ ap (λ p. passes_with (map items left) rest ++ p ∷ []) (sym is)
    where
      length_map : {V A : Type 0} (f : V → A) (xs : List V) → length (map f xs) ≡ length xs
      length_map f [] = refl
      length_map f (x ∷ xs) = ap suc (length_map f xs)

-- one more of the first ones
pub map_take_push : {A B : Type 0} (f : A → B) (xs : List A) (n : ℕ) (x : A) → At xs n x → map f (take (n + 1) xs) ≡ map f (take n xs) ++ f x ∷ []
map_take_push f xs n x at = let z : n + 1 ≡ suc n = omega arith in ap (λ k. map f (take k xs)) z ∙ more f xs n x at
  where
    more : {A B : Type 0} (f : A → B) (xs : List A) (n : ℕ) (x : A) → At xs n x → map f (take (suc n) xs) ≡ map f (take n xs) ++ f x ∷ []
    more f [] n x at = absurd (none-some x at)
    more f (y ∷ xs) zero x at = ap (λ z. f z ∷ []) (same_Some y x at)
    more f (y ∷ xs) (suc n) x at = ap (λ l. f y ∷ l) (more f xs n x at)

-- a column of rows, read row by row
pub column_is : {V : Type 0} (items : V → List ℕ) (rows : List V) (place : ℕ) → quotas_of_shard place (map items rows) ≡ map (λ row. slice_index_or (items row) place 0) rows
column_is items [] place = refl
column_is items (row ∷ rows) place = ap (λ l. slice_index_or (items row) place 0 ∷ l) (column_is items rows place)

push_from : {A : Type 0} (R : ℕ → A → Type 0) (first : ℕ) (xs : List A) (x : A) → ((k : ℕ) → AllAt xs k (R (first + k))) → R (first + length xs) x → (k : ℕ) → AllAt (xs ++ x ∷ []) k (R (first + k))
push_from R first [] x each is zero y at = subst (R (first + 0)) (same_Some x y at) is
push_from R first [] x each is (suc k) y at = absurd (none-some y at)
push_from R first (z ∷ xs) x each is zero y at = each 0 y at
push_from R first (z ∷ xs) x each is (suc k) y at =
    let e : first + suc k ≡ first + 1 + k = omega arith in
    subst (λ n. R n y) (sym e) (push_from R (first + 1) xs x (λ j w there. let f : first + suc j ≡ first + 1 + j = omega arith in subst (λ n. R n w) f (each (suc j) w there))
    (let f : first + suc (length xs) ≡ first + 1 + length xs = omega arith in subst (λ n. R n x) f is) k y at)

-- what is known at each place is known with one more
pub all_push : {A : Type 0} (R : ℕ → A → Type 0) (xs : List A) (x : A) → ((k : ℕ) → AllAt xs k (R k)) → R (length xs) x → (k : ℕ) → AllAt (xs ++ x ∷ []) k (R k)
all_push R xs x each is k y at =
    let e : 0 + k ≡ k = omega arith in let f : length xs ≡ 0 + length xs = omega arith in
    subst (λ n. R n y) e (push_from R 0 xs x (λ j w there. let z : j ≡ 0 + j = omega arith in subst (λ n. R n w) z (each j w there)) (subst (λ n. R n x) f is) k y at)

pub below : {A : Type 0} (xs : List A) (k : ℕ) (x : A) → At xs k x → k < length xs
below [] k x at = absurd (none-some x at)
below (y ∷ ys) zero x at = omega arith
below (y ∷ ys) (suc k) x at = let lt = below ys k x at in omega (arith, lt)

-- dealing the passes of one profile more to each caller
pub new_slots_push : (controllers : List ControllerData) (controller : ControllerData) (first count : ℕ) → dealt (map (new_slots controllers) (range_with_len first count)) (map (new_pass controller.profile) (range_with_len first count)) ≡ map (new_slots (controllers ++ controller ∷ [])) (range_with_len first count)
new_slots_push controllers controller first zero = refl
new_slots_push controllers controller first (suc count) =
    ap₂ (λ z zs. z ∷ zs) (sym (map-append (λ (c : ControllerData). new_pass c.profile first) controllers (controller ∷ []))) (new_slots_push controllers controller (first + 1) count)
