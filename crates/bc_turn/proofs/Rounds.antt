-- What is done with all passes, one after another: a new cell, and the last cell at the end.
use Rattle.std.proofs.Common.{◌≡◌, ℕ, zero, suc, ◌+◌, ◌<◌, ◌≤◌, eqb, List, [], ◌∷◌, ◌++◌, map, length, set, get_or, take, drop, false, refl, sym, ap, ap₂, ◌∙◌, subst, arith, Some, Option, length-append, append_assoc, append-nil, add-one}
use Rattle.std.specs.Prelude.{flat_map}
use Rattle.std.specs.List.{range_with_len}
use Rattle.std.proofs.lemmas.List.{length-map, map-append, take-append-drop, take_all, length-take-le, take-take, reverse-append}
use mathlib.Core.List.{reverse}
use Rattle.std.proofs.lemmas.Option.{none-some, same_Some}
use Rattle.std.specs.Prelude.{slice_get}
use Rattle.atomic_table.specs.Seated.{TableId}
use Rattle.atomic_table.specs.declared.shared.Seat.{Seat}
use Rattle.bc_base.proofs.Lists.{at_read, at_map}
use Rattle.bc_turn.specs.declared.view.Account.{Account}
use Rattle.bc_turn.specs.declared.view.View.{View}
use Rattle.bc_base.specs.Lists.{Each}
use Rattle.bc_base.specs.Story.{own, StartsWith}
use Rattle.bc_turn.specs.Turning.{sum_of, one_if, names, has, account, view_of, newcomers, mine, cut_off, left_over, Fits}
use Rattle.bc_base.specs.Lists.{At, AllAt, EachFrom}
use Rattle.bc_turn.specs.PassParts.{Part, Pass, CellData, TurnsData, IsOf, IsClosed, Ends, part, seat_part, part_key, cell_key, new_part, new_pass, with_part, with_cell, cut_to, account_of, accounts_from, is_caller}
use Rattle.bc_base.proofs.Lists.{each_at}

module _ {A : Type 0} where
  -- from the last to the first
  pub at_front : (xs ys : List A) (k : ℕ) (x : A) → k < length xs → At (take (suc k) xs ++ ys) k x → At xs k x
  at_front [] ys k x l at = absurd (omega arith)
  at_front (a ∷ xs) ys zero x l at = at
  at_front (a ∷ xs) ys (suc k) x l at = at_front xs ys k x (omega arith) at

  pub step_back : (f : A → A) (xs : List A) (k : ℕ) (x y : A) → At xs k x → y ≡ f x → set (take (suc k) xs ++ map f (drop (suc k) xs)) k y ≡ take k xs ++ map f (drop k xs)
  step_back f [] k x y at e = absurd (none-some x at)
  step_back f (a ∷ xs) zero x y at e = ap (λ z. z ∷ map f xs) (e ∙ ap f (sym (same_Some a x at)))
  step_back f (a ∷ xs) (suc k) x y at e = ap (λ l. a ∷ l) (step_back f xs k x y at e)

  -- from the first to the last
  pub at_back : (f : A → A) (xs : List A) (k : ℕ) (x : A) → At (map f (take k xs) ++ drop k xs) k x → At xs k x
  at_back f [] zero x at = at
  at_back f [] (suc k) x at = at
  at_back f (a ∷ xs) zero x at = at
  at_back f (a ∷ xs) (suc k) x at = at_back f xs k x at

  pub step_on : (f : A → A) (xs : List A) (k : ℕ) (x y : A) → At xs k x → y ≡ f x → set (map f (take k xs) ++ drop k xs) k y ≡ map f (take (suc k) xs) ++ drop (suc k) xs
  step_on f [] k x y at e = absurd (none-some x at)
  step_on f (a ∷ xs) zero x y at e = ap (λ z. z ∷ xs) (e ∙ ap f (sym (same_Some a x at)))
  step_on f (a ∷ xs) (suc k) x y at e = ap (λ l. f a ∷ l) (step_on f xs k x y at e)

  pub flat_on : {C : Type 0} (h : A → List C) (xs : List A) (k : ℕ) (x : A) → At xs k x → flat_map h (take (suc k) xs) ≡ flat_map h (take k xs) ++ h x
  flat_on h [] k x at = absurd (none-some x at)
  flat_on h (a ∷ xs) zero x at = append-nil (h a) ∙ ap h (same_Some a x at)
  flat_on h (a ∷ xs) (suc k) x at = ap (λ l. h a ++ l) (flat_on h xs k x at) ∙ sym (append_assoc (h a) (flat_map h (take k xs)) (h x))

  pub at_drop : (xs : List A) (k : ℕ) → slice_get (drop k xs) 0 ≡ slice_get xs k
  at_drop [] zero = refl
  at_drop [] (suc k) = refl
  at_drop (x ∷ xs) zero = refl
  at_drop (x ∷ xs) (suc k) = at_drop xs k

  pub only_at : (xs : List A) (k : ℕ) (x : A) → drop k xs ≡ x ∷ [] → At xs k x
  only_at xs k x e = sym (at_drop xs k) ∙ ap (λ l. slice_get l 0) e

  pub at_take : (xs : List A) (k : ℕ) (x : A) → At (take (suc k) xs) k x → At xs k x
  at_take [] k x at = at
  at_take (a ∷ xs) zero x at = at
  at_take (a ∷ xs) (suc k) x at = at_take xs k x at

  pub snoc_take : {C : Type 0} (f : C → A) (cs : List C) (c : C) (xs : List A) → map f (cs ++ c ∷ []) ≡ take (suc (length cs)) xs → (map f cs ≡ take (length cs) xs) × At xs (length cs) (f c)
  snoc_take f [] c [] e = let l = ap length e in absurd (omega arith)
  snoc_take f [] c (x ∷ xs) e = (refl, sym (ap (λ l. slice_get l 0) e))
  snoc_take f (d ∷ cs) c [] e = let l = ap length e in absurd (omega arith)
  snoc_take f (d ∷ cs) c (x ∷ xs) e = let r = snoc_take f cs c xs (ap (drop 1) e) in (ap₂ (λ y l. y ∷ l) (same_Some (f d) x (ap (λ l. slice_get l 0) e)) r.0, r.1)

pub at_range : (a n k x : ℕ) → At (range_with_len a n) k x → x ≡ a + k
at_range a zero k x at = absurd (none-some x at)
at_range a (suc n) zero x at = let e = same_Some a x at in omega arith
at_range a (suc n) (suc k) x at = let e = at_range (a + 1) n k x at in omega arith

pub map-map' : {A C D : Type 0} (f : C → D) (g : A → C) (xs : List A) → map f (map g xs) ≡ map (λ x. f (g x)) xs
map-map' f g [] = refl
map-map' f g (x ∷ xs) = ap (λ l. f (g x) ∷ l) (map-map' f g xs)

-- a cell more
module _ {V E B : Type 0} (c : CellData B) where
  pub given_new : (m : ℕ) (rest given : Seat (Option V) (View E B)) → rest.me ≡ (view_of (Some c.base) (newcomers (m + 1)), []) → given.table_id ≡ c.id → given.me ≡ (cut_off rest.me.0, [])
      → (given.me ≡ (view_of given.me.0.base (account (seat_part given).caller [] 0 false ∷ []), [])) × (seat_part given ≡ new_part m c)
  given_new m rest given r id g =
      let r' : rest.me ≡ (view_of (Some c.base) (newcomers (suc m)), []) = r ∙ ap (λ (k : ℕ). (view_of (Some c.base) (newcomers {E = E} k), [])) (add-one m) in
      let is : given.me ≡ (view_of (Some c.base) (account m [] 0 false ∷ []), []) = g ∙ ap (λ me. (cut_off me.0, [])) r' in (
        is ∙ ap₂ (λ b (n : ℕ). (view_of b (account n [] 0 false ∷ []), [])) (sym (ap (λ me. me.0.base) is)) (sym (ap (λ me. (mine me.0).number) is)),
        ap₂ (λ i (me : View E B × List (ℕ × Option V)). part i (mine me.0).number me.0.base (mine me.0).seen (mine me.0).missed (mine me.0).has) id is,
      )

  pub rest_new : (m : ℕ) (rest rest' : Seat (Option V) (View E B)) → rest.me ≡ (view_of (Some c.base) (newcomers (m + 1)), []) → rest'.me ≡ (left_over rest.me.0, rest.me.1) → rest'.me ≡ (view_of (Some c.base) (newcomers m), [])
  rest_new m rest rest' r g =
      let r' : rest.me ≡ (view_of (Some c.base) (newcomers (suc m)), []) = r ∙ ap (λ (k : ℕ). (view_of (Some c.base) (newcomers {E = E} k), [])) (add-one m) in g ∙ ap (λ me. (left_over me.0, me.1)) r'

module _ {E B : Type 0} where
  -- the pass at a place has that number
  pub numbered : (init : List (Pass E B)) (k : ℕ) (p : Pass E B) → map (λ z. z.caller) init ≡ range_with_len 0 (length init) → At init k p → p.caller ≡ k
  numbered init k p e at = let a = at_range 0 (length init) k p.caller (subst (λ l. At l k p.caller) e (at_map (λ (z : Pass E B). z.caller) init k p at)) in omega arith

  pub seated : (c : CellData B) (init passes : List (Pass E B)) (m : ℕ) (p : Pass E B) (q : Part E B) → passes ≡ take (m + 1) init ++ map (with_cell c) (drop (m + 1) init) → m < length init → p ≡ get_or passes m p
      → map (λ z. z.caller) init ≡ range_with_len 0 (length init) → q ≡ new_part m c
      → (q.caller ≡ p.caller) × ((y : Pass E B) → y ≡ with_part p q → set passes m y ≡ take m init ++ map (with_cell c) (drop m init))
  seated c init passes m p q e inside g ns is =
      let whole = ap length (take-append-drop (m + 1) init) in let parts = length-append (take (m + 1) init) (drop (m + 1) init) in
      let all = ap length e ∙ length-append (take (m + 1) init) (map (with_cell c) (drop (m + 1) init)) in let mapped = length-map (drop (m + 1) init) (with_cell c) in
      let inside' : m < length passes = omega arith in
      let e' : passes ≡ take (suc m) init ++ map (with_cell c) (drop (suc m) init) = e ∙ ap (λ (k : ℕ). take k init ++ map (with_cell c) (drop k init)) (add-one m) in
      let here : At passes m p = at_read passes m p inside' g in
      let at : At init m p = at_front init (map (with_cell c) (drop (suc m) init)) m p inside (subst (λ l. At l m p) e' here) in
      let n : p.caller ≡ m = numbered init m p ns at in (
        ap (λ (z : Part E B). z.caller) is ∙ sym n,
        λ y w. ap (λ l. set l m y) e' ∙ step_back (with_cell c) init m p y at (w ∙ ap (with_part p) (is ∙ ap (λ (k : ℕ). new_part k c) (sym n))),
      )

  pub more_cells : (cells : List (CellData B)) (c : CellData B) (ns : List ℕ) → map (with_cell c) (map (new_pass {E = E} cells) ns) ≡ map (new_pass (cells ++ c ∷ [])) ns
  more_cells cells c [] = refl
  more_cells cells c (n ∷ ns) = ap₂ (λ l ps. record { caller = n; parts = l } ∷ ps) (sym (map-append (new_part n) cells (c ∷ []))) (more_cells cells c ns)

pub numbers_new : (E : Type 0) {B : Type 0} (cells : List (CellData B)) (ns : List ℕ) → map (λ z. z.caller) (map (new_pass {E = E} cells) ns) ≡ ns
numbers_new E cells [] = refl
numbers_new E cells (n ∷ ns) = ap (λ l. n ∷ l) (numbers_new E cells ns)

-- one cell less
module _ {E B : Type 0} (left : ℕ) where
  pub leaves : (id : TableId) (init : List (Pass E B)) (k : ℕ) (p : Pass E B) (q : Part E B) → Each (λ p. AllAt p.parts left (λ q. (q.cell ≡ id) × (q.holds ≡ false))) init → At init k p → drop left p.parts ≡ q ∷ [] → (q.cell ≡ id) × (q.holds ≡ false)
  leaves id init k p q each at is = each_at (λ p. AllAt p.parts left (λ q. (q.cell ≡ id) × (q.holds ≡ false))) init k p each at q (only_at p.parts left q is)

  pub gathered : (init passes : List (Pass E B)) (k : ℕ) (p y : Pass E B) (q : Part E B) (accounts : List (Account E)) → passes ≡ map (cut_to left) (take k init) ++ drop k init → At init k p → y ≡ cut_to left p → drop left p.parts ≡ q ∷ []
      → accounts ≡ flat_map (accounts_from left) (take k init)
      → (set passes k y ≡ map (cut_to left) (take (k + 1) init) ++ drop (k + 1) init) × (accounts ++ account_of q ∷ [] ≡ flat_map (accounts_from left) (take (k + 1) init))
  gathered init passes k p y q accounts e at is last acc =
      let one : accounts_from left p ≡ account_of q ∷ [] = ap (map account_of) last in (
        ap (λ l. set l k y) e ∙ step_on (cut_to left) init k p y at is ∙ ap (λ (m : ℕ). map (cut_to left) (take m init) ++ drop m init) (sym (add-one k)),
        ap₂ (λ l r. l ++ r) acc (sym one) ∙ sym (flat_on (accounts_from left) init k p at) ∙ ap (λ (m : ℕ). flat_map (accounts_from left) (take m init)) (sym (add-one k)),
      )

-- opening
module _ {V B C : Type 0} where
  pub all_bases : (base_of : V → B) (f : C → B) (cells : List C) (c : C) (values rest : List V) (v : V) (whole : List B) → values ≡ rest ++ v ∷ [] → f c ≡ base_of v → map f cells ++ map base_of (reverse values) ≡ whole
      → map f (cells ++ c ∷ []) ++ map base_of (reverse rest) ≡ whole
  all_bases base_of f cells c values rest v whole pop is e =
      let back : reverse values ≡ v ∷ reverse rest = ap reverse pop ∙ reverse-append rest (v ∷ []) in
      ap (λ l. l ++ map base_of (reverse rest)) (map-append f cells (c ∷ [])) ∙ append_assoc (map f cells) (f c ∷ []) (map base_of (reverse rest)) ∙ ap (λ y. map f cells ++ y ∷ map base_of (reverse rest)) is ∙ ap (λ l. map f cells ++ map base_of l) (sym back) ∙ e

-- closing
module _ {E B : Type 0} where
  pub has_some : (c : ℕ) (passes : List (Pass E B)) → 0 < sum_of (is_caller c) passes → 0 < length passes
  has_some c [] l = absurd (omega arith)
  has_some c (p ∷ passes) l = omega arith

  pub cut_parts : (t : TurnsData B) (k : ℕ) (passes : List (Pass E B)) → k < length t.cells → Each (IsOf t) passes → Each (λ p. length p.parts ≡ k + 1) (map (cut_to (k + 1)) passes)
  cut_parts t k [] l e = tt
  cut_parts t k (p ∷ passes) l e =
      let many : length p.parts ≡ length t.cells = sym (length-map p.parts part_key) ∙ ap length e.0.1 ∙ length-map t.cells cell_key in
      (length-take-le (k + 1) p.parts (omega arith), cut_parts t k passes l e.1)

  -- what the pass has at the k-th cell
  pub part_at : (t : TurnsData B) (k : ℕ) (d : CellData B) (p : Pass E B) (q : Part E B) → At t.cells k d → IsOf t p → Each (λ q. q.holds ≡ false) p.parts → At p.parts k q → (q.cell ≡ d.id) × (q.holds ≡ false) × (q.caller ≡ p.caller)
  part_at t k d p q at of free here =
      let key : part_key q ≡ cell_key d = same_Some (part_key q) (cell_key d) (sym (at_map part_key p.parts k q here) ∙ ap (λ l. slice_get l k) of.1 ∙ at_map cell_key t.cells k d at) in
      (ap (λ z. z.0) key, each_at (λ q. q.holds ≡ false) p.parts k q free here, each_at (λ q. q.caller ≡ p.caller) p.parts k q of.2 here)

  pub cut_cells : (t : TurnsData B) (k : ℕ) (d : CellData B) (passes : List (Pass E B)) → At t.cells k d → Each (IsOf t) passes → Each (λ p. Each (λ q. q.holds ≡ false) p.parts) passes
      → Each (λ p. AllAt p.parts k (λ q. (q.cell ≡ d.id) × (q.holds ≡ false))) (map (cut_to (k + 1)) passes)
  cut_cells t k d [] at of free = tt
  cut_cells t k d (p ∷ passes) at of free = (
    (λ q here. let r = part_at t k d p q at of.0 free.0 (at_take p.parts k q (subst (λ (m : ℕ). At (take m p.parts) k q) (add-one k) here)) in (r.0, r.1)),
    cut_cells t k d passes at of.1 free.1,
  )

  single : (xs : List (Part E B)) (k : ℕ) → k < length xs → (q : Part E B) × At xs k q × (drop k (take (suc k) xs) ≡ q ∷ [])
  single [] k l = absurd (omega arith)
  single (x ∷ xs) zero l = (x, refl, refl)
  single (x ∷ xs) (suc k) l = single xs k (omega arith)

  -- the accounts of a pass that is about to leave its last cell are one, of this caller
  pub one_account : (t : TurnsData B) (k : ℕ) (d : CellData B) (p : Pass E B) → At t.cells k d → k < length t.cells → IsOf t p → Each (λ q. q.holds ≡ false) p.parts
      → (q : Part E B) × At p.parts k q × (accounts_from k (cut_to (k + 1) p) ≡ account_of q ∷ []) × (q.holds ≡ false) × (q.caller ≡ p.caller)
  one_account t k d p at l of free =
      let many : length p.parts ≡ length t.cells = sym (length-map p.parts part_key) ∙ ap length of.1 ∙ length-map t.cells cell_key in
      let s = single p.parts k (omega arith) in let q : Part E B = s.0 in let r = part_at t k d p q at of free s.1 in
      (q, s.1, ap (λ (m : ℕ). map account_of (drop k (take m p.parts))) (add-one k) ∙ ap (map account_of) s.2, r.1, r.2)

  pub named_all : (t : TurnsData B) (k : ℕ) (d : CellData B) (c : ℕ) (passes : List (Pass E B)) → At t.cells k d → k < length t.cells → Each (IsOf t) passes → Each (λ p. Each (λ q. q.holds ≡ false) p.parts) passes
      → sum_of (names c) (flat_map (accounts_from k) (map (cut_to (k + 1)) passes)) ≡ sum_of (is_caller c) passes
  named_all t k d c [] at l of free = refl
  named_all t k d c (p ∷ passes) at l of free =
      let o = one_account t k d p at l of.0 free.0 in let q : Part E B = o.0 in
      let i = named_all t k d c passes at l of.1 free.1 in
      let s = ap (λ z. sum_of (names c) (z ++ flat_map (accounts_from k) (map (cut_to (k + 1)) passes))) o.2 in
      let n : names c (account_of q) ≡ is_caller c p = ap (λ (m : ℕ). one_if (eqb m c)) o.4 in omega arith

  pub none_holds : (t : TurnsData B) (k : ℕ) (d : CellData B) (passes : List (Pass E B)) → At t.cells k d → k < length t.cells → Each (IsOf t) passes → Each (λ p. Each (λ q. q.holds ≡ false) p.parts) passes
      → sum_of has (flat_map (accounts_from k) (map (cut_to (k + 1)) passes)) ≡ 0
  none_holds t k d [] at l of free = refl
  none_holds t k d (p ∷ passes) at l of free =
      let o = one_account t k d p at l of.0 free.0 in let q : Part E B = o.0 in
      let i = none_holds t k d passes at l of.1 free.1 in
      let s = ap (λ z. sum_of has (z ++ flat_map (accounts_from k) (map (cut_to (k + 1)) passes))) o.2 in
      let n : has (account_of q) ≡ 0 = ap one_if o.3 in omega arith

  pub cut_again : (k : ℕ) (passes : List (Pass E B)) → map (cut_to k) (map (cut_to (k + 1)) passes) ≡ map (cut_to k) passes
  cut_again k [] = refl
  cut_again k (p ∷ passes) = ap₂ (λ l ps. record { caller = p.caller; parts = l } ∷ ps) (take-take k (k + 1) p.parts (omega arith)) (cut_again k passes)

  pub cut_none : (t : TurnsData B) (n : ℕ) (passes : List (Pass E B)) → n ≡ length t.cells → Each (IsOf t) passes → passes ≡ map (cut_to n) passes
  cut_none t n [] e of = refl
  cut_none t n (p ∷ passes) e of =
      let many : length p.parts ≡ length t.cells = sym (length-map p.parts part_key) ∙ ap length of.0.1 ∙ length-map t.cells cell_key in
      ap₂ (λ l ps. record { caller = p.caller; parts = l } ∷ ps) (sym (take_all n p.parts (omega arith))) (cut_none t n passes e of.1)

module _ {V E B : Type 0} (entries : V → List E) (kept : B → V → Type 0) (by : E → ℕ) where
  pub all_end : (t : TurnsData B) (k : ℕ) (d : CellData B) (v : V) (passes : List (Pass E B)) → At t.cells k d → k < length t.cells → Each (IsOf t) passes → Each (λ p. Each (λ q. q.holds ≡ false) p.parts) passes
      → Each (Fits by (entries v)) (flat_map (accounts_from k) (map (cut_to (k + 1)) passes)) → Each (Ends entries kept by k v) passes
  all_end t k d v [] at l of free fits = tt
  all_end t k d v (p ∷ passes) at l of free fits =
      let o = one_account t k d p at l of.0 free.0 in let q : Part E B = o.0 in
      let rest = flat_map (accounts_from k) (map (cut_to (k + 1)) passes) in
      let all : Each (Fits by (entries v)) (account_of q ∷ rest) = subst (λ z. Each (Fits by (entries v)) (z ++ rest)) o.2 fits in
      let f : Fits by (entries v) (account_of q) = all.0 in
      let mine_end : StartsWith (entries v) q.seen × (own by p.caller (entries v) ≡ own by p.caller q.seen) = (f.0, subst (λ (m : ℕ). own by m (entries v) ≡ own by m q.seen) o.4 f.1) in (
        (λ x here. let same : q ≡ x = same_Some q x (sym o.1 ∙ here) in subst (λ (z : Part E B). StartsWith (entries v) z.seen × (own by p.caller (entries v) ≡ own by p.caller z.seen)) same mine_end),
        all_end t k d v passes at l of.1 free.1 all.1,
      )

  -- the value of one cell, once all callers left it
  pub closes_one : (t : TurnsData B) (k : ℕ) (d : CellData B) (v : V) (n : ℕ) (passes : List (Pass E B)) (accounts : List (Account E)) → At t.cells k d → k < length t.cells → Each (IsOf t) passes → Each (λ p. Each (λ q. q.holds ≡ false) p.parts) passes
      → accounts ≡ flat_map (accounts_from k) (map (cut_to (k + 1)) passes) → n ≡ t.callers → kept d.base v → Each (Fits by (entries v)) accounts → ((c : ℕ) → n ≤ c → own by c (entries v) ≡ []) → IsClosed entries kept by t passes k v
  closes_one t k d v n passes accounts at l of free acc same is fits strangers = (
    (λ x here. subst (λ (z : CellData B). kept z.base v) (same_Some d x (sym at ∙ here)) is),
    all_end t k d v passes at l of free (subst (Each (Fits by (entries v))) acc fits),
    (λ c le. strangers c (subst (λ m. m ≤ c) (sym same) le)),
  )

pub more_closed : {V : Type 0} (P : ℕ → V → Type 0) (k : ℕ) (values all : List V) (v : V) → all ≡ values ++ v ∷ [] → P k v → EachFrom P (k + 1) (reverse values) → EachFrom P k (reverse all)
more_closed P k values all v e p each = subst (EachFrom P k) (sym (ap reverse e ∙ reverse-append values (v ∷ []))) (p, each)

module _ {E B C : Type 0} (f : C → CellData B) where
  -- a round of closing: the cell that comes next, and the passes then
  pub round : (t : TurnsData B) (cells cs : List C) (c : C) (passes init : List (Pass E B)) (k n : ℕ) → cells ≡ cs ++ c ∷ [] → k ≡ length cs → map f cells ≡ take (length cells) t.cells → passes ≡ map (cut_to (length cells)) init → n + length cells ≡ length t.cells
      → (passes ≡ map (cut_to (k + 1)) init) × At t.cells k (f c) × (k < length t.cells) × (map f cs ≡ take k t.cells)
  round t cells cs c passes init k n pop is keys cut all =
      let long : length cells ≡ k + 1 = ap length pop ∙ length-append cs (c ∷ []) ∙ ap (λ (m : ℕ). m + 1) (sym is) in
      let long' : length cells ≡ suc (length cs) = long ∙ add-one k ∙ ap suc is in
      let s = snoc_take f cs c t.cells (ap (map f) (sym pop) ∙ keys ∙ ap (λ (m : ℕ). take m t.cells) long') in (
        cut ∙ ap (λ (m : ℕ). map (cut_to m) init) long,
        subst (λ (m : ℕ). At t.cells m (f c)) (sym is) s.1,
        omega arith,
        s.0 ∙ ap (λ (m : ℕ). take m t.cells) (sym is),
      )
