-- The accounts of all seats, as one list in which a seat's own stand somewhere.
use Rattle.std.proofs.Common.{◌≡◌, ◌≢◌, ℕ, zero, suc, ◌+◌, ◌*◌, ◌/◌, ◌<◌, ◌≤◌, Bool, true, false, eq-eqb, List, [], ◌∷◌, ◌++◌, length, set, refl, sym, ap, ◌∙◌, subst, arith, append_assoc, append-nil, length-append, ne_eqb, bit_or}
use Rattle.std.specs.Int.Bits.{or_step, or_zero_r}
use mathlib.Core.Logic.{dite}
use native.Mathlib.Decide.{dec_lt, ℕ_discrete}
use mathlib.Core.Option.{some, some-injective, some-ne-none}
use lib.ListN.{get_elem?}
use Rattle.bc_turn.specs.declared.view.Account.{Account}
use Rattle.bc_turn.specs.declared.view.View.{View}
use Rattle.bc_base.specs.Lists.{Each}
use Rattle.bc_base.specs.Story.{StartsWith, own}
use Rattle.bc_turn.specs.Turning.{one_if, sum_of, flat, below}

module _ {A : Type 0} where
  pub each_at : (P : A → Type 0) (xs : List A) (i : ℕ) (a : A) → Each P xs → get_elem? xs i ≡ some a → P a
  each_at P [] i a e at = absurd (some-ne-none a (sym at))
  each_at P (x ∷ xs) zero a e at = subst P (some-injective x a at) e.0
  each_at P (x ∷ xs) (suc i) a e at = each_at P xs i a e.1 at

  pub sum_append : (f : A → ℕ) (xs ys : List A) → sum_of f (xs ++ ys) ≡ sum_of f xs + sum_of f ys
  sum_append f [] ys = omega arith
  sum_append f (x ∷ xs) ys = omega (arith, sum_append f xs ys)

  -- where none counts, each counts nothing
  pub none_counts : (f : A → ℕ) (xs : List A) → sum_of f xs ≡ 0 → Each (λ a. f a ≡ 0) xs
  none_counts f [] e = tt
  none_counts f (x ∷ xs) e = (omega arith, none_counts f xs (omega arith))

module _ {E B : Type 0} where
  -- one view's accounts stand at a place among all, and a change of the view changes them there
  pub record Around (views : List (View E B)) (i : ℕ) (v : View E B) : Type 0 where
    pub front : List (Account E)
    pub back : List (Account E)
    pub now : flat views ≡ front ++ (v.accounts ++ back)
    pub then : (w : View E B) → flat (set views i w) ≡ front ++ (w.accounts ++ back)

  pub around : (views : List (View E B)) (i : ℕ) (v : View E B) → get_elem? views i ≡ some v → Around views i v
  around [] i v e = absurd (some-ne-none v (sym e))
  around (x ∷ xs) zero v e = record { front = []; back = flat xs; now = ap (λ (y : View E B). y.accounts ++ flat xs) (some-injective x v e); then = λ w. refl }
  around (x ∷ xs) (suc i) v e = let r = around xs i v e in record {
    front = x.accounts ++ r.front;
    back = r.back;
    now = ap (λ l. x.accounts ++ l) r.now ∙ sym (append_assoc x.accounts r.front (v.accounts ++ r.back));
    then = λ w. ap (λ l. x.accounts ++ l) (r.then w) ∙ sym (append_assoc x.accounts r.front (w.accounts ++ r.back));
  }

  pub flat_more : (views : List (View E B)) (w : View E B) → flat (views ++ w ∷ []) ≡ flat views ++ (w.accounts ++ [])
  flat_more [] w = refl
  flat_more (x ∷ xs) w = ap (λ l. x.accounts ++ l) (flat_more xs w) ∙ sym (append_assoc x.accounts (flat xs) (w.accounts ++ []))

pub below-le : (c n : ℕ) → n ≤ c → below c n ≡ 0
below-le c zero h = refl
below-le c (suc n) h = let e = ne_eqb n c (λ e. omega arith) in let m = below-le c n (omega arith) in rw e (omega arith)

pub below-lt : (c n : ℕ) → c < n → below c n ≡ 1
below-lt c zero h = absurd (omega arith)
below-lt c (suc n) h = dite (ℕ_discrete n c)
    (λ e. rw (eq-eqb n c e) (let m = below-le c n (omega arith) in omega arith))
    (λ e. rw (ne_eqb n c e) (let m = below-lt c n (omega arith) in omega arith))

pub below-one : (c n : ℕ) → below c n ≤ 1
below-one c n = dite (dec_lt c n) (λ l. let m = below-lt c n l in omega arith) (λ l. let m = below-le c n (omega arith) in omega arith)

pub or_one : (w n b : ℕ) → w ≡ 2 * n + b → b ≤ 1 → bit_or w 1 ≡ 2 * n + 1
or_one w n b e le = let z = or_zero_r (w / 2) in let s = or_step w 1 in omega arith

pub one_if-true : (b : Bool) → one_if b ≡ 1 → b ≡ true
one_if-true true e = refl
one_if-true false e = absurd (omega arith)
