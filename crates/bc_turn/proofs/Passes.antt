-- One part of a pass: where it stands, and what its change leaves.
use Rattle.std.proofs.Common.{◌≡◌, ◌⊎◌, ⊎_elim, ℕ, zero, suc, ◌+◌, ◌-◌, ◌<◌, ◌≤◌, ◌^◌, List, [], ◌∷◌, ◌++◌, map, length, set, get_or, true, false, true≢false, refl, sym, ap, ◌∙◌, subst, arith, Some, None, Option, length-append}
use Rattle.std.proofs.lemmas.List.{length-map, map-set}
use Rattle.std.specs.Prelude.{IfSome, IfNone}
use Rattle.std.proofs.lemmas.Option.{same_Some}
use mathlib.Core.Logic.{dite}
use native.Mathlib.Decide.{ℕ_discrete}
use Rattle.atomic_table.specs.declared.shared.Seat.{Seat}
use Rattle.bc_base.proofs.Lists.{at_read, at_map}
use Rattle.bc_turn.specs.declared.view.View.{View}
use Rattle.bc_base.specs.Lists.{Each}
use Rattle.bc_base.specs.Story.{own}
use Rattle.bc_turn.specs.Turning.{mine}
use Rattle.bc_base.specs.Lists.{At, ChangesAt}
use Rattle.bc_turn.specs.PassParts.{Part, Pass, CellData, TurnsData, IsOf, part_key, cell_key, IsPost}
use Rattle.bc_base.proofs.Lists.{each_at, each_set}
use Rattle.bc_base.proofs.Stories.{own-append}

-- an element set to itself
set_same : {A : Type 0} (xs : List A) (place : ℕ) (x : A) → At xs place x → set xs place x ≡ xs
set_same [] place x at = refl
set_same (y ∷ xs) zero x at = ap (λ z. z ∷ xs) (sym (same_Some y x at))
set_same (y ∷ xs) (suc place) x at = ap (λ l. y ∷ l) (set_same xs place x at)

module _ {E : Type 0} (by : E → ℕ) where
  own-all : (n : ℕ) (xs : List E) → Each (λ x. by x ≡ n) xs → length (own by n xs) ≡ length xs
  own-all n [] e = refl
  own-all n (x ∷ xs) e = rw (Rattle.std.proofs.Common.eq-eqb (by x) n e.0) (ap suc (own-all n xs e.1))

  own-most : (n : ℕ) (xs : List E) → length (own by n xs) ≤ length xs
  own-most n [] = omega arith
  own-most n (x ∷ xs) = let m = own-most n xs in dite (ℕ_discrete (by x) n)
      (λ e. rw (Rattle.std.proofs.Common.eq-eqb (by x) n e) (omega arith))
      (λ e. rw (Rattle.std.proofs.Common.ne_eqb (by x) n e) (omega arith))

  -- the count of own entries goes on with the value
  pub count_more : (n : ℕ) (seen new all : List E) (made held count : ℕ) → all ≡ seen ++ new → Each (λ x. by x ≡ n) new → made ≡ length (own by n seen) → held ≡ length seen → count ≡ length all
      → (made + (count - held) ≤ length all) × (made + (count - held) ≡ length (own by n all))
  count_more n seen new all made held count is each m h k =
      let l : length all ≡ length seen + length new = ap length is ∙ length-append seen new in
      let o : length (own by n all) ≡ length (own by n seen) + length (own by n new) = ap (λ z. length (own by n z)) is ∙ ap length (own-append by n seen new) ∙ length-append (own by n seen) (own by n new) in
      let a = own-all n new each in let b = own-most n seen in (omega arith, omega arith)

pub held_is : {V E B : Type 0} (by : E → ℕ) (s : Seat (Option V) (View E B)) (made held : ℕ) → IsPost by s made held → (mine s.me.0).has ≡ true → held ≡ length (mine s.me.0).seen
held_is by s made held post has = ⊎_elim (λ r. absurd (true≢false (sym has ∙ r.1))) (λ h. h.1) post.0

module _ {E B C : Type 0} (data_of : C → CellData B) where
  -- a part of the pass, and the cell that it is of
  pub record Picked (t : TurnsData B) (p : Pass E B) (n : ℕ) (posts : List (Part E B)) (i k : ℕ) (x : Part E B) (y : C) : Type 1 where
    pub at : At p.parts k x
    pub same : part_key x ≡ cell_key (data_of y)
    pub below : n < t.callers
    pub caller : n ≡ p.caller
    pub stays : (q : Part E B) → part_key q ≡ part_key x → map part_key (set posts i q) ≡ map cell_key t.cells
    pub all_own : (q : Part E B) → q.caller ≡ x.caller → Each (λ z. z.caller ≡ n) (set posts i q)
    pub changes : (R : Part E B → Part E B → Type 0) (q : Part E B) → R x q → ChangesAt p.parts (set posts i q) k R

  pub picked : (t : TurnsData B) (p : Pass E B) (n : ℕ) (posts : List (Part E B)) (cells : List C) (i j k : ℕ) (x : Part E B) (y : C) → record { caller = n; parts = posts } ≡ p → map data_of cells ≡ t.cells
      → Each (λ z. z.caller ≡ n) posts → IsOf t p → k < length t.cells → i ≡ k → j ≡ k → x ≡ get_or posts i x → y ≡ get_or cells j y → Picked t p n posts i k x y
  picked t p n posts cells i j k x y pass turns each of inside e f gx gy =
      let parts : posts ≡ p.parts = ap (λ (q : Pass E B). q.parts) pass in
      let keys : map part_key posts ≡ map cell_key t.cells = ap (map part_key) parts ∙ of.1 in
      let many : length posts ≡ length t.cells = sym (length-map posts part_key) ∙ ap length keys ∙ length-map t.cells cell_key in
      let many' : length cells ≡ length t.cells = sym (length-map cells data_of) ∙ ap length turns in
      let here : At posts i x = at_read posts i x (omega arith) gx in
      let there : At cells j y = at_read cells j y (omega arith) gy in
      let at_k : At posts k x = subst (λ m. At posts m x) e here in
      let mine_key : At (map part_key posts) k (part_key x) = at_map part_key posts k x at_k in
      let its_key : At (map cell_key t.cells) k (cell_key (data_of y)) = at_map cell_key t.cells k (data_of y) (subst (λ l. At l k (data_of y)) turns (at_map data_of cells k y (subst (λ m. At cells m y) f there))) in
      let key : part_key x ≡ cell_key (data_of y) = same_Some (part_key x) (cell_key (data_of y)) (sym mine_key ∙ subst (λ l. At l k (cell_key (data_of y))) (sym keys) its_key) in
      record {
        at = subst (λ l. At l k x) parts at_k;
        same = key;
        below = subst (λ m. m < t.callers) (sym (ap (λ (q : Pass E B). q.caller) pass)) of.0;
        caller = ap (λ (q : Pass E B). q.caller) pass;
        stays = λ q s. map-set part_key posts i q ∙ ap (λ z. set (map part_key posts) i z) s ∙ set_same (map part_key posts) i (part_key x) (at_map part_key posts i x here) ∙ keys;
        all_own = λ q e. each_set (λ z. z.caller ≡ n) posts i q each (e ∙ each_at (λ z. z.caller ≡ n) posts i x each here);
        changes = λ R q r. (x, q, subst (λ l. At l k x) parts at_k, subst (λ l. set posts i q ≡ set l k q) parts (ap (λ m. set posts m q) e), r);
      }

  -- what an Option says of the change
  pub some_changes : {X : Type 0} (t : TurnsData B) (p : Pass E B) (n : ℕ) (posts : List (Part E B)) (i k : ℕ) (x q : Part E B) (y : C) → Picked t p n posts i k x y → (o : Option X) (R : X → Part E B → Part E B → Type 0)
      → IfSome o (λ v. R v x q) → IfSome o (λ v. (n ≡ p.caller) × ChangesAt p.parts (set posts i q) k (R v))
  some_changes t p n posts i k x q y is (Some v) R r = (is.caller, is.changes (R v) q r)
  some_changes t p n posts i k x q y is None R r = r

  pub none_changes : {X : Type 0} (t : TurnsData B) (p : Pass E B) (n : ℕ) (posts : List (Part E B)) (i k : ℕ) (x q : Part E B) (y : C) → Picked t p n posts i k x y → (o : Option X) (R : Part E B → Part E B → Type 0)
      → IfNone o (R x q) → IfNone o ((n ≡ p.caller) × ChangesAt p.parts (set posts i q) k R)
  none_changes t p n posts i k x q y is (Some v) R r = r
  none_changes t p n posts i k x q y is None R r = (is.caller, is.changes R q r)

module _ {E B : Type 0} where
  pub key_kept : {X K : Type 0} (key : Part E B → K) (x q : Part E B) (o : Option X) (P : X → Type 0) (Q : Type 0) → ((v : X) → P v → key q ≡ key x) → (Q → key q ≡ key x) → IfSome o P → IfNone o Q → key q ≡ key x
  key_kept key x q (Some v) P Q f g p n = f v p
  key_kept key x q None P Q f g p n = g n

-- the count of a part's own entries, reported by the pass
pub made_at : {E B : Type 0} (by : E → ℕ) (p : Pass E B) (n : ℕ) (posts : List (Part E B)) (i k : ℕ) (x q : Part E B) (r : ℕ) → record { caller = n; parts = posts } ≡ p → Each (λ z. z.caller ≡ n) posts → k < length p.parts → i ≡ k → x ≡ get_or posts i x
    → At p.parts k q → r ≡ length (own by x.caller x.seen) → r ≡ length (own by p.caller q.seen)
made_at {E} {B} by p n posts i k x q r pass each inside e gx at is =
    let parts : posts ≡ p.parts = ap (λ (z : Pass E B). z.parts) pass in
    let many = ap length parts in
    let here : At posts k x = subst (λ m. At posts m x) e (at_read posts i x (omega arith) gx) in
    let same : x ≡ q = same_Some x q (sym here ∙ subst (λ l. At l k q) (sym parts) at) in
    let mine_number : x.caller ≡ p.caller = each_at (λ z. z.caller ≡ n) posts k x each here ∙ ap (λ (z : Pass E B). z.caller) pass in
    is ∙ ap (λ m. length (own by m x.seen)) mine_number ∙ ap (λ (z : Part E B). length (own by p.caller z.seen)) same
