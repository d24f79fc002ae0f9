-- A turn that is taken and given back by one caller, for the crates above.
use Rattle.std.proofs.Common.{◌≡◌, ℕ, zero, suc, ◌+◌, ◌<◌, ◌≤◌, ◌^◌, List, [], ◌∷◌, ◌++◌, length, set, true, false, refl, sym, ap, ◌∙◌, subst, arith, append-nil, eq-eqb, Option, None, Some}
use Rattle.std.specs.Prelude.{IfSome}
use Rattle.std.proofs.lemmas.List.{set-set}
use Rattle.std.proofs.lemmas.Option.{none-some, same_Some}
use Rattle.bc_base.specs.Lists.{Each}
use Rattle.bc_base.specs.Story.{StartsWith, own}
use Rattle.bc_base.specs.Lists.{At, AllAt}
use Rattle.bc_turn.specs.PassParts.{Part, Pass, Changes, part, without_turn, TakesLater, GoesOn, Visits}
use Rattle.bc_base.proofs.Lists.{each_at}
use Rattle.bc_base.proofs.Stories.{own-append}

at_changed : {A : Type 0} (xs : List A) (k : ℕ) (x y z : A) → At xs k x → At (set xs k y) k z → y ≡ z
at_changed [] k x y z at at' = absurd (none-some x at)
at_changed (a ∷ xs) zero x y z at at' = same_Some y z at'
at_changed (a ∷ xs) (suc k) x y z at at' = at_changed xs k x y z at at'

pub if_more : {B : Type 0} (o : Option B) (P Q : B → Type 0) → ((b : B) → P b → Q b) → IfSome o P → IfSome o Q
if_more None P Q f p = p
if_more (Some b) P Q f p = f b p

own-each : {E : Type 0} (by : E → ℕ) (c : ℕ) (xs : List E) → Each (λ x. by x ≡ c) xs → own by c xs ≡ xs
own-each by c [] e = refl
own-each by c (x ∷ xs) e = rw (eq-eqb (by x) c e.0) (ap (λ l. x ∷ l) (own-each by c xs e.1))

module _ {V E B : Type 0} (entries : V → List E) (kept : B → V → Type 0) (by : E → ℕ) where
  pub record Visited (p p1 : Pass E B) (k : ℕ) (v v' : V) : Type 0 where
    pub may_give : AllAt p1.parts k (λ q. (q.holds ≡ true) × GoesOn entries kept by q v')
    pub after : (p2 : Pass E B) → Changes p1 p2 k (λ q q'. q' ≡ without_turn q (entries v')) → Changes p p2 k (λ q q'. Visits entries kept by q v v' q')

  pub visited : (p p1 : Pass E B) (k : ℕ) (v v' : V) (new : List E) → Each (λ q. q.caller ≡ p.caller) p.parts → Changes p p1 k (λ q q'. TakesLater entries kept by q v q')
      → entries v' ≡ entries v ++ new → Each (λ x. by x ≡ p.caller) new → ((b : B) → kept b v → kept b v') → length (entries v') < 2 ^ 62 → Visited p p1 k v v'
  visited p p1 k v v' new all took grows each same small =
      let q : Part E B = took.1.0 in let q1 : Part E B = took.1.1 in let at = took.1.2 in let sets = took.1.3 in let t : TakesLater entries kept by q v q1 = took.1.4 in
      let mine_number : q.caller ≡ p.caller = each_at (λ (z : Part E B). z.caller ≡ p.caller) p.parts k q all at in
      let one : (z : Part E B) → At p1.parts k z → q1 ≡ z = λ z here. at_changed p.parts k q q1 z at (subst (λ l. At l k z) sets here) in
      let goes : (q1.holds ≡ true) × GoesOn entries kept by q1 v' = (
        ap (λ (z : Part E B). z.holds) t.2,
        (
          (new, grows ∙ ap (λ l. l ++ new) (sym (ap (λ (z : Part E B). z.seen) t.2)), subst (λ (n : ℕ). Each (λ x. by x ≡ n) new) (sym (ap (λ (z : Part E B). z.caller) t.2 ∙ mine_number)) each),
          subst (λ (o : Option B). IfSome o (λ b. kept b v')) (sym (ap (λ (z : Part E B). z.base) t.2)) (if_more q.base (λ b. kept b v) (λ b. kept b v') same t.0.2),
          small,
        ),
      ) in record {
        may_give = λ z here. subst (λ (z : Part E B). (z.holds ≡ true) × GoesOn entries kept by z v') (one z here) goes;
        after = λ p2 gave.
            let z : Part E B = gave.1.0 in let z' : Part E B = gave.1.1 in
            let here : q1 ≡ z = one z gave.1.2 in
            let is : z' ≡ without_turn q1 (entries v') = gave.1.4 ∙ ap (λ (y : Part E B). without_turn y (entries v')) (sym here) in
            let flat : z' ≡ part q.cell q.caller q.base (entries v') q1.missed false = is ∙ ap (λ (y : Part E B). without_turn y (entries v')) t.2 in
            let miss : z'.missed ≡ q1.missed = ap (λ (y : Part E B). y.missed) flat in (
              gave.0 ∙ took.0,
              (
                q,
                z',
                at,
                gave.1.3 ∙ ap (λ l. set l k z') sets ∙ set-set p.parts k q1 z',
                (t.0, (let l = t.1 in omega arith), flat ∙ ap (λ (m : ℕ). part q.cell q.caller q.base (entries v') m false) (sym miss)),
              ),
            );
      }

  -- what the caller has seen then, and of its own
  pub seen_more : (q q' : Part E B) (v v' : V) (new : List E) → Visits entries kept by q v v' q' → entries v' ≡ entries v ++ new → Each (λ x. by x ≡ q.caller) new
      → StartsWith (entries v) q.seen × (q'.seen ≡ entries v ++ new) × (own by q.caller (entries v) ≡ own by q.caller q.seen) × (own by q.caller q'.seen ≡ own by q.caller q.seen ++ new)
  seen_more q q' v v' new is grows each =
      let seen : q'.seen ≡ entries v ++ new = ap (λ (z : Part E B). z.seen) is.2 ∙ grows in (
        is.0.0,
        seen,
        is.0.1,
        ap (own by q.caller) seen ∙ own-append by q.caller (entries v) new ∙ ap (λ l. l ++ own by q.caller new) is.0.1 ∙ ap (λ l. own by q.caller q.seen ++ l) (own-each by q.caller new each),
      )
