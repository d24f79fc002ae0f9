-- The shards at the end, one after another.
use Rattle.std.proofs.Common.{◌≡◌, ℕ, ◌+◌, ◌<◌, Bool, List, [], ◌∷◌, ◌++◌, length, sym, ap, ◌∙◌, subst, arith, Some, Option}
use Rattle.std.proofs.lemmas.List.{reverse-append}
use mathlib.Core.List.{reverse}
use Rattle.bc_base.specs.Lists.{Each, EachFrom, list_at}
use Rattle.bc_base.specs.Sectors.{Sectors}
use Rattle.bc_base.specs.Stores.{StoreCalls}
use Rattle.bc_base.specs.Story.{own, StartsWith, IsFront}
use Rattle.bc_base.proofs.Lists.{each_at, each_both}
use Rattle.bc_turn.specs.PassParts.{Part, Pass, CellData, IsClosed, Ends}
use Rattle.bc_medium.specs.declared.entry.Entry.{Entry}
use Rattle.bc_medium.specs.Entries.{caller_of}
use Rattle.bc_medium.specs.ShardOrder.{StoreOrder, IsOrder}
use Rattle.bc_medium.specs.Medium.{OpeningData, MediumData, Keeps, Belongs, EachTwoFrom, IsEnd, seen_by, shards_of}
use Rattle.bc_medium.proofs.Chosen.{entries_at}
use Rattle.bc_medium.proofs.Openings.{there, as_many_parts}

two_push : {A C : Type 0} (P : ℕ → A → C → Type 0) (k : ℕ) (xs : List A) (ys : List C) (x : A) (y : C) → EachTwoFrom P k xs ys → P (k + length xs) x y → EachTwoFrom P k (xs ++ x ∷ []) (ys ++ y ∷ [])
two_push P k [] [] x y e p = (subst (λ n. P n x y) (let z : k + 0 ≡ k = omega arith in z) p, tt)
two_push P k [] (c ∷ ys) x y e p = absurd e
two_push P k (a ∷ xs) [] x y e p = absurd e
two_push P k (a ∷ xs) (c ∷ ys) x y e p = (e.0, two_push P (k + 1) xs ys x y e.1 (subst (λ n. P n x y) (let z : k + length (a ∷ xs) ≡ k + 1 + length xs = omega arith in z) p))

pub two_pushed : {A C : Type 0} (P : ℕ → A → C → Type 0) (xs xs' : List A) (ys ys' : List C) (x : A) (y : C) → xs' ≡ xs ++ x ∷ [] → ys' ≡ ys ++ y ∷ [] → EachTwoFrom P 0 xs ys → P (length xs) x y → EachTwoFrom P 0 xs' ys'
two_pushed {A} {C} P xs xs' ys ys' x y e f all one =
    subst (λ (l : List A). EachTwoFrom P 0 l ys') (sym e) (subst (λ (l : List C). EachTwoFrom P 0 (xs ++ x ∷ []) l) (sym f) (two_push P 0 xs ys x y all (subst (λ n. P n x y) (let z : length xs ≡ 0 + length xs = omega arith in z) one)))

pub first_of_rest : {V : Type 0} (P : ℕ → V → Type 0) (k : ℕ) (all rest : List V) (v : V) → all ≡ rest ++ v ∷ [] → EachFrom P k (reverse all) → P k v × EachFrom P (k + 1) (reverse rest)
first_of_rest P k all rest v pop e = subst (EachFrom P k) (ap reverse pop ∙ reverse-append rest (v ∷ [])) e

module _ {S : Type 0} (owns : S → ℕ → Bool) (contents : S → Option Sectors) (told : S → Option StoreCalls) (faults : S → ℕ) where
  front_of : (m : MediumData S) (k : ℕ) (v : StoreOrder S) (p : Pass Entry (OpeningData S)) → k < shards_of m → Belongs m p → Ends (λ s. s.entries) (Keeps owns contents told faults) caller_of k v p → IsFront caller_of p.caller (list_at (seen_by p) k) v.entries
  front_of m k v p inside of ends =
      let many = as_many_parts m p of in
      let q = there p.parts k (omega arith) in
      let seen : list_at (seen_by p) k ≡ q.0.seen = entries_at (λ (z : Part Entry (OpeningData S)). z.seen) p.parts k q.0 q.1 in
      let e = ends q.0 q.1 in record {
        begins = subst (StartsWith v.entries) (sym seen) e.0;
        own_entries = e.1 ∙ ap (own caller_of p.caller) (sym seen);
      }

  -- what comes out of a turn, and out of its shard
  pub ends_one : (m : MediumData S) (passes : List (Pass Entry (OpeningData S))) (k : ℕ) (v : StoreOrder S) (store : S) (es : List Entry) → k < shards_of m → Each (Belongs m) passes → Each (λ cell. cell.base.keys ≡ m.keys.keys) m.turns.cells
      → IsClosed (λ s. s.entries) (Keeps owns contents told faults) caller_of m.turns passes k v → store ≡ v.store → es ≡ v.entries → IsEnd owns contents told faults m passes k store es
  ends_one m passes k v store es inside of same closed s e = subst (λ (l : List Entry). IsEnd owns contents told faults m passes k store l) (sym e) (subst (λ (t : S). IsEnd owns contents told faults m passes k t v.entries) (sym s) record {
    order = λ cell at. subst (λ ks. IsOrder owns contents told faults cell.base.store (Some ks) v.store v.entries) (each_at (λ (d : CellData (OpeningData S)). d.base.keys ≡ m.keys.keys) m.turns.cells k cell same at) (closed.0 cell at).order;
    fronts = each_both (Belongs m) (Ends (λ s. s.entries) (Keeps owns contents told faults) caller_of k v) (λ p. IsFront caller_of p.caller (list_at (seen_by p) k) v.entries) (λ p b ends. front_of m k v p inside b ends) passes of closed.1;
    no_strangers = closed.2;
  })
