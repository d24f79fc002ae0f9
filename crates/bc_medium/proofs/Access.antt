-- One access through a turn: what is known once the shard was taken, and what holds once it was given back.
use Rattle.std.proofs.Common.{◌≡◌, ℕ, zero, suc, ◌+◌, ◌*◌, ◌/◌, ◌<◌, ◌≤◌, ◌^◌, Bool, true, false, List, [], ◌∷◌, ◌++◌, map, length, set, get_or, take, drop, refl, sym, ap, ap₂, ◌∙◌, subst, arith, Some, Option}
use Rattle.std.specs.Prelude.{IfSome, IfOk, IfErr, Result, Ok, Err}
use Rattle.std.proofs.lemmas.List.{set-set}
use Rattle.std.proofs.lemmas.Option.{none-some, same_Some}
use Rattle.bc_base.specs.Lists.{Each, At, AllAt, list_at}
use Rattle.bc_base.specs.Sectors.{Sectors}
use Rattle.bc_base.specs.Stores.{StoreCalls, IsPiece, IsPieceOf}
use Rattle.bc_base.specs.Story.{own, StartsWith}
use Rattle.bc_base.proofs.Lists.{each_at, each_set, all_at, at_one}
use Rattle.bc_key.specs.KeyData.{KeyData}
use Rattle.bc_turn.specs.PassParts.{Part, Pass, CellData, Changes, IsOf, part_key, cell_key, without_turn, TakesLater, GoesOn}
use Rattle.bc_medium.specs.declared.entry.Entry.{Entry}
use Rattle.bc_medium.specs.Layout.{shard_of}
use Rattle.bc_medium.specs.Entries.{caller_of, Stand}
use Rattle.bc_medium.specs.Growth.{Appended}
use Rattle.bc_medium.specs.ShardOrder.{StoreOrder, IsOrder}
use Rattle.bc_medium.specs.Medium.{OpeningData, MediumData, Keeps, Belongs, KeepsWithin, HasRoom, OwnsSectors, seen_by, shards_of, quota_of}
use Rattle.bc_medium.proofs.Chosen.{entries_at, entries_other}
use Rattle.bc_medium.proofs.Quotas.{keeps_more, has_spare}
use Rattle.bc_base.proofs.Members.{at_set}

pub either_way : {X Y : Type 0} (r : Result X Y) (P : X → Type 0) (Q : Y → Type 0) (R : Type 0) → ((x : X) → P x → R) → ((y : Y) → Q y → R) → IfOk r P → IfErr r Q → R
either_way (Ok x) P Q R f g p q = f x p
either_way (Err y) P Q R f g p q = g y q

pub key_at : {A C D : Type 0} (f : A → D) (g : C → D) (xs : List A) (ys : List C) (k : ℕ) (x : A) → map f xs ≡ map g ys → At xs k x → (y : C) × At ys k y × (f x ≡ g y)
key_at f g [] ys k x e at = absurd (none-some x at)
key_at f g (a ∷ xs) [] k x e at = let l = ap length e in absurd (omega arith)
key_at f g (a ∷ xs) (b ∷ ys) zero x e at = (b, refl, ap f (sym (same_Some a x at)) ∙ ap (λ l. get_or l 0 (f a)) e)
key_at f g (a ∷ xs) (b ∷ ys) (suc k) x e at = key_at f g xs ys k x (ap (drop 1) e) at

at_changed : {A : Type 0} (xs : List A) (k : ℕ) (x y z : A) → At xs k x → At (set xs k y) k z → y ≡ z
at_changed xs k x y z at at' = at_one (set xs k y) k y z (at_set xs k x y at) at'

pub to_some : {X : Type 0} (o : Option X) (x : X) (P : X → Type 0) → o ≡ Some x → P x → IfSome o P
to_some o x P e h = subst (λ z. IfSome z P) (sym e) h

pub if_some : {X : Type 0} (o : Option X) (x : X) (P : X → Type 0) → o ≡ Some x → IfSome o P → P x
if_some o x P e h = subst (λ z. IfSome z P) e h

pub take_front : {A : Type 0} (xs ys : List A) → take (length xs) (xs ++ ys) ≡ xs
take_front [] ys = refl
take_front (x ∷ xs) ys = ap (λ l. x ∷ l) (take_front xs ys)

module _ {S : Type 0} (owns : S → ℕ → Bool) (contents : S → Option Sectors) (told : S → Option StoreCalls) (faults : S → ℕ) where
  abbrev Q : Type 0
  Q = Part Entry (OpeningData S)

  abbrev P : Type 0
  P = Pass Entry (OpeningData S)

  abbrev entries : StoreOrder S → List Entry
  entries v = v.entries

  abbrev kept : OpeningData S → StoreOrder S → Type 0
  kept = Keeps owns contents told faults

  -- what is known of the shard that was taken
  pub record Ready (m : MediumData S) (p p1 : P) (k sector count : ℕ) (v : StoreOrder S) : Type 0 where
    pub cell : CellData (OpeningData S)
    pub cell_at : At m.turns.cells k cell
    pub part_before : Q
    pub part_at : At p.parts k part_before
    pub based : part_before.base ≡ Some cell.base
    pub keeps : kept cell.base v
    pub keys : cell.base.keys ≡ m.keys.keys
    pub less : length (own caller_of p.caller v.entries) < quota_of cell.base.quotas p.caller
    pub spare : 1 ≤ v.spare
    pub owned : IsPiece (owns v.store) sector count

  pub ready : (m : MediumData S) (p p1 : P) (k sector count : ℕ) (v : StoreOrder S) → Belongs m p → Each (λ cell. cell.base.keys ≡ m.keys.keys) m.turns.cells → k ≡ shard_of (shards_of m) sector → HasRoom m p sector → OwnsSectors owns m sector count
      → Changes p p1 k (λ q q'. TakesLater entries kept caller_of q v q') → Ready m p p1 k sector count v
  ready m p p1 k sector count v of same here room own_sectors took =
      let q : Q = took.1.0 in let at = took.1.2 in let t : TakesLater entries kept caller_of q v took.1.1 = took.1.4 in
      let key = key_at part_key cell_key p.parts m.turns.cells k q of.0.1 at in let cell : CellData (OpeningData S) = key.0 in
      let base : q.base ≡ Some cell.base = ap (λ z. z.1) key.2 in
      let keeps : kept cell.base v = if_some q.base cell.base (λ b. kept b v) base t.0.2 in
      let number : q.caller ≡ p.caller = each_at (λ (z : Q). z.caller ≡ p.caller) p.parts k q of.0.2 at in
      let cell_at : At m.turns.cells (shard_of (shards_of m) sector) cell = subst (λ j. At m.turns.cells j cell) here key.1 in
      let seen : list_at (seen_by p) (shard_of (shards_of m) sector) ≡ q.seen = entries_at (λ (z : Q). z.seen) p.parts (shard_of (shards_of m) sector) q (subst (λ j. At p.parts j q) here at) in
      let own_same : own caller_of p.caller v.entries ≡ own caller_of p.caller q.seen = subst (λ j. own caller_of j v.entries ≡ own caller_of j q.seen) number t.0.1 in
      let less : length (own caller_of p.caller v.entries) < quota_of cell.base.quotas p.caller = subst (λ (l : List Entry). length l < quota_of cell.base.quotas p.caller) (ap (own caller_of p.caller) seen ∙ sym own_same) (room cell cell_at) in
      let piece = own_sectors cell cell_at in record {
        cell = cell;
        cell_at = key.1;
        part_before = q;
        part_at = at;
        based = base;
        keeps = keeps;
        keys = each_at (λ (d : CellData (OpeningData S)). d.base.keys ≡ m.keys.keys) m.turns.cells k cell same key.1;
        less = less;
        spare = has_spare owns contents told faults cell.base v p.caller keeps less;
        owned = record { some = piece.some; owned = λ i inside. keeps.order.owned (sector + i) ∙ piece.owned i inside };
      }

  -- what holds once the shard was given back
  pub record Settled (m : MediumData S) (p p2 : P) (k : ℕ) (v : StoreOrder S) (e : Entry) : Type 0 where
    pub belongs : Belongs m p2
    pub same_caller : p2.caller ≡ p.caller
    pub appended : Appended (caller_of e) k (seen_by p) (seen_by p2) v.entries e

  -- the shard that was taken may be given back with one entry more
  pub record Visit (m : MediumData S) (p p1 : P) (k : ℕ) (v v' : StoreOrder S) (e : Entry) : Type 0 where
    pub may_give : AllAt p1.parts k (λ q. (q.holds ≡ true) × GoesOn entries kept caller_of q v')
    pub after : (p2 : P) → IsOf m.turns p2 → Changes p1 p2 k (λ q q'. q' ≡ without_turn q v'.entries) → Settled m p p2 k v e

  pub visit : (m : MediumData S) (p p1 : P) (k sector count : ℕ) (v v' : StoreOrder S) (e : Entry) (r : Ready m p p1 k sector count v) → Belongs m p → caller_of e ≡ p.caller → Changes p p1 k (λ q q'. TakesLater entries kept caller_of q v q')
      → IsOrder owns contents told faults r.cell.base.store (Some m.keys.keys) v'.store v'.entries → v'.entries ≡ v.entries ++ e ∷ [] → v'.spare + 1 ≡ v.spare → length v'.entries < 2 ^ 32 → Visit m p p1 k v v' e
  visit m p p1 k sector count v v' e r of mine took order more spare small =
      let q : Q = took.1.0 in let q1 : Q = took.1.1 in let at = took.1.2 in let sets = took.1.3 in let t : TakesLater entries kept caller_of q v q1 = took.1.4 in
      let same_q : r.part_before ≡ q = at_one p.parts k r.part_before q r.part_at at in
      let base : q.base ≡ Some r.cell.base = ap (λ (z : Q). z.base) (sym same_q) ∙ r.based in
      let number : q.caller ≡ p.caller = each_at (λ (z : Q). z.caller ≡ p.caller) p.parts k q of.0.2 at in
      let keeps : kept r.cell.base v' = keeps_more owns contents told faults r.cell.base v v' e r.keeps (subst (λ n. length (own caller_of n v.entries) < quota_of r.cell.base.quotas n) (sym mine) r.less)
      (subst (λ ks. IsOrder owns contents told faults r.cell.base.store (Some ks) v'.store v'.entries) (sym r.keys) order) more spare in
      let one : (z : Q) → At p1.parts k z → q1 ≡ z = λ z here. at_changed p.parts k q q1 z at (subst (λ l. At l k z) sets here) in
      let by_me : caller_of e ≡ q1.caller = mine ∙ sym number ∙ sym (ap (λ (z : Q). z.caller) t.2) in
      let goes : (q1.holds ≡ true) × GoesOn entries kept caller_of q1 v' = (
        ap (λ (z : Q). z.holds) t.2,
        ((e ∷ [], more ∙ ap (λ l. l ++ e ∷ []) (sym (ap (λ (z : Q). z.seen) t.2)), (by_me, tt)), to_some q1.base r.cell.base (λ b. kept b v') (ap (λ (z : Q). z.base) t.2 ∙ base) keeps, (omega arith)),
      ) in record {
        may_give = λ z here. subst (λ (z : Q). (z.holds ≡ true) × GoesOn entries kept caller_of z v') (one z here) goes;
        after = λ p2 of2 gave.
            let z : Q = gave.1.0 in let z' : Q = gave.1.1 in
            let here : q1 ≡ z = one z gave.1.2 in
            let is : z' ≡ without_turn q1 v'.entries = gave.1.4 ∙ ap (λ (y : Q). without_turn y v'.entries) (sym here) in
            let sets2 : p2.parts ≡ set p.parts k z' = gave.1.3 ∙ ap (λ l. set l k z') sets ∙ set-set p.parts k q1 z' in
            let caller : p2.caller ≡ p.caller = gave.0 ∙ took.0 in
            let seen' : z'.seen ≡ v'.entries = ap (λ (y : Q). y.seen) is in
            let base' : z'.base ≡ Some r.cell.base = ap (λ (y : Q). y.base) is ∙ ap (λ (y : Q). y.base) t.2 ∙ base in
            let free : z'.holds ≡ false = ap (λ (y : Q). y.holds) is in
            let within = keeps.within p.caller in
            let keeps_within : KeepsWithin p.caller z' = to_some z'.base r.cell.base (λ b. length (own caller_of p.caller z'.seen) ≤ quota_of b.quotas p.caller) base' (subst (λ l. length (own caller_of p.caller l) ≤ quota_of r.cell.base.quotas p.caller) (sym seen') within) in
            let before : list_at (seen_by p) k ≡ q.seen = entries_at (λ (y : Q). y.seen) p.parts k q at in record {
              belongs = (
                of2,
                subst (Each (λ (y : Q). y.holds ≡ false)) (sym sets2) (each_set (λ (y : Q). y.holds ≡ false) p.parts k z' of.1 free),
                subst (λ (c : ℕ). Each (KeepsWithin c) p2.parts) (sym caller) (subst (Each (KeepsWithin p.caller)) (sym sets2) (each_set (KeepsWithin p.caller) p.parts k z' of.2 keeps_within)),
              );
              same_caller = caller;
              appended = record {
                begins = subst (StartsWith v.entries) (sym before) t.0.0;
                own_before = subst (λ n. own caller_of n v.entries ≡ own caller_of n (list_at (seen_by p) k)) (number ∙ sym mine) (t.0.1 ∙ ap (own caller_of q.caller) (sym before));
                ends = ap (λ (l : List Q). list_at (map (λ y. y.seen) l) k) sets2 ∙ entries_at (λ (y : Q). y.seen) (set p.parts k z') k z' (at_set p.parts k q z' at) ∙ seen' ∙ more;
                elsewhere = λ other apart. ap (λ (l : List Q). list_at (map (λ y. y.seen) l) other) sets2 ∙ entries_other (λ (y : Q). y.seen) p.parts k other z' apart;
              };
            };
      }

-- so many whole sectors, in bytes
pub piece_of : (owns : ℕ → Bool) (first count : ℕ) (bytes : List ℕ) → length bytes ≡ 512 * count → IsPiece owns first count → IsPieceOf owns first bytes
piece_of owns first count bytes long piece =
    let many : length bytes / 512 ≡ count = omega arith in record {
      whole = long ∙ ap (λ n. 512 * n) (sym many);
      piece = subst (IsPiece owns first) (sym many) piece;
    }

module _ {S : Type 0} where
  -- what is known of the cell that was taken is known of whatever cell stands there
  pub at_cell : (cells : List (CellData (OpeningData S))) (k : ℕ) (cell : CellData (OpeningData S)) (R : OpeningData S → Type 0) → At cells k cell → R cell.base → AllAt cells k (λ d. R d.base)
  at_cell cells k cell R at is = all_at cells k cell (λ (d : CellData (OpeningData S)). R d.base) at is

-- what stood before the entry stands along the front before it
pub stood_before : (keys : List KeyData) (contents : Option Sectors) (before seen : List Entry) (e : Entry) (index first : ℕ) (raw : List ℕ) → seen ≡ before ++ e ∷ [] → index ≡ length before → Stand keys contents before first raw → Stand keys contents (take index seen) first raw
stood_before keys contents before seen e index first raw ends is stand =
    subst (λ l. Stand keys contents l first raw) (sym (ap₂ take is ends ∙ take_front before (e ∷ []))) stand
