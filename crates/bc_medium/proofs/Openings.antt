-- Opening a medium: quotas by shard, and what each shard and each pass begins with.
use Rattle.std.proofs.Common.{◌≡◌, ℕ, zero, suc, ◌+◌, ◌-◌, ◌<◌, ◌≤◌, ◌^◌, List, [], ◌∷◌, ◌++◌, map, length, take, get_or, false, refl, sym, ap, ap₂, ◌∙◌, subst, arith, length-append, append_assoc, Some}
use Rattle.std.specs.Prelude.{sum, slice_index_or}
use Rattle.std.specs.List.{range_with_len}
use Rattle.std.proofs.lemmas.List.{take_more, get_or_read, length-map, map-append, reverse-append}
use Rattle.std.proofs.lemmas.List.Sums.{sum_by-take-le, sum_by_push}
use Rattle.std.proofs.lemmas.Option.{none-some, same_Some}
use mathlib.Core.List.{reverse}
use Rattle.bc_base.specs.Lists.{Each, At, AllAt}
use Rattle.bc_base.specs.Story.{own}
use Rattle.bc_base.proofs.Lists.{each_at, at_read, at_map, all_at}
use Rattle.bc_key.specs.KeyData.{KeyData}
use Rattle.bc_turn.specs.PassParts.{Part, Pass, CellData, TurnsData, part_key, cell_key, new_part, new_pass}
use Rattle.bc_medium.specs.declared.entry.Entry.{Entry}
use Rattle.bc_medium.specs.Entries.{caller_of}
use Rattle.bc_medium.specs.Medium.{OpeningData, MediumData, quotas_of_shard, openings, IsMedium, Belongs, KeepsWithin, quota_of, own_at}
use Rattle.bc_medium.proofs.Access.{key_at, if_some}
use Rattle.bc_medium.proofs.Chosen.{entries_at}
use Rattle.bc_medium.proofs.Quotas.{fits_one}

pub there : {A : Type 0} (xs : List A) (k : ℕ) → k < length xs → (x : A) × At xs k x
there [] k l = absurd (omega arith)
there (x ∷ xs) zero l = (x, refl)
there (x ∷ xs) (suc k) l = there xs k (omega arith)

pub each_weaken : {A : Type 0} (P Q : A → Type 0) (xs : List A) → ((x : A) → P x → Q x) → Each P xs → Each Q xs
each_weaken P Q [] f e = tt
each_weaken P Q (x ∷ xs) f e = (f x e.0, each_weaken P Q xs f e.1)

pub each_mapped : {A C : Type 0} (f : A → C) (P : C → Type 0) (xs : List A) → ((x : A) → P (f x)) → Each P (map f xs)
each_mapped f P [] h = tt
each_mapped f P (x ∷ xs) h = (h x, each_mapped f P xs h)

pub each_of_mapped : {A C : Type 0} (f : A → C) (P : C → Type 0) (xs : List A) → Each (λ x. P (f x)) xs → Each P (map f xs)
each_of_mapped f P [] h = tt
each_of_mapped f P (x ∷ xs) h = (h.0, each_of_mapped f P xs h.1)

pub each_from_map : {A C : Type 0} (f : A → C) (P : C → Type 0) (xs : List A) → Each P (map f xs) → Each (λ x. P (f x)) xs
each_from_map f P [] h = tt
each_from_map f P (x ∷ xs) h = (h.0, each_from_map f P xs h.1)

pub mapped_read : {A C : Type 0} (f : A → C) (xs : List A) (i : ℕ) (x : A) → x ≡ get_or xs i x → f x ≡ get_or (map f xs) i (f x)
mapped_read f [] i x e = refl
mapped_read f (a ∷ xs) zero x e = ap f e
mapped_read f (a ∷ xs) (suc i) x e = mapped_read f xs i x e

pub row_at : (rows : List (List ℕ)) (i k : ℕ) (row : List ℕ) → i < length rows → row ≡ get_or rows i row → slice_index_or (quotas_of_shard k rows) i 0 ≡ slice_index_or row k 0
row_at [] i k row l e = absurd (omega arith)
row_at (r ∷ rows) zero k row l e = ap (λ (z : List ℕ). slice_index_or z k 0) (sym e)
row_at (r ∷ rows) (suc i) k row l e = row_at rows i k row (omega arith) e

pub column_step : (rows : List (List ℕ)) (k shard : ℕ) (row : List ℕ) (quota : ℕ) → k < length rows → row ≡ get_or rows k row → shard < length row → quota ≡ get_or row shard quota
    → (take (k + 1) (quotas_of_shard shard rows) ≡ take k (quotas_of_shard shard rows) ++ quota ∷ []) × (sum (take (k + 1) (quotas_of_shard shard rows)) ≡ sum (take k (quotas_of_shard shard rows)) + quota) × (sum (take (k + 1) (quotas_of_shard shard rows)) ≤ sum (quotas_of_shard shard rows))
column_step rows k shard row quota inside gr in_row gq =
    let col : List ℕ = quotas_of_shard shard rows in
    let long : length col ≡ length rows = length-map rows (λ (r : List ℕ). slice_index_or r shard 0) in
    let here : get_or col k 0 ≡ quota = row_at rows k shard row inside gr ∙ sym (get_or_read row shard quota in_row gq 0) in
    let more : take (k + 1) col ≡ take k col ++ quota ∷ [] = take_more col k 0 (omega arith) ∙ ap (λ (x : ℕ). take k col ++ x ∷ []) here in
    (more, ap sum more ∙ sum_by_push (λ x. x) (take k col) quota, sum_by-take-le (λ x. x) col (k + 1))

-- ---- the quota of a caller at a shard, and how many entries of its own it has seen there

pub as_many_parts : {S : Type 0} (m : MediumData S) (p : Pass Entry (OpeningData S)) → Belongs m p → length p.parts ≡ length m.turns.cells
as_many_parts m p of = sym (length-map p.parts part_key) ∙ ap length of.0.1 ∙ length-map m.turns.cells cell_key

pub row_long : {S : Type 0} (m : MediumData S) (p : Pass Entry (OpeningData S)) (shards : ℕ) (rows : List (List ℕ)) (row : List ℕ) (i : ℕ) → IsMedium m.keys.keys shards rows m.turns → Belongs m p → i ≡ p.caller → row ≡ get_or rows i row → length row ≡ length m.turns.cells
row_long m p shards rows row i is of e gr = each_at (λ (r : List ℕ). length r ≡ length m.turns.cells) rows i row is.long_rows (at_read rows i row (let a = is.a_row_each in let below = of.0.0 in omega arith) gr)

pub spare_at : {S : Type 0} (m : MediumData S) (p : Pass Entry (OpeningData S)) (shards : ℕ) (rows : List (List ℕ)) (row : List ℕ) (i j k x made : ℕ) → IsMedium m.keys.keys shards rows m.turns → Belongs m p → i ≡ p.caller → j ≡ k → k < length m.turns.cells
    → row ≡ get_or rows i row → x ≡ get_or row j x → AllAt p.parts k (λ q. made ≡ length (own caller_of p.caller q.seen))
    → (made ≤ x) × (x < 2 ^ 32) × AllAt m.turns.cells k (λ cell. (x - made) + own_at p k ≡ quota_of cell.base.quotas p.caller)
spare_at {S} m p shards rows row i j k x made is of e f inside gr gx counts =
    let many = as_many_parts m p of in
    let q0 = there p.parts k (omega arith) in let q : Part Entry (OpeningData S) = q0.0 in
    let key = key_at part_key cell_key p.parts m.turns.cells k q of.0.1 q0.1 in let cell : CellData (OpeningData S) = key.0 in let b : OpeningData S = cell.base in
    let base : q.base ≡ Some b = ap (λ z. z.1) key.2 in
    let w : length (own caller_of p.caller q.seen) ≤ quota_of b.quotas p.caller = if_some q.base b (λ b. length (own caller_of p.caller q.seen) ≤ quota_of b.quotas p.caller) base (each_at (KeepsWithin p.caller) p.parts k q of.2 q0.1) in
    let col = is.columns k cell key.1 in
    let i_in : i < length rows = let a = is.a_row_each in let below = of.0.0 in omega arith in
    let long : length row ≡ length m.turns.cells = each_at (λ (r : List ℕ). length r ≡ length m.turns.cells) rows i row is.long_rows (at_read rows i row i_in gr) in
    let here : x ≡ slice_index_or row k 0 = get_or_read row k x (omega arith) (gx ∙ ap (λ (n : ℕ). get_or row n x) f) 0 in
    let quota : quota_of b.quotas p.caller ≡ x = ap (λ (l : List ℕ). slice_index_or l p.caller 0) col.0 ∙ ap (λ (n : ℕ). slice_index_or (quotas_of_shard k rows) n 0) (sym e) ∙ row_at rows i k row i_in gr ∙ sym here in
    let small = fits_one b.quotas p.caller in let most = col.1 in
    let c = counts q q0.1 in
    let seen : own_at p k ≡ length (own caller_of p.caller q.seen) = ap (λ l. length (own caller_of p.caller l)) (entries_at (λ (z : Part Entry (OpeningData S)). z.seen) p.parts k q q0.1) in
    ((omega arith), (omega arith), all_at m.turns.cells k cell (λ (d : CellData (OpeningData S)). (x - made) + own_at p k ≡ quota_of d.base.quotas p.caller) key.1 (omega arith))

-- ---- opening, shard by shard

module _ {S : Type 0} (keys : List KeyData) (rows : List (List ℕ)) where
  pub more_openings : {V : Type 0} (done : List (V × OpeningData S)) (v : V × OpeningData S) (rest all : List S) (s : S) (whole : List (OpeningData S)) → map (λ v. v.1) done ++ openings keys rows (length done) (reverse all) ≡ whole → all ≡ rest ++ s ∷ []
      → v.1 ≡ record { store = s; keys = keys; quotas = quotas_of_shard (length done) rows } → map (λ v. v.1) (done ++ v ∷ []) ++ openings keys rows (length (done ++ v ∷ [])) (reverse rest) ≡ whole
  more_openings {V} done v rest all s whole e pop is =
      let base : V × OpeningData S → OpeningData S = λ v. v.1 in
      let long : length (done ++ v ∷ []) ≡ length done + 1 = length-append done (v ∷ []) in
      ap₂ (λ (l : List (OpeningData S)) (n : ℕ). l ++ openings keys rows n (reverse rest)) (map-append base done (v ∷ [])) long
      ∙ append_assoc (map base done) (base v ∷ []) (openings keys rows (length done + 1) (reverse rest))
      ∙ ap (λ (o : OpeningData S). map base done ++ o ∷ openings keys rows (length done + 1) (reverse rest)) is
      ∙ ap (λ (l : List S). map base done ++ openings keys rows (length done) l) (sym (ap reverse pop ∙ reverse-append rest (s ∷ []))) ∙ e

  pub openings_length : (k : ℕ) (ss : List S) → length (openings keys rows k ss) ≡ length ss
  openings_length k [] = refl
  openings_length k (s ∷ ss) = ap suc (openings_length (k + 1) ss)

  at_openings : (k j : ℕ) (ss : List S) (o : OpeningData S) → At (openings keys rows k ss) j o → (o.quotas ≡ quotas_of_shard (k + j) rows) × (o.keys ≡ keys) × (j < length ss)
  at_openings k j [] o at = absurd (none-some o at)
  at_openings k zero (s ∷ ss) o at = let e = same_Some record { store = s; keys = keys; quotas = quotas_of_shard k rows } o at in let z : k ≡ k + 0 = omega arith in
      (sym (ap (λ (x : OpeningData S). x.quotas) e) ∙ ap (λ (n : ℕ). quotas_of_shard n rows) z, sym (ap (λ (x : OpeningData S). x.keys) e), omega arith)
  at_openings k (suc j) (s ∷ ss) o at = let r = at_openings (k + 1) j ss o at in let z : k + 1 + j ≡ k + suc j = omega arith in (r.0 ∙ ap (λ (n : ℕ). quotas_of_shard n rows) z, r.1, omega arith)

  each_keys : (k : ℕ) (ss : List S) → Each (λ o. o.keys ≡ keys) (openings keys rows k ss)
  each_keys k [] = tt
  each_keys k (s ∷ ss) = (refl, each_keys (k + 1) ss)

  pub opened_medium : (shards : ℕ) (turns : TurnsData (OpeningData S)) (stores : List S) → map (λ c. c.base) turns.cells ≡ openings keys rows 0 stores → shards ≡ length stores → 1 ≤ length stores → length rows ≡ turns.callers → Each (λ row. length row ≡ length stores) rows
      → ((k : ℕ) → k < length stores → sum (quotas_of_shard k rows) < 2 ^ 32) → IsMedium keys shards rows turns
  opened_medium shards turns stores bases is some callers long fits =
      let many : length turns.cells ≡ length stores = sym (length-map turns.cells (λ (c : CellData (OpeningData S)). c.base)) ∙ ap length bases ∙ openings_length 0 stores in record {
        some = omega arith;
        one_each = is ∙ sym many;
        same_keys = each_from_map (λ (c : CellData (OpeningData S)). c.base) (λ o. o.keys ≡ keys) turns.cells (subst (Each (λ (o : OpeningData S). o.keys ≡ keys)) (sym bases) (each_keys 0 stores));
        a_row_each = callers;
        long_rows = each_weaken (λ row. length row ≡ length stores) (λ row. length row ≡ length turns.cells) rows (λ row e. e ∙ sym many) long;
        columns = λ k c at.
            let o = at_openings 0 k stores c.base (subst (λ (l : List (OpeningData S)). At l k c.base) bases (at_map (λ (c : CellData (OpeningData S)). c.base) turns.cells k c at)) in
            let z : 0 + k ≡ k = omega arith in let q : c.base.quotas ≡ quotas_of_shard k rows = o.0 ∙ ap (λ (n : ℕ). quotas_of_shard n rows) z in
            (q, subst (λ (l : List ℕ). sum l < 2 ^ 32) (sym q) (fits k o.2));
      }

-- new passes belong to the medium
module _ {S : Type 0} where
  keys_same : (n : ℕ) (cells : List (CellData (OpeningData S))) → map part_key (map (new_part {E = Entry} n) cells) ≡ map cell_key cells
  keys_same n [] = refl
  keys_same n (c ∷ cells) = ap (λ l. cell_key c ∷ l) (keys_same n cells)

  new_belongs : (m : MediumData S) (n : ℕ) → n < m.turns.callers → Belongs m (new_pass m.turns.cells n)
  new_belongs m n below = (
    (below, keys_same n m.turns.cells, each_mapped (new_part n) (λ q. q.caller ≡ n) m.turns.cells (λ c. refl)),
    each_mapped (new_part n) (λ q. q.holds ≡ false) m.turns.cells (λ c. refl),
    each_mapped (new_part n) (KeepsWithin n) m.turns.cells (λ c. omega arith),
  )

  pub all_belong : (m : MediumData S) (a k : ℕ) → a + k ≤ m.turns.callers → Each (Belongs m) (map (new_pass m.turns.cells) (range_with_len a k))
  all_belong m a zero l = tt
  all_belong m a (suc k) l = (new_belongs m a (omega arith), all_belong m (a + 1) k (omega arith))
