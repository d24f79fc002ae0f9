-- Callers of one disk: which sectors they have, and that all of them come back.
use Rattle.std.proofs.Common.{◌≡◌, ◌⊎◌, inl, inr, ⊎_elim, Some, ap₂, ℕ, zero, suc, ◌+◌, ◌<◌, ◌≤◌, Bool, List, [], ◌∷◌, map, length, get_or, refl, sym, ap, ◌∙◌, subst, arith, eq-eqb, drop, ◌++◌, ◌*◌, ◌/◌, ◌%◌, true, ◌&&◌, lt-ltb, replicate}
use Rattle.std.specs.Prelude.{◌==◌, All, slice_index_or, sum}
use Rattle.std.specs.List.{range_with_len}
use Rattle.std.proofs.lemmas.List.{length-map, length-replicate}
use Rattle.std.proofs.lemmas.Option.{none-some, same_Some}
use Rattle.std.proofs.lemmas.List.Sums.{sum_by-le, sum-map}
use Rattle.bc_base.specs.Lists.{Each, EachFrom, At}
use Rattle.bc_base.specs.Layout.{shard_of}
use Rattle.bc_base.specs.RamStores.{RamData, owns}
use Rattle.bc_base.proofs.Lists.{at_map}
use Rattle.bc_key.specs.KeyData.{KeyData}
use Rattle.bc_turn.specs.Turning.{sum_of, one_if}
use Rattle.bc_turn.specs.PassParts.{Pass, CellData, is_caller, new_pass}
use Rattle.bc_medium.specs.declared.entry.Entry.{Entry}
use Rattle.bc_medium.specs.Medium.{OpeningData, MediumData, Belongs, openings, quotas_of_shard}
use Rattle.uses.specs.declared.disk.Done.{Done}
use Rattle.uses.specs.Disks.{StoresOwn, HasSectors, CameBack, IsFreshShard}

pub each_all : {A : Type 0} (P : A → Type 0) (xs : List A) → Each P xs → All P xs
each_all P [] each k d less = absurd (omega arith)
each_all P (x ∷ xs) each zero d less = each.0
each_all P (x ∷ xs) each (suc k) d less = each_all P xs each.1 k d (omega arith)

-- ---- sectors

module _ {S : Type 0} (keys : List KeyData) (rows : List (List ℕ)) where
  openings_length : (k : ℕ) (stores : List S) → length (openings keys rows k stores) ≡ length stores
  openings_length k [] = refl
  openings_length k (s ∷ stores) = ap suc (openings_length (k + 1) stores)

  at_openings : (k place : ℕ) (stores : List S) (b : OpeningData S) → At (openings keys rows k stores) place b → At stores place b.store
  at_openings k place [] b at = absurd (none-some b at)
  at_openings k zero (s ∷ stores) b at = ap (λ (z : OpeningData S). Some z.store) (same_Some record { store = s; keys = keys; quotas = quotas_of_shard k rows } b at)
  at_openings k (suc place) (s ∷ stores) b at = at_openings (k + 1) place stores b at

  pub has_sectors : (owns : S → ℕ → Bool) (m : MediumData S) (stores : List S) (sectors : ℕ) → map (λ cell. cell.base) m.turns.cells ≡ openings keys rows 0 stores → StoresOwn owns stores sectors
      → (length m.turns.cells ≡ length stores) × HasSectors owns m sectors
  has_sectors owns m stores sectors bases own =
      let base : CellData (OpeningData S) → OpeningData S = λ cell. cell.base in
      let many : length m.turns.cells ≡ length stores = sym (length-map m.turns.cells base) ∙ ap length bases ∙ openings_length 0 stores in (
        many,
        λ sector less cell at.
            own sector less cell.base.store (subst (λ n. At stores (shard_of n sector) cell.base.store) many
            (at_openings 0 (shard_of (length m.turns.cells) sector) stores cell.base (subst (λ l. At l (shard_of (length m.turns.cells) sector) cell.base) bases (at_map base m.turns.cells (shard_of (length m.turns.cells) sector) cell at)))),
      )

-- ---- callers

module _ {S : Type 0} where
  pub back_again : (m : MediumData S) (passes : List (Pass Entry (OpeningData S))) (done : List (Done S)) → length done ≡ length passes → CameBack m passes done
      → Each (Belongs m) (map (λ d. d.pass) done) × (map (λ p. p.caller) (map (λ d. d.pass) done) ≡ map (λ p. p.caller) passes)
  back_again m [] [] long back = (tt, refl)
  back_again m [] (d ∷ done) long back = absurd (omega arith)
  back_again m (p ∷ passes) [] long back = absurd (omega arith)
  back_again m (p ∷ passes) (d ∷ done) long back =
      let first = back 0 p d (omega arith) in
      let others = back_again m passes done (omega arith) (λ k pass one less. back (suc k) pass one (omega arith)) in
      ((first.0, others.0), ap₂ (λ (c : ℕ) (cs : List ℕ). c ∷ cs) first.1 others.1)

  pub new_numbers : (cells : List (CellData (OpeningData S))) (first count : ℕ) → map (λ p. p.caller) (map (new_pass {E = Entry} cells) (range_with_len first count)) ≡ range_with_len first count
  new_numbers cells first zero = refl
  new_numbers cells first (suc count) = ap (λ l. first ∷ l) (new_numbers cells (first + 1) count)

  here_from : (passes : List (Pass Entry (OpeningData S))) (first count caller : ℕ) → map (λ p. p.caller) passes ≡ range_with_len first count → first ≤ caller → caller < first + count → 0 < sum_of (is_caller caller) passes
  here_from [] first zero caller numbers from below = absurd (omega arith)
  here_from [] first (suc count) caller numbers from below = let l = ap length numbers in absurd (omega arith)
  here_from (p ∷ passes) first zero caller numbers from below = let l = ap length numbers in absurd (omega arith)
  here_from (p ∷ passes) first (suc count) caller numbers from below =
      let one : p.caller ≡ first = ap (λ l. get_or l 0 0) numbers in
      let rest : map (λ p. p.caller) passes ≡ range_with_len (first + 1) count = ap (drop 1) numbers in
      ⊎_elim
      (λ same. let this : one_if (p.caller == caller) ≡ 1 = ap one_if (eq-eqb p.caller caller (one ∙ same)) in omega arith)
      (λ more. let others = here_from passes (first + 1) count caller rest more (omega arith) in omega arith)
      (split first caller from)
    where
      split : (first caller : ℕ) → first ≤ caller → (first ≡ caller) ⊎ (first + 1 ≤ caller)
      split zero zero le = inl refl
      split zero (suc caller) le = inr (omega arith)
      split (suc first) zero le = absurd (omega arith)
      split (suc first) (suc caller) le = ⊎_elim (λ e. inl (ap suc e)) (λ l. inr (omega arith)) (split first caller (omega arith))

  pub all_here : (passes : List (Pass Entry (OpeningData S))) (callers : ℕ) → map (λ p. p.caller) passes ≡ range_with_len 0 callers → (caller : ℕ) → caller < callers → 0 < sum_of (is_caller caller) passes
  all_here passes callers numbers caller below = here_from passes 0 callers caller numbers (omega arith) (omega arith)

-- ---- stores in memory

each_from_at : {A : Type 0} (P : ℕ → A → Type 0) (k place : ℕ) (xs : List A) (x : A) → EachFrom P k xs → At xs place x → P (k + place) x
each_from_at P k place [] x each at = absurd (none-some x at)
each_from_at P k zero (y ∷ xs) x each at = subst (λ n. P n x) (let z : k ≡ k + 0 = omega arith in z) (subst (P k) (same_Some y x at) each.0)
each_from_at P k (suc place) (y ∷ xs) x each at = subst (λ n. P n x) (let z : k + 1 + place ≡ k + suc place = omega arith in z) (each_from_at P (k + 1) place xs x each.1 at)

pub stores_own : (image : List ℕ) (shards sectors : ℕ) (stores : List RamData) → length stores ≡ shards → length image % 4096 ≡ 0 → sectors ≡ length image / 512 → EachFrom (IsFreshShard image shards) 0 stores → StoresOwn owns stores sectors
stores_own image shards sectors stores many whole all each = λ sector less store at.
    let shard = each_from_at (IsFreshShard image shards) 0 (shard_of (length stores) sector) stores store each at in
    let is = shard.0 in
    let inside : sector / 8 < store.blocks = let b = is.blocks_are in omega arith in
    let here : shard_of store.shards sector ≡ store.shard = ap (λ n. shard_of n sector) (is.shards_are ∙ sym many) ∙ (let z : 0 + shard_of (length stores) sector ≡ shard_of (length stores) sector = omega arith in sym z) ∙ sym is.shard_is in record {
      some = omega arith;
      owned = λ i one. subst (λ n. owns store n ≡ true) (let z : sector ≡ sector + i = omega arith in z) (ap₂ (λ a b. a && b) (eq-eqb (shard_of store.shards sector) store.shard here) (lt-ltb (sector / 8) store.blocks inside));
    }

pub no_calls_yet : (image : List ℕ) (shards k : ℕ) (stores : List RamData) → EachFrom (IsFreshShard image shards) k stores → Each (λ s. s.calls.calls ≡ 0) stores
no_calls_yet image shards k [] each = tt
no_calls_yet image shards k (s ∷ stores) each = (each.0.1, no_calls_yet image shards (k + 1) stores each.1)

pub fresh_pushed : (image : List ℕ) (shards k n : ℕ) (stores : List RamData) (store : RamData) → EachFrom (IsFreshShard image shards) k stores → n ≡ k + length stores → IsFreshShard image shards n store → EachFrom (IsFreshShard image shards) k (stores ++ store ∷ [])
fresh_pushed image shards k n [] store each is fresh = (subst (λ m. IsFreshShard image shards m store) (let z : n ≡ k = omega arith in z) fresh, tt)
fresh_pushed image shards k n (s ∷ stores) store each is fresh = (each.0, fresh_pushed image shards (k + 1) n stores store each.1 (omega arith) fresh)

-- ---- quotas

replicated : (n quota k : ℕ) → slice_index_or (replicate n quota) k 0 ≤ quota
replicated zero quota k = omega arith
replicated (suc n) quota zero = omega arith
replicated (suc n) quota (suc k) = replicated n quota k

column_le : {R : Type 0} (items : R → List ℕ) (n quota k : ℕ) (rows : List R) → Each (λ row. items row ≡ replicate n quota) rows → Each (λ row. slice_index_or row k 0 ≤ quota) (map items rows)
column_le items n quota k [] each = tt
column_le items n quota k (row ∷ rows) each = (subst (λ l. slice_index_or l k 0 ≤ quota) (sym each.0) (replicated n quota k), column_le items n quota k rows each.1)

pub even_fit : {R : Type 0} (items : R → List ℕ) (n quota k : ℕ) (rows : List R) → Each (λ row. items row ≡ replicate n quota) rows → sum (quotas_of_shard k (map items rows)) ≤ length rows * quota
even_fit items n quota k rows each =
    let same = sum-map (λ (row : List ℕ). slice_index_or row k 0) (map items rows) in
    let most = sum_by-le (λ (row : List ℕ). slice_index_or row k 0) quota (map items rows) (each_all (λ row. slice_index_or row k 0 ≤ quota) (map items rows) (column_le items n quota k rows each)) in
    subst (λ m. sum (quotas_of_shard k (map items rows)) ≤ m * quota) (length-map rows items) (omega arith)

pub row_lengths : {R : Type 0} (items : R → List ℕ) (n quota : ℕ) (rows : List R) → Each (λ row. items row ≡ replicate n quota) rows → Each (λ row. length (items row) ≡ n) rows
row_lengths items n quota [] each = tt
row_lengths items n quota (row ∷ rows) each = (ap length each.0 ∙ length-replicate n quota, row_lengths items n quota rows each.1)
