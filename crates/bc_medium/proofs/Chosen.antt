-- One shard of several: where it stands, and what its change leaves.
use Rattle.std.proofs.Common.{◌≡◌, ℕ, zero, suc, ◌+◌, ◌<◌, ◌≤◌, List, [], ◌∷◌, ◌++◌, map, length, set, get_or, drop, sym, ap, ap₂, ◌∙◌, subst, arith, append_assoc, length-append, refl, ◌≢◌}
use Rattle.std.proofs.lemmas.List.{reverse-append, drop_more}
use Rattle.std.specs.Prelude.{◌↔◌, IfSome, Contains, Option}
use Rattle.std.proofs.lemmas.Option.{get_or_from_slice_get}
use mathlib.Core.List.{reverse}
use Rattle.bc_base.specs.declared.place.Place.{Place}
use Rattle.bc_base.specs.Lists.{At, ChangesAt, list_at}
use Rattle.bc_base.specs.Stores.{StoreCalls}
use Rattle.bc_base.proofs.Lists.{at_read, at_map, at_one}
use Rattle.bc_base.proofs.Stories.{begins_itself}
use Rattle.bc_key.specs.KeyData.{KeyData}
use Rattle.bc_medium.specs.declared.entry.Entry.{Entry}
use Rattle.bc_medium.specs.Layout.{shard_of}
use Rattle.bc_medium.specs.ShardOrder.{ShardData, Appends, opened_shard}
use Rattle.bc_medium.specs.Shards.{orders_of, Adds, opened_with}
use Rattle.bc_base.proofs.Members.{at_set}

pub shard_inside : (shards sector : ℕ) → 1 ≤ shards → shard_of shards sector < shards
shard_inside shards sector some = omega arith

module _ {A : Type 0} (view inside : List A) (i sector : ℕ) (x : A) where
  pub chosen : inside ≡ view → i ≡ shard_of (length inside) sector → 1 ≤ length inside → x ≡ get_or inside i x → At view (shard_of (length view) sector) x
  chosen same e some gx =
      let k : i < length inside = let l = shard_inside (length inside) sector some in omega arith in
      let here : At inside i x = at_read inside i x k gx in
      subst (λ l. At l (shard_of (length l) sector) x) same (subst (λ m. At inside m x) e here)

  pub changed : (k : ℕ) (y : A) (R : A → A → Type 0) → inside ≡ view → i ≡ shard_of (length inside) sector → 1 ≤ length inside → x ≡ get_or inside i x → k ≡ i → R x y → ChangesAt view (set inside i y) k R
  changed k y R same e some gx is r = let at = chosen same e some gx in
      let here : k ≡ shard_of (length view) sector = is ∙ e ∙ ap (λ (l : List A). shard_of (length l) sector) same in
      (x, y, subst (λ m. At view m x) (sym here) at, ap₂ (λ l m. set l m y) same (sym is), r)

-- what was said of the chosen shard is said of whatever stands there
pub planned_at : {S : Type 0} (told : S → Option StoreCalls) (view : List (ShardData S)) (k : ℕ) (x : ShardData S) (Fails : Type 0) → At view k x → IfSome (told x.start) (λ t. Fails ↔ Contains t.plan (length x.entries))
    → (y : ShardData S) → At view k y → IfSome (told y.start) (λ t. Fails ↔ Contains t.plan (length y.entries))
planned_at {S} told view k x F at is y at' = subst (λ (z : ShardData S). IfSome (told z.start) (λ t. F ↔ Contains t.plan (length z.entries))) (at_one view k x y at at') is

-- closing, from the first shard on
pub more_done : {A : Type 0} (done rest all whole : List A) (x : A) → done ++ reverse all ≡ whole → all ≡ rest ++ x ∷ [] → (done ++ x ∷ []) ++ reverse rest ≡ whole
more_done done rest all whole x e pop = append_assoc done (x ∷ []) (reverse rest) ∙ ap (λ l. done ++ l) (sym (ap reverse pop ∙ reverse-append rest (x ∷ []))) ∙ e

-- opening, from the first store on
pub more_opened : {S : Type 0} (done : List (ShardData S)) (rest all : List S) (quotas : List ℕ) (s : S) (q : ℕ) (whole : List (ShardData S)) → done ++ opened_with (reverse all) (drop (length done) quotas) ≡ whole → all ≡ rest ++ s ∷ [] → length done < length quotas → q ≡ get_or quotas (length done) q
    → (done ++ opened_shard s q ∷ []) ++ opened_with (reverse rest) (drop (length (done ++ opened_shard s q ∷ [])) quotas) ≡ whole
more_opened {S} done rest all quotas s q whole e pop inside gq =
    let one : ShardData S = opened_shard s q in
    let long : length (done ++ one ∷ []) ≡ length done + 1 = length-append done (one ∷ []) in
    let next : drop (length done) quotas ≡ q ∷ drop (length done + 1) quotas = drop_more quotas (length done) q inside ∙ ap (λ (x : ℕ). x ∷ drop (length done + 1) quotas) (sym gq) in
    append_assoc done (one ∷ []) (opened_with (reverse rest) (drop (length (done ++ one ∷ [])) quotas)) ∙ ap (λ (n : ℕ). done ++ one ∷ opened_with (reverse rest) (drop n quotas)) long
    ∙ ap₂ (λ (ss : List S) (qs : List ℕ). done ++ opened_with ss qs) (sym (ap reverse pop ∙ reverse-append rest (s ∷ []))) (sym next) ∙ e

-- one access, from what it did to its shard
pub entries_at : {A B : Type 0} (f : A → List B) (xs : List A) (k : ℕ) (x : A) → At xs k x → list_at (map f xs) k ≡ f x
entries_at f xs k x at = get_or_from_slice_get (map f xs) k (f x) [] (at_map f xs k x at)

pub entries_other : {A B : Type 0} (f : A → List B) (xs : List A) (k other : ℕ) (y : A) → other ≢ k → list_at (map f (set xs k y)) other ≡ list_at (map f xs) other
entries_other f [] k other y apart = refl
entries_other f (x ∷ xs) zero zero y apart = absurd (apart refl)
entries_other f (x ∷ xs) zero (suc other) y apart = refl
entries_other f (x ∷ xs) (suc k) zero y apart = refl
entries_other f (x ∷ xs) (suc k) (suc other) y apart = entries_other f xs k other y (λ same. apart (ap suc same))

pub adds : {S : Type 0} (old new : List (ShardData S)) (place : Place) (keys : ShardData S → Option (List KeyData)) (e : Entry) (s s' : ShardData S) → place.shard ≡ shard_of (length old) e.at.sector → At old place.shard s → new ≡ set old place.shard s'
    → place.index ≡ length s.entries → Appends (keys s) s s' e → Adds old new e place
adds {S} old new place keys e s s' lies at sets index more =
    let entries : ShardData S → List Entry = λ (z : ShardData S). z.entries in
    let before : list_at (orders_of old) place.shard ≡ s.entries = entries_at entries old place.shard s at in
    record {
      shard = lies;
      index = index ∙ ap length (sym before);
      appended = record {
        begins = begins_itself (list_at (orders_of old) place.shard);
        own_before = refl;
        ends = ap (λ (l : List (ShardData S)). list_at (orders_of l) place.shard) sets ∙ entries_at entries (set old place.shard s') place.shard s' (at_set old place.shard s s' at)
            ∙ more.2 ∙ ap (λ (l : List Entry). l ++ e ∷ []) (sym before);
        elsewhere = λ other apart. ap (λ (l : List (ShardData S)). list_at (orders_of l) other) sets ∙ entries_other entries old place.shard other s' apart;
      };
    }
