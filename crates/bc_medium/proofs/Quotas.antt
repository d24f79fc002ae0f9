-- Callers that keep within their quotas leave room.
use Rattle.std.proofs.Common.{◌≡◌, ◌≢◌, ℕ, ◌+◌, ◌-◌, ◌<◌, ◌≤◌, Bool, List, [], ◌∷◌, ◌++◌, length, set, get_or, refl, sym, ap, ◌∙◌, subst, arith, eq-eqb, ne_eqb, length-append, Some, Option}
use Rattle.std.specs.Prelude.{sum}
use Rattle.std.proofs.lemmas.List.{get_or_past, get_or-set_same, get_or-set_other}
use mathlib.Core.Logic.{dite}
use native.Mathlib.Decide.{dec_lt, ℕ_discrete}
use Rattle.bc_base.specs.Sectors.{Sectors}
use Rattle.bc_base.specs.Stores.{StoreCalls}
use Rattle.bc_base.specs.Story.{own}
use Rattle.bc_base.proofs.Stories.{own-append}
use Rattle.bc_medium.specs.declared.entry.Entry.{Entry}
use Rattle.bc_medium.specs.Entries.{caller_of}
use Rattle.bc_medium.specs.ShardOrder.{StoreOrder, IsOrder}
use Rattle.bc_medium.specs.Medium.{OpeningData, Keeps, quota_of}
use Rattle.bc_base.proofs.Members.{sum-set}

pub fits_one : (q : List ℕ) (c : ℕ) → get_or q c 0 ≤ sum q
fits_one q c = dite (dec_lt c (length q)) (λ l. let s = sum-set q c 0 l in omega arith) (λ no. let z = get_or_past q c 0 (omega arith) in omega arith)

module _ {E : Type 0} (by : E → ℕ) where
  within_less : (es : List E) (q : List ℕ) (c n : ℕ) → c < length q → n ≤ get_or q c 0 → ((d : ℕ) → d ≢ c → length (own by d es) ≤ get_or q d 0) → length (own by c es) ≤ n → (d : ℕ) → length (own by d es) ≤ get_or (set q c n) d 0
  within_less es q c n inside le others own_part d = dite (ℕ_discrete d c)
      (λ e. let s = get_or-set_same q c n 0 inside in subst (λ m. length (own by m es) ≤ get_or (set q c n) m 0) (sym e) (omega arith))
      (λ ne. let s = get_or-set_other q c d n 0 ne in let o = others d ne in omega arith)

  inside_of : (q : List ℕ) (c : ℕ) → 0 < get_or q c 0 → c < length q
  inside_of q c l = dite (dec_lt c (length q)) (λ k. k) (λ no. let z = get_or_past q c 0 (omega arith) in absurd (omega arith))

  pub fits : (es : List E) (q : List ℕ) → ((c : ℕ) → length (own by c es) ≤ get_or q c 0) → length es ≤ sum q
  fits [] q w = omega arith
  fits (e ∷ es) q w =
      let c : ℕ = by e in let n : ℕ = get_or q c 0 - 1 in
      let here : own by c (e ∷ es) ≡ e ∷ own by c es = rw (eq-eqb c c refl) refl in
      let one = w c in let l = ap length here in
      let inside : c < length q = inside_of q c (omega arith) in
      let s = sum-set q c n inside in
      let rest = fits es (set q c n) (within_less es q c n inside (omega arith) (λ d ne. subst (λ l. length l ≤ get_or q d 0) (rw (ne_eqb c d (λ h. ne (sym h))) refl) (w d)) (omega arith)) in omega arith

  pub leaves_room : (es : List E) (q : List ℕ) (c : ℕ) → ((d : ℕ) → length (own by d es) ≤ get_or q d 0) → length (own by c es) < get_or q c 0 → length es < sum q
  leaves_room es q c w less =
      let n : ℕ = get_or q c 0 - 1 in
      let inside : c < length q = inside_of q c (omega arith) in
      let s = sum-set q c n inside in
      let rest = fits es (set q c n) (within_less es q c n inside (omega arith) (λ d ne. w d) (omega arith)) in omega arith

module _ {S : Type 0} (owns : S → ℕ → Bool) (contents : S → Option Sectors) (told : S → Option StoreCalls) (faults : S → ℕ) where
  -- a shard keeps to its opening when a caller below its quota adds an entry
  pub keeps_more : (b : OpeningData S) (old new : StoreOrder S) (e : Entry) → Keeps owns contents told faults b old → length (own caller_of (caller_of e) old.entries) < quota_of b.quotas (caller_of e)
      → IsOrder owns contents told faults b.store (Some b.keys) new.store new.entries → new.entries ≡ old.entries ++ e ∷ [] → new.spare + 1 ≡ old.spare → Keeps owns contents told faults b new
  keeps_more b old new e is less order more spare =
      let c : ℕ = caller_of e in record {
        order = order;
        within = λ d. let a = ap (own caller_of d) more ∙ own-append caller_of d old.entries (e ∷ []) in let l = ap length a ∙ length-append (own caller_of d old.entries) (own caller_of d (e ∷ [])) in let w = is.within d in
            dite (ℕ_discrete c d)
            (λ same. let one : own caller_of d (e ∷ []) ≡ e ∷ [] = rw (eq-eqb c d same) refl in let k = ap length one in let less' = subst (λ m. length (own caller_of m old.entries) < quota_of b.quotas m) same less in omega arith)
            (λ ne. let none : own caller_of d (e ∷ []) ≡ [] = rw (ne_eqb c d ne) refl in let k = ap length none in omega arith);
        room = let l = ap length more ∙ length-append old.entries (e ∷ []) in let r = is.room in omega arith;
      }

  -- a caller below its quota finds room
  pub has_spare : (b : OpeningData S) (shard : StoreOrder S) (c : ℕ) → Keeps owns contents told faults b shard → length (own caller_of c shard.entries) < quota_of b.quotas c → 1 ≤ shard.spare
  has_spare b shard c is less = let room = leaves_room caller_of shard.entries b.quotas c is.within less in let r = is.room in omega arith

  -- a new shard keeps to its opening
  pub keeps_new : (b : OpeningData S) (shard : StoreOrder S) → IsOrder owns contents told faults b.store (Some b.keys) shard.store shard.entries → shard.entries ≡ [] → sum b.quotas ≤ shard.spare → Keeps owns contents told faults b shard
  keeps_new b shard order none room = record {
    order = order;
    within = λ c. let l = ap (λ (es : List Entry). length (own caller_of c es)) none in omega arith;
    room = omega arith;
  }
