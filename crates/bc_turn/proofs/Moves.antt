-- Each step keeps the rule of one turn.
use Rattle.std.proofs.Common.{◌≡◌, ◌≢◌, inl, inr, ⊎_elim, ℕ, zero, suc, ◌+◌, ◌*◌, ◌^◌, ◌<◌, ◌≤◌, Bool, true, false, true≢false, eqb, List, [], ◌∷◌, ◌++◌, length, set, refl, sym, ap, ap₂, ◌∙◌, subst, arith, append-nil, eq-eqb, bit_or, Some, None}
use Rattle.std.specs.Prelude.{slice_index, Option, IfSome}
use mathlib.Core.Option as maybe
use mathlib.Core.Option.{some-injective}
use mathlib.Core.Logic.{dite}
use native.Mathlib.Decide.{dec_lt, ℕ_discrete}
use lib.ListN.{get_elem?}
use Rattle.atomic_table.specs.Table.{State, Me, step, Allows, Joins, Splits, Final, Seen, opening, keeps, takes, gives, put_back}
use Rattle.atomic_table.proofs.Lists.{set_else}
use Rattle.bc_turn.specs.declared.view.Account.{Account}
use Rattle.bc_turn.specs.declared.view.View.{View}
use Rattle.bc_base.specs.Lists.{Each}
use Rattle.bc_base.specs.Story.{StartsWith, own}
use Rattle.bc_turn.specs.Turning.{one_if, sum_of, flat, below, names, has, newcomers, account, view_of, Fits, Turning, ViewGoesOn, Based, Alone, mine, front_of, others_of, cut_off, left_over, joined_view, tried, gave, counted}
use Rattle.bc_base.proofs.Lists.{each_front, each_back, each_append, each_both, each_set}
use Rattle.bc_base.proofs.Stories.{own-append, own_other, begins_itself, begins_more}
use Rattle.bc_turn.proofs.Lists.{each_at, sum_append, none_counts, around, flat_more, below-le, below-one, or_one}

pub none_some : {X : Type 0} (x : X) → ¬ (None ≡ Some x)
none_some {X} x e = true≢false (ap (λ (o : Option X). is_none o) e)
  where
    is_none : Option X → Bool
    is_none None = true
    is_none (Some y) = false

pub some_same : {X : Type 0} (x y : X) → Some x ≡ Some y → x ≡ y
some_same {X} x y e = ap (λ (o : Option X). or_x o) e
  where
    or_x : Option X → X
    or_x (Some z) = z
    or_x None = x

module _ {E B : Type 0} (by : E → ℕ) where
  -- what is left of the rule once one account has changed
  pub record Changed (b : B) (callers : ℕ) (story : List E) (out : ℕ) (vs : List (View E B)) : Type 0 where
    pub bases : Each (Based b) vs
    pub fits : Each (Fits by story) (flat vs)
    pub holders : sum_of has (flat vs) ≡ out
    pub named : (c : ℕ) → sum_of (names c) (flat vs) ≡ below c callers

  base_known : (b : B) (vs : List (View E B)) (id : ℕ) (v : View E B) (a : Account E) → Each (Based b) vs → get_elem? vs id ≡ maybe.some v → v.accounts ≡ a ∷ [] → v.base ≡ Some b
  base_known b vs id v a all at alone = ⊎_elim (λ k. k) (λ none. let n = ap length (sym none ∙ alone) in absurd (omega arith)) (each_at (Based b) vs id v all at)

  pub changed : (b : B) (callers : ℕ) (story story' : List E) (out out' : ℕ) (vs : List (View E B)) → Changed b callers story out vs → out ≤ 1
      → (id : ℕ) (v : View E B) → get_elem? vs id ≡ maybe.some v → (a a' : Account E) → v.accounts ≡ a ∷ [] → a'.number ≡ a.number
      → Fits by story' a' → ((x : Account E) → x.number ≢ a.number → (a.has ≡ true → has x ≡ 0) → Fits by story x → Fits by story' x)
      → out' + has a ≡ out + has a' → Changed b callers story' out' (set vs id (view_of v.base (a' ∷ [])))
  changed b callers story story' out out' vs r le id v at a a' alone same fit others count =
      let w = view_of v.base (a' ∷ []) in
      let k = around vs id v at in
      let L : List (Account E) = k.front in let R : List (Account E) = k.back in
      let now : flat vs ≡ L ++ (a ∷ R) = k.now ∙ ap (λ l. L ++ (l ++ R)) alone in
      let then : flat (set vs id w) ≡ L ++ (a' ∷ R) = k.then w in
      let sums : (f : Account E → ℕ) → sum_of f (flat vs) ≡ sum_of f L + (f a + sum_of f R) = λ f. ap (sum_of f) now ∙ sum_append f L (a ∷ R) in
      let sums' : (f : Account E → ℕ) → sum_of f (flat (set vs id w)) ≡ sum_of f L + (f a' + sum_of f R) = λ f. ap (sum_of f) then ∙ sum_append f L (a' ∷ R) in
      let n : ℕ = a.number in
      let one : names n a ≡ 1 = ap one_if (eq-eqb n n refl) in
      let alone_named = sums (names n) in let total = r.named n in let most = below-one n callers in
      let fits : Each (Fits by story) (L ++ (a ∷ R)) = subst (Each (Fits by story)) now r.fits in
      let held = sums has in let total_held = r.holders in
      let away : (xs : List (Account E)) → sum_of (names n) xs ≡ 0 → (a.has ≡ true → sum_of has xs ≡ 0) → Each (Fits by story) xs → Each (Fits by story') xs = λ xs none free f.
      each_both (λ x. names n x ≡ 0) (λ x. (a.has ≡ true → has x ≡ 0) × Fits by story x) (Fits by story')
      (λ x no p. others x (λ e. let y : names n x ≡ 1 = ap one_if (eq-eqb x.number n e) in absurd (omega arith)) p.0 p.1)
      xs (none_counts (names n) xs none)
      (free_each xs free f) in
      record {
        bases = each_set (Based b) vs id w r.bases (inl (base_known b vs id v a r.bases at alone));
        fits = subst (Each (Fits by story')) (sym then)
            (each_append (Fits by story') L (a' ∷ R)
            (away L (omega arith) (λ h. let y : has a ≡ 1 = ap one_if h in omega arith) (each_front (Fits by story) L (a ∷ R) fits))
            (fit, away R (omega arith) (λ h. let y : has a ≡ 1 = ap one_if h in omega arith) (each_back (Fits by story) L (a ∷ R) fits).1));
        holders = let s = sums' has in omega arith;
        named = λ c. let s = sums (names c) in let s' = sums' (names c) in let e : names c a' ≡ names c a = ap (λ (m : ℕ). one_if (eqb m c)) same in let t = r.named c in omega arith;
      }
    where
      free_each : (xs : List (Account E)) → (a.has ≡ true → sum_of has xs ≡ 0) → Each (Fits by story) xs → Each (λ x. (a.has ≡ true → has x ≡ 0) × Fits by story x) xs
      free_each [] free f = tt
      free_each (x ∷ xs) free f = (((λ h. let z = free h in omega arith), f.0), free_each xs (λ h. let z = free h in omega arith) f.1)

  -- what the rule says of the account of a seat
  pub fits_mine : (b : B) (callers : ℕ) (story : List E) (out : ℕ) (vs : List (View E B)) → Changed b callers story out vs
      → (id : ℕ) (v : View E B) → get_elem? vs id ≡ maybe.some v → (a : Account E) → v.accounts ≡ a ∷ [] → Fits by story a
  fits_mine b callers story out vs r id v at a alone = let k = around vs id v at in
      (each_back (Fits by story) k.front (a ∷ k.back) (subst (Each (Fits by story)) (k.now ∙ ap (λ l. k.front ++ (l ++ k.back)) alone) r.fits)).0

  pub held_mine : (b : B) (callers : ℕ) (story : List E) (out : ℕ) (vs : List (View E B)) → Changed b callers story out vs
      → (id : ℕ) (v : View E B) → get_elem? vs id ≡ maybe.some v → (a : Account E) → v.accounts ≡ a ∷ [] → has a ≤ out
  held_mine b callers story out vs r id v at a alone = let k = around vs id v at in
      let s = ap (sum_of has) (k.now ∙ ap (λ l. k.front ++ (l ++ k.back)) alone) ∙ sum_append has k.front (a ∷ k.back) in let t = r.holders in omega arith

  pub named_mine : (b : B) (callers : ℕ) (story : List E) (out : ℕ) (vs : List (View E B)) → Changed b callers story out vs
      → (id : ℕ) (v : View E B) → get_elem? vs id ≡ maybe.some v → (a : Account E) → v.accounts ≡ a ∷ [] → a.number < callers
  named_mine b callers story out vs r id v at a alone = let k = around vs id v at in let n : ℕ = a.number in
      let s = ap (sum_of (names n)) (k.now ∙ ap (λ l. k.front ++ (l ++ k.back)) alone) ∙ sum_append (names n) k.front (a ∷ k.back) in let t = r.named n in
      let one : names n a ≡ 1 = ap one_if (eq-eqb n n refl) in
      dite (dec_lt n callers) (λ l. l) (λ no. let z = below-le n callers (omega arith) in absurd (omega arith))

module _ {V E B : Type 0} (entries : V → List E) (kept : B → V → Type 0) (by : E → ℕ) (b : B) (callers : ℕ) where
  abbrev St : Type 0
  St = State (Option V) (View E B)

  abbrev M : Type 0
  M = Me (Option V) (View E B)

  abbrev Rule : St → Type 0
  Rule = Turning entries kept by b callers

  people : (s : St) (r : Rule s) → Changed by b callers r.story r.out s.views
  people s r = record { bases = r.bases; fits = r.fits; holders = r.holders; named = r.named }

  based : (s : St) (r : Rule s) (id : ℕ) (v : View E B) → get_elem? s.views id ≡ maybe.some v → Alone v → v.base ≡ Some b
  based s r id v at alone = base_known by b s.views id v (mine v) r.bases at alone

  -- the words of a table with one
  one_word : (ws : List ℕ) (n : ℕ) → length ws ≡ 1 → (length (set ws 0 n) ≡ 1) × (slice_index (set ws 0 n) 0 ≡ n)
  one_word [] n e = absurd (omega arith)
  one_word (w ∷ []) n e = (e, refl)
  one_word (w ∷ v ∷ ws) n e = absurd (omega arith)

  value_or : V → Option V → V
  value_or d (Some y) = y
  value_or d None = d

  value_in : V → List (ℕ × Option V) → V
  value_in d [] = d
  value_in d (x ∷ xs) = value_or d x.1

  same_value : (v x : V) (xs : List (ℕ × Option V)) → (0, Some v) ∷ [] ≡ (0, Some x) ∷ xs → v ≡ x
  unfolding value_in value_or
  same_value v x xs e = ap (value_in v) e

  same_word : (ws : List ℕ) → length ws ≡ 1 → set ws 0 (slice_index ws 0) ≡ ws
  same_word [] e = absurd (omega arith)
  same_word (w ∷ ws) e = refl

  pub tries : (slots id : ℕ) (me : M) → Alone me.0 → (mine me.0).has ≡ false
      → Allows Rule slots id me 0 (λ n. bit_or n 1) (tried entries kept by (step slots 0 1 0 maybe.none) me)
  tries slots id me alone free s r wide at small =
      let a : Account E = mine me.0 in
      let word = r.word in let bit = r.bit in
      let up : bit_or (slice_index s.words 0) 1 ≡ 2 * length r.story + 1 = or_one (slice_index s.words 0) (length r.story) r.out word bit in
      let ws = one_word s.words (bit_or (slice_index s.words 0) 1) r.one_word in
      dite (ℕ_discrete r.out 0)
      (λ z.
      let h = r.home z in let v : V = h.2.0 in let a' = account a.number r.story a.missed true in let w = view_of me.0.base (a' ∷ []) in
      let p = changed by b callers r.story r.story r.out 1 s.views (people s r) bit id me.0 at a a' alone refl
      (begins_itself r.story, refl, λ _. refl) (λ x n none f. f) (let q = ap one_if free in omega arith) in
      let f = fits_mine by b callers r.story r.out s.views (people s r) id me.0 at a alone in
      let gone : set s.homes 0 maybe.none ≡ maybe.none ∷ [] = ap (λ l. set l 0 maybe.none) h.1 in
      let is : entries v ≡ r.story = h.2.2 in (
        w,
        takes 0 (Some v),
        ap (λ l. get_elem? l 0) h.1 ∙ ap maybe.some h.2.1,
        record {
          story = r.story;
          out = 1;
          one_word = ws.0;
          one_slot = ap length gone;
          word = ws.1 ∙ up;
          bit = omega arith;
          small = r.small;
          home = λ e. absurd (omega arith);
          away = λ _. gone;
          bases = p.bases;
          fits = p.fits;
          holders = p.holders;
          named = p.named;
          strangers = r.strangers;
        },
        (
          λ _. (
            v,
            refl,
            ap (λ l. view_of me.0.base (account a.number l a.missed true ∷ [])) (sym is),
            (subst (λ l. StartsWith l a.seen) (sym is) f.0, ap (own by a.number) is ∙ f.1, subst (λ o. IfSome o (λ d. kept d v)) (sym (based s r id me.0 at alone)) h.2.3, let t = r.small in let l = ap length is in omega arith),
          ),
          λ odd. absurd (odd (omega arith)),
        ),
      ))
      (λ z.
      let a' = account a.number a.seen (a.missed + 1) a.has in let w = view_of me.0.base (a' ∷ []) in
      let f = fits_mine by b callers r.story r.out s.views (people s r) id me.0 at a alone in
      let p = changed by b callers r.story r.story r.out r.out s.views (people s r) bit id me.0 at a a' alone refl
      f (λ x n none f. f) refl in (
        w,
        keeps,
        tt,
        record {
          story = r.story;
          out = r.out;
          one_word = ws.0;
          one_slot = r.one_slot;
          word = let x = ws.1 ∙ up in omega arith;
          bit = bit;
          small = r.small;
          home = r.home;
          away = r.away;
          bases = p.bases;
          fits = p.fits;
          holders = p.holders;
          named = p.named;
          strangers = r.strangers;
        },
        (
          (λ even. absurd (omega arith)),
          λ odd. (refl, refl),
        ),
      ))

  -- the story goes on by entries of this caller
  pub gives_back : (slots id : ℕ) (me : M) (v : V) (new : List E) (n : ℕ) → Alone me.0 → (mine me.0).has ≡ true → me.1 ≡ (0, Some v) ∷ []
      → entries v ≡ (mine me.0).seen ++ new → Each (λ x. by x ≡ (mine me.0).number) new → IfSome me.0.base (λ d. kept d v) → length (entries v) < 2 ^ 62 → n ≡ 2 * length (entries v)
      → Allows Rule slots id me 0 (λ _. n) (λ _. gave entries kept by (step slots 0 n 0 maybe.none) me n)
  gives_back slots id me v new n alone holds carries grows all_own same_base fits is s r wide at small =
      let a : Account E = mine me.0 in
      let a' = account a.number (entries v) a.missed false in let w = view_of me.0.base (a' ∷ []) in
      let f = fits_mine by b callers r.story r.out s.views (people s r) id me.0 at a alone in
      let seen : a.seen ≡ r.story = f.2 holds in
      let one : has a ≡ 1 = ap one_if holds in
      let low = held_mine by b callers r.story r.out s.views (people s r) id me.0 at a alone in
      let bit = r.bit in
      let more : entries v ≡ r.story ++ new = grows ∙ ap (λ l. l ++ new) seen in
      let ws = one_word s.words n r.one_word in
      let back : set s.homes 0 (maybe.some (Some v)) ≡ maybe.some (Some v) ∷ [] = ap (λ l. set l 0 (maybe.some (Some v))) (r.away (omega arith)) in
      let back' : put_back s.homes me.1 ≡ maybe.some (Some v) ∷ [] = ap (put_back s.homes) carries ∙ back in
      let known : names a.number a ≡ 1 = ap one_if (eq-eqb a.number a.number refl) in
      let p = changed by b callers r.story (entries v) r.out 0 s.views (people s r) bit id me.0 at a a' alone refl
      (begins_itself (entries v), refl, λ e. absurd (true≢false (sym e)))
      (λ x n none f. (
        subst (λ l. StartsWith l x.seen) (sym more) (begins_more r.story x.seen new f.0),
        ap (own by x.number) more ∙ own-append by x.number r.story new ∙ ap (λ l. own by x.number r.story ++ l) (own_other by x.number a.number new all_own (λ e. n (sym e))) ∙ append-nil (own by x.number r.story) ∙ f.1,
        (λ e. let q = none holds in let y : has x ≡ 1 = ap one_if e in absurd (omega arith)),
      ))
      (let z : has a' ≡ 0 = refl in omega arith) in
      let inside = named_mine by b callers r.story r.out s.views (people s r) id me.0 at a alone in
      let known_caller : (c : ℕ) → callers ≤ c → a.number ≢ c = λ c le e. absurd (omega arith) in (
        w,
        gives,
        tt,
        record {
          story = entries v;
          out = 0;
          one_word = ws.0;
          one_slot = ap length back';
          word = ws.1 ∙ (omega arith);
          bit = omega arith;
          small = fits;
          home = λ _. (maybe.some (Some v), back', (v, refl, refl, subst (λ o. IfSome o (λ d. kept d v)) (based s r id me.0 at alone) same_base));
          away = λ e. absurd (omega arith);
          bases = p.bases;
          fits = p.fits;
          holders = p.holders;
          named = p.named;
          strangers = λ c le. ap (own by c) more ∙ own-append by c r.story new ∙ ap₂ (λ k l. k ++ l) (r.strangers c le) (own_other by c a.number new all_own (known_caller c le));
        },
        (refl, λ x xs e. ap (λ (y : V). view_of me.0.base (account a.number (entries y) a.missed false ∷ [])) (same_value v x xs (sym carries ∙ e))),
      )

  pub counts : (slots id : ℕ) (me : M) → Alone me.0 → Allows Rule slots id me 0 (λ n. n) (counted entries kept by (step slots 0 0 0 maybe.none) me)
  counts slots id me alone s r wide at small =
      let a : Account E = mine me.0 in let a' = account a.number r.story a.missed a.has in let w = view_of me.0.base (a' ∷ []) in
      let f = fits_mine by b callers r.story r.out s.views (people s r) id me.0 at a alone in
      let p = changed by b callers r.story r.story r.out r.out s.views (people s r) r.bit id me.0 at a a' alone refl (begins_itself r.story, refl, λ _. refl) (λ x n none f. f) refl in
      let word = r.word in let bit = r.bit in
      let same = same_word s.words r.one_word in (
        w,
        keeps,
        tt,
        subst (λ ws. Rule record { words = ws; homes = s.homes; views = set s.views id w }) (sym same)
            (record { story = r.story; out = r.out; one_word = r.one_word; one_slot = r.one_slot; word = r.word; bit = r.bit; small = r.small; home = r.home; away = r.away; bases = p.bases; fits = p.fits; holders = p.holders; named = p.named; strangers = r.strangers }),
        (refl, refl, refl, refl, refl, refl, f.0, f.1, omega arith, λ h. sym (f.2 h)),
      )

  -- the accounts of all seats stand in another order
  rearranged : (s : St) (r : Rule s) (vs : List (View E B)) → Each (Based b) vs → (Each (Fits by r.story) (flat s.views) → Each (Fits by r.story) (flat vs))
      → ((f : Account E → ℕ) → sum_of f (flat vs) ≡ sum_of f (flat s.views)) → Rule record { words = s.words; homes = s.homes; views = vs }
  rearranged s r vs bases fits sums = record {
    story = r.story;
    out = r.out;
    one_word = r.one_word;
    one_slot = r.one_slot;
    word = r.word;
    bit = r.bit;
    small = r.small;
    home = r.home;
    away = r.away;
    bases = bases;
    fits = fits r.fits;
    holders = sums has ∙ r.holders;
    named = λ c. sums (names c) ∙ r.named c;
    strangers = r.strangers;
  }

  halves : (xs : List (Account E)) → front_of xs ++ others_of xs ≡ xs
  halves [] = refl
  halves (x ∷ xs) = refl

  base_of_part : (v : View E B) (xs : List (Account E)) → Based b v → (v.accounts ≡ [] → xs ≡ []) → Based b (view_of v.base xs)
  base_of_part v xs known none = ⊎_elim (λ k. inl k) (λ e. inr (none e)) known

  pub splits : (id : ℕ) (v : View E B) → Splits Rule id v (left_over v) (cut_off v)
  splits id v s r at =
      let P = Fits by r.story in
      let l = left_over v in let q = cut_off v in
      let k = around s.views id v at in let L : List (Account E) = k.front in let R : List (Account E) = k.back in
      let F : List (Account E) = front_of v.accounts in let O : List (Account E) = others_of v.accounts in
      let h : F ++ O ≡ v.accounts = halves v.accounts in
      let known = each_at (Based b) s.views id v r.bases at in
      let vs = set s.views id l in
      let after : flat (vs ++ q ∷ []) ≡ (L ++ (O ++ R)) ++ (F ++ []) = flat_more vs q ∙ ap (λ z. z ++ (F ++ [])) (k.then l) in
      rearranged s r (vs ++ q ∷ [])
      (each_append (Based b) vs (q ∷ []) (each_set (Based b) s.views id l r.bases (base_of_part v O known (λ e. ap others_of e))) (base_of_part v F known (λ e. ap front_of e), tt))
      (λ all. let a = subst (Each P) k.now all in let mid = each_back P L (v.accounts ++ R) a in let own_part = subst (Each P) (sym h) (each_front P v.accounts R mid) in
      subst (Each P) (sym after)
      (each_append P (L ++ (O ++ R)) (F ++ [])
      (each_append P L (O ++ R) (each_front P L (v.accounts ++ R) a) (each_append P O R (each_back P F O own_part) (each_back P v.accounts R mid)))
      (each_append P F [] (each_front P F O own_part) tt)))
      (λ f. let e = ap (sum_of f) after in let n = ap (sum_of f) k.now in let m = ap (sum_of f) h in
      let a1 = sum_append f (L ++ (O ++ R)) (F ++ []) in let a2 = sum_append f L (O ++ R) in let a3 = sum_append f O R in let a4 = sum_append f F [] in
      let b1 = sum_append f L (v.accounts ++ R) in let b2 = sum_append f v.accounts R in let b3 = sum_append f F O in omega arith)

  -- how the accounts stand once one view took in another's
  merged : (s : St) (r : Rule s) (id : ℕ) (v : View E B) (other : ℕ) (w : View E B) → 0 < length v.accounts → get_elem? s.views id ≡ maybe.some v → other ≢ id → get_elem? (set s.views id (joined_view v w)) other ≡ maybe.some w
      → Rule record { words = s.words; homes = s.homes; views = set (set s.views id (joined_view v w)) other (view_of None []) }
  merged s r id v other w some_one at apart there =
      let P = Fits by r.story in
      let j = joined_view v w in let vs = set s.views id j in let none = view_of None [] in
      let k = around s.views id v at in let L : List (Account E) = k.front in let R : List (Account E) = k.back in
      let X : List (Account E) = v.accounts in let Y : List (Account E) = w.accounts in
      let o = around vs other w there in let L' : List (Account E) = o.front in let R' : List (Account E) = o.back in
      let mid : L ++ ((X ++ Y) ++ R) ≡ L' ++ (Y ++ R') = sym (k.then j) ∙ o.now in
      let after : flat (set vs other none) ≡ L' ++ R' = o.then none in
      let known = each_at (Based b) s.views id v r.bases at in
      let theirs : get_elem? s.views other ≡ maybe.some w = sym (set_else s.views id other j apart) ∙ there in
      let their_base = each_at (Based b) s.views other w r.bases theirs in
      let tidy = each_set (Based b) vs other none (each_set (Based b) s.views id j r.bases (inl (⊎_elim (λ e. e) (λ none. let z = ap length none in absurd (omega arith)) known))) (inr refl) in
      rearranged s r (set vs other none) tidy
      (λ all. let a = subst (Each P) k.now all in let back = each_back P L (X ++ R) a in let q = around s.views other w theirs in
      let y = each_front P Y q.back (each_back P q.front (Y ++ q.back) (subst (Each P) q.now all)) in
      let whole = subst (Each P) mid (each_append P L ((X ++ Y) ++ R) (each_front P L (X ++ R) a) (each_append P (X ++ Y) R (each_append P X Y (each_front P X R back) y) (each_back P X R back))) in
      subst (Each P) (sym after) (each_append P L' R' (each_front P L' (Y ++ R') whole) (each_back P Y R' (each_back P L' (Y ++ R') whole))))
      (λ f. let e = ap (sum_of f) after in let n = ap (sum_of f) k.now in let m = ap (sum_of f) mid in
      let a1 = sum_append f L ((X ++ Y) ++ R) in let a2 = sum_append f (X ++ Y) R in let a3 = sum_append f X Y in let a4 = sum_append f L' R' in let a5 = sum_append f L' (Y ++ R') in let a6 = sum_append f Y R' in
      let b1 = sum_append f L (X ++ R) in let b2 = sum_append f X R in omega arith)

  pub joins : (id : ℕ) (v : View E B) (other : ℕ) (w : View E B) → 0 < length v.accounts → Joins Rule id v other w (joined_view v w) (view_of None [])
  joins id v other w some_one s r at apart there = merged s r id v other w some_one at apart there

  new_fits : (n : ℕ) → Each (Fits by []) (newcomers n)
  new_fits zero = tt
  new_fits (suc n) = ((([], refl), refl, (λ e. absurd (true≢false (sym e)))), new_fits n)

  new_has : (n : ℕ) → sum_of has (newcomers {E = E} n) ≡ 0
  new_has zero = refl
  new_has (suc n) = let h = new_has n in omega arith

  new_names : (c n : ℕ) → sum_of (names c) (newcomers {E = E} n) ≡ below c n
  new_names c zero = refl
  new_names c (suc n) = ap (λ k. one_if (eqb n c) + k) (new_names c n)

  pub starts : (x : V) → entries x ≡ [] → kept b x → Rule (opening (0 ∷ []) (Some x ∷ []) (view_of (Some b) (newcomers callers)))
  starts x none is = record {
    story = [];
    out = 0;
    one_word = refl;
    one_slot = refl;
    word = refl;
    bit = omega arith;
    small = omega arith;
    home = λ _. (maybe.some (Some x), refl, (x, refl, none, is));
    away = λ e. absurd (omega arith);
    bases = (inl refl, tt);
    fits = each_append (Fits by []) (newcomers callers) [] (new_fits callers) tt;
    holders = sum_append has (newcomers {E = E} callers) [] ∙ (let h = new_has callers in omega arith);
    named = λ c. sum_append (names c) (newcomers {E = E} callers) [] ∙ (let h = new_names c callers in omega arith);
    strangers = λ c le. refl;
  }

  nobody : (L : List (Account E)) → ((c : ℕ) → sum_of (names c) L ≡ 0) → L ≡ []
  nobody [] none = refl
  nobody (a ∷ L) none = let one : names a.number a ≡ 1 = ap one_if (eq-eqb a.number a.number refl) in let z = none a.number in absurd (omega arith)

  list_of : {X : Type 0} (xs : List X) (x : X) → length xs ≡ 1 → get_elem? xs 0 ≡ maybe.some x → xs ≡ x ∷ []
  list_of [] x e at = absurd (omega arith)
  list_of (y ∷ []) x e at = ap (λ z. z ∷ []) (some-injective y x at)
  list_of (y ∷ z ∷ xs) x e at = absurd (omega arith)

  -- where every caller is here and none has the turn, the value is at home, and all that they know of it holds
  pub closes : (id : ℕ) (v : View E B) (ws : List ℕ) (xs : List (Option V)) → Final (Seen Rule id v) ws xs
      → ((c : ℕ) → c < callers → 0 < sum_of (names c) v.accounts) → sum_of has v.accounts ≡ 0
      → (x : V) × (xs ≡ Some x ∷ []) × kept b x × Each (Fits by (entries x)) v.accounts × ((c : ℕ) → callers ≤ c → own by c (entries x) ≡ []) × (length (entries x) < 2 ^ 62)
  closes id v ws xs (s, seen, words, wide, homes) here free =
      let r : Rule s = seen.0 in let k = around s.views id v seen.1 in let L : List (Account E) = k.front in let R : List (Account E) = k.back in let X : List (Account E) = v.accounts in
      let sums : (f : Account E → ℕ) → sum_of f (flat s.views) ≡ sum_of f L + (sum_of f X + sum_of f R) = λ f. ap (sum_of f) k.now ∙ sum_append f L (X ++ R) ∙ ap (λ z. sum_of f L + z) (sum_append f X R) in
      let only : (c : ℕ) → sum_of (names c) L + sum_of (names c) R ≡ 0 = λ c. let t = sums (names c) in let n = r.named c in
      dite (dec_lt c callers) (λ l. let h = here c l in let o = below-one c callers in omega arith) (λ l. let o = below-le c callers (omega arith) in omega arith) in
      let no_front : L ≡ [] = nobody L (λ c. let o = only c in omega arith) in let no_back : R ≡ [] = nobody R (λ c. let o = only c in omega arith) in
      let t = sums has in let l = ap (sum_of has) no_front in let m = ap (sum_of has) no_back in let hs = r.holders in
      let h = r.home (omega arith) in let x : V = h.2.0 in
      let all = each_front (Fits by r.story) X R (each_back (Fits by r.story) L (X ++ R) (subst (Each (Fits by r.story)) k.now r.fits)) in
      let at : get_elem? s.homes 0 ≡ maybe.some (maybe.some (Some x)) = ap (λ l. get_elem? l 0) h.1 ∙ ap maybe.some h.2.1 in
      let is : entries x ≡ r.story = h.2.2 in
      let one = r.one_slot in (
        x,
        list_of xs (Some x) (omega arith) (homes 0 (Some x) at),
        h.2.3,
        subst (λ z. Each (Fits by z) X) (sym is) all,
        (λ c le. ap (own by c) is ∙ r.strangers c le),
        let sm = r.small in let q = ap length is in omega arith,
      )

module _ {V E B : Type 0} (entries : V → List E) (kept : B → V → Type 0) (by : E → ℕ) (b : B) (callers : ℕ) where
  -- the same, at a seat that is known
  pub gives_at : (slots id : ℕ) (me : Me (Option V) (View E B)) (w : View E B) (v : V) (n : ℕ) → me ≡ (w, (0, Some v) ∷ []) → Alone w → (mine w).has ≡ true → ViewGoesOn entries kept by w v → n ≡ 2 * length (entries v)
      → Allows (Turning entries kept by b callers) slots id me 0 (λ _. n) (λ _. gave entries kept by (step slots 0 n 0 maybe.none) me n)
  gives_at slots id me w v n is alone holds goes_on count =
      subst (λ (m : Me (Option V) (View E B)). Allows (Turning entries kept by b callers) slots id m 0 (λ _. n) (λ _. gave entries kept by (step slots 0 n 0 maybe.none) m n)) (sym is)
      (gives_back entries kept by b callers slots id (w, (0, Some v) ∷ []) v goes_on.0.0 n alone holds refl goes_on.0.1 goes_on.0.2 goes_on.1 goes_on.2 count)

  pub starts_at : (x : V) (xs : List (Option V)) → xs ≡ Some x ∷ [] → entries x ≡ [] → kept b x
      → Turning entries kept by b callers (opening (0 ∷ []) xs (view_of (Some b) (newcomers callers)))
  starts_at x xs is none same = subst (λ l. Turning entries kept by b callers (opening (0 ∷ []) l (view_of (Some b) (newcomers callers)))) (sym is) (starts entries kept by b callers x none same)

  -- the value that comes out at the close
  pub closed : (id : ℕ) (v : View E B) (ws : List ℕ) (xs : List (Option V)) (x : V) (o : Option V) → Final (Seen (Turning entries kept by b callers) id v) ws xs
      → ((c : ℕ) → c < callers → 0 < sum_of (names c) v.accounts) → sum_of has v.accounts ≡ 0
      → get_elem? xs 0 ≡ maybe.some o → o ≡ Some x
      → kept b x × Each (Fits by (entries x)) v.accounts × ((c : ℕ) → callers ≤ c → own by c (entries x) ≡ [])
  closed id v ws xs x o final here free at is =
      let k = closes entries kept by b callers id v ws xs final here free in
      let same : k.0 ≡ x = some_same k.0 x (some-injective (Some k.0) o (sym (ap (λ l. get_elem? l 0) k.1) ∙ at) ∙ is) in
      subst (λ (y : V). kept b y × Each (Fits by (entries y)) v.accounts × ((c : ℕ) → callers ≤ c → own by c (entries y) ≡ [])) same (k.2, k.3, k.4)

  pub some_left : (id : ℕ) (v : View E B) (ws : List ℕ) (xs : List (Option V)) (o : Option V) → Final (Seen (Turning entries kept by b callers) id v) ws xs
      → ((c : ℕ) → c < callers → 0 < sum_of (names c) v.accounts) → sum_of has v.accounts ≡ 0
      → get_elem? xs 0 ≡ maybe.some o → o ≡ None → ⊥
  some_left id v ws xs o final here free at is =
      let k = closes entries kept by b callers id v ws xs final here free in
      none_some k.0 (sym is ∙ sym (some-injective (Some k.0) o (sym (ap (λ l. get_elem? l 0) k.1) ∙ at)))
