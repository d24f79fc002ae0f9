-- Chunks of a list: what they are put together from, and how many there are of one number in an ascending list.
use Rattle.std.proofs.Common.{◌≡◌, ◌≢◌, ℕ, ◌<◌, ◌≤◌, Bool, true, false, cond, List, [], ◌∷◌, length, refl, sym, ap, subst, ◌∙◌, arith}
use Rattle.std.specs.Prelude.{◌==◌, ◌||◌, filter}
use Rattle.std.specs.List.{AllByRecursion, list_any}
use Rattle.std.proofs.Math.Logic.{⊎_elim}
use Rattle.std.proofs.lemmas.Bool.{true≢false, eq-eqb, ne_eqb, cases_eq}
use Rattle.bc_bio.specs.Chunks.{chunks_with, chunk_by, Linked}
use Rattle.bc_compose.specs.OrderedHolds.{Pairs}

-- the neighbours in a chunk go together
pub chunks_linked : {X : Type 0} (together : X → X → Bool) (xs : List X) → AllByRecursion (Linked together) (chunk_by together xs)
chunks_linked together [] = tt
chunks_linked together (x ∷ xs) = with_first together x (chunk_by together xs) (chunks_linked together xs)
  where
    with_first : {X : Type 0} (together : X → X → Bool) (x : X) (chunks : List (List X)) → AllByRecursion (Linked together) chunks → AllByRecursion (Linked together) (chunks_with together x chunks)
    with_first together x [] all = (tt, tt)
    with_first together x ([] ∷ chunks) all = (tt, all)
    with_first together x ((y ∷ ys) ∷ chunks) all =
        (elim (together x y) as (λ (b : Bool). together x y ≡ b → AllByRecursion (Linked together) (cond b ((x ∷ y ∷ ys) ∷ chunks) ((x ∷ []) ∷ (y ∷ ys) ∷ chunks))) [
          | true ↦ λ is. ((is, all.0), all.1)
          | false ↦ λ is. (tt, all)
        ]) refl

module _ {X : Type 0} (number : X → ℕ) (d : ℕ) where
  abbrev together : X → X → Bool
  together x y = number x == number y

  abbrev is_at : X → Bool
  is_at x = number x == d

  -- the chunks with this number
  abbrev pub chunks_at : List (List X) → List (List X)
  chunks_at chunks = filter (λ chunk. list_any (λ x. number x == d) chunk) chunks

  first_chunk : (y : X) (ys : List X) → (zs : List X) × (chunks : List (List X)) × (chunk_by together (y ∷ ys) ≡ (y ∷ zs) ∷ chunks)
  first_chunk y ys = go (chunk_by together ys)
    where
      go : (chunks : List (List X)) → (zs : List X) × (rest : List (List X)) × (chunks_with together y chunks ≡ (y ∷ zs) ∷ rest)
      go [] = ([], [], refl)
      go ([] ∷ chunks) = ([], [] ∷ chunks, refl)
      go ((w ∷ ws) ∷ chunks) =
          (elim (number y == number w) as (λ (b : Bool). (zs : List X) × (rest : List (List X)) × (cond b ((y ∷ w ∷ ws) ∷ chunks) ((y ∷ []) ∷ (w ∷ ws) ∷ chunks) ≡ (y ∷ zs) ∷ rest)) [
            | true ↦ (w ∷ ws, chunks, refl)
            | false ↦ ([], (w ∷ ws) ∷ chunks, refl)
          ])

  abbrev at_most : List X → Type 0
  at_most xs = length (chunks_at (chunk_by together xs)) ≤ cond {A = ℕ} (list_any is_at xs) 1 0

  doubled : (a b c : Bool) → a ≡ b → (a || (b || c)) ≡ (b || c)
  doubled true true c same = refl
  doubled false false c same = refl
  doubled true false c same = absurd (true≢false same)
  doubled false true c same = absurd (true≢false (sym same))

  -- none has a lower number than all
  none_at : (xs : List X) → AllByRecursion (λ x. d < number x) xs → list_any is_at xs ≡ false
  none_at [] all = refl
  none_at (x ∷ xs) all = ap (λ (b : Bool). b || list_any is_at xs) (ne_eqb (number x) d (λ same. let lt = all.0 in omega (arith, same, lt))) ∙ none_at xs all.1

  above : (n : ℕ) (xs : List X) → d < n → AllByRecursion (λ x. n ≤ number x) xs → AllByRecursion (λ x. d < number x) xs
  above n [] less all = tt
  above n (x ∷ xs) less all = (let le = all.0 in omega (arith, less, le), above n xs less all.1)

  -- in an ascending list one chunk at most has this number, and only where an element has it
  pub few_chunks : (xs : List X) → Pairs (λ x y. number x ≤ number y) xs → length (chunks_at (chunk_by (λ x y. number x == number y) xs)) ≤ cond {A = ℕ} (list_any (λ x. number x == d) xs) 1 0
  few_chunks [] ascend = omega arith
  few_chunks (x ∷ []) ascend = elim (number x == d) as (λ (b : Bool). length (cond {A = List (List X)} (b || false) ((x ∷ []) ∷ []) []) ≤ cond {A = ℕ} (b || false) 1 0) [ true ↦ omega arith | false ↦ omega arith ]
  few_chunks (x ∷ y ∷ ys) ascend = ⊎_elim
      (λ (same : number x ≡ number y).
      let r = first_chunk y ys in
      let joined : chunk_by together (x ∷ y ∷ ys) ≡ (x ∷ y ∷ r.0) ∷ r.1 =
      ap (λ (cs : List (List X)). chunks_with together x cs) r.2 ∙ ap (λ (b : Bool). cond b ((x ∷ y ∷ r.0) ∷ r.1) ((x ∷ []) ∷ (y ∷ r.0) ∷ r.1)) (eq-eqb (number x) (number y) same) in
      let is_same : is_at x ≡ is_at y = ap (λ (n : ℕ). n == d) same in
      let as_many : length (chunks_at (chunk_by together (x ∷ y ∷ ys))) ≡ length (chunks_at (chunk_by together (y ∷ ys))) =
      ap (λ (cs : List (List X)). length (chunks_at cs)) joined
      ∙ ap (λ (b : Bool). length (cond {A = List (List X)} b ((x ∷ y ∷ r.0) ∷ chunks_at r.1) (chunks_at r.1))) (doubled (is_at x) (is_at y) (list_any is_at r.0) is_same)
      ∙ longer (list_any is_at (y ∷ r.0)) (x ∷ y ∷ r.0) (y ∷ r.0) (chunks_at r.1)
      ∙ ap (λ (cs : List (List X)). length (chunks_at cs)) (sym r.2) in
      subst (λ (n : ℕ). n ≤ cond {A = ℕ} (list_any is_at (x ∷ y ∷ ys)) 1 0) (sym as_many)
      (subst (λ (b : Bool). length (chunks_at (chunk_by together (y ∷ ys))) ≤ cond {A = ℕ} b 1 0) (sym (doubled (is_at x) (is_at y) (list_any is_at ys) is_same))
      (few_chunks (y ∷ ys) ascend.1)))
      (λ (differ : number x ≢ number y).
      let r = first_chunk y ys in
      let apart : chunk_by together (x ∷ y ∷ ys) ≡ (x ∷ []) ∷ chunk_by together (y ∷ ys) =
      subst (λ (cs : List (List X)). chunks_with together x cs ≡ (x ∷ []) ∷ cs) (sym r.2)
      (ap (λ (b : Bool). cond b ((x ∷ y ∷ r.0) ∷ r.1) ((x ∷ []) ∷ (y ∷ r.0) ∷ r.1)) (ne_eqb (number x) (number y) differ)) in
      subst (λ (cs : List (List X)). length (chunks_at cs) ≤ cond {A = ℕ} (list_any is_at (x ∷ y ∷ ys)) 1 0) (sym apart)
      (by_first (is_at x) refl (y ∷ ys) (few_chunks (y ∷ ys) ascend.1)
      (λ here. let at' = equal (number x) d here in let le = ascend.0.0 in
      let less : d < number y = omega (arith, at', le, differ) in
      none_at (y ∷ ys) (less, above (number y) ys less ascend.1.0))))
      (cases_eq (number x) (number y))
    where
      longer : (b : Bool) (one other : List X) (rest : List (List X)) → length (cond {A = List (List X)} b (one ∷ rest) rest) ≡ length (cond {A = List (List X)} b (other ∷ rest) rest)
      longer true one other rest = refl
      longer false one other rest = refl

      equal : (a b : ℕ) → (a == b) ≡ true → a ≡ b
      equal a b e = ⊎_elim (λ (same : a ≡ b). same) (λ (differ : a ≢ b). absurd (true≢false (sym e ∙ ne_eqb a b differ))) (cases_eq a b)

      by_first : (b : Bool) → is_at x ≡ b → (zs : List X) → at_most zs → (is_at x ≡ true → list_any is_at zs ≡ false)
          → length (chunks_at ((x ∷ []) ∷ chunk_by together zs)) ≤ cond {A = ℕ} (is_at x || list_any is_at zs) 1 0
      by_first true is zs few none =
          let no' : length (chunks_at (chunk_by together zs)) ≤ 0 = subst (λ (b : Bool). length (chunks_at (chunk_by together zs)) ≤ cond {A = ℕ} b 1 0) (none is) few in
          subst (λ (b : Bool). length (cond {A = List (List X)} (b || false) ((x ∷ []) ∷ chunks_at (chunk_by together zs)) (chunks_at (chunk_by together zs))) ≤ cond {A = ℕ} (b || list_any is_at zs) 1 0) (sym is) (omega (arith, no'))
      by_first false is zs few none =
          subst (λ (b : Bool). length (cond {A = List (List X)} (b || false) ((x ∷ []) ∷ chunks_at (chunk_by together zs)) (chunks_at (chunk_by together zs))) ≤ cond {A = ℕ} (b || list_any is_at zs) 1 0) (sym is) few
